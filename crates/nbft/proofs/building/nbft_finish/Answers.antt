use Rattle.table.specs.Builder.{finish}
use Rattle.nbft.proofs.BuildLaws.{finish-placed}
use Rattle.c_states.proofs.StateLaws.{shown}
use Rattle.table.specs.declared.State.{State}
use native.Mathlib.Omega.{arith}
use Rattle.nbft.proofs.building.nbft_finish.Goals as goal

pub show-requires : goal.show-requires
show-requires c =
    let a = c.args in
    rw c.finish-step.ensures.0 (finish-placed c.state_of.result a.out.now
    (λ i. omega (arith, c.slice_known-1.given i)))

pub returns : goal.returns
returns c =
    let a = c.args in
    shown (λ (s : State). finish s a.out.now) c.state_of.result a.state.now _ _
    c.finish-step.result _ c.state_of.ensures.0 c.finish-step.ensures.0 c.finish-step.ensures.1
    c.show.ensures.0 c.show.ensures.1
