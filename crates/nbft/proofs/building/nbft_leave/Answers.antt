use Rattle.table.specs.Builder.{leave}
use Rattle.nbft.proofs.BuildLaws.{leave-placed}
use Rattle.c_states.proofs.StateLaws.{shown}
use Rattle.table.specs.declared.State.{State}
use Rattle.nbft.proofs.building.nbft_leave.Goals as goal

pub show-requires : goal.show-requires
show-requires c =
    let a = c.args in
    rw c.leave-step.ensures.0 (leave-placed c.state_of.result a.out.now)

pub returns : goal.returns
returns c =
    let a = c.args in
    shown (λ (s : State). leave s a.out.now) c.state_of.result a.state.now _ _
    c.leave-step.result _ c.state_of.ensures.0 c.leave-step.ensures.0 c.leave-step.ensures.1
    c.show.ensures.0 c.show.ensures.1
