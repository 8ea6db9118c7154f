use mathlib.Core.Bool.{not}
use lib.Dec.{eqb}
use Rattle.builder_record.specs.Calls.{tell_hfi}
use Rattle.nbft.proofs.BuildLaws.{hfi-placed}
use Rattle.c_states.proofs.StateLaws.{shown}
use Rattle.table.specs.declared.State.{State}
use Rattle.nbft.proofs.building.nbft_hfi.Goals as goal

pub show-requires : goal.show-requires
show-requires c =
    let a = c.args in
    rw c.hfi-step.ensures.0 (hfi-placed c.state_of.result c.state_of.ensures.1
    a.out.now a.told.now a.info.now a.name.now (not (eqb a.extended_told 0)) a.extended.now a.iaid.now a.duid.now)

pub returns : goal.returns
returns c =
    let a = c.args in
    shown (λ (s : State). tell_hfi s a.out.now a.told.now a.info.now a.name.now (not (eqb a.extended_told 0)) a.extended.now a.iaid.now a.duid.now)
    c.state_of.result a.state.now _ _ c.hfi-step.result _ c.state_of.ensures.0
    c.hfi-step.ensures.0 c.hfi-step.ensures.1 c.show.ensures.0 c.show.ensures.1
