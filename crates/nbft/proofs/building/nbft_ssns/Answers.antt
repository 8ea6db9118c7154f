use Rattle.builder_record.specs.Calls.{tell_ssns}
use Rattle.nbft.proofs.BuildLaws.{ssns-placed}
use Rattle.c_states.proofs.StateLaws.{shown}
use Rattle.table.specs.declared.State.{State}
use Rattle.nbft.proofs.building.nbft_ssns.Goals as goal

pub show-requires : goal.show-requires
show-requires c =
    let a = c.args in
    rw c.ssns-step.ensures.0 (ssns-placed c.state_of.result c.state_of.ensures.1
    a.out.now a.told.now a.address.now a.service.now a.others.now a.nqn.now a.extended.now
    a.path.now)

pub returns : goal.returns
returns c =
    let a = c.args in
    shown (λ (s : State). tell_ssns s a.out.now a.told.now a.address.now a.service.now a.others.now
    a.nqn.now a.extended.now a.path.now) c.state_of.result a.state.now _ _
    c.ssns-step.result _ c.state_of.ensures.0 c.ssns-step.ensures.0 c.ssns-step.ensures.1
    c.show.ensures.0 c.show.ensures.1
