use Rattle.builder_record.specs.Calls.{tell_discovery}
use Rattle.nbft.proofs.BuildLaws.{discovery-placed}
use Rattle.c_states.proofs.StateLaws.{shown}
use Rattle.table.specs.declared.State.{State}
use Rattle.nbft.proofs.building.nbft_discovery.Goals as goal

pub show-requires : goal.show-requires
show-requires c =
    let a = c.args in
    rw c.discovery-step.ensures.0 (discovery-placed c.state_of.result
    c.state_of.ensures.1 a.out.now a.told.now a.address.now a.nqn.now)

pub returns : goal.returns
returns c =
    let a = c.args in
    shown (λ (s : State). tell_discovery s a.out.now a.told.now a.address.now a.nqn.now)
    c.state_of.result a.state.now _ _ c.discovery-step.result _ c.state_of.ensures.0
    c.discovery-step.ensures.0 c.discovery-step.ensures.1 c.show.ensures.0 c.show.ensures.1
