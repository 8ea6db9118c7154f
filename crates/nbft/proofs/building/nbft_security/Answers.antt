use Rattle.builder_record.specs.Calls.{tell_security}
use Rattle.nbft.proofs.BuildLaws.{security-placed}
use Rattle.c_states.proofs.StateLaws.{shown}
use Rattle.table.specs.declared.State.{State}
use Rattle.nbft.proofs.building.nbft_security.Goals as goal

pub show-requires : goal.show-requires
show-requires c =
    let a = c.args in
    rw c.security-step.ensures.0 (security-placed c.state_of.result
    c.state_of.ensures.1 a.out.now a.told.now a.algorithms.now a.protocols.now a.ciphers.now
    a.groups.now a.hashes.now a.keypath.now)

pub returns : goal.returns
returns c =
    let a = c.args in
    shown (λ (s : State). tell_security s a.out.now a.told.now a.algorithms.now a.protocols.now
    a.ciphers.now a.groups.now a.hashes.now a.keypath.now) c.state_of.result
    a.state.now _ _ c.security-step.result _ c.state_of.ensures.0 c.security-step.ensures.0
    c.security-step.ensures.1 c.show.ensures.0 c.show.ensures.1
