use Rattle.nbft.proofs.BuildLaws.{begin-placed}
use Rattle.c_states.proofs.StateLaws.{shown}
use Rattle.table.specs.declared.State.{State}
use Rattle.builder_begin.specs.Begins.{begin_with}
use mathlib.Core.List.{List, [], ◌∷◌}
use mathlib.Core.Path.{ap, ◌∙◌}
use Prim.Native.Nat.{ℕ}
use Rattle.nbft.proofs.building.nbft_begin.Goals as goal

pub show-requires : goal.show-requires
show-requires c =
    let a = c.args in
    let c4 = c.counts_of.result in
    rw c.begin-step.ensures.0 (begin-placed c.state_of.result a.out.now
    a.header.now (c4.hfi ∷ c4.ssns ∷ c4.security ∷ c4.discovery ∷ []) a.signature.now)

pub returns : goal.returns
returns c =
    let a = c.args in
    shown (λ (s : State). begin_with s a.out.now a.header.now a.counts.now a.signature.now)
    c.state_of.result a.state.now _ _ c.begin-step.result _ c.state_of.ensures.0
    (c.begin-step.ensures.0
    ∙
    ap (λ (cs : List ℕ). (begin_with c.state_of.result a.out.now a.header.now cs a.signature.now).step)
    c.counts_of.ensures) (c.begin-step.ensures.1
    ∙ ap (λ (cs : List ℕ). (begin_with c.state_of.result a.out.now a.header.now cs
    a.signature.now).buffer) c.counts_of.ensures) c.show.ensures.0 c.show.ensures.1
