use mathlib.Core.Path.{◌≡◌, ap, ◌∙◌}
use mathlib.Core.List.{[], ◌∷◌}
use Prim.Native.Nat.{ℕ, ◌+◌}
use native.Mathlib.Omega.{arith}
use lib.ListN.{get_or}
use lib.Dec.{eqb}
use Rattle.table.specs.declared.Found.{Found}
use Rattle.table.specs.Layout.{index, unless}
use Rattle.laws.specs.IndexLaws.{after, found-more, found-stop, found_by}
use Rattle.laws.specs.ListWalk.{valid_in}
use Rattle.reader_indexes.proofs.Laws.{discovery-names}
use Rattle.reader_indexes.proofs.names.discovery_names.Goals.{After-index_fault-interface}
use Rattle.reader_indexes.proofs.names.discovery_names.Goals as goal

-- what was found of the HFI index
interface : (c : After-index_fault-interface) →
    let t = c.args.t.now in
    c.index_fault-interface.result ≡ found_by (valid_in t) (index 3 (get_or t (c.args.a + 3) 0) ∷ [])
interface c =
    let t = c.args.t.now in
    c.index_fault-interface.ensures.0 ∙ ap (λ (n : ℕ). found_by (valid_in t) (index 3 n ∷ [])) c.wide.ensures.0

pub returns-then-interface-ne0 : goal.returns-then-interface-ne0
returns-then-interface-ne0 c =
    let t = c.args.t.now in (
      found-stop (interface (goal.at.returns-then-interface-ne0 c).After-index_fault-interface) _ c.if-interface-ne0.true ∙ discovery-names t c.args.a (λ i. omega (arith, c.type_inv.t i)),
      omega (arith, c.index_fault-interface.ensures.1),
    )

pub returns : goal.returns
returns c =
    let t = c.args.t.now in
    let security = c.optional_index-security.ensures.0 ∙ ap (λ (n : ℕ). found_by (valid_in t) (unless (eqb n 0) (index 5 n) [])) c.wide-2.ensures.0 in (
      found-more (interface (goal.at.returns c).After-index_fault-interface) _ c.if-interface-ne0.false (c.behind.ensures ∙ ap (after c.index_fault-interface.result.looks) security)
          ∙ discovery-names t c.args.a (λ i. omega (arith, c.type_inv.t i)),
      omega (arith, ap (λ (f : Found). f.looks) c.behind.ensures, c.index_fault-interface.ensures.1, c.optional_index-security.ensures.1),
    )
