use mathlib.Core.Path.{◌≡◌, ap, ◌∙◌}
use mathlib.Core.List.{[], ◌∷◌}
use Prim.Native.Nat.{ℕ, ◌≤◌}
use native.Mathlib.Omega.{arith}
use lib.Dec.{eqb}
use Rattle.table.specs.declared.Found.{Found}
use Rattle.table.specs.Layout.{index, unless}
use Rattle.laws.specs.IndexLaws.{after, first_found, found-more, found-stop, found_by}
use Rattle.laws.specs.ListWalk.{valid_in}
use Rattle.reader_indexes.proofs.Laws.{discovery_found, security_found, primary_found, ssns-names}
use Rattle.reader_indexes.proofs.names.ssns_names.Goals.{After-behind-primary, After-behind-security, After-optional_index-discovery}
use Rattle.reader_indexes.proofs.names.ssns_names.Goals as goal

-- what was found of the discovery index
discovery : (c : After-optional_index-discovery) → c.optional_index-discovery.result ≡ discovery_found c.args.t.now c.args.a
discovery c =
    let t = c.args.t.now in
    c.optional_index-discovery.ensures.0 ∙ ap (λ (n : ℕ). found_by (valid_in t) (unless (eqb n 0) (index 6 n) [])) c.wide.ensures.0

-- behind it, of the security index
secured : (c : After-behind-security) →
    let a = c.args in
    c.optional_index-discovery.result ≡ discovery_found a.t.now a.a →
    (c.behind-security.result ≡ first_found (discovery_found a.t.now a.a) (security_found a.t.now a.a)) × (c.behind-security.result.looks ≤ 2)
secured c found =
    let first = c.optional_index-discovery in
    let security = c.security_index.ensures in (
      found-more found _ c.if-discovery-ne0.false (c.behind-security.ensures ∙ ap (after first.result.looks) security.0),
      omega (arith, ap (λ (f : Found). f.looks) c.behind-security.ensures, first.ensures.1, security.1),
    )

-- and of the primary one
primary : (c : After-behind-primary) →
    let a = c.args in
    (c.behind-security.result ≡ first_found (discovery_found a.t.now a.a) (security_found a.t.now a.a)) × (c.behind-security.result.looks ≤ 2) →
    (c.behind-primary.result ≡ first_found (first_found (discovery_found a.t.now a.a) (security_found a.t.now a.a)) (primary_found a.t.now a.a))
    × (c.behind-primary.result.looks ≤ 3)
primary c s =
    let t = c.args.t.now in
    let own = c.index_fault-own.ensures.0 ∙ ap (λ (n : ℕ). found_by (valid_in t) (index 3 n ∷ [])) c.wide-2.ensures.0 in (
      found-more s.0 _ c.if-security-ne0.false (c.behind-primary.ensures ∙ ap (after c.behind-security.result.looks) own),
      omega (arith, ap (λ (f : Found). f.looks) c.behind-primary.ensures, s.1, c.index_fault-own.ensures.1),
    )

pub returns-then-discovery-ne0 : goal.returns-then-discovery-ne0
returns-then-discovery-ne0 c =
    let at = goal.at.returns-then-discovery-ne0 c in
    let a = c.args in
    let b = c.type_inv.t in (
      found-stop (found-stop (found-stop (discovery at.After-optional_index-discovery) _ c.if-discovery-ne0.true) _ c.if-discovery-ne0.true) _ c.if-discovery-ne0.true ∙ ssns-names a.t.now a.a (λ i. omega (arith, b i)),
      omega (arith, c.optional_index-discovery.ensures.1),
    )

pub returns-then-security-ne0 : goal.returns-then-security-ne0
returns-then-security-ne0 c =
    let at = goal.at.returns-then-security-ne0 c in
    let a = c.args in (
      found-stop (found-stop (secured at.After-behind-security (discovery at.After-optional_index-discovery)).0 _ c.if-security-ne0.true) _ c.if-security-ne0.true ∙ ssns-names a.t.now a.a (λ i. omega (arith, c.type_inv.t i)),
      omega (arith, (secured at.After-behind-security (discovery at.After-optional_index-discovery)).1),
    )

pub behind-primary-requires : goal.behind-primary-requires
behind-primary-requires c =
    let at = goal.at.behind-primary-requires c in
    omega (arith, (secured at.After-behind-security (discovery at.After-optional_index-discovery)).1, c.index_fault-own.ensures.1)

pub returns-then-primary-ne0 : goal.returns-then-primary-ne0
returns-then-primary-ne0 c =
    let at = goal.at.returns-then-primary-ne0 c in
    let a = c.args in (
      found-stop (primary at.After-behind-primary (secured at.After-behind-security (discovery at.After-optional_index-discovery))).0 _ c.if-primary-ne0.true ∙ ssns-names a.t.now a.a (λ i. omega (arith, c.type_inv.t i)),
      omega (arith, (primary at.After-behind-primary (secured at.After-behind-security (discovery at.After-optional_index-discovery))).1),
    )

pub behind-requires : goal.behind-requires
behind-requires c =
    let at = goal.at.behind-requires c in
    omega (arith, (primary at.After-behind-primary (secured at.After-behind-security (discovery at.After-optional_index-discovery))).1, c.secondary_names.ensures.1)

pub returns : goal.returns
returns c =
    let at = goal.at.returns c in
    let a = c.args in
    let rest = c.secondary_names.ensures in (
      found-more (primary at.After-behind-primary (secured at.After-behind-security (discovery at.After-optional_index-discovery))).0 _ c.if-primary-ne0.false (c.behind.ensures ∙ ap (after c.behind-primary.result.looks) rest.0)
          ∙ ssns-names a.t.now a.a (λ i. omega (arith, c.type_inv.t i)),
      omega (arith, ap (λ (f : Found). f.looks) c.behind.ensures, (primary at.After-behind-primary (secured at.After-behind-security (discovery at.After-optional_index-discovery))).1, rest.1),
    )
