use mathlib.Core.Path.{ap, ◌∙◌}
use mathlib.Core.List.{[], ◌∷◌}
use Prim.Native.Nat.{ℕ}
use native.Mathlib.Omega.{arith}
use Rattle.table.specs.Layout.{index}
use Rattle.laws.specs.IndexLaws.{found_by}
use Rattle.laws.specs.ListWalk.{valid_in}
use Rattle.reader_indexes.proofs.Laws.{security-off, security-on}
use borrow.Author.Rules.{rules}
use Rattle.reader_indexes.proofs.names.security_index.Goals as goal

pub returns-then-ssns_flags-eq0 : goal.returns-then-ssns_flags-eq0
returns-then-ssns_flags-eq0 c =
    (security-off c.args.t.now c.args.a (rw c.ssns_flags.ensures at c.if-ssns_flags-eq0.true), search rules)

pub returns : goal.returns
returns c =
    let t = c.args.t.now in
    let a = c.args.a in
    let read = ap (λ (n : ℕ). found_by (valid_in t) (index 5 n ∷ [])) c.wide.ensures.0 in (
      c.index_fault.ensures.0
          ∙ read
          ∙ security-on t a (λ i. omega (arith, c.type_inv.t i)) (rw c.ssns_flags.ensures at c.if-ssns_flags-eq0.false),
      c.index_fault.ensures.1,
    )
