use mathlib.Core.Path.{ap, ◌∙◌}
use Prim.Native.Nat.{ℕ, ◌+◌}
use Rattle.table.specs.declared.Need.TheVariants.{Optional}
use Rattle.table.specs.Layout.{reference_at}
use Rattle.reader_references.specs.References.{asked_rule, positions_rule}
use Rattle.reader_rules.proofs.secondary_ref.Goals as goal

pub returns : goal.returns
returns c =
    let a = c.args in
    c.positions_fault.ensures
    ∙ ap (λ (n : ℕ). asked_rule Optional (positions_rule n) a.heap.bytes.now a.heap.from (reference_at a.t.now (a.a + 48))) c.wide-most.ensures.0
