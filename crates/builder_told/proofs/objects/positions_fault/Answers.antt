use mathlib.Core.Path.{sym, ap, ◌∙◌}
use mathlib.Core.Bool.{Bool}
use Prim.Native.Nat.{ℕ}
use Rattle.table.specs.Bytes.{pick}
use Rattle.builder_told.proofs.objects.positions_fault.Goals as goal

pub returns-then-not-are_positions : goal.returns-then-not-are_positions
returns-then-not-are_positions c =
    let asked = c.are_positions in
    ap (λ (b : Bool). pick {X = ℕ} b 0 20) (sym c.if-not-are_positions.true ∙ asked.ensures)

pub returns : goal.returns
returns c =
    let asked = c.are_positions in
    ap (λ (b : Bool). pick {X = ℕ} b 0 20) (sym c.if-not-are_positions.false ∙ asked.ensures)
