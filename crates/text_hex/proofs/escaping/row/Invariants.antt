use Rattle.std.proofs.Common.{ℕ, ◌≡◌, ◌++◌, ◌*◌, ◌≤◌, length, drop}
use Rattle.std.specs.Prelude.{cond}
use Rattle.text_hex.specs.Escapes.{escaped_of, json_of}
use Rattle.text_hex.specs.Hexadecimal.{row_of}
use Rattle.text_hex.proofs.escaping.row.Given as goal

-- What is written, and what is written of the bytes that are left.
abbrev pub invariant-loop-b : goal.invariant-loop-b
invariant-loop-b l =
    let written = λ (b : ℕ). cond l.json (json_of b) (escaped_of b) in
    (length l.text ≤ 6 * l.b-index) × (l.text ++ row_of written (drop l.b-index l.x) ≡ row_of written l.x)
