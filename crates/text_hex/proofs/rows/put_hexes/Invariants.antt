use Rattle.std.proofs.Common.{◌≡◌, ◌++◌, ◌+◌, ◌*◌, length, drop}
use Rattle.text_hex.specs.Hexadecimal.{hexes_of}
use Rattle.text_hex.proofs.rows.put_hexes.Given as goal

-- What is written, and the digits of the bytes that are left.
abbrev pub invariant-loop-b : goal.invariant-loop-b
invariant-loop-b l =
    (length l.text ≡ length l.initial.text + 2 * l.b-index)
    × (l.text ++ hexes_of (drop l.b-index l.x) ≡ l.initial.text ++ hexes_of l.x)
