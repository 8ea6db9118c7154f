-- The bytes of a told record before what does not count is taken off. Definitions only.
use Rattle.std.specs.Prelude.{◌≡◌, true, ◌||◌, List, [], ◌∷◌, ◌++◌, ℕ, ◌+◌, ◌*◌, ◌/◌, get_or, eqb}
use Rattle.table.specs.Bytes.{le, splice, edit, apply}
use Rattle.table.specs.Layout.{Shape}

-- the kinds of records that a caller tells
abbrev pub Tellable : ℕ → Type 0
Tellable k = (eqb k 2 || (eqb k 3 || (eqb k 4 || (eqb k 5 || (eqb k 6 || (eqb k 7 || (eqb k 9 || eqb k 10))))))) ≡ true

-- x with what is fixed in a record of this shape and, where it has one, the index n
unfoldable pub stamped : Shape → ℕ → List ℕ → List ℕ
stamped s n x = apply x (s.fixed ++ (edit s.index.at (le s.index.len n) ∷ []))

-- and valid
unfoldable pub marked : Shape → ℕ → List ℕ → List ℕ
marked s n x = let y = stamped s n x in splice y s.flags.at ((get_or y s.flags.at 0 / 2 * 2 + 1) ∷ [])
