-- Names in a row with a bar between two. Definitions only.
use Rattle.std.specs.Prelude.{List, [], ◌∷◌, ℕ, zero, suc, eqb}
use Rattle.table.specs.Bytes.{pick}

-- what stands behind n bars
abbrev pub behind_bars : ℕ → List ℕ → List ℕ
behind_bars zero bs = bs
behind_bars (suc n) [] = []
behind_bars (suc n) (b ∷ bs) = pick (eqb b 124) (behind_bars n bs) (behind_bars (suc n) bs)

-- 1 of a bar, 0 of any other byte
abbrev pub bars_in : ℕ → ℕ
bars_in b = pick (eqb b 124) 1 0

-- what stands before the first bar
abbrev pub until_bar : List ℕ → List ℕ
until_bar [] = []
until_bar (b ∷ bs) = pick (eqb b 124) [] (b ∷ until_bar bs)

-- name n
unfoldable pub name_at : ℕ → List ℕ → List ℕ
name_at n bs = until_bar (behind_bars n bs)
