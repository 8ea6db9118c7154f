-- The stores of a record's references, by a table of offsets, lengths and spans. Definitions only.
use Rattle.std.specs.Prelude.{List, [], ◌∷◌, ℕ, zero, suc, ◌+◌, ◌≤◌, ◌<◌, get_or, eqb}
use Rattle.table.specs.Bytes.{pick, Edit, edit}
use Rattle.table.specs.Objects.{ref6}

-- the reference to len bytes at target: 0, 0 for an absent object
abbrev pub ref_num : (target len : ℕ) → List ℕ
ref_num target len = pick (eqb len 0) (ref6 0 0) (ref6 target len)

-- so many stores from number i on: where reference i stands, how long its object is, and the bytes that this takes of the heap, from heap on
unfoldable pub stores_from : (offsets lengths spans : List ℕ) (heap i count : ℕ) → List Edit
stores_from offsets lengths spans heap i zero = []
stores_from offsets lengths spans heap i (suc k) =
    edit (get_or offsets i 0) (ref_num heap (get_or lengths i 0)) ∷ stores_from offsets lengths spans (heap + get_or spans i 0) (i + 1) k

-- so many references that lie in a record of this size, and whose spans don't wrap
pub record Room (count : ℕ) (offsets spans : List ℕ) (size : ℕ) : Type 0 where
  pub few : count ≤ 6
  pub room : (i : ℕ) → i < count → get_or offsets i 0 + 6 ≤ size
  pub short : (i : ℕ) → i < count → get_or spans i 0 ≤ 131072
