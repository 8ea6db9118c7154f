-- What the tests 1 to 9 give where none fails: bounds within which the crates above read records. proofs/Laws.antt shows it (`laid_out`). Definitions only.
use Rattle.std.specs.Prelude.{List, ℕ, ◌+◌, ◌*◌, ◌≤◌, ◌<◌, length, get_or}
use Rattle.table.specs.Bytes.{num}

-- the heap, when there is one, lies in the table
pub record HeapIn (t : List ℕ) : Type 0 where
  pub heap-in : 0 < num t 40 4 → num t 36 4 + num t 40 4 ≤ length t

-- and behind the control record, within 65,536 bytes
pub record HeapFar (t : List ℕ) : Type 0 where
  pub heap-behind : 0 < num t 40 4 → 128 ≤ num t 36 4
  pub heap-short : 0 < num t 40 4 → num t 36 4 + num t 40 4 ≤ 65536

-- a list that is not empty lies in the table, its records long enough; its entry stands at place c
pub record ListIn (t : List ℕ) (c base : ℕ) : Type 0 where
  pub long : 0 < get_or t (c + 7) 0 → base ≤ num t (c + 4) 2
  pub within : 0 < get_or t (c + 7) 0 → num t c 4 + get_or t (c + 7) 0 * num t (c + 4) 2 ≤ length t

pub record LaidOut (t : List ℕ) : Type 0 where
  pub lent : 160 ≤ length t
  pub sized : num t 4 4 ≤ length t
  pub heap : HeapIn t
  pub owner : num t 72 4 + 32 ≤ length t
  pub hfi : ListIn t 80 32
  pub ssns : ListIn t 88 128
  pub security : ListIn t 96 64
  pub discovery : ListIn t 104 32
