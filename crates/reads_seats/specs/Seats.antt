-- Where a record stands, as code hands it on. Definitions only.
use Rattle.std.specs.Prelude.{◌≡◌, Bool, true, false, Option, Some, None, List, ℕ, ◌+◌, ◌/◌, ◌%◌, ◌≤◌, length, get_or, eqb}
use Rattle.table.specs.Bytes.{pick, num}
use Rattle.table.specs.Layout.{Layout, Env, base_of, reference_at}
use Rattle.table.specs.FixedLayouts.{layout_of, ssns, info}
use Rattle.table.specs.Rules.{refs_rule}
use Rattle.table.specs.Numbers.{heap_in}
use Rattle.table.specs.Reads as reads
use Rattle.laws.specs.Fields.{image_in}
use Rattle.reader_frame.specs.Bounds.{ListIn}
use Rattle.reader_lists.specs.Lists.{list_fault}
use Rattle.reads_seats.specs.declared.seats.Seat.{Seat}

-- a record at a place, used or not
abbrev pub found : ℕ → Bool → Option Seat
found at used = Some (record { at = at; used = used })

-- the definitions' seat of a record of layout l
abbrev pub as_seat : Layout → Option Seat → reads.Seat
as_seat l None = reads.nowhere
as_seat l (Some s) = reads.seat l s.at s.used

-- a record of n bytes at that place lies in the table
abbrev pub InTable : List ℕ → ℕ → Option Seat → Type 0
InTable t n None = 0 ≤ n
InTable t n (Some s) = s.at + n ≤ length t

unfoldable pub single_at : ℕ → ℕ → Option Seat
single_at n at = pick (eqb n 0) (found at true) None

-- what the reference at r names
unfoldable pub heap_at : List ℕ → ℕ → Option Seat
heap_at t r = pick (eqb (reference_at t r).len 0) None (found (reference_at t r).at true)

unfoldable pub extended_at : List ℕ → ℕ → Option Seat
extended_at t a = pick (eqb (num (image_in ssns t a) 3 2 / 16 % 2) 0) None (heap_at t (a + 60))

unfoldable pub identity_at : List ℕ → ℕ → Option Seat
identity_at t a = pick (eqb (get_or (image_in info t a) 3 0) 2) (heap_at t (a + 110)) None

-- the heap record of the record of kind k at a
unfoldable pub heap_record : List ℕ → ℕ → ℕ → Option Seat
heap_record t k a = pick (eqb k 3) (heap_at t (a + 16)) (pick (eqb k 4) (extended_at t a) (pick (eqb k 7) (identity_at t a) None))

-- and of one of kind k at an owner's seat
unfoldable pub owned_of : List ℕ → ℕ → Option Seat → Option Seat
owned_of t k None = None
owned_of t k (Some s) = pick s.used (heap_record t k s.at) None

-- the kinds whose records refer to a heap record
abbrev pub is_owner : ℕ → Bool
is_owner k = pick (eqb k 3) true (pick (eqb k 4) true (eqb k 7))

-- where that reference stands in a record of kind k; kinds other than these three have none there
abbrev pub nest_at : ℕ → ℕ
nest_at k = pick (eqb k 3) 16 (pick (eqb k 7) 110 60)

-- n bytes from place at on lie in the heap
pub record InHeap (t : List ℕ) (at n : ℕ) : Type 0 where
  pub above : num t 36 4 ≤ at
  pub below : at + n ≤ num t 36 4 + num t 40 4

-- the kinds of heap records
abbrev pub is_heaped : ℕ → Bool
is_heaped k = pick (eqb k 7) true (pick (eqb k 9) true (eqb k 10))

-- a record of layout l at a lies in the table, a heap record in the heap, and if it is used its references pass
pub record Seated (t : List ℕ) (l : Layout) (a : ℕ) (on : Bool) : Type 0 where
  pub within : a + base_of l ≤ length t
  pub heaped : is_heaped l.kind ≡ true → InHeap t a (base_of l)
  pub around : Env
  pub passes : on ≡ true → refs_rule (heap_in t) around t a (image_in l t a) l.refs ≡ 0

-- a record stands there, used or not
abbrev pub Standing : List ℕ → Layout → ℕ → Type 0
Standing t l a = Seated t l a false

-- a seat of kind k
abbrev pub Good : List ℕ → ℕ → reads.Seat → Type 0
Good t k reads.nowhere = 0 ≤ k
Good t k (reads.seat l a on) = (l ≡ layout_of k) × Seated t l a on

-- a heap record of kind k that is there stands so
abbrev pub Held : List ℕ → ℕ → Option Seat → Type 0
Held t k None = 0 ≤ k
Held t k (Some s) = Seated t (layout_of k) s.at true

-- a list of kind k whose entry in the control record stands at c
pub record Listed (t : List ℕ) (k c : ℕ) : Type 0 where
  pub least : 2 ≤ k
  pub most : k ≤ 6
  pub entry : c + 8 ≤ length t
  pub inside : ListIn t c (base_of (layout_of k))
  pub passed : (list_fault k (heap_in t) t c).number ≡ 0
