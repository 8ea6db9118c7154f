-- What lies in the heap of an accepted table is a part of the heap. Assumes nothing.
use mathlib.Core.Path.{◌≡◌, ap, ◌∙◌}
use mathlib.Core.List.{List}
use Prim.Native.Nat.{ℕ, ◌+◌, ◌-◌, ◌≤◌, ◌<◌}
use native.Mathlib.Omega.{arith}
use lib.ListN.{length}
use Rattle.table.specs.Bytes.{part, num}
use Rattle.laws.specs.Fields.{part-part}
use Rattle.layout_images.proofs.Laws.{part-long}
use Rattle.reader.specs.Accepted.{Accepted}
use Rattle.reader.proofs.AcceptedLaws.{laid}
use Rattle.reads_seats.specs.Seats.{InHeap}

module _ (t : List ℕ) (ok : Accepted t) (at n : ℕ) (some : 0 < n) (i : InHeap t at n) where
  abbrev heap : List ℕ
  heap = part t (num t 36 4) (num t 40 4)

  pub inside-heap : at - num t 36 4 + n ≤ length heap
  inside-heap = let l = part-long t (num t 36 4) (num t 40 4) ((laid t ok).heap.heap-in (omega (arith, some, i))) in omega (arith, l, i)

  pub part-of-heap : part heap (at - num t 36 4) n ≡ part t at n
  part-of-heap =
      let e : num t 36 4 + (at - num t 36 4) ≡ at = omega (arith, i) in
      part-part t (num t 36 4) (num t 40 4) (at - num t 36 4) n (omega (arith, i)) ∙ ap (λ (m : ℕ). part t m n) e
