-- Laws of entries kind after kind, of which so many are written as there is room for. Assumes nothing.
use mathlib.Core.Path.{◌≡◌, refl, sym, ap, ap₂, ◌∙◌}
use mathlib.Core.Bool.{Bool, true, false}
use mathlib.Core.List.{List, [], ◌++◌, append-nil}
use Prim.Native.Nat.{ℕ, min, suc, ◌+◌, ◌-◌, ◌*◌, ◌≤◌, ◌<◌}
use native.Mathlib.Nat.{zero-add}
use native.Mathlib.Omega.{arith}
use lib.ListN.{length, take, drop, length-append, length-drop}
use lib.Seq.{take-add, take_all, drop-drop, drop-length, length-take-le}
use lib.Dec.{leb, eqb, lit≤}
use borrow.Author.Tests.{leb-true, leb-false, lt-leb, ne_eqb}
use Rattle.table.specs.Bytes.{splice}
use Rattle.bytes_writer.proofs.StoreLaws.{splice-next}
use Rattle.reader.specs.Accepted.{Accepted}
use Rattle.reads_seats.specs.Told.{count_of}
use Rattle.reads_whole.specs.Whole.{rows, entry_at, list_kind, first_of, many_of, left_of, entries_of, number_of, least}
use Rattle.reads_whole.proofs.EntryLaws.{entry-long}
use Rattle.reads_whole.proofs.RowLaws.{rows_long, rows_take, rows_drop}

-- the smaller of two numbers, by cases
by-least : {P : Type 0} (a b : ℕ) → (a ≤ b → least a b ≡ a → P) → (b < a → least a b ≡ b → P) → P
unfolding least
by-least {P} a b f g = go (leb a b) refl where
  go : (c : Bool) → leb a b ≡ c → P
  go true e = f (leb-true a b e) (rw e refl)
  go false e = g (leb-false a b e) (rw e refl)

pub min-least : (a b : ℕ) → min a b ≡ least a b
min-least a b = by-least a b (λ h e. omega (arith, e)) (λ h e. omega (arith, h, e))

pub least-le : (a b : ℕ) → least a b ≤ a
least-le a b = by-least a b (λ h e. omega (arith, e)) (λ h e. omega (arith, h, e))

-- a kind that has some position at or behind its first is one of those that are
pub kind-there : (t : List ℕ) (k n : ℕ) → first_of k ≤ n → (left_of t k n ≡ 0 → ⊥) → k ≤ 10
unfolding left_of first_of many_of list_kind count_of
kind-there t k n h some = go (leb k 10) refl where
  go : (c : Bool) → leb k 10 ≡ c → k ≤ 10
  go true e = leb-true k 10 e
  go false e =
      let b : 10 < k = leb-false k 10 e in
      let two = lt-leb k 2 (omega (arith, b)) in
      let first : 1 ≤ n = rw two at h in
      let not : (m : ℕ) → m ≤ 10 → eqb k m ≡ false = λ m l. ne_eqb k m (λ q. omega (arith, b, l, q)) in
      let none : left_of t k n ≡ 0 =
      rw (two, not 7 (lit≤ tt), not 9 (lit≤ tt), not 10 (lit≤ tt), not 3 (lit≤ tt), not 4 (lit≤ tt), not 5 (lit≤ tt), not 6 (lit≤ tt)) (omega (arith, first)) in
      absurd (some none)

-- one kind more
pub entries-more : (t : List ℕ) (k n m : ℕ) → 0 < m → entries_of t k n m ≡ rows (entry_at t k) n (left_of t k n) ++ entries_of t (k + 1) (first_of (k + 1)) (m - 1)
unfolding entries_of
entries-more t k n m h = let e : m ≡ suc (m - 1) = omega arith in ap (entries_of t k n) e

pub number_more : (t : List ℕ) (k n m : ℕ) → 0 < m → number_of t k n m ≡ left_of t k n + number_of t (k + 1) (first_of (k + 1)) (m - 1)
unfolding number_of
number_more t k n m h = let e : m ≡ suc (m - 1) = omega arith in ap (number_of t k n) e

-- all bytes of x from a on were lent, and came back with rs in front
pub tail-laid : (x ys rs : List ℕ) (a : ℕ) → a ≤ length x → ys ≡ splice (take (length x - a) (drop a x)) 0 rs
    → take a x ++ (ys ++ drop (length x - a) (drop a x)) ≡ splice x a rs
tail-laid x ys rs a h e =
    let n = length x - a in
    let all : take n (drop a x) ≡ drop a x = take_all n (drop a x) (omega (arith, length-drop a x)) in
    let end : a + n ≡ length x = omega (arith, h) in
    let none : drop n (drop a x) ≡ [] = drop-drop n a x ∙ ap (λ (m : ℕ). drop m x) end ∙ drop-length x in
    let from : drop (0 + length rs) (drop a x) ≡ drop (a + length rs) x =
    ap (λ (m : ℕ). drop m (drop a x)) (zero-add (length rs)) ∙ drop-drop (length rs) a x in
    ap₂ (λ (u v : List ℕ). take a x ++ (u ++ v)) (e ∙ ap (λ (r : List ℕ). splice r 0 rs) all) none
    ∙ ap (λ (u : List ℕ). take a x ++ u) (append-nil (splice (drop a x) 0 rs) ∙ ap (λ (v : List ℕ). rs ++ v) from)

-- a turn of the loop over the kinds: `total` entries of the whole are passed, `written` of them are there; of the `left` of this kind `fits` have room
module _ (t : List ℕ) (ok : Accepted t) (k n left : ℕ) (later whole : List ℕ) (total written room fits : ℕ)
    (seen : written ≡ least total room) (some : fits ≡ least left (room - written))
    (within : 184 * total ≤ length whole) (ahead : drop (184 * total) whole ≡ rows (entry_at t k) n left ++ later) where
  abbrev each : (i : ℕ) → length (entry_at t k i) ≡ 184
  each = entry-long t ok k

  total-more : 184 * (total + left) ≤ length whole
  total-more =
      let e = ap length ahead ∙ length-append (rows (entry_at t k) n left) later in
      omega (arith, e, length-drop (184 * total) whole, rows_long (entry_at t k) 184 each n left, within)

  ahead_more : drop (184 * (total + left)) whole ≡ later
  ahead_more =
      let e : 184 * (total + left) ≡ 184 * total + 184 * left = omega arith in
      ap (λ (m : ℕ). drop m whole) e ∙ sym (drop-drop (184 * left) (184 * total) whole) ∙ ap (drop (184 * left)) ahead ∙ rows_drop (entry_at t k) 184 each n left later

  written-more : written + fits ≡ least (total + left) room
  written-more =
      by-least total room
      (λ h e. by-least left (room - written)
      (λ h' e'. by-least (total + left) room (λ h'' e''. omega (arith, seen, some, e, e', e'')) (λ h'' e''. omega (arith, seen, some, e, e', e'')))
      (λ h' e'. by-least (total + left) room (λ h'' e''. omega (arith, seen, some, e, e', e'')) (λ h'' e''. omega (arith, seen, some, e, e', e''))))
      (λ h e. by-least left (room - written)
      (λ h' e'. by-least (total + left) room (λ h'' e''. omega (arith, seen, some, e, e', e'')) (λ h'' e''. omega (arith, seen, some, e, e', e'')))
      (λ h' e'. by-least (total + left) room (λ h'' e''. omega (arith, seen, some, e, e', e'')) (λ h'' e''. omega (arith, seen, some, e, e', e''))))

  -- what this kind adds is what stands there in the whole
  added : rows (entry_at t k) n fits ≡ take (184 * fits) (drop (184 * written) whole)
  unfolding rows
  added =
      by-least total room
      (λ h e.
      let w : total ≡ written = omega (arith, seen, e) in
      let few : fits ≤ left = by-least left (room - written) (λ h' e'. omega (arith, some, e')) (λ h' e'. omega (arith, some, e')) in
      sym (rows_take (entry_at t k) 184 each n fits left later few) ∙ ap (take (184 * fits)) (sym ahead ∙ ap (λ (m : ℕ). drop (184 * m) whole) w))
      (λ h e.
      let none : fits ≡ 0 = by-least left (room - written) (λ h' e'. omega (arith, seen, some, e, e')) (λ h' e'. omega (arith, seen, some, e, e')) in
      rw none refl)

  bytes-more : (d x y : List ℕ) → 184 * room ≤ length d → x ≡ splice d 0 (take (184 * written) whole) → y ≡ splice x (184 * written) (rows (entry_at t k) n fits)
      → y ≡ splice d 0 (take (184 * (written + fits)) whole)
  bytes-more d x y long e f =
      let w : (written ≤ total) × (written ≤ room) = by-least total room (λ h g. omega (arith, seen, g)) (λ h g. omega (arith, seen, g)) in
      let l = length-take-le (184 * written) whole (omega (arith, within, w)) in
      let s : 184 * (written + fits) ≡ 184 * written + 184 * fits = omega arith in
      splice-next d x y 0 (184 * written) (take (184 * written) whole) (rows (entry_at t k) n fits) (omega (arith, l, w, long)) (omega (arith, l)) e f
      ∙ ap (splice d 0) (ap (λ (r : List ℕ). take (184 * written) whole ++ r) added ∙ sym (ap (λ (m : ℕ). take m whole) s ∙ take-add (184 * written) (184 * fits) whole))

  -- the same of what is passed then
  pub kinds-turn : (184 * (total + left) ≤ length whole) × (drop (184 * (total + left)) whole ≡ later) × (written + fits ≡ least (total + left) room)
      × ((d x y : List ℕ) → 184 * room ≤ length d → x ≡ splice d 0 (take (184 * written) whole) → y ≡ splice x (184 * written) (rows (entry_at t k) n fits)
      → y ≡ splice d 0 (take (184 * (written + fits)) whole))
  kinds-turn = (total-more, ahead_more, written-more, bytes-more)
