-- Laws of an entry: how long it is, and that it is the same by a record's own bytes and by its place in the table. Assumes nothing.
use mathlib.Core.Path.{◌≡◌, refl, sym, ap, ap₂, ◌∙◌}
use mathlib.Core.Bool.{Bool, true, false}
use mathlib.Core.List.{List, ◌++◌}
use Prim.Native.Nat.{ℕ, zero, suc, ◌+◌, ◌-◌, ◌*◌, ◌≤◌}
use native.Mathlib.Omega.{arith}
use lib.ListN.{length, get_or, take, drop, replicate, length-append, length-replicate, replicate-append-replicate}
use lib.Dec.{lit≤}
use Rattle.table.specs.declared.Image.{Image}
use Rattle.table.specs.declared.Place.{Place}
use Rattle.table.specs.Bytes.{part, padded, splice}
use Rattle.table.specs.Layout.{base_of}
use Rattle.table.specs.FixedLayouts.{layout_of, header, control, host, hfi, ssns, security, discovery, info, extended, hfi_extended, no_kind}
use Rattle.table.specs.Reads as reads
use Rattle.table.specs.Reads.{seat, seat_of, shown, image_at, content_at, handed}
use Rattle.laws.specs.ListWalk.{by_layout, base-small}
use Rattle.laws.specs.ImageLaws.{length-image}
use Rattle.layout_kinds.specs.References.{object_refs}
use Rattle.reader.specs.Accepted.{Accepted}
use Rattle.reads_seats.specs.Seats.{Good}
use Rattle.reads_seats.proofs.SeatLaws.{seats-good}
use Rattle.reads_seats.proofs.ReadLaws.{zeros-padded}
use Rattle.reads_seats.proofs.OwnLaws.{image_at-own, whole_at-own}
use Rattle.bytes_writer.proofs.StoreLaws.{splice-join, lent}
use Rattle.bytes_writer.proofs.RecordLaws.{splice_all}
use Rattle.laws.specs.ByteLaws.{length-splice}
use Rattle.reads_whole.specs.Whole.{rows, place_bytes, place_row, places_of, head_of, entry_of, entry_at}
use Rattle.reads_whole.proofs.RowLaws.{rows_long}

-- ---- lengths

pub objects-few : (k : ℕ) → length (object_refs (layout_of k).refs) ≤ 6
unfolding header control host hfi ssns security discovery info extended hfi_extended no_kind
objects-few =
    by_layout (λ l. length (object_refs l.refs) ≤ 6) (lit≤ tt) (lit≤ tt) (lit≤ tt) (lit≤ tt) (lit≤ tt) (lit≤ tt) (lit≤ tt) (lit≤ tt) (lit≤ tt) (lit≤ tt) (lit≤ tt)

pub length-padded : (n : ℕ) (xs : List ℕ) → length xs ≤ n → length (padded n xs) ≡ n
length-padded n xs h =
    let e = length-append xs (replicate (n - length xs) 0) in
    let f = length-replicate {A = ℕ} (n - length xs) 0 in
    omega (arith, e, f, h)

pub length-place : (t : List ℕ) (k : ℕ) (s : reads.Seat) (i : ℕ) → length (place_row t k s i) ≡ 8
unfolding place_row place_bytes
length-place t k s i = refl

pub length-places : (t : List ℕ) (k : ℕ) (s : reads.Seat) → length (places_of t k s) ≡ 48
unfolding places_of
length-places t k s =
    let n = length (object_refs (layout_of k).refs) in
    let l = rows_long (place_row t k s) 8 (length-place t k s) 0 n in
    length-padded 48 (rows (place_row t k s) 0 n) (omega (arith, l, objects-few k))

length-shown : (t : List ℕ) (k a : ℕ) (on : Bool) → length (shown t (layout_of k) a on) ≡ base_of (layout_of k)
length-shown t k a true = length-image (layout_of k).shape.keep _
length-shown t k a false = length-replicate {A = ℕ} (base_of (layout_of k)) 0

pub length-bytes : (t : List ℕ) (k a : ℕ) (on : Bool) → length (padded 128 (shown t (layout_of k) a on)) ≡ 128
length-bytes t k a on = length-padded 128 (shown t (layout_of k) a on) (omega (arith, length-shown t k a on, base-small k))

length-images : (t : List ℕ) (k : ℕ) (s : reads.Seat) → Good t k s → length (image_at t s).bytes ≡ 128
length-images t k reads.nowhere g = length-replicate {A = ℕ} 128 0
length-images t k (seat l a on) g = ap (λ m. length (image_at t (seat m a on)).bytes) g.0 ∙ length-bytes t k a on

pub entry-long : (t : List ℕ) → Accepted t → (k n : ℕ) → length (entry_at t k n) ≡ 184
unfolding entry_at entry_of head_of
entry-long t ok k n =
    let s = seat_of t k n in
    let p = length-append (head_of k n (image_at t s)) ((image_at t s).bytes ++ places_of t k s) in
    let q = length-append (image_at t s).bytes (places_of t k s) in
    omega (arith, p, q, length-images t k s (seats-good t ok n k), length-places t k s)

-- ---- by the record's own bytes

module _ (k : ℕ) (t : List ℕ) (a : ℕ) where
  abbrev own : List ℕ
  own = part t a (base_of (layout_of k))

  row-own : (on : Bool) (i : ℕ) → place_row own k (seat (layout_of k) 0 on) i ≡ place_row t k (seat (layout_of k) a on) i
  unfolding place_row
  row-own on i =
      let q = get_or (object_refs (layout_of k).refs) i 0 in
      ap (λ (w : Place). place_bytes (handed (content_at q (layout_of k).refs) w)) (whole_at-own k t a q on)

  rows-own : (on : Bool) (n m : ℕ) → rows (place_row own k (seat (layout_of k) 0 on)) n m ≡ rows (place_row t k (seat (layout_of k) a on)) n m
  unfolding rows
  rows-own on n zero = refl
  rows-own on n (suc m) = ap₂ (λ (x y : List ℕ). x ++ y) (row-own on n) (rows-own on (n + 1) m)

  pub entry-own : (n : ℕ) (on : Bool) → entry_of own k n (seat (layout_of k) 0 on) ≡ entry_of t k n (seat (layout_of k) a on)
  unfolding entry_of places_of
  entry-own n on =
      ap₂ (λ (i : Image) (r : List ℕ). head_of k n i ++ (i.bytes ++ padded 48 r)) (image_at-own k t a on)
      (rows-own on 0 (length (object_refs (layout_of k).refs)))

-- ---- three lent parts that fill a list of 184 bytes

-- t whose k bytes from a on were lent, and came back as ys
abbrev lent_back : (a k : ℕ) → List ℕ → List ℕ → List ℕ
lent_back a k t ys = take a t ++ (ys ++ drop k (drop a t))

pub parts-laid : (x h i p : List ℕ) → length x ≡ 184 → length h ≡ 8 → length i ≡ 128 → length p ≡ 48
    → lent_back 136 48 (lent_back 8 128 (lent_back 0 8 x h) i) p ≡ h ++ (i ++ p)
parts-laid x h i p lx lh li lp =
    let a : 8 ≡ 0 + length h = omega (arith, lh) in
    let b : 136 ≡ 8 + length i = omega (arith, li) in
    let y : List ℕ = splice x 0 h in
    let s : length y ≡ length x = length-splice x 0 h (omega (arith, lx, lh)) in
    let q = length-append i p in
    let r = length-append h (i ++ p) in
    lent (lent_back 8 128 (lent_back 0 8 x h) i) 136 48 p lp
    ∙ ap₂ (λ (z : List ℕ) (m : ℕ). splice z m p) (lent (lent_back 0 8 x h) 8 128 i li ∙ ap (λ (z : List ℕ). splice z 8 i) (lent x 0 8 h lh)) b
    ∙ splice-join y 8 i p (omega (arith, s, lx, li))
    ∙ ap (λ (m : ℕ). splice y m (i ++ p)) a
    ∙ splice-join x 0 h (i ++ p) (omega (arith, lx, lh))
    ∙ splice_all x (h ++ (i ++ p)) (omega (arith, lx, lh, li, lp, q, r))

-- ---- zeros

pub zeroed : (x y : List ℕ) (n : ℕ) → length x ≡ n → y ≡ splice x 0 (replicate n 0) → y ≡ replicate n 0
zeroed x y n l e = e ∙ splice_all x (replicate n 0) (length-replicate {A = ℕ} n 0 ∙ sym l)

rows-zero : (t : List ℕ) (k n m : ℕ) → rows (place_row t k reads.nowhere) n m ≡ replicate (8 * m) 0
unfolding rows place_row place_bytes
rows-zero t k n zero = refl
rows-zero t k n (suc m) =
    let e : 8 + 8 * m ≡ 8 * suc m = omega arith in
    ap (λ (r : List ℕ). replicate 8 0 ++ r) (rows-zero t k (n + 1) m) ∙ replicate-append-replicate 8 (8 * m) 0 ∙ ap (λ (j : ℕ). replicate j 0) e

places-none : (t : List ℕ) (k : ℕ) → places_of t k reads.nowhere ≡ replicate 48 0
unfolding places_of
places-none t k =
    let n = length (object_refs (layout_of k).refs) in
    ap (padded 48) (rows-zero t k 0 n) ∙ sym (zeros-padded (8 * n) 48 (omega (arith, objects-few k)))

-- behind the head of an entry at no seat there are zeros
pub entry-none : (t : List ℕ) (k n : ℕ) (x h y : List ℕ) → length x ≡ 184 → length h ≡ 8 → h ≡ head_of k n (image_at t reads.nowhere) → y ≡ splice (splice x 0 h) 8 (replicate 176 0)
    → y ≡ entry_of t k n reads.nowhere
unfolding entry_of
entry-none t k n x h y lx lh e f =
    let a : 8 ≡ 0 + length h = omega (arith, lh) in
    let z = length-replicate {A = ℕ} 176 0 in
    let r = length-append h (replicate 176 0) in
    f
    ∙ ap (λ (m : ℕ). splice (splice x 0 h) m (replicate 176 0)) a
    ∙ splice-join x 0 h (replicate 176 0) (omega (arith, lx, lh))
    ∙ splice_all x (h ++ replicate 176 0) (omega (arith, lx, lh, z, r))
    ∙ ap₂ (λ (u v : List ℕ). u ++ v) e (sym (replicate-append-replicate 128 48 0) ∙ ap (λ (v : List ℕ). replicate 128 0 ++ v) (sym (places-none t k)))
