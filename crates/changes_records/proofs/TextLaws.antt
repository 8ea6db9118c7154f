-- Texts of lines: none where two rows of bytes are the same, one line where they are not; lines one behind the other. Assumes nothing.
use mathlib.Core.Path.{◌≡◌, refl, sym, ap, ap₂, subst, ◌∙◌}
use mathlib.Core.Bool.{Bool, true, false}
use mathlib.Core.List.{List, [], ◌∷◌, ◌++◌, append_assoc, append-nil}
use Prim.Native.Nat.{ℕ, zero, suc, ◌+◌, ◌≤◌, ◌<◌}
use native.Mathlib.Omega.{arith}
use native.Mathlib.Nat.{add-zero}
use lib.ListN.{length, take, drop, length-append, length-take}
use lib.Seq.{length-take-le, take_at}
use lib.Dec.{T, leb, leb→le}
use Rattle.table.specs.Bytes.{pick, same, splice}
use Rattle.table.specs.Layout.{base_of}
use Rattle.table.specs.FixedLayouts.{control, discovery, extended, header, hfi, hfi_extended, host, info, layout_of, no_kind, security, ssns}
use Rattle.table.specs.Reads.{Seat, image_at, nowhere, seat, seat_of, whole_at}
use Rattle.laws.specs.Fields.{Bytes}
use Rattle.laws.specs.ListWalk.{by_layout}
use Rattle.reads_seats.specs.Objects.{object_in}
use Rattle.reads_seats.specs.Seats.{Good}
use Rattle.reads_seats.specs.Told.{image_of}
use Rattle.reads_seats.proofs.ObjectLaws.{seat-place}
use Rattle.reads_seats.proofs.SeatLaws.{seats-good}
use Rattle.reader.specs.Accepted.{Accepted}
use Rattle.changes.specs.Changes.{Line, each, text_of, texts_of, unlike}
use Rattle.changes.specs.ChangeLaws.{unlike-self}
use Rattle.laws.specs.ByteLaws.{same-eq}

pub line-text : (l : Line) → texts_of (l ∷ []) ≡ text_of l
line-text l = append-nil (text_of l)

pub like-text : (x y : List ℕ) (l : Line) → x ≡ y → texts_of (unlike x y l) ≡ []
like-text x y l e = ap (λ (z : List ℕ). texts_of (unlike x z l)) (sym e) ∙ ap texts_of (unlike-self x l)

pub unlike-text : (x y : List ℕ) (l : Line) → (x ≡ y → ⊥) → texts_of (unlike x y l) ≡ text_of l
unlike-text x y l h = go (same x y) refl
  where
    go : (c : Bool) → same x y ≡ c → texts_of (pick c [] (l ∷ [])) ≡ text_of l
    go true d = absurd (h (same-eq x y (rw d tt)))
    go false d = line-text l

pub texts-both : (xs ys : List Line) → texts_of (xs ++ ys) ≡ texts_of xs ++ texts_of ys
texts-both [] ys = refl
texts-both (x ∷ xs) ys = ap (λ (z : List ℕ). text_of x ++ z) (texts-both xs ys) ∙ sym (append_assoc (text_of x) (texts_of xs) (texts_of ys))

-- one offset more
pub each_more : (f : ℕ → List Line) (q m : ℕ) → each f q (suc m) ≡ each f q m ++ f (q + m)
each_more f q zero = append-nil (f q) ∙ ap f (sym (add-zero q))
each_more f q (suc m) =
    let e : suc q + m ≡ q + suc m = omega arith in
    ap (λ (z : List Line). f q ++ z) (each_more f (suc q) m)
    ∙ sym (append_assoc (f q) (each f (suc q) m) (f (suc q + m)))
    ∙ ap (λ (j : ℕ). (f q ++ each f (suc q) m) ++ f j) e

-- the text of one offset more
pub grown : (before : List ℕ) (f : ℕ → List Line) (i : ℕ) {x y z : List ℕ} → x ≡ before ++ texts_of (each f 0 i) → y ≡ texts_of (f i) → z ≡ x ++ y
    → z ≡ before ++ texts_of (each f 0 (i + 1))
grown before f i p q r =
    let e : suc i ≡ i + 1 = omega arith in
    let o : 0 + i ≡ i = omega arith in
    r
    ∙ ap₂ ◌++◌ p q
    ∙ append_assoc before (texts_of (each f 0 i)) (texts_of (f i))
    ∙ ap (λ (l : List ℕ). before ++ l)
    (ap (λ (j : ℕ). texts_of (each f 0 i) ++ texts_of (f j)) (sym o)
    ∙ sym (texts-both (each f 0 i) (f (0 + i)))
    ∙ ap texts_of (sym (each_more f 0 i))
    ∙ ap (λ (j : ℕ). texts_of (each f 0 j)) e)

-- a test has one outcome
pub one-outcome : {b : Bool} → b ≡ true → b ≡ false → ⊥
one-outcome p q = subst (λ (x : Bool). T x) (sym p ∙ q) tt

-- bytes stored at a place, behind those before it
pub spliced-front : (t : List ℕ) (a : ℕ) (bs : List ℕ) → a + length bs ≤ length t → take (a + length bs) (splice t a bs) ≡ take a t ++ bs
spliced-front t a bs h =
    let e : length (take a t ++ bs) ≡ a + length bs = length-append (take a t) bs ∙ ap (λ (n : ℕ). n + length bs) (length-take-le a t (omega arith)) in
    ap (take (a + length bs)) (sym (append_assoc (take a t) bs (drop (a + length bs) t))) ∙ take_at (take a t ++ bs) (drop (a + length bs) t) (a + length bs) e

-- an object is no longer than its reference says, and that has 16 bits
pub object-short : (t : List ℕ) → Bytes t → (k n q : ℕ) → length (object_in t k n q) < 65536
unfolding object_in
object-short t b k n q =
    let p = whole_at t q (seat_of t k n) in
    omega (arith, length-take p.len (drop p.at t), (seat-place t b q (seat_of t k n)).1)

-- no record has more than 128 bytes at base size
base-fits : (k : ℕ) → T (leb (base_of (layout_of k)) 128)
unfolding header control host hfi ssns security discovery info extended hfi_extended no_kind
base-fits = by_layout (λ l. T (leb (base_of l) 128)) tt tt tt tt tt tt tt tt tt tt tt

pub base-most : (k : ℕ) → base_of (layout_of k) ≤ 128
base-most k = leb→le (base_of (layout_of k)) 128 (base-fits k)

-- a record that is there is read at its kind's base size
pub there-len : (t : List ℕ) → Accepted t → (k n : ℕ) → (image_of t k n).answer.number ≡ 0 → (image_of t k n).len ≡ base_of (layout_of k)
unfolding image_of
there-len t ok k n e = go (seat_of t k n) (seats-good t ok n k) e
  where
    go : (s : Seat) → Good t k s → (image_at t s).answer.number ≡ 0 → (image_at t s).len ≡ base_of (layout_of k)
    go nowhere g z = absurd (omega (arith, z))
    go (seat l a on) g z = ap base_of g.0
