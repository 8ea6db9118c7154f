-- What code that reads bytes one by one cites of images: a field is the table's byte, masked; a part stands for the whole; fixed bytes one by one. Assumes nothing.
use Rattle.std.specs.Prelude.{◌≡◌, refl, Bool, true, ◌&&◌, List, [], ◌∷◌, ℕ, zero, suc, ◌+◌, ◌*◌, ◌/◌, ◌%◌, ◌≤◌, ◌<◌, length, get_or, drop, T, ltb, eqb}
use Rattle.std.proofs.Common.{sym, ap, ap₂, ◌∙◌, mod-eq_of_lt, lt_of_lt_of_le, add-one, arith, length-take, length-drop, ext_get_or, get_or-drop, get_or-take, drop-cons, ltb→lt}
use Rattle.table.specs.Bytes.{num, part, pick, same}
use Rattle.table.specs.Layout.{Keep, Layout, base_of, image, low, mod_of, sel}
use Rattle.laws.specs.Lawful.{all_keep, ok_keep}
use Rattle.laws.specs.ByteLaws.{num-suc}
use Rattle.laws.specs.ImageLaws.{image-at, length-image}
use Rattle.laws.specs.Looked.{image-looked}

-- a list of bytes
abbrev pub Bytes : List ℕ → Type 0
Bytes t = (i : ℕ) → get_or t i 0 < 256

-- a record's image, as the table has it
unfoldable pub image_in : Layout → List ℕ → ℕ → List ℕ
image_in l t a = image l.shape.keep (drop a t)

pub length-image_in : (l : Layout) (t : List ℕ) (a : ℕ) → length (image_in l t a) ≡ base_of l
unfolding image_in
length-image_in l t a = length-image l.shape.keep (drop a t)

-- ---- a byte of an image

pub masked : (ks : List Keep) (t : List ℕ) (a j n : ℕ) → T (ltb j (length ks)) → get_or ks j (low 1) ≡ low n → get_or (image ks (drop a t)) j 0 ≡ get_or t (a + j) 0 % n
masked ks t a j n h e =
    image-at ks (drop a t) j (ltb→lt j (length ks) h)
    ∙ ap₂ (λ (x : ℕ) (k : Keep). x % mod_of k (drop a t)) (get_or-drop a t j 0) e

-- a byte of which other bits count as a bit of byte f is 0 or 1
pub masked-if : (ks : List Keep) (t : List ℕ) (a j f d m₀ m₁ : ℕ) → T (ltb j (length ks)) → get_or ks j (low 1) ≡ sel f d m₀ m₁
    → get_or (image ks (drop a t)) j 0 ≡ get_or t (a + j) 0 % pick (eqb (get_or t (a + f) 0 % (2 * d) / d) 0) m₀ m₁
masked-if ks t a j f d m₀ m₁ h e =
    image-at ks (drop a t) j (ltb→lt j (length ks) h)
    ∙ ap₂ (λ (x : ℕ) (k : Keep). x % mod_of k (drop a t)) (get_or-drop a t j 0) e
    ∙ ap (λ (y : ℕ). get_or t (a + j) 0 % pick (eqb (y % (2 * d) / d) 0) m₀ m₁) (get_or-drop a t f 0)

pub whole : (ks : List Keep) (t : List ℕ) (a j : ℕ) → T (ltb j (length ks)) → get_or ks j (low 1) ≡ low 256 → get_or t (a + j) 0 < 256
    → get_or (image ks (drop a t)) j 0 ≡ get_or t (a + j) 0
whole ks t a j h e b = masked ks t a j 256 h e ∙ mod-eq_of_lt b

pub one_byte : (x : List ℕ) (j : ℕ) → num x j 1 ≡ get_or x j 0
one_byte x j = omega (arith, num-suc x j 0)

pub two_bytes : (x : List ℕ) (j : ℕ) → num x j 2 ≡ get_or x j 0 + 256 * get_or x (j + 1) 0
two_bytes x j = omega (arith, num-suc x j 1, num-suc x (j + 1) 0)

-- ---- bytes with one right value

abbrev pub same_at : List ℕ → ℕ → List ℕ → Bool
same_at x a [] = true
same_at x a (b ∷ bs) = eqb (get_or x a 0) b && same_at x (a + 1) bs

part-cons : (x : List ℕ) (a n : ℕ) → a < length x → part x a (suc n) ≡ get_or x a 0 ∷ part x (a + 1) n
part-cons x a n h = rw (drop-cons x a 0 h, add-one a)

pub fixed-at : (x : List ℕ) (a : ℕ) (bs : List ℕ) → a + length bs ≤ length x → same (part x a (length bs)) bs ≡ same_at x a bs
fixed-at x a [] h = refl
fixed-at x a (b ∷ bs) h = rw (part-cons x a (length bs) (omega arith)) (ap (λ (c : Bool). eqb (get_or x a 0) b && c) (fixed-at x (a + 1) bs (omega arith)))

-- ---- a part of the table by its own bytes

pub image-part : (ks : List Keep) (t : List ℕ) (a n : ℕ) → T (all_keep (ok_keep ks) ks) → length ks ≤ n → image ks (part t a n) ≡ image ks (drop a t)
image-part ks t a n k h = image-looked ks (part t a n) (drop a t) k (λ j l e. get_or-take n (drop a t) j 0 (lt_of_lt_of_le l h))

pub num-part : (t : List ℕ) (a n q w : ℕ) → q + w ≤ n → num (part t a n) q w ≡ num t (a + q) w
num-part t a n q zero h = refl
num-part t a n q (suc w) h =
    let z : a + (q + 1) ≡ a + q + 1 = omega arith in
    num-suc (part t a n) q w
    ∙ ap₂ (λ (x y : ℕ). x + 256 * y)
    (get_or-take n (drop a t) q 0 (omega arith) ∙ get_or-drop a t q 0)
    (num-part t a n (q + 1) w (omega arith) ∙ ap (λ (m : ℕ). num t m w) z)
    ∙ sym (num-suc t (a + q) w)

-- a part of a part
pub part-part : (t : List ℕ) (a n q m : ℕ) → q + m ≤ n → part (part t a n) q m ≡ part t (a + q) m
part-part t a n q m h =
    ext_get_or 0 (part (part t a n) q m) (part t (a + q) m) (simp (length-take, length-drop) (omega arith))
    λ j g.
    let k : j < m = omega (arith, simp length-take at g) in
    let e : a + (q + j) ≡ a + q + j = omega arith in
    get_or-take m (drop q (part t a n)) j 0 k
    ∙ get_or-drop q (part t a n) j 0
    ∙ get_or-take n (drop a t) (q + j) 0 (omega arith)
    ∙ get_or-drop a t (q + j) 0
    ∙ ap (λ (i : ℕ). get_or t i 0) e
    ∙ sym (get_or-take m (drop (a + q) t) j 0 k ∙ get_or-drop (a + q) t j 0)
