-- Bytes: numbers in little endian, and `Holds t a bs`: the list t has bs from place a on. Assumes nothing.
use Rattle.std.specs.Prelude.{◌≡◌, refl, Bool, true, false, not, T, eqb, List, [], ◌∷◌, ◌++◌, ℕ, zero, suc, ◌+◌, ◌-◌, ◌*◌, ◌/◌, ◌%◌, ◌^◌, ◌≤◌, ◌<◌, length, get_or, take, drop}
use Rattle.std.proofs.Common.{sym, ap, ap₂, ◌∙◌, eqb→eq, append_assoc, add-zero, div-lt_iff_lt-mul, zero-lt-suc, pow-suc, mul_comm, add_comm, arith, length-append, length-drop, take-append-drop, length-take-le, drop-drop, get_or-drop, get_or-take, drop_at}
use Rattle.std.proofs.Math.Facts.{and_yes}
use Rattle.std.proofs.Math.Nat.{div-add-mod}
use Rattle.std.proofs.Math.ListN.{get_or-append}
use Rattle.std.proofs.Math.Seq.{take-nil, drop-append_seam, take-append_seam}
use Rattle.std.proofs.lemmas.List.{drop-append-le, take-append-le}
use Rattle.table.specs.Bytes.{le, num, part, pick, same, splice, val}

pub pick_yes {ℓ} : {X : Type ℓ} (c : Bool) (x y : X) → T c → pick c x y ≡ x
pick_yes true x y t = refl
pick_yes false x y t = absurd t

pub pick_no {ℓ} : {X : Type ℓ} (c : Bool) (x y : X) → T (not c) → pick c x y ≡ y
pick_no true x y t = absurd t
pick_no false x y t = refl

-- t has bs from place a on
pub record Holds (t : List ℕ) (a : ℕ) (bs : List ℕ) : Type 0 where
  pub rest : List ℕ
  split : drop a t ≡ bs ++ rest

pub held : {t : List ℕ} {a : ℕ} {bs : List ℕ} (rest : List ℕ) → drop a t ≡ bs ++ rest → Holds t a bs
held rest e = record { rest = rest; split = e }

-- ---- numbers

pub length-le : (n x : ℕ) → length (le n x) ≡ n
length-le zero x = refl
length-le (suc n) x = ap suc (length-le n (x / 256))

pub val-le : (n x : ℕ) → x < 256 ^ n → val (le n x) ≡ x
val-le zero x h = omega arith
val-le (suc n) x h =
    let k : x < 256 * 256 ^ n = rw (pow-suc, mul_comm) at h in
    let q : x / 256 < 256 ^ n = (div-lt_iff_lt-mul (zero-lt-suc 255)).1 (rw (mul_comm 256 (256 ^ n)) at k) in
    rw (val-le n (x / 256) q) (add_comm (x % 256) (256 * (x / 256)) ∙ div-add-mod x 256)

val-suc : (n : ℕ) (xs : List ℕ) → val (take (suc n) xs) ≡ get_or xs 0 0 + 256 * val (take n (drop 1 xs))
val-suc n [] = rw take-nil refl
val-suc n (x ∷ xs) = refl

-- a number's first byte and the rest: what code that reads byte by byte cites, at every width
pub num-suc : (t : List ℕ) (a n : ℕ) → num t a (suc n) ≡ get_or t a 0 + 256 * num t (a + 1) n
num-suc t a n =
    val-suc n (drop a t)
    ∙ ap₂ (λ (x : ℕ) (y : List ℕ). x + 256 * val (take n y)) (get_or-drop a t 0 0 ∙ ap (λ (m : ℕ). get_or t m 0) (add-zero a)) (drop-drop 1 a t)

-- ---- Holds

pub holds-left : (t : List ℕ) (a : ℕ) (xs ys : List ℕ) → Holds t a (xs ++ ys) → Holds t a xs
holds-left t a xs ys h = held (ys ++ h.rest) (h.split ∙ append_assoc xs ys h.rest)

pub holds-right : (t : List ℕ) (a : ℕ) (xs ys : List ℕ) → Holds t a (xs ++ ys) → Holds t (a + length xs) ys
holds-right t a xs ys h =
    held h.rest (sym (drop-drop (length xs) a t) ∙ ap (drop (length xs)) (h.split ∙ append_assoc xs ys h.rest) ∙ drop-append_seam xs (ys ++ h.rest))

pub holds-part : (t : List ℕ) (a : ℕ) (bs : List ℕ) → Holds t a bs → part t a (length bs) ≡ bs
holds-part t a bs h = ap (take (length bs)) h.split ∙ take-append_seam bs h.rest

-- the number that stands at a place where its bytes stand
pub holds-num : (t : List ℕ) (a n x : ℕ) → x < 256 ^ n → Holds t a (le n x) → num t a n ≡ x
holds-num t a n x k h =
    ap (λ (m : ℕ). val (part t a m)) (sym (length-le n x)) ∙ ap val (holds-part t a (le n x) h) ∙ val-le n x k

-- what a part holds, the whole holds
pub holds-in : (t : List ℕ) (a : ℕ) (bs : List ℕ) (p : ℕ) (r : List ℕ) → p ≤ length bs → Holds t a bs → Holds bs p r → Holds t (a + p) r
holds-in t a bs p r k h g =
    held (g.rest ++ h.rest)
    (sym (drop-drop p a t) ∙ ap (drop p) h.split ∙ drop-append-le p bs h.rest k ∙ ap (λ (x : List ℕ). x ++ h.rest) g.split ∙ append_assoc r g.rest h.rest)

holds-here : (xs bs ys : List ℕ) (a : ℕ) → length xs ≡ a → Holds (xs ++ (bs ++ ys)) a bs
holds-here xs bs ys a e = held ys (drop_at xs (bs ++ ys) a e)

pub holds-get_d : (t : List ℕ) (a : ℕ) (bs : List ℕ) → Holds t a bs → (j : ℕ) → j < length bs → get_or t (a + j) 0 ≡ get_or bs j 0
holds-get_d t a bs h j k = sym (get_or-drop a t j 0) ∙ ap (λ (x : List ℕ). get_or x j 0) h.split ∙ get_or-append bs h.rest 0 j k

-- parts that stand side by side
pub holds-join : {t : List ℕ} {a : ℕ} {xs ys : List ℕ} → Holds t a xs → Holds t (a + length xs) ys → Holds t a (xs ++ ys)
holds-join {t} {a} {xs} {ys} h g =
    let e : h.rest ≡ ys ++ g.rest =
    sym (drop-append_seam xs h.rest) ∙ ap (drop (length xs)) (sym h.split) ∙ drop-drop (length xs) a t ∙ g.split in
    held g.rest (h.split ∙ ap (λ (r : List ℕ). xs ++ r) e ∙ sym (append_assoc xs ys g.rest))

-- ---- splice

module _ (t : List ℕ) (a : ℕ) (bs : List ℕ) (k : a + length bs ≤ length t) where
  splice_front : length (take a t) ≡ a
  splice_front = length-take-le a t (omega arith)

  pub length-splice : length (splice t a bs) ≡ length t
  length-splice = simp (length-append, length-drop, splice_front) (omega arith)

  pub splice-here : Holds (splice t a bs) a bs
  splice-here = holds-here (take a t) bs (drop (a + length bs) t) a splice_front

  pub get_d-splice-below : (j : ℕ) → j < a → get_or (splice t a bs) j 0 ≡ get_or t j 0
  get_d-splice-below j h = get_or-append (take a t) (bs ++ drop (a + length bs) t) 0 j (rw splice_front h) ∙ get_or-take a t j 0 h

  pub drop-splice : (q : ℕ) → a + length bs ≤ q → drop q (splice t a bs) ≡ drop q t
  drop-splice q h =
      let n : ℕ = q - (a + length bs) in
      let e : q ≡ a + (length bs + n) = omega arith in
      let e' : q ≡ a + length bs + n = omega arith in
      ap (λ (m : ℕ). drop m (splice t a bs)) e
      ∙ sym (drop-drop (length bs + n) a (splice t a bs))
      ∙ ap (drop (length bs + n)) (drop_at (take a t) (bs ++ drop (a + length bs) t) a splice_front)
      ∙ sym (drop-drop n (length bs) (bs ++ drop (a + length bs) t))
      ∙ ap (drop n) (drop-append_seam bs (drop (a + length bs) t))
      ∙ drop-drop n (a + length bs) t
      ∙ ap (λ (m : ℕ). drop m t) (sym e')

  pub get_d-splice-above : (j : ℕ) → a + length bs ≤ j → get_or (splice t a bs) j 0 ≡ get_or t j 0
  get_d-splice-above j h =
      ap (λ (m : ℕ). get_or (splice t a bs) m 0) (sym (add-zero j))
      ∙ sym (get_or-drop j (splice t a bs) 0 0)
      ∙ ap (λ (x : List ℕ). get_or x 0 0) (drop-splice j h)
      ∙ get_or-drop j t 0 0
      ∙ ap (λ (m : ℕ). get_or t m 0) (add-zero j)

  -- a part that stands wholly behind, or wholly in front of, what is replaced stays
  pub holds-splice-above : (q : ℕ) (r : List ℕ) → a + length bs ≤ q → Holds t q r → Holds (splice t a bs) q r
  holds-splice-above q r h g = held g.rest (drop-splice q h ∙ g.split)

  pub holds-splice-below : (q : ℕ) (r : List ℕ) → q + length r ≤ a → Holds t q r → Holds (splice t a bs) q r
  holds-splice-below q r h g =
      let qa : q ≤ length (take a t) = rw splice_front (omega arith) in
      let e : q + (a - q) ≡ a = omega arith in
      let lr : length r ≤ length (drop q (take a t)) = simp (length-drop, splice_front) (omega arith) in
      let back : drop q t ≡ drop q (take a t) ++ drop a t =
      ap (drop q) (sym (take-append-drop a t)) ∙ drop-append-le q (take a t) (drop a t) qa in
      let front : take (length r) (drop q (take a t)) ≡ r =
      sym (take-append-le (length r) (drop q (take a t)) (drop a t) lr)
      ∙ ap (take (length r)) (sym back)
      ∙ holds-part t q r g in
      let d : List ℕ = drop q (take a t) in
      held (drop (length r) d ++ (bs ++ drop (a + length bs) t))
      (drop-append-le q (take a t) (bs ++ drop (a + length bs) t) qa
      ∙ ap (λ (x : List ℕ). x ++ (bs ++ drop (a + length bs) t)) (sym (take-append-drop (length r) d) ∙ ap (λ (x : List ℕ). x ++ drop (length r) d) front)
      ∙ append_assoc r (drop (length r) d) (bs ++ drop (a + length bs) t))

-- ---- rows of bytes that are the same

pub same-eq : (xs ys : List ℕ) → T (same xs ys) → xs ≡ ys
same-eq [] [] h = refl
same-eq [] (y ∷ ys) h = absurd h
same-eq (x ∷ xs) [] h = absurd h
same-eq (x ∷ xs) (y ∷ ys) h = let z = and_yes (eqb x y) (same xs ys) h in ap₂ ◌∷◌ (eqb→eq x y z.0) (same-eq xs ys z.1)
