-- Zero bytes: from the front, by blocks, in text. Assumes nothing.
use mathlib.Core.Path.{◌≡◌, refl, sym, ap, ap₂, ◌∙◌, subst}
use mathlib.Core.Bool.{Bool, true, false, not, ◌&&◌}
use mathlib.Core.List.{List, [], ◌∷◌, ◌++◌}
use Prim.Native.Nat.{ℕ, zero, suc, ◌+◌, ◌-◌, ◌≤◌, ◌<◌}
use native.Mathlib.Omega.{arith}
use native.Mathlib.Numerals.{add-one}
use lib.ListN.{length, get_or, take, drop, length-drop, length-append}
use lib.Seq.{take_all, take_at}
use lib.Dec.{T, eqb}
use borrow.Author.Tests.{eq-eqb, ne_eqb}
use Rattle.table.specs.Layout.{is_text}
use Rattle.laws.specs.TextLaws.{no_zero}

and_assoc : (x y z : Bool) → (x && (y && z)) ≡ ((x && y) && z)
and_assoc true y z = refl
and_assoc false y z = refl

and-true : (x : Bool) → (x && true) ≡ x
and-true true = refl
and-true false = refl

and-false : (x : Bool) → (x && false) ≡ false
and-false true = refl
and-false false = refl

-- ---- the bytes before a place, and those from there on

split : (i : ℕ) (b : List ℕ) → no_zero b ≡ (no_zero (take i b) && no_zero (drop i b))
split zero b = refl
split (suc i) [] = refl
split (suc i) (x ∷ b) = ap (λ (c : Bool). not (eqb x 0) && c) (split i b) ∙ and_assoc (not (eqb x 0)) (no_zero (take i b)) (no_zero (drop i b))

-- one byte more
module _ (b : List ℕ) (i : ℕ) (h : i < length b) (seen : Bool) (e : seen ≡ not (no_zero (take i b))) where
  next : (i : ℕ) (b : List ℕ) → i < length b → no_zero (take (suc i) b) ≡ (no_zero (take i b) && not (eqb (get_or b i 0) 0))
  next i [] k = absurd (omega arith)
  next zero (x ∷ b) k = and-true (not (eqb x 0))
  next (suc i) (x ∷ b) k =
      ap (λ (c : Bool). not (eqb x 0) && c) (next i b (omega arith)) ∙ and_assoc (not (eqb x 0)) (no_zero (take i b)) (not (eqb (get_or b i 0) 0))

  further : (c : Bool) → eqb (get_or b i 0) 0 ≡ c → no_zero (take (i + 1) b) ≡ (no_zero (take i b) && not c)
  further c q = ap (λ (n : ℕ). no_zero (take n b)) (add-one i) ∙ next i b h ∙ ap (λ (d : Bool). no_zero (take i b) && not d) q

  pub zero-here : get_or b i 0 ≡ 0 → true ≡ not (no_zero (take (i + 1) b))
  zero-here z = sym (ap not (further true (eq-eqb (get_or b i 0) 0 z) ∙ and-false (no_zero (take i b))))

  pub none_here : (get_or b i 0 ≡ 0 → ⊥) → seen ≡ not (no_zero (take (i + 1) b))
  none_here n = e ∙ sym (ap not (further false (ne_eqb (get_or b i 0) 0 n) ∙ and-true (no_zero (take i b))))

-- ---- blocks

no_more : (x : Bool) → true ≡ not x → x ≡ false
no_more true e = e
no_more false e = refl

not-false : (x : Bool) → false ≡ not x → x ≡ true
not-false true e = refl
not-false false e = e

both : (x y : Bool) → (x && y) ≡ true → (x ≡ true) × (y ≡ true)
both true y e = (refl, e)
both false y e = (e, absurd (subst T (sym e) tt))

take_none : (n : ℕ) → ◌≡◌ {A = List ℕ} (take n []) []
take_none zero = refl
take_none (suc n) = refl

-- a zero byte of a block is one of all
pub in_block : (b : List ℕ) (i n : ℕ) → true ≡ not (no_zero (take n (drop i b))) → true ≡ not (no_zero b)
in_block b i n e =
    let block : Bool = no_zero (take n (drop i b)) in
    let here : no_zero (drop i b) ≡ false = split n (drop i b) ∙ ap (λ (c : Bool). c && no_zero (drop n (drop i b))) (no_more block e) in
    sym (ap not (split i b ∙ ap (λ (c : Bool). no_zero (take i b) && c) here ∙ and-false (no_zero (take i b))))

-- none before a block and none of it
pub past-block : (i n : ℕ) (b : List ℕ) → no_zero (take i b) ≡ true → false ≡ not (no_zero (take n (drop i b))) → no_zero (take (i + n) b) ≡ true
past-block zero n b p e = let z : 0 + n ≡ n = omega arith in ap (λ (j : ℕ). no_zero (take j b)) z ∙ not-false (no_zero (take n b)) e
past-block (suc i) n [] p e = ap no_zero (take_none (suc i + n))
past-block (suc i) n (x ∷ b) p e =
    let q = both (not (eqb x 0)) (no_zero (take i b)) p in
    let z : suc i + n ≡ suc (i + n) = omega arith in
    ap (λ (j : ℕ). no_zero (take j (x ∷ b))) z ∙ ap₂ (λ (u v : Bool). u && v) q.0 (past-block i n b q.1 e)

prefix : (m i : ℕ) (b : List ℕ) → m ≤ i → no_zero (take i b) ≡ true → no_zero (take m b) ≡ true
prefix zero i b h p = refl
prefix (suc m) zero b h p = absurd (omega arith)
prefix (suc m) (suc i) [] h p = refl
prefix (suc m) (suc i) (x ∷ b) h p =
    let q = both (not (eqb x 0)) (no_zero (take i b)) p in
    ap₂ (λ (u v : Bool). u && v) q.0 (prefix m i b (omega arith) q.1)

-- what is left is looked at in the last block, which begins no later than it
pub last_block : (b : List ℕ) (i n : ℕ) → no_zero (take i b) ≡ true → length b - n ≤ i
    → no_zero (take (length b - (length b - n)) (drop (length b - n) b)) ≡ no_zero b
last_block b i n p h =
    let m : ℕ = length b - n in
    let before : no_zero (take m b) ≡ true = prefix m i b h p in
    let l : length (drop m b) ≤ length b - m = rw (length-drop m b) (omega arith) in
    ap no_zero (take_all (length b - m) (drop m b) l) ∙ sym (split m b ∙ ap (λ (c : Bool). c && no_zero (drop m b)) before)

-- the same where what was looked at, a block and the rest stand one behind the other
apart : (a b : List ℕ) → no_zero (a ++ b) ≡ (no_zero a && no_zero b)
apart [] b = refl
apart (x ∷ a) b = ap (λ (c : Bool). not (eqb x 0) && c) (apart a b) ∙ and_assoc (not (eqb x 0)) (no_zero a) (no_zero b)

pub past-seen : (a x : List ℕ) → no_zero a ≡ true → false ≡ not (no_zero x) → no_zero (a ++ x) ≡ true
past-seen a x p e = apart a x ∙ ap₂ (λ (u v : Bool). u && v) p (not-false (no_zero x) e)

pub last-seen : (b a r : List ℕ) (n : ℕ) → b ≡ a ++ r → no_zero a ≡ true → length r < n
    → no_zero (take (length b - (length b - n)) (drop (length b - n) b)) ≡ no_zero b
last-seen b a r n d p h =
    let l : length b ≡ length a + length r = ap length d ∙ length-append a r in
    let front : no_zero (take (length a) b) ≡ true = ap (λ (x : List ℕ). no_zero (take (length a) x)) d ∙ ap no_zero (take_at a r (length a) refl) ∙ p in
    last_block b (length a) n front (omega (arith, l, h))

-- ---- text

pub twice : (x : Bool) → not (not x) ≡ x
twice true = refl
twice false = refl

-- a byte behind others
text-by-last : (front : List ℕ) (last : ℕ) → is_text (front ++ (last ∷ [])) ≡ (no_zero front && eqb last 0)
text-by-last [] last = refl
text-by-last (x ∷ []) last = sym (ap (λ (c : Bool). c && eqb last 0) (and-true (not (eqb x 0))))
text-by-last (x ∷ y ∷ front) last =
    ap (λ (c : Bool). not (eqb x 0) && c) (text-by-last (y ∷ front) last) ∙ and_assoc (not (eqb x 0)) (no_zero (y ∷ front)) (eqb last 0)

pub unended : (b front : List ℕ) (last : ℕ) → b ≡ front ++ (last ∷ []) → (last ≡ 0 → ⊥) → eqb last 0 ≡ is_text b
unended b front last e n =
    ne_eqb last 0 n ∙ sym (ap is_text e ∙ text-by-last front last ∙ ap (λ (c : Bool). no_zero front && c) (ne_eqb last 0 n) ∙ and-false (no_zero front))

pub well-ended : (b front : List ℕ) (last : ℕ) → b ≡ front ++ (last ∷ []) → last ≡ 0 → no_zero front ≡ is_text b
well-ended b front last e z = sym (ap is_text e ∙ text-by-last front last ∙ ap (λ (c : Bool). no_zero front && c) (eq-eqb last 0 z) ∙ and-true (no_zero front))
