-- The groups of an address, and the walk over their zeros. Assumes nothing.
use mathlib.Core.Path.{◌≡◌, refl, sym, ap, ◌∙◌}
use mathlib.Core.Bool.{Bool, true, false, cond}
use mathlib.Core.List.{List, [], ◌∷◌, ◌++◌, append_assoc, append-nil}
use Prim.Native.Nat.{ℕ, zero, suc, ◌+◌, ◌-◌, ◌*◌, ◌≤◌, ◌<◌, max}
use native.Mathlib.Numerals.{add-one}
use native.Mathlib.Nat.{max-eq_left, max-eq_right}
use native.Mathlib.Omega.{arith}
use lib.Dec.{eqb, leb}
use lib.ListN.{length, get_or, take, drop, length-take, drop_of_length-le}
use lib.Seq.{drop-cons}
use borrow.Author.Tests.{leb-true, leb-false, le-leb, lt-leb}
use Rattle.text.specs.Ascii.{ascii}
use Rattle.text_hex.specs.Hexadecimal.{unpadded_of}
use Rattle.text_addresses.specs.Addresses.{groups, behind_colons, colons, zeros_first, longest_run, start_of}
use Rattle.text_addresses.specs.Runs.{first_with, joined, runs_of}
use Rattle.text_addresses.specs.declared.Runs.{Runs}

-- ---- groups

-- half as many groups as bytes
halved : (b : List ℕ) → (length (groups b) * 2 ≤ length b) × (length b ≤ length (groups b) * 2 + 1)
unfolding groups
halved [] = (omega arith, omega arith)
halved (x ∷ []) = (omega arith, omega arith)
halved (x ∷ (y ∷ bs)) = let h = halved bs in (omega arith, omega arith)

pub eight : (b : List ℕ) → length b ≡ 16 → length (groups b) ≡ 8
eight b e = omega (arith, halved b)

pub group-is : (i : ℕ) (b : List ℕ) → i * 2 + 1 < length b → get_or (groups b) i 0 ≡ get_or b (i * 2) 0 * 256 + get_or b (i * 2 + 1) 0
unfolding groups
group-is i [] h = absurd (omega arith)
group-is i (x ∷ []) h = absurd (omega arith)
group-is zero (x ∷ (y ∷ bs)) h = refl
group-is (suc i) (x ∷ (y ∷ bs)) h =
    let e : suc i * 2 ≡ suc (suc (i * 2)) = omega arith in
    let f : suc i * 2 + 1 ≡ suc (suc (i * 2 + 1)) = omega arith in
    rw (f, e) (group-is i bs (omega arith))

-- ---- runs

first_fits : (c : Bool) (n : ℕ) → cond c (n + 1) 0 ≤ n + 1
first_fits true n = omega arith
first_fits false n = omega arith

-- a walk's numbers are no larger than the list
abbrev Fits : Runs → ℕ → Type 0
Fits r n = (r.first ≤ n) × (r.at + r.len ≤ n) × (r.at ≤ n)

fits-step : (c : Bool) (z n : ℕ) (r : Runs) → z ≤ n + 1 → Fits r n
    → Fits (cond c (record { first = z; at = 0; len = z }) (record { first = z; at = r.at + 1; len = r.len })) (n + 1)
fits-step true z n r h f = (h, omega arith, omega arith)
fits-step false z n r h f = (h, omega arith, omega arith)

pub runs_fit : (gs : List ℕ) → Fits (runs_of gs) (length gs)
unfolding runs_of joined
runs_fit [] = (omega arith, omega arith, omega arith)
runs_fit (g ∷ gs) =
    let r = runs_of gs in
    let z = first_with g r.first in
    let h = runs_fit gs in
    rw (← add-one (length gs)) (fits-step (leb r.len z) z (length gs) r (let k = first_fits (eqb g 0) r.first in omega arith) h)

-- and are what the definitions ask for
pub record Right (r : Runs) (gs : List ℕ) : Type 0 where
  pub first : r.first ≡ zeros_first gs
  pub len : r.len ≡ longest_run gs
  pub at : r.at ≡ start_of (longest_run gs) gs

right-step : (c : Bool) (z : ℕ) (gs : List ℕ) (r : Runs) → leb (longest_run gs) z ≡ c → Right r gs
    → let j = cond {A = Runs} c (record { first = z; at = 0; len = z }) (record { first = z; at = r.at + 1; len = r.len }) in
    (j.first ≡ z) × (j.len ≡ max z (longest_run gs)) × (j.at ≡ cond (leb (max z (longest_run gs)) z) 0 (start_of (max z (longest_run gs)) gs + 1))
right-step true z gs r e h =
    let l = leb-true (longest_run gs) z e in
    (refl, sym (max-eq_left l), rw (max-eq_left l, le-leb z z (omega arith)) refl)
right-step false z gs r e h =
    let l = leb-false (longest_run gs) z e in
    let m : z ≤ longest_run gs = omega arith in
    (refl, rw (max-eq_right m) h.len, rw (max-eq_right m, lt-leb (longest_run gs) z l) (ap (λ (n : ℕ). n + 1) h.at))

pub runs-right : (gs : List ℕ) → Right (runs_of gs) gs
unfolding runs_of joined zeros_first longest_run start_of
runs-right [] = record { first = refl; len = refl; at = refl }
runs-right (g ∷ gs) =
    let h = runs-right gs in
    let r = runs_of gs in
    let z = first_with g r.first in
    let k = right-step (leb r.len z) z gs r (rw h.len refl) h in
    let e : z ≡ first_with g (zeros_first gs) = ap (first_with g) h.first in
    let n = longest_run gs in
    record {
      first = k.0 ∙ e;
      len = k.1 ∙ ap (λ (y : ℕ). max y n) e;
      at = k.2 ∙ ap (λ (y : ℕ). cond (leb (max y n) y) 0 (start_of (max y n) gs + 1)) e;
    }

pub runs-next : (gs : List ℕ) (i : ℕ) → 0 < i → i ≤ length gs → runs_of (drop (i - 1) gs) ≡ joined (get_or gs (i - 1) 0) (runs_of (drop i gs))
unfolding runs_of
runs-next gs i h k =
    let e : suc (i - 1) ≡ i = omega arith in
    rw (drop-cons gs (i - 1) 0 (omega arith)) (ap (λ (n : ℕ). joined (get_or gs (i - 1) 0) (runs_of (drop n gs))) e)

-- ---- what is written of bytes, and of groups

pub quad-behind : (t a b c d : List ℕ) → t ++ a ++ ascii "." ++ b ++ ascii "." ++ c ++ ascii "." ++ d ≡ t ++ (a ++ ascii "." ++ b ++ ascii "." ++ c ++ ascii "." ++ d)
quad-behind t a b c d = simp append_assoc

module _ (xs gs : List ℕ) (i to : ℕ) (few : to ≤ length gs) where
  within : i < to → i < length (take to gs)
  within h = simp length-take (omega arith)

  pub colon-step : i < to → xs ++ behind_colons (drop i (take to gs)) ≡ xs ++ ascii ":" ++ unpadded_of (get_or (take to gs) i 0) ++ behind_colons (drop (i + 1) (take to gs))
  unfolding behind_colons
  colon-step h = rw (add-one i, drop-cons (take to gs) i 0 (within h)) (simp append_assoc)

  pub group-step : i < to → xs ++ colons (drop i (take to gs)) ≡ xs ++ unpadded_of (get_or (take to gs) i 0) ++ behind_colons (drop (i + 1) (take to gs))
  unfolding colons
  group-step h = rw (add-one i, drop-cons (take to gs) i 0 (within h)) (simp append_assoc)

  none_left : to ≤ i → drop i (take to gs) ≡ []
  none_left h = drop_of_length-le (take to gs) {i = i} (simp length-take (omega arith))

  pub colon-end : to ≤ i → xs ++ behind_colons (drop i (take to gs)) ≡ xs
  unfolding behind_colons
  colon-end h = rw (none_left h) (append-nil xs)

  pub group-end : to ≤ i → xs ++ colons (drop i (take to gs)) ≡ xs
  unfolding colons
  group-end h = rw (none_left h) (append-nil xs)
