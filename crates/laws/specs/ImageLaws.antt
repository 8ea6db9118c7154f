-- Laws of a record's image. Assumes nothing.
use Rattle.std.specs.Prelude.{◌≡◌, refl, Bool, true, false, ◌&&◌, List, [], ◌∷◌, ℕ, zero, suc, ◌*◌, ◌/◌, ◌%◌, ◌<◌, length, get_or, T, ltb, eqb}
use Rattle.std.proofs.Common.{sym, ap, ap₂, ◌∙◌, le_of_suc-le-suc, not-suc-le-zero, ext_get_or, ltb→lt, eqb→eq}
use Rattle.std.proofs.Math.Nat.{zero-mod, mod-mod, mod-mod_of_dvd, dvd_of_mod-eq-zero}
use Rattle.std.proofs.Math.Facts.{and_yes}
use Rattle.table.specs.Bytes.{pick}
use Rattle.table.specs.Layout.{Keep, image, kept, low, mod_of, sel}
use Rattle.laws.specs.Lawful.{all_keep, bot_of, ok_keep, top_of}

pub all-at : (f : Keep → Bool) (ks : List Keep) → T (all_keep f ks) → (j : ℕ) → j < length ks → T (f (get_or ks j (low 1)))
all-at f [] t j h = absurd (not-suc-le-zero h)
all-at f (k ∷ ks) t zero h = (and_yes (f k) (all_keep f ks) t).0
all-at f (k ∷ ks) t (suc j) h = all-at f ks (and_yes (f k) (all_keep f ks) t).1 j (le_of_suc-le-suc h)

length-kept : (w : List ℕ) (ks : List Keep) (xs : List ℕ) → length (kept w ks xs) ≡ length ks
length-kept w [] xs = refl
length-kept w (k ∷ ks) [] = ap suc (length-kept w ks [])
length-kept w (k ∷ ks) (x ∷ xs) = ap suc (length-kept w ks xs)

pub length-image : (ks : List Keep) (x : List ℕ) → length (image ks x) ≡ length ks
unfolding image
length-image ks x = length-kept x ks x

kept_at : (w : List ℕ) (ks : List Keep) (xs : List ℕ) (j : ℕ) → j < length ks → get_or (kept w ks xs) j 0 ≡ get_or xs j 0 % mod_of (get_or ks j (low 1)) w
kept_at w [] xs j h = absurd (not-suc-le-zero h)
kept_at w (k ∷ ks) [] zero h = sym (zero-mod (mod_of k w))
kept_at w (k ∷ ks) [] (suc j) h = kept_at w ks [] j (le_of_suc-le-suc h)
kept_at w (k ∷ ks) (x ∷ xs) zero h = refl
kept_at w (k ∷ ks) (x ∷ xs) (suc j) h = kept_at w ks xs j (le_of_suc-le-suc h)

-- byte j of the image
pub image-at : (ks : List Keep) (x : List ℕ) (j : ℕ) → j < length ks → get_or (image ks x) j 0 ≡ get_or x j 0 % mod_of (get_or ks j (low 1)) x
unfolding image
image-at ks x j h = kept_at x ks x j h

-- two lists with the same bytes, modulo the largest modulus at each place
abbrev pub Same : List Keep → List ℕ → List ℕ → Type 0
Same ks x y = (j : ℕ) → j < length ks → get_or x j 0 % top_of (get_or ks j (low 1)) ≡ get_or y j 0 % top_of (get_or ks j (low 1))

-- a remainder by a divisor of the modulus
pub finer : (a b m n : ℕ) → T (eqb (n % m) 0) → a % n ≡ b % n → a % m ≡ b % m
finer a b m n t e =
    let d = dvd_of_mod-eq-zero m (eqb→eq (n % m) 0 t) in
    sym (mod-mod_of_dvd m a d) ∙ ap (λ (z : ℕ). z % m) e ∙ mod-mod_of_dvd m b d

mod_same : (ks : List Keep) (x y : List ℕ) → Same ks x y → (k : Keep) → T (ok_keep ks k) → mod_of k x ≡ mod_of k y
mod_same ks x y s (low n) t = refl
mod_same ks x y s (sel f d m₀ m₁) t =
    let t₁ = and_yes (ltb f (length ks)) _ t in
    let t₂ = and_yes (eqb (top_of (get_or ks f (low 1)) % (2 * d)) 0) _ t₁.1 in
    ap (λ (z : ℕ). pick (eqb (z / d) 0) m₀ m₁) (finer (get_or x f 0) (get_or y f 0) (2 * d) (top_of (get_or ks f (low 1))) t₂.0 (s f (ltb→lt f (length ks) t₁.0)))

-- modulo a byte's own modulus
own_same : (ks : List Keep) (w : List ℕ) (a b : ℕ) (k : Keep) → T (ok_keep ks k) → a % top_of k ≡ b % top_of k → a % mod_of k w ≡ b % mod_of k w
own_same ks w a b (low n) t e = e
own_same ks w a b (sel f d m₀ m₁) t e = go (eqb (get_or w f 0 % (2 * d) / d) 0)
  where
    t₁ : T (eqb (m₁ % m₀) 0)
    t₁ =
        (and_yes (eqb (bot_of (get_or ks f (low 1)) % (2 * d)) 0) _
        (and_yes (eqb (top_of (get_or ks f (low 1)) % (2 * d)) 0) _ (and_yes (ltb f (length ks)) _ t).1).1).1

    go : (c : Bool) → a % pick c m₀ m₁ ≡ b % pick c m₀ m₁
    go true = finer a b m₀ m₁ t₁ e
    go false = e

pub image-same : (ks : List Keep) (x y : List ℕ) → T (all_keep (ok_keep ks) ks) → Same ks x y → image ks x ≡ image ks y
image-same ks x y t s =
    ext_get_or 0 (image ks x) (image ks y) (length-image ks x ∙ sym (length-image ks y))
    λ j h.
    let h' : j < length ks = rw (length-image ks x) at h in
    let k : Keep = get_or ks j (low 1) in
    let o : T (ok_keep ks k) = all-at (ok_keep ks) ks t j h' in
    image-at ks x j h'
    ∙ ap (λ (m : ℕ). get_or x j 0 % m) (mod_same ks x y s k o)
    ∙ own_same ks y (get_or x j 0) (get_or y j 0) k o (s j h')
    ∙ sym (image-at ks y j h')

-- what a condition sees of the image is what it sees of the bytes
mod-image : (ks : List Keep) (x : List ℕ) → (k : Keep) → T (ok_keep ks k) → mod_of k (image ks x) ≡ mod_of k x
mod-image ks x (low n) t = refl
mod-image ks x (sel f d m₀ m₁) t =
    let t₁ = and_yes (ltb f (length ks)) _ t in
    let t₂ = and_yes (eqb (top_of (get_or ks f (low 1)) % (2 * d)) 0) _ t₁.1 in
    let t₃ = and_yes (eqb (bot_of (get_or ks f (low 1)) % (2 * d)) 0) _ t₂.1 in
    ap (λ (z : ℕ). pick (eqb (z / d) 0) m₀ m₁)
    (ap (λ (z : ℕ). z % (2 * d)) (image-at ks x f (ltb→lt f (length ks) t₁.0)) ∙ go (get_or ks f (low 1)) t₂.0 t₃.0)
  where
    byte : (n : ℕ) → T (eqb (n % (2 * d)) 0) → get_or x f 0 % n % (2 * d) ≡ get_or x f 0 % (2 * d)
    byte n u = mod-mod_of_dvd (2 * d) (get_or x f 0) (dvd_of_mod-eq-zero (2 * d) (eqb→eq (n % (2 * d)) 0 u))

    go : (k' : Keep) → T (eqb (top_of k' % (2 * d)) 0) → T (eqb (bot_of k' % (2 * d)) 0) → get_or x f 0 % mod_of k' x % (2 * d) ≡ get_or x f 0 % (2 * d)
    go (low n) u v = byte n u
    go (sel f' d' n₀ n₁) u v = two (eqb (get_or x f' 0 % (2 * d') / d') 0)
      where
        two : (c : Bool) → get_or x f 0 % pick c n₀ n₁ % (2 * d) ≡ get_or x f 0 % (2 * d)
        two true = byte n₀ v
        two false = byte n₁ u

-- the image of an image is that image
pub image-idem : (ks : List Keep) (x : List ℕ) → T (all_keep (ok_keep ks) ks) → image ks (image ks x) ≡ image ks x
image-idem ks x t =
    ext_get_or 0 (image ks (image ks x)) (image ks x) (length-image ks (image ks x) ∙ sym (length-image ks x))
    λ j h.
    let h' : j < length ks = rw (length-image ks (image ks x)) at h in
    let k : Keep = get_or ks j (low 1) in
    image-at ks (image ks x) j h'
    ∙ ap₂ (λ (a m : ℕ). a % m) (image-at ks x j h') (mod-image ks x k (all-at (ok_keep ks) ks t j h'))
    ∙ mod-mod (get_or x j 0) (mod_of k x)
    ∙ sym (image-at ks x j h')

-- a byte whose lowest bit counts in any case
abbrev pub is_even : Keep → Bool
is_even (low n) = eqb (n % 2) 0
is_even (sel f d m₀ m₁) = eqb (m₀ % 2) 0 && eqb (m₁ % 2) 0

pub even-low : (k : Keep) (y : List ℕ) → T (is_even k) → T (eqb (mod_of k y % 2) 0)
even-low (low n) y t = t
even-low (sel f d m₀ m₁) y t = go (eqb (get_or y f 0 % (2 * d) / d) 0)
  where
    u : T (eqb (m₀ % 2) 0) × T (eqb (m₁ % 2) 0)
    u = and_yes (eqb (m₀ % 2) 0) (eqb (m₁ % 2) 0) t

    go : (c : Bool) → T (eqb (pick c m₀ m₁ % 2) 0)
    go true = u.0
    go false = u.1
