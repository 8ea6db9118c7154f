-- A record's image depends on the bytes of which some bit counts, and on no others. Assumes nothing.
use Rattle.std.specs.Prelude.{◌≡◌, refl, Bool, true, false, List, ℕ, ◌*◌, ◌/◌, ◌%◌, ◌<◌, length, get_or, T, ltb, eqb}
use Rattle.std.proofs.Common.{sym, ap, ◌∙◌, ext_get_or, ltb→lt}
use Rattle.std.proofs.Math.Nat.{mod-one}
use Rattle.std.proofs.Math.Decide.{ℕ_discrete}
use Rattle.std.proofs.Math.Facts.{and_yes}
use Rattle.table.specs.Bytes.{pick}
use Rattle.table.specs.Layout.{Keep, image, low, mod_of, sel}
use Rattle.laws.specs.Lawful.{all_keep, bot_of, ok_keep, top_of}
use Rattle.laws.specs.ImageLaws.{all-at, finer, image-at, length-image}

-- ---- a record's image

-- the two lists agree on the bytes of which some bit counts
abbrev pub Looked : List Keep → List ℕ → List ℕ → Type 0
Looked ks x y = (j : ℕ) → j < length ks → ¬ (mod_of (get_or ks j (low 1)) x ≡ 1) → get_or x j 0 ≡ get_or y j 0

-- modulo a byte's own modulus, in x, the two agree
at-mod : (ks : List Keep) (x y : List ℕ) → Looked ks x y → (j : ℕ) → j < length ks → get_or x j 0 % mod_of (get_or ks j (low 1)) x ≡ get_or y j 0 % mod_of (get_or ks j (low 1)) x
at-mod ks x y s j h = go (ℕ_discrete (mod_of (get_or ks j (low 1)) x) 1)
  where
    go : Dec (mod_of (get_or ks j (low 1)) x ≡ 1) → get_or x j 0 % mod_of (get_or ks j (low 1)) x ≡ get_or y j 0 % mod_of (get_or ks j (low 1)) x
    go (yes e) = rw e (mod-one (get_or x j 0) ∙ sym (mod-one (get_or y j 0)))
    go (no e) = ap (λ (z : ℕ). z % mod_of (get_or ks j (low 1)) x) (s j h e)

mod-divides : (k : Keep) (x : List ℕ) (m : ℕ) → T (eqb (top_of k % m) 0) → T (eqb (bot_of k % m) 0) → T (eqb (mod_of k x % m) 0)
mod-divides (low n) x m u v = u
mod-divides (sel f d m₀ m₁) x m u v = go (eqb (get_or x f 0 % (2 * d) / d) 0)
  where
    go : (c : Bool) → T (eqb (pick c m₀ m₁ % m) 0)
    go true = v
    go false = u

mod-looked : (ks : List Keep) (x y : List ℕ) → Looked ks x y → (k : Keep) → T (ok_keep ks k) → mod_of k x ≡ mod_of k y
mod-looked ks x y s (low n) t = refl
mod-looked ks x y s (sel f d m₀ m₁) t =
    let t₁ = and_yes (ltb f (length ks)) _ t in
    let t₂ = and_yes (eqb (top_of (get_or ks f (low 1)) % (2 * d)) 0) _ t₁.1 in
    let t₃ = and_yes (eqb (bot_of (get_or ks f (low 1)) % (2 * d)) 0) _ t₂.1 in
    ap (λ (z : ℕ). pick (eqb (z / d) 0) m₀ m₁)
    (finer (get_or x f 0) (get_or y f 0) (2 * d) (mod_of (get_or ks f (low 1)) x) (mod-divides (get_or ks f (low 1)) x (2 * d) t₂.0 t₃.0) (at-mod ks x y s f (ltb→lt f (length ks) t₁.0)))

pub image-looked : (ks : List Keep) (x y : List ℕ) → T (all_keep (ok_keep ks) ks) → Looked ks x y → image ks x ≡ image ks y
image-looked ks x y t s =
    ext_get_or 0 (image ks x) (image ks y) (length-image ks x ∙ sym (length-image ks y))
    λ j h.
    let h' : j < length ks = rw (length-image ks x) at h in
    let k : Keep = get_or ks j (low 1) in
    image-at ks x j h' ∙ at-mod ks x y s j h' ∙ ap (λ (m : ℕ). get_or y j 0 % m) (mod-looked ks x y s k (all-at (ok_keep ks) ks t j h')) ∙ sym (image-at ks y j h')
