-- Runs of stores into bytes that do not count, by ascending place. Assumes nothing.
use Rattle.std.specs.Prelude.{◌≡◌, refl, Bool, List, [], ◌∷◌, ℕ, ◌+◌, ◌-◌, ◌%◌, ◌≤◌, ◌<◌, length, get_or, take, drop, T}
use Rattle.std.proofs.Common.{sym, ap, ◌∙◌, arith, length-take, length-drop, get_or-drop, get_or-take, eqb→eq}
use Rattle.std.proofs.Math.Nat.{mod-one}
use Rattle.std.proofs.Math.Decide.{dec_le}
use Rattle.table.specs.Bytes.{Edit, apply, splice}
use Rattle.table.specs.Layout.{Keep, image, low, sel}
use Rattle.laws.specs.ByteLaws.{Holds, get_d-splice-above, get_d-splice-below, holds-in, holds-splice-below, length-splice, splice-here}
use Rattle.laws.specs.Lawful.{all_keep, is_none, ok_keep, top_of}
use Rattle.laws.specs.ImageLaws.{Same, all-at, image-same}

-- the n bytes from p on do not count
abbrev pub dead : List Keep → ℕ → ℕ → Bool
dead ks p n = all_keep is_none (take n (drop p ks))

-- stores by ascending place from q on, apart from each other, inside, and into bytes that do not count
abbrev pub OkEdits : ℕ → List Keep → List Edit → Type 0
OkEdits q ks [] = q ≤ length ks
OkEdits q ks (e ∷ es) = (q ≤ e.at) × T (dead ks e.at (length e.put)) × OkEdits (e.at + length e.put) ks es

-- the list has each store's bytes, counted from place a
abbrev pub AllHold : List ℕ → ℕ → List Edit → Type 0
AllHold t a [] = Unit {0}
AllHold t a (e ∷ es) = Holds t (a + e.at) e.put × AllHold t a es

none-top : (k : Keep) → T (is_none k) → top_of k ≡ 1
none-top (low n) t = eqb→eq n 1 t
none-top (sel f d m₀ m₁) t = absurd t

splice-same : (ks : List Keep) (x : List ℕ) (p : ℕ) (r : List ℕ) → p + length r ≤ length x → T (dead ks p (length r)) → Same ks (splice x p r) x
splice-same ks x p r room t j h = go (dec_le p j) (dec_le (p + length r) j)
  where
    inside : p ≤ j → j < p + length r → T (is_none (get_or ks j (low 1)))
    inside a b =
        let i : ℕ = j - p in
        let e₁ : get_or (take (length r) (drop p ks)) i (low 1) ≡ get_or ks j (low 1) =
        get_or-take (length r) (drop p ks) i (low 1) (omega arith) ∙ get_or-drop p ks i (low 1) ∙ ap (λ (m : ℕ). get_or ks m (low 1)) (omega arith) in
        rw e₁ at (all-at is_none (take (length r) (drop p ks)) t i (simp (length-take, length-drop) (omega arith)))

    go : Dec (p ≤ j) → Dec (p + length r ≤ j) → get_or (splice x p r) j 0 % top_of (get_or ks j (low 1)) ≡ get_or x j 0 % top_of (get_or ks j (low 1))
    go (no a) b = ap (λ (z : ℕ). z % top_of (get_or ks j (low 1))) (get_d-splice-below x p r room j (omega arith))
    go (yes a) (yes b) = ap (λ (z : ℕ). z % top_of (get_or ks j (low 1))) (get_d-splice-above x p r room j (omega arith))
    go (yes a) (no b) = rw (none-top (get_or ks j (low 1)) (inside a (omega arith))) (mod-one (get_or (splice x p r) j 0) ∙ sym (mod-one (get_or x j 0)))

ok_end : (q : ℕ) (ks : List Keep) (es : List Edit) → OkEdits q ks es → q ≤ length ks
ok_end q ks [] o = o
ok_end q ks (e ∷ es) o = omega (arith, ok_end (e.at + length e.put) ks es o.2)

pub length-apply : (ks : List Keep) (q : ℕ) (es : List Edit) (x : List ℕ) → OkEdits q ks es → length x ≡ length ks → length (apply x es) ≡ length ks
length-apply ks q [] x o l = l
length-apply ks q (e ∷ es) x o l =
    let k = ok_end (e.at + length e.put) ks es o.2 in
    length-apply ks (e.at + length e.put) es (splice x e.at e.put) o.2 (length-splice x e.at e.put (omega arith) ∙ l)

-- the stores leave the image
pub image-apply : (ks : List Keep) (q : ℕ) (es : List Edit) (x : List ℕ) → T (all_keep (ok_keep ks) ks) → OkEdits q ks es → length x ≡ length ks → image ks (apply x es) ≡ image ks x
image-apply ks q [] x t o l = refl
image-apply ks q (e ∷ es) x t o l =
    let k = ok_end (e.at + length e.put) ks es o.2 in
    image-apply ks (e.at + length e.put) es (splice x e.at e.put) t o.2 (length-splice x e.at e.put (omega arith) ∙ l)
    ∙ image-same ks (splice x e.at e.put) x t (splice-same ks x e.at e.put (omega arith) o.1)

-- and what stands below them
apply-below : (ks : List Keep) (q : ℕ) (es : List Edit) (x : List ℕ) (p : ℕ) (r : List ℕ)
    → OkEdits q ks es → length x ≡ length ks → p + length r ≤ q → Holds x p r → Holds (apply x es) p r
apply-below ks q [] x p r o l k h = h
apply-below ks q (e ∷ es) x p r o l k h =
    let m = ok_end (e.at + length e.put) ks es o.2 in
    apply-below ks (e.at + length e.put) es (splice x e.at e.put) p r o.2 (length-splice x e.at e.put (omega arith) ∙ l) (omega arith)
    (holds-splice-below x e.at e.put (omega arith) p r (omega arith) h)

-- a list that holds the record holds each store
pub apply-holds : (ks : List Keep) (q : ℕ) (es : List Edit) (x t : List ℕ) (a : ℕ) → OkEdits q ks es → length x ≡ length ks → Holds t a (apply x es) → AllHold t a es
apply-holds ks q [] x t a o l h = tt
apply-holds ks q (e ∷ es) x t a o l h =
    let m = ok_end (e.at + length e.put) ks es o.2 in
    let x' : List ℕ = splice x e.at e.put in
    let room : e.at + length e.put ≤ length x = omega arith in
    let l' : length x' ≡ length ks = length-splice x e.at e.put room ∙ l in (
      holds-in t a (apply x' es) e.at e.put (omega (arith, length-apply ks (e.at + length e.put) es x' o.2 l')) h
          (apply-below ks (e.at + length e.put) es x' e.at e.put o.2 l' (omega arith) (splice-here x e.at e.put room)),
      apply-holds ks (e.at + length e.put) es x' t a o.2 l' h,
    )
