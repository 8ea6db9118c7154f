-- The rule of a record's fields as a chain of tests of single bytes, as code makes them. Assumes nothing.
use Rattle.std.specs.Prelude.{◌≡◌, refl, Bool, true, false, ◌&&◌, List, [], ◌∷◌, ℕ, ◌+◌, length, get_or, T, leb, eqb}
use Rattle.std.proofs.Common.{ap, ap₂, ◌∙◌, leb→le}
use Rattle.std.proofs.Math.Facts.{and_yes}
use Rattle.table.specs.Bytes.{part, num, same, Edit}
use Rattle.table.specs.Layout.{Shape, Env, fixed_right, pairs_right, is_right}
use Rattle.laws.specs.Fields.{same_at, fixed-at}

abbrev pub same_then : List ℕ → ℕ → List ℕ → Bool → Bool
same_then x a [] r = r
same_then x a (b ∷ bs) r = eqb (get_or x a 0) b && same_then x (a + 1) bs r

abbrev pub chain : List Edit → List ℕ → Bool → Bool
chain [] x r = r
chain (e ∷ es) x r = same_then x e.at e.put (chain es x r)

abbrev pub fixed_in : List Edit → ℕ → Bool
fixed_in [] n = true
fixed_in (e ∷ es) n = leb (e.at + length e.put) n && fixed_in es n

pub and_assoc : (x y z : Bool) → ((x && y) && z) ≡ (x && (y && z))
and_assoc true y z = refl
and_assoc false y z = refl

same_then_lem : (x : List ℕ) (a : ℕ) (bs : List ℕ) (r : Bool) → (same_at x a bs && r) ≡ same_then x a bs r
same_then_lem x a [] r = refl
same_then_lem x a (b ∷ bs) r = and_assoc (eqb (get_or x a 0) b) (same_at x (a + 1) bs) r ∙ ap (λ (c : Bool). eqb (get_or x a 0) b && c) (same_then_lem x (a + 1) bs r)

pub fixed-chain : (es : List Edit) (x : List ℕ) (r : Bool) → T (fixed_in es (length x)) → (fixed_right es x && r) ≡ chain es x r
fixed-chain [] x r t = refl
fixed-chain (e ∷ es) x r t =
    let u = and_yes (leb (e.at + length e.put) (length x)) (fixed_in es (length x)) t in
    and_assoc (same (part x e.at (length e.put)) e.put) (fixed_right es x) r
    ∙ ap₂ (λ (c d : Bool). c && d) (fixed-at x e.at e.put (leb→le (e.at + length e.put) (length x) u.0)) (fixed-chain es x r u.1)
    ∙ same_then_lem x e.at e.put (chain es x r)

pub right-chain : (s : Shape) (e : Env) (x : List ℕ) → T (fixed_in s.fixed (length x)) → is_right s e x ≡ chain s.fixed x
    (eqb (num x s.index.at s.index.len) e.position && pairs_right s x)
unfolding is_right
right-chain s e x t = fixed-chain s.fixed x _ t
