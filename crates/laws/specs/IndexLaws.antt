-- Indexes one by one: the number and the looks of several are those of the first, then of the rest. Assumes nothing.
use Rattle.std.specs.Prelude.{◌≡◌, refl, Bool, true, false, ◌&&◌, List, [], ◌∷◌, ℕ, ◌+◌, eqb}
use Rattle.std.proofs.Common.{sym, ap, ◌∙◌, arith, eq-eqb, ne_eqb}
use Rattle.table.specs.declared.Found.{Found}
use Rattle.table.specs.Bytes.{pick}
use Rattle.table.specs.Layout.{Index, names_used, unless}
use Rattle.table.specs.Looks.{resolved}

abbrev pub found : ℕ → ℕ → Found
found n l = record { number = n; looks = l }

-- what was found behind n looks
abbrev pub after : ℕ → Found → Found
after n x = found x.number (n + x.looks)

-- the first of two
abbrev pub first_found : Found → Found → Found
first_found x y = pick (eqb x.number 0) (after x.looks y) x

-- what indexes give
abbrev pub found_by : (ℕ → ℕ → Bool) → List Index → Found
found_by named xs = found (pick (names_used named xs) 0 13) (resolved named xs)

pub after_none : (x : Found) → after 0 x ≡ x
after_none x = ap (found x.number) (omega arith)

-- an index in front of others, which is not resolved where c
pub found-unless : (named : ℕ → ℕ → Bool) (c : Bool) (x : Index) (xs : List Index) → found_by named (unless c x xs) ≡ first_found (found_by named (unless c x [])) (found_by named xs)
found-unless named true x xs = ap (found (pick (names_used named xs) 0 13)) (omega arith)
found-unless named false x xs = go (named x.kind x.position) where
  rest : Bool
  rest = names_used named xs

  go : (c : Bool) → found (pick (c && rest) 0 13) (1 + pick c (resolved named xs) 0)
      ≡ first_found (found (pick (c && true) 0 13) (1 + pick c 0 0)) (found (pick rest 0 13) (resolved named xs))
  go true = refl
  go false = refl

-- one look is taken at what an index names, whether it is used or not
pub one-look : (named : ℕ → ℕ → Bool) (x : Index) → resolved named (x ∷ []) ≡ 1
one-look named x = go (named x.kind x.position) where
  go : (c : Bool) → ◌≡◌ {A = ℕ} (1 + pick c 0 0) 1
  go true = refl
  go false = refl

-- ---- one behind the other

pub after-after : (m n : ℕ) (x : Found) → after (m + n) x ≡ after m (after n x)
after-after m n x = ap (found x.number) (omega arith)

pub found-assoc : (x y z : Found) → first_found (first_found x y) z ≡ first_found x (first_found y z)
found-assoc x y z = go (eqb x.number 0) refl (eqb y.number 0) refl
  where
    go : (c : Bool) → eqb x.number 0 ≡ c → (d : Bool) → eqb y.number 0 ≡ d
        → first_found (pick c (after x.looks y) x) z ≡ pick c (after x.looks (pick d (after y.looks z) y)) x
    go true e true f = ap (λ (c : Bool). pick c (after (x.looks + y.looks) z) (after x.looks y)) f ∙ after-after x.looks y.looks z
    go true e false f = ap (λ (c : Bool). pick c (after (x.looks + y.looks) z) (after x.looks y)) f
    go false e d f = ap (λ (c : Bool). pick c (after x.looks z) x) e

-- as code goes on: r is what was found first
module _ {r x : Found} (e : r ≡ x) where
  pub found-stop : (y : Found) → (r.number ≡ 0 → ⊥) → r ≡ first_found x y
  found-stop y n = rw (← e) (sym (ap (λ (c : Bool). pick c (after r.looks y) r) (ne_eqb r.number 0 n)))

  pub found-more : {b : Found} (y : Found) → r.number ≡ 0 → b ≡ after r.looks y → b ≡ first_found x y
  found-more {b} y z f = rw (← e) (f ∙ sym (ap (λ (c : Bool). pick c (after r.looks y) r) (eq-eqb r.number 0 z)))
