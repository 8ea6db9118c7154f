-- A run of tests: none fails exactly where all hold, and each number is given exactly when its cause is the first that holds. Assumes nothing.
use Rattle.std.specs.Prelude.{◌≡◌, refl, ◌↔◌, Bool, true, false, not, ◌&&◌, ◌||◌, List, [], ◌∷◌, ℕ, T, eqb}
use Rattle.std.proofs.Common.{sym, ap, ◌∙◌, subst, eqb→eq}
use Rattle.std.proofs.Math.Facts.{and_yes, yes_and, yes_eqb, eqb_no}
use Rattle.table.specs.declared.Answer.{Answer}
use Rattle.table.specs.Bytes.{pick}
use Rattle.table.specs.Rules.{Test, done, first_fail, test}
use Rattle.laws.specs.ByteLaws.{pick_yes}

-- ---- tests

abbrev pub AllPass : List Test → Type 0
AllPass [] = Unit {0}
AllPass (x ∷ xs) = T x.holds × AllPass xs

pub pass_all : (xs : List Test) → AllPass xs → first_fail xs ≡ done
pass_all [] k = refl
pass_all (x ∷ xs) k = pick_yes x.holds (first_fail xs) x.gives k.0 ∙ pass_all xs k.1

-- no test fails with the number 0
abbrev pub numbered : List Test → Bool
numbered [] = true
numbered (x ∷ xs) = (not (eqb x.gives.number 0) || x.holds) && numbered xs

-- a test of a number that is itself the number given
pub self-numbered : (n : ℕ) → T (not (eqb n 0) || eqb n 0)
self-numbered n = go (eqb n 0)
  where
    go : (c : Bool) → T (not c || c)
    go true = tt
    go false = tt

or_no : (c : Bool) → T (c || false) → T c
or_no true t = tt
or_no false t = t

pub all_pass : (xs : List Test) → T (numbered xs) → (first_fail xs).number ≡ 0 → AllPass xs
all_pass [] n e = tt
all_pass (x ∷ xs) n e =
    let u = and_yes (not (eqb x.gives.number 0) || x.holds) (numbered xs) n in
    go x.holds e (λ f. all_pass xs u.1 f) u.0
  where
    go : (c : Bool) → (pick c (first_fail xs) x.gives).number ≡ 0 → ((first_fail xs).number ≡ 0 → AllPass xs) → T (not (eqb x.gives.number 0) || c) → T c × AllPass xs
    go true f g n = (tt, g f)
    go false f g n = absurd (eqb_no {a = x.gives.number} {b = 0} (or_no (not (eqb x.gives.number 0)) n) f)

-- the number of an answer that is picked
pub number-pick : (c : Bool) (x y : Answer) → (pick c x y).number ≡ pick c x.number y.number
number-pick true x y = refl
number-pick false x y = refl

-- ---- causes of a refusal, in the order in which a call looks for them

-- A test with the numbers that it may give: whether it passes, the number that it gives where not, and those numbers
pub record Cause : Type 0 where
  pub passes : Bool
  pub gives : ℕ
  pub numbers : List ℕ

-- n is given unless c holds
abbrev pub unless : ℕ → Bool → Cause
unless n c = record { passes = c; gives = n; numbers = n ∷ [] }

-- a fault that is itself the number, one of ns, or 0 where nothing is wrong
abbrev pub found : List ℕ → ℕ → Cause
found ns r = record { passes = eqb r 0; gives = r; numbers = ns }

abbrev pub one_of : ℕ → List ℕ → Bool
one_of n [] = false
one_of n (m ∷ ms) = eqb n m || one_of n ms

-- all before the cause of n pass, and this one gives n; where n is 0, all pass
abbrev pub first_is : ℕ → List Cause → Bool
first_is n [] = eqb n 0
first_is n (x ∷ xs) = pick (one_of n x.numbers) (eqb x.gives n && not x.passes) (x.passes && first_is n xs)

-- n is 0 or a number of these
abbrev pub is_number : ℕ → List Cause → Bool
is_number n [] = eqb n 0
is_number n (x ∷ xs) = one_of n x.numbers || is_number n xs

-- The number n of a call with these causes: m exactly when the cause of m is the first, 0 exactly when there is none, and no other. For the causes
-- unless 15 a, found (11) r, unless 17 b: it is 11 exactly when a holds and r is 11, 17 exactly when a holds, r is 0 and b does not hold, 0 exactly when all pass
pub record Refuses (n : ℕ) (xs : List Cause) : Type 0 where
  pub exactly : (m : ℕ) → (n ≡ m) ↔ T (first_is m xs)
  pub no_other : T (is_number n xs)

-- no number is 0 or has two causes, and each test gives one of its own
abbrev none_is : List ℕ → List Cause → Bool
none_is [] xs = true
none_is (n ∷ ns) xs = not (is_number n xs) && none_is ns xs

abbrev pub distinct : List Cause → Bool
distinct [] = true
distinct (x ∷ xs) = none_is x.numbers xs && ((one_of x.gives x.numbers || x.passes) && distinct xs)

first-number : (n : ℕ) (xs : List Cause) → T (first_is n xs) → T (is_number n xs)
first-number n [] t = t
first-number n (x ∷ xs) t = go (one_of n x.numbers) t (λ u. first-number n xs u)
  where
    go : (c : Bool) → T (pick c (eqb x.gives n && not x.passes) (x.passes && first_is n xs)) → (T (first_is n xs) → T (is_number n xs)) → T (c || is_number n xs)
    go true t g = tt
    go false t g = g (and_yes x.passes (first_is n xs) t).1

-- a number of two causes
twice : (n : ℕ) (ns : List ℕ) (xs : List Cause) → T (none_is ns xs) → T (one_of n ns) → T (is_number n xs) → ⊥
twice n [] xs t u v = u
twice n (m ∷ ms) xs t u v =
    let w = and_yes (not (is_number m xs)) (none_is ms xs) t in
    go (eqb n m) refl u w.0 (λ g. twice n ms xs w.1 g v)
  where
    both : (c : Bool) → T (not c) → T c → ⊥
    both true p q = p
    both false p q = q

    go : (c : Bool) → eqb n m ≡ c → T (c || one_of n ms) → T (not (is_number m xs)) → (T (one_of n ms) → ⊥) → ⊥
    go true e u w g = both (is_number m xs) w (subst (λ (k : ℕ). T (is_number k xs)) (eqb→eq n m (rw e tt)) v)
    go false e u w g = g u

abbrev first_cause : List Cause → ℕ
first_cause [] = 0
first_cause (x ∷ xs) = pick x.passes (first_cause xs) x.gives

first-is : (xs : List Cause) → T (distinct xs) → (m : ℕ) → (first_cause xs ≡ m) ↔ T (first_is m xs)
first-is [] t m = (λ e. yes_eqb (sym e), λ f. sym (eqb→eq m 0 f))
first-is (x ∷ xs) t m =
    let u = and_yes (none_is x.numbers xs) _ t in
    let v = and_yes (one_of x.gives x.numbers || x.passes) (distinct xs) u.1 in
    go x.passes (one_of m x.numbers) refl v.0 (first-is xs v.1 m) (twice m x.numbers xs u.0)
  where
    go : (c d : Bool) → one_of m x.numbers ≡ d → T (one_of x.gives x.numbers || c)
        → (first_cause xs ≡ m) ↔ T (first_is m xs) → (T (one_of m x.numbers) → T (is_number m xs) → ⊥)
        → (pick c (first_cause xs) x.gives ≡ m) ↔ T (pick d (eqb x.gives m && not c) (c && first_is m xs))
    go true true e o i f = (λ p. absurd (f (rw e tt) (first-number m xs (i.0 p))), λ p. absurd (and_yes (eqb x.gives m) false p).1)
    go true false e o i f = i
    go false true e o i f = (λ p. yes_and (eqb x.gives m) true (yes_eqb p) tt, λ p. eqb→eq x.gives m (and_yes (eqb x.gives m) true p).0)
    go false false e o i f = (λ p. absurd (rw e at (subst (λ (k : ℕ). T (one_of k x.numbers)) p (or_no (one_of x.gives x.numbers) o))), λ p. absurd p)

-- the tests that look for these causes, with the kind and the position that each names, 0 and 0 where none are left
abbrev tests_for : List Cause → List (ℕ × ℕ) → List Test
tests_for [] ps = []
tests_for (x ∷ xs) [] = test x.passes x.gives 0 0 ∷ tests_for xs []
tests_for (x ∷ xs) (p ∷ ps) = test x.passes x.gives p.0 p.1 ∷ tests_for xs ps

tests-number : (xs : List Cause) (ps : List (ℕ × ℕ)) → (first_fail (tests_for xs ps)).number ≡ first_cause xs
tests-number [] ps = refl
tests-number (x ∷ xs) [] = number-pick x.passes _ _ ∙ ap (λ (m : ℕ). pick x.passes m x.gives) (tests-number xs [])
tests-number (x ∷ xs) (p ∷ ps) = number-pick x.passes _ _ ∙ ap (λ (m : ℕ). pick x.passes m x.gives) (tests-number xs ps)

pub refuses : (n : ℕ) (xs : List Cause) → n ≡ first_cause xs → T (distinct xs) → Refuses n xs
refuses n xs e t =
    let f = first-is xs t in
    subst (λ (k : ℕ). Refuses k xs) (sym e) (record { exactly = f; no_other = first-number (first_cause xs) xs ((f (first_cause xs)).0 refl) })

pub fails-first : (xs : List Cause) (ps : List (ℕ × ℕ)) → T (distinct xs) → Refuses (first_fail (tests_for xs ps)).number xs
fails-first xs ps t = refuses _ xs (tests-number xs ps) t
