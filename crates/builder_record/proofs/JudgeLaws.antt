-- The tests of a told record. Assumes nothing.
use mathlib.Core.Path.{◌≡◌, refl, sym, ap, ◌∙◌, subst}
use mathlib.Core.Bool.{Bool, true, false}
use mathlib.Core.List.{List, [], ◌∷◌}
use Prim.Native.Nat.{ℕ}
use native.Mathlib.Omega.{arith}
use lib.Dec.{T, eqb}
use borrow.Author.Tests.{eqb-true, eq-eqb, ne_eqb}
use Rattle.table.specs.declared.State.{State}
use Rattle.table.specs.declared.Answer.{Answer}
use Rattle.table.specs.Layout.{Layout, pairs_right}
use Rattle.table.specs.Rules.{answer, done, test, first_fail}
use Rattle.table.specs.Builder.{waits}
use Rattle.builder_record.specs.Steps.{judge_tests}

-- ---- the first fault

module _ (l : Layout) (s : State) (img : List ℕ) (own objects : ℕ) where
  pub out-of-turn : waits s l.kind ≡ false → answer 15 0 0 ≡ first_fail (judge_tests l s img own objects)
  out-of-turn e = rw e refl

  module _ (turn : waits s l.kind ≡ true) where
    pub wrong-pair : pairs_right l.shape img ≡ false → answer 10 l.kind s.position ≡ first_fail (judge_tests l s img own objects)
    wrong-pair e = rw (turn, e) refl

    module _ (pairs : pairs_right l.shape img ≡ true) where
      pub own-fault : (own ≡ 0 → ⊥) → answer own l.kind s.position ≡ first_fail (judge_tests l s img own objects)
      own-fault z = rw (turn, pairs, ne_eqb own 0 z) refl

      pub wrong-object : own ≡ 0 → (objects ≡ 0 → ⊥) → answer objects l.kind s.position ≡ first_fail (judge_tests l s img own objects)
      wrong-object e z = rw (turn, pairs, eq-eqb own 0 e, ne_eqb objects 0 z) refl

      pub no-fault : own ≡ 0 → objects ≡ 0 → done ≡ first_fail (judge_tests l s img own objects)
      no-fault e f = rw (turn, pairs, eq-eqb own 0 e, eq-eqb objects 0 f) refl

-- what passed tests say
pub judge-passed : (l : Layout) (s : State) (img : List ℕ) (own objects : ℕ) (a : Answer) → a ≡ first_fail (judge_tests l s img own objects) → a.number ≡ 0
    → (waits s l.kind ≡ true) × (objects ≡ 0)
judge-passed l s img own objects a e z =
    go (waits s l.kind) (pairs_right l.shape img) (eqb own 0) (eqb objects 0) refl refl (sym (ap (λ (x : Answer). x.number) e) ∙ z)
  where
    go : (w p c d : Bool) → eqb own 0 ≡ c → eqb objects 0 ≡ d
        → (first_fail (test w 15 0 0 ∷ test p 10 l.kind s.position ∷ test c own l.kind s.position ∷ test d objects l.kind s.position ∷ [])).number ≡ 0
        → (w ≡ true) × (objects ≡ 0)
    go true true true true c d q = (refl, eqb-true objects 0 d)
    go true true true false c d q = (refl, q)
    go true true false d c e q = absurd (subst T (sym (eq-eqb own 0 q) ∙ c) tt)
    go true false c d e f q = absurd (omega arith)
    go false p c d e f q = absurd (omega arith)
