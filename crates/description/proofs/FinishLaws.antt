-- What a done finish leaves is accepted. Assumes nothing.
use mathlib.Core.Path.{◌≡◌, refl, sym, ap, ◌∙◌}
use mathlib.Core.Bool.{Bool, true, false}
use mathlib.Core.List.{List}
use Prim.Native.Nat.{ℕ, ◌≤◌}
use native.Mathlib.Omega.{arith}
use lib.ListN.{length, take}
use lib.Dec.{leb, eqb}
use borrow.Author.Tests.{leb-true, eqb-true, eqb-false}
use Rattle.table.specs.declared.State.{State}
use Rattle.table.specs.Numbers.{check}
use Rattle.table.specs.Builder.{finish, sealed, waits}

module _ (s : State) (b : List ℕ) where
  abbrev Accepted : Type 0
  Accepted = (s.used ≤ length b) × ((check (take s.used (finish s b).buffer)).number ≡ 0)

  early : waits s 7 ≡ false → (finish s b).step.answer.number ≡ 15
  unfolding finish
  early w = rw w refl

  module _ (w : waits s 7 ≡ true) where
    short : leb s.used (length b) ≡ false → (finish s b).step.answer.number ≡ 14
    unfolding finish
    short l = rw (w, l) refl

    module _ (l : leb s.used (length b) ≡ true) where
      refused : eqb (check (take s.used (sealed s b))).number 0 ≡ false → (finish s b).step.answer.number ≡ (check (take s.used (sealed s b))).number
      unfolding finish
      refused e = rw (w, l, e) refl

      stays : eqb (check (take s.used (sealed s b))).number 0 ≡ true → (finish s b).buffer ≡ sealed s b
      unfolding finish
      stays e = rw (w, l, e) refl

      by-check : (e : Bool) → eqb (check (take s.used (sealed s b))).number 0 ≡ e → (finish s b).step.answer.number ≡ 0 → Accepted
      by-check true e z = (leb-true s.used (length b) l, ap (λ (x : List ℕ). (check (take s.used x)).number) (stays e) ∙ eqb-true (check (take s.used (sealed s b))).number 0 e)
      by-check false e z = absurd (eqb-false (check (take s.used (sealed s b))).number 0 e (sym (refused e) ∙ z))

    by-room : (l : Bool) → leb s.used (length b) ≡ l → (finish s b).step.answer.number ≡ 0 → Accepted
    by-room true l z = by-check l (eqb (check (take s.used (sealed s b))).number 0) refl z
    by-room false l z = absurd (omega (arith, short l, z))

  by_turn : (w : Bool) → waits s 7 ≡ w → (finish s b).step.answer.number ≡ 0 → Accepted
  by_turn true w z = by-room w (leb s.used (length b)) refl z
  by_turn false w z = absurd (omega (arith, early w, z))

  pub finish-accepted : (finish s b).step.answer.number ≡ 0 → Accepted
  finish-accepted z = by_turn (waits s 7) refl z
