-- What a passed test of the room says. Assumes nothing.
use mathlib.Core.Path.{◌≡◌, refl}
use mathlib.Core.Bool.{Bool, true, false}
use mathlib.Core.List.{[], ◌∷◌}
use Prim.Native.Nat.{ℕ, ◌≤◌}
use native.Mathlib.Omega.{arith}
use lib.Dec.{leb}
use borrow.Author.Tests.{leb-true}
use Rattle.table.specs.Rules.{test, first_fail}
use Rattle.table.specs.Meaning.{limit}
use Rattle.table.specs.Builder.{room_tests}

pub room-passed : (n room : ℕ) → (first_fail (room_tests n room)).number ≡ 0 → (n ≤ 65536) × (n ≤ room)
unfolding limit
room-passed n room e = go (leb n 65536) (leb n room) refl refl e where
  go : (c d : Bool) → leb n 65536 ≡ c → leb n room ≡ d → (first_fail (test c 17 0 0 ∷ test d 14 0 0 ∷ [])).number ≡ 0 → (n ≤ 65536) × (n ≤ room)
  go true true p q f = (leb-true n 65536 p, leb-true n room q)
  go true false p q f = absurd (omega arith)
  go false d p q f = absurd (omega arith)
