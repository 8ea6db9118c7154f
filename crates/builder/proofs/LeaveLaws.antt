-- A position left unused. Assumes nothing.
use mathlib.Core.Path.{◌≡◌, refl}
use mathlib.Core.Bool.{true, false}
use mathlib.Core.List.{List}
use Prim.Native.Nat.{ℕ, ◌≤◌, ◌<◌}
use native.Mathlib.Omega.{arith}
use lib.ListN.{length}
use lib.Dec.{leb}
use borrow.Author.Tests.{le-leb, lt-leb}
use Rattle.table.specs.declared.State.{State}
use Rattle.table.specs.Rules.{answer, done}
use Rattle.table.specs.Builder.{leave, next, waits}

module _ (s : State) (b : List ℕ) where
  pub leave-early : waits s s.turn ≡ false → (record { answer = answer 15 0 0; state = s } ≡ (leave s b).step) × (b ≡ (leave s b).buffer)
  unfolding leave
  leave-early e = (rw e refl, rw e refl)

  pub leave-nowhere : waits s s.turn ≡ true → s.position ≡ 0 → (record { answer = answer 15 0 0; state = s } ≡ (leave s b).step) × (b ≡ (leave s b).buffer)
  unfolding leave
  leave-nowhere e z = let p : leb 1 s.position ≡ false = lt-leb 1 s.position (omega arith) in (rw (e, p) refl, rw (e, p) refl)

  module _ (e : waits s s.turn ≡ true) (n : s.position ≡ 0 → ⊥) where
    from : leb 1 s.position ≡ true
    from = le-leb 1 s.position (omega (arith, n))

    pub leave-short : length b < s.used → (record { answer = answer 14 0 0; state = s } ≡ (leave s b).step) × (b ≡ (leave s b).buffer)
    unfolding leave
    leave-short l = let q = lt-leb s.used (length b) l in (rw (e, from, q) refl, rw (e, from, q) refl)

    pub leave-done : s.used ≤ length b → (record { answer = done; state = next s 0 false } ≡ (leave s b).step) × (b ≡ (leave s b).buffer)
    unfolding leave
    leave-done l = let q = le-leb s.used (length b) l in (rw (e, from, q) refl, rw (e, from, q) refl)
