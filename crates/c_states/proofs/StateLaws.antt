-- A builder's state is its 16 bytes, and what a call made with them shows. Assumes nothing.
use mathlib.Core.Path.{◌≡◌, refl, sym, ap, ◌∙◌}
use mathlib.Core.Bool.{Bool, true, ◌&&◌, ◌||◌}
use mathlib.Core.List.{List, [], ◌∷◌}
use Prim.Native.Nat.{ℕ, ◌^◌, ◌≤◌, ◌<◌}
use native.Mathlib.Omega.{arith}
use lib.ListN.{length, get_or}
use lib.Dec.{eqb, leb, leb→le, lit<}
use mir.Facts.{and_yes}
use Rattle.table.specs.declared.State.{State}
use Rattle.table.specs.declared.Step.{Step}
use Rattle.table.specs.Bytes.{pick, num}
use Rattle.table.specs.FixedLayouts.{hfi, ssns, security, discovery}
use Rattle.table.specs.Meaning.{limit}
use Rattle.table.specs.Builder.{Outcome, finished, finishing, in_list, moved, records_end, turn, waits}
use Rattle.laws.specs.ByteLaws.{val-le}
use Rattle.c_answers.specs.Packed.{packed}
use Rattle.c_states.specs.States.{state_of, state_bytes, state_after, Shown}

pub state-read : (b : List ℕ) (t p u v : ℕ) → t ≡ num b 0 2 → p ≡ num b 2 2 → u ≡ num b 8 4 → v ≡ num b 12 4
    → record { turn = t; position = p; hfi = get_or b 4 0; ssns = get_or b 5 0; security = get_or b 6 0; discovery = get_or b 7 0; used = u; minor = v } ≡ state_of b
unfolding state_of
state-read b t p u v e f g h = rw (e, f, g, h) refl

pub four_bytes : (b : List ℕ) → length b ≡ 4 → get_or b 0 0 ∷ get_or b 1 0 ∷ get_or b 2 0 ∷ get_or b 3 0 ∷ [] ≡ b
four_bytes [] e = absurd (omega (arith, e))
four_bytes (w ∷ []) e = absurd (omega (arith, e))
four_bytes (w ∷ x ∷ []) e = absurd (omega (arith, e))
four_bytes (w ∷ x ∷ y ∷ []) e = absurd (omega (arith, e))
four_bytes (w ∷ x ∷ y ∷ z ∷ []) e = refl
four_bytes (w ∷ x ∷ y ∷ z ∷ v ∷ b) e = absurd (omega (arith, e))

-- a state whose numbers fit their bytes
abbrev pub Held : State → Type 0
Held s = (s.turn < 65536) × (s.position < 65536) × (s.used < 256 ^ 4) × (s.minor < 256 ^ 4)

-- what is stored is read again
pub state-kept : (s : State) → Held s → state_of (state_bytes s) ≡ s
unfolding state_of state_bytes
state-kept s h = rw (val-le 2 s.turn h.0, val-le 2 s.position h.1, val-le 4 s.used h.2, val-le 4 s.minor h.3) refl

-- so no two states have the same bytes
pub state-same : (s t : State) → Held s → Held t → state_bytes s ≡ state_bytes t → s ≡ t
state-same s t h k e = sym (state-kept s h) ∙ ap state_of e ∙ state-kept t k

-- what a begun state says of the bytes used and of the minor
bounds : (s : State) (k : ℕ) → waits s k ≡ true → (s.used ≤ 65536) × (s.minor ≤ 1)
unfolding waits limit
bounds s k w =
    let place : Bool = pick (eqb k 2 || eqb k finishing) (eqb s.position 0) (in_list s) in
    let low : Bool = leb (records_end s) s.used in
    let high : Bool = leb s.used 65536 && leb s.minor 1 in
    let u = and_yes place (low && high) (and_yes (eqb s.turn k) (place && (low && high)) (rw w tt)).1 in
    let v = and_yes (leb s.used 65536) (leb s.minor 1) (and_yes low high u.1).1 in
    (leb→le s.used 65536 v.0, leb→le s.minor 1 v.1)

-- a state that a done begin, or a done call for a record or an unused position, returns waits for its next call; turn and position are u16
pub waiting_kept : (s : State) (k : ℕ) → s.turn < 65536 → s.position < 65536 → waits s k ≡ true → state_of (state_bytes s) ≡ s
waiting_kept s k t p w = let b = bounds s k w in state-kept s (t, p, omega (arith, b), omega (arith, b))

-- the state that a done finish returns
pub finished-kept : (s : State) → waits s finishing ≡ true → let x = moved s (turn finished 0) s.used s.minor in state_of (state_bytes x) ≡ x
finished-kept s w = let b = bounds s finishing w in state-kept (moved s (turn finished 0) s.used s.minor) (lit< tt, lit< tt, omega (arith, b), omega (arith, b))

-- a call that is made with the state of the caller's bytes
pub shown : (f : State → Outcome) (s : State) (before after buffer : List ℕ) (step : Step) (r : ℕ) → s ≡ state_of before → step ≡ (f s).step → buffer ≡ (f s).buffer
    → r ≡ packed step.answer → after ≡ state_after before step → Shown (f (state_of before)) before r after buffer
shown f s before after buffer step r e p q n a =
    let p' : step ≡ (f (state_of before)).step = p ∙ ap (λ (x : State). (f x).step) e in
    (n ∙ ap (λ (x : Step). packed x.answer) p', a ∙ ap (state_after before) p', q ∙ ap (λ (x : State). (f x).buffer) e)
