-- A builder's state as 16 bytes, and what a call of the builder leaves behind, for callers in C. Definitions only.
use Rattle.std.specs.Prelude.{◌≡◌, List, ◌∷◌, ◌++◌, ℕ, ◌<◌, get_or, eqb}
use Rattle.table.specs.declared.State.{State}
use Rattle.table.specs.declared.Step.{Step}
use Rattle.table.specs.Bytes.{pick, num, le}
use Rattle.table.specs.Builder.{Outcome}
use Rattle.c_answers.specs.Packed.{packed}

-- turn, position, counts, bytes used, header minor
unfoldable pub state_of : List ℕ → State
state_of b = record {
  turn = num b 0 2;
  position = num b 2 2;
  hfi = get_or b 4 0;
  ssns = get_or b 5 0;
  security = get_or b 6 0;
  discovery = get_or b 7 0;
  used = num b 8 4;
  minor = num b 12 4;
}

unfoldable pub state_bytes : State → List ℕ
state_bytes s = le 2 s.turn ++ (le 2 s.position ++ (s.hfi ∷ s.ssns ∷ s.security ∷ s.discovery ∷ (le 4 s.used ++ le 4 s.minor)))

-- a refused call leaves the caller's 16 bytes as they were
unfoldable pub state_after : List ℕ → Step → List ℕ
state_after before s = pick (eqb s.answer.number 0) (state_bytes s.state) before

-- what C sees of an outcome: the number r, the 16 bytes of the state, and the buffer
abbrev pub Shown : Outcome → (before : List ℕ) → (r : ℕ) → (after buffer : List ℕ) → Type 0
Shown o before r after buffer = (r ≡ packed o.step.answer) × (after ≡ state_after before o.step) × (buffer ≡ o.buffer)

-- counts are bytes
abbrev pub SmallState : State → Type 0
SmallState s = (s.hfi < 256) × (s.ssns < 256) × (s.security < 256) × (s.discovery < 256)
