-- A call that is told a record, in two halves: the tests of what is told, then room and bytes. Definitions only.
use Rattle.std.specs.Prelude.{List, [], ◌∷◌, ℕ, ◌+◌, length, eqb}
use Rattle.table.specs.declared.State.{State}
use Rattle.table.specs.Layout.{Layout, Slots, pairs_right}
use Rattle.table.specs.Rules.{Test, test, first_fail}
use Rattle.table.specs.Objects.{size_of}
use Rattle.table.specs.Builder.{Outcome, outcome, waits, next, place_of, placed, room_tests}
use Rattle.laws.specs.Fields.{image_in}

-- 15 and 10, then the fault of a rule of the builder's own (12: a further rule of the record's heap records), then the first fault of the objects; 0 is none
abbrev pub judge_tests : (l : Layout) → State → List ℕ → (own objects : ℕ) → List Test
judge_tests l s img own objects =
    test (waits s l.kind) 15 0 0
    ∷ test (pairs_right l.shape img) 10 l.kind s.position
    ∷ test (eqb own 0) own l.kind s.position
    ∷ test (eqb objects 0) objects l.kind s.position
    ∷ []

-- 17 and 14; where there is room, what is told of the record in its own part of the buffer, and what it names behind the bytes used
unfoldable pub laid : (l : Layout) → State → (buffer told : List ℕ) → Slots l.refs → Outcome
laid l s buffer told slots =
    outcome (first_fail (room_tests (s.used + size_of slots) (length buffer))) s (next s (size_of slots) (l.newer slots)) buffer
    (placed buffer (place_of s l) s.used (image_in l told 0) slots)
