-- Where a state stands in a build, and what comes behind the list whose turn it is. Definitions only.
use Rattle.std.specs.Prelude.{Bool, ◌||◌, [], ◌∷◌, ℕ, eqb}
use Rattle.table.specs.declared.State.{State}
use Rattle.table.specs.Bytes.{pick}
use Rattle.table.specs.FixedLayouts.{list_kinds}
use Rattle.table.specs.Builder.{Turn, turn, first_turn, finishing, in_list}

-- host and finish have no position, the others one of their list
abbrev pub in_place : State → ℕ → Bool
in_place s k = pick (eqb k 2 || eqb k finishing) (eqb s.position 0) (in_list s)

-- the lists up to that of kind k are over and count as empty; h, n, c, d records there are
abbrev pub later_of : ℕ → ℕ → ℕ → ℕ → ℕ → Turn
later_of k h n c d =
    pick (eqb k 2) (first_turn list_kinds (h ∷ n ∷ c ∷ d ∷ []))
    (pick (eqb k 3) (first_turn list_kinds (0 ∷ n ∷ c ∷ d ∷ []))
    (pick (eqb k 4) (first_turn list_kinds (0 ∷ 0 ∷ c ∷ d ∷ []))
    (pick (eqb k 5) (first_turn list_kinds (0 ∷ 0 ∷ 0 ∷ d ∷ [])) (turn finishing 0))))

unfoldable pub later_turn : State → Turn
later_turn s = later_of s.turn s.hfi s.ssns s.security s.discovery
