-- What one walk over the groups finds, from the last group to the first: all that Addresses asks about zero groups. Assumes nothing.
use Rattle.std.specs.Prelude.{cond, List, [], ◌∷◌, ℕ, ◌+◌, eqb, leb}
use Rattle.text_addresses.specs.declared.Runs.{Runs}

-- one group more in front
abbrev pub first_with : ℕ → ℕ → ℕ
first_with g n = cond (eqb g 0) (n + 1) 0

unfoldable pub joined : ℕ → Runs → Runs
joined g r =
    cond (leb r.len (first_with g r.first))
    (record { first = first_with g r.first; at = 0; len = first_with g r.first })
    (record { first = first_with g r.first; at = r.at + 1; len = r.len })

unfoldable pub runs_of : List ℕ → Runs
runs_of [] = record { first = 0; at = 0; len = 0 }
runs_of (g ∷ gs) = joined g (runs_of gs)
