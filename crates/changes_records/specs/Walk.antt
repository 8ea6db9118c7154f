-- A walk over the places of two tables: the counts, the header, the host, and the positions of each list. Definitions only.
use Rattle.std.specs.Prelude.{List, [], ◌++◌, ℕ, ◌+◌, ◌-◌, ◌*◌, eqb, ltb}
use Rattle.table.specs.Bytes.{pick}
use Rattle.changes.specs.Changes.{Line}
use Rattle.changes_records.specs.declared.places.Walk.{Walk}
use Rattle.changes_records.specs.Told.{list_lines_from, lists_from, most_of, own_lines, pair_lines, position_lines, whole_lines}

abbrev pub walk : ℕ → ℕ → Walk
walk l n = record { list = l; position = n }

abbrev pub begun : Walk
begun = walk 0 0

-- what stands at a place: none behind the last position of a list
unfoldable pub lines_at : List ℕ → List ℕ → Walk → List Line
lines_at t u w =
    pick (eqb w.list 0) (own_lines t u 1 0)
    (pick (eqb w.list 1) (whole_lines t u 0 0)
    (pick (eqb w.list 2) (pair_lines t u 2 0)
    (pick (ltb w.position (most_of t u w.list)) (position_lines t u w.list (w.position + 1)) [])))

unfoldable pub next_of : List ℕ → List ℕ → Walk → Walk
next_of t u w =
    pick (ltb w.list 3) (walk (w.list + 1) 0)
    (pick (ltb w.position (most_of t u w.list)) (walk w.list (w.position + 1)) (walk (w.list + 1) 0))

-- the lines from a place on
unfoldable pub rest_of : List ℕ → List ℕ → Walk → List Line
rest_of t u w =
    let lists = lists_from t u 3 4 in
    pick (eqb w.list 0) (own_lines t u 1 0 ++ (whole_lines t u 0 0 ++ (pair_lines t u 2 0 ++ lists)))
    (pick (eqb w.list 1) (whole_lines t u 0 0 ++ (pair_lines t u 2 0 ++ lists))
    (pick (eqb w.list 2) (pair_lines t u 2 0 ++ lists)
    (list_lines_from t u w.list (w.position + 1) (most_of t u w.list - w.position) ++ lists_from t u (w.list + 1) (6 - w.list))))

-- more than the steps that are left: a list has at most 255 positions
unfoldable pub left : Walk → ℕ
left w = 1000 * (7 - w.list) + (1000 - w.position)
