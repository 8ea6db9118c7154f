-- The lines of two tables as their reads tell them, record by record. Definitions only.
use Rattle.std.specs.Prelude.{Bool, ◌&&◌, List, [], ◌∷◌, ◌++◌, ℕ, zero, suc, eqb, leb}
use Rattle.table.specs.Bytes.{pick}
use Rattle.table.specs.FixedLayouts.{layout_of}
use Rattle.table.specs.Reads.{has_plain}
use Rattle.reads_seats.specs.Objects.{object_in}
use Rattle.reads_seats.specs.Told.{bytes_of, count_of, depth, image_of, inner_kind}
use Rattle.changes.specs.Changes.{Line, object_line, only_on, record_lines, used_on}

-- the object at offset q of the records of kind k and position n, if a reference to one stands there
abbrev pub plain_lines : List ℕ → List ℕ → ℕ → ℕ → ℕ → List Line
plain_lines t u k n q = pick (has_plain q (layout_of k).refs) (object_line k n q (object_in t k n q) (object_in u k n q)) []

-- fields and objects of these records
unfoldable pub own_lines : List ℕ → List ℕ → ℕ → ℕ → List Line
own_lines t u k n = record_lines k n (layout_of k).shape (bytes_of (image_of t k n)) (bytes_of (image_of u k n)) (plain_lines t u k n)

-- the heap record that these name, and, as deep as d, what that names in its turn
unfoldable pub held_lines : List ℕ → List ℕ → ℕ → ℕ → ℕ → List Line
held_lines t u zero k n = []
held_lines t u (suc d) k n =
    let i = inner_kind k in
    pick (eqb (image_of t i n).answer.number 0)
    (pick (eqb (image_of u i n).answer.number 0) (own_lines t u i n ++ held_lines t u d i n) (only_on i n 1 ∷ []))
    (pick (eqb (image_of u i n).answer.number 0) (only_on i n 2 ∷ []) [])

-- whether both tables have the record of kind i and position n
abbrev pub both_there : List ℕ → List ℕ → ℕ → ℕ → Bool
both_there t u i n = eqb (image_of t i n).answer.number 0 && eqb (image_of u i n).answer.number 0

-- one level of it: the heap record of kind i, without what that names
unfoldable pub level_lines : List ℕ → List ℕ → ℕ → ℕ → List Line
level_lines t u i n =
    pick (eqb (image_of t i n).answer.number 0)
    (pick (eqb (image_of u i n).answer.number 0) (own_lines t u i n) (only_on i n 1 ∷ []))
    (pick (eqb (image_of u i n).answer.number 0) (only_on i n 2 ∷ []) [])

-- all of it: in every kind the reference to a heap record is the last of what a record has
unfoldable pub whole_lines : List ℕ → List ℕ → ℕ → ℕ → List Line
whole_lines t u k n = own_lines t u k n ++ held_lines t u (depth k) k n

-- records that both tables have, used or not
unfoldable pub pair_lines : List ℕ → List ℕ → ℕ → ℕ → List Line
pair_lines t u k n =
    pick (image_of t k n).used
    (pick (image_of u k n).used (whole_lines t u k n) (used_on k n 1 ∷ []))
    (pick (image_of u k n).used (used_on k n 2 ∷ []) [])

-- position n of list k
unfoldable pub position_lines : List ℕ → List ℕ → ℕ → ℕ → List Line
position_lines t u k n =
    pick (leb n (count_of t k)) (pick (leb n (count_of u k)) (pair_lines t u k n) (only_on k n 1 ∷ [])) (only_on k n 2 ∷ [])

-- m positions of list k from n on
unfoldable pub list_lines_from : List ℕ → List ℕ → ℕ → ℕ → ℕ → List Line
list_lines_from t u k n zero = []
list_lines_from t u k n (suc m) = position_lines t u k n ++ list_lines_from t u k (suc n) m

-- the greater of two counts
abbrev pub longer : ℕ → ℕ → ℕ
longer zero d = d
longer (suc c) zero = suc c
longer (suc c) (suc d) = suc (longer c d)

-- how many positions of list k one of the tables has
abbrev pub most_of : List ℕ → List ℕ → ℕ → ℕ
most_of t u k = longer (count_of t k) (count_of u k)

-- the lists from the one of kind k on, m of them
unfoldable pub lists_from : List ℕ → List ℕ → ℕ → ℕ → List Line
lists_from t u k zero = []
lists_from t u k (suc m) = list_lines_from t u k 1 (most_of t u k) ++ lists_from t u (suc k) m

-- counts, header, host, and the four lists
unfoldable pub all_lines : List ℕ → List ℕ → List Line
all_lines t u = own_lines t u 1 0 ++ (whole_lines t u 0 0 ++ (pair_lines t u 2 0 ++ lists_from t u 3 4))
