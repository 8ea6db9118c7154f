-- The rules of records and lists as the code walks them: of a table t, its heap lent as a part. Definitions only.
use Rattle.std.specs.Prelude.{List, ℕ, ◌+◌, get_or}
use Rattle.table.specs.declared.Answer.{Answer}
use Rattle.table.specs.declared.Region.{Region}
use Rattle.table.specs.Bytes.{num}
use Rattle.table.specs.FixedLayouts.{layout_of, list_kinds}
use Rattle.table.specs.Objects.{read_body, count_in}
use Rattle.laws.specs.ListWalk.{valid_in, env_in, used_it, record_rule, walk}
use Rattle.laws.specs.LookLaws.{looks_it, looks_record, looks_walk}

-- a used record, a record, and a list of them
unfoldable pub used_fault : ℕ → Region → List ℕ → ℕ → ℕ → ℕ
used_fault k heap t a pos = used_it (layout_of k) (valid_in t) heap (env_in t pos) t a

unfoldable pub record_fault : ℕ → Region → List ℕ → ℕ → ℕ → ℕ
record_fault k heap t a pos = record_rule (layout_of k) (valid_in t) heap (env_in t pos) t a

unfoldable pub counts : List ℕ → ℕ → ℕ
counts t = count_in (read_body list_kinds t 80)

unfoldable pub list_from : ℕ → Region → List ℕ → ℕ → ℕ → ℕ → ℕ → Answer
list_from k heap t step pos a n = walk (layout_of k) (valid_in t) (counts t) heap t step pos a n

-- the list whose entry in the control record stands at c
unfoldable pub list_fault : ℕ → Region → List ℕ → ℕ → Answer
list_fault k heap t c = list_from k heap t (num t (c + 4) 2) 1 (num t c 4) (get_or t (c + 7) 0)

-- ---- how many looks they take

unfoldable pub used_looks : ℕ → Region → List ℕ → ℕ → ℕ → ℕ
used_looks k heap t a pos = looks_it (layout_of k) (valid_in t) heap (env_in t pos) t a

unfoldable pub record_looks : ℕ → Region → List ℕ → ℕ → ℕ → ℕ
record_looks k heap t a pos = looks_record (layout_of k) (valid_in t) heap (env_in t pos) t a

unfoldable pub from_looks : ℕ → Region → List ℕ → ℕ → ℕ → ℕ → ℕ → ℕ
from_looks k heap t step pos a n = looks_walk (layout_of k) (valid_in t) (counts t) heap t step pos a n

unfoldable pub list_looks : ℕ → Region → List ℕ → ℕ → ℕ
list_looks k heap t c = from_looks k heap t (num t (c + 4) 2) 1 (num t c 4) (get_or t (c + 7) 0)
