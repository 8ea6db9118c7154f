-- The stages of the check behind the tests of the frame: of a table t, its heap lent as a part. Definitions only.
use Rattle.std.specs.Prelude.{List, ℕ, ◌+◌, get_or, eqb}
use Rattle.table.specs.declared.Answer.{Answer}
use Rattle.table.specs.declared.Region.{Region}
use Rattle.table.specs.Bytes.{pick, num, odd}
use Rattle.table.specs.FixedLayouts.{list_kinds}
use Rattle.table.specs.Objects.{read_body}
use Rattle.table.specs.Rules.{answer, body_rule, done}
use Rattle.table.specs.Looks.{looks_body}
use Rattle.laws.specs.ListWalk.{valid_in}
use Rattle.reader_lists.specs.Lists.{counts, used_fault, used_looks}

-- a number with its kind, outside lists
abbrev pub numbered : ℕ → ℕ → Answer
numbered n k = pick (eqb n 0) done (answer n k 0)

-- the host, wherever it stands
unfoldable pub host_fault : Region → List ℕ → Answer
host_fault heap t = pick (odd (get_or t (num t 72 4 + 1) 0)) (numbered (used_fault 2 heap t (num t 72 4) 0) 2) (answer 10 2 0)

-- the four lists
abbrev pub lists_fault : Region → List ℕ → Answer
lists_fault heap t = body_rule (valid_in t) (counts t) heap t 80 (read_body list_kinds t 80)

-- their looks
abbrev pub lists_looks : Region → List ℕ → ℕ
lists_looks heap t = looks_body (valid_in t) (counts t) heap t 80 (read_body list_kinds t 80)

-- those of the host: one where it is not valid
unfoldable pub host_looks : Region → List ℕ → ℕ
host_looks heap t = pick (odd (get_or t (num t 72 4 + 1) 0)) (used_looks 2 heap t (num t 72 4) 0) 1
