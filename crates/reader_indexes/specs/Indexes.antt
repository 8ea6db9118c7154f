-- The rules of a record's references and indexes as the code walks them: of a table t, its heap lent as a part. Definitions only.
use Rattle.std.specs.Prelude.{◌≡◌, List, [], ℕ, ◌/◌, ◌%◌, get_or, eqb}
use Rattle.table.specs.declared.Region.{Region}
use Rattle.table.specs.declared.Found.{Found}
use Rattle.table.specs.Bytes.{num}
use Rattle.table.specs.Layout.{Index, index, unless}
use Rattle.table.specs.FixedLayouts.{layout_of, ssns}
use Rattle.table.specs.Objects.{read_slots}
use Rattle.table.specs.Rules.{refs_rule}
use Rattle.laws.specs.Fields.{image_in}
use Rattle.laws.specs.IndexLaws.{found_by}
use Rattle.laws.specs.ListWalk.{valid_in, env_in}

-- the references of the record at a, of kind k
unfoldable pub refs_fault : ℕ → Region → List ℕ → ℕ → ℕ → ℕ
refs_fault k heap t a pos = refs_rule heap (env_in t pos) t a (image_in (layout_of k) t a) (layout_of k).refs

-- they have passed
pub record RefsPass (k : ℕ) (heap : Region) (t : List ℕ) (a pos : ℕ) : Type 0 where
  pub passed : refs_fault k heap t a pos ≡ 0

-- the indexes of the record at a, of kind k, and what they give
unfoldable pub indexes_in : ℕ → List ℕ → ℕ → List Index
indexes_in k t a = (layout_of k).indexes (image_in (layout_of k) t a) (read_slots t a (image_in (layout_of k) t a) (layout_of k).refs)

unfoldable pub names_found : ℕ → List ℕ → ℕ → Found
names_found k t a = found_by (valid_in t) (indexes_in k t a)

-- their number: 0 or 13
abbrev pub names_rule : ℕ → List ℕ → ℕ → ℕ
names_rule k t a = (names_found k t a).number

-- the security index of the SSNS record at a, if its flag asks for it
unfoldable pub security_index : List ℕ → ℕ → List Index
security_index t a = unless (eqb (num (image_in ssns t a) 3 2 / 4 % 2) 0) (index 5 (get_or (image_in ssns t a) 45 0)) []
