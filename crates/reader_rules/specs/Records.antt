-- The rule of a record's own fields: 10 where one is wrong; and its part without the two-bit fields, by what code reads. Definitions only.
use Rattle.std.specs.Prelude.{Bool, ◌&&◌, List, ℕ, eqb}
use Rattle.table.specs.Bytes.{pick, num}
use Rattle.table.specs.Layout.{Shape, fixed_right, is_right}
use Rattle.table.specs.FixedLayouts.{layout_of}
use Rattle.laws.specs.Fields.{image_in}
use Rattle.laws.specs.ListWalk.{env_in}

unfoldable pub right_rule : ℕ → List ℕ → ℕ → ℕ → ℕ
right_rule k t a pos = pick (is_right (layout_of k).shape (env_in t pos) (image_in (layout_of k) t a)) 0 10

-- ID, type and index of a record's image
abbrev pub named_in : Shape → List ℕ → ℕ → Bool
named_in s img pos = fixed_right s.fixed img && eqb (num img s.index.at s.index.len) pos

unfoldable pub named_rule : ℕ → List ℕ → ℕ → ℕ → ℕ
named_rule k t a pos = pick (named_in (layout_of k).shape (image_in (layout_of k) t a) pos) 0 10

unfoldable pub is_named : ℕ → ℕ → ℕ → ℕ → ℕ → Bool
is_named kind id transport index pos = eqb id kind && (eqb transport 3 && eqb index pos)
