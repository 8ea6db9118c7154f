-- The references of a kind by what they name. In every kind those to objects come first. Definitions only.
use Rattle.std.specs.Prelude.{List, [], ◌∷◌, ℕ}
use Rattle.table.specs.Layout.{Refs, none, plain, nest}

-- where those to objects stand
abbrev pub object_refs : Refs → List ℕ
object_refs none = []
object_refs (plain p need content rest) = p ∷ object_refs rest
object_refs (nest p need shape own rest) = object_refs rest

-- where that to a heap record stands, if there is one
abbrev pub held_refs : Refs → List ℕ
held_refs none = []
held_refs (plain p need content rest) = held_refs rest
held_refs (nest p need shape own rest) = p ∷ held_refs rest
