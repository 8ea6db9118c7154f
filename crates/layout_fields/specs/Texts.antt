-- Whether what an object holds is text. Definitions only.
use Rattle.std.specs.Prelude.{Bool, true, false}
use Rattle.table.specs.Layout.{Content, anything, text, positions}

abbrev pub is_of_text : Content → Bool
is_of_text anything = false
is_of_text text = true
is_of_text positions = false
