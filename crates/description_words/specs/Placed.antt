-- Where the value of a word may go: bounds within which a section is kept while it is read. Definitions only.
use Rattle.std.specs.Prelude.{◌+◌, ◌≤◌}
use Rattle.description_words.specs.declared.Place.{Place}

-- a field lies in a record or in the heap record that it names, and no record has more than six objects
abbrev pub Placed : Place → Type 0
Placed p = (p.at ≤ 255) × (p.at + p.width ≤ 256) × (p.width ≤ 16) × (p.slot ≤ 5)
