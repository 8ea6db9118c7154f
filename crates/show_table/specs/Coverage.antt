-- That nothing is forgotten: each field and each object of every layout stands in a line that loses nothing of it. Left aside are the bytes that have one right
-- value and a record's own index, which every accepted record has alike.
use Rattle.std.specs.Prelude.{Bool, true, false, ◌&&◌, ◌||◌, List, [], ◌∷◌, ◌≡◌, refl, ℕ, ◌+◌, length, take, drop, T, eqb, leb}
use Rattle.table.specs.declared.Region.{Region}
use Rattle.table.specs.Bytes.{pick, every, Edit}
use Rattle.table.specs.Layout.{Shape, Refs, none, plain, nest}
use Rattle.table.specs.FixedLayouts.{layout_of, header, control, host, hfi, ssns, security, discovery, info, extended, hfi_extended, no_kind}
use Rattle.show_table.specs.declared.forms.Form.{Form}
use Rattle.show_table.specs.declared.forms.Form.TheVariants.{Listed, Number, Uuid, Hex, Address, Server, Mac, Pci, Name, OrNull, OrOut, IfThere, Text, BytesText, Bytes, Positions}
use Rattle.show_table.specs.Shown.{Line, lines, lines_of, first_of}

-- how many bytes of a field can be told from a way of printing
abbrev told : Form → ℕ
told Listed = 4
told Number = 4
told Pci = 4
told OrNull = 4
told OrOut = 4
told IfThere = 4
told Mac = 6
told Uuid = 16
told Hex = 16
told Address = 16
told Server = 16
told Name = 16
told f = 0

-- from a way of printing all n bytes of a field can be told, or all bytes of an object
abbrev whole : ℕ → Form → Bool
whole n f = leb n (told f)

abbrev whole_object : Form → Bool
whole_object Text = true
whole_object BytesText = true
whole_object Bytes = true
whole_object Positions = true
whole_object f = false

-- a line shows what a record of kind k has at q, in a way that passes
abbrev shown : ℕ → ℕ → (Form → Bool) → List Line → Bool
shown k q passes [] = false
shown k q passes (l ∷ ls) = ((eqb l.row.kind k && eqb l.row.off q) && passes l.row.form) || shown k q passes ls

abbrev fixed_at : Region → List Edit → Bool
fixed_at r [] = false
fixed_at r (e ∷ es) = (leb e.at r.at && leb (r.at + r.len) (e.at + length e.put)) || fixed_at r es

-- one right value, or the index
abbrev known : Shape → Region → Bool
known s r = fixed_at r s.fixed || (eqb s.index.at r.at && eqb s.index.len r.len)

abbrev fields_shown : ℕ → Shape → Bool
fields_shown k s = every (λ (r : Region). known s r || shown k r.at (whole r.len) lines) s.fields

-- what a heap record has is shown by lines of its own kind
abbrev objects_shown : ℕ → Refs → Bool
objects_shown k none = true
objects_shown k (plain p need content rest) = shown k p whole_object lines && objects_shown k rest
objects_shown k (nest p need shape own rest) = objects_shown k rest

abbrev kinds : List ℕ
kinds = 0 ∷ 1 ∷ 2 ∷ 3 ∷ 4 ∷ 5 ∷ 6 ∷ 7 ∷ 9 ∷ 10 ∷ []

pub all_shown : T (every (λ (k : ℕ). fields_shown k (layout_of k).shape && objects_shown k (layout_of k).refs) kinds)
unfolding lines layout_of header control host hfi ssns security discovery info extended hfi_extended no_kind
all_shown = tt

-- each section stands where it is said to start
abbrev in_place : ℕ → List Line
in_place s = take (length (lines_of s)) (drop (first_of s) lines)

pub sections-in-place :
    (in_place 0 ≡ lines_of 0)
    × (in_place 1 ≡ lines_of 1)
    × (in_place 2 ≡ lines_of 2)
    × (in_place 3 ≡ lines_of 3)
    × (in_place 4 ≡ lines_of 4)
    × (in_place 5 ≡ lines_of 5)
    × (in_place 6 ≡ lines_of 6)
unfolding lines lines_of first_of
sections-in-place = (refl, refl, refl, refl, refl, refl, refl)
