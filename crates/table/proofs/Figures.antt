-- The figures of all layouts, held to themselves: where each line begins, which lines are references, and that index, flags and fixed bytes are fields of theirs.
-- Assumes nothing.
use mathlib.Core.Bool.{Bool, true, false, ◌&&◌, ◌||◌}
use mathlib.Core.Path.{◌≡◌, refl}
use mathlib.Core.List.{List, [], ◌∷◌}
use Prim.Native.Nat.{ℕ, ◌+◌}
use lib.ListN.{length}
use lib.Dec.{T, eqb}
use Rattle.table.specs.declared.Region.{Region}
use Rattle.table.specs.Bytes.{pick, same, Edit}
use Rattle.table.specs.Layout.{Stretch, field, flags, flags_if, only_if, reference, frame, reserved, counting, Line, region, offsets, no_further, Layout}
use Rattle.table.specs.FixedLayouts.{header, control, host, info, extended, hfi_extended, hfi, ssns, security, discovery}

-- whether the first of the lines begins at place a, and each other where the one before it ends
abbrev in_place : ℕ → List Line → Bool
in_place a [] = true
in_place a (l ∷ ls) = eqb l.first a && in_place (a + length (counting l.stretch)) ls

abbrev is_reference : Stretch → Bool
is_reference (field n) = false
is_reference (flags n b) = false
is_reference (flags_if n b f d m) = false
is_reference (only_if n f b) = false
is_reference reference = true
is_reference (frame n) = false
is_reference (reserved n) = false

-- the first bytes of the lines that are references
abbrev reference_lines : List Line → List ℕ
reference_lines [] = []
reference_lines (l ∷ ls) = pick (is_reference l.stretch) (l.first ∷ reference_lines ls) (reference_lines ls)

-- whether x is one of the fields
abbrev among : Region → List Region → Bool
among x [] = false
among x (y ∷ ys) = (eqb x.at y.at && eqb x.len y.len) || among x ys

-- the same of an index or flags that a kind may lack
abbrev placed : Region → List Region → Bool
placed x fs = eqb x.len 0 || among x fs

-- whether each byte of a value, from place a on, is a field of its own
abbrev singles : ℕ → List ℕ → List Region → Bool
singles a [] fs = true
singles a (b ∷ bs) fs = among (region a 1) fs && singles (a + 1) bs fs

abbrev fixed_fields : List Edit → List Region → Bool
fixed_fields [] fs = true
fixed_fields (e ∷ es) fs = singles e.at e.put fs && fixed_fields es fs

abbrev drawn : Layout → Bool
drawn l =
    in_place 0 l.shape.lines
    && (same (reference_lines l.shape.lines) (offsets l.refs)
    && (placed l.shape.index l.shape.fields
    && (placed l.shape.flags l.shape.fields && fixed_fields l.shape.fixed l.shape.fields)))

abbrev all_drawn : List Layout → Bool
all_drawn [] = true
all_drawn (l ∷ ls) = drawn l && all_drawn ls

-- In every figure the lines stand where they say, the first at 0, with no gap and no overlap; the references are just those of the layout; index, flags and fixed
-- bytes are fields
pub figures-in-place : T (all_drawn (header ∷ control ∷ host ∷ hfi ∷ ssns ∷ security ∷ discovery ∷ info ∷ extended ∷ hfi_extended ∷ []))
unfolding header control host hfi ssns security discovery info extended hfi_extended
figures-in-place = tt

-- a further rule is asked of heap records alone, so that no other kind may have one
abbrev AskNothing : List Layout → Type 0
AskNothing [] = Unit {0}
AskNothing (l ∷ ls) = (l.shape.further ≡ no_further) × AskNothing ls

pub heap-records-ask : AskNothing (header ∷ control ∷ host ∷ hfi ∷ ssns ∷ security ∷ discovery ∷ [])
unfolding header control host hfi ssns security discovery
heap-records-ask = (refl, (refl, (refl, (refl, (refl, (refl, (refl, tt)))))))
