-- What a reference is, for each case its number: the definitions of the answer `Ref`. Definitions only.
use Rattle.std.specs.Prelude.{Bool, ◌&&◌, List, [], ◌∷◌, ℕ, ◌-◌, length, eqb}
use Rattle.table.specs.declared.Region.{Region}
use Rattle.table.specs.declared.Need.{Need}
use Rattle.table.specs.declared.Need.TheVariants.{Ignored, Optional, Required}
use Rattle.table.specs.Bytes.{pick, part}
use Rattle.table.specs.Layout.{are_positions, is_text, region}
use Rattle.table.specs.Objects.{under}
use Rattle.table.specs.Rules.{first_of, reaches, ref_rule}
use Rattle.reader_references.specs.declared.Ref.{Ref}
use Rattle.reader_references.specs.declared.Ref.TheVariants.{Absent, Wrong, Part}

-- the reference with these halves
unfoldable pub ref_of : Region → ℕ → ℕ → Ref
ref_of heap off len = pick (eqb off 0 && eqb len 0) Absent (pick (reaches heap off len) (Part off len) Wrong)

-- its number under a need: 0 or 11
unfoldable pub ref_number : Need → Ref → ℕ
ref_number Ignored r = 0
ref_number Optional Absent = 0
ref_number Optional Wrong = 11
ref_number Optional (Part at len) = 0
ref_number Required Absent = 11
ref_number Required Wrong = 11
ref_number Required (Part at len) = 0

-- the bytes that it names, in a heap that is lent as the part from `from` on; none where it is absent or wrong
unfoldable pub part_in : List ℕ → ℕ → ℕ → ℕ → List ℕ
part_in heap from off len = pick (reaches (region from (length heap)) off len) (part heap (off - from) len) []

-- the reference with the halves r to an object, of whose bytes `asks` says the number, under a need
abbrev pub asked_rule : Need → (asks : List ℕ → ℕ) → (heap : List ℕ) (from : ℕ) → Region → ℕ
asked_rule need asks heap from r = first_of (ref_rule (region from (length heap)) need r.at r.len) (under need 0 (asks (part_in heap from r.at r.len)))

-- what is asked of text that is present: 0 or 18
abbrev pub text_rule : List ℕ → ℕ
text_rule [] = 0
text_rule (b ∷ bs) = pick (is_text (b ∷ bs)) 0 18

-- the reference with the halves r to an object, which is text or any bytes, under a need: 0, 11 or 18
unfoldable pub object_rule : Need → Bool → (heap : List ℕ) (from : ℕ) → Region → ℕ
object_rule need is_text heap from r = asked_rule need (λ b. pick is_text (text_rule b) 0) heap from r

-- what is asked of positions, of which there are `most`: 0 or 20
abbrev pub positions_rule : ℕ → List ℕ → ℕ
positions_rule most b = pick (are_positions most b) 0 20
