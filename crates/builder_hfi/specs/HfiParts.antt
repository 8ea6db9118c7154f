-- An HFI's transport info and what this names: the host name and, where it is there, the HFI extended info with its objects. Definitions only.
use Rattle.std.specs.Prelude.{Bool, List, [], ◌∷◌, ℕ, ◌+◌, length}
use Rattle.table.specs.declared.Need.{Need}
use Rattle.table.specs.declared.Need.TheVariants.{Ignored, Optional}
use Rattle.table.specs.declared.State.{State}
use Rattle.table.specs.Bytes.{pick}
use Rattle.table.specs.Layout.{Slots, base_of, anything, text}
use Rattle.table.specs.FixedLayouts.{info_rule, identity_rule, when_set, hfi, info, hfi_extended}
use Rattle.table.specs.Objects.{under}
use Rattle.table.specs.Rules.{first_of}
use Rattle.table.specs.Builder.{Outcome}
use Rattle.laws.specs.Fields.{image_in}
use Rattle.bytes_writer.proofs.StoreLaws.{concat}
use Rattle.builder_writers.specs.Written.{record_with}
use Rattle.laws.specs.TextLaws.{told_fault}
use Rattle.builder_record.specs.Steps.{laid}
use Rattle.builder_record.specs.Calls.{hfi_told}

-- the need for the objects of the HFI extended info, whose image is img
unfoldable pub own_need : (there : Bool) (img : List ℕ) → Need
own_need there img = pick there (when_set 4 4 1 1 img) Ignored

-- the fault of the heap records by their images: 0 or 12
unfoldable pub own_fault : (own : List ℕ) (there : Bool) (extended : List ℕ) → ℕ
own_fault own there extended = first_of (pick (info_rule [] own) 0 12) (pick there (pick (identity_rule own extended) 0 12) 0)

-- the first fault of the objects
abbrev pub hfi_fault : (name : List ℕ) (need : Need) (iaid duid : List ℕ) → ℕ
hfi_fault name need iaid duid = first_of (told_fault Optional text name) (first_of (told_fault need anything iaid) (told_fault need anything duid))

-- what is named: own and extended are images
unfoldable pub hfi_slots : (own name : List ℕ) (there : Bool) (extended iaid duid : List ℕ) → Slots hfi.refs
hfi_slots own name there extended iaid duid =
    let need = own_need there extended in
    hfi_told own name there extended (under need [] iaid) (under need [] duid)

-- how many bytes the HFI extended info and its objects take
unfoldable pub identity_size : (there : Bool) (iaid duid : List ℕ) → ℕ
identity_size there iaid duid = pick there (base_of hfi_extended) 0 + (length iaid + length duid)

-- the HFI extended info, which has the bytes extended, at a place, and its objects
unfoldable pub identity_part : (extended : List ℕ) (place : ℕ) (there : Bool) (iaid duid : List ℕ) → List ℕ
identity_part extended place there iaid duid =
    let lengths = length iaid ∷ length duid ∷ [] in
    pick there (concat (record_with hfi_extended extended (place + base_of hfi_extended) lengths lengths ∷ iaid ∷ duid ∷ [])) []

-- the transport info, which has the bytes own, at a place, and what it names
unfoldable pub info_part : (own : List ℕ) (place : ℕ) (name : List ℕ) (there : Bool) (extended iaid duid : List ℕ) → List ℕ
info_part own place name there extended iaid duid =
    let next = place + base_of info in
    let lengths = length name ∷ pick there (base_of hfi_extended) 0 ∷ [] in
    let spans = length name ∷ identity_size there iaid duid ∷ [] in
    concat (record_with info own next lengths spans ∷ name ∷ identity_part extended (next + length name) there iaid duid ∷ [])

-- what is told of the HFI and what it names laid into the buffer, where there is room: own and extended are the bytes of the heap records
unfoldable pub laid_hfi : State → (buffer told own name : List ℕ) (there : Bool) (extended iaid duid : List ℕ) → Outcome
laid_hfi s buffer told own name there extended iaid duid =
    laid hfi s buffer told (hfi_slots (image_in info own 0) name there (image_in hfi_extended extended 0) iaid duid)
