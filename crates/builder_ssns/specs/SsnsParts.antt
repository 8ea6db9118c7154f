-- An SSNS record and its extended info, which is there only under a flag. Definitions only.
use Rattle.std.specs.Prelude.{List, [], ◌∷◌, ℕ, ◌+◌, length, eqb}
use Rattle.table.specs.declared.Need.{Need}
use Rattle.table.specs.declared.Need.TheVariants.{Ignored, Optional, Required}
use Rattle.table.specs.declared.State.{State}
use Rattle.table.specs.Bytes.{pick, bits}
use Rattle.table.specs.Layout.{Slots, nil, bytes, gone, rec, base_of, anything, text, positions, are_positions}
use Rattle.table.specs.FixedLayouts.{when_set, ssns, extended}
use Rattle.table.specs.Objects.{under}
use Rattle.table.specs.Rules.{first_of}
use Rattle.table.specs.Builder.{Outcome}
use Rattle.laws.specs.Fields.{image_in}
use Rattle.bytes_writer.proofs.StoreLaws.{concat}
use Rattle.builder_writers.specs.Written.{record_with}
use Rattle.laws.specs.TextLaws.{told_fault}
use Rattle.builder_record.specs.Steps.{laid}
use Rattle.builder_record.specs.Calls.{path_told}

-- img is the image of an SSNS record
unfoldable pub own_need : List ℕ → Need
own_need img = pick (eqb (bits 3 2 4 4 img) 0) Ignored Optional

-- the fault of the secondary HFI indexes, where so many HFIs are told
abbrev pub others_fault : (hfis : ℕ) (others : List ℕ) → ℕ
others_fault hfis others = first_of (told_fault Optional positions others) (pick (are_positions hfis others) 0 20)

-- the first fault of its objects
abbrev pub ssns_fault : (img : List ℕ) (hfis : ℕ) (address service others nqn path : List ℕ) → ℕ
ssns_fault img hfis address service others nqn path =
    first_of (told_fault Required anything address)
    (first_of (told_fault Required anything service)
    (first_of (others_fault hfis others) (first_of (told_fault Required text nqn) (told_fault (own_need img) text path))))

-- what it names: own is the image of the extended info
unfoldable pub ssns_slots : (img address service others nqn own path : List ℕ) → Slots ssns.refs
unfolding ssns
ssns_slots img address service others nqn own path =
    bytes address (bytes service (bytes others (bytes nqn (under (when_set 3 2 4 4 img) (gone nil) (rec own (path_told path) nil)))))

-- how many bytes the extended info and its object take: none where its size is 0
unfoldable pub extended_size : (size : ℕ) (path : List ℕ) → ℕ
extended_size size path = pick (eqb size 0) 0 (base_of extended + length path)

-- the extended info, which has the bytes own, at a place, and its object
unfoldable pub extended_part : (own : List ℕ) (place size : ℕ) (path : List ℕ) → List ℕ
extended_part own place size path =
    pick (eqb size 0) [] (concat (record_with extended own (place + base_of extended) (length path ∷ []) (length path ∷ []) ∷ path ∷ []))

-- with the objects before it, from next on
unfoldable pub named_part : (next : ℕ) (address service others nqn : List ℕ) (size : ℕ) (own path : List ℕ) → List ℕ
named_part next address service others nqn size own path =
    let place = next + length address + length service + length others + length nqn in
    concat (address ∷ service ∷ others ∷ nqn ∷ extended_part own place size path ∷ [])

-- what is told of the record and what it names laid into the buffer, where there is room: own are the bytes of the extended info
unfoldable pub laid_ssns : State → (buffer told own address service others nqn path : List ℕ) → Outcome
laid_ssns s buffer told own address service others nqn path =
    let img = image_in ssns told 0 in
    laid ssns s buffer told (ssns_slots img address service others nqn (image_in extended own 0) path)
