-- The rules of a heap record by the numbers that code reads from it: its own fields, valid bit first; its references, by its own bytes. Definitions only.
use Rattle.std.specs.Prelude.{Bool, true, ◌&&◌, ◌||◌, List, [], ℕ, ◌/◌, ◌%◌, length, get_or, eqb}
use Rattle.table.specs.declared.Region.{Region}
use Rattle.table.specs.declared.Need.{Need}
use Rattle.table.specs.declared.Need.TheVariants.{Optional}
use Rattle.table.specs.Bytes.{odd, pick}
use Rattle.table.specs.Layout.{Env, env, image, offsets, reference_at, region, Refs, Shape}
use Rattle.table.specs.FixedLayouts.{layout_of, info, hfi_extended}
use Rattle.table.specs.Rules.{first_of, ref_rule}
use Rattle.table.specs.Reads.{content_at, need_at}
use Rattle.laws.specs.Fields.{image_in}
use Rattle.laws.specs.RefWalk.{first_over, sound_rule}
use Rattle.layout_needs.specs.Needs.{plain_need}
use Rattle.layout_fields.specs.Texts.{is_of_text}
use Rattle.reader_references.specs.References.{part_in, object_rule}

-- a position in a list, where counts do not matter
unfoldable pub spot : ℕ → Env
spot pos = env (λ k. 0) pos

-- ---- its own fields

unfoldable pub sound_by : (kind flags id version transport index pos : ℕ) (further : Bool) → Bool
sound_by kind flags id version transport index pos further =
    odd flags && ((eqb id kind && (eqb version 1 && (eqb transport 3 && (eqb index pos && true)))) && further)

-- the further rule of an info
unfoldable pub info_right : (version flags origin : ℕ) → Bool
info_right version flags origin = (eqb version 1 || eqb version 2) && (eqb (flags / 8 % 2) 0 || (eqb (flags / 4 % 2) 0 && eqb origin 0))

-- that of an HFI extended info
unfoldable pub identity_right : (flags origin : ℕ) → Bool
identity_right flags origin = eqb (flags / 2 % 2) 0 || eqb origin 3

-- ---- the references of one that names objects alone

unfoldable pub own_need : ℕ → List ℕ → ℕ → Need
own_need k x q = pick (eqb k 10) (need_at q hfi_extended.refs (image_in hfi_extended x 0)) (plain_need k q)

-- the reference at q of a heap record of kind k, whose bytes are x; the heap is lent, its first byte is the table's byte `from`
unfoldable pub own_fault : ℕ → (heap : List ℕ) (from : ℕ) → List ℕ → ℕ → ℕ
own_fault k heap from x q = object_rule (own_need k x q) (is_of_text (content_at q (layout_of k).refs)) heap from (reference_at x q)

-- all of them
unfoldable pub own_faults : ℕ → (heap : List ℕ) (from : ℕ) → List ℕ → ℕ
own_faults k heap from x = first_over (own_fault k heap from x) (offsets (layout_of k).refs)

-- the reference at q to an object, of a heap record with the references rs, whose image is img and whose bytes are x
abbrev pub object_in : (heap : List ℕ) (from : ℕ) (rs : Refs) (img x : List ℕ) → ℕ → ℕ
object_in heap from rs img x q = object_rule (need_at q rs img) (is_of_text (content_at q rs)) heap from (reference_at x q)

-- the whole of one, by its own bytes x
unfoldable pub flat_part : (heap : List ℕ) (from pos : ℕ) (shape : Shape) (rs : Refs) (owner x : List ℕ) → ℕ
flat_part heap from pos shape rs owner x = sound_rule (spot pos) shape owner x (first_over (object_in heap from rs (image shape.keep x) x) (offsets rs))

-- ---- the references of an info, whose bytes are x

-- that to its extended info, by its version, the reference and its image
abbrev pub identity_by : (heap : List ℕ) (from pos version : ℕ) (r : Region) (owner : List ℕ) → ℕ
identity_by heap from pos version r owner =
    let y = part_in heap from r.at r.len in
    let whole = flat_part heap from pos hfi_extended.shape hfi_extended.refs owner y in
    pick (eqb version 2) (first_of (ref_rule (region from (length heap)) Optional r.at r.len) (pick (eqb (length y) 0) 0 whole)) 0

unfoldable pub identity_fault : (heap : List ℕ) (from pos : ℕ) (x : List ℕ) → ℕ
identity_fault heap from pos x = identity_by heap from pos (get_or x 3 0) (reference_at x 110) (image_in info x 0)

unfoldable pub info_fault : (heap : List ℕ) (from pos : ℕ) (x : List ℕ) → ℕ → ℕ
info_fault heap from pos x q =
    pick (eqb q 110) (identity_fault heap from pos x) (object_rule (plain_need 7 q) (is_of_text (content_at q info.refs)) heap from (reference_at x q))

unfoldable pub info_faults : (heap : List ℕ) (from pos : ℕ) (x : List ℕ) → ℕ
info_faults heap from pos x = first_over (info_fault heap from pos x) (offsets info.refs)

-- the whole of an info; its further rule does not look at its owner
unfoldable pub info_part : (heap : List ℕ) (from pos : ℕ) (x : List ℕ) → ℕ
info_part heap from pos x = sound_rule (spot pos) info.shape [] x (info_faults heap from pos x)
