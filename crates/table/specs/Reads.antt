-- Rules 5 (docs/RULES.md), reads: what a read of a record, a field or an object gives on any bytes, 16 included. Definitions only.
use Rattle.std.specs.Prelude.{Bool, true, false, ◌&&◌, List, [], ◌∷◌, ℕ, ◌+◌, ◌-◌, ◌*◌, get_or, drop, replicate, leb, eqb}
use Rattle.table.specs.declared.Answer.{Answer}
use Rattle.table.specs.declared.Region.{Region}
use Rattle.table.specs.declared.Need.{Need}
use Rattle.table.specs.declared.Need.TheVariants.{Ignored}
use Rattle.table.specs.declared.Image.{Image}
use Rattle.table.specs.declared.Field.{Field}
use Rattle.table.specs.declared.Place.{Place}
use Rattle.table.specs.Bytes.{pick, part, num, padded}
use Rattle.table.specs.Layout.{image, reference_at, is_valid, Content, anything, text, positions, Refs, none, plain, nest, Layout, base_of}
use Rattle.table.specs.FixedLayouts.{header, control, host, hfi, ssns, security, discovery, info, extended, hfi_extended}
use Rattle.table.specs.Objects.{under}
use Rattle.table.specs.Rules.{answer, done}
use Rattle.table.specs.Numbers.{check}

-- Where a record stands: nowhere, or a layout, its first byte, and whether it is used
pub data Seat : Type 0 where
  nowhere : Seat
  seat : (l : Layout) (at : ℕ) (on : Bool) → Seat

-- position n of the list whose entry in the control record is at c
abbrev pub list_seat : Layout → List ℕ → ℕ → ℕ → Seat
list_seat l t c n =
    let a = num t c 4 + (n - 1) * num t (c + 4) 2 in
    pick (leb 1 n && leb n (get_or t (c + 7) 0)) (seat l a (is_valid l.shape (image l.shape.keep (drop a t)))) nowhere

-- the need of the reference at q, which is plain or to a heap record
abbrev pub need_at : ℕ → Refs → List ℕ → Need
need_at q none img = Ignored
need_at q (plain p need content rest) img = pick (eqb q p) (need img) (need_at q rest img)
need_at q (nest p need shape own rest) img = pick (eqb q p) (need img) (need_at q rest img)

-- what the object at the plain reference q holds
abbrev pub content_at : ℕ → Refs → Content
content_at q none = anything
content_at q (plain p need content rest) = pick (eqb q p) content (content_at q rest)
content_at q (nest p need shape own rest) = content_at q rest

-- the heap record of kind l that the owner's reference at q names
abbrev pub heap_seat : Layout → ℕ → List ℕ → Seat → Seat
heap_seat l q t nowhere = nowhere
heap_seat l q t (seat owner a on) =
    let r = reference_at t (a + q) in
    let here = under (need_at q owner.refs (image owner.shape.keep (drop a t))) nowhere (pick (eqb r.len 0) nowhere (seat l r.at true)) in
    pick on here nowhere

-- kinds 0 to 2 take position 0, the others a list's position, that of the owner for 7, 9 and 10
unfoldable pub seat_of : List ℕ → ℕ → ℕ → Seat
seat_of t k n =
    pick (eqb k 0) (pick (eqb n 0) (seat header 0 true) nowhere)
    (pick (eqb k 1) (pick (eqb n 0) (seat control 0 true) nowhere)
    (pick (eqb k 2) (pick (eqb n 0) (seat host (reference_at t 72).at true) nowhere)
    (pick (eqb k 3) (list_seat hfi t 80 n)
    (pick (eqb k 4) (list_seat ssns t 88 n)
    (pick (eqb k 5) (list_seat security t 96 n)
    (pick (eqb k 6) (list_seat discovery t 104 n)
    (pick (eqb k 7) (heap_seat info 16 t (list_seat hfi t 80 n))
    (pick (eqb k 9) (heap_seat extended 60 t (list_seat ssns t 88 n))
    (pick (eqb k 10) (heap_seat hfi_extended 110 t (heap_seat info 16 t (list_seat hfi t 80 n))) nowhere)))))))))

-- ---- a record: its image, all zero where it is unused

abbrev pub refused_image : Answer → Image
refused_image a = record { answer = a; used = false; len = 0; bytes = replicate 128 0 }

-- the bytes of the record at a seat, as they are read
abbrev pub shown : List ℕ → Layout → ℕ → Bool → List ℕ
shown t l a true = image l.shape.keep (drop a t)
shown t l a false = replicate (base_of l) 0

abbrev pub image_at : List ℕ → Seat → Image
image_at t nowhere = refused_image (answer 16 0 0)
image_at t (seat l a on) = record { answer = done; used = on; len = base_of l; bytes = padded 128 (shown t l a on) }

unfoldable pub read_record : List ℕ → ℕ → ℕ → Image
read_record t k n = pick (eqb (check t).number 0) (image_at t (seat_of t k n)) (refused_image (check t))

-- ---- a field, asked for by its first byte

abbrev pub width_at : ℕ → List Region → ℕ
width_at q [] = 0
width_at q (f ∷ fs) = pick (eqb q f.at) f.len (width_at q fs)

abbrev pub refused_field : Answer → Field
refused_field a = record { answer = a; used = false; len = 0; bytes = replicate 16 0 }

abbrev pub field_at : List ℕ → ℕ → Seat → Field
field_at t q nowhere = refused_field (answer 16 0 0)
field_at t q (seat l a on) =
    let w = width_at q l.shape.fields in
    pick (eqb w 0) (refused_field (answer 16 0 0)) (record { answer = done; used = on; len = w; bytes = padded 16 (part (shown t l a on) q w) })

unfoldable pub read_field : List ℕ → ℕ → ℕ → ℕ → Field
read_field t k n q = pick (eqb (check t).number 0) (field_at t q (seat_of t k n)) (refused_field (check t))

-- ---- an object, asked for by its reference's first byte

abbrev pub has_plain : ℕ → Refs → Bool
has_plain q none = false
has_plain q (plain p need content rest) = pick (eqb q p) true (has_plain q rest)
has_plain q (nest p need shape own rest) = has_plain q rest

abbrev pub no_place : Answer → Place
no_place a = record { answer = a; present = false; at = 0; len = 0 }

-- what the reference at r names: the part from its offset on, of its length
abbrev pub ref_place : List ℕ → ℕ → Place
ref_place t r =
    let x = reference_at t r in
    pick (eqb x.len 0) (no_place done) (record { answer = done; present = true; at = x.at; len = x.len })

-- the whole object at a seat's reference q, with its terminator if it is text
abbrev pub whole_at : List ℕ → ℕ → Seat → Place
whole_at t q nowhere = no_place (answer 16 0 0)
whole_at t q (seat l a on) =
    let here = under (need_at q l.refs (shown t l a on)) (no_place done) (ref_place t (a + q)) in
    pick (has_plain q l.refs) (pick on here (no_place done)) (no_place (answer 16 0 0))

-- what is handed back of it: text without its terminator; `present` tells an empty text from an absent one
abbrev pub handed : Content → Place → Place
handed anything x = x
handed positions x = x
handed text x = record { answer = x.answer; present = x.present; at = x.at; len = x.len - 1 }

abbrev pub place_at : List ℕ → ℕ → Seat → Place
place_at t q nowhere = no_place (answer 16 0 0)
place_at t q (seat l a on) = handed (content_at q l.refs) (whole_at t q (seat l a on))

unfoldable pub read_place : List ℕ → ℕ → ℕ → ℕ → Place
read_place t k n q = pick (eqb (check t).number 0) (place_at t q (seat_of t k n)) (no_place (check t))

-- the caller's own bytes, exactly that part
unfoldable pub read_object : List ℕ → ℕ → ℕ → ℕ → List ℕ
read_object t k n q = part t (read_place t k n q).at (read_place t k n q).len
