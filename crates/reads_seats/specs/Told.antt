-- What the reads of an accepted table say together, record by record and slot by slot: the meaning (`told-all` in proofs/MeaningLaws.antt). Definitions only.
use Rattle.std.specs.Prelude.{List, [], ◌∷◌, ℕ, zero, suc, get_or, take, eqb}
use Rattle.table.specs.declared.Image.{Image}
use Rattle.table.specs.Bytes.{pick, part}
use Rattle.table.specs.Layout.{Shape, Refs, none, plain, nest, Slots, nil, bytes, gone, rec, Layout, Entry, unused, used, stop, more}
use Rattle.table.specs.FixedLayouts.{header, host, hfi, ssns, security, discovery}
use Rattle.table.specs.Meaning.{Meaning}
use Rattle.table.specs.Reads.{seat_of, image_at}
use Rattle.reads_seats.specs.Objects.{object_in}

-- the image that a read of a record gives
unfoldable pub image_of : List ℕ → ℕ → ℕ → Image
image_of t k n = image_at t (seat_of t k n)

abbrev pub bytes_of : Image → List ℕ
bytes_of i = take i.len i.bytes

-- the kind of the heap record that a record of kind k refers to
abbrev pub inner_kind : ℕ → ℕ
inner_kind k = pick (eqb k 3) 7 (pick (eqb k 7) 10 9)

-- how deep the heap records below a record of kind k go
abbrev pub depth : ℕ → ℕ
depth k = pick (eqb k 3) 2 (pick (eqb k 4) 1 (pick (eqb k 7) 1 0))

-- a heap record that is there, or none
abbrev pub told_nest : {p : ℕ} {need : List ℕ → _} {shape : Shape} {own rest : Refs} → Image → Slots own → Slots rest → Slots (nest p need shape own rest)
told_nest i own rest = pick (eqb i.answer.number 0) (rec (bytes_of i) own rest) (gone rest)

unfoldable pub told_slots : List ℕ → ℕ → ℕ → (rs : Refs) → Slots rs
told_slots t k n none = nil
told_slots t k n (plain p need content rest) = bytes (object_in t k n p) (told_slots t k n rest)
told_slots t k n (nest p need shape own rest) = told_nest (image_of t (inner_kind k) n) (told_slots t (inner_kind k) n own) (told_slots t k n rest)

-- the record of kind k and position n, whose layout is l
unfoldable pub told_entry : (l : Layout) → List ℕ → ℕ → ℕ → Entry l
told_entry l t k n = pick (image_of t k n).used (used (bytes_of (image_of t k n)) (told_slots t k n l.refs)) unused

-- m records from position n on
unfoldable pub told_list : (l : Layout) → List ℕ → ℕ → ℕ → ℕ → List (Entry l)
told_list l t k n zero = []
told_list l t k n (suc m) = told_entry l t k n ∷ told_list l t k (suc n) m

-- how many records a list has: a field of the control record
abbrev pub count_at : List ℕ → ℕ → ℕ
count_at t q = get_or (image_of t 1 0).bytes q 0

-- of the list of kind k
unfoldable pub count_of : List ℕ → ℕ → ℕ
count_of t k = pick (eqb k 3) (count_at t 87) (pick (eqb k 4) (count_at t 95) (pick (eqb k 5) (count_at t 103) (pick (eqb k 6) (count_at t 111) 0)))

-- header bytes 10 to 35, which are its fields
unfoldable pub oem_of : List ℕ → List ℕ
oem_of t = part (image_of t 0 0).bytes 10 26

unfoldable pub told : List ℕ → Meaning
told t = record {
  oem = part (image_of t 0 0).bytes 10 26;
  driver = told_slots t 0 0 header.refs;
  owner = told_entry host t 2 0;
  lists =
      more (told_list hfi t 3 1 (count_at t 87))
      (more (told_list ssns t 4 1 (count_at t 95))
      (more (told_list security t 5 1 (count_at t 103)) (more (told_list discovery t 6 1 (count_at t 111)) stop)));
}
