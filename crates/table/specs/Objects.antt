-- Rules 3 and 6 (docs/RULES.md), objects and records: read from a table, and laid out one behind the other in a heap. Definitions only.
use Rattle.std.specs.Prelude.{Bool, true, false, ◌||◌, List, [], ◌∷◌, ◌++◌, ℕ, zero, suc, ◌+◌, ◌*◌, length, get_or, drop, replicate, eqb}
use Rattle.table.specs.declared.Need.{Need}
use Rattle.table.specs.declared.Need.TheVariants.{Ignored, Optional, Required}
use Rattle.table.specs.Bytes.{pick, num, le, Edit, edit, apply}
use Rattle.table.specs.Layout.{image, reference_at, named_at, is_valid, Refs, none, plain, nest, Slots, nil, bytes, gone, rec, Layout, base_of, Entry, unused, used, Body, stop, more}

-- ---- reading

-- an object under a need: what is ignored is absent
abbrev pub under {ℓ} : {X : Type ℓ} → Need → X → X → X
under Ignored absent x = absent
under Optional absent x = x
under Required absent x = x

-- the objects of the record at a, whose image is img
unfoldable pub read_slots : List ℕ → ℕ → List ℕ → (rs : Refs) → Slots rs
read_slots t a img none = nil
read_slots t a img (plain p need content rest) = bytes (under (need img) [] (named_at t (a + p))) (read_slots t a img rest)
read_slots t a img (nest p need shape own rest) =
    let r = reference_at t (a + p) in
    let x = image shape.keep (drop r.at t) in
    under (need img)
    (gone (read_slots t a img rest))
    (pick (eqb r.len 0)
    (gone (read_slots t a img rest))
    (rec x (read_slots t r.at x own) (read_slots t a img rest)))

unfoldable pub read_entry : (l : Layout) → List ℕ → ℕ → Entry l
read_entry l t a =
    let x = image l.shape.keep (drop a t) in
    pick (is_valid l.shape x) (used x (read_slots t a x l.refs)) unused

-- n records, each `step` bytes behind the last
unfoldable pub read_list : (l : Layout) → List ℕ → ℕ → ℕ → ℕ → List (Entry l)
read_list l t a step zero = []
read_list l t a step (suc n) = read_entry l t a ∷ read_list l t (a + step) step n

-- the lists whose entries in the control record stand from place c on
unfoldable pub read_body : (ls : List Layout) → List ℕ → ℕ → Body ls
read_body [] t c = stop
read_body (l ∷ ls) t c = more (read_list l t (num t c 4) (num t (c + 4) 2) (get_or t (c + 7) 0)) (read_body ls t (c + 8))

-- ---- which positions are used

abbrev pub is_used : {l : Layout} → Entry l → Bool
is_used unused = false
is_used (used img ss) = true

unfoldable pub used_at : {l : Layout} → List (Entry l) → ℕ → Bool
used_at [] n = false
used_at (e ∷ es) zero = false
used_at (e ∷ es) (suc zero) = is_used e
used_at (e ∷ es) (suc (suc n)) = used_at es (suc n)

-- position n of kind k is used
unfoldable pub used_in : {ls : List Layout} → Body ls → ℕ → ℕ → Bool
used_in stop k n = false
used_in (more {l = l} es rest) k n = pick (eqb k l.kind) (used_at es n) (used_in rest k n)

-- how many records of kind k there are
unfoldable pub count_in : {ls : List Layout} → Body ls → ℕ → ℕ
count_in stop k = 0
count_in (more {l = l} es rest) k = pick (eqb k l.kind) (length es) (count_in rest k)

-- ---- whether some used record asks for header minor 1

unfoldable pub newer_entry : {l : Layout} → Entry l → Bool
newer_entry unused = false
newer_entry {l} (used img ss) = l.newer ss

unfoldable pub newer_list : {l : Layout} → List (Entry l) → Bool
newer_list [] = false
newer_list (e ∷ es) = newer_entry e || newer_list es

unfoldable pub newer_body : {ls : List Layout} → Body ls → Bool
newer_body stop = false
newer_body (more es rest) = newer_list es || newer_body rest

-- ---- laying out: objects stand from h on

-- a reference's six bytes; that to an absent object is 0, 0
abbrev pub ref6 : ℕ → ℕ → List ℕ
ref6 off len = le 4 off ++ le 2 len

abbrev pub ref_for : ℕ → List ℕ → List ℕ
ref_for h [] = ref6 0 0
ref_for h (b ∷ bs) = ref6 h (length (b ∷ bs))

-- how many heap bytes the objects take
unfoldable pub size_of : {rs : Refs} → Slots rs → ℕ
size_of nil = 0
size_of (bytes b ss) = length b + size_of ss
size_of (gone ss) = size_of ss
size_of (rec {shape = shape} img own ss) = length shape.keep + size_of own + size_of ss

-- the stores of a record's references, in order
unfoldable pub stores : {rs : Refs} → ℕ → Slots rs → List Edit
stores h nil = []
stores h (bytes {p = p} b ss) = edit p (ref_for h b) ∷ stores (h + length b) ss
stores h (gone {p = p} ss) = edit p (ref6 0 0) ∷ stores h ss
stores h (rec {p = p} {shape = shape} img own ss) = edit p (ref6 h (length shape.keep)) ∷ stores (h + (length shape.keep + size_of own)) ss

-- a record's bytes: its image x with its references stored
unfoldable pub patched : {rs : Refs} → ℕ → List ℕ → Slots rs → List ℕ
patched h x ss = apply x (stores h ss)

-- the heap bytes of the objects: a heap record at base size, its own objects right behind it
unfoldable pub heap_of : {rs : Refs} → ℕ → Slots rs → List ℕ
heap_of h nil = []
heap_of h (bytes b ss) = b ++ heap_of (h + length b) ss
heap_of h (gone ss) = heap_of h ss
heap_of h (rec {shape = shape} img own ss) =
    let h₁ = h + length shape.keep in
    (patched h₁ img own ++ heap_of h₁ own) ++ heap_of (h + (length shape.keep + size_of own)) ss

-- ---- the same of an entry, a list, and the lists: heap bytes taken, record bytes, heap bytes

unfoldable pub size_entry : {l : Layout} → Entry l → ℕ
size_entry unused = 0
size_entry (used img ss) = size_of ss

unfoldable pub rec_entry : {l : Layout} → ℕ → Entry l → List ℕ
rec_entry {l} h unused = replicate (base_of l) 0
rec_entry {l} h (used img ss) = patched h img ss

unfoldable pub heap_entry : {l : Layout} → ℕ → Entry l → List ℕ
heap_entry h unused = []
heap_entry h (used img ss) = heap_of h ss

unfoldable pub size_list : {l : Layout} → List (Entry l) → ℕ
size_list [] = 0
size_list (e ∷ es) = size_entry e + size_list es

unfoldable pub recs_list : {l : Layout} → ℕ → List (Entry l) → List ℕ
recs_list h [] = []
recs_list h (e ∷ es) = rec_entry h e ++ recs_list (h + size_entry e) es

unfoldable pub heap_list : {l : Layout} → ℕ → List (Entry l) → List ℕ
heap_list h [] = []
heap_list h (e ∷ es) = heap_entry h e ++ heap_list (h + size_entry e) es

unfoldable pub size_body : {ls : List Layout} → Body ls → ℕ
size_body stop = 0
size_body (more es rest) = size_list es + size_body rest

unfoldable pub recs_body : {ls : List Layout} → ℕ → Body ls → List ℕ
recs_body h stop = []
recs_body h (more es rest) = recs_list h es ++ recs_body (h + size_list es) rest

unfoldable pub heap_body : {ls : List Layout} → ℕ → Body ls → List ℕ
heap_body h stop = []
heap_body h (more es rest) = heap_list h es ++ heap_body (h + size_list es) rest

-- how many record bytes the lists take
unfoldable pub span_body : {ls : List Layout} → Body ls → ℕ
span_body stop = 0
span_body (more {l = l} es rest) = length es * base_of l + span_body rest

-- the entries of the lists in the control record, the first list standing at a; an empty list has offset and length 0
abbrev pub entry8 : {l : Layout} → ℕ → List (Entry l) → List ℕ
entry8 {l} a [] = le 4 0 ++ (le 2 0 ++ (1 ∷ 0 ∷ []))
entry8 {l} a (e ∷ es) = le 4 a ++ (le 2 (base_of l) ++ (1 ∷ length (e ∷ es) ∷ []))

unfoldable pub places_body : {ls : List Layout} → ℕ → Body ls → List ℕ
places_body a stop = []
places_body a (more {l = l} es rest) = entry8 a es ++ places_body (a + length es * base_of l) rest
