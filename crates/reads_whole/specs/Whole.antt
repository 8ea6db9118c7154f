-- What is read of records whole: an entry of 184 bytes for each, and as many entries as there is room for. Definitions only.
use Rattle.std.specs.Prelude.{List, [], ◌∷◌, ◌++◌, ℕ, zero, suc, ◌+◌, ◌-◌, ◌*◌, ◌/◌, ◌%◌, length, get_or, take, leb, eqb}
use Rattle.table.specs.declared.Answer.{Answer}
use Rattle.table.specs.declared.Image.{Image}
use Rattle.table.specs.declared.Place.{Place}
use Rattle.table.specs.Bytes.{pick, splice, padded}
use Rattle.table.specs.FixedLayouts.{layout_of}
use Rattle.table.specs.Objects.{ref6}
use Rattle.table.specs.Rules.{answer, done}
use Rattle.table.specs.Numbers.{check}
use Rattle.table.specs.Reads.{Seat, seat_of, image_at, place_at}
use Rattle.layout_kinds.specs.References.{object_refs}
use Rattle.reads_seats.specs.Told.{count_of}
use Rattle.reads_whole.specs.declared.Records.{Records}

-- rows n to n + m - 1, one behind the other
unfoldable pub rows : (ℕ → List ℕ) → (n m : ℕ) → List ℕ
rows row n zero = []
rows row n (suc m) = row n ++ rows row (n + 1) m

-- ---- an entry

-- where an object stands, in 8 bytes: its start, its length, whether it is present
unfoldable pub place_bytes : Place → List ℕ
place_bytes p = ref6 p.at p.len ++ (pick p.present 1 0 ∷ 0 ∷ [])

-- that of reference number i of the record of kind k at a seat
unfoldable pub place_row : List ℕ → (k : ℕ) → Seat → (i : ℕ) → List ℕ
place_row t k s i = place_bytes (place_at t (get_or (object_refs (layout_of k).refs) i 0) s)

-- those of all its objects, in the order of their references; a kind has six at most
unfoldable pub places_of : List ℕ → (k : ℕ) → Seat → List ℕ
places_of t k s = padded 48 (rows (place_row t k s) 0 (length (object_refs (layout_of k).refs)))

-- kind, position, whether the record is used, the length of its image; a list has 255 positions at most
unfoldable pub head_of : (k n : ℕ) → Image → List ℕ
head_of k n i = k ∷ n % 256 ∷ pick i.used 1 0 ∷ i.len % 256 ∷ 0 ∷ 0 ∷ 0 ∷ 0 ∷ []

-- 8 bytes of these, the image with zeros up to 128, and six places; at no seat all but kind and position is zero
unfoldable pub entry_of : List ℕ → (k n : ℕ) → Seat → List ℕ
entry_of t k n s = head_of k n (image_at t s) ++ ((image_at t s).bytes ++ places_of t k s)

unfoldable pub entry_at : List ℕ → (k n : ℕ) → List ℕ
entry_at t k n = entry_of t k n (seat_of t k n)

-- ---- one record

-- what a read of the record leaves in the caller's 184 bytes: its entry; where refused, what was there. The answer is that of `read_record`
unfoldable pub entry_after : List ℕ → (k n : ℕ) → Answer → List ℕ → List ℕ
entry_after t k n a before = pick (eqb a.number 0) (entry_at t k n) before

-- ---- records behind one another, in the order of their kinds and positions

-- the kind whose list has the positions of kind k: heap records have those of their owners
unfoldable pub list_kind : ℕ → ℕ
list_kind k = pick (eqb k 7) 3 (pick (eqb k 9) 4 (pick (eqb k 10) 3 k))

-- header, control record and host have position 0 alone, the others those from 1 on
unfoldable pub first_of : ℕ → ℕ
first_of k = pick (leb k 2) 0 1

unfoldable pub many_of : List ℕ → ℕ → ℕ
many_of t k = pick (leb k 2) 1 (count_of t (list_kind k))

-- how many positions of kind k there are from position n on
unfoldable pub left_of : List ℕ → (k n : ℕ) → ℕ
left_of t k n = first_of k + many_of t k - n

-- the entries of m kinds from kind k on, of that one from position n on; and how many they are
unfoldable pub entries_of : List ℕ → (k n m : ℕ) → List ℕ
entries_of t k n zero = []
entries_of t k n (suc m) = rows (entry_at t k) n (left_of t k n) ++ entries_of t (k + 1) (first_of (k + 1)) m

unfoldable pub number_of : List ℕ → (k n m : ℕ) → ℕ
number_of t k n zero = 0
number_of t k n (suc m) = left_of t k n + number_of t (k + 1) (first_of (k + 1)) m

unfoldable pub least : ℕ → ℕ → ℕ
least a b = pick (leb a b) a b

-- how many kinds go from k to `last`: k in any case, and none behind 10
unfoldable pub kinds_to : (k last : ℕ) → ℕ
kinds_to k last = least last 10 - k + 1

-- 16 where the kind has no such position
unfoldable pub records_answer : List ℕ → (k n : ℕ) → Answer
records_answer t k n = pick (leb (first_of k) n) (pick (eqb (left_of t k n) 0) (answer 16 0 0) done) (answer 16 0 0)

abbrev pub refused_records : Answer → Records
refused_records a = record { answer = a; written = 0; total = 0 }

-- how many entries there are from the record of kind k and position n on, and for how many of them the output has room
unfoldable pub records_in : List ℕ → (k n last room : ℕ) → Records
records_in t k n last room =
    let all = number_of t k n (kinds_to k last) in
    pick (eqb (records_answer t k n).number 0) (record { answer = done; written = least all (room / 184); total = all }) (refused_records (records_answer t k n))

unfoldable pub read_records : List ℕ → (k n last room : ℕ) → Records
read_records t k n last room = pick (eqb (check t).number 0) (records_in t k n last room) (refused_records (check t))

-- what is left of the lent output: those entries, and behind them what was there
unfoldable pub records_bytes : List ℕ → (k n last : ℕ) → List ℕ → List ℕ
records_bytes t k n last out =
    splice out 0 (take (184 * (read_records t k n last (length out)).written) (entries_of t k n (kinds_to k last)))
