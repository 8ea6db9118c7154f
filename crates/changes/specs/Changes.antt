-- Rules 13 (docs/RULES.md), what two meanings say differently: a line for each difference, in order, and the bytes of a line. Definitions only.
use Rattle.std.specs.Prelude.{List, [], ◌∷◌, ◌++◌, ℕ, zero, suc, ◌+◌, length, get_or, replicate, eqb, leb}
use Rattle.table.specs.declared.Region.{Region}
use Rattle.table.specs.Bytes.{Edit, part, pick, same, val}
use Rattle.table.specs.Layout.{Body, Entry, Layout, Refs, Shape, Slots, bytes, gone, more, nil, rec, stop, unused, used}
use Rattle.table.specs.FixedLayouts.{header}
use Rattle.table.specs.Meaning.{Meaning}
use Rattle.table.specs.Reads.{width_at}
use Rattle.text.specs.Ascii.{ascii}
use Rattle.text.specs.Numerals.{numeral}
use Rattle.text_hex.specs.Hexadecimal.{hexes_of}

-- ---- lines

-- The four sorts: a field with both values; an object with both lengths and the first byte that differs; a list position or a heap record that one side alone
-- has; a position that both have and one side uses. A side is 1 or 2
pub data Line : Type 0 where
  fields : (kind position offset : ℕ) (one other : List ℕ) → Line
  objects : (kind position offset one other at : ℕ) → Line
  only_on : (kind position side : ℕ) → Line
  used_on : (kind position side : ℕ) → Line

-- the first byte that differs, from 0 on; the shorter length where one begins the other
abbrev pub differ_at : List ℕ → List ℕ → ℕ
differ_at [] ys = 0
differ_at (x ∷ xs) [] = 0
differ_at (x ∷ xs) (y ∷ ys) = pick (eqb x y) (suc (differ_at xs ys)) 0

-- a line where two rows of bytes are not the same
abbrev pub unlike : List ℕ → List ℕ → Line → List Line
unlike x y l = pick (same x y) [] (l ∷ [])

abbrev pub field_line : ℕ → ℕ → ℕ → List ℕ → List ℕ → List Line
field_line k n q x y = unlike x y (fields k n q x y)

abbrev pub object_line : ℕ → ℕ → ℕ → List ℕ → List ℕ → List Line
object_line k n q x y = unlike x y (objects k n q (length x) (length y) (differ_at x y))

-- ---- a record: by ascending offset its fields and what its references name

-- the lines of n offsets from q on
abbrev pub each : (ℕ → List Line) → ℕ → ℕ → List Line
each f q zero = []
each f q (suc n) = f q ++ each f (suc q) n

-- those of a field that begins at q, of two images, and where there is none those of a reference
abbrev pub offset_lines : ℕ → ℕ → List Region → List ℕ → List ℕ → (ℕ → List Line) → ℕ → List Line
offset_lines k n fs x y named q = let w = width_at q fs in pick (eqb w 0) (named q) (field_line k n q (part x q w) (part y q w))

abbrev pub record_lines : ℕ → ℕ → Shape → List ℕ → List ℕ → (ℕ → List Line) → List Line
record_lines k n s x y named = each (offset_lines k n s.fields x y named) 0 (length s.keep)

-- the kind of a heap record is its ID, the first byte that has one right value
abbrev pub id_of : List Edit → ℕ
id_of [] = 0
id_of (e ∷ es) = get_or e.put 0 0

-- those of the reference at q, if there is one: an object's line, or the lines of the heap record that stands there
unfoldable pub named_lines : ℕ → ℕ → {rs : Refs} → Slots rs → Slots rs → ℕ → List Line
named_lines k n nil nil q = []
named_lines k n (bytes {p = p} x ss) (bytes y us) q = pick (eqb q p) (object_line k n q x y) (named_lines k n ss us q)
named_lines k n (gone ss) (gone us) q = named_lines k n ss us q
named_lines k n (gone {p = p} {shape = s} ss) (rec y own us) q = pick (eqb q p) (only_on (id_of s.fixed) n 2 ∷ []) (named_lines k n ss us q)
named_lines k n (rec {p = p} {shape = s} x own ss) (gone us) q = pick (eqb q p) (only_on (id_of s.fixed) n 1 ∷ []) (named_lines k n ss us q)
named_lines k n (rec {p = p} {shape = s} x own ss) (rec y own' us) q =
    let i = id_of s.fixed in
    pick (eqb q p) (record_lines i n s x y (named_lines i n own own')) (named_lines k n ss us q)

-- ---- positions

unfoldable pub entry_lines : ℕ → {l : Layout} → Entry l → Entry l → List Line
entry_lines n unused unused = []
entry_lines n {l} unused (used y us) = used_on l.kind n 2 ∷ []
entry_lines n {l} (used x ss) unused = used_on l.kind n 1 ∷ []
entry_lines n {l} (used x ss) (used y us) = record_lines l.kind n l.shape x y (named_lines l.kind n ss us)

-- from position n on
unfoldable pub list_lines : {l : Layout} → ℕ → List (Entry l) → List (Entry l) → List Line
list_lines n [] [] = []
list_lines {l} n [] (f ∷ fs) = only_on l.kind n 2 ∷ list_lines (suc n) [] fs
list_lines {l} n (e ∷ es) [] = only_on l.kind n 1 ∷ list_lines (suc n) es []
list_lines n (e ∷ es) (f ∷ fs) = entry_lines n e f ++ list_lines (suc n) es fs

unfoldable pub body_lines : {ls : List Layout} → Body ls → Body ls → List Line
body_lines stop stop = []
body_lines (more es rest) (more fs rest') = list_lines 1 es fs ++ body_lines rest rest'

-- the counts, of which the first is the control record's field at q
unfoldable pub count_lines : ℕ → {ls : List Layout} → Body ls → Body ls → List Line
count_lines q stop stop = []
count_lines q (more es rest) (more fs rest') = field_line 1 0 q (length es ∷ []) (length fs ∷ []) ++ count_lines (q + 8) rest rest'

-- the header as far as it is meant: zeros up to the OEM ID at 10
abbrev pub head_of : Meaning → List ℕ
head_of m = replicate 10 0 ++ m.oem

unfoldable pub changes : Meaning → Meaning → List Line
changes m n =
    count_lines 87 m.lists n.lists
    ++ (record_lines 0 0 header.shape (head_of m) (head_of n) (named_lines 0 0 m.driver n.driver)
    ++ (entry_lines 0 m.owner n.owner ++ body_lines m.lists n.lists))

-- ---- a line's bytes

-- a field of up to four bytes is a number; a longer one is a row of bytes, in the order of the table
abbrev pub value_of : List ℕ → List ℕ
value_of x = pick (leb (length x) 4) (numeral (val x)) (hexes_of x)

abbrev pub spaced : List ℕ → List ℕ → List ℕ
spaced a b = a ++ (ascii " " ++ b)

unfoldable pub text_of : Line → List ℕ
text_of (fields k n q x y) = spaced (numeral k) (spaced (numeral n) (spaced (numeral q) (spaced (value_of x) (value_of y ++ ascii "\n"))))
text_of (objects k n q x y a) =
    spaced (numeral k) (spaced (numeral n) (spaced (numeral q) (spaced (numeral x) (spaced (numeral y) (numeral a ++ ascii "\n")))))
text_of (only_on k n s) = spaced (numeral k) (spaced (numeral n) (spaced (ascii "only") (numeral s ++ ascii "\n")))
text_of (used_on k n s) = spaced (numeral k) (spaced (numeral n) (spaced (ascii "used") (numeral s ++ ascii "\n")))

-- all lines
abbrev pub texts_of : List Line → List ℕ
texts_of [] = []
texts_of (l ∷ ls) = text_of l ++ texts_of ls
