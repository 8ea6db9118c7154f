-- Closing up the heap in place: which references move, which heap bytes they mark, and the table and the map afterwards. Definitions only.
use Rattle.std.specs.Prelude.{Bool, true, false, not, ◌&&◌, ◌||◌, List, [], ◌∷◌, ◌++◌, ℕ, zero, suc, ◌+◌, ◌-◌, ◌*◌, length, get_or, take, drop, leb, ltb, eqb}
use Rattle.table.specs.declared.Answer.{Answer}
use Rattle.table.specs.declared.Region.{Region}
use Rattle.table.specs.Bytes.{Edit, apply, checksum, edit, le, num, padded, part, pick, splice}
use Rattle.table.specs.Layout.{Layout, Refs, image, is_valid, nest, none, plain, region}
use Rattle.table.specs.FixedLayouts.{header, host, list_kinds}
use Rattle.table.specs.Objects.{under}
use Rattle.table.specs.Rules.{apart, first, first_fail, test}
use Rattle.table.specs.Numbers.{check, heap_in}

-- ---- sites: the references that count and are present, in the order of the one form

-- where the reference stands, what it names, whether that is a heap record, and the references that such a record has itself
pub record Site : Type 0 where
  pub at : ℕ
  pub off : ℕ
  pub len : ℕ
  pub whole : Bool
  pub own : Refs

abbrev pub site : ℕ → ℕ → ℕ → Bool → Refs → Site
site r o n w rs = record { at = r; off = o; len = n; whole = w; own = rs }

-- the reference at r, if it is present, with the sites inside what it names, and then the sites ss
abbrev pub site_at : List ℕ → ℕ → Bool → Refs → List Site → List Site → List Site
site_at t r w rs inner ss = pick (eqb (num t (r + 4) 2) 0) ss (site r (num t r 4) (num t (r + 4) 2) w rs ∷ (inner ++ ss))

-- of the record at a, whose image is img; a heap record may name heap records in its turn
unfoldable pub sites_of : List ℕ → ℕ → List ℕ → Refs → List Site
sites_of t a img none = []
sites_of t a img (plain p need content rest) = let ss = sites_of t a img rest in under (need img) ss (site_at t (a + p) false none [] ss)
sites_of t a img (nest p need shape own rest) =
    let ss = sites_of t a img rest in
    let b = num t (a + p) 4 in
    under (need img) ss (site_at t (a + p) true own (sites_of t b (image shape.keep (drop b t)) own) ss)

unfoldable pub sites_entry : Layout → List ℕ → ℕ → List Site
sites_entry l t a =
    let x = image l.shape.keep (drop a t) in
    pick (is_valid l.shape x) (sites_of t a x l.refs) []

unfoldable pub sites_list : Layout → List ℕ → ℕ → ℕ → ℕ → List Site
sites_list l t a step zero = []
sites_list l t a step (suc n) = sites_entry l t a ++ sites_list l t (a + step) step n

unfoldable pub sites_body : List Layout → List ℕ → ℕ → List Site
sites_body [] t c = []
sites_body (l ∷ ls) t c = sites_list l t (num t c 4) (num t (c + 4) 2) (get_or t (c + 7) 0) ++ sites_body ls t (c + 8)

unfoldable pub sites : List ℕ → List Site
sites t = sites_of t 0 [] header.refs ++ (sites_entry host t (num t 72 4) ++ sites_body list_kinds t 80)

-- ---- 19: a heap record shares a byte with another site

abbrev pub span_of : Site → Region
span_of s = region s.off s.len

abbrev pub clash : Site → Site → Bool
clash x y = (x.whole || y.whole) && not (apart (span_of x) (span_of y))

abbrev pub clashes : Site → List Site → Bool
clashes x [] = false
clashes x (y ∷ ys) = clash x y || clashes x ys

abbrev pub overlaps : List Site → Bool
overlaps [] = false
overlaps (x ∷ xs) = clashes x xs || overlaps xs

unfoldable pub overlapped : List ℕ → Bool
overlapped t = overlaps (sites t)

-- ---- marks: heap byte n is marked where a site covers it

abbrev pub covers : List Site → ℕ → Bool
covers [] n = false
covers (s ∷ ss) n = (leb s.off n && ltb n (s.off + s.len)) || covers ss n

unfoldable pub marks : List ℕ → ℕ → Bool
marks t n = covers (sites t) ((heap_in t).at + n)

abbrev pub one : Bool → ℕ
one c = pick c 1 0

-- how many of the first n are marked
abbrev pub ones : (ℕ → Bool) → ℕ → ℕ
ones f zero = 0
ones f (suc n) = ones f n + one (f n)

-- the place in the heap to which its byte n slides
unfoldable pub slid : List ℕ → ℕ → ℕ
slid t n = ones (marks t) n

-- how many of the first n are marked and slide to another place
abbrev pub moved_of : (ℕ → Bool) → ℕ → ℕ
moved_of f zero = 0
moved_of f (suc n) = moved_of f n + one (f n && not (eqb (ones f n) n))

unfoldable pub moved : List ℕ → ℕ
moved t = moved_of (marks t) (heap_in t).len

-- ---- the closed table

-- the marked ones of bytes that stand from n on
abbrev pub sift : (ℕ → Bool) → ℕ → List ℕ → List ℕ
sift f n [] = []
sift f n (x ∷ xs) = let rest = sift f (suc n) xs in pick (f n) (x ∷ rest) rest

-- where the heap byte at place n of the table stands after closing
unfoldable pub goes : List ℕ → ℕ → ℕ
goes t n = (heap_in t).at + slid t (n - (heap_in t).at)

-- each site's offset as it will be
abbrev pub offsets_of : List ℕ → List Site → List Edit
offsets_of t [] = []
offsets_of t (s ∷ ss) = edit s.at (le 4 (goes t s.off)) ∷ offsets_of t ss

unfoldable pub stored : List ℕ → List ℕ
stored t = apply t (offsets_of t (sites t))

-- byte 9 such that the first n bytes have the sum 0
unfoldable pub mended : ℕ → List ℕ → List ℕ
mended n t = let y = splice t 9 (0 ∷ []) in splice y 9 (checksum (take n y) ∷ [])

-- the heap's bytes after closing
unfoldable pub closed_heap : List ℕ → List ℕ
closed_heap t = padded (heap_in t).len (sift (marks t) 0 (part (stored t) (heap_in t).at (heap_in t).len))

unfoldable pub closed : List ℕ → List ℕ
closed t = mended (num t 4 4) (splice (splice (stored t) (heap_in t).at (closed_heap t)) 40 (le 4 (slid t (heap_in t).len)))

-- ---- the map, and the call

-- the byte of eight marks, the lowest bit first
abbrev pub bits_of : (ℕ → Bool) → ℕ → ℕ
bits_of f a =
    one (f a)
    + 2 * (one (f (a + 1))
    + 2 * (one (f (a + 2)) + 2 * (one (f (a + 3)) + 2 * (one (f (a + 4)) + 2 * (one (f (a + 5)) + 2 * (one (f (a + 6)) + 2 * one (f (a + 7))))))))

-- m bytes of marks, from byte i on
abbrev pub map_of : (ℕ → Bool) → ℕ → ℕ → List ℕ
map_of f i zero = []
map_of f i (suc m) = bits_of f (8 * i) ∷ map_of f (suc i) m

-- the reader's answer, then 14 where the map is short, then 19
unfoldable pub close_answer : List ℕ → ℕ → Answer
close_answer t room = first (check t) (first_fail (test (leb (heap_in t).len (8 * room)) 14 0 0 ∷ test (not (overlapped t)) 19 0 0 ∷ []))

-- where refused nothing moves, and table and map are as they were
unfoldable pub close_moved : List ℕ → ℕ → ℕ
close_moved t room = pick (eqb (close_answer t room).number 0) (moved t) 0

unfoldable pub close_bytes : List ℕ → ℕ → List ℕ
close_bytes t room = pick (eqb (close_answer t room).number 0) (closed t) t

unfoldable pub close_map : List ℕ → List ℕ → List ℕ
close_map t map = pick (eqb (close_answer t (length map)).number 0) (map_of (marks t) 0 (length map)) map
