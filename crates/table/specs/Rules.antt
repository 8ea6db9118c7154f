-- Rules 3 (docs/RULES.md): the rules of regions, references, heap records, records and indexes, over any kinds; an answer is the first fault. Definitions only.
use Rattle.std.specs.Prelude.{Bool, true, false, not, ◌&&◌, ◌||◌, List, [], ◌∷◌, ℕ, suc, ◌+◌, ◌*◌, length, get_or, drop, leb, eqb}
use Rattle.table.specs.declared.Answer.{Answer}
use Rattle.table.specs.declared.Region.{Region}
use Rattle.table.specs.declared.Need.{Need}
use Rattle.table.specs.declared.Need.TheVariants.{Ignored, Optional, Required}
use Rattle.table.specs.Bytes.{pick, num}
use Rattle.table.specs.Layout.{image, region, reference_at, named_at, Content, rule_of, Shape, Env, env, is_valid, is_right}
use Rattle.table.specs.Layout.{Refs, none, plain, nest, Slots, Layout, names_used, base_of, Entry, unused, used, Body, stop, more}
use Rattle.table.specs.Objects.{under}

abbrev pub answer : ℕ → ℕ → ℕ → Answer
answer n k i = record { number = n; kind = k; position = i }

abbrev pub done : Answer
done = answer 0 0 0

-- ---- the first fault

abbrev pub first : Answer → Answer → Answer
first a b = pick (eqb a.number 0) b a

abbrev pub first_of : ℕ → ℕ → ℕ
first_of x y = pick (eqb x 0) y x

-- tests in order, each with the number, kind and position that its failure gives
pub record Test : Type 0 where
  pub holds : Bool
  pub gives : Answer

abbrev pub test : Bool → ℕ → ℕ → ℕ → Test
test c n k i = record { holds = c; gives = answer n k i }

abbrev pub first_fail : List Test → Answer
first_fail [] = done
first_fail (x ∷ xs) = let rest = first_fail xs in pick x.holds rest x.gives

-- ---- regions

abbrev pub apart : Region → Region → Bool
apart x y = leb (x.at + x.len) y.at || leb (y.at + y.len) x.at

abbrev pub apart_all : Region → List Region → Bool
apart_all x [] = true
apart_all x (y ∷ ys) = apart x y && apart_all x ys

abbrev pub apart_each : List Region → Bool
apart_each [] = true
apart_each (x ∷ xs) = apart_all x xs && apart_each xs

abbrev pub inside : ℕ → ℕ → List Region → Bool
inside lo hi [] = true
inside lo hi (x ∷ xs) = (leb lo x.at && leb (x.at + x.len) hi) && inside lo hi xs

abbrev pub cons_if : Bool → Region → List Region → List Region
cons_if true x xs = x ∷ xs
cons_if false x xs = xs

-- the nonempty lists, whose entries in the control record stand from place c on, and what follows them
unfoldable pub list_regions : (ls : List Layout) → List ℕ → ℕ → List Region → List Region
list_regions [] t c tail = tail
list_regions (l ∷ ls) t c tail =
    cons_if (not (eqb (get_or t (c + 7) 0) 0)) (region (num t c 4) (get_or t (c + 7) 0 * num t (c + 4) 2)) (list_regions ls t (c + 8) tail)

-- record lengths, and versions, of nonempty lists
unfoldable pub long_enough : List Layout → List ℕ → ℕ → Bool
long_enough [] t c = true
long_enough (l ∷ ls) t c = (eqb (get_or t (c + 7) 0) 0 || leb (base_of l) (num t (c + 4) 2)) && long_enough ls t (c + 8)

unfoldable pub versioned : List Layout → List ℕ → ℕ → Bool
versioned [] t c = true
versioned (l ∷ ls) t c = (eqb (get_or t (c + 7) 0) 0 || eqb (get_or t (c + 6) 0) 1) && versioned ls t (c + 8)

-- ---- references

-- neither half is zero, and the object lies in the heap
abbrev pub reaches : Region → ℕ → ℕ → Bool
reaches heap off len = not (eqb off 0) && (not (eqb len 0) && (leb heap.at off && leb (off + len) (heap.at + heap.len)))

-- a reference: 0 or 11
abbrev pub ref_rule : Region → Need → ℕ → ℕ → ℕ
ref_rule heap Ignored off len = 0
ref_rule heap Optional off len = pick (eqb off 0 && eqb len 0) 0 (pick (reaches heap off len) 0 11)
ref_rule heap Required off len = pick (reaches heap off len) 0 11

-- a content's rule speaks of present objects
abbrev pub ruled : Content → Env → List ℕ → ℕ
ruled content e [] = 0
ruled content e (b ∷ bs) = rule_of content e (b ∷ bs)

-- the reference at r, under a need, to an object of plain bytes
abbrev pub plain_rule : Region → Need → Content → Env → List ℕ → ℕ → ℕ
plain_rule heap n content e t r =
    let x = reference_at t r in
    first_of (ref_rule heap n x.at x.len) (under n 0 (ruled content e (named_at t r)))

-- a heap record is valid and right: its owner's position is its index; and its further rule holds, of its owner's image and its own
abbrev pub is_sound : Shape → Env → List ℕ → List ℕ → Bool
is_sound s e owner img = is_valid s img && (is_right s e img && s.further owner img)

-- the reference at r of a record whose image is `owner`, under a need, to a heap record, whose own references give `inner`
abbrev pub nest_rule : Region → Need → Shape → Env → List ℕ → List ℕ → ℕ → ℕ → ℕ
nest_rule heap n shape e owner t r inner =
    let x = reference_at t r in
    first_of (ref_rule heap n x.at x.len)
    (under n 0
    (pick (eqb x.len 0) 0
    (first_of (pick (leb (length shape.keep) x.len && is_sound shape e owner (image shape.keep (drop x.at t))) 0 12) inner)))

-- the references of a record in order, each with its heap record and that one's own: 0, 11, 12 or an object's further number
unfoldable pub refs_rule : Region → Env → List ℕ → ℕ → List ℕ → Refs → ℕ
refs_rule heap e t a img none = 0
refs_rule heap e t a img (plain p need content rest) = first_of (plain_rule heap (need img) content e t (a + p)) (refs_rule heap e t a img rest)
refs_rule heap e t a img (nest p need shape own rest) =
    let b = (reference_at t (a + p)).at in
    first_of
    (nest_rule heap (need img) shape e img t (a + p) (refs_rule heap e t b (image shape.keep (drop b t)) own))
    (refs_rule heap e t a img rest)

-- ---- records

-- a used record: 10, then its references, then 13
unfoldable pub used_rule : (l : Layout) → (ℕ → ℕ → Bool) → Region → Env → List ℕ → ℕ → List ℕ → Slots l.refs → ℕ
used_rule l named heap e t a img ss =
    first_of (pick (is_right l.shape e img) 0 10) (first_of (refs_rule heap e t a img l.refs) (pick (names_used named (l.indexes img ss)) 0 13))

unfoldable pub entry_rule : (l : Layout) → (ℕ → ℕ → Bool) → Region → Env → List ℕ → ℕ → Entry l → ℕ
entry_rule l named heap e t a unused = 0
entry_rule l named heap e t a (used img ss) = used_rule l named heap e t a img ss

unfoldable pub list_rule : (l : Layout) → (ℕ → ℕ → Bool) → (ℕ → ℕ) → Region → ℕ → List ℕ → ℕ → ℕ → List (Entry l) → Answer
list_rule l named count heap pos t a step [] = done
list_rule l named count heap pos t a step (x ∷ xs) =
    let n = entry_rule l named heap (env count pos) t a x in
    let rest = list_rule l named count heap (suc pos) t (a + step) step xs in
    pick (eqb n 0) rest (answer n l.kind pos)

unfoldable pub body_rule : {ls : List Layout} → (ℕ → ℕ → Bool) → (ℕ → ℕ) → Region → List ℕ → ℕ → Body ls → Answer
body_rule named count heap t c stop = done
body_rule named count heap t c (more {l = l} es rest) =
    let after = body_rule named count heap t (c + 8) rest in
    first (list_rule l named count heap 1 t (num t c 4) (num t (c + 4) 2) es) after
