-- From "accepted" to the bounds of every region, record, reference and heap record. Assumes nothing.
use mathlib.Core.Path.{◌≡◌, refl, sym, ap, ◌∙◌}
use mathlib.Core.Bool.{Bool, true, false, ◌&&◌}
use mathlib.Core.List.{List, [], ◌∷◌}
use Prim.Native.Nat.{ℕ, zero, suc, ◌+◌, ◌*◌, ◌≤◌, ◌<◌}
use native.Mathlib.Omega.{arith}
use native.Mathlib.Nat.{le_of_suc-le-suc, not-suc-le-zero}
use lib.ListN.{length, get_or}
use lib.Dec.{eqb}
use borrow.Author.Tests.{ne_eqb, eqb-true, eqb-false}
use Rattle.table.specs.declared.Answer.{Answer}
use Rattle.table.specs.declared.Region.{Region}
use Rattle.table.specs.declared.Need.TheVariants.{Optional, Required}
use Rattle.table.specs.Bytes.{pick, num, odd}
use Rattle.table.specs.Layout.{offsets, region}
use Rattle.table.specs.FixedLayouts.{layout_of, list_kinds}
use Rattle.table.specs.Objects.{read_body}
use Rattle.table.specs.Rules.{answer, body_rule, done, first, first_fail, first_of, reaches, ref_rule}
use Rattle.table.specs.Meaning.{meaning}
use Rattle.table.specs.Numbers.{check, heap_in, records, tests}
use Rattle.laws.specs.Sound.{first-of}
use Rattle.laws.specs.RefWalk.{first_over}
use Rattle.laws.specs.ListWalk.{env_in, valid_in, walk_more, walk-stop}
use Rattle.reader_frame.specs.Bounds.{HeapFar, LaidOut, ListIn}
use Rattle.reader_frame.proofs.Laws.{heap_far, laid_out_lem}
use Rattle.reader_rules.specs.Rules.{ref_fault}
use Rattle.reader_rules.specs.Records.{right_rule}
use Rattle.reader_rules.proofs.HeapLaws.{Inside, reached}
use Rattle.reader_lists.specs.Lists.{counts, list_fault, list_from, record_fault, used_fault}
use Rattle.reader.specs.Stages.{host_fault, numbered}
use Rattle.reader_indexes.specs.Indexes.{names_rule, refs_fault}
use Rattle.reader.specs.Accepted.{Accepted}
use Rattle.reader.proofs.Laws.{body_is, check-is, parts_are}
use Rattle.reader_lists.proofs.Laws.{record-by, refs-are, used-is}
use Rattle.reader_indexes.proofs.Laws.{stride}

-- ---- the stages of the check, taken apart

first_done : (x y : Answer) → first x y ≡ done → (x.number ≡ 0) × (y ≡ done)
first_done x y e = go (eqb x.number 0) refl e where
  go : (c : Bool) → eqb x.number 0 ≡ c → pick c y x ≡ done → (x.number ≡ 0) × (y ≡ done)
  go true f g = (eqb-true x.number 0 f, g)
  go false f g = absurd (eqb-false x.number 0 f (ap (λ (a : Answer). a.number) g))

numbered-zero : (n k : ℕ) → (numbered n k).number ≡ 0 → n ≡ 0
numbered-zero n k e = go (eqb n 0) refl e where
  go : (c : Bool) → eqb n 0 ≡ c → (pick c done (answer n k 0)).number ≡ 0 → n ≡ 0
  go true f g = eqb-true n 0 f
  go false f g = g

host-zero : (heap : Region) (t : List ℕ) → (host_fault heap t).number ≡ 0 → (odd (get_or t (num t 72 4 + 1) 0) ≡ true) × (used_fault 2 heap t (num t 72 4) 0 ≡ 0)
unfolding host_fault
host-zero heap t e = go (odd (get_or t (num t 72 4 + 1) 0)) refl e where
  go : (c : Bool) → odd (get_or t (num t 72 4 + 1) 0) ≡ c → (pick c (numbered (used_fault 2 heap t (num t 72 4) 0) 2) (answer 10 2 0)).number ≡ 0
      → (odd (get_or t (num t 72 4 + 1) 0) ≡ true) × (used_fault 2 heap t (num t 72 4) 0 ≡ 0)
  go true f g = (f, numbered-zero (used_fault 2 heap t (num t 72 4) 0) 2 g)
  go false f g = absurd (omega arith)

module _ (t : List ℕ) (ok : Accepted t) where
  pub checked : check t ≡ done
  checked = ok.good

  staged : ((first_fail (tests t)).number ≡ 0) × (records t (meaning t) ≡ done)
  staged = first_done (first_fail (tests t)) (records t (meaning t)) (check-is t ∙ checked)

  -- none of tests 1 to 9 fails
  pub tests-pass : (first_fail (tests t)).number ≡ 0
  tests-pass = staged.0

  -- every region lies in the table, every list's records are long enough
  pub laid : LaidOut t
  laid = laid_out_lem t tests-pass

  -- the heap lies behind the control record
  pub heap-far : HeapFar t
  heap-far = heap_far t tests-pass

  abbrev body : Answer
  body = body_rule (valid_in t) (counts t) (heap_in t) t 80 (read_body list_kinds t 80)

  parts : ((numbered (refs_fault 0 (heap_in t) t 0 0) 0).number ≡ 0) × (first (host_fault (heap_in t) t) body ≡ done)
  parts = first_done (numbered (refs_fault 0 (heap_in t) t 0 0) 0) (first (host_fault (heap_in t) t) body) (parts_are t (heap_in t) refl ∙ staged.1)

  pub driver-passes : refs_fault 0 (heap_in t) t 0 0 ≡ 0
  driver-passes = numbered-zero (refs_fault 0 (heap_in t) t 0 0) 0 parts.0

  owned : ((host_fault (heap_in t) t).number ≡ 0) × (body ≡ done)
  owned = first_done (host_fault (heap_in t) t) body parts.1

  pub host-passes : (odd (get_or t (num t 72 4 + 1) 0) ≡ true) × (used_fault 2 (heap_in t) t (num t 72 4) 0 ≡ 0)
  host-passes = host-zero (heap_in t) t owned.0

  abbrev behind : ℕ → ℕ → Answer → Answer
  behind k c rest = first (list_fault k (heap_in t) t c) rest

  lists3 : ((list_fault 3 (heap_in t) t 80).number ≡ 0) × (behind 4 88 (behind 5 96 (behind 6 104 done)) ≡ done)
  lists3 = first_done (list_fault 3 (heap_in t) t 80) (behind 4 88 (behind 5 96 (behind 6 104 done))) (body_is t (heap_in t) ∙ owned.1)

  lists4 : ((list_fault 4 (heap_in t) t 88).number ≡ 0) × (behind 5 96 (behind 6 104 done) ≡ done)
  lists4 = first_done (list_fault 4 (heap_in t) t 88) (behind 5 96 (behind 6 104 done)) lists3.1

  lists5 : ((list_fault 5 (heap_in t) t 96).number ≡ 0) × (behind 6 104 done ≡ done)
  lists5 = first_done (list_fault 5 (heap_in t) t 96) (behind 6 104 done) lists4.1

  -- the four lists: hfi, ssns, security, discovery
  pub lists-pass : ((list_fault 3 (heap_in t) t 80).number ≡ 0) × ((list_fault 4 (heap_in t) t 88).number ≡ 0) × ((list_fault 5 (heap_in t) t 96).number ≡ 0) × ((list_fault 6 (heap_in t) t 104).number ≡ 0)
  lists-pass = (lists3.0, lists4.0, lists5.0, (first_done (list_fault 6 (heap_in t) t 104) done lists5.1).0)

-- ---- a record of a list that passes

module _ (k : ℕ) (heap : Region) (t : List ℕ) (step pos a m : ℕ) where
  from-stop : (record_fault k heap t a pos ≡ 0 → ⊥) → list_from k heap t step pos a (suc m) ≡ answer (record_fault k heap t a pos) (layout_of k).kind pos
  unfolding list_from record_fault env_in counts
  from-stop z = walk-stop (layout_of k) (valid_in t) (counts t) heap t step pos a m (record_fault k heap t a pos) refl z

  from_more : record_fault k heap t a pos ≡ 0 → list_from k heap t step pos a (suc m) ≡ list_from k heap t step (suc pos) (a + step) m
  unfolding list_from record_fault env_in counts
  from_more z = walk_more (layout_of k) (valid_in t) (counts t) heap t step pos a m (record_fault k heap t a pos) refl z

from-passes : (k : ℕ) (heap : Region) (t : List ℕ) (step pos a n : ℕ) → (list_from k heap t step pos a n).number ≡ 0 → (i : ℕ) → i < n → record_fault k heap t (a + i * step) (pos + i) ≡ 0
from-passes k heap t step pos a zero e i h = absurd (not-suc-le-zero h)
from-passes k heap t step pos a (suc m) e i h =
    go (λ g j l. from-passes k heap t step (suc pos) (a + step) m g j l) (eqb (record_fault k heap t a pos) 0) refl i h
  where
    go : ((list_from k heap t step (suc pos) (a + step) m).number ≡ 0 → (j : ℕ) → j < m → record_fault k heap t (a + step + j * step) (suc pos + j) ≡ 0)
        → (c : Bool) → eqb (record_fault k heap t a pos) 0 ≡ c → (i : ℕ) → i < suc m → record_fault k heap t (a + i * step) (pos + i) ≡ 0
    go rest true f zero h =
        let x : a + 0 * step ≡ a = omega arith in
        let y : pos + 0 ≡ pos = omega arith in
        rw (x, y) (eqb-true (record_fault k heap t a pos) 0 f)
    go rest true f (suc i) h =
        let x : a + suc i * step ≡ a + step + i * step = omega arith in
        let y : pos + suc i ≡ suc pos + i = omega arith in
        let g = sym (ap (λ (r : Answer). r.number) (from_more k heap t step pos a m (eqb-true (record_fault k heap t a pos) 0 f))) ∙ e in
        rw (x, y) (rest g i (le_of_suc-le-suc h))
    go rest false f i h =
        let z = eqb-false (record_fault k heap t a pos) 0 f in
        absurd (z (sym (ap (λ (r : Answer). r.number) (from-stop k heap t step pos a m z)) ∙ e))

-- position i + 1 of the list whose entry stands at c
pub record-passes : (k : ℕ) (heap : Region) (t : List ℕ) (c : ℕ) → (list_fault k heap t c).number ≡ 0 → (i : ℕ) → i < get_or t (c + 7) 0
    → record_fault k heap t (num t c 4 + i * num t (c + 4) 2) (1 + i) ≡ 0
unfolding list_fault
record-passes k heap t c e i h = from-passes k heap t (num t (c + 4) 2) 1 (num t c 4) (get_or t (c + 7) 0) e i h

pub record-in : (t : List ℕ) (c b i : ℕ) → ListIn t c b → i < get_or t (c + 7) 0 → num t c 4 + i * num t (c + 4) 2 + b ≤ length t
record-in t c b i p h =
    let s = stride i (get_or t (c + 7) 0) (num t (c + 4) 2) h in
    let w = p.within (omega arith) in
    let l = p.long (omega arith) in
    omega arith

pub used-passes : (k : ℕ) (heap : Region) (t : List ℕ) (a pos : ℕ) → 2 ≤ k → k ≤ 6 → odd (get_or t (a + (layout_of k).shape.flags.at) 0) ≡ true → record_fault k heap t a pos
    ≡ 0 → used_fault k heap t a pos ≡ 0
used-passes k heap t a pos x y o e =
    sym (ap (λ (c : Bool). pick c (used_fault k heap t a pos) 0) o) ∙ record-by k heap t a pos x y ∙ e

pub used-parts : (k : ℕ) (heap : Region) (t : List ℕ) (a pos : ℕ) → used_fault k heap t a pos ≡ 0 → (right_rule k t a pos ≡ 0) × (refs_fault k heap t a pos ≡ 0) × (names_rule k t a ≡ 0)
used-parts k heap t a pos e =
    let u = first-of (right_rule k t a pos) (first_of (refs_fault k heap t a pos) (names_rule k t a)) (used-is k heap t a pos ∙ e) in
    let v = first-of (refs_fault k heap t a pos) (names_rule k t a) u.1 in
    (u.0, v.0, v.1)

-- ---- references that pass

over-passes : (f : ℕ → ℕ) (l : List ℕ) → first_over f l ≡ 0 → (i : ℕ) → i < length l → f (get_or l i 0) ≡ 0
over-passes f [] e i h = absurd (not-suc-le-zero h)
over-passes f (x ∷ xs) e zero h = (first-of (f x) (first_over f xs) e).0
over-passes f (x ∷ xs) e (suc i) h = over-passes f xs (first-of (f x) (first_over f xs) e).1 i (le_of_suc-le-suc h)

pub ref_passes : (k : ℕ) (heap : Region) (t : List ℕ) (a pos : ℕ) → refs_fault k heap t a pos ≡ 0 → (i : ℕ) → i < length (offsets (layout_of k).refs)
    → ref_fault k heap t a pos (get_or (offsets (layout_of k).refs) i 0) ≡ 0
ref_passes k heap t a pos e i h = over-passes (ref_fault k heap t a pos) (offsets (layout_of k).refs) (sym (refs-are k heap t a pos) ∙ e) i h

pub required-in : (from n off len : ℕ) → ref_rule (region from n) Required off len ≡ 0 → Inside from n off len
required-in from n off len e = reached from n off len (go (reaches (region from n) off len) e) where
  go : (c : Bool) → ◌≡◌ {A = ℕ} (pick c 0 11) 0 → c ≡ true
  go true f = refl
  go false f = absurd (omega arith)

pub optional-in : (from n off len : ℕ) → ref_rule (region from n) Optional off len ≡ 0 → 0 < len → Inside from n off len
optional-in from n off len e h = reached from n off len (go (eqb off 0) (reaches (region from n) off len) e) where
  go : (b c : Bool) → ◌≡◌ {A = ℕ} (pick (b && eqb len 0) 0 (pick c 0 11)) 0 → c ≡ true
  go b true f = refl
  go true false f = absurd (omega (arith, rw (ne_eqb len 0 (λ z. omega arith)) at f))
  go false false f = absurd (omega arith)
