-- The tests over what was read are those of the definitions, and what they give where none fails. Assumes nothing.
use mathlib.Core.Path.{◌≡◌, refl, sym, ap, ◌∙◌}
use mathlib.Core.Bool.{Bool, true, false, not, ◌&&◌, ◌||◌}
use mathlib.Core.List.{List, [], ◌∷◌}
use Prim.Native.Nat.{ℕ, ◌+◌, ◌*◌, ◌%◌, ◌≤◌, ◌<◌}
use native.Mathlib.Nat.{add-zero, le_trans}
use native.Mathlib.Omega.{arith}
use lib.ListN.{length, get_or, take}
use lib.Dec.{T, leb, eqb, leb→le}
use borrow.Author.Tests.{ne_eqb, eqb-true, eqb-false}
use mir.Facts.{and_yes}
use Rattle.table.specs.declared.Region.{Region}
use Rattle.table.specs.declared.Answer.{Answer}
use Rattle.table.specs.Bytes.{pick, num, odd, total}
use Rattle.table.specs.Layout.{region, base_of}
use Rattle.table.specs.FixedLayouts.{list_kinds, host, hfi, ssns, security, discovery}
use Rattle.table.specs.Rules.{answer, first, test, first_fail, apart, apart_all, apart_each, inside, cons_if, list_regions, long_enough, versioned}
use Rattle.table.specs.Meaning.{limit}
use Rattle.table.specs.Numbers.{tests, regions}
use Rattle.laws.specs.TestLaws.{all_pass}
use Rattle.reader_head.specs.declared.Entry.{Entry}
use Rattle.reader_head.specs.declared.Head.{Head}
use Rattle.reader_spans.specs.declared.Span.{Span}
use Rattle.reader_head.specs.Head.{head_of, entry_in}
use Rattle.reader_order.specs.Judging.{size_tests, judged}
use Rattle.reader_frame.specs.Tests.{control_wrong, too_short, short_lists, wrong_version, wrong_versions, head_tests}
use Rattle.reader_regions.specs.Regions.{list_span, spans_of, outsides, overlaps_of, overlaps, misplaced}
use Rattle.reader_spans.specs.Spans.{outside, region_of, overlap}
use Rattle.reader_frame.specs.Bounds.{HeapFar, LaidOut}

-- ---- a count of faults is 0 where the tests hold

-- a sum is 0 where both parts are
zero-sum : (a b : ℕ) {v w : Bool} → eqb a 0 ≡ v → eqb b 0 ≡ w → eqb (a + b) 0 ≡ (v && w)
zero-sum a b {v} {w} e f = go v e
  where
    go : (v : Bool) → eqb a 0 ≡ v → eqb (a + b) 0 ≡ (v && w)
    go true h = let z : a ≡ 0 = eqb-true a 0 h in let y : a + b ≡ b = omega arith in ap (λ (n : ℕ). eqb n 0) y ∙ f
    go false h = ne_eqb (a + b) 0 (λ z. eqb-false a 0 h (omega arith))

zero-four : (a b c d : ℕ) {u v w x : Bool} → eqb a 0 ≡ u → eqb b 0 ≡ v → eqb c 0 ≡ w → eqb d 0 ≡ x
    → eqb (a + (b + (c + d))) 0 ≡ (u && (v && (w && (x && true))))
zero-four a b c d e f g h =
    ap (λ (n : ℕ). eqb (a + (b + (c + n))) 0) (sym (add-zero d))
    ∙ zero-sum a (b + (c + (d + 0))) e (zero-sum b (c + (d + 0)) f (zero-sum c (d + 0) g (zero-sum d 0 h refl)))

none₁ : (v : Bool) → eqb (pick v 0 1) 0 ≡ v
none₁ true = refl
none₁ false = refl

none₂ : (v w : Bool) → eqb (pick v 0 (pick w 0 1)) 0 ≡ (v || w)
none₂ true w = refl
none₂ false w = none₁ w

none₃ : (v u w : Bool) → eqb (pick v 0 (pick u 0 (pick w 0 1))) 0 ≡ (v || (u || w))
none₃ true u w = refl
none₃ false u w = none₂ u w

-- ---- regions

-- the regions that are there
abbrev present : List Span → List Region
present [] = []
present (s ∷ ss) = cons_if (not (eqb s.present 0)) (region_of s) (present ss)

outsides-are : (lo hi : ℕ) (ss : List Span) → eqb (outsides lo hi ss) 0 ≡ inside lo hi (present ss)
unfolding outside
outsides-are lo hi [] = refl
outsides-are lo hi (s ∷ ss) =
    zero-sum (outside lo hi s) (outsides lo hi ss) (none₂ (eqb s.present 0) (leb lo s.at && leb (s.at + s.len) hi)) (outsides-are lo hi ss)
    ∙ go (eqb s.present 0)
  where
    go : (v : Bool) → ((v || (leb lo s.at && leb (s.at + s.len) hi)) && inside lo hi (present ss)) ≡ inside lo hi (cons_if (not v) (region_of s) (present ss))
    go true = refl
    go false = refl

overlaps-of : (x : Span) (ss : List Span) → eqb (overlaps_of x ss) 0 ≡ (eqb x.present 0 || apart_all (region_of x) (present ss))
unfolding overlap
overlaps-of x [] = go (eqb x.present 0)
  where
    go : (v : Bool) → true ≡ (v || true)
    go true = refl
    go false = refl
overlaps-of x (y ∷ ys) =
    zero-sum (overlap x y) (overlaps_of x ys) (none₃ (eqb x.present 0) (eqb y.present 0) (apart (region_of x) (region_of y))) (overlaps-of x ys)
    ∙ go (eqb x.present 0) (eqb y.present 0)
  where
    go : (v u : Bool) → ((v || (u || apart (region_of x) (region_of y))) && (v || apart_all (region_of x) (present ys)))
        ≡ (v || apart_all (region_of x) (cons_if (not u) (region_of y) (present ys)))
    go true u = refl
    go false true = refl
    go false false = refl

overlaps-are : (ss : List Span) → eqb (overlaps ss) 0 ≡ apart_each (present ss)
overlaps-are [] = refl
overlaps-are (x ∷ xs) = zero-sum (overlaps_of x xs) (overlaps xs) (overlaps-of x xs) (overlaps-are xs) ∙ go (eqb x.present 0)
  where
    go : (v : Bool) → ((v || apart_all (region_of x) (present xs)) && apart_each (present xs)) ≡ apart_each (cons_if (not v) (region_of x) (present xs))
    go true = refl
    go false = refl

-- ---- over the head of a table

regions-are : (t : List ℕ) → present (spans_of (head_of t)) ≡ regions t
unfolding head_of list_span regions list_regions
regions-are t = refl

misplaced-is : (t : List ℕ) → eqb (misplaced (head_of t)) 0 ≡ (inside (64 + num t 68 2) (num t 4 4) (regions t) && apart_each (regions t))
unfolding misplaced head_of
misplaced-is t =
    let lo = 64 + num t 68 2 in
    let size = num t 4 4 in
    let ss = spans_of (head_of t) in
    zero-sum (outsides lo size ss) (overlaps ss) (outsides-are lo size ss) (overlaps-are ss)
    ∙ ap (λ (rs : List Region). inside lo size rs && apart_each rs) (regions-are t)

control-is : (h : Head)
    → eqb (control_wrong h) 0
    ≡ (eqb h.controlid 1 && (eqb h.controlmajor 1 && (leb 64 h.csl && (leb (64 + h.csl) h.size && odd h.flags))))
unfolding control_wrong
control-is h = none₁ _

short-is : (e : Entry) (b : ℕ) → eqb (too_short e b) 0 ≡ (eqb e.count 0 || leb b e.step)
unfolding too_short
short-is e b = none₂ (eqb e.count 0) (leb b e.step)

version-is : (e : Entry) → eqb (wrong_version e) 0 ≡ (eqb e.count 0 || eqb e.version 1)
unfolding wrong_version
version-is e = none₂ (eqb e.count 0) (eqb e.version 1)

lengths-are : (t : List ℕ) → eqb (short_lists (head_of t)) 0 ≡ long_enough list_kinds t 80
unfolding short_lists head_of long_enough
lengths-are t =
    zero-four
    (too_short (entry_in t 80) (base_of hfi)) (too_short (entry_in t 88) (base_of ssns))
    (too_short (entry_in t 96) (base_of security)) (too_short (entry_in t 104) (base_of discovery))
    (short-is (entry_in t 80) (base_of hfi)) (short-is (entry_in t 88) (base_of ssns))
    (short-is (entry_in t 96) (base_of security)) (short-is (entry_in t 104) (base_of discovery))

versions-are : (t : List ℕ) → eqb (wrong_versions (head_of t)) 0 ≡ versioned list_kinds t 80
unfolding wrong_versions head_of versioned
versions-are t =
    zero-four
    (wrong_version (entry_in t 80)) (wrong_version (entry_in t 88)) (wrong_version (entry_in t 96)) (wrong_version (entry_in t 104))
    (version-is (entry_in t 80)) (version-is (entry_in t 88)) (version-is (entry_in t 96)) (version-is (entry_in t 104))

-- ---- the tests in the stages of the code

unfoldable pub staged : ℕ → Answer → ℕ → Answer → Answer
staged n a s b = pick (leb 160 n) (first a (pick (eqb s 0) b (answer 5 0 0))) (answer 1 0 0)

stage : (u v w : Bool) (x : Answer)
    → pick u (pick v (pick w x (answer 4 0 0)) (answer 3 0 0)) (answer 2 0 0) ≡ first (first_fail (test u 2 0 0 ∷ test v 3 0 0 ∷ test w 4 0 0 ∷ [])) x
stage true true true x = refl
stage true true false x = refl
stage true false w x = refl
stage false v w x = refl

pub tests-are : (t : List ℕ)
    → staged (length t) (first_fail (size_tests (num t 0 4) (num t 4 4) (length t))) (total (take (num t 4 4) t) % 256) (first_fail (head_tests (head_of t)))
    ≡ first_fail (tests t)
unfolding staged tests head_tests judged size_tests head_of
tests-are t =
    rw (control-is (head_of t), lengths-are t, misplaced-is t, versions-are t)
    (ap (λ (x : Answer). pick (leb 160 (length t)) x (answer 1 0 0))
    (sym (stage (eqb (num t 0 4) 0x5446424E) (leb 160 (num t 4 4) && leb (num t 4 4) (length t)) (leb (num t 4 4) limit) _)))

-- ---- what passed tests give

-- tests 2 to 4 bring Length within what is lent
pub size-lent : (s size lent : ℕ) → (first_fail (size_tests s size lent)).number ≡ 0 → size ≤ lent
unfolding size_tests
size-lent s size lent e =
    let k = all_pass (size_tests s size lent) tt e in
    leb→le size lent (and_yes (leb 160 size) (leb size lent) k.1.0).1

inside-if : (lo hi : ℕ) (b : Bool) (x : Region) (xs : List Region) → T (inside lo hi (cons_if b x xs)) → (T b → x.at + x.len ≤ hi) × T (inside lo hi xs)
inside-if lo hi true x xs k =
    let u = and_yes (leb lo x.at && leb (x.at + x.len) hi) (inside lo hi xs) k in
    let v = and_yes (leb lo x.at) (leb (x.at + x.len) hi) u.0 in
    ((λ b. leb→le (x.at + x.len) hi v.1), u.1)
inside-if lo hi false x xs k = ((λ b. absurd b), k)

inside-behind : (lo hi : ℕ) (b : Bool) (x : Region) (xs : List Region) → T (inside lo hi (cons_if b x xs)) → T b → lo ≤ x.at
inside-behind lo hi true x xs k b =
    let u = and_yes (leb lo x.at && leb (x.at + x.len) hi) (inside lo hi xs) k in
    leb→le lo x.at (and_yes (leb lo x.at) (leb (x.at + x.len) hi) u.0).0
inside-behind lo hi false x xs k b = absurd b

positive : (n : ℕ) → 0 < n → T (not (eqb n 0))
positive n h = rw (ne_eqb n 0 (λ e. omega arith)) tt

or_long : (n b s : ℕ) → T (eqb n 0 || leb b s) → 0 < n → b ≤ s
or_long n b s k h = let e : eqb n 0 ≡ false = ne_eqb n 0 (λ z. omega arith) in leb→le b s (rw e at k)

-- the heap's region is one of those that lie behind the control record and before the end
heap-inside : (t : List ℕ)
    → (first_fail (tests t)).number ≡ 0
    → T (inside (64 + num t 68 2) (num t 4 4) (cons_if (not (eqb (num t 40 4) 0)) (region (num t 36 4) (num t 40 4)) []))
unfolding tests regions list_regions host
heap-inside t e =
    let k = all_pass (tests t) tt e in
    let lo = 64 + num t 68 2 in
    let size = num t 4 4 in
    let p = and_yes (leb 32 (num t 76 2)) (long_enough list_kinds t 80 && (inside lo size (regions t) && apart_each (regions t))) k.1.1.1.1.1.1.1.0 in
    let q = and_yes (long_enough list_kinds t 80) (inside lo size (regions t) && apart_each (regions t)) p.1 in
    let r = and_yes (inside lo size (regions t)) (apart_each (regions t)) q.1 in
    let H = cons_if (not (eqb (num t 40 4) 0)) (region (num t 36 4) (num t 40 4)) [] in
    let i0 = inside-if lo size true (region (num t 72 4) (num t 76 2)) (list_regions list_kinds t 80 H) r.0 in
    let i1 = inside-if lo size (not (eqb (get_or t 87 0) 0)) (region (num t 80 4) (get_or t 87 0 * num t 84 2)) (list_regions (ssns ∷ security ∷ discovery ∷ []) t 88 H) i0.1 in
    let i2 = inside-if lo size (not (eqb (get_or t 95 0) 0)) (region (num t 88 4) (get_or t 95 0 * num t 92 2)) (list_regions (security ∷ discovery ∷ []) t 96 H) i1.1 in
    let i3 = inside-if lo size (not (eqb (get_or t 103 0) 0)) (region (num t 96 4) (get_or t 103 0 * num t 100 2)) (list_regions (discovery ∷ []) t 104 H) i2.1 in
    (inside-if lo size (not (eqb (get_or t 111 0) 0)) (region (num t 104 4) (get_or t 111 0 * num t 108 2)) H i3.1).1

pub heap_far : (t : List ℕ) → (first_fail (tests t)).number ≡ 0 → HeapFar t
unfolding tests limit
heap_far t e =
    let k = all_pass (tests t) tt e in
    let lo = 64 + num t 68 2 in
    let size = num t 4 4 in
    let there = inside-if lo size (not (eqb (num t 40 4) 0)) (region (num t 36 4) (num t 40 4)) [] (heap-inside t e) in
    let far = inside-behind lo size (not (eqb (num t 40 4) 0)) (region (num t 36 4) (num t 40 4)) [] (heap-inside t e) in
    let major = (and_yes (eqb (get_or t 64 0) 1) _ k.1.1.1.1.1.1.0).1 in
    let csl = leb→le 64 (num t 68 2) (and_yes (leb 64 (num t 68 2)) _ (and_yes (eqb (get_or t 65 0) 1) _ major).1).0 in
    let short = leb→le size limit k.1.1.1.0 in
    record {
      heap-behind = λ h. omega (arith, far (positive (num t 40 4) h), csl);
      heap-short = λ h. le_trans (there.0 (positive (num t 40 4) h)) short;
    }

pub laid_out_lem : (t : List ℕ) → (first_fail (tests t)).number ≡ 0 → LaidOut t
unfolding tests regions list_regions long_enough host hfi ssns security discovery
laid_out_lem t e =
    let k = all_pass (tests t) tt e in
    let lo = 64 + num t 68 2 in
    let size = num t 4 4 in
    let s = leb→le size (length t) (and_yes (leb 160 size) (leb size (length t)) k.1.1.0).1 in
    let p = and_yes (leb 32 (num t 76 2)) (long_enough list_kinds t 80 && (inside lo size (regions t) && apart_each (regions t))) k.1.1.1.1.1.1.1.0 in
    let q = and_yes (long_enough list_kinds t 80) (inside lo size (regions t) && apart_each (regions t)) p.1 in
    let r = and_yes (inside lo size (regions t)) (apart_each (regions t)) q.1 in
    let l1 = and_yes (eqb (get_or t 87 0) 0 || leb 32 (num t 84 2)) (long_enough (ssns ∷ security ∷ discovery ∷ []) t 88) q.0 in
    let l2 = and_yes (eqb (get_or t 95 0) 0 || leb 128 (num t 92 2)) (long_enough (security ∷ discovery ∷ []) t 96) l1.1 in
    let l3 = and_yes (eqb (get_or t 103 0) 0 || leb 64 (num t 100 2)) (long_enough (discovery ∷ []) t 104) l2.1 in
    let l4 = and_yes (eqb (get_or t 111 0) 0 || leb 32 (num t 108 2)) true l3.1 in
    let H = cons_if (not (eqb (num t 40 4) 0)) (region (num t 36 4) (num t 40 4)) [] in
    let i0 = inside-if lo size true (region (num t 72 4) (num t 76 2)) (list_regions list_kinds t 80 H) r.0 in
    let i1 = inside-if lo size (not (eqb (get_or t 87 0) 0)) (region (num t 80 4) (get_or t 87 0 * num t 84 2)) (list_regions (ssns ∷ security ∷ discovery ∷ []) t 88 H) i0.1 in
    let i2 = inside-if lo size (not (eqb (get_or t 95 0) 0)) (region (num t 88 4) (get_or t 95 0 * num t 92 2)) (list_regions (security ∷ discovery ∷ []) t 96 H) i1.1 in
    let i3 = inside-if lo size (not (eqb (get_or t 103 0) 0)) (region (num t 96 4) (get_or t 103 0 * num t 100 2)) (list_regions (discovery ∷ []) t 104 H) i2.1 in
    let i4 = inside-if lo size (not (eqb (get_or t 111 0) 0)) (region (num t 104 4) (get_or t 111 0 * num t 108 2)) H i3.1 in
    let i5 = inside-if lo size (not (eqb (num t 40 4) 0)) (region (num t 36 4) (num t 40 4)) [] i4.1 in
    let h0 : num t 72 4 + num t 76 2 ≤ size = i0.0 tt in
    let h32 : 32 ≤ num t 76 2 = leb→le 32 (num t 76 2) p.0 in
    record {
      lent = leb→le 160 (length t) k.0;
      sized = s;
      heap = record { heap-in = λ h. le_trans (i5.0 (positive (num t 40 4) h)) s };
      owner = omega arith;
      hfi = record { long = λ h. or_long (get_or t 87 0) 32 (num t 84 2) l1.0 h; within = λ h. le_trans (i1.0 (positive (get_or t 87 0) h)) s };
      ssns = record { long = λ h. or_long (get_or t 95 0) 128 (num t 92 2) l2.0 h; within = λ h. le_trans (i2.0 (positive (get_or t 95 0) h)) s };
      security = record { long = λ h. or_long (get_or t 103 0) 64 (num t 100 2) l3.0 h; within = λ h. le_trans (i3.0 (positive (get_or t 103 0) h)) s };
      discovery = record { long = λ h. or_long (get_or t 111 0) 32 (num t 108 2) l4.0 h; within = λ h. le_trans (i4.0 (positive (get_or t 111 0) h)) s };
    }
