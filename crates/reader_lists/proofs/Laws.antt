-- The first fault of several, over a kind's references and over a list. Assumes nothing.
use mathlib.Core.Path.{◌≡◌, refl, sym, ap, ap₂, ◌∙◌}
use mathlib.Core.Bool.{Bool, true, false, ◌&&◌}
use mathlib.Core.List.{List}
use Prim.Native.Nat.{ℕ, zero, suc, ◌+◌, ◌-◌, ◌*◌, ◌≤◌, ◌<◌}
use native.Mathlib.Omega.{arith}
use native.Mathlib.Nat.{suc-mul, add_assoc}
use native.Mathlib.Numerals.{add-one}
use lib.ListN.{get_or}
use lib.Dec.{T, eqb, ltb, ltb→lt}
use borrow.Author.Tests.{eq-eqb, ne_eqb}
use mir.Facts.{and_yes}
use Rattle.table.specs.declared.Region.{Region}
use Rattle.table.specs.Bytes.{pick, odd}
use Rattle.table.specs.Layout.{base_of, is_right, offsets}
use Rattle.table.specs.FixedLayouts.{layout_of, host, hfi, ssns, security, discovery}
use Rattle.table.specs.Rules.{answer, done, first_of, used_rule}
use Rattle.table.specs.Looks.{looks_used, up_to}
use Rattle.laws.specs.Fields.{image_in}
use Rattle.laws.specs.RefWalk.{first_over, refs-over}
use Rattle.laws.specs.ListWalk.{valid_in, env_in, used_it, record_is, flag_ok, walk, walk-stop, walk_more, walk_none, kinds-distinct}
use Rattle.laws.specs.LookLaws.{looks-none, looks-record, looks-turn, looks_it, looks_walk, up_more, up-stop}
use Rattle.laws.specs.RecordKinds.{kind-of}
use Rattle.reader_rules.specs.Rules.{ref_fault}
use Rattle.reader_rules.specs.Records.{right_rule}
use Rattle.reader_indexes.specs.Indexes.{indexes_in, names_found, refs_fault, names_rule}
use Rattle.reader_lists.specs.Lists.{used_fault, record_fault, counts, list_from, used_looks, record_looks, from_looks}

-- ---- over the references of a kind

pub refs-are : (k : ℕ) (heap : Region) (t : List ℕ) (a pos : ℕ) → refs_fault k heap t a pos ≡ first_over (ref_fault k heap t a pos) (offsets (layout_of k).refs)
unfolding refs_fault ref_fault
refs-are k heap t a pos = refs-over heap (env_in t pos) t a (image_in (layout_of k) t a) (layout_of k).refs (kinds-distinct k)

-- ---- a record

pub used-is : (k : ℕ) (heap : Region) (t : List ℕ) (a pos : ℕ) → first_of (right_rule k t a pos) (first_of (refs_fault k heap t a pos) (names_rule k t a)) ≡ used_fault k heap t a pos
unfolding used_fault used_it used_rule right_rule refs_fault names_found indexes_in
used-is k heap t a pos = refl

-- its looks: itself, and behind its fields and references its indexes
module _ (k : ℕ) (heap : Region) (t : List ℕ) (a pos : ℕ) where
  abbrev right : Bool
  right = is_right (layout_of k).shape (env_in t pos) (image_in (layout_of k) t a)

  abbrev looks_by : Bool → Bool → ℕ
  looks_by c d = 1 + pick (c && d) (names_found k t a).looks 0

  looks-are : looks_by right (eqb (refs_fault k heap t a pos) 0) ≡ used_looks k heap t a pos
  unfolding used_looks looks_it looks_used refs_fault names_found indexes_in
  looks-are = refl

  is_right_lem : (c : Bool) → ◌≡◌ {A = ℕ} (pick c 0 10) 0 → c ≡ true
  is_right_lem true e = refl
  is_right_lem false e = absurd (omega arith)

  is-wrong : (c : Bool) → (◌≡◌ {A = ℕ} (pick c 0 10) 0 → ⊥) → c ≡ false
  is-wrong true n = absurd (n refl)
  is-wrong false n = refl

  pub looks-wrong : (right_rule k t a pos ≡ 0 → ⊥) → 1 ≡ used_looks k heap t a pos
  unfolding right_rule
  looks-wrong n = sym (ap (λ (c : Bool). looks_by c (eqb (refs_fault k heap t a pos) 0)) (is-wrong right n)) ∙ looks-are

  pub looks-faulty : (refs_fault k heap t a pos ≡ 0 → ⊥) → 1 ≡ used_looks k heap t a pos
  looks-faulty n = sym (ap (looks_by right) (ne_eqb (refs_fault k heap t a pos) 0 n) ∙ none right) ∙ looks-are where
    none : (c : Bool) → looks_by c false ≡ 1
    none true = refl
    none false = refl

  pub looks-names : right_rule k t a pos ≡ 0 → refs_fault k heap t a pos ≡ 0 → 1 + (names_found k t a).looks ≡ used_looks k heap t a pos
  unfolding right_rule
  looks-names e f = sym (ap₂ looks_by (is_right_lem right e) (eq-eqb (refs_fault k heap t a pos) 0 f)) ∙ looks-are

-- the kinds whose valid bit stands in their flags: one computed test
pub flags-stand : (k : ℕ) → 2 ≤ k → k ≤ 6 → T (flag_ok (layout_of k))
unfolding layout_of host hfi ssns security discovery
flags-stand zero x y = absurd (omega arith)
flags-stand (suc zero) x y = absurd (omega arith)
flags-stand (suc (suc zero)) x y = tt
flags-stand (suc (suc (suc zero))) x y = tt
flags-stand (suc (suc (suc (suc zero)))) x y = tt
flags-stand (suc (suc (suc (suc (suc zero))))) x y = tt
flags-stand (suc (suc (suc (suc (suc (suc zero)))))) x y = tt
flags-stand (suc (suc (suc (suc (suc (suc (suc k))))))) x y = absurd (omega arith)

pub flag-within : (k : ℕ) → 2 ≤ k → k ≤ 6 → (layout_of k).shape.flags.at < base_of (layout_of k)
flag-within k x y = ltb→lt _ _ (and_yes (ltb (layout_of k).shape.flags.at (base_of (layout_of k))) _ (flags-stand k x y)).0

pub record-by : (k : ℕ) (heap : Region) (t : List ℕ) (a pos : ℕ) → 2 ≤ k → k ≤ 6
    → pick (odd (get_or t (a + (layout_of k).shape.flags.at) 0)) (used_fault k heap t a pos) 0 ≡ record_fault k heap t a pos
unfolding used_fault record_fault
record-by k heap t a pos x y = sym (record_is (layout_of k) (valid_in t) heap (env_in t pos) t a (flags-stand k x y))

pub looks-by : (k : ℕ) (heap : Region) (t : List ℕ) (a pos : ℕ) → 2 ≤ k → k ≤ 6
    → pick (odd (get_or t (a + (layout_of k).shape.flags.at) 0)) (used_looks k heap t a pos) 1 ≡ record_looks k heap t a pos
unfolding used_looks record_looks
looks-by k heap t a pos x y = sym (looks-record (layout_of k) (valid_in t) heap (env_in t pos) t a (flags-stand k x y))

-- ---- a list

pub next_start : (a i s : ℕ) → a + i * s + s ≡ a + (i + 1) * s
next_start a i s = rw (add-one i, suc-mul i s, add_assoc a (i * s) s)

-- a turn of the walk at position i + 1
module _ (k : ℕ) (heap : Region) (t : List ℕ) (step base i count : ℕ) where
  left : i < count → count - i ≡ suc (count - (i + 1))
  left h = omega arith

  pub turn-stop : {n : ℕ} → 2 ≤ k → k ≤ 6 → i < count → n ≡ record_fault k heap t base (i + 1) → (n ≡ 0 → ⊥)
      → list_from k heap t step (i + 1) base (count - i) ≡ answer n k (i + 1)
  unfolding list_from record_fault env_in counts
  turn-stop {n} x y h f z =
      rw (left h) (walk-stop (layout_of k) (valid_in t) (counts t) heap t step (i + 1) base (count - (i + 1)) n f z ∙ ap (λ (j : ℕ). answer n j (i + 1)) (kind-of k x y))

  pub turn_more : {n : ℕ} → i < count → n ≡ record_fault k heap t base (i + 1) → n ≡ 0
      → list_from k heap t step (i + 1 + 1) (base + step) (count - (i + 1)) ≡ list_from k heap t step (i + 1) base (count - i)
  unfolding list_from record_fault env_in counts
  turn_more {n} h f z =
      sym (rw (left h) (walk_more (layout_of k) (valid_in t) (counts t) heap t step (i + 1) base (count - (i + 1)) n f z
      ∙ ap (λ (p : ℕ). walk (layout_of k) (valid_in t) (counts t) heap t step p (base + step) (count - (i + 1))) (sym (add-one (i + 1)))))

  pub turn-none : count ≤ i → list_from k heap t step (i + 1) base (count - i) ≡ done
  unfolding list_from
  turn-none h = let z : count - i ≡ 0 = omega arith in rw z (walk_none (layout_of k) (valid_in t) (counts t) heap t step (i + 1) base)

  -- the looks of a turn
  took : {n : ℕ} → i < count → n ≡ record_fault k heap t base (i + 1)
      → from_looks k heap t step (i + 1) base (count - i) ≡ up_to (record_looks k heap t base (i + 1)) n (from_looks k heap t step (i + 1 + 1) (base + step) (count - (i + 1)))
  unfolding from_looks record_fault record_looks env_in counts
  took {n} h f =
      rw (left h) (looks-turn (layout_of k) (valid_in t) (counts t) heap t step (i + 1) base (count - (i + 1)) n f
      ∙ ap (λ (p : ℕ). up_to (record_looks k heap t base (i + 1)) n (looks_walk (layout_of k) (valid_in t) (counts t) heap t step p (base + step) (count - (i + 1)))) (sym (add-one (i + 1))))

  pub took-stop : {n : ℕ} → i < count → n ≡ record_fault k heap t base (i + 1) → (n ≡ 0 → ⊥) → from_looks k heap t step (i + 1) base (count - i) ≡ record_looks k heap t base (i + 1)
  took-stop {n} h f z = took h f ∙ up-stop (record_looks k heap t base (i + 1)) n _ z

  pub took_more : {n : ℕ} → i < count → n ≡ record_fault k heap t base (i + 1) → n ≡ 0
      → from_looks k heap t step (i + 1) base (count - i) ≡ record_looks k heap t base (i + 1) + from_looks k heap t step (i + 1 + 1) (base + step) (count - (i + 1))
  took_more {n} h f z = took h f ∙ up_more (record_looks k heap t base (i + 1)) n _ z

  pub took-none : count ≤ i → from_looks k heap t step (i + 1) base (count - i) ≡ 0
  unfolding from_looks
  took-none h = let z : count - i ≡ 0 = omega arith in rw z (looks-none (layout_of k) (valid_in t) (counts t) heap t step (i + 1) base)
