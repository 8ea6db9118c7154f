-- References by their halves, and the rule that their numbers are. Assumes nothing.
use mathlib.Core.Path.{◌≡◌, refl, sym, ap, ap₂, ◌∙◌}
use mathlib.Core.Bool.{Bool, true, false, not, ◌&&◌}
use mathlib.Core.List.{List, [], ◌∷◌}
use Prim.Native.Nat.{ℕ, ◌+◌, ◌-◌, ◌≤◌, ◌<◌}
use native.Mathlib.Omega.{arith}
use lib.ListN.{length, length-take, length-drop}
use lib.Dec.{T, eqb, leb, leb→le, leb-zero}
use mir.Facts.{and_yes, eqb_no}
use borrow.Author.Tests.{ne_eqb, le-leb, lt-leb}
use Rattle.table.specs.declared.Region.{Region}
use Rattle.table.specs.declared.Need.{Need}
use Rattle.table.specs.declared.Need.TheVariants.{Ignored, Optional, Required}
use Rattle.table.specs.Bytes.{pick, part}
use Rattle.table.specs.Layout.{is_text, region}
use Rattle.table.specs.Objects.{under}
use Rattle.table.specs.Rules.{first_of, reaches, ref_rule}
use Rattle.laws.specs.RefWalk.{first-zero}
use Rattle.reader_references.specs.declared.Ref.{Ref}
use Rattle.reader_references.specs.declared.Ref.TheVariants.{Absent, Wrong, Part}
use Rattle.reader_references.specs.References.{ref_of, ref_number, part_in, asked_rule, text_rule, object_rule, positions_rule}

-- a reference's number is the rule's
pub ref-rule : (heap : Region) (n : Need) (off len : ℕ) → ref_number n (ref_of heap off len) ≡ ref_rule heap n off len
unfolding ref_of ref_number
ref-rule heap Ignored off len = refl
ref-rule heap Optional off len = go (eqb off 0 && eqb len 0) (reaches heap off len)
  where
    go : (c d : Bool) → ref_number Optional (pick c Absent (pick d (Part off len) Wrong)) ≡ pick c 0 (pick d 0 11)
    go true d = refl
    go false true = refl
    go false false = refl
ref-rule heap Required off len = go (eqb off 0) (eqb len 0) _
  where
    go : (x y z : Bool) → ref_number Required (pick (x && y) Absent (pick (not x && (not y && z)) (Part off len) Wrong)) ≡ pick (not x && (not y && z)) 0 11
    go true true z = refl
    go true false z = refl
    go false true z = refl
    go false false true = refl
    go false false false = refl

-- an object that ends behind the heap, and one that lies in it
pub ref-out : (from n off len : ℕ) → (off ≡ 0 → ⊥) → from + n < off + len → Wrong ≡ ref_of (region from n) off len
unfolding ref_of
ref-out from n off len x h = rw (ne_eqb off 0 x, lt-leb (off + len) (from + n) h) (go (eqb len 0) (leb from off))
  where
    go : (c d : Bool) → Wrong ≡ pick (not c && (d && false)) (Part off len) Wrong
    go true d = refl
    go false true = refl
    go false false = refl

pub ref-in : (from n off len : ℕ) → (off ≡ 0 → ⊥) → (len ≡ 0 → ⊥) → from ≤ off → off + len ≤ from + n → Part off len ≡ ref_of (region from n) off len
unfolding ref_of
ref-in from n off len x y l h = rw (ne_eqb off 0 x, ne_eqb len 0 y, le-leb from off l, le-leb (off + len) (from + n) h)

-- what is judged by where the heap lies is judged by the heap
pub of-bounds : (f g n m off len : ℕ) (r : Ref) → f ≡ g → n ≡ m → r ≡ ref_of (region f n) off len → r ≡ ref_of (region g m) off len
of-bounds f g n m off len r e h k = k ∙ rw (e, h) refl

-- ---- what a reference is

pub ref-part : (heap : Region) (off len at n : ℕ) → ref_of heap off len ≡ Part at n → (reaches heap off len ≡ true) × (at ≡ off) × (n ≡ len)
unfolding ref_of
ref-part heap off len at n e = go (eqb off 0 && eqb len 0) (reaches heap off len) refl e
  where
    go : (c d : Bool) → reaches heap off len ≡ d → pick c Absent (pick d (Part off len) Wrong) ≡ Part at n → (reaches heap off len ≡ true) × (at ≡ off) × (n ≡ len)
    go true d f g = let z : ◌≡◌ {A = ℕ} 0 1 = cc in absurd (omega arith)
    go false true f g = (f, (cc), (cc))
    go false false f g = let z : ◌≡◌ {A = ℕ} 0 1 = cc in absurd (omega arith)

pub ref-wrong : (heap : Region) (off len : ℕ) → ref_of heap off len ≡ Wrong → reaches heap off len ≡ false
unfolding ref_of
ref-wrong heap off len e = go (eqb off 0 && eqb len 0) (reaches heap off len) refl e
  where
    go : (c d : Bool) → reaches heap off len ≡ d → pick c Absent (pick d (Part off len) Wrong) ≡ Wrong → reaches heap off len ≡ false
    go true d f g = let z : ◌≡◌ {A = ℕ} 0 1 = cc in absurd (omega arith)
    go false true f g = let z : ◌≡◌ {A = ℕ} 0 1 = cc in absurd (omega arith)
    go false false f g = f

pub ref-absent : (heap : Region) (off len : ℕ) → ref_of heap off len ≡ Absent → reaches heap off len ≡ false
unfolding ref_of
ref-absent heap off len e = go (eqb off 0) (eqb len 0) (leb heap.at off && leb (off + len) (heap.at + heap.len)) e
  where
    go : (x y z : Bool) → pick (x && y) Absent (pick (not x && (not y && z)) (Part off len) Wrong) ≡ Absent → (not x && (not y && z)) ≡ false
    go true y z g = refl
    go false true z g = refl
    go false false true g = let w : ◌≡◌ {A = ℕ} 0 1 = cc in absurd (omega arith)
    go false false false g = refl

-- one that names no part of the heap
pub ref-nowhere : (heap : Region) (off len : ℕ) (x : Ref) → x ≡ ref_of heap off len → ((a n : ℕ) → x ≡ Part a n → ⊥) → reaches heap off len ≡ false
ref-nowhere heap off len Absent e f = ref-absent heap off len (sym e)
ref-nowhere heap off len Wrong e f = ref-wrong heap off len (sym e)
ref-nowhere heap off len (Part a n) e f = absurd (f a n refl)

-- ---- an object in the heap

pub record Inside (from n off len : ℕ) : Type 0 where
  pub above : from ≤ off
  pub below : off + len ≤ from + n
  pub some : 0 < len

pub reached : (from n off len : ℕ) → reaches (region from n) off len ≡ true → Inside from n off len
reached from n off len e =
    let r : T (reaches (region from n) off len) = rw e tt in
    let u = and_yes (not (eqb off 0)) (not (eqb len 0) && (leb from off && leb (off + len) (from + n))) r in
    let v = and_yes (not (eqb len 0)) (leb from off && leb (off + len) (from + n)) u.1 in
    let w = and_yes (leb from off) (leb (off + len) (from + n)) v.1 in
    let z = eqb_no {a = len} {b = 0} v.0 in
    record { above = leb→le from off w.0; below = leb→le (off + len) (from + n) w.1; some = omega arith }

pub part-inside : (from n off len at m : ℕ) → ref_of (region from n) off len ≡ Part at m → Inside from n at m
part-inside from n off len at m e = let f = ref-part (region from n) off len at m e in rw (f.1, f.2) (reached from n off len f.0)

-- the bytes that it names, in a heap that is lent as a part
pub part-yes : (heap : List ℕ) (from off len : ℕ) → reaches (region from (length heap)) off len ≡ true → part heap (off - from) len ≡ part_in heap from off len
unfolding part_in
part-yes heap from off len e = rw e

pub part_no : (heap : List ℕ) (from off len : ℕ) → reaches (region from (length heap)) off len ≡ false → [] ≡ part_in heap from off len
unfolding part_in
part_no heap from off len e = rw e

-- no object is empty
pub part_none : (heap : List ℕ) (from off len : ℕ) → length (part_in heap from off len) ≡ 0 → reaches (region from (length heap)) off len ≡ false
unfolding part_in
part_none heap from off len z = go (reaches (region from (length heap)) off len) refl z
  where
    go : (c : Bool) → reaches (region from (length heap)) off len ≡ c → length (pick c (part heap (off - from) len) []) ≡ 0 → c ≡ false
    go true e n = let i = reached from (length heap) off len e in absurd (omega (arith, i, simp (length-take, length-drop) at n))
    go false e n = refl

pub part-some : (heap : List ℕ) (from off len : ℕ) → (length (part_in heap from off len) ≡ 0 → ⊥) → reaches (region from (length heap)) off len ≡ true
unfolding part_in
part-some heap from off len z = go (reaches (region from (length heap)) off len) z
  where
    go : (c : Bool) → (length (pick c (part heap (off - from) len) []) ≡ 0 → ⊥) → c ≡ true
    go true n = refl
    go false n = absurd (n refl)

-- ---- an object by its reference

-- of any bytes: nothing is asked behind the reference
pub plain-object : (n : Need) (heap : List ℕ) (from : ℕ) (r : Region) → ref_rule (region from (length heap)) n r.at r.len ≡ object_rule n false heap from r
unfolding object_rule
plain-object Ignored heap from r = refl
plain-object Optional heap from r = sym (first-zero (ref_rule (region from (length heap)) Optional r.at r.len))
plain-object Required heap from r = sym (first-zero (ref_rule (region from (length heap)) Required r.at r.len))

-- what a call of either kind answers, where need and content are known by other names
module _ (n m : Need) (c b : Bool) (heap : List ℕ) (from : ℕ) (r : Region) (x : ℕ) (en : n ≡ m) (ec : c ≡ b) where
  pub as-text : c ≡ true → x ≡ object_rule n true heap from r → x ≡ object_rule m b heap from r
  as-text e q = q ∙ ap₂ (λ (k : Need) (d : Bool). object_rule k d heap from r) en (sym e ∙ ec)

  pub as_bytes : c ≡ false → x ≡ ref_rule (region from (length heap)) n r.at r.len → x ≡ object_rule m b heap from r
  as_bytes e q = q ∙ plain-object n heap from r ∙ ap₂ (λ (k : Need) (d : Bool). object_rule k d heap from r) en (sym e ∙ ec)

-- one that is not there has the number of its reference: nothing is asked of no bytes
module _ (n : Need) (asks : List ℕ → ℕ) (free : asks [] ≡ 0) (heap : List ℕ) (from : ℕ) (r : Region) where
  abbrev here : Region
  here = region from (length heap)

  asked_by : (x : ℕ) → ref_rule here n r.at r.len ≡ x → (b : List ℕ) → part_in heap from r.at r.len ≡ b → asked_rule n asks heap from r ≡ first_of x (under n 0 (asks b))
  asked_by x e b f = ap₂ (λ (y : ℕ) (c : List ℕ). first_of y (under n 0 (asks c))) e f

  pub asked-nowhere : (x : Ref) → x ≡ ref_of here r.at r.len → reaches here r.at r.len ≡ false → ref_number n x ≡ asked_rule n asks heap from r
  asked-nowhere x e f =
      sym (asked_by (ref_number n x) (sym (ref-rule here n r.at r.len) ∙ ap (ref_number n) (sym e)) [] (sym (part_no heap from r.at r.len f))
      ∙ ap (λ (m : ℕ). first_of (ref_number n x) (under n 0 m)) free ∙ go n)
    where
      go : (m : Need) → first_of (ref_number n x) (under m 0 0) ≡ ref_number n x
      go Ignored = first-zero (ref_number n x)
      go Optional = first-zero (ref_number n x)
      go Required = first-zero (ref_number n x)

  -- one that is there has its own
  pub asked-there : (at len : ℕ) → ref_of here r.at r.len ≡ Part at len → ◌≡◌ {A = ℕ} (under n 0 1) 1 → asks (part heap (at - from) len) ≡ asked_rule n asks heap from r
  unfolding ref_number
  asked-there at len e k =
      let f = ref-part here r.at r.len at len e in
      let b : List ℕ = part heap (r.at - from) r.len in
      ap₂ (λ (i j : ℕ). asks (part heap (i - from) j)) f.1 f.2
      ∙ sym (asked_by (ref_number n (Part at len)) (sym (ref-rule here n r.at r.len) ∙ ap (ref_number n) e) b (sym (part-yes heap from r.at r.len f.0)) ∙ go n k)
    where
      go : (m : Need) → ◌≡◌ {A = ℕ} (under m 0 1) 1 → first_of (ref_number m (Part at len)) (under m 0 (asks (part heap (r.at - from) r.len))) ≡ asks (part heap (r.at - from) r.len)
      go Ignored q = absurd (omega (arith, q))
      go Optional q = refl
      go Required q = refl

-- a reference that counts
pub counted : (n : Need) → (n ≡ Ignored → ⊥) → ◌≡◌ {A = ℕ} (under n 0 1) 1
counted Ignored f = absurd (f refl)
counted Optional f = refl
counted Required f = refl

text-some : (bs : List ℕ) (c : Bool) → (length bs ≡ 0 → ⊥) → is_text bs ≡ c → pick c 0 18 ≡ text_rule bs
text-some [] c n e = absurd (n refl)
text-some (b ∷ bs) c n e = ap (λ (d : Bool). pick {X = ℕ} d 0 18) (sym e)

module _ (n : Need) (heap : List ℕ) (from : ℕ) (r : Region) where
  pub text-nowhere : (x : Ref) → x ≡ ref_of (region from (length heap)) r.at r.len → reaches (region from (length heap)) r.at r.len ≡ false
      → ref_number n x ≡ object_rule n true heap from r
  unfolding object_rule
  text-nowhere = asked-nowhere n text_rule refl heap from r

  pub text-there : (at len : ℕ) → ref_of (region from (length heap)) r.at r.len ≡ Part at len → ◌≡◌ {A = ℕ} (under n 0 1) 1
      → pick (is_text (part heap (at - from) len)) 0 18 ≡ object_rule n true heap from r
  unfolding object_rule
  text-there at len e k =
      let i = part-inside from (length heap) r.at r.len at len e in
      let b : List ℕ = part heap (at - from) len in
      let long : length b ≡ len = simp (length-take, length-drop) (omega (arith, i)) in
      text-some b (is_text b) (λ z. absurd (omega (arith, i, long, z))) refl
      ∙ asked-there n text_rule refl heap from r at len e k

-- nothing is asked of a list that is not there
pub positions-free : (most : ℕ) → positions_rule most [] ≡ 0
positions-free most = rw (leb-zero most)
