-- A heap record's rule by the bytes that are read, in the order of the code. Assumes nothing.
use mathlib.Core.Path.{◌≡◌, refl, sym, ◌∙◌}
use mathlib.Core.Bool.{true}
use mathlib.Core.List.{List}
use Prim.Native.Nat.{ℕ, ◌/◌, ◌%◌, ◌≤◌, ◌<◌}
use native.Mathlib.Omega.{arith}
use lib.ListN.{length, get_or}
use lib.Dec.{eqb}
use borrow.Author.Tests.{eq-eqb, ne_eqb, le-leb, lt-leb}
use Rattle.table.specs.declared.Region.{Region}
use Rattle.table.specs.declared.Need.TheVariants.{Optional}
use Rattle.table.specs.Bytes.{pick, num}
use Rattle.table.specs.Layout.{image, offsets, reference_at, region, Shape}
use Rattle.table.specs.FixedLayouts.{layout_of, info, extended, hfi_extended}
use Rattle.table.specs.Rules.{first_of, is_sound, ref_rule}
use Rattle.laws.specs.Fields.{Bytes, image_in, masked, masked-if, whole, one_byte, two_bytes}
use Rattle.laws.specs.ImageLaws.{length-image}
use Rattle.laws.specs.RefWalk.{first_over, sound_rule, stop, more}
use Rattle.reader_references.specs.References.{part_in}
use Rattle.layout_needs.specs.Needs.{plain_need}
use Rattle.layout_flags.proofs.Laws.{identity-flags}
use Rattle.reader_heap_records.specs.HeapRecords.{spot, sound_by, info_right, identity_right, own_need, own_fault, own_faults, object_in, flat_part, identity_fault}
use Rattle.laws.specs.FieldTests.{right-chain}

-- ---- its own fields

module _ (x : List ℕ) (pos : ℕ) (b : Bytes x) where
  -- the flags that count: one more under version 2
  pub info-flags : get_or (image_in info x 0) 6 0 ≡ get_or x 6 0 % pick (eqb (get_or x 3 0 % 4 / 2) 0) 8 16
  unfolding image_in info
  info-flags = masked-if info.shape.keep x 0 6 3 2 8 16 tt refl

  pub info-sound : (owner : List ℕ) → let f = get_or (image_in info x 0) 6 0 in
      sound_by 7 f (get_or x 0 0) (get_or x 1 0) (get_or x 2 0) (num x 4 2) pos (info_right (get_or x 3 0) f (get_or x 19 0))
      ≡ is_sound info.shape (spot pos) owner (image info.shape.keep x)
  unfolding sound_by info_right spot info image_in
  info-sound owner =
      let ks = info.shape.keep in
      let y = image ks x in
      let n = length-image ks x in
      let f4 = whole ks x 0 4 tt refl (b 4) in
      let f5 = whole ks x 0 5 tt refl (b 5) in
      let e4 : num y 4 2 ≡ num x 4 2 = omega (arith, two_bytes y 4, two_bytes x 4, f4, f5) in
      let r = right-chain info.shape (spot pos) y (rw n tt) in
      sym (rw (
        r,
        one_byte y 6,
        whole ks x 0 0 tt refl (b 0),
        whole ks x 0 1 tt refl (b 1),
        whole ks x 0 2 tt refl (b 2),
        whole ks x 0 3 tt refl (b 3),
        whole ks x 0 19 tt refl (b 19),
        e4,
      ))

  pub extended-sound : (owner : List ℕ)
      → sound_by 9 (get_or x 4 0 % 4) (get_or x 0 0) (get_or x 1 0) 3 (num x 2 2) pos true ≡ is_sound extended.shape (spot pos) owner (image extended.shape.keep x)
  unfolding sound_by spot extended
  extended-sound owner =
      let ks = extended.shape.keep in
      let y = image ks x in
      let n = length-image ks x in
      let f2 = whole ks x 0 2 tt refl (b 2) in
      let f3 = whole ks x 0 3 tt refl (b 3) in
      let e2 : num y 2 2 ≡ num x 2 2 = omega (arith, two_bytes y 2, two_bytes x 2, f2, f3) in
      let r = right-chain extended.shape (spot pos) y (rw n tt) in
      sym (rw (r, masked ks x 0 4 4 tt refl, whole ks x 0 0 tt refl (b 0), whole ks x 0 1 tt refl (b 1), e2))

  pub identity-sound : (owner : List ℕ)
      → sound_by 10 (get_or x 4 0 % 4) (get_or x 0 0) (get_or x 1 0) 3 (num x 2 2) pos (identity_right (get_or x 4 0 % 4) (get_or owner 19 0))
      ≡ is_sound hfi_extended.shape (spot pos) owner (image hfi_extended.shape.keep x)
  unfolding sound_by identity_right spot hfi_extended image_in
  identity-sound owner =
      let ks = hfi_extended.shape.keep in
      let y = image ks x in
      let n = length-image ks x in
      let f2 = whole ks x 0 2 tt refl (b 2) in
      let f3 = whole ks x 0 3 tt refl (b 3) in
      let e2 : num y 2 2 ≡ num x 2 2 = omega (arith, two_bytes y 2, two_bytes x 2, f2, f3) in
      let e4 : num y 4 4 ≡ get_or x 4 0 % 4 = identity-flags x in
      let r = right-chain hfi_extended.shape (spot pos) y (rw n tt) in
      sym (rw (r, e4, masked ks x 0 4 4 tt refl, whole ks x 0 0 tt refl (b 0), whole ks x 0 1 tt refl (b 1), e2))

-- the origin is a byte that counts whole
pub origin-is : (x : List ℕ) → Bytes x → get_or (image_in info x 0) 19 0 ≡ get_or x 19 0
unfolding image_in info
origin-is x b = whole info.shape.keep x 0 19 tt refl (b 19)

-- ---- the references of each kind: its need by kind and offset is its layout's

pub extended-own : (heap : List ℕ) (from : ℕ) (x : List ℕ)
    → own_faults 9 heap from x ≡ first_over (object_in heap from extended.refs (image extended.shape.keep x) x) (offsets extended.refs)
unfolding own_faults own_fault own_need plain_need layout_of extended
extended-own heap from x = refl

pub identity-own : (heap : List ℕ) (from : ℕ) (x : List ℕ)
    → own_faults 10 heap from x ≡ first_over (object_in heap from hfi_extended.refs (image hfi_extended.shape.keep x) x) (offsets hfi_extended.refs)
unfolding own_faults own_fault own_need layout_of image_in
identity-own heap from x = refl

-- ---- the rule in the order of the code

module _ (pos : ℕ) (shape : Shape) (owner x : List ℕ) where
  pub sound-short : (inner : ℕ) → length x < length shape.keep → 12 ≡ sound_rule (spot pos) shape owner x inner
  unfolding sound_rule
  sound-short inner k = rw (lt-leb (length shape.keep) (length x) k)

  module _ (v inner : ℕ) (k : length shape.keep ≤ length x) (e : v ≡ pick (is_sound shape (spot pos) owner (image shape.keep x)) 0 12) where
    sound-first : first_of v inner ≡ sound_rule (spot pos) shape owner x inner
    unfolding sound_rule
    sound-first = rw (le-leb (length shape.keep) (length x) k, e)

    pub sound-stop : (v ≡ 0 → ⊥) → v ≡ sound_rule (spot pos) shape owner x inner
    sound-stop z = rw (ne_eqb v 0 z) at sound-first

    pub sound-on : (r : ℕ) → v ≡ 0 → r ≡ inner → r ≡ sound_rule (spot pos) shape owner x inner
    sound-on r z f = f ∙ (rw (eq-eqb v 0 z) at sound-first)

-- ---- the reference of an info to its extended info

module _ (heap : List ℕ) (from pos : ℕ) (x : List ℕ) (v : get_or x 3 0 ≡ 2) where
  abbrev named : Region
  named = reference_at x 110

  abbrev bytes : List ℕ
  bytes = part_in heap from named.at named.len

  abbrev whole_of : ℕ
  whole_of = flat_part heap from pos hfi_extended.shape hfi_extended.refs (image_in info x 0) bytes

  module _ (n : ℕ) (e : n ≡ ref_rule (region from (length heap)) Optional named.at named.len) where
    pub identity-wrong : (n ≡ 0 → ⊥) → n ≡ identity_fault heap from pos x
    unfolding identity_fault
    identity-wrong z = rw (eq-eqb (get_or x 3 0) 2 v) (stop (pick (eqb (length bytes) 0) 0 whole_of) e z)

    pub identity-absent : n ≡ 0 → length bytes ≡ 0 → 0 ≡ identity_fault heap from pos x
    unfolding identity_fault
    identity-absent z l = rw (eq-eqb (get_or x 3 0) 2 v, eq-eqb (length bytes) 0 l) (more e z refl)

    pub identity-there : (r : ℕ) → n ≡ 0 → (length bytes ≡ 0 → ⊥) → r ≡ whole_of → r ≡ identity_fault heap from pos x
    unfolding identity_fault
    identity-there r z l f = rw (eq-eqb (get_or x 3 0) 2 v, ne_eqb (length bytes) 0 l) (more e z f)
