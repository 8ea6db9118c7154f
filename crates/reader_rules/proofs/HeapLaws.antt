-- References by kind and offset: plain ones by their need, those to heap records by the record's own bytes, which are a part of the heap. Assumes nothing.
use mathlib.Core.Path.{◌≡◌, refl, sym, ap, ap₂, ◌∙◌}
use mathlib.Core.Bool.{Bool, true, false, not, ◌&&◌}
use mathlib.Core.List.{List, [], ◌∷◌}
use Prim.Native.Nat.{ℕ, zero, suc, ◌+◌, ◌-◌, ◌/◌, ◌%◌, ◌≤◌, ◌<◌}
use native.Mathlib.Omega.{arith}
use lib.ListN.{length, get_or, drop, length-take, length-drop}
use lib.Seq.{get_or-drop, get_or-take}
use lib.Dec.{T, eqb, eqb→eq}
use mir.Facts.{and_yes}
use borrow.Author.Tests.{ne_eqb, eqb-true}
use Rattle.table.specs.declared.Region.{Region}
use Rattle.table.specs.declared.Need.{Need}
use Rattle.table.specs.declared.Need.TheVariants.{Ignored, Optional, Required}
use Rattle.table.specs.Bytes.{pick, part, num}
use Rattle.table.specs.Layout.{region, reference_at, named_at, image, is_right, offsets, Content, anything, text, positions, Env, Refs, none, plain, nest, Shape}
use Rattle.table.specs.Objects.{under}
use Rattle.table.specs.FixedLayouts.{layout_of, header, control, host, hfi, ssns, security, discovery, info, extended, hfi_extended, when_is}
use Rattle.table.specs.Rules.{first_of, nest_rule, reaches, ref_rule, refs_rule, ruled}
use Rattle.table.specs.Reads.{content_at, need_at}
use Rattle.laws.specs.Fields.{Bytes, image_in, image-part, part-part, whole}
use Rattle.laws.specs.RefWalk.{first_over, rule_at, nest_at, plain_at, plain_by, all_plain, part_ok, sound_rule, reference-part, own-refs, plain-refs, nest-required, nest-optional}
use Rattle.laws.specs.ListWalk.{env_in}
use Rattle.laws.specs.LookLaws.{hfi-count}
pub use Rattle.reader_references.proofs.Laws.{Inside, reached}
use Rattle.reader_references.proofs.Laws.{positions-free}
use Rattle.reader_rules.specs.Rules.{IsHeap, ref_fault}
use Rattle.reader_references.specs.References.{part_in, asked_rule, text_rule, object_rule, positions_rule}
use Rattle.layout_fields.specs.Texts.{is_of_text}
use Rattle.layout_fields.proofs.Laws.{no_text, no-list, is_unlisted, all_unlisted}
use Rattle.reader_heap_records.specs.HeapRecords.{spot, object_in, flat_part, identity_by, identity_fault, info_fault, info_faults, info_part}
use Rattle.layout_needs.specs.Needs.{ssns_need, plain_need}
use Rattle.layout_needs.proofs.Laws.{ssns-need, info-need}

-- ---- an object in the heap

module _ (t heap : List ℕ) (from : ℕ) (h : IsHeap t heap from) where
  heap-room : 0 < length heap → from + length heap ≤ length t
  heap-room k = omega (arith, simp (length-take, length-drop) at (ap length h.is_part))

  pub object-room : (off len : ℕ) → reaches (region from (length heap)) off len ≡ true → off + len ≤ length t
  object-room off len e = let i = reached from (length heap) off len e in omega (arith, heap-room (omega arith))

  -- the object's bytes are the table's
  pub object-part : (off len : ℕ) → reaches (region from (length heap)) off len ≡ true → part heap (off - from) len ≡ part t off len
  object-part off len e =
      let i = reached from (length heap) off len e in
      let a : from + (off - from) ≡ off = omega arith in
      ap (λ (x : List ℕ). part x (off - from) len) h.is_part
      ∙ part-part t from (length heap) (off - from) len (omega arith)
      ∙ ap (λ (m : ℕ). part t m len) a

  -- what is asked of an object in the lent heap is what is asked of it in the table: `asks` is the rule of its content
  asked_is : (e : Env) (n : Need) (content : Content) (asks : List ℕ → ℕ) → ((b : List ℕ) → asks b ≡ ruled content e b) → (r : Region)
      → asked_rule n asks heap from r ≡ plain_by (region from (length heap)) n content e r (part t r.at r.len)
  unfolding part_in
  asked_is e n content asks same r = go n (eqb r.at 0 && eqb r.len 0) (reaches (region from (length heap)) r.at r.len) refl refl
    where
      there : reaches (region from (length heap)) r.at r.len ≡ true → asks (part heap (r.at - from) r.len) ≡ ruled content e (part t r.at r.len)
      there z = ap asks (object-part r.at r.len z) ∙ same (part t r.at r.len)

      absent : (eqb r.at 0 && eqb r.len 0) ≡ true → asks [] ≡ ruled content e (part t r.at r.len)
      absent z =
          let u = and_yes (eqb r.at 0) (eqb r.len 0) (rw z tt) in
          same [] ∙ sym (ap (λ (l : ℕ). ruled content e (part t r.at l)) (eqb→eq r.len 0 u.1))

      go : (n : Need) (c d : Bool) → (eqb r.at 0 && eqb r.len 0) ≡ c → reaches (region from (length heap)) r.at r.len ≡ d
          → first_of (ref_rule (region from (length heap)) n r.at r.len) (under n 0 (asks (pick d (part heap (r.at - from) r.len) [])))
          ≡ first_of (ref_rule (region from (length heap)) n r.at r.len) (under n 0 (ruled content e (part t r.at r.len)))
      go Ignored c d x y = refl
      go Optional c true x y = ap (λ (m : ℕ). first_of (ref_rule (region from (length heap)) Optional r.at r.len) m) (there y)
      go Optional true false x y = ap (λ (m : ℕ). first_of (ref_rule (region from (length heap)) Optional r.at r.len) m) (absent x)
      go Optional false false x y = rw (x, y) refl
      go Required c true x y = ap (λ (m : ℕ). first_of (ref_rule (region from (length heap)) Required r.at r.len) m) (there y)
      go Required c false x y = rw y refl

  -- text and any bytes, by their own bytes alone
  pub object-is : (e : Env) (n : Need) (content : Content) → T (is_unlisted content) → (r : Region)
      → object_rule n (is_of_text content) heap from r ≡ plain_by (region from (length heap)) n content e r (part t r.at r.len)
  unfolding object_rule
  object-is e n anything u r = asked_is e n anything (λ b. 0) none r where
    none : (b : List ℕ) → 0 ≡ ruled anything e b
    none [] = refl
    none (b ∷ bs) = refl
  object-is e n text u r = asked_is e n text text_rule same r where
    same : (b : List ℕ) → text_rule b ≡ ruled text e b
    same [] = refl
    same (b ∷ bs) = refl
  object-is e n positions u r = absurd u

  -- positions, by the number of HFIs
  pub positions-are : (e : Env) (n : Need) (r : Region)
      → asked_rule n (positions_rule (e.count 3)) heap from r ≡ plain_by (region from (length heap)) n positions e r (part t r.at r.len)
  positions-are e n r = asked_is e n positions (positions_rule (e.count 3)) same r where
    same : (b : List ℕ) → positions_rule (e.count 3) b ≡ ruled positions e b
    same [] = positions-free (e.count 3)
    same (b ∷ bs) = refl

-- where counts do not matter
spot-sound : (t : List ℕ) (pos : ℕ) (shape : Shape) (owner x : List ℕ) (inner : ℕ) → sound_rule (env_in t pos) shape owner x inner ≡ sound_rule (spot pos) shape owner x inner
unfolding sound_rule is_right env_in spot
spot-sound t pos shape owner x inner = refl

-- ---- a reference at r to a heap record; `inner` is what code finds of its references

module _ (t heap : List ℕ) (from pos : ℕ) (h : IsHeap t heap from) (shape : Shape) (rs : Refs) (k : T (part_ok shape rs)) (owner : List ℕ) (r inner : ℕ) where
  abbrev in_heap : Region
  in_heap = region from (length heap)

  abbrev off : ℕ
  off = (reference_at t r).at

  abbrev len : ℕ
  len = (reference_at t r).len

  abbrev nested : Need → ℕ
  nested n = nest_rule in_heap n shape (env_in t pos) owner t r (refs_rule in_heap (env_in t pos) t off (image shape.keep (drop off t)) rs)

  abbrev judged : List ℕ → ℕ
  judged x = sound_rule (spot pos) shape owner x inner

  module _ (s : reaches in_heap off len ≡ true → length shape.keep ≤ len → inner ≡ refs_rule in_heap (env_in t pos) t off (image shape.keep (drop off t)) rs) where
    nested_is : first_of (pick (reaches in_heap off len) 0 11) (judged (named_at t r)) ≡ nested Required
    nested_is =
        ap (λ (n : ℕ). first_of (pick (reaches in_heap off len) 0 11) n) (sym (spot-sound t pos shape owner (named_at t r) inner))
        ∙ nest-required in_heap (env_in t pos) shape rs t k owner r inner (object-room t heap from h off len) s

    pub nested-no : reaches in_heap off len ≡ false → 11 ≡ nested Required
    nested-no e = sym (ap (λ (c : Bool). first_of (pick c 0 11) (judged (named_at t r))) e) ∙ nested_is

    pub nested-yes : reaches in_heap off len ≡ true → judged (part heap (off - from) len) ≡ nested Required
    nested-yes e =
        ap judged (object-part t heap from h off len e)
        ∙ sym (ap (λ (c : Bool). first_of (pick c 0 11) (judged (named_at t r))) e)
        ∙ nested_is

    -- optional: its bytes are none where it is absent or wrong
    pub nested-optional : first_of (ref_rule in_heap Optional off len) (pick (eqb (length (part_in heap from off len)) 0) 0 (judged (part_in heap from off len))) ≡ nested Optional
    unfolding part_in
    nested-optional = go (eqb off 0 && eqb len 0) (reaches in_heap off len) refl refl ∙ given
      where
        given : pick (eqb off 0 && eqb len 0) 0 (first_of (pick (reaches in_heap off len) 0 11) (judged (named_at t r))) ≡ nested Optional
        given =
            ap (λ (n : ℕ). pick (eqb off 0 && eqb len 0) 0 (first_of (pick (reaches in_heap off len) 0 11) n)) (sym (spot-sound t pos shape owner (named_at t r) inner))
            ∙ nest-optional in_heap (env_in t pos) shape rs t k owner r inner (object-room t heap from h off len) s

        there : reaches in_heap off len ≡ true → pick (eqb (length (part heap (off - from) len)) 0) 0 (judged (part heap (off - from) len)) ≡ judged (named_at t r)
        there e =
            let i = reached from (length heap) off len e in
            let n : length (part heap (off - from) len) ≡ len = simp (length-take, length-drop) (omega arith) in
            rw (n, ne_eqb len 0 (λ z. omega arith)) (ap judged (object-part t heap from h off len e))

        none : (eqb off 0 && eqb len 0) ≡ true → reaches in_heap off len ≡ true → ⊥
        none z e =
            let i = reached from (length heap) off len e in
            let u = and_yes (eqb off 0) (eqb len 0) (rw z tt) in
            omega (arith, eqb→eq len 0 u.1, i.some)

        go : (c d : Bool) → (eqb off 0 && eqb len 0) ≡ c → reaches in_heap off len ≡ d
            → first_of (pick c 0 (pick d 0 11)) (pick (eqb (length (pick d (part heap (off - from) len) [])) 0) 0 (judged (pick d (part heap (off - from) len) [])))
            ≡ pick c 0 (first_of (pick d 0 11) (judged (named_at t r)))
        go true true z e = absurd (none z e)
        go true false z e = refl
        go false true z e = there e
        go false false z e = refl

  -- whatever code would find of its references, it is 11 where it is not reached
  pub nested-none : reaches in_heap off len ≡ false → 11 ≡ nested Required
  nested-none e = rw e

over-each : {f g : ℕ → ℕ} → ((q : ℕ) → f q ≡ g q) → (qs : List ℕ) → first_over f qs ≡ first_over g qs
over-each s [] = refl
over-each s (q ∷ qs) = ap₂ first_of (s q) (over-each s qs)

-- the bytes that the reference at r names
abbrev bytes_of : List ℕ → List ℕ → ℕ → ℕ → List ℕ
bytes_of t heap from r = part_in heap from (reference_at t r).at (reference_at t r).len

-- one that names objects alone, by its own bytes
module _ (t heap : List ℕ) (from pos : ℕ) (h : IsHeap t heap from) (shape : Shape) (rs : Refs) (k : T (part_ok shape rs)) (o : T (all_plain rs)) (u : T (all_unlisted rs))
    (r : ℕ) where
  abbrev at : ℕ
  at = (reference_at t r).at

  abbrev size : ℕ
  size = (reference_at t r).len

  abbrev own : List ℕ → ℕ
  own x = first_over (object_in heap from rs (image shape.keep x) x) (offsets rs)

  pub plain-inner : reaches (region from (length heap)) at size ≡ true → length shape.keep ≤ size
      → own (part heap (at - from) size) ≡ refs_rule (region from (length heap)) (env_in t pos) t at (image shape.keep (drop at t)) rs
  plain-inner e l =
      let x = part t at size in
      let img = image shape.keep x in
      ap own (object-part t heap from h at size e)
      ∙ over-each (λ q. object-is t heap from h (env_in t pos) (need_at q rs img) (content_at q rs) (no-list rs u q) (reference_at x q)) (offsets rs)
      ∙ plain-refs (region from (length heap)) (env_in t pos) shape rs t k o at size l

identity-optional : (t heap : List ℕ) (from pos : ℕ) (h : IsHeap t heap from) (owner : List ℕ) (r : ℕ)
    → let y = bytes_of t heap from r in
    first_of (ref_rule (region from (length heap)) Optional (reference_at t r).at (reference_at t r).len)
    (pick (eqb (length y) 0) 0 (flat_part heap from pos hfi_extended.shape hfi_extended.refs owner y))
    ≡ nest_rule (region from (length heap)) Optional hfi_extended.shape (env_in t pos) owner t r
    (refs_rule (region from (length heap)) (env_in t pos) t (reference_at t r).at (image hfi_extended.shape.keep (drop (reference_at t r).at t)) hfi_extended.refs)
unfolding flat_part part_in hfi_extended
identity-optional t heap from pos h owner r =
    nested-optional t heap from pos h hfi_extended.shape hfi_extended.refs tt owner r _
    (λ e l. rw e (plain-inner t heap from pos h hfi_extended.shape hfi_extended.refs tt tt tt r e l))

-- the rule of an info's reference to its extended info, and of those to objects
at-identity : (heap : Region) (t : List ℕ) (a pos : ℕ) (img : List ℕ) (q : ℕ) → eqb q 110 ≡ true
    → nest_rule heap (when_is 3 2 img) hfi_extended.shape (env_in t pos) img t (a + 110)
    (refs_rule heap (env_in t pos) t (reference_at t (a + 110)).at (image hfi_extended.shape.keep (drop (reference_at t (a + 110)).at t)) hfi_extended.refs)
    ≡ rule_at heap (env_in t pos) t a img info.refs q
unfolding rule_at info
at-identity heap t a pos img q e = rw (eqb-true q 110 e) refl

at-object : (t heap : List ℕ) (from : ℕ) (h : IsHeap t heap from) (a pos : ℕ) (img : List ℕ) (q : ℕ) → eqb q 110 ≡ false
    → object_rule (plain_need 7 q) (is_of_text (content_at q info.refs)) heap from (reference_at t (a + q)) ≡ rule_at (region from (length heap)) (env_in t pos) t a img info.refs q
unfolding info
at-object t heap from h a pos img q e =
    ap (λ (n : Need). object_rule n (is_of_text (content_at q info.refs)) heap from (reference_at t (a + q))) (info-need img q e)
    ∙ object-is t heap from h (env_in t pos) (need_at q info.refs img) (content_at q info.refs) (no-list info.refs tt q) (reference_at t (a + q))
    ∙ sym (plain_at (region from (length heap)) (env_in t pos) t a img info.refs q (rw e tt))

-- ---- an info's references, by its own bytes

module _ (t heap : List ℕ) (from pos : ℕ) (h : IsHeap t heap from) (b : Bytes t) (a len : ℕ) (l : 128 ≤ len) where
  abbrev x : List ℕ
  x = part t a len

  abbrev img : List ℕ
  img = image info.shape.keep (drop a t)

  own-image : image_in info x 0 ≡ img
  unfolding image_in info
  own-image = image-part info.shape.keep t a len tt l

  -- its version
  version : get_or x 3 0 ≡ get_or img 3 0
  unfolding info
  version = get_or-take len (drop a t) 3 0 (omega arith) ∙ get_or-drop a t 3 0 ∙ sym (whole info.shape.keep t a 3 tt refl (b (a + 3)))

  abbrev inner : ℕ
  inner = refs_rule (region from (length heap)) (env_in t pos) t (reference_at t (a + 110)).at (image hfi_extended.shape.keep (drop (reference_at t (a + 110)).at t)) hfi_extended.refs

  identity-nested : identity_fault heap from pos x ≡ nest_rule (region from (length heap)) (when_is 3 2 img) hfi_extended.shape (env_in t pos) img t (a + 110) inner
  unfolding identity_fault
  identity-nested =
      (λ i. identity_by heap from pos (version i) (reference-part t a len 110 (omega arith) i) (own-image i)) ∙ go (eqb (get_or img 3 0) 2)
    where
      go : (c : Bool)
          → pick c (first_of (ref_rule (region from (length heap)) Optional (reference_at t (a + 110)).at (reference_at t (a + 110)).len)
          (pick (eqb (length (bytes_of t heap from (a + 110))) 0) 0
          (flat_part heap from pos hfi_extended.shape hfi_extended.refs img (bytes_of t heap from (a + 110))))) 0
          ≡ nest_rule (region from (length heap)) (pick c Optional Ignored) hfi_extended.shape (env_in t pos) img t (a + 110) inner
      go true = identity-optional t heap from pos h img (a + 110)
      go false = refl

  -- each of them
  one : (q : ℕ) → q + 6 ≤ 128 → info_fault heap from pos x q ≡ rule_at (region from (length heap)) (env_in t pos) t a img info.refs q
  unfolding info_fault
  one q k = go (eqb q 110) refl
    where
      go : (c : Bool) → eqb q 110 ≡ c
          → pick c (identity_fault heap from pos x) (object_rule (plain_need 7 q) (is_of_text (content_at q info.refs)) heap from (reference_at x q))
          ≡ rule_at (region from (length heap)) (env_in t pos) t a img info.refs q
      go true e = identity-nested ∙ at-identity (region from (length heap)) t a pos img q e
      go false e =
          (λ i. object_rule (plain_need 7 q) (is_of_text (content_at q info.refs)) heap from (reference-part t a len q (omega arith) i))
          ∙ at-object t heap from h a pos img q e

  pub info-refs : info_faults heap from pos x ≡ refs_rule (region from (length heap)) (env_in t pos) t a img info.refs
  unfolding info_faults info
  info-refs = own-refs (region from (length heap)) (env_in t pos) info.shape info.refs t tt (info_fault heap from pos x) img a len l one

module _ (t heap : List ℕ) (from a pos : ℕ) (h : IsHeap t heap from) where
  -- ---- HFI 16

  pub info-no : reaches (region from (length heap)) (reference_at t (a + 16)).at (reference_at t (a + 16)).len ≡ false → 11 ≡ ref_fault 3 (region from (length heap)) t a pos 16
  unfolding ref_fault layout_of rule_at hfi info
  info-no e = nested-none t heap from pos h info.shape info.refs tt (image_in hfi t a) (a + 16) 0 e

  pub info-yes : Bytes t → reaches (region from (length heap)) (reference_at t (a + 16)).at (reference_at t (a + 16)).len ≡ true
      → info_part heap from pos (part heap ((reference_at t (a + 16)).at - from) (reference_at t (a + 16)).len) ≡ ref_fault 3 (region from (length heap)) t a pos 16
  unfolding ref_fault layout_of rule_at hfi info_part info sound_rule
  info-yes b e =
      let r = reference_at t (a + 16) in
      let y = object-part t heap from h r.at r.len e in
      nested-yes t heap from pos h info.shape info.refs tt (image_in hfi t a) (a + 16) (info_faults heap from pos (part heap (r.at - from) r.len))
      (λ z l. ap (info_faults heap from pos) y ∙ info-refs t heap from pos h b r.at r.len l) e

  -- ---- SSNS 60

  abbrev flags : ℕ
  flags = num (image_in ssns t a) 3 2

  pub extended-off : eqb (flags / 16 % 2) 0 ≡ true → 0 ≡ ref_fault 4 (region from (length heap)) t a pos 60
  unfolding ref_fault layout_of rule_at ssns
  extended-off e = rw e

  pub extended-no : eqb (flags / 16 % 2) 0 ≡ false → reaches (region from (length heap)) (reference_at t (a + 60)).at (reference_at t (a + 60)).len ≡ false
      → 11 ≡ ref_fault 4 (region from (length heap)) t a pos 60
  unfolding ref_fault layout_of rule_at ssns extended
  extended-no f e = rw f (nested-none t heap from pos h extended.shape extended.refs tt (image_in ssns t a) (a + 60) 0 e)

  pub extended-yes : eqb (flags / 16 % 2) 0 ≡ false → reaches (region from (length heap)) (reference_at t (a + 60)).at (reference_at t (a + 60)).len ≡ true
      → flat_part heap from pos extended.shape extended.refs [] (part heap ((reference_at t (a + 60)).at - from) (reference_at t (a + 60)).len)
      ≡ ref_fault 4 (region from (length heap)) t a pos 60
  unfolding ref_fault layout_of rule_at ssns extended flat_part sound_rule
  extended-yes f e =
      rw f
      (nested-yes t heap from pos h extended.shape extended.refs tt (image_in ssns t a) (a + 60) _
      (plain-inner t heap from pos h extended.shape extended.refs tt tt tt (a + 60)) e)

-- ---- plain references

pub hfi-other : (heap : Region) (t : List ℕ) (a pos q : ℕ) → eqb q 16 ≡ false → 0 ≡ ref_fault 3 heap t a pos q
unfolding ref_fault layout_of rule_at hfi
hfi-other heap t a pos q e = rw e

-- the list of SSNS 48
pub secondary-is : (t heap : List ℕ) (from a pos : ℕ) (h : IsHeap t heap from)
    → asked_rule Optional (positions_rule (get_or t 87 0)) heap from (reference_at t (a + 48)) ≡ ref_fault 4 (region from (length heap)) t a pos 48
unfolding ref_fault layout_of ssns
secondary-is t heap from a pos h =
    ap (λ (n : ℕ). asked_rule Optional (positions_rule n) heap from (reference_at t (a + 48))) (sym (hfi-count t pos))
    ∙ positions-are t heap from h (env_in t pos) Optional (reference_at t (a + 48))
    ∙ sym (plain_at (region from (length heap)) (env_in t pos) t a (image_in ssns t a) ssns.refs 48 tt)

-- one to an object, by its need and by what its object holds
module _ (t heap : List ℕ) (from a pos : ℕ) (h : IsHeap t heap from) (q : ℕ) where
  abbrev asked : Need → Bool → ℕ
  asked n is_text = object_rule n is_text heap from (reference_at t (a + q))

  module _ (k : ℕ) where
    abbrev refs : Refs
    refs = (layout_of k).refs

    plain-is : T (not (nest_at q refs)) → T (is_unlisted (content_at q refs)) → asked (need_at q refs (image_in (layout_of k) t a)) (is_of_text (content_at q refs)) ≡ ref_fault k (region from (length heap)) t a pos q
    unfolding ref_fault
    plain-is n u =
        object-is t heap from h (env_in t pos) (need_at q refs (image_in (layout_of k) t a)) (content_at q refs) u (reference_at t (a + q))
        ∙ sym (plain_at (region from (length heap)) (env_in t pos) t a (image_in (layout_of k) t a) refs q n)

    -- where the need is known by another name
    plain_by_lem : (n : Need) → n ≡ need_at q refs (image_in (layout_of k) t a) → T (not (nest_at q refs)) → T (is_unlisted (content_at q refs))
        → asked n (is_of_text (content_at q refs)) ≡ ref_fault k (region from (length heap)) t a pos q
    plain_by_lem n e m u = ap (λ (x : Need). asked x (is_of_text (content_at q refs))) e ∙ plain-is m u

  pub ssns-plain : eqb q 60 ≡ false → eqb q 48 ≡ false
      → asked (ssns_need (num (image_in ssns t a) 3 2) q) (is_of_text (content_at q (layout_of 4).refs)) ≡ ref_fault 4 (region from (length heap)) t a pos q
  unfolding layout_of ssns
  ssns-plain e f = plain_by_lem 4 (ssns_need (num (image_in ssns t a) 3 2) q) (ssns-need (image_in ssns t a) q) (rw e tt) (rw f (go (eqb q 10) (eqb q 16) (eqb q 54))) where
    go : (x y z : Bool) → T (is_unlisted (pick x anything (pick y anything (pick z text anything))))
    go true y z = tt
    go false true z = tt
    go false false true = tt
    go false false false = tt

  pub security-plain : asked (need_at q security.refs (image_in security t a)) false ≡ ref_fault 5 (region from (length heap)) t a pos q
  unfolding layout_of security
  security-plain = ap (asked (need_at q security.refs (image_in security t a))) (no_text security.refs tt q) ∙ plain-is 5 tt (no-list security.refs tt q)

  -- kinds all of whose objects are text: what is not theirs is ignored
  abbrev all_text : Refs → Bool
  all_text none = true
  all_text (plain p need anything rest) = false
  all_text (plain p need text rest) = all_text rest
  all_text (plain p need positions rest) = false
  all_text (nest p need shape own rest) = false

  all-text : (rs : Refs) → T (all_text rs) → (img : List ℕ) → asked (need_at q rs img) true ≡ asked (need_at q rs img) (is_of_text (content_at q rs))
  unfolding object_rule
  all-text none c img = refl
  all-text (plain p need anything rest) c img = absurd c
  all-text (plain p need text rest) c img = go (eqb q p) (all-text rest c img) where
    go : (b : Bool) → asked (need_at q rest img) true ≡ asked (need_at q rest img) (is_of_text (content_at q rest))
        → asked (pick b (need img) (need_at q rest img)) true ≡ asked (pick b (need img) (need_at q rest img)) (is_of_text (pick b text (content_at q rest)))
    go true e = refl
    go false e = e
  all-text (plain p need positions rest) c img = absurd c
  all-text (nest p need shape own rest) c img = absurd c

  pub host-texts : asked (plain_need 2 q) true ≡ ref_fault 2 (region from (length heap)) t a pos q
  unfolding layout_of plain_need host
  host-texts = all-text host.refs tt (image_in host t a) ∙ plain_by_lem 2 (plain_need 2 q) refl tt (no-list host.refs tt q)

  pub discovery-texts : asked (plain_need 6 q) true ≡ ref_fault 6 (region from (length heap)) t a pos q
  unfolding layout_of plain_need discovery
  discovery-texts = all-text discovery.refs tt (image_in discovery t a) ∙ plain_by_lem 6 (plain_need 6 q) refl tt (no-list discovery.refs tt q)

  -- the kinds that are left name no text
  pub plain-left : (k : ℕ) → k ≤ 6 → (k ≡ 2 → ⊥) → (k ≡ 3 → ⊥) → (k ≡ 4 → ⊥) → (k ≡ 5 → ⊥) → (k ≡ 6 → ⊥)
      → asked (plain_need k q) false ≡ ref_fault k (region from (length heap)) t a pos q
  unfolding layout_of plain_need header control
  plain-left zero l u x y z w = ap (asked (plain_need 0 q)) (no_text header.refs tt q) ∙ plain_by_lem 0 (plain_need 0 q) refl tt (no-list header.refs tt q)
  plain-left (suc zero) l u x y z w = ap (asked (plain_need 1 q)) (no_text control.refs tt q) ∙ plain_by_lem 1 (plain_need 1 q) refl tt (no-list control.refs tt q)
  plain-left (suc (suc zero)) l u x y z w = absurd (u refl)
  plain-left (suc (suc (suc zero))) l u x y z w = absurd (x refl)
  plain-left (suc (suc (suc (suc zero)))) l u x y z w = absurd (y refl)
  plain-left (suc (suc (suc (suc (suc zero))))) l u x y z w = absurd (z refl)
  plain-left (suc (suc (suc (suc (suc (suc zero)))))) l u x y z w = absurd (w refl)
  plain-left (suc (suc (suc (suc (suc (suc (suc k))))))) l u x y z w = absurd (omega arith)
