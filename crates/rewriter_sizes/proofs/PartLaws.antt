-- What the references of a record name, one after the other, is what its slots say: bytes taken, stores, bytes in the heap. Assumes nothing.
use mathlib.Core.Path.{◌≡◌, refl, sym, ap, ap₂, subst, ◌∙◌}
use mathlib.Core.Bool.{Bool, true, false}
use mathlib.Core.List.{List, [], ◌∷◌, ◌++◌, append-nil}
use Prim.Native.Nat.{ℕ, zero, suc, ◌+◌, ◌-◌, ◌*◌, ◌≤◌, ◌<◌}
use native.Mathlib.Nat.{add-zero, zero-add, sub-zero, le_trans, mul-le-mul_left, mul-le-mul_right}
use native.Mathlib.Numerals.{add-one}
use native.Mathlib.Omega.{arith}
use lib.ListN.{length, get_or, drop, take}
use lib.Seq.{drop-cons, drop-length}
use lib.Dec.{eqb, lit<}
use Rattle.table.specs.declared.Need.{Need}
use Rattle.table.specs.Bytes.{pick, part, Edit, edit}
use Rattle.table.specs.Layout.{Shape, Layout, Refs, none, plain, nest, Slots, base_of, offsets}
use Rattle.table.specs.FixedLayouts.{layout_of, header, control, host, hfi, ssns, security, discovery, info, extended, hfi_extended, no_kind}
use Rattle.table.specs.Objects.{size_of, size_entry, size_list, size_body, span_body, stores, heap_of, ref6}
use Rattle.table.specs.Meaning.{Meaning, meaning, heap_len}
use Rattle.table.specs.Reads.{seat, has_plain, whole_at, seat_of}
use Rattle.laws.specs.Fields.{Bytes, image_in}
use Rattle.laws.specs.ListWalk.{base-small}
use Rattle.layout_images.proofs.Laws.{by_kind, part-long, other-layout}
use Rattle.bytes_writer.specs.Stores.{ref_num}
use Rattle.layout_kinds.specs.References.{held_refs}
use Rattle.bytes_writer.proofs.RecordLaws.{ref-num, ref-for}
use Rattle.reader.specs.Accepted.{Accepted}
use Rattle.reads_seats.specs.declared.seats.Seat.{Seat}
use Rattle.std.specs.Prelude.{Option, Some, None}
use Rattle.reads_seats.specs.Seats.{Seated, heap_record}
use Rattle.reads_seats.specs.Told.{inner_kind, image_of, told_entry, told_list, count_of, told}
use Rattle.reads_seats.proofs.ReferenceLaws as references
use Rattle.reads_seats.proofs.ObjectLaws.{seat-room}
use Rattle.reads_seats.proofs.MeaningLaws.{told-all}
use Rattle.reads_seats.proofs.SlotLaws.{object_at, held_slot, slots_at, slots_at_lem}
use Rattle.rewriter_sizes.specs.Parts.{Part, refs_of, objects_of, held_of, slots_in, list_of, list_from, object_part, record_part, part_at, record_bytes, bytes_at, spans_over, stores_over, objects_over}

-- ---- a heap record, or none

-- what is laid for the heap record s of kind m: S stands for it and, behind it, x
pub record Laid (t : List ℕ) (m : ℕ) (s : Option Seat) (p : ℕ) (need : List ℕ → Need) (shape : Shape) (own rest : Refs) (x : Slots rest) (S : Slots (nest p need shape own rest)) : Type 0 where
  pub sized : size_of S ≡ (record_part t m s).span + size_of x
  pub stored : (h : ℕ) → stores h S ≡ edit p (ref_num h (record_part t m s).len) ∷ stores (h + (record_part t m s).span) x
  pub in_heap : (h : ℕ) → heap_of h S ≡ record_bytes t m h s ++ heap_of (h + (record_part t m s).span) x

module _ (t : List ℕ) (m : ℕ) (some : 0 < base_of (layout_of m)) (p : ℕ) (need : List ℕ → Need) (rest : Refs) (x : Slots rest) where
  slot-laid : (s : Option Seat) → Laid t m s p need (layout_of m).shape (layout_of m).refs rest x (held_slot t s x)
  unfolding size_of stores heap_of record_part record_bytes slots_in image_in
  slot-laid None = record {
    sized = sym (zero-add (size_of x));
    stored = λ h. ap (λ (i : ℕ). edit p (ref6 0 0) ∷ stores i x) (sym (add-zero h));
    in_heap = λ h. ap (λ (i : ℕ). heap_of i x) (sym (add-zero h));
  }
  slot-laid (Some s) = record {
    sized = refl;
    stored = λ h. ap (λ (r : List ℕ). edit p r ∷ stores (h + (base_of (layout_of m) + size_of (slots_in (layout_of m) t s.at))) x) (sym (ref-num h (base_of (layout_of m)) some));
    in_heap = λ h. refl;
  }

-- ---- the slots of the record of kind k at a

module _ (t : List ℕ) (ok : Accepted t) (k a : ℕ) (s : Seated t (layout_of k) a true) where
  -- the references of rs are among those of kind k
  abbrev Fits : Refs → Type 0
  Fits none = 0 ≤ k
  Fits (plain p need content rest) = (has_plain p (layout_of k).refs ≡ true) × Fits rest
  Fits (nest p need shape own rest) =
      (has_plain p (layout_of k).refs ≡ false)
      × ((x : Slots rest) → Laid t (inner_kind k) (heap_record t k a) p need shape own rest x (held_slot t (heap_record t k a) x))
      × Fits rest

  pub object-long : (p : ℕ) → length (object_at t k a p) ≡ (whole_at t p (seat (layout_of k) a true)).len
  object-long p = part-long t _ _ (seat-room t ok p k (seat (layout_of k) a true) (refl, s))

  -- the part of a reference to an object, and to a heap record
  abbrev heaped : Part
  heaped = record_part t (inner_kind k) (heap_record t k a)

  pub plain-part : (p : ℕ) → has_plain p (layout_of k).refs ≡ true → part_at t k a p ≡ object_part (whole_at t p (seat (layout_of k) a true))
  unfolding part_at
  plain-part p h = ap (λ (c : Bool). pick c (object_part (whole_at t p (seat (layout_of k) a true))) heaped) h

  pub nest-part : (p : ℕ) → has_plain p (layout_of k).refs ≡ false → part_at t k a p ≡ heaped
  unfolding part_at
  nest-part p h = ap (λ (c : Bool). pick c (object_part (whole_at t p (seat (layout_of k) a true))) heaped) h

  pub plain-bytes : (h p : ℕ) → has_plain p (layout_of k).refs ≡ true → bytes_at t k a h p ≡ object_at t k a p
  unfolding bytes_at
  plain-bytes h p e =
      ap (λ (c : Bool). pick c (part t (part_at t k a p).at (part_at t k a p).len) (record_bytes t (inner_kind k) h (heap_record t k a))) e
      ∙ ap (λ (q : Part). part t q.at q.len) (plain-part p e)

  pub nest-bytes : (h p : ℕ) → has_plain p (layout_of k).refs ≡ false → bytes_at t k a h p ≡ record_bytes t (inner_kind k) h (heap_record t k a)
  unfolding bytes_at
  nest-bytes h p e = ap (λ (c : Bool). pick c (part t (part_at t k a p).at (part_at t k a p).len) (record_bytes t (inner_kind k) h (heap_record t k a))) e

  slots-sized : (rs : Refs) → Fits rs → size_of (slots_at t k a rs) ≡ spans_over t k a (offsets rs)
  unfolding size_of slots_at spans_over
  slots-sized none g = refl
  slots-sized (plain p need content rest) g = ap₂ ◌+◌ (object-long p ∙ sym (ap (λ (q : Part). q.span) (plain-part p g.0))) (slots-sized rest g.1)
  slots-sized (nest p need shape own rest) g =
      (g.1 (slots_at t k a rest)).sized ∙ ap₂ ◌+◌ (sym (ap (λ (q : Part). q.span) (nest-part p g.0))) (slots-sized rest g.2)

  slots-stored : (rs : Refs) → Fits rs → (h : ℕ) → stores h (slots_at t k a rs) ≡ stores_over t k a h (offsets rs)
  unfolding stores slots_at stores_over
  slots-stored none g h = refl
  slots-stored (plain p need content rest) g h =
      let b : List ℕ = object_at t k a p in
      ap₂ (λ (r : List ℕ) (es : List Edit). edit p r ∷ es) (sym (ref-for h b)) (slots-stored rest g.1 (h + length b))
      ∙ ap (λ (n : ℕ). edit p (ref_num h n) ∷ stores_over t k a (h + n) (offsets rest)) (object-long p)
      ∙ sym (ap (λ (q : Part). edit p (ref_num h q.len) ∷ stores_over t k a (h + q.span) (offsets rest)) (plain-part p g.0))
  slots-stored (nest p need shape own rest) g h =
      (g.1 (slots_at t k a rest)).stored h
      ∙ ap (λ (es : List Edit). edit p (ref_num h heaped.len) ∷ es) (slots-stored rest g.2 (h + heaped.span))
      ∙ sym (ap (λ (q : Part). edit p (ref_num h q.len) ∷ stores_over t k a (h + q.span) (offsets rest)) (nest-part p g.0))

  slots-heaped : (rs : Refs) → Fits rs → (h : ℕ) → heap_of h (slots_at t k a rs) ≡ objects_over t k a h (offsets rs)
  unfolding heap_of slots_at objects_over
  slots-heaped none g h = refl
  slots-heaped (plain p need content rest) g h =
      ap₂ (λ (r u : List ℕ). r ++ u) (sym (plain-bytes h p g.0)) (slots-heaped rest g.1 (h + length (object_at t k a p)))
      ∙ ap (λ (n : ℕ). bytes_at t k a h p ++ objects_over t k a (h + n) (offsets rest)) (object-long p ∙ sym (ap (λ (q : Part). q.span) (plain-part p g.0)))
  slots-heaped (nest p need shape own rest) g h =
      (g.1 (slots_at t k a rest)).in_heap h
      ∙ ap₂ (λ (r u : List ℕ). r ++ u) (sym (nest-bytes h p g.0)) (slots-heaped rest g.2 (h + heaped.span))
      ∙ sym (ap (λ (q : Part). bytes_at t k a h p ++ objects_over t k a (h + q.span) (offsets rest)) (nest-part p g.0))

-- ---- every kind

module _ (t : List ℕ) (ok : Accepted t) (a : ℕ) where
  abbrev FitsAll : ℕ → Type 0
  FitsAll k = (s : Seated t (layout_of k) a true) → Fits t ok k a s (layout_of k).refs

  all_fit : (k : ℕ) → FitsAll k
  unfolding layout_of header host hfi ssns security discovery info extended hfi_extended
  all_fit =
      by_kind FitsAll
      (λ s. (refl, omega arith))
      (λ s. unfold control in omega arith)
      (λ s. (refl, omega arith))
      (λ s. (refl, (λ x. slot-laid t 7 (lit< tt) 16 _ none x (heap_record t 3 a)), omega arith))
      (λ s. (refl, (refl, (refl, (refl, (refl, (λ x. slot-laid t 9 (lit< tt) 60 _ none x (heap_record t 4 a)), omega arith))))))
      (λ s. (refl, (refl, (refl, (refl, (refl, (refl, omega arith)))))))
      (λ s. (refl, (refl, omega arith)))
      (λ s. (refl, (refl, (λ x. slot-laid t 10 (lit< tt) 110 _ none x (heap_record t 7 a)), omega arith)))
      (λ s. (refl, omega arith))
      (λ s. (refl, (refl, omega arith)))
      (λ k o s. subst (λ (l : Layout). Fits t ok k a s l.refs) (sym (other-layout k o)) (unfold no_kind in omega arith))

-- ---- all references of a record

module _ (t : List ℕ) (ok : Accepted t) (k a : ℕ) (s : Seated t (layout_of k) a true) where
  pub sized-all : size_of (slots_in (layout_of k) t a) ≡ spans_over t k a (refs_of k)
  unfolding slots_in
  sized-all = ap size_of (slots_at_lem t k a) ∙ slots-sized t ok k a s (layout_of k).refs (all_fit t ok a k s)

  pub stored-all : (h : ℕ) → stores h (slots_in (layout_of k) t a) ≡ stores_over t k a h (refs_of k)
  unfolding slots_in
  stored-all h = ap (stores h) (slots_at_lem t k a) ∙ slots-stored t ok k a s (layout_of k).refs (all_fit t ok a k s) h

  pub heaped-all : (h : ℕ) → heap_of h (slots_in (layout_of k) t a) ≡ objects_over t k a h (refs_of k)
  unfolding slots_in
  heaped-all h = ap (heap_of h) (slots_at_lem t k a) ∙ slots-heaped t ok k a s (layout_of k).refs (all_fit t ok a k s) h

-- ---- references to objects come first, behind them that to a heap record

pub refs-split : (k : ℕ) → refs_of k ≡ objects_of k ++ held_of k
refs-split = references.refs-split

pub plain-each : (k i : ℕ) → i < length (objects_of k) → has_plain (get_or (objects_of k) i 0) (layout_of k).refs ≡ true
plain-each = references.plain-each

-- a reference to an object, of the table of offsets
pub offset-is : (k : ℕ) (ps : List ℕ) (n i : ℕ) → take n ps ≡ refs_of k → i < length (objects_of k) → n ≡ length (refs_of k) → get_or ps i 0 ≡ get_or (objects_of k) i 0
offset-is = references.offset-is

-- a kind that names objects alone
pub refs-objects : (k : ℕ) → held_of k ≡ [] → refs_of k ≡ objects_of k
refs-objects k e = refs-split k ∙ ap (λ (qs : List ℕ). objects_of k ++ qs) e ∙ append-nil (objects_of k)

-- such is what the heap record of a heap record names
pub innermost-flat : (k : ℕ) → held_of (inner_kind (inner_kind k)) ≡ []
unfolding layout_of extended hfi_extended
innermost-flat k = go (eqb k 3) (eqb k 7) where
  go : (c d : Bool) → held_of (inner_kind (pick c 7 (pick d 10 9))) ≡ []
  go true d = refl
  go false true = refl
  go false false = refl

-- three kinds name heap records
pub held_none : (k : ℕ) → (k ≡ 3 → ⊥) → (k ≡ 4 → ⊥) → (k ≡ 7 → ⊥) → held_of k ≡ []
unfolding layout_of header control host hfi ssns security discovery info extended hfi_extended no_kind
held_none =
    by_kind (λ k. (k ≡ 3 → ⊥) → (k ≡ 4 → ⊥) → (k ≡ 7 → ⊥) → held_of k ≡ [])
    (λ n₃ n₄ n₇. refl)
    (λ n₃ n₄ n₇. refl)
    (λ n₃ n₄ n₇. refl)
    (λ n₃ n₄ n₇. absurd (n₃ refl))
    (λ n₃ n₄ n₇. absurd (n₄ refl))
    (λ n₃ n₄ n₇. refl)
    (λ n₃ n₄ n₇. refl)
    (λ n₃ n₄ n₇. absurd (n₇ refl))
    (λ n₃ n₄ n₇. refl)
    (λ n₃ n₄ n₇. refl)
    (λ k o n₃ n₄ n₇. ap (λ (l : Layout). held_refs l.refs) (other-layout k o))

-- ---- one reference after the other

module _ (t : List ℕ) (k a : ℕ) where
  pub spans-more : (ps : List ℕ) (i : ℕ) → i < length ps → spans_over t k a (drop i ps) ≡ (part_at t k a (get_or ps i 0)).span + spans_over t k a (drop (i + 1) ps)
  unfolding spans_over
  spans-more ps i h = ap (spans_over t k a) (drop-cons ps i 0 h) ∙ ap (λ (j : ℕ). (part_at t k a (get_or ps i 0)).span + spans_over t k a (drop j ps)) (sym (add-one i))

  pub spans-done : (ps : List ℕ) → spans_over t k a (drop (length ps) ps) ≡ 0
  unfolding spans_over
  spans-done ps = ap (spans_over t k a) (drop-length ps)

  pub spans-join : (ps qs : List ℕ) → spans_over t k a (ps ++ qs) ≡ spans_over t k a ps + spans_over t k a qs
  unfolding spans_over
  spans-join [] qs = sym (zero-add _)
  spans-join (p ∷ ps) qs = let e = spans-join ps qs in omega (arith, e)

  pub spans-one : (p : ℕ) → spans_over t k a (p ∷ []) ≡ (part_at t k a p).span
  unfolding spans_over
  spans-one p = add-zero _

  -- a walk over the references at ps has added up those before number i; it goes on with w, that of number i
  abbrev pub Adding : List ℕ → ℕ → ℕ → Type 0
  Adding ps sum i = sum + spans_over t k a (drop i ps) ≡ spans_over t k a ps

  pub adding-more : (ps : List ℕ) (sum i w p : ℕ) → Adding ps sum i → i < length ps → p ≡ get_or ps i 0 → w ≡ (part_at t k a p).span → Adding ps (sum + w) (i + 1)
  adding-more ps sum i w p e h o q =
      let m = spans-more ps i h in
      let v : w ≡ (part_at t k a (get_or ps i 0)).span = q ∙ ap (λ (x : ℕ). (part_at t k a x).span) o in
      omega (arith, e, m, v)

-- that to a heap record, which stands at p
pub spans-held : (t : List ℕ) (ok : Accepted t) (k a : ℕ) → Seated t (layout_of k) a true → (p : ℕ) → has_plain p (layout_of k).refs ≡ false
    → spans_over t k a (p ∷ []) ≡ (record_part t (inner_kind k) (heap_record t k a)).span
spans-held t ok k a s p e = spans-one t k a p ∙ ap (λ (q : Part). q.span) (nest-part t ok k a s p e)

-- objects and heap record together
pub sized-split : (t : List ℕ) (ok : Accepted t) (k a : ℕ) → Seated t (layout_of k) a true
    → size_of (slots_in (layout_of k) t a) ≡ spans_over t k a (objects_of k) + spans_over t k a (held_of k)
sized-split t ok k a s = sized-all t ok k a s ∙ ap (spans_over t k a) (refs-split k) ∙ spans-join t k a (objects_of k) (held_of k)

-- objects alone
pub sized-flat : (t : List ℕ) (ok : Accepted t) (k a : ℕ) → Seated t (layout_of k) a true → held_of k ≡ [] → size_of (slots_in (layout_of k) t a) ≡ spans_over t k a (objects_of k)
sized-flat t ok k a s e = sized-all t ok k a s ∙ ap (spans_over t k a) (refs-objects k e)

-- ---- a list, position by position: position p, which is the first behind p - 1 of them

module _ (t : List ℕ) (k p n : ℕ) where
  pub list-more : 0 < p → p ≤ n → list_from t k n (p - 1) ≡ told_entry (layout_of k) t k p ∷ list_from t k n p
  unfolding told_list
  list-more g h =
      let s : p - 1 + 1 ≡ p = omega arith in
      let e : n - (p - 1) ≡ suc (n - p) = omega arith in
      let r : suc p ≡ p + 1 = omega arith in
      ap₂ (λ (j m : ℕ). told_list (layout_of k) t k j m) s e
      ∙ ap (λ (j : ℕ). told_entry (layout_of k) t k p ∷ told_list (layout_of k) t k j (n - p)) r

  pub list_done : n ≤ p → list_from t k n p ≡ []
  unfolding told_list
  list_done h =
      let e : n - p ≡ 0 = omega arith in
      ap (told_list (layout_of k) t k (p + 1)) e

  pub size-more : 0 < p → p ≤ n → size_list (list_from t k n (p - 1)) ≡ size_entry (told_entry (layout_of k) t k p) + size_list (list_from t k n p)
  unfolding size_list
  size-more g h = ap size_list (list-more g h)

  pub size-done : n ≤ p → size_list (list_from t k n p) ≡ 0
  unfolding size_list
  size-done h = ap size_list (list_done h)

pub list_all : (t : List ℕ) (k n : ℕ) → n ≡ count_of t k → list_from t k n 0 ≡ list_of t k
unfolding list_of
list_all t k n e = ap (λ (m : ℕ). told_list (layout_of k) t k 1 m) (sub-zero n ∙ e)

length-told : (l : Layout) (t : List ℕ) (k m n : ℕ) → length (told_list l t k n m) ≡ m
unfolding told_list
length-told l t k zero n = refl
length-told l t k (suc m) n = ap suc (length-told l t k m (suc n))

pub list_count : (t : List ℕ) (k : ℕ) → length (list_of t k) ≡ count_of t k
unfolding list_of
list_count t k = length-told (layout_of k) t k (count_of t k) 1

-- ---- the whole

module _ (t : List ℕ) (b : Bytes t) (ok : Accepted t) where
  pub heap-parts : heap_len (meaning t)
      ≡ size_entry (told_entry (layout_of 0) t 0 0)
      + (size_entry (told_entry (layout_of 2) t 2 0) + (size_list (list_of t 3) + (size_list (list_of t 4) + (size_list (list_of t 5) + (size_list (list_of t 6) + 0)))))
  unfolding told heap_len size_body size_entry list_of count_of layout_of told_entry image_of seat_of
  heap-parts = sym (ap heap_len (told-all t b ok))

  -- the bytes that the list of kind k takes among the records
  abbrev span_of : ℕ → ℕ
  span_of k = count_of t k * base_of (layout_of k)

  pub span-parts : span_body (meaning t).lists ≡ span_of 3 + (span_of 4 + (span_of 5 + (span_of 6 + 0)))
  span-parts =
      let e : span_body (told t).lists
      ≡ length (list_of t 3) * base_of (layout_of 3)
      + (length (list_of t 4) * base_of (layout_of 4) + (length (list_of t 5) * base_of (layout_of 5) + (length (list_of t 6) * base_of (layout_of 6) + 0))) =
      unfold told span_body list_of count_of layout_of in refl in
      sym (ap (λ (m : Meaning). span_body m.lists) (told-all t b ok)) ∙ e ∙ rw (list_count t 3, list_count t 4, list_count t 5, list_count t 6) refl

-- a list of at most 255 records
pub span_small : (n k : ℕ) → n < 256 → n * base_of (layout_of k) ≤ 32640
span_small n k h =
    let g : n ≤ 255 = omega arith in
    le_trans (mul-le-mul_left n (base-small k)) (mul-le-mul_right 128 g)
