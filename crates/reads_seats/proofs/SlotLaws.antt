-- What the references of a record give, by the places that the reads find: of an object the part that its place is, of a heap record what stands at its seat. Assumes nothing.
use mathlib.Core.Path.{◌≡◌, refl, sym, ap, ap₂, subst, ◌∙◌}
use mathlib.Core.Bool.{Bool, true, false}
use mathlib.Core.List.{List}
use Prim.Native.Nat.{ℕ, ◌+◌, ◌/◌, ◌%◌, ◌≤◌}
use native.Mathlib.Omega.{arith}
use lib.ListN.{get_or, drop}
use lib.Dec.{eqb}
use Rattle.table.specs.declared.Need.{Need}
use Rattle.table.specs.declared.Need.TheVariants.{Ignored, Optional, Required}
use Rattle.table.specs.Bytes.{pick, part, num}
use Rattle.table.specs.Layout.{Shape, Layout, Refs, none, plain, nest, Slots, nil, bytes, gone, rec, image, reference_at}
use Rattle.table.specs.FixedLayouts.{layout_of, header, control, host, hfi, ssns, security, discovery, info, extended, hfi_extended, no_kind, required, when_set, when_is}
use Rattle.table.specs.Objects.{under, read_slots}
use Rattle.table.specs.Reads.{seat, has_plain, need_at, whole_at}
use Rattle.laws.specs.Fields.{image_in}
use Rattle.layout_images.proofs.Laws.{by_kind, other-layout}
use Rattle.reads_seats.specs.declared.seats.Seat.{Seat}
use Rattle.std.specs.Prelude.{Option, Some, None}
use Rattle.reads_seats.specs.Seats.{found, heap_at, extended_at, identity_at, heap_record}
use Rattle.reads_seats.proofs.MeaningLaws.{place_is}

-- the object that the reference at p of the used record of kind k at a names
abbrev pub object_at : List ℕ → ℕ → ℕ → ℕ → List ℕ
object_at t k a p = part t (whole_at t p (seat (layout_of k) a true)).at (whole_at t p (seat (layout_of k) a true)).len

-- the heap record at a seat, or none, before the slots x
abbrev pub held_slot : {p : ℕ} {need : List ℕ → Need} {shape : Shape} {own rest : Refs} → List ℕ → Option Seat → Slots rest → Slots (nest p need shape own rest)
held_slot t None x = gone x
held_slot {shape = shape} {own = own} t (Some s) x =
    let y = image shape.keep (drop s.at t) in
    rec y (read_slots t s.at y own) x

-- what the references rs of the used record of kind k at a give
unfoldable pub slots_at : List ℕ → ℕ → ℕ → (rs : Refs) → Slots rs
slots_at t k a none = nil
slots_at t k a (plain p need content rest) = bytes (object_at t k a p) (slots_at t k a rest)
slots_at t k a (nest p need shape own rest) = held_slot t (heap_record t k a) (slots_at t k a rest)

module _ (t : List ℕ) (k a : ℕ) where
  abbrev here : List ℕ
  here = image_in (layout_of k) t a

  -- as the meaning has it
  abbrev nest_of : (p : ℕ) (need : List ℕ → Need) (shape : Shape) (own rest : Refs) → Slots rest → Slots (nest p need shape own rest)
  nest_of p need shape own rest x =
      let r = reference_at t (a + p) in
      let y = image shape.keep (drop r.at t) in
      under (need here) (gone x) (pick (eqb r.len 0) (gone x) (rec y (read_slots t r.at y own) x))

  -- the references rs are among those of kind k
  abbrev Agree : Refs → Type 0
  Agree none = 0 ≤ k
  Agree (plain p need content rest) = (has_plain p (layout_of k).refs ≡ true) × (need_at p (layout_of k).refs here ≡ need here) × Agree rest
  Agree (nest p need shape own rest) = ((x : Slots rest) → nest_of p need shape own rest x ≡ held_slot t (heap_record t k a) x) × Agree rest

  slots-agree : (rs : Refs) → Agree rs → read_slots t a here rs ≡ slots_at t k a rs
  unfolding read_slots slots_at image_in
  slots-agree none g = refl
  slots-agree (plain p need content rest) g =
      ap₂ {A = List ℕ} {B = Slots rest} {C = Slots (plain p need content rest)} (λ o ss. bytes o ss) (sym (place_is t (layout_of k) a p (need here) g.0 g.1)) (slots-agree rest g.2)
  slots-agree (nest p need shape own rest) g =
      g.0 (read_slots t a here rest) ∙ ap (λ (x : Slots rest). held_slot t (heap_record t k a) x) (slots-agree rest g.1)

module _ (t : List ℕ) (a : ℕ) where
  -- the heap record that the reference at r names, or none
  named-slot : (r p : ℕ) (need : List ℕ → Need) (shape : Shape) (own rest : Refs) (x : Slots rest)
      → let y = image shape.keep (drop (reference_at t r).at t) in
      ◌≡◌ {A = Slots (nest p need shape own rest)} (pick (eqb (reference_at t r).len 0) (gone x) (rec y (read_slots t (reference_at t r).at y own) x)) (held_slot t (heap_at t r) x)
  unfolding heap_at
  named-slot r p need shape own rest x = go (eqb (reference_at t r).len 0) where
    go : (c : Bool) → let y = image shape.keep (drop (reference_at t r).at t) in
        ◌≡◌ {A = Slots (nest p need shape own rest)} (pick c (gone x) (rec y (read_slots t (reference_at t r).at y own) x)) (held_slot t (pick c None (found (reference_at t r).at true)) x)
    go true = refl
    go false = refl

  hfi-slot : (x : Slots none) → nest_of t 3 a 16 required info.shape info.refs none x ≡ held_slot t (heap_record t 3 a) x
  unfolding heap_record
  hfi-slot x = named-slot (a + 16) 16 required info.shape info.refs none x

  ssns-slot : (x : Slots none) → nest_of t 4 a 60 (when_set 3 2 4 4) extended.shape extended.refs none x ≡ held_slot t (heap_record t 4 a) x
  unfolding heap_record extended_at layout_of image_in
  ssns-slot x = go (eqb (num (image ssns.shape.keep (drop a t)) 3 2 / 16 % 2) 0) where
    go : (c : Bool) → let r = reference_at t (a + 60) in
        let y = image extended.shape.keep (drop r.at t) in
        ◌≡◌ {A = Slots (nest 60 (when_set 3 2 4 4) extended.shape extended.refs none)}
        (under (pick c Ignored Required) (gone x) (pick (eqb r.len 0) (gone x) (rec y (read_slots t r.at y extended.refs) x)))
        (held_slot t (pick c None (heap_at t (a + 60))) x)
    go true = refl
    go false = named-slot (a + 60) 60 (when_set 3 2 4 4) extended.shape extended.refs none x

  info-slot : (x : Slots none) → nest_of t 7 a 110 (when_is 3 2) hfi_extended.shape hfi_extended.refs none x ≡ held_slot t (heap_record t 7 a) x
  unfolding heap_record identity_at layout_of image_in
  info-slot x = go (eqb (get_or (image info.shape.keep (drop a t)) 3 0) 2) where
    go : (c : Bool) → let r = reference_at t (a + 110) in
        let y = image hfi_extended.shape.keep (drop r.at t) in
        ◌≡◌ {A = Slots (nest 110 (when_is 3 2) hfi_extended.shape hfi_extended.refs none)}
        (under (pick c Optional Ignored) (gone x) (pick (eqb r.len 0) (gone x) (rec y (read_slots t r.at y hfi_extended.refs) x)))
        (held_slot t (pick c (heap_at t (a + 110)) None) x)
    go true = named-slot (a + 110) 110 (when_is 3 2) hfi_extended.shape hfi_extended.refs none x
    go false = refl

  all-agree : (k : ℕ) → Agree t k a (layout_of k).refs
  unfolding layout_of header host hfi ssns security discovery info extended hfi_extended
  all-agree =
      by_kind (λ k. Agree t k a (layout_of k).refs)
      (refl, refl, omega arith)
      (unfold control in omega arith)
      (refl, refl, omega arith)
      (hfi-slot, omega arith)
      (refl, refl, (refl, refl, (refl, refl, (refl, refl, (ssns-slot, omega arith)))))
      (refl, refl, (refl, refl, (refl, refl, (refl, refl, (refl, refl, (refl, refl, omega arith))))))
      (refl, refl, (refl, refl, omega arith))
      (refl, refl, (info-slot, omega arith))
      (refl, refl, omega arith)
      (refl, refl, (refl, refl, omega arith))
      (λ k o. subst (λ (l : Layout). Agree t k a l.refs) (sym (other-layout k o)) (unfold no_kind in omega arith))

-- the slots of the record of kind k at a, where it is used
pub slots_at_lem : (t : List ℕ) (k a : ℕ) → read_slots t a (image_in (layout_of k) t a) (layout_of k).refs ≡ slots_at t k a (layout_of k).refs
slots_at_lem t k a = slots-agree t k a (layout_of k).refs (all-agree t a k)
