-- Front, host and lists together: what was laid is the form. Assumes nothing.
use mathlib.Core.Path.{◌≡◌, refl, sym, ap, ap₂, ◌∙◌}
use mathlib.Core.List.{List, [], ◌∷◌, ◌++◌, append_assoc, append-nil}
use Prim.Native.Nat.{ℕ, ◌+◌, ◌-◌, ◌≤◌}
use native.Mathlib.Omega.{arith}
use lib.ListN.{length, take, length-append}
use lib.Seq.{take_at, drop_at}
use native.Mathlib.Nat.{add-zero}
use Rattle.table.specs.Bytes.{splice, part}
use Rattle.table.specs.Layout.{slot_at, Entry}
use Rattle.table.specs.FixedLayouts.{layout_of, header, host}
use Rattle.table.specs.Objects.{size_of, size_entry, size_body, span_body, heap_of, rec_entry, heap_entry, recs_body, heap_body}
use Rattle.table.specs.Reads.{seat_of}
use Rattle.table.specs.Meaning.{Meaning, meaning, heap_at, heap_len, form_length, head_front, head_back, control_bytes, behind, minor_of, laid_out}
use Rattle.laws.specs.ByteLaws.{length-splice}
use Rattle.laws.specs.Fields.{Bytes}
use Rattle.laws.specs.Blank.{lengths_of}
use Rattle.laws.specs.AcceptedMeaning.{lawful}
use Rattle.bytes_front.specs.Front.{header_for, control_for}
use Rattle.bytes_front.proofs.FrontLaws as front
use Rattle.bytes_front.proofs.FrontLaws.{header_is, header-joined, control-is, control-joined, control-long}
use Rattle.bytes_writer.proofs.StoreLaws.{splice-join, splice-none, splice-swap, splice-over}
use Rattle.reader.specs.Accepted.{Accepted}
use Rattle.reader.proofs.AcceptedLaws.{checked}
use Rattle.reads_seats.proofs.MeaningLaws.{told-all, oem-told}
use Rattle.reads_seats.specs.Objects.{object_in}
use Rattle.reads_seats.specs.Told.{image_of, told_slots, told_entry, count_of, oem_of, told}
use Rattle.reads_by_seat.specs.Driver.{driver_of}
use Rattle.rewriter_sizes.specs.Parts.{list_of}
use Rattle.rewriter_sizes.proofs.PartLaws.{list_count}
use Rattle.rewriter_sizes.proofs.LengthLaws.{record-bytes, heap-bytes}
use Rattle.rewriter_objects.specs.Laid.{laid}
use Rattle.rewriter_lists.proofs.RunLaws.{Piece, piece, recs_of, heaps_of, run-laid, link}
use Rattle.rewriter_lists.proofs.ListLaws.{body-recs-long, body-heap-long}

-- the pieces in order, with no empty ones
in_order_lem : (f b c r s d g p : List ℕ) → (((f ++ b) ++ c) ++ (r ++ (s ++ []))) ++ (d ++ (g ++ (p ++ []))) ≡ f ++ (b ++ (c ++ (r ++ (s ++ (d ++ (g ++ p))))))
in_order_lem f b c r s d g p = simp (append_assoc, append-nil)

module _ (t : List ℕ) (b : Bytes t) (ok : Accepted t) where
  abbrev m : Meaning
  m = meaning t

  -- the header, which has the driver signature, and the host
  abbrev drv : Entry (layout_of 0)
  drv = told_entry (layout_of 0) t 0 0

  abbrev own : Entry (layout_of 2)
  own = told_entry (layout_of 2) t 2 0

  -- they are the meaning's
  driver-size : size_entry drv ≡ size_of m.driver
  unfolding told layout_of told_entry image_of seat_of size_entry
  driver-size = ap (λ (x : Meaning). size_of x.driver) (told-all t b ok)

  driver-heap : (h : ℕ) → heap_entry h drv ≡ heap_of h m.driver
  unfolding told layout_of told_entry image_of seat_of heap_entry
  driver-heap h = ap (λ (x : Meaning). heap_of h x.driver) (told-all t b ok)

  owner-size : size_entry own ≡ size_entry m.owner
  unfolding told layout_of
  owner-size = ap (λ (x : Meaning). size_entry x.owner) (told-all t b ok)

  owner-rec : (h : ℕ) → rec_entry h own ≡ rec_entry h m.owner
  unfolding told layout_of
  owner-rec h = ap (λ (x : Meaning). rec_entry h x.owner) (told-all t b ok)

  owner-heap : (h : ℕ) → heap_entry h own ≡ heap_entry h m.owner
  unfolding told layout_of
  owner-heap h = ap (λ (x : Meaning). heap_entry h x.owner) (told-all t b ok)

  heap-length : heap_len m ≡ size_entry drv + (size_entry own + size_body m.lists)
  unfolding heap_len
  heap-length = ap₂ (λ (i j : ℕ). i + (j + size_body m.lists)) (sym driver-size) (sym owner-size)

  starts : heap_at m ≡ 160 + span_body m.lists
  unfolding heap_at
  starts = refl

  -- what the lengths of the form and of what stands before its heap are made of
  pub sizes-are : (n h : ℕ) → n ≡ form_length m → h ≡ heap_at m
      → (h ≡ 160 + span_body m.lists) × (n ≡ h + (size_entry drv + (size_entry own + size_body m.lists))) × (n - h ≡ heap_len m)
  unfolding form_length
  sizes-are n h en eh =
      let hl = heap-length in
      let st = starts in
      (omega arith, omega arith, omega arith)

  -- the header names one object, the driver signature
  driver-slot : size_entry drv ≡ length (slot_at 44 m.driver)
  driver-slot =
      let e : size_entry drv ≡ length (slot_at 44 (told t).driver) =
      unfold told layout_of header told_entry image_of seat_of told_slots size_entry size_of slot_at in add-zero (length (object_in t 0 0 44)) in
      e ∙ ap (λ (x : Meaning). length (slot_at 44 x.driver)) (told-all t b ok)

  driver-bytes : (h : ℕ) → heap_entry h drv ≡ driver_of t
  unfolding layout_of header told_entry image_of seat_of told_slots object_in heap_entry heap_of
  driver-bytes h = append-nil (driver_of t)

  pub driver-long : size_entry drv ≡ length (driver_of t)
  driver-long = sym (heap-bytes t ok 0 0 0) ∙ ap length (driver-bytes 0)

  counts-are : count_of t 3 ∷ count_of t 4 ∷ count_of t 5 ∷ count_of t 6 ∷ [] ≡ lengths_of m.lists
  counts-are =
      let e : lengths_of (told t).lists ≡ length (list_of t 3) ∷ length (list_of t 4) ∷ length (list_of t 5) ∷ length (list_of t 6) ∷ [] =
      unfold told list_of count_of layout_of in refl in
      rw (← list_count t 3, ← list_count t 4, ← list_count t 5, ← list_count t 6) (sym e) ∙ ap (λ (x : Meaning). lengths_of x.lists) (told-all t b ok)

  oem-is : oem_of t ≡ m.oem
  unfolding oem_of meaning
  oem-is = oem-told t b ok

  oem-long : length (oem_of t) ≡ 26
  oem-long = ap length oem-is ∙ (lawful t b (checked t ok)).shapes.sized

  module _ (n k : ℕ) (en : n ≡ form_length m) (ek : k ≡ heap_len m) where
    -- header and control record
    abbrev head : List ℕ
    head = header_for n (oem_of t) (heap_at m) k (size_entry drv) (minor_of m)

    abbrev ctrl : List ℕ
    ctrl = control_for (count_of t 3 ∷ count_of t 4 ∷ count_of t 5 ∷ count_of t 6 ∷ [])

    head-is : head ≡ head_front n ++ (0 ∷ head_back m k (minor_of m))
    head-is = ap₂ (λ (o : List ℕ) (d : ℕ). header_for n o (heap_at m) k d (minor_of m)) oem-is driver-slot ∙ header_is m n k (minor_of m)

    ctrl-is : ctrl ≡ control_bytes m
    ctrl-is = ap control_for counts-are ∙ control-is m

    abbrev h₀ : ℕ
    h₀ = heap_at m

    abbrev h₁ : ℕ
    h₁ = h₀ + size_entry drv

    abbrev h₂ : ℕ
    h₂ = h₁ + size_entry own

    -- as the meaning has them
    abbrev g₁ : ℕ
    g₁ = h₀ + size_of m.driver

    abbrev g₂ : ℕ
    g₂ = g₁ + size_entry m.owner

    abbrev all : List Piece
    all =
        piece (head ++ ctrl) []
        ∷ piece [] (heap_entry h₀ drv)
        ∷ piece (rec_entry h₁ own) (heap_entry h₁ own)
        ∷ piece (recs_body h₂ m.lists) (heap_body h₂ m.lists)
        ∷ []

    all-is : recs_of all ++ heaps_of all ≡ laid_out m n 0 k (minor_of m)
    unfolding laid_out behind
    all-is =
        ap₂ (λ (r g : List ℕ). ((head ++ ctrl) ++ (r ++ (recs_body h₂ m.lists ++ [])))
        ++ (heap_entry h₀ drv ++ (g ++ (heap_body h₂ m.lists ++ [])))) (owner-rec h₁) (owner-heap h₁)
        ∙ ap₂ (λ (i j : ℕ).
        ((head ++ ctrl) ++ (rec_entry (h₀ + i) m.owner ++ (recs_body (h₀ + i + j) m.lists ++ [])))
        ++ (heap_entry h₀ drv ++ (heap_entry (h₀ + i) m.owner ++ (heap_body (h₀ + i + j) m.lists ++ []))))
        driver-size owner-size
        ∙ ap (λ (g : List ℕ). ((head ++ ctrl) ++ (rec_entry g₁ m.owner ++ (recs_body g₂ m.lists ++ [])))
        ++ (g ++ (heap_entry g₁ m.owner ++ (heap_body g₂ m.lists ++ [])))) (driver-heap h₀)
        ∙ ap₂ (λ (x y : List ℕ). ((x ++ y) ++ (rec_entry g₁ m.owner ++ (recs_body g₂ m.lists ++ [])))
        ++ (heap_of h₀ m.driver ++ (heap_entry g₁ m.owner ++ (heap_body g₂ m.lists ++ [])))) head-is ctrl-is
        ∙ in_order_lem (head_front n) (0 ∷ head_back m k (minor_of m)) (control_bytes m) (rec_entry g₁ m.owner) (recs_body g₂ m.lists)
        (heap_of h₀ m.driver) (heap_entry g₁ m.owner) (heap_body g₂ m.lists)

    head-any : (h d : ℕ) → length (header_for n (oem_of t) h k d (minor_of m)) ≡ 64
    head-any h d = ap length (sym (header-joined n (oem_of t) h k d (minor_of m))) ∙ front.header-long n (oem_of t) h k d (minor_of m) oem-long

    head-long : length head ≡ 64
    head-long = head-any (heap_at m) (size_entry drv)

    ctrl-long : length ctrl ≡ 64
    ctrl-long = ap length (sym (control-joined (count_of t 3) (count_of t 4) (count_of t 5) (count_of t 6))) ∙ control-long (count_of t 3) (count_of t 4) (count_of t 5) (count_of t 6)

    front_long : length (head ++ ctrl) ≡ 128
    front_long = length-append head ctrl ∙ omega (arith, head-long, ctrl-long)

    owner-long : length (rec_entry h₁ own) ≡ 32
    unfolding layout_of host
    owner-long = record-bytes t ok 2 0 h₁

    recs-all : length (recs_of all) ≡ h₀
    recs-all = simp length-append (omega (arith, head-long, ctrl-long, owner-long, body-recs-long t b ok h₂, starts))

    heaps-all : length (heaps_of all) ≡ heap_len m
    heaps-all =
        simp length-append
        (omega (arith, heap-bytes t ok 0 0 h₀, heap-bytes t ok 2 0 h₁, body-heap-long t b ok h₂, heap-length))

    header-long : (h : ℕ) → length (rec_entry h drv) ≡ 64
    unfolding layout_of header
    header-long h = record-bytes t ok 0 0 h

    -- the front, laid over the header with the reference to the driver signature, which stands in the heap by then
    pub front-late : (x y1 y2 : List ℕ) (h d : ℕ) → 128 ≤ h → h + size_entry drv ≤ length x
        → y1 ≡ laid x 0 (rec_entry h drv) h (heap_entry h drv)
        → y2 ≡ splice (splice y1 0 (header_for n (oem_of t) h k d (minor_of m))) 64 ctrl
        → y2 ≡ splice (splice (splice x 0 (header_for n (oem_of t) h k d (minor_of m))) 64 ctrl) h (heap_entry h drv)
    front-late x y1 y2 h d low room s1 s2 =
        let hd : List ℕ = header_for n (oem_of t) h k d (minor_of m) in
        let g : List ℕ = heap_entry h drv in
        let r : List ℕ = rec_entry h drv in
        let x₁ : List ℕ = splice x 0 r in
        let lr : length r ≡ 64 = header-long h in
        let lh : length hd ≡ 64 = head-any h d in
        let lg : length g ≡ size_entry drv = heap-bytes t ok 0 0 h in
        let lx : length x₁ ≡ length x = length-splice x 0 r (omega (arith, lr)) in
        let lv : length (splice x₁ 0 hd) ≡ length x₁ = length-splice x₁ 0 hd (omega (arith, lh, lx)) in
        s2 ∙ ap (λ (y : List ℕ). splice (splice y 0 hd) 64 ctrl) s1
        ∙ ap (λ (y : List ℕ). splice y 64 ctrl) (splice-swap x₁ 0 hd h g (omega (arith, lh)) (omega (arith, lg, lx)))
        ∙ splice-swap (splice x₁ 0 hd) 64 ctrl h g (omega (arith, ctrl-long)) (omega (arith, lg, lx, lv))
        ∙ ap (λ (y : List ℕ). splice (splice y 64 ctrl) h g) (splice-over x 0 r hd (omega (arith, lr, lh)) (omega (arith, lr)))

    -- front, driver signature, host, lists
    pub form-laid : (x y1 y2 y3 y4 : List ℕ) (h d u : ℕ) → n ≤ length x → h ≡ h₀ → d ≡ size_entry drv
        → y1 ≡ splice (splice x 0 (header_for n (oem_of t) h k d (minor_of m))) 64 ctrl
        → y2 ≡ splice y1 h (heap_entry h drv)
        → y3 ≡ laid y2 128 (rec_entry (h + d) own) (h + d) (heap_entry (h + d) own) → u ≡ h + d + size_entry own
        → y4 ≡ laid y3 160 (recs_body u m.lists) u (heap_body u m.lists)
        → y4 ≡ splice x 0 (laid_out m n 0 k (minor_of m))
    form-laid x y1 y2 y3 y4 h d u room eh ed s1 s2 s3 eu s4 =
        let z = sizes-are n h₀ en refl in
        let e0 = eh in
        let e1 : h + d ≡ h₁ = omega arith in
        let e2 : u ≡ h₂ = omega arith in
        let c0 : 64 ≡ 0 + length head = omega (arith, head-long) in
        let r0 : h₀ ≡ 0 + length (recs_of all) = omega (arith, recs-all) in
        let dl = heap-bytes t ok 0 0 h₀ in
        let ol = heap-bytes t ok 2 0 h₁ in
        let front : y1 ≡ laid x 0 (head ++ ctrl) h₀ [] =
        s1 ∙ ap₂ (λ (i j : ℕ). splice (splice x 0 (header_for n (oem_of t) i k j (minor_of m))) 64 ctrl) e0 ed
        ∙ ap (λ (i : ℕ). splice (splice x 0 head) i ctrl) c0
        ∙ splice-join x 0 head ctrl (omega (arith, head-long)) ∙ splice-none (splice x 0 (head ++ ctrl)) h₀ in
        let driver : y2 ≡ laid y1 (0 + length (head ++ ctrl)) [] (h₀ + 0) (heap_entry h₀ drv) =
        s2 ∙ ap (λ (i : ℕ). splice y1 i (heap_entry i drv)) e0 ∙ ap₂ (λ (v : List ℕ) (i : ℕ). splice v i (heap_entry h₀ drv)) (splice-none y1 (0 + length (head ++ ctrl))) (sym (add-zero h₀)) in
        let owner = link y3 y2 128 (0 + length (head ++ ctrl) + 0) (h + d) h₁ (h₀ + 0 + length (heap_entry h₀ drv)) (λ i. rec_entry i own) (λ i. heap_entry i own)
        (omega (arith, front_long)) e1 (omega (arith, dl))
        s3 in
        let lists = link y4 y3 160 (0 + length (head ++ ctrl) + 0 + length (rec_entry h₁ own)) u h₂ (h₀ + 0 + length (heap_entry h₀ drv) + length (heap_entry h₁ own))
        (λ i. recs_body i m.lists) (λ i. heap_body i m.lists) (omega (arith, front_long, owner-long)) e2 (omega (arith, dl, ol)) s4 in
        run-laid all x 0 h₀ y4 (omega (arith, recs-all)) (omega (arith, heaps-all)) (y1, front, (y2, driver, (y3, owner, (y4, lists, refl))))
        ∙ ap (λ (i : ℕ). splice (splice x 0 (recs_of all)) i (heaps_of all)) r0
        ∙ splice-join x 0 (recs_of all) (heaps_of all) (omega (arith, recs-all)) ∙ ap (splice x 0) all-is

    -- the driver signature stands first in the heap, byte for byte
    pub signature-here : (d : ℕ) → d ≡ length (driver_of t) → (h₀ + d ≤ n) × (part (laid_out m n 0 k (minor_of m)) h₀ d ≡ driver_of t)
    signature-here d e =
        let z = sizes-are n h₀ en refl in
        let dl = driver-long in
        let rest : List ℕ = heap_entry h₁ own ++ (heap_body h₂ m.lists ++ []) in (
          omega arith,
          ap (λ (x : List ℕ). part x h₀ d) (sym all-is)
              ∙ ap (take d) (drop_at (recs_of all) (heaps_of all) h₀ recs-all)
              ∙ take_at (heap_entry h₀ drv) rest d (ap length (driver-bytes h₀) ∙ sym e)
              ∙ driver-bytes h₀,
        )
