-- The reads of an accepted table together give its meaning. Assumes nothing.
use mathlib.Core.Path.{◌≡◌, refl, sym, ap, ap₂, ◌∙◌}
use mathlib.Core.Bool.{Bool, true, false}
use mathlib.Core.List.{List, [], ◌∷◌}
use Prim.Native.Nat.{ℕ, zero, suc, ◌+◌, ◌-◌, ◌*◌, ◌≤◌, ◌<◌}
use native.Mathlib.Nat.{zero-add}
use native.Mathlib.Omega.{arith}
use lib.ListN.{length, get_or, take, drop, replicate, length-append, length-replicate, get_or-replicate, get_or-append}
use lib.Seq.{ext_get_or, get_or-take, get_or-drop, take-append_seam}
use lib.Dec.{T, eqb, ltb, ltb→lt, lit≤}
use borrow.Author.Tests.{eqb-true, le-leb, lt-ltb}
use Rattle.table.specs.declared.Need.{Need}
use Rattle.table.specs.declared.Need.TheVariants.{Ignored, Optional, Required}
use Rattle.table.specs.Bytes.{pick, part, num, padded}
use Rattle.table.specs.Layout.{Keep, low, Shape, Refs, none, plain, nest, Slots, bytes, gone, rec, Layout, base_of, image, is_valid, Entry, used}
use Rattle.table.specs.FixedLayouts.{header, control, host, hfi, ssns, security, discovery, info, extended, hfi_extended, layout_of, when_is, when_set}
use Rattle.table.specs.Objects.{under, read_slots, read_entry, read_list, read_body}
use Rattle.table.specs.Rules.{done}
use Rattle.table.specs.Meaning.{meaning}
use Rattle.table.specs.Reads.{Seat, nowhere, seat, seat_of, list_seat, heap_seat, need_at, content_at, has_plain, no_place, ref_place, whole_at, image_at, read_place, read_object}
use Rattle.laws.specs.Fields.{Bytes, image_in, whole}
use Rattle.laws.specs.ListWalk.{flag_is}
use Rattle.laws.specs.TextReads.{again, read_again}
use Rattle.reader.specs.Accepted.{Accepted}
use Rattle.reader.proofs.AcceptedLaws.{laid, host-passes}
use Rattle.reader_lists.proofs.Laws.{next_start}
use Rattle.laws.specs.ImageLaws.{length-image}
use Rattle.layout_images.proofs.Laws.{part-long, part-byte}
use Rattle.reads_seats.specs.Objects.{object_in}
use Rattle.reads_seats.specs.Told.{image_of, inner_kind, told_nest, told_slots, told_entry, told_list, count_at, told}

-- ---- the bytes of an image

length-padded : (xs : List ℕ) → length xs ≤ 128 → length (padded 128 xs) ≡ 128
length-padded xs h = simp (length-append, length-replicate) (omega arith)

pub image-front : (l : Layout) (t : List ℕ) (a : ℕ) → take (base_of l) (padded 128 (image l.shape.keep (drop a t))) ≡ image l.shape.keep (drop a t)
image-front l t a =
    let x = image l.shape.keep (drop a t) in
    ap (λ (n : ℕ). take n (padded 128 x)) (sym (length-image l.shape.keep (drop a t))) ∙ take-append_seam x (replicate (128 - length x) 0)

-- ---- objects

-- a used record at a place
module _ (t : List ℕ) (l : Layout) (a : ℕ) where
  abbrev img : List ℕ
  img = image l.shape.keep (drop a t)

  pub place_is : (p : ℕ) (need : Need) → has_plain p l.refs ≡ true → need_at p l.refs img ≡ need
      → part t (whole_at t p (seat l a true)).at (whole_at t p (seat l a true)).len ≡ under need [] (part t (num t (a + p) 4) (num t (a + p + 4) 2))
  place_is p need h e = rw (h, e) (go need) where
    there : part t (ref_place t (a + p)).at (ref_place t (a + p)).len ≡ part t (num t (a + p) 4) (num t (a + p + 4) 2)
    there = by (eqb (num t (a + p + 4) 2) 0) refl where
      by : (b : Bool) → eqb (num t (a + p + 4) 2) 0 ≡ b
          → part t (pick b (no_place done) (record { answer = done; present = true; at = num t (a + p) 4; len = num t (a + p + 4) 2 })).at
          (pick b (no_place done) (record { answer = done; present = true; at = num t (a + p) 4; len = num t (a + p + 4) 2 })).len
          ≡ part t (num t (a + p) 4) (num t (a + p + 4) 2)
      by true f = rw (eqb-true (num t (a + p + 4) 2) 0 f) refl
      by false f = refl

    go : (m : Need) → part t (under m (no_place done) (ref_place t (a + p))).at (under m (no_place done) (ref_place t (a + p))).len ≡ under m [] (part t (num t (a + p) 4) (num t (a + p + 4) 2))
    go Ignored = refl
    go Optional = there
    go Required = there

  -- which the reads find
  object-is : (k n : ℕ) → seat_of t k n ≡ seat l a true → (p : ℕ) (need : Need) → has_plain p l.refs ≡ true → need_at p l.refs img ≡ need
      → object_in t k n p ≡ under need [] (part t (num t (a + p) 4) (num t (a + p + 4) 2))
  unfolding object_in
  object-is k n s p need h e = ap (λ (w : Seat). part t (whole_at t p w).at (whole_at t p w).len) s ∙ place_is p need h e

-- ---- heap records

-- what the reads say of the heap record at the reference r, of kind k' and layout m, and behind it x
module _ (t : List ℕ) (k' n : ℕ) (m : Layout) (r p : ℕ) (need : List ℕ → Need) (rest : Refs) where
  abbrev off : ℕ
  off = num t r 4

  abbrev inner : List ℕ
  inner = image m.shape.keep (drop off t)

  abbrev NestSlots : Type 0
  NestSlots = Slots (nest p need m.shape m.refs rest)

  abbrev absent : Slots rest → NestSlots
  absent x = gone x

  abbrev present : Slots rest → NestSlots
  present x = rec inner (read_slots t off inner m.refs) x

  abbrev said : Slots rest → NestSlots
  said x = told_nest (image_of t k' n) (told_slots t k' n m.refs) x

  said-absent : (x : Slots rest) → seat_of t k' n ≡ nowhere → said x ≡ absent x
  unfolding image_of
  said-absent x e = ap {A = Seat} {B = NestSlots} (λ w. told_nest (image_at t w) (told_slots t k' n m.refs) x) e

  said-present : (x : Slots rest) → seat_of t k' n ≡ seat m off true → told_slots t k' n m.refs ≡ read_slots t off inner m.refs → said x ≡ present x
  unfolding image_of
  said-present x e o =
      ap {A = Seat} {B = NestSlots} (λ w. told_nest (image_at t w) (told_slots t k' n m.refs) x) e
      ∙ ap₂ {A = List ℕ} {B = Slots m.refs} {C = NestSlots} (λ i ss. rec i ss x) (image-front m t off) o

  nest-told : (x : Slots rest) (c : Need) → seat_of t k' n ≡ under c nowhere (pick (eqb (num t (r + 4) 2) 0) nowhere (seat m off true))
      → (seat_of t k' n ≡ seat m off true → told_slots t k' n m.refs ≡ read_slots t off inner m.refs)
      → said x ≡ under c (absent x) (pick (eqb (num t (r + 4) 2) 0) (absent x) (present x))
  nest-told x c e o = go c (eqb (num t (r + 4) 2) 0) e where
    go : (d : Need) (b : Bool) → seat_of t k' n ≡ under d nowhere (pick b nowhere (seat m off true)) → said x ≡ under d (absent x) (pick b (absent x) (present x))
    go Ignored b f = said-absent x f
    go Optional true f = said-absent x f
    go Optional false f = said-present x f (o f)
    go Required true f = said-absent x f
    go Required false f = said-present x f (o f)

-- ---- the slots of a record

module _ (t : List ℕ) (k n : ℕ) (l : Layout) (a : ℕ) (s : seat_of t k n ≡ seat l a true) where
  abbrev here : List ℕ
  here = image l.shape.keep (drop a t)

  abbrev nest_of : (p : ℕ) (need : List ℕ → Need) (shape : Shape) (own rest : Refs) → Slots rest → Slots (nest p need shape own rest)
  nest_of p need shape own rest x =
      let y = image shape.keep (drop (num t (a + p) 4) t) in
      under (need here) (gone x) (pick (eqb (num t (a + p + 4) 2) 0) (gone x) (rec y (read_slots t (num t (a + p) 4) y own) x))

  -- the references of rs are among those of l and count alike; its heap records read as they stand
  abbrev pub Among : Refs → Type 0
  Among none = 0 ≤ k
  Among (plain p need content rest) = (has_plain p l.refs ≡ true) × (need_at p l.refs here ≡ need here) × Among rest
  Among (nest p need shape own rest) =
      ((x : Slots rest) → ◌≡◌ {A = Slots (nest p need shape own rest)} (told_nest (image_of t (inner_kind k) n) (told_slots t (inner_kind k) n own) x) (nest_of p need shape own rest x)) × Among rest

  pub slots-told : (rs : Refs) → Among rs → told_slots t k n rs ≡ read_slots t a here rs
  unfolding told_slots read_slots
  slots-told none g = refl
  slots-told (plain p need content rest) g =
      ap₂ {A = List ℕ} {B = Slots rest} {C = Slots (plain p need content rest)} (λ b ss. bytes b ss) (object-is t l a k n s p (need here) g.0 g.1) (slots-told rest g.2)
  slots-told (nest p need shape own rest) g =
      g.0 (told_slots t k n rest) ∙ ap {A = Slots rest} {B = Slots (nest p need shape own rest)} (nest_of p need shape own rest) (slots-told rest g.1)

  -- ---- a record

  entry-told : is_valid l.shape here ≡ true → Among l.refs → told_entry l t k n ≡ read_entry l t a
  unfolding told_entry read_entry image_of
  entry-told v g =
      rw (s, v)
      (ap₂ {A = List ℕ} {B = Slots l.refs} {C = Entry l} (λ i ss. used i ss) (image-front l t a) (slots-told l.refs g))

-- an unused one
entry-unused : (t : List ℕ) (k n : ℕ) (l : Layout) (a : ℕ) → seat_of t k n ≡ seat l a false → is_valid l.shape (image l.shape.keep (drop a t)) ≡ false → told_entry l t k n ≡ read_entry l t a
unfolding told_entry read_entry image_of
entry-unused t k n l a s v = rw (s, v) refl

-- ---- each kind

module _ (t : List ℕ) (n a : ℕ) where
  pub identity-told : seat_of t 10 n ≡ seat hfi_extended a true → told_slots t 10 n hfi_extended.refs ≡ read_slots t a (image hfi_extended.shape.keep (drop a t)) hfi_extended.refs
  identity-told s = slots-told t 10 n hfi_extended a s hfi_extended.refs (unfold hfi_extended in (refl, refl, (refl, refl, omega arith)))

  pub extended-told : seat_of t 9 n ≡ seat extended a true → told_slots t 9 n extended.refs ≡ read_slots t a (image extended.shape.keep (drop a t)) extended.refs
  extended-told s = slots-told t 9 n extended a s extended.refs (unfold extended in (refl, refl, omega arith))

module _ (t : List ℕ) (n a : ℕ) where
  info-among : (s : seat_of t 7 n ≡ seat info a true) → Among t 7 n info a s info.refs
  unfolding info seat_of
  info-among s = (
    refl,
    refl,
    (
      (λ x. nest-told t 10 n hfi_extended (a + 110) 110 _ none x
          (when_is 3 2 (image info.shape.keep (drop a t)))
          (ap (heap_seat hfi_extended 110 t) s) (λ f. identity-told t n (num t (a + 110) 4) f)),
      omega arith,
    ),
  )

  pub info-told : seat_of t 7 n ≡ seat info a true → told_slots t 7 n info.refs ≡ read_slots t a (image info.shape.keep (drop a t)) info.refs
  info-told s = slots-told t 7 n info a s info.refs (info-among s)

module _ (t : List ℕ) (n a : ℕ) where
  pub host-among : (s : seat_of t 2 n ≡ seat host a true) → Among t 2 n host a s host.refs
  unfolding host
  host-among s = (refl, refl, omega arith)

  pub hfi-among : (s : seat_of t 3 n ≡ seat hfi a true) → Among t 3 n hfi a s hfi.refs
  unfolding hfi seat_of
  hfi-among s = ((λ x. nest-told t 7 n info (a + 16) 16 _ none x Required (ap (heap_seat info 16 t) s) (λ f. info-told t n (num t (a + 16) 4) f)), omega arith)

  pub ssns-among : (s : seat_of t 4 n ≡ seat ssns a true) → Among t 4 n ssns a s ssns.refs
  unfolding ssns seat_of
  ssns-among s = (
    refl,
    refl,
    (
      refl,
      refl,
      (
        refl,
        refl,
        (
          refl,
          refl,
          (
            (λ x. nest-told t 9 n extended (a + 60) 60 _ none x
                (when_set 3 2 4 4 (image ssns.shape.keep (drop a t)))
                (ap (heap_seat extended 60 t) s) (λ f. extended-told t n (num t (a + 60) 4) f)),
            omega arith,
          ),
        ),
      ),
    ),
  )

  pub security-among : (s : seat_of t 5 n ≡ seat security a true) → Among t 5 n security a s security.refs
  unfolding security
  security-among s = (refl, refl, (refl, refl, (refl, refl, (refl, refl, (refl, refl, (refl, refl, omega arith))))))

  pub discovery-among : (s : seat_of t 6 n ≡ seat discovery a true) → Among t 6 n discovery a s discovery.refs
  unfolding discovery
  discovery-among s = (refl, refl, (refl, refl, omega arith))

-- ---- a list

module _ (t : List ℕ) (k : ℕ) (l : Layout) (c : ℕ) (is : (n : ℕ) → seat_of t k n ≡ list_seat l t c n) (among : (n a : ℕ) (s : seat_of t k n ≡ seat l a true) → Among t k n l a s l.refs) where
  abbrev step : ℕ
  step = num t (c + 4) 2

  abbrev place : ℕ → ℕ
  place n = num t c 4 + (n - 1) * step

  listed : (n : ℕ) → 1 ≤ n → n ≤ get_or t (c + 7) 0 → seat_of t k n ≡ seat l (place n) (is_valid l.shape (image l.shape.keep (drop (place n) t)))
  listed n lo hi = is n ∙ rw (le-leb 1 n lo, le-leb n (get_or t (c + 7) 0) hi) refl

  one_told : (n : ℕ) → 1 ≤ n → n ≤ get_or t (c + 7) 0 → told_entry l t k n ≡ read_entry l t (place n)
  one_told n lo hi = go (is_valid l.shape (image l.shape.keep (drop (place n) t))) refl (listed n lo hi) where
    go : (b : Bool) → is_valid l.shape (image l.shape.keep (drop (place n) t)) ≡ b → seat_of t k n ≡ seat l (place n) b → told_entry l t k n ≡ read_entry l t (place n)
    go true v s = entry-told t k n l (place n) s v (among n (place n) s)
    go false v s = entry-unused t k n l (place n) s v

  list-told : (m n : ℕ) → 1 ≤ n → n + m ≤ get_or t (c + 7) 0 + 1 → told_list l t k n m ≡ read_list l t (place n) step m
  unfolding told_list read_list
  list-told zero n lo hi = refl
  list-told (suc m) n lo hi =
      let f : suc n - 1 ≡ n - 1 + 1 = omega arith in
      let e : place (suc n) ≡ place n + step = ap (λ (i : ℕ). num t c 4 + i * step) f ∙ sym (next_start (num t c 4) (n - 1) step) in
      ap₂ {A = Entry l} {B = List (Entry l)} (λ x xs. x ∷ xs) (one_told n lo (omega arith))
      (list-told m (suc n) (omega arith) (omega arith) ∙ ap (λ (a : ℕ). read_list l t a step m) e)

  all_told : (m : ℕ) → m ≡ get_or t (c + 7) 0 → told_list l t k 1 m ≡ read_list l t (num t c 4) step (get_or t (c + 7) 0)
  all_told m e =
      let z : place 1 ≡ num t c 4 = omega arith in
      list-told m 1 (omega arith) (omega (arith, e)) ∙ ap₂ (λ (a i : ℕ). read_list l t a step i) z e

-- ---- the whole

module _ (t : List ℕ) (b : Bytes t) (ok : Accepted t) where
  -- a byte of the header's or the control record's image
  front-byte : (l : Layout) (q : ℕ) → T (ltb q (base_of l)) → get_or l.shape.keep q (low 1) ≡ low 256 → get_or (padded 128 (image l.shape.keep (drop 0 t))) q 0 ≡ get_or t q 0
  front-byte l q h e =
      get_or-append (image l.shape.keep (drop 0 t)) (replicate (128 - length (image l.shape.keep (drop 0 t))) 0) 0 q (rw (length-image l.shape.keep (drop 0 t)) (ltb→lt q (base_of l) h))
      ∙ whole l.shape.keep t 0 q h e (b (0 + q))
      ∙ ap (λ (i : ℕ). get_or t i 0) (zero-add q)

  pub counted : (q : ℕ) → T (ltb q 128) → get_or control.shape.keep q (low 1) ≡ low 256 → count_at t q ≡ get_or t q 0
  unfolding image_of seat_of control
  counted q h e = front-byte control q h e

  host-told : told_entry host t 2 0 ≡ read_entry host t (num t 72 4)
  unfolding seat_of
  host-told =
      entry-told t 2 0 host (num t 72 4) refl (unfold image_in in flag_is host t (num t 72 4) (unfold host in tt) ∙ unfold host in (host-passes t ok).0) (host-among t 0 (num t 72 4) refl)

  header-told : told_slots t 0 0 header.refs ≡ read_slots t 0 [] header.refs
  unfolding header seat_of read_slots
  header-told = slots-told t 0 0 header 0 refl header.refs (refl, refl, omega arith)

  -- header bytes 10 to 35 all count
  oem-kept : (j : ℕ) → j < 26 → get_or header.shape.keep (10 + j) (low 1) ≡ low 256
  oem-kept j h =
      let ks = header.shape.keep in
      let e : take 26 (drop 10 ks) ≡ replicate 26 (low 256) = unfold header in refl in
      sym (get_or-take 26 (drop 10 ks) j (low 1) h ∙ get_or-drop 10 ks j (low 1)) ∙ ap (λ (l : List Keep). get_or l j (low 1)) e ∙ get_or-replicate 26 j (low 256) (low 1) h

  oem-within : (j : ℕ) → j < 26 → T (ltb (10 + j) (base_of header))
  unfolding header
  oem-within j h = rw (lt-ltb (10 + j) 64 (omega arith)) tt

  pub oem-told : part (image_of t 0 0).bytes 10 26 ≡ part t 10 26
  unfolding image_of seat_of
  oem-told =
      let x = padded 128 (image header.shape.keep (drop 0 t)) in
      let n = length-padded (image header.shape.keep (drop 0 t)) (rw (length-image header.shape.keep (drop 0 t)) (unfold header in lit≤ tt)) in
      let m = (laid t ok).lent in
      ext_get_or 0 (part x 10 26) (part t 10 26) (part-long x 10 26 (omega (arith, n)) ∙ sym (part-long t 10 26 (omega (arith, m))))
      λ j g.
      let h : j < 26 = omega (arith, g, part-long x 10 26 (omega (arith, n))) in
      part-byte x 10 26 j h ∙ front-byte header (10 + j) (oem-within j h) (oem-kept j h) ∙ sym (part-byte t 10 26 j h)

  hfis-told : told_list hfi t 3 1 (count_at t 87) ≡ read_list hfi t (num t 80 4) (num t 84 2) (get_or t 87 0)
  hfis-told = all_told t 3 hfi 80 (λ n. unfold seat_of in refl) (λ n a s. hfi-among t n a s) (count_at t 87) (counted 87 tt (unfold control in refl))

  ssnss-told : told_list ssns t 4 1 (count_at t 95) ≡ read_list ssns t (num t 88 4) (num t 92 2) (get_or t 95 0)
  ssnss-told = all_told t 4 ssns 88 (λ n. unfold seat_of in refl) (λ n a s. ssns-among t n a s) (count_at t 95) (counted 95 tt (unfold control in refl))

  securities-told : told_list security t 5 1 (count_at t 103) ≡ read_list security t (num t 96 4) (num t 100 2) (get_or t 103 0)
  securities-told = all_told t 5 security 96 (λ n. unfold seat_of in refl) (λ n a s. security-among t n a s) (count_at t 103) (counted 103 tt (unfold control in refl))

  discoveries-told : told_list discovery t 6 1 (count_at t 111) ≡ read_list discovery t (num t 104 4) (num t 108 2) (get_or t 111 0)
  discoveries-told = all_told t 6 discovery 104 (λ n. unfold seat_of in refl) (λ n a s. discovery-among t n a s) (count_at t 111) (counted 111 tt (unfold control in refl))

  -- the reads say what the table means
  pub told-all : told t ≡ meaning t
  unfolding told meaning read_body
  told-all = rw (oem-told, header-told, host-told, hfis-told, ssnss-told, securities-told, discoveries-told) refl

  -- in it each object is what the object call reads, ended again where that is a text
  pub object-again : (k n q : ℕ) → object_in t k n q ≡ again (content_at q (layout_of k).refs) (read_place t k n q).present (read_object t k n q)
  unfolding object_in
  object-again k n q = read_again t b ok.good k n q
