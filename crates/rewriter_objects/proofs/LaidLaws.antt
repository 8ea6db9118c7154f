-- Laws of what is laid: stores into a record, references and what they name one behind the other. Assumes nothing.
use mathlib.Core.Path.{◌≡◌, refl, sym, ap, ap₂, subst, ◌∙◌}
use mathlib.Core.Bool.{true, false}
use mathlib.Core.List.{List, [], ◌∷◌, ◌++◌, append-nil}
use Prim.Native.Nat.{ℕ, suc, ◌+◌, ◌≤◌, ◌<◌}
use native.Mathlib.Nat.{add-zero}
use native.Mathlib.Numerals.{add-one}
use native.Mathlib.Omega.{arith}
use lib.ListN.{length, get_or, drop, length-drop, length-append, get_or-append}
use lib.Seq.{drop-cons, drop-length, get_or-drop}
use Rattle.table.specs.Bytes.{splice, part, Edit, apply}
use Rattle.table.specs.Layout.{base_of}
use Rattle.table.specs.FixedLayouts.{layout_of}
use Rattle.table.specs.Objects.{size_of, stores, patched, heap_of}
use Rattle.table.specs.Reads.{seat, has_plain, whole_at}
use Rattle.laws.specs.ByteLaws.{length-splice}
use Rattle.laws.specs.Fields.{image_in, length-image_in}
use Rattle.laws.specs.ListWalk.{refs-within}
use Rattle.bytes_writer.specs.Stores.{ref_num}
use Rattle.bytes_writer.proofs.StoreLaws.{splice-join, splice-none, splice-swap, splice-inside}
use Rattle.bytes_writer.proofs.RecordLaws.{length-ref}
use Rattle.reader.specs.Accepted.{Accepted}
use Rattle.reads_seats.specs.Seats.{Seated, found, heap_record}
use Rattle.reads_seats.specs.Told.{inner_kind}
use Rattle.reads_seats.proofs.SlotLaws.{object_at}
use Rattle.rewriter_sizes.specs.Parts.{Part, refs_of, objects_of, held_of, slots_in, part_at, record_part, bytes_at, record_bytes, spans_over, stores_over, objects_over}
use Rattle.reads_seats.proofs.ReferenceLaws.{refs-split}
use Rattle.rewriter_sizes.proofs.PartLaws.{stored-all, heaped-all, plain-part, nest-part, plain-bytes, nest-bytes, refs-objects, spans-more, spans-done, spans-held, sized-split}
use Rattle.rewriter_sizes.proofs.LengthLaws.{patched-long, bytes-long}
use Rattle.rewriter_objects.specs.Laid.{laid, apply_at, named, laid_over}

-- ---- stores into a record that is laid

-- stores that end at m or before
abbrev Below : ℕ → List Edit → Type 0
Below m [] = 0 ≤ m
Below m (e ∷ es) = (e.at + length e.put ≤ m) × Below m es

length_at : (es : List Edit) (x : List ℕ) (d m : ℕ) → Below m es → d + m ≤ length x → length (apply_at x d es) ≡ length x
unfolding apply_at
length_at [] x d m b h = refl
length_at (e ∷ es) x d m b h =
    let l : length (splice x (d + e.at) e.put) ≡ length x = length-splice x (d + e.at) e.put (omega (arith, b.0)) in
    length_at es (splice x (d + e.at) e.put) d m b.1 (omega (arith, l)) ∙ l

-- what stands behind the record can be laid before or after
at-swap : (es : List Edit) (x : List ℕ) (d m u : ℕ) (g : List ℕ) → Below m es → d + m ≤ u → u + length g ≤ length x → apply_at (splice x u g) d es ≡ splice (apply_at x d es) u g
unfolding apply_at
at-swap [] x d m u g b h k = refl
at-swap (e ∷ es) x d m u g b h k =
    let l : length (splice x (d + e.at) e.put) ≡ length x = length-splice x (d + e.at) e.put (omega (arith, b.0)) in
    ap (λ (y : List ℕ). apply_at y d es) (splice-swap x (d + e.at) e.put u g (omega (arith, b.0)) k)
    ∙ at-swap es (splice x (d + e.at) e.put) d m u g b.1 h (omega (arith, l))

-- stores into a record y that was laid are those into y
at-inside : (es : List Edit) (x : List ℕ) (d : ℕ) (y : List ℕ) → Below (length y) es → d + length y ≤ length x → apply_at (splice x d y) d es ≡ splice x d (apply y es)
unfolding apply_at
at-inside [] x d y b h = refl
at-inside (e ∷ es) x d y b h =
    let l : length (splice y e.at e.put) ≡ length y = length-splice y e.at e.put b.0 in
    ap (λ (z : List ℕ). apply_at z d es) (splice-inside x d y e.at e.put b.0 h)
    ∙ at-inside es x d (splice y e.at e.put) (subst (λ (n : ℕ). Below n es) (sym l) b.1) (omega (arith, l))

-- ---- the references of a record, one behind the other

module _ (t : List ℕ) (k a : ℕ) where
  stores-below : (qs : List ℕ) (m : ℕ) → ((i : ℕ) → i < length qs → get_or qs i 0 + 6 ≤ m) → (h : ℕ) → Below m (stores_over t k a h qs)
  unfolding stores_over
  stores-below [] m f h = omega arith
  stores-below (q ∷ qs) m f h =
      let l : length (ref_num h (part_at t k a q).len) ≡ 6 = length-ref h (part_at t k a q).len in
      let g : q + 6 ≤ m = f 0 (omega arith) in
      (omega (arith, l, g), stores-below qs m (λ i b. f (suc i) (omega arith)) (h + (part_at t k a q).span))

  abbrev base : ℕ
  base = base_of (layout_of k)

  -- the references at ps stand in a record of kind k
  abbrev pub Within : List ℕ → Type 0
  Within ps = (i : ℕ) → i < length ps → get_or ps i 0 + 6 ≤ base

  within-rest : (p : ℕ) (ps : List ℕ) → Within (p ∷ ps) → Within ps
  within-rest p ps f i h = f (suc i) (omega arith)

  pub within-drop : (ps : List ℕ) (n : ℕ) → Within ps → Within (drop n ps)
  within-drop ps n f i h = rw (get_or-drop n ps i 0) (f (n + i) (omega (arith, h, length-drop n ps)))

  abbrev over : List ℕ → ℕ → ℕ → List ℕ → List ℕ
  over x d h ps = laid_over x d h t k a ps

  -- a walk over the references at ps that began with x₀, and has laid those before number i
  abbrev pub Walk : List ℕ → List ℕ → ℕ → ℕ → List ℕ → ℕ → ℕ → Type 0
  Walk ps x₀ d u x h i = (h + spans_over t k a (drop i ps) ≡ u + spans_over t k a ps) × (u ≤ h) × (length x ≡ length x₀) × (over x d h (drop i ps) ≡ over x₀ d u ps)

  pub over_none : (x : List ℕ) (d h : ℕ) → over x d h [] ≡ x
  unfolding apply_at stores_over objects_over
  over_none x d h = sym (splice-none x h)

  -- the same of no references
  pub over-empty : (ps : List ℕ) → length ps ≡ 0 → (x : List ℕ) (d h : ℕ) → (h ≡ h + spans_over t k a ps) × (x ≡ over x d h ps)
  unfolding spans_over
  over-empty [] e x d h = (sym (add-zero h), sym (over_none x d h))
  over-empty (p ∷ ps) e x d h = absurd (omega (arith, e))

  pub over-one : (x : List ℕ) (d h p : ℕ) → over x d h (p ∷ []) ≡ laid x (d + p) (ref_num h (part_at t k a p).len) h (bytes_at t k a h p)
  unfolding apply_at stores_over objects_over
  over-one x d h p = ap (splice (splice x (d + p) (ref_num h (part_at t k a p).len)) h) (append-nil (bytes_at t k a h p))

module _ (t : List ℕ) (ok : Accepted t) (k a : ℕ) (s : Seated t (layout_of k) a true) where
  -- one more: y is what the reference at p left of x
  over-more : (p : ℕ) (ps : List ℕ) → Within t k a (p ∷ ps) → (x y : List ℕ) (d h u : ℕ) → let w = (part_at t k a p).span in
      d + base t k a ≤ h → h + w ≤ length x → u ≡ h + w → y ≡ laid x (d + p) (ref_num h (part_at t k a p).len) h (bytes_at t k a h p) → over t k a y d u ps ≡ over t k a x d h (p ∷ ps)
  unfolding apply_at stores_over objects_over
  over-more p ps f x y d h u below room eu ey =
      let w : ℕ = (part_at t k a p).span in
      let r : List ℕ = ref_num h (part_at t k a p).len in
      let x₁ : List ℕ = splice x (d + p) r in
      let es : List Edit = stores_over t k a (h + w) ps in
      let os : List ℕ = objects_over t k a (h + w) ps in
      let lr : length r ≡ 6 = length-ref h (part_at t k a p).len in
      let lb : length (bytes_at t k a h p) ≡ w = bytes-long t ok k a s h p in
      let wi : p + 6 ≤ base t k a = f 0 (omega arith) in
      let l₁ : length x₁ ≡ length x = length-splice x (d + p) r (omega (arith, lr, wi)) in
      let be = stores-below t k a ps (base t k a) (within-rest t k a p ps f) (h + w) in
      let l₂ : length (apply_at x₁ d es) ≡ length x₁ = length_at es x₁ d (base t k a) be (omega (arith, l₁)) in
      ap₂ (λ (v : ℕ) (z : List ℕ). over t k a z d v ps) eu ey
      ∙ ap (λ (z : List ℕ). splice z (h + w) os) (at-swap es x₁ d (base t k a) h (bytes_at t k a h p) be below (omega (arith, l₁, lb)))
      ∙ ap (λ (v : ℕ). splice (splice (apply_at x₁ d es) h (bytes_at t k a h p)) (h + v) os) (sym lb)
      ∙ splice-join (apply_at x₁ d es) h (bytes_at t k a h p) os (omega (arith, l₁, l₂, lb))

  -- those at ps, and behind them those at qs
  over-join : (ps qs : List ℕ) → Within t k a (ps ++ qs) → (x : List ℕ) (d h : ℕ) → d + base t k a ≤ h → h + spans_over t k a ps ≤ length x
      → over t k a (over t k a x d h ps) d (h + spans_over t k a ps) qs ≡ over t k a x d h (ps ++ qs)
  unfolding spans_over
  over-join [] qs f x d h below room = ap₂ (λ (y : List ℕ) (u : ℕ). over t k a y d u qs) (over_none t k a x d h) (add-zero h)
  over-join (p ∷ ps) qs f x d h below room =
      let w : ℕ = (part_at t k a p).span in
      let r : List ℕ = ref_num h (part_at t k a p).len in
      let x₁ : List ℕ = laid x (d + p) r h (bytes_at t k a h p) in
      let lr : length r ≡ 6 = length-ref h (part_at t k a p).len in
      let lb : length (bytes_at t k a h p) ≡ w = bytes-long t ok k a s h p in
      let wi : p + 6 ≤ base t k a = f 0 (omega arith) in
      let l₀ : length (splice x (d + p) r) ≡ length x = length-splice x (d + p) r (omega (arith, lr, wi)) in
      let l₁ : length x₁ ≡ length x = length-splice (splice x (d + p) r) h (bytes_at t k a h p) (omega (arith, lb, l₀)) ∙ l₀ in
      let g : Within t k a (p ∷ ps) = λ i b. subst (λ (n : ℕ). n + 6 ≤ base t k a) (get_or-append (p ∷ ps) qs 0 i b) (f i (omega (arith, b, length-append (p ∷ ps) qs))) in
      let e : h + (w + spans_over t k a ps) ≡ h + w + spans_over t k a ps = omega arith in
      ap₂ (λ (y : List ℕ) (u : ℕ). over t k a y d u qs) (sym (over-more p ps g x x₁ d h (h + w) below (omega arith) refl refl)) e
      ∙ over-join ps qs (within-rest t k a p (ps ++ qs) f) x₁ d (h + w) (omega arith) (omega (arith, l₁))
      ∙ over-more p (ps ++ qs) f x x₁ d h (h + w) below (omega arith) refl refl

  -- all of them
  over-all : (x : List ℕ) (d h : ℕ) → over t k a x d h (refs_of k) ≡ named x d h (slots_in (layout_of k) t a)
  over-all x d h = ap₂ (λ (es : List Edit) (g : List ℕ). splice (apply_at x d es) h g) (sym (stored-all t ok k a s h)) (sym (heaped-all t ok k a s h))

  -- the objects first, then the heap record
  pub named-join : (x : List ℕ) (d h : ℕ) → d + base t k a ≤ h → h + spans_over t k a (objects_of k) ≤ length x
      → over t k a (over t k a x d h (objects_of k)) d (h + spans_over t k a (objects_of k)) (held_of k) ≡ named x d h (slots_in (layout_of k) t a)
  named-join x d h below room =
      over-join (objects_of k) (held_of k) (subst (Within t k a) (refs-split k) (refs-within k)) x d h below room
      ∙ ap (over t k a x d h) (sym (refs-split k))
      ∙ over-all x d h

  -- the objects alone, where it names nothing else
  pub named-objects : held_of k ≡ [] → (x : List ℕ) (d h : ℕ) → over t k a x d h (objects_of k) ≡ named x d h (slots_in (layout_of k) t a)
  named-objects e x d h = ap (over t k a x d h) (sym (refs-objects k e)) ∙ over-all x d h

  pub objects-within : Within t k a (objects_of k)
  objects-within i b =
      let l = ap length (refs-split k) ∙ length-append (objects_of k) (held_of k) in
      let e = ap (λ (ps : List ℕ). get_or ps i 0) (refs-split k) ∙ get_or-append (objects_of k) (held_of k) 0 i b in
      subst (λ (n : ℕ). n + 6 ≤ base t k a) e (refs-within k i (omega (arith, b, l)))

  -- the heap record alone, whose reference stands at p
  pub over-held : (p : ℕ) → has_plain p (layout_of k).refs ≡ false → (x y : List ℕ) (d h r : ℕ) → let q = record_part t (inner_kind k) (heap_record t k a) in
      r ≡ h + q.span → y ≡ laid x (d + p) (ref_num h q.len) h (record_bytes t (inner_kind k) h (heap_record t k a))
      → (r ≡ h + spans_over t k a (p ∷ [])) × (y ≡ over t k a x d h (p ∷ []))
  over-held p e x y d h r er ey = (
    er ∙ ap (λ (n : ℕ). h + n) (sym (spans-held t ok k a s p e)),
    ey
        ∙ sym (over-one t k a x d h p
        ∙ ap₂ (λ (q : Part) (g : List ℕ). laid x (d + p) (ref_num h q.len) h g) (nest-part t ok k a s p e) (nest-bytes t ok k a s h p e)),
  )

  -- a walk over the references at ps: room for the next one's part, a turn, and its end
  module _ (ps : List ℕ) (f : Within t k a ps) where
    module _ (x₀ : List ℕ) (d u : ℕ) (low : d + base t k a ≤ u) (room : u + spans_over t k a ps ≤ length x₀) (x : List ℕ) (h i : ℕ) (w : Walk t k a ps x₀ d u x h i) where
      module _ (p : ℕ) (l : i < length ps) (o : p ≡ get_or ps i 0) where
        pub walk-room : (d + p + 6 ≤ h) × (h + (part_at t k a p).span ≤ length x)
        walk-room =
            let m = spans-more t k a ps i l in
            let v = ap (λ (q : ℕ). (part_at t k a q).span) o in
            (omega (arith, f i l, o, w.1), omega (arith, w.0, w.2, m, v))

        pub walk_turn : (y : List ℕ) (v : ℕ) → v ≡ h + (part_at t k a p).span → length y ≡ length x
            → y ≡ laid x (d + p) (ref_num h (part_at t k a p).len) h (bytes_at t k a h p) → Walk t k a ps x₀ d u y v (i + 1)
        walk_turn y v ev ly ey =
            let m = spans-more t k a ps i l in
            let e : drop i ps ≡ p ∷ drop (i + 1) ps = drop-cons ps i 0 l ∙ ap₂ (λ (q j : ℕ). q ∷ drop j ps) (sym o) (sym (add-one i)) in
            let g = ap (λ (q : ℕ). (part_at t k a q).span) o in (
              omega (arith, w.0, m, ev, g),
              omega (arith, ev, w.1),
              ly ∙ w.2,
              over-more p (drop (i + 1) ps) (subst (Within t k a) e (within-drop t k a ps i f)) x y d h v (omega (arith, w.1)) walk-room.1 ev ey
                  ∙ ap (over t k a x d h) (sym e)
                  ∙ w.3,
            )

      pub walk-done : i ≡ length ps → (h ≡ u + spans_over t k a ps) × (x ≡ laid_over x₀ d u t k a ps)
      walk-done e = (
        omega (arith, rw e at w.0, spans-done t k a ps),
        sym (ap (over t k a x d h) (ap (λ (n : ℕ). drop n ps) e ∙ drop-length ps) ∙ over_none t k a x d h) ∙ w.3,
      )

  -- a record: its image first
  pub record-laid : (x : List ℕ) (d h : ℕ) → d + base_of (layout_of k) ≤ length x
      → apply_at (splice x d (image_in (layout_of k) t a)) d (stores h (slots_in (layout_of k) t a)) ≡ splice x d (patched h (image_in (layout_of k) t a) (slots_in (layout_of k) t a))
  unfolding patched
  record-laid x d h room =
      let y : List ℕ = image_in (layout_of k) t a in
      let l : length y ≡ base_of (layout_of k) = length-image_in (layout_of k) t a in
      let e = stored-all t ok k a s h in
      at-inside (stores h (slots_in (layout_of k) t a)) x d y (subst (λ (es : List Edit). Below (length y) es) (sym e)
      (subst (λ (n : ℕ). Below n (stores_over t k a h (refs_of k))) (sym l) (stores-below t k a (refs_of k) (base t k a) (refs-within k) h))) (omega (arith, l))

  -- then its objects, then its heap record
  pub used-laid : (x y z v : List ℕ) (d h u : ℕ) → d + base t k a ≤ h → h + size_of (slots_in (layout_of k) t a) ≤ length x
      → y ≡ splice x d (image_in (layout_of k) t a) → u ≡ h + spans_over t k a (objects_of k) → z ≡ over t k a y d h (objects_of k) → v ≡ over t k a z d u (held_of k)
      → v ≡ laid x d (patched h (image_in (layout_of k) t a) (slots_in (layout_of k) t a)) h (heap_of h (slots_in (layout_of k) t a))
  used-laid x y z v d h u below room ey eu ez ev =
      let i : List ℕ = image_in (layout_of k) t a in
      let l : length y ≡ length x = ap length ey ∙ length-splice x d i (omega (arith, length-image_in (layout_of k) t a)) in
      ev
      ∙ ap₂ (λ (w : List ℕ) (n : ℕ). over t k a w d n (held_of k)) ez eu
      ∙ named-join y d h below (omega (arith, l, sized-split t ok k a s))
      ∙ ap (λ (w : List ℕ). named w d h (slots_in (layout_of k) t a)) ey
      ∙ ap (λ (w : List ℕ). splice w h (heap_of h (slots_in (layout_of k) t a))) (record-laid x d h (omega arith))

  -- ---- an object

  module _ (p : ℕ) (e : has_plain p (layout_of k).refs ≡ true) where
    pub object-laid : (xs : List ℕ) → xs ≡ object_at t k a p → (h : ℕ) → xs ≡ bytes_at t k a h p
    object-laid xs q h = q ∙ sym (plain-bytes t ok k a s h p e)

    module _ (len : ℕ) (q : len ≡ (whole_at t p (seat (layout_of k) a true)).len) where
      pub object-size : len ≡ (part_at t k a p).span
      object-size = q ∙ sym (ap (λ (x : Part). x.span) (plain-part t ok k a s p e))

      pub object-len : len ≡ (part_at t k a p).len
      object-len = q ∙ sym (ap (λ (x : Part). x.len) (plain-part t ok k a s p e))

      pub object-none : len ≡ 0 → (h : ℕ) → bytes_at t k a h p ≡ []
      object-none z h = plain-bytes t ok k a s h p e ∙ ap (part t (whole_at t p (seat (layout_of k) a true)).at) (sym q ∙ z)

  -- ---- a heap record with its objects behind it

  pub held-laid : (x z : List ℕ) (r h : ℕ) → let b = base_of (layout_of k) in
      r + 6 ≤ h → h + (b + size_of (slots_in (layout_of k) t a)) ≤ length x
      → z ≡ named (splice (splice x r (ref_num h b)) h (image_in (layout_of k) t a)) h (h + b) (slots_in (layout_of k) t a)
      → z ≡ laid x r (ref_num h (record_part t k (found a true)).len) h (record_bytes t k h (found a true))
  unfolding record_part record_bytes
  held-laid x z r h low room ez =
      let b : ℕ = base_of (layout_of k) in
      let x₁ : List ℕ = splice x r (ref_num h b) in
      let y : List ℕ = patched (h + b) (image_in (layout_of k) t a) (slots_in (layout_of k) t a) in
      let g : List ℕ = heap_of (h + b) (slots_in (layout_of k) t a) in
      let lx : length x₁ ≡ length x = length-splice x r (ref_num h b) (omega (arith, length-ref h b)) in
      let ly : length y ≡ b = patched-long t k a (h + b) in
      ez ∙ ap (λ (v : List ℕ). splice v (h + b) g) (record-laid x₁ h (h + b) (omega (arith, lx)))
      ∙ ap (λ (n : ℕ). splice (splice x₁ h y) (h + n) g) (sym ly)
      ∙ splice-join x₁ h y g (omega (arith, lx, ly))
