-- The object call reads what the meaning of an accepted table says, of every record and heap record, text without its terminator. Assumes nothing.
use Rattle.std.proofs.Math.Path.{◌≡◌, refl, ap, subst}
use Rattle.std.proofs.Common.{sym, ◌∙◌, eq-eqb, le-leb, leb-true, leb-false}
use Rattle.std.specs.Prelude.{Bool, true, false, not, ◌&&◌, length, drop, T, leb, eqb}
use mathlib.Core.List.{List, [], ◌∷◌}
use Prim.Native.Nat.{ℕ, zero, suc, ◌+◌, ◌-◌, ◌*◌, ◌≤◌, ◌<◌}
use native.Mathlib.Omega.{arith}
use Rattle.std.proofs.Math.ListN.{get_or}
use Rattle.table.specs.declared.Answer.{Answer}
use Rattle.table.specs.declared.Region.{Region}
use Rattle.table.specs.declared.Need.{Need}
use Rattle.table.specs.declared.Need.TheVariants.{Ignored, Optional, Required}
use Rattle.table.specs.declared.Place.{Place}
use Rattle.table.specs.Bytes.{num, part, pick}
use Rattle.table.specs.Layout.{Content, Entry, Env, Layout, Refs, Slots, anything, bytes, env, gone, image, is_valid, rec, slot_at, positions, text, unused, used}
use Rattle.table.specs.FixedLayouts.{discovery, extended, hfi, hfi_extended, host, info, list_kinds, security, ssns}
use Rattle.table.specs.Objects.{count_in, read_body, read_entry, read_list, read_slots, under}
use Rattle.table.specs.Rules.{answer, done, first_of, is_sound, nest_rule, plain_rule, ref_rule, refs_rule}
use Rattle.table.specs.Meaning.{Meaning, meaning}
use Rattle.table.specs.Numbers.{check, heap_in}
use Rattle.table.specs.Reads.{Seat, content_at, handed, has_plain, heap_seat, list_seat, need_at, no_place, place_at, read_object, read_place, seat, seat_of}
use Rattle.table.specs.Builder.{ended, may_have, told_image, told_slots}
use Rattle.laws.specs.AcceptedMeaning.{ListPasses, discovery-passes, heap-in, hfi-passes, host-passes, list-refs, security-passes, ssns-passes}
use Rattle.laws.specs.Kept.{unused-not}
use Rattle.laws.specs.Sound.{first-of}
use Rattle.laws.specs.RefWalk.{distinct_refs, nest_at, plain-alone}
use Rattle.laws.specs.TextLaws.{absent-slot, bare, object-read, present-slot, told_back, told-slot}
use Rattle.laws.specs.Said.{Held, Inner, Nests, Reads, Says, Tells, extended_of, held_at, here, holding, identity_of, info_of, is_there, lacking, nests_in, of_discovery, of_hfi, of_host, of_inner, of_security, of_ssns, past, told_held}

-- ---- the heap record of a record: as it is read, as it is told, and its own references

module _ {p : ℕ} {h : Layout} where
  pub read_held : {rs : Refs} (w : Nests p h rs) (t : List ℕ) (a : ℕ) (img : List ℕ) → let off = num t (a + p) 4 in let x = image h.shape.keep (drop off t) in
      held_at w (read_slots t a img rs) ≡ under (need_at p rs img) lacking (pick (eqb (num t (a + p + 4) 2) 0) lacking (holding x (read_slots t off x h.refs)))
  unfolding held_at read_slots
  read_held (here {need = need} {rest = rest}) t a img = rw (eq-eqb p p refl) (go (need img) (eqb (num t (a + p + 4) 2) 0))
    where
      x : List ℕ
      x = image h.shape.keep (drop (num t (a + p) 4) t)

      own : Slots h.refs
      own = read_slots t (num t (a + p) 4) (image h.shape.keep (drop (num t (a + p) 4) t)) h.refs

      go : (m : Need) (c : Bool)
          → held_at {p = p} {h = h} (here {need = need} {rest = rest}) (under m (gone (read_slots t a img rest)) (pick c (gone (read_slots t a img rest)) (rec x own (read_slots t a img rest))))
          ≡ under m lacking (pick c lacking (holding x own))
      go Ignored c = refl
      go Optional true = refl
      go Optional false = refl
      go Required true = refl
      go Required false = refl
  read_held (past e w) t a img = rw e (read_held w t a img)

  pub told-held : {rs : Refs} (w : Nests p h rs) (n : ℕ) (img : List ℕ) (ss : Slots rs) → held_at w (told_slots n img ss) ≡ under (need_at p rs img) lacking (told_held n (held_at w ss))
  unfolding held_at told_slots told_held
  told-held (here {need = need} {rest = rest}) n img (gone ss) = rw (eq-eqb p p refl) (go (need img))
    where
      go : (m : Need) → ◌≡◌ {A = Held h} lacking (under m lacking lacking)
      go Ignored = refl
      go Optional = refl
      go Required = refl
  told-held (here {need = need} {rest = rest}) n img (rec x own ss) = rw (eq-eqb p p refl) (go (need img))
    where
      y : List ℕ
      y = told_image h.shape n x

      go : (m : Need)
          → held_at {p = p} {h = h} (here {need = need} {rest = rest}) (under m (gone (told_slots n img ss)) (rec y (told_slots n y own) (told_slots n img ss)))
          ≡ under m lacking (holding y (told_slots n y own))
      go Ignored = refl
      go Optional = refl
      go Required = refl
  told-held (past e w) n img (bytes b ss) = rw e (told-held w n img ss)

  -- where the references of a record pass and it has the heap record, that one's pass
  pub inner-passes : {rs : Refs} (w : Nests p h rs) (heap : Region) (e : Env) (t : List ℕ) (a : ℕ) (img : List ℕ) → refs_rule heap e t a img rs ≡ 0 → T (may_have (need_at p rs img))
      → eqb (num t (a + p + 4) 2) 0 ≡ false → let off = num t (a + p) 4 in refs_rule heap e t off (image h.shape.keep (drop off t)) h.refs ≡ 0
  unfolding refs_rule
  inner-passes (here {need = need} {rest = rest}) heap e t a img z m f =
      let u = first-of (nest_rule heap (need img) h.shape e img t (a + p) inner) (refs_rule heap e t a img rest) z in
      let v = first-of (ref_rule heap (need img) (num t (a + p) 4) (num t (a + p + 4) 2)) (under (need img) 0 (pick (eqb (num t (a + p + 4) 2) 0) 0 (first_of sound inner))) u.0 in
      go (need img) (eqb (num t (a + p + 4) 2) 0) f (rw (eq-eqb p p refl) at m) v.1
    where
      inner : ℕ
      inner = refs_rule heap e t (num t (a + p) 4) (image h.shape.keep (drop (num t (a + p) 4) t)) h.refs

      sound : ℕ
      sound = pick (leb (length h.shape.keep) (num t (a + p + 4) 2) && is_sound h.shape e img (image h.shape.keep (drop (num t (a + p) 4) t))) 0 12

      go : (n : Need) (d : Bool) → d ≡ false → T (may_have n) → under n 0 (pick d 0 (first_of sound inner)) ≡ 0 → inner ≡ 0
      go Ignored d g k y = absurd k
      go Optional true g k y = absurd (subst (λ (x : Bool). T x) g tt)
      go Required true g k y = absurd (subst (λ (x : Bool). T x) g tt)
      go Optional false g k y = (first-of sound inner y).1
      go Required false g k y = (first-of sound inner y).1
  inner-passes (past {p' = p'} {need = need} {content = content} {rest = rest} d w) heap e t a img z m f =
      inner-passes w heap e t a img (first-of (plain_rule heap (need img) content e t (a + p')) (refs_rule heap e t a img rest) z).1 (rw d at m) f

-- ---- a record, where it stands

-- At seat s a used record of kind l stands in the table, with that image and those objects, and its references pass
pub record Occupied (t : List ℕ) (s : Seat) (l : Layout) (img : List ℕ) (ss : Slots l.refs) : Type 0 where
  pub place : ℕ
  pub seated : s ≡ seat l place true
  pub imaged : image l.shape.keep (drop place t) ≡ img
  pub slotted : read_slots t place (image l.shape.keep (drop place t)) l.refs ≡ ss
  pub around : Env
  pub passes : refs_rule (heap_in t) around t place (image l.shape.keep (drop place t)) l.refs ≡ 0

-- what a held record is
module _ {h : Layout} where
  lacks : {x : List ℕ} {own : Slots h.refs} → ◌≡◌ {A = Held h} lacking (holding x own) → ⊥
  lacks e = subst (λ (y : Held h). T (there y)) (sym e) tt
    where
      there : Held h → Bool
      there lacking = false
      there (holding y os) = true

  holds : {x y : List ℕ} {own os : Slots h.refs} → ◌≡◌ {A = Held h} (holding x own) (holding y os) → (x ≡ y) × (own ≡ os)
  holds {x} {y} {own} {os} e = (ap bytes_in e, ap slots_in e)
    where
      bytes_in : Held h → List ℕ
      bytes_in lacking = []
      bytes_in (holding z zs) = z

      slots_in : Held h → Slots h.refs
      slots_in lacking = own
      slots_in (holding z zs) = zs

-- and what a used entry is
module _ {l : Layout} where
  is-used : {img : List ℕ} {ss : Slots l.refs} (c : Bool) (x : List ℕ) (xs : Slots l.refs) → pick {X = Entry l} c (used x xs) unused ≡ used img ss → (c ≡ true) × (x ≡ img) × (xs ≡ ss)
  is-used true x xs e = (refl, ap image_in e, ap slots_in e)
    where
      image_in : Entry l → List ℕ
      image_in unused = []
      image_in (used y ys) = y

      slots_in : Entry l → Slots l.refs
      slots_in unused = xs
      slots_in (used y ys) = ys
  is-used false x xs e = absurd (unused-not e)

-- so it is with the heap record that it holds
heap-occupied : {p : ℕ} {l h : Layout} {img x : List ℕ} {ss : Slots l.refs} {own : Slots h.refs} (t : List ℕ) (s : Seat) (w : Nests p h l.refs) → Occupied t s l img ss
    → held_at w ss ≡ holding x own → Occupied t (heap_seat h p t s) h x own
heap-occupied {p} {l} {h} {img} {x} {ss} {own} t s w o e =
    go (need_at p l.refs whole) refl (eqb (num t (a + p + 4) 2) 0) refl (sym (read_held w t a whole) ∙ ap (held_at w) o.slotted ∙ e)
  where
    a : ℕ
    a = o.place

    whole : List ℕ
    whole = image l.shape.keep (drop o.place t)

    off : ℕ
    off = num t (o.place + p) 4

    inner : List ℕ
    inner = image h.shape.keep (drop (num t (o.place + p) 4) t)

    objects : Slots h.refs
    objects = read_slots t (num t (o.place + p) 4) (image h.shape.keep (drop (num t (o.place + p) 4) t)) h.refs

    there : T (may_have (need_at p l.refs whole)) → heap_seat h p t (seat l a true) ≡ seat h off true → eqb (num t (a + p + 4) 2) 0 ≡ false
        → ◌≡◌ {A = Held h} (holding inner objects) (holding x own) → Occupied t (heap_seat h p t s) h x own
    there m g k f = record {
      place = off;
      seated = ap (heap_seat h p t) o.seated ∙ g;
      imaged = (holds f).0;
      slotted = (holds f).1;
      around = o.around;
      passes = inner-passes w (heap_in t) o.around t a whole o.passes m k;
    }

    go : (m : Need) → need_at p l.refs whole ≡ m → (c : Bool) → eqb (num t (a + p + 4) 2) 0 ≡ c
        → ◌≡◌ {A = Held h} (under m lacking (pick c lacking (holding inner objects))) (holding x own) → Occupied t (heap_seat h p t s) h x own
    go Ignored g c k f = absurd (lacks f)
    go Optional g true k f = absurd (lacks f)
    go Required g true k f = absurd (lacks f)
    go Optional g false k f = there (rw g tt) (rw (g, k) refl) k f
    go Required g false k f = there (rw g tt) (rw (g, k) refl) k f

-- the seat of a heap record
inner-seat : (t : List ℕ) {k p k' : ℕ} {l h : Layout} → Inner k l p h k' → (n : ℕ) → seat_of t k' n ≡ heap_seat h p t (seat_of t k n)
unfolding seat_of
inner-seat t info_of n = refl
inner-seat t extended_of n = refl
inner-seat t identity_of n = refl

-- the references of what a meaning speaks of have distinct offsets
inner-distinct : {k p k' : ℕ} {l h : Layout} → Inner k l p h k' → T (distinct_refs h.refs)
unfolding info extended hfi_extended
inner-distinct info_of = tt
inner-distinct extended_of = tt
inner-distinct identity_of = tt

said-distinct : {m : Meaning} {k n : ℕ} {l : Layout} {img : List ℕ} {ss : Slots l.refs} → Says m k n l img ss → T (distinct_refs l.refs)
unfolding host hfi ssns security discovery
said-distinct (of_host e) = tt
said-distinct (of_hfi e) = tt
said-distinct (of_ssns e) = tt
said-distinct (of_security e) = tt
said-distinct (of_discovery e) = tt
said-distinct (of_inner i r e) = inner-distinct i

said-alone : {m : Meaning} {k n : ℕ} {l : Layout} {img : List ℕ} {ss : Slots l.refs} → Says m k n l img ss → (q : ℕ) → T (has_plain q l.refs) → T (not (nest_at q l.refs))
said-alone {l = l} r q h = plain-alone q l.refs (said-distinct r) h

-- a told object is there exactly where it is kept
kept_there : (m : Need) (c : Content) (x : List ℕ) → is_there (under m [] (ended c x)) ≡ is_there (under m [] x)
kept_there Ignored c x = refl
kept_there Optional anything x = refl
kept_there Required anything x = refl
kept_there Optional positions x = refl
kept_there Required positions x = refl
kept_there Optional text [] = refl
kept_there Required text [] = refl
kept_there Optional text (y ∷ ys) = refl
kept_there Required text (y ∷ ys) = refl

-- ---- an accepted table

module _ (t : List ℕ) (b : (i : ℕ) → get_or t i 0 < 256) (ok : check t ≡ done) where
  -- of such a record the object call reads the slot, without the terminator of a text
  module _ (l : Layout) (img : List ℕ) (ss : Slots l.refs) (q : ℕ) (h : T (has_plain q l.refs)) (alone : T (not (nest_at q l.refs))) where
    record Given (s : Seat) : Type 0 where
      answer : (place_at t q s).answer ≡ done
      object : part t (place_at t q s).at (place_at t q s).len ≡ bare (content_at q l.refs) (slot_at q ss)
      present : (place_at t q s).present ≡ is_there (slot_at q ss)

    given : (s : Seat) → Occupied t s l img ss → Given s
    given s o = subst Given (sym o.seated) (record {
      answer = answers (content_at q l.refs) (has_plain q l.refs) h (need_at q l.refs whole) (eqb (num t (a + q + 4) 2) 0);
      object = object-read t l a q h alone (heap_in t) o.around (heap-in t b ok) o.passes ∙ ap (λ (x : Slots l.refs). bare (content_at q l.refs) (slot_at q x)) o.slotted;
      present = thereby (place_at t q (seat l a true)).present (slot_at q (read_slots t a whole l.refs))
          (present-slot t l a q h alone (heap_in t) o.around (heap-in t b ok) o.passes) (absent-slot t l a q h alone (heap_in t) o.around (heap-in t b ok) o.passes)
          ∙ ap (λ (x : Slots l.refs). is_there (slot_at q x)) o.slotted;
    })
      where
        a : ℕ
        a = o.place

        whole : List ℕ
        whole = image l.shape.keep (drop o.place t)

        there : Place
        there = record { answer = done; present = true; at = num t (a + q) 4; len = num t (a + q + 4) 2 }

        answers : (x : Content) (c : Bool) → T c → (m : Need) (d : Bool) → (handed x (pick c (under m (no_place done) (pick d (no_place done) there)) (no_place (answer 16 0 0)))).answer ≡ done
        answers x false k m d = absurd k
        answers anything true k Ignored d = refl
        answers anything true k Optional true = refl
        answers anything true k Optional false = refl
        answers anything true k Required true = refl
        answers anything true k Required false = refl
        answers positions true k Ignored d = refl
        answers positions true k Optional true = refl
        answers positions true k Optional false = refl
        answers positions true k Required true = refl
        answers positions true k Required false = refl
        answers text true k Ignored d = refl
        answers text true k Optional true = refl
        answers text true k Optional false = refl
        answers text true k Required true = refl
        answers text true k Required false = refl

        thereby : (c : Bool) (x : List ℕ) → (T c → x ≡ [] → ⊥) → (T (not c) → x ≡ []) → c ≡ is_there x
        thereby true [] f g = absurd (f tt refl)
        thereby true (y ∷ ys) f g = refl
        thereby false [] f g = refl
        thereby false (y ∷ ys) f g = absurd (omega (arith, ap length (g tt)))

  -- ---- records by kind and position

  module _ (l : Layout) where
    read_at : (n a step i : ℕ) → i < n → get_or (read_list l t a step n) i unused ≡ read_entry l t (a + i * step)
    unfolding read_list
    read_at zero a step i k = absurd (omega arith)
    read_at (suc n) a step zero k = let e : a ≡ a + 0 * step = omega arith in ap (read_entry l t) e
    read_at (suc n) a step (suc i) k = let e : a + step + i * step ≡ a + suc i * step = omega arith in read_at n (a + step) step i (omega arith) ∙ ap (read_entry l t) e

    read_behind : (n a step i : ℕ) → n ≤ i → get_or (read_list l t a step n) i unused ≡ unused
    unfolding read_list
    read_behind zero a step i k = refl
    read_behind (suc n) a step zero k = absurd (omega arith)
    read_behind (suc n) a step (suc i) k = read_behind n (a + step) step i (omega arith)

  -- an entry of a list whose entry in the control record is at c
  list-occupied : (l : Layout) (c : ℕ) → ListPasses t b ok l c → (i : ℕ) (img : List ℕ) (ss : Slots l.refs)
      → get_or (read_list l t (num t c 4) (num t (c + 4) 2) (get_or t (c + 7) 0)) i unused ≡ used img ss → Occupied t (list_seat l t c (suc i)) l img ss
  unfolding read_entry
  list-occupied l c p i img ss e = go (leb (suc i) (get_or t (c + 7) 0)) refl
    where
      n : ℕ
      n = get_or t (c + 7) 0

      a : ℕ
      a = num t c 4 + i * num t (c + 4) 2

      x : List ℕ
      x = image l.shape.keep (drop (num t c 4 + i * num t (c + 4) 2) t)

      go : (d : Bool) → leb (suc i) n ≡ d → Occupied t (list_seat l t c (suc i)) l img ss
      go false f =
          let k : n < suc i = leb-false (suc i) n f in
          absurd (unused-not (sym (read_behind l n (num t c 4) (num t (c + 4) 2) i (omega arith)) ∙ e))
      go true f =
          let k : suc i ≤ n = leb-true (suc i) n f in
          let one : suc i - 1 ≡ i = omega arith in
          let u = is-used (is_valid l.shape x) x (read_slots t a x l.refs) (sym (read_at l n (num t c 4) (num t (c + 4) 2) i (omega arith)) ∙ e) in
          record {
            place = a;
            seated = rw (one, le-leb 1 (suc i) (omega arith), f, u.0) refl;
            imaged = u.1;
            slotted = u.2;
            around = env p.counts (1 + i);
            passes = list-refs t b ok l c p i (omega arith) (rw u.0 tt);
          }

  -- whatever the meaning says is found in the table
  said-occupied : {k n : ℕ} {l : Layout} {img : List ℕ} {ss : Slots l.refs} → Says (meaning t) k n l img ss → Occupied t (seat_of t k n) l img ss
  unfolding seat_of meaning read_body read_entry
  said-occupied (of_host e) =
      let a : ℕ = num t 72 4 in
      let x : List ℕ = image host.shape.keep (drop a t) in
      let u = is-used (is_valid host.shape x) x (read_slots t a x host.refs) e in
      record { place = a; seated = refl; imaged = u.1; slotted = u.2; around = env (count_in (read_body list_kinds t 80)) 0; passes = host-passes t b ok }
  said-occupied (of_hfi {i = i} {img = img} {ss = ss} e) = list-occupied hfi 80 (hfi-passes t b ok) i img ss e
  said-occupied (of_ssns {i = i} {img = img} {ss = ss} e) = list-occupied ssns 88 (ssns-passes t b ok) i img ss e
  said-occupied (of_security {i = i} {img = img} {ss = ss} e) = list-occupied security 96 (security-passes t b ok) i img ss e
  said-occupied (of_discovery {i = i} {img = img} {ss = ss} e) = list-occupied discovery 104 (discovery-passes t b ok) i img ss e
  said-occupied (of_inner {k = k} {n = n} {h = h} {x = x} {own = own} i r e) =
      subst (λ (s : Seat). Occupied t s h x own) (sym (inner-seat t i n)) (heap-occupied t (seat_of t k n) (nests_in i) (said-occupied r) e)

  -- and so it is read
  pub said-reads : {k n : ℕ} {l : Layout} {img : List ℕ} {ss : Slots l.refs} → Says (meaning t) k n l img ss → (q : ℕ) → T (has_plain q l.refs)
      → Reads t k n q (bare (content_at q l.refs) (slot_at q ss)) (is_there (slot_at q ss))
  unfolding read_place read_object
  said-reads {k} {n} {l} {img} {ss} r q h =
      let g = given l img ss q h (said-alone r q h) (seat_of t k n) (said-occupied r) in
      let e : read_place t k n q ≡ place_at t q (seat_of t k n) = ap (λ (a : Answer). pick (eqb a.number 0) (place_at t q (seat_of t k n)) (no_place a)) ok in
      record {
        answered = ap (λ (x : Place). x.answer) e ∙ g.answer;
        bytes_are = ap (λ (x : Place). part t x.at x.len) e ∙ g.object;
        present_is = ap (λ (x : Place). x.present) e ∙ g.present;
      }

  -- in the words of the caller: what was told and is not ignored; what was told empty is absent
  pub told-reads : {k n : ℕ} {l : Layout} (x : List ℕ) (told : Slots l.refs) → Tells (meaning t) k n l x told → (q : ℕ) → T (has_plain q l.refs)
      → let y = under (need_at q l.refs (told_image l.shape n x)) [] (slot_at q told) in Reads t k n q y (is_there y)
  told-reads {k} {n} {l} x told r q h =
      let img : List ℕ = told_image l.shape n x in
      let alone = said-alone r q h in
      let g = said-reads r q h in
      record {
        answered = g.answered;
        bytes_are = g.bytes_are ∙ told_back n img told q alone;
        present_is = g.present_is ∙ ap is_there (told-slot n img told q alone) ∙ kept_there (need_at q l.refs img) (content_at q l.refs) (slot_at q told);
      }

-- a heap record that was told, and is not ignored, is told as a record is
pub tells-inner : (m : Meaning) {k n p k' : ℕ} {l h : Layout} (x : List ℕ) (told : Slots l.refs) → Tells m k n l x told → (i : Inner k l p h k') (y : List ℕ) (own : Slots h.refs)
    → held_at (nests_in i) told ≡ holding y own → T (may_have (need_at p l.refs (told_image l.shape n x))) → Tells m k' n h y own
unfolding told_held
tells-inner m {n = n} {p = p} {l = l} {h = h} x told r i y own e k =
    of_inner i r
    (told-held (nests_in i) n (told_image l.shape n x) told
    ∙ counted (need_at p l.refs (told_image l.shape n x)) k (told_held n (held_at (nests_in i) told))
    ∙ ap (told_held n) e)
  where
    counted : (need : Need) → T (may_have need) → (z : Held h) → under need lacking z ≡ z
    counted Ignored k z = absurd k
    counted Optional k z = refl
    counted Required k z = refl
