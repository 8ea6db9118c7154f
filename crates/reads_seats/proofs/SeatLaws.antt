-- In an accepted table each seat lies in the table, and the references of the record there pass. Assumes nothing.
use mathlib.Core.Path.{◌≡◌, refl, sym, ap, subst, ◌∙◌}
use mathlib.Core.Bool.{Bool, true, false, true≢false, ◌&&◌}
use mathlib.Core.List.{List}
use Prim.Native.Nat.{ℕ, ◌+◌, ◌-◌, ◌*◌, ◌/◌, ◌%◌, ◌≤◌, ◌<◌}
use native.Mathlib.Omega.{arith}
use lib.ListN.{length, get_or, drop}
use lib.Dec.{eqb, leb, leb→le, lit≤, lit<}
use mir.Facts.{and_yes}
use borrow.Author.Tests.{eqb-false}
use Rattle.table.specs.declared.Region.{Region}
use Rattle.table.specs.declared.Need.{Need}
use Rattle.table.specs.declared.Need.TheVariants.{Ignored, Optional, Required}
use Rattle.table.specs.Bytes.{pick, num}
use Rattle.table.specs.Layout.{Content, Env, Layout, Refs, Shape, base_of, image, is_valid, nest, plain}
use Rattle.table.specs.FixedLayouts.{layout_of, header, control, host, hfi, ssns, security, discovery, info, extended, hfi_extended, no_kind, when_set, when_is}
use Rattle.table.specs.Objects.{under}
use Rattle.table.specs.Rules.{first_of, ref_rule, plain_rule, nest_rule, refs_rule, is_sound}
use Rattle.table.specs.Numbers.{heap_in}
use Rattle.table.specs.Reads.{Seat, nowhere, seat, list_seat, heap_seat, seat_of}
use Rattle.laws.specs.Sound.{first-of, pick-of}
use Rattle.laws.specs.Fields.{image_in}
use Rattle.laws.specs.ListWalk.{env_in, flag_is}
use Rattle.reader_frame.specs.Bounds.{LaidOut}
use Rattle.reader_rules.proofs.HeapLaws.{Inside}
use Rattle.reader.specs.Accepted.{Accepted}
use Rattle.reader_indexes.specs.Indexes.{refs_fault}
use Rattle.reader_lists.proofs.Laws.{flags-stand}
use Rattle.reader.proofs.AcceptedLaws.{laid, driver-passes, host-passes, lists-pass, record-passes, record-in, used-passes, used-parts, required-in, optional-in}
use Rattle.layout_images.proofs.Laws.{by_kind, Other, other-layout}
use Rattle.reads_seats.specs.Seats.{found, as_seat, InTable, Seated, Standing, Listed, Good, Held, is_heaped, heap_at, extended_at, identity_at, heap_record}
use Rattle.reads_seats.specs.declared.seats.Seat as code
use Rattle.std.specs.Prelude.{Option, Some, None}
use Rattle.reads_seats.specs.Told.{inner_kind}

-- a record that is seated stands there
pub standing : (t : List ℕ) (l : Layout) (a : ℕ) (on : Bool) → Seated t l a on → Standing t l a
standing t l a on s = record { within = s.within; heaped = s.heaped; around = s.around; passes = λ e. absurd (true≢false (sym e)) }

pick_good : (t : List ℕ) (k : ℕ) (c : Bool) (s : Seat) → (c ≡ true → Good t k s) → Good t k (pick c s nowhere)
pick_good t k true s f = f refl
pick_good t k false s f = omega arith

-- an object in the heap is in the table
pub heap-object : (t : List ℕ) → LaidOut t → (off len : ℕ) → Inside (num t 36 4) (num t 40 4) off len → off + len ≤ length t
heap-object t l off len i = omega (arith, l.heap.heap-in (omega (arith, i)), i)

-- a reference that passes, counts, and has a length
pub ref-inside : (t : List ℕ) (n : Need) (off len : ℕ) → ref_rule (heap_in t) n off len ≡ 0 → (n ≡ Ignored → ⊥) → 0 < len → Inside (num t 36 4) (num t 40 4) off len
unfolding heap_in
ref-inside t Ignored off len e c h = absurd (c refl)
ref-inside t Optional off len e c h = optional-in (num t 36 4) (num t 40 4) off len e h
ref-inside t Required off len e c h = required-in (num t 36 4) (num t 40 4) off len e

-- ---- records of the lists

-- a list holds no heap records
list-kind : (k : ℕ) → 2 ≤ k → k ≤ 6 → is_heaped (layout_of k).kind ≡ true → ⊥
unfolding layout_of header control host hfi ssns security discovery info extended hfi_extended no_kind
list-kind =
    by_kind (λ k. 2 ≤ k → k ≤ 6 → is_heaped (layout_of k).kind ≡ true → ⊥)
    (λ x y e. omega arith)
    (λ x y e. omega arith)
    (λ x y e. true≢false (sym e))
    (λ x y e. true≢false (sym e))
    (λ x y e. true≢false (sym e))
    (λ x y e. true≢false (sym e))
    (λ x y e. true≢false (sym e))
    (λ x y e. omega arith)
    (λ x y e. omega arith)
    (λ x y e. omega arith)
    (λ k o x y e. true≢false (sym (sym (ap (λ (l : Layout). is_heaped l.kind) (other-layout k o)) ∙ e)))

-- position i + 1 of a list that passes
list-seated : (t : List ℕ) (k c : ℕ) → Listed t k c → (i : ℕ) → i < get_or t (c + 7) 0
    → let a = num t c 4 + i * num t (c + 4) 2 in Seated t (layout_of k) a (is_valid (layout_of k).shape (image_in (layout_of k) t a))
unfolding refs_fault
list-seated t k c l i h =
    let a = num t c 4 + i * num t (c + 4) 2 in
    let p = record-passes k (heap_in t) t c l.passed i h in
    record {
      within = record-in t c (base_of (layout_of k)) i l.inside h;
      heaped = λ e. absurd (list-kind k l.least l.most e);
      around = env_in t (1 + i);
      passes = λ on. (used-parts k (heap_in t) t a (1 + i) (used-passes k (heap_in t) t a (1 + i) l.least l.most (sym (flag_is (layout_of k) t a (flags-stand k l.least l.most)) ∙ on) p)).1;
    }

module _ (t : List ℕ) (ok : Accepted t) where
  -- the four lists, and the host
  pub hfis : Listed t 3 80
  unfolding layout_of hfi
  hfis = record { least = lit≤ tt; most = lit≤ tt; entry = omega (arith, (laid t ok).lent); inside = (laid t ok).hfi; passed = (lists-pass t ok).0 }

  pub ssnss : Listed t 4 88
  unfolding layout_of ssns
  ssnss = record { least = lit≤ tt; most = lit≤ tt; entry = omega (arith, (laid t ok).lent); inside = (laid t ok).ssns; passed = (lists-pass t ok).1 }

  pub securities : Listed t 5 96
  unfolding layout_of security
  securities = record { least = lit≤ tt; most = lit≤ tt; entry = omega (arith, (laid t ok).lent); inside = (laid t ok).security; passed = (lists-pass t ok).2 }

  pub discoveries : Listed t 6 104
  unfolding layout_of discovery
  discoveries = record { least = lit≤ tt; most = lit≤ tt; entry = omega (arith, (laid t ok).lent); inside = (laid t ok).discovery; passed = (lists-pass t ok).3 }

list-good : (t : List ℕ) (n k c : ℕ) → Listed t k c → Good t k (list_seat (layout_of k) t c n)
unfolding image_in
list-good t n k c l =
    pick_good t k (leb 1 n && leb n (get_or t (c + 7) 0)) _
    λ b.
    let u = and_yes (leb 1 n) (leb n (get_or t (c + 7) 0)) (rw b tt) in
    let lo = leb→le 1 n u.0 in
    let hi = leb→le n (get_or t (c + 7) 0) u.1 in
    (refl, list-seated t k c l (n - 1) (omega arith))

-- ---- heap records

-- the reference at r to a heap record: it is long enough, and its own references pass
pub nest-passes : (t : List ℕ) (n : Need) (shape : Shape) (e : Env) (owner : List ℕ) (r inner : ℕ)
    → nest_rule (heap_in t) n shape e owner t r inner ≡ 0 → (n ≡ Ignored → ⊥) → eqb (num t (r + 4) 2) 0 ≡ false
    → Inside (num t 36 4) (num t 40 4) (num t r 4) (num t (r + 4) 2) × (length shape.keep ≤ num t (r + 4) 2) × (inner ≡ 0)
nest-passes t n shape e owner r inner z c some =
    let u = first-of (ref_rule (heap_in t) n (num t r 4) (num t (r + 4) 2)) (under n 0 behind) z in
    let v = first-of (pick sound 0 12) inner (go n c u.1) in
    let h : 0 < num t (r + 4) 2 = omega (arith, eqb-false (num t (r + 4) 2) 0 some) in (
      ref-inside t n (num t r 4) (num t (r + 4) 2) u.0 c h,
      leb→le (length shape.keep) (num t (r + 4) 2) (and_yes (leb (length shape.keep) (num t (r + 4) 2)) _ (pick-of sound 12 (lit< tt) v.0)).0,
      v.1,
    )
  where
    sound : Bool
    sound = leb (length shape.keep) (num t (r + 4) 2) && is_sound shape e owner (image shape.keep (drop (num t r 4) t))

    behind : ℕ
    behind = pick (eqb (num t (r + 4) 2) 0) 0 (first_of (pick sound 0 12) inner)

    go : (m : Need) → (m ≡ Ignored → ⊥) → under m 0 behind ≡ 0 → first_of (pick sound 0 12) inner ≡ 0
    go Ignored d y = absurd (d refl)
    go Optional d y = sym (ap (λ (b : Bool). pick b 0 (first_of (pick sound 0 12) inner)) some) ∙ y
    go Required d y = sym (ap (λ (b : Bool). pick b 0 (first_of (pick sound 0 12) inner)) some) ∙ y

-- the references of a record that pass, one by one
module _ (heap : Region) (e : Env) (t : List ℕ) (a : ℕ) (img : List ℕ) (p : ℕ) (need : List ℕ → Need) (rest : Refs) where
  pub plain-rest : (content : Content) → refs_rule heap e t a img (plain p need content rest) ≡ 0 → refs_rule heap e t a img rest ≡ 0
  unfolding refs_rule
  plain-rest content z = (first-of (plain_rule heap (need img) content e t (a + p)) (refs_rule heap e t a img rest) z).1

  pub nest-first : (shape : Shape) (own : Refs) → refs_rule heap e t a img (nest p need shape own rest) ≡ 0
      → nest_rule heap (need img) shape e img t (a + p) (refs_rule heap e t (num t (a + p) 4) (image shape.keep (drop (num t (a + p) 4) t)) own) ≡ 0
  unfolding refs_rule
  nest-first shape own z =
      (first-of
      (nest_rule heap (need img) shape e img t (a + p) (refs_rule heap e t (num t (a + p) 4) (image shape.keep (drop (num t (a + p) 4) t)) own))
      (refs_rule heap e t a img rest) z).0

-- the heap record that the reference at r names under a need
module _ (t : List ℕ) (ok : Accepted t) (l : Layout) (k r : ℕ) (e : Env) (owner : List ℕ) (is : l ≡ layout_of k) where
  abbrev own : ℕ
  own = refs_rule (heap_in t) e t (num t r 4) (image l.shape.keep (drop (num t r 4) t)) l.refs

  named-good : (n : Need) → nest_rule (heap_in t) n l.shape e owner t r own ≡ 0 → (n ≡ Ignored → ⊥) → Good t k (pick (eqb (num t (r + 4) 2) 0) nowhere (seat l (num t r 4) true))
  unfolding image_in
  named-good n z c = go (eqb (num t (r + 4) 2) 0) refl where
    go : (b : Bool) → eqb (num t (r + 4) 2) 0 ≡ b → Good t k (pick b nowhere (seat l (num t r 4) true))
    go true f = omega arith
    go false f =
        let p = nest-passes t n l.shape e owner r own z c f in (
          is,
          record {
            within = omega (arith, p.1, heap-object t (laid t ok) (num t r 4) (num t (r + 4) 2) p.0);
            heaped = λ h. record { above = omega (arith, p.0); below = omega (arith, p.0, p.1) };
            around = e;
            passes = λ on. p.2;
          },
        )

  heap-good : (n : Need) → nest_rule (heap_in t) n l.shape e owner t r own ≡ 0 → Good t k (under n nowhere (pick (eqb (num t (r + 4) 2) 0) nowhere (seat l (num t r 4) true)))
  heap-good Ignored z = omega arith
  heap-good Optional z = named-good Optional z (λ f. let w : ◌≡◌ {A = ℕ} 1 0 = ap (λ (n : Need). under n 0 1) f in omega arith)
  heap-good Required z = named-good Required z (λ f. let w : ◌≡◌ {A = ℕ} 1 0 = ap (λ (n : Need). under n 0 1) f in omega arith)

module _ (t : List ℕ) (ok : Accepted t) where
  info-good : (c on : Bool) (a : ℕ) → Good t 3 (pick c (seat hfi a on) nowhere) → Good t 7 (heap_seat info 16 t (pick c (seat hfi a on) nowhere))
  unfolding layout_of hfi info image_in
  info-good false on a g = omega arith
  info-good true false a g = omega arith
  info-good true true a g = heap-good t ok info 7 (a + 16) g.1.around (image hfi.shape.keep (drop a t)) refl Required (nest-first _ _ _ _ _ _ _ _ _ _ (g.1.passes refl))

  extended-good : (c on : Bool) (a : ℕ) → Good t 4 (pick c (seat ssns a on) nowhere) → Good t 9 (heap_seat extended 60 t (pick c (seat ssns a on) nowhere))
  unfolding layout_of ssns extended image_in
  extended-good false on a g = omega arith
  extended-good true false a g = omega arith
  extended-good true true a g =
      heap-good t ok extended 9 (a + 60) g.1.around (image ssns.shape.keep (drop a t)) refl (when_set 3 2 4 4 (image ssns.shape.keep (drop a t)))
      (nest-first _ _ _ _ _ _ _ _ _ _ (plain-rest _ _ _ _ _ _ _ _ _ (plain-rest _ _ _ _ _ _ _ _ _ (plain-rest _ _ _ _ _ _ _ _ _ (plain-rest _ _ _ _ _ _ _ _ _ (g.1.passes refl))))))

  identity-good : (s : Seat) → Good t 7 s → Good t 10 (heap_seat hfi_extended 110 t s)
  unfolding layout_of info hfi_extended image_in
  identity-good nowhere g = omega arith
  identity-good (seat l a false) g = omega arith
  identity-good (seat l a true) g =
      rw g.0
      (heap-good t ok hfi_extended 10 (a + 110) g.1.around (image info.shape.keep (drop a t)) refl (when_is 3 2 (image info.shape.keep (drop a t)))
      (nest-first _ _ _ _ _ _ _ _ _ _ (plain-rest _ _ _ _ _ _ _ _ _ (subst (λ (m : Layout). refs_rule (heap_in t) g.1.around t a (image_in m t a) m.refs ≡ 0) g.0 (g.1.passes refl)))))

  -- ---- any kind and position

  single-good : (k a n : ℕ) → Seated t (layout_of k) a true → Good t k (pick (eqb n 0) (seat (layout_of k) a true) nowhere)
  single-good k a n s = pick_good t k (eqb n 0) (seat (layout_of k) a true) (λ e. (refl, s))

  pub header-seated : Seated t (layout_of 0) 0 true
  unfolding layout_of header refs_fault
  header-seated = record { within = omega (arith, (laid t ok).lent); heaped = λ e. absurd (true≢false (sym e)); around = env_in t 0; passes = λ on. driver-passes t ok }

  control-seated : Seated t (layout_of 1) 0 true
  unfolding layout_of control refs_rule
  control-seated = record { within = omega (arith, (laid t ok).lent); heaped = λ e. absurd (true≢false (sym e)); around = env_in t 0; passes = λ on. refl }

  host-seated : Seated t (layout_of 2) (num t 72 4) true
  unfolding layout_of host refs_fault
  host-seated = record { within = (laid t ok).owner; heaped = λ e. absurd (true≢false (sym e)); around = env_in t 0; passes = λ on. (used-parts 2 (heap_in t) t (num t 72 4) 0 (host-passes t ok).1).1 }

  other-good : (n k : ℕ) → Other k → Good t k (seat_of t k n)
  unfolding seat_of
  other-good n k o = rw (o.not0, o.not1, o.not2, o.not3, o.not4, o.not5, o.not6, o.not7, o.not9, o.not10) (omega arith)

  pub seats-good : (n k : ℕ) → Good t k (seat_of t k n)
  unfolding seat_of layout_of
  seats-good n =
      by_kind (λ k. Good t k (seat_of t k n))
      (single-good 0 0 n header-seated)
      (single-good 1 0 n control-seated)
      (single-good 2 (num t 72 4) n host-seated)
      lists.0
      lists.1
      (list-good t n 5 96 (securities t ok))
      (list-good t n 6 104 (discoveries t ok))
      infos
      (extended-good (leb 1 n && leb n (get_or t 95 0)) _ _ lists.1)
      (identity-good (heap_seat info 16 t (list_seat (layout_of 3) t 80 n)) infos)
      (other-good n)
    where
      lists : Good t 3 (list_seat (layout_of 3) t 80 n) × Good t 4 (list_seat (layout_of 4) t 88 n)
      lists = (
        list-good t n 3 80 (hfis t ok),
        list-good t n 4 88 (ssnss t ok),
      )

      infos : Good t 7 (heap_seat info 16 t (list_seat (layout_of 3) t 80 n))
      infos = info-good (leb 1 n && leb n (get_or t 87 0)) _ _ lists.0

  -- a good seat lies in the table
  pub good-in : (k : ℕ) (s : Option code.Seat) → Good t k (as_seat (layout_of k) s) → InTable t (base_of (layout_of k)) s
  good-in k None g = omega arith
  good-in k (Some s) g = g.1.within

  -- the heap record of a record that passes
  held_of : (m at : ℕ) (n : Need) (c : Bool) → Good t m (under n nowhere (pick c nowhere (seat (layout_of m) at true))) → Held t m (under n None (pick c None (found at true)))
  held_of m at Ignored c g = omega arith
  held_of m at Optional true g = omega arith
  held_of m at Optional false g = g.1
  held_of m at Required true g = omega arith
  held_of m at Required false g = g.1

  info-held : (a : ℕ) → Good t 3 (seat hfi a true) → Held t 7 (heap_at t (a + 16))
  unfolding layout_of hfi heap_at
  info-held a g = held_of 7 (num t (a + 16) 4) Required (eqb (num t (a + 16 + 4) 2) 0) (info-good true true a g)

  extended-held : (a : ℕ) → Good t 4 (seat ssns a true) → Held t 9 (extended_at t a)
  unfolding layout_of ssns heap_at extended_at image_in
  extended-held a g = go (eqb (num (image ssns.shape.keep (drop a t)) 3 2 / 16 % 2) 0) (extended-good true true a g) where
    go : (c : Bool) → Good t 9 (under (pick c Ignored Required) nowhere (pick (eqb (num t (a + 60 + 4) 2) 0) nowhere (seat extended (num t (a + 60) 4) true)))
        → Held t 9 (pick c None (pick (eqb (num t (a + 60 + 4) 2) 0) None (found (num t (a + 60) 4) true)))
    go true h = omega arith
    go false h = held_of 9 (num t (a + 60) 4) Required (eqb (num t (a + 60 + 4) 2) 0) h

  identity-held : (a : ℕ) → Good t 7 (seat info a true) → Held t 10 (identity_at t a)
  unfolding layout_of info heap_at identity_at image_in
  identity-held a g = go (eqb (get_or (image info.shape.keep (drop a t)) 3 0) 2) (identity-good (seat info a true) g) where
    go : (c : Bool) → Good t 10 (under (pick c Optional Ignored) nowhere (pick (eqb (num t (a + 110 + 4) 2) 0) nowhere (seat hfi_extended (num t (a + 110) 4) true)))
        → Held t 10 (pick c (pick (eqb (num t (a + 110 + 4) 2) 0) None (found (num t (a + 110) 4) true)) None)
    go true h = held_of 10 (num t (a + 110) 4) Optional (eqb (num t (a + 110 + 4) 2) 0) h
    go false h = omega arith

  pub record-held : (a k : ℕ) → Good t k (seat (layout_of k) a true) → Held t (inner_kind k) (heap_record t k a)
  unfolding layout_of heap_record
  record-held a =
      by_kind (λ k. Good t k (seat (layout_of k) a true) → Held t (inner_kind k) (heap_record t k a))
      (λ g. omega arith)
      (λ g. omega arith)
      (λ g. omega arith)
      (λ g. info-held a g)
      (λ g. extended-held a g)
      (λ g. omega arith)
      (λ g. omega arith)
      (λ g. identity-held a g)
      (λ g. omega arith)
      (λ g. omega arith)
      (λ k o g. rw (o.not3, o.not4, o.not7) (omega arith))
