-- Objects of an accepted table: their references lie in their record, count as the code finds, and name a part of the table. Assumes nothing.
use mathlib.Core.Path.{◌≡◌, refl, sym, ap, subst, ◌∙◌}
use mathlib.Core.Bool.{Bool, true, false, true≢false, ◌&&◌}
use mathlib.Core.List.{List}
use Prim.Native.Nat.{ℕ, ◌+◌, ◌≤◌, ◌<◌}
use native.Mathlib.Omega.{arith}
use lib.ListN.{length}
use lib.Dec.{T, eqb, leb, leb→le, lit<}
use mir.Facts.{and_yes}
use borrow.Author.Tests.{eqb-true, eqb-false}
use Rattle.table.specs.declared.Answer.{Answer}
use Rattle.table.specs.declared.Region.{Region}
use Rattle.table.specs.declared.Need.{Need}
use Rattle.table.specs.declared.Need.TheVariants.{Ignored, Optional, Required}
use Rattle.table.specs.declared.Place.{Place}
use Rattle.table.specs.Bytes.{pick, num}
use Rattle.table.specs.Layout.{Layout, Env, Refs, none, plain, nest, base_of, reference_at}
use Rattle.table.specs.FixedLayouts.{layout_of, header, control, host, hfi, ssns, security, discovery, info, extended, hfi_extended, no_kind}
use Rattle.table.specs.Objects.{under}
use Rattle.table.specs.Rules.{answer, done, ref_rule, plain_rule, refs_rule}
use Rattle.table.specs.Numbers.{heap_in, check}
use Rattle.table.specs.Reads.{Seat, nowhere, seat, need_at, has_plain, no_place, ref_place, whole_at, shown}
use Rattle.laws.specs.Sound.{first-of}
use Rattle.laws.specs.Fields.{Bytes, image_in, two_bytes}
use Rattle.laws.specs.ListWalk.{by_layout}
use Rattle.laws.specs.Builds.{check-zero}
use Rattle.bytes_wire.proofs.Laws.{num4}
use Rattle.layout_needs.specs.Needs.{plain_need}
use Rattle.layout_needs.proofs.Laws.{info-need}
use Rattle.reader.specs.Accepted.{Accepted}
use Rattle.reader.proofs.AcceptedLaws.{laid}
use Rattle.layout_images.proofs.Laws.{by_kind, other-layout}
use Rattle.reads_seats.specs.Seats.{Good, InHeap}
use Rattle.reads_seats.proofs.SeatLaws.{heap-object, ref-inside}

-- ---- references lie in their record, none to an object behind one to a heap record

abbrev no_plain : Refs → Bool
no_plain none = true
no_plain (plain p need content rest) = false
no_plain (nest p need shape own rest) = no_plain rest

abbrev ordered : ℕ → Refs → Bool
ordered n none = true
ordered n (plain p need content rest) = leb (p + 6) n && ordered n rest
ordered n (nest p need shape own rest) = no_plain rest

kinds-ordered : (k : ℕ) → T (ordered (base_of (layout_of k)) (layout_of k).refs)
unfolding header control host hfi ssns security discovery info extended hfi_extended no_kind
kinds-ordered = by_layout (λ l. T (ordered (base_of l) l.refs)) tt tt tt tt tt tt tt tt tt tt tt

none-plain : (q : ℕ) (rs : Refs) → T (no_plain rs) → has_plain q rs ≡ true → ⊥
none-plain q none t h = let z : false ≡ true = h in absurd (subst T (sym z) tt)
none-plain q (plain p need content rest) t h = absurd t
none-plain q (nest p need shape own rest) t h = none-plain q rest t h

plain_in : (n q : ℕ) (rs : Refs) → T (ordered n rs) → has_plain q rs ≡ true → q + 6 ≤ n
plain_in n q none t h = absurd (none-plain q none tt h)
plain_in n q (plain p need content rest) t h =
    let u = and_yes (leb (p + 6) n) (ordered n rest) t in
    go (eqb q p) refl (leb→le (p + 6) n u.0) (λ g. plain_in n q rest u.1 g) h
  where
    go : (c : Bool) → eqb q p ≡ c → p + 6 ≤ n → (has_plain q rest ≡ true → q + 6 ≤ n) → pick c true (has_plain q rest) ≡ true → q + 6 ≤ n
    go true e l r g = omega (arith, eqb-true q p e)
    go false e l r g = r g
plain_in n q (nest p need shape own rest) t h = absurd (none-plain q rest t h)

pub plain_fits : (k q : ℕ) → has_plain q (layout_of k).refs ≡ true → q + 6 ≤ base_of (layout_of k)
plain_fits k q h = plain_in (base_of (layout_of k)) q (layout_of k).refs (kinds-ordered k) h

-- ---- whether a reference counts

no_plain_lem : (k q : ℕ) (img : List ℕ) → ((layout_of k).refs ≡ none) → has_plain q (layout_of k).refs ≡ true → plain_need k q ≡ need_at q (layout_of k).refs img
no_plain_lem k q img e h = absurd (none-plain q none tt (sym (ap (has_plain q) e) ∙ h))

-- an info's object is its host name
info-object : (q : ℕ) → has_plain q info.refs ≡ true → eqb q 110 ≡ false
unfolding info
info-object q h = go (eqb q 104) refl h where
  go : (c : Bool) → eqb q 104 ≡ c → pick c true false ≡ true → eqb q 110 ≡ false
  go true e g = rw (eqb-true q 104 e) refl
  go false e g = absurd (true≢false (sym g))

pub plain-need : (q : ℕ) (img : List ℕ) (k : ℕ) → (k ≡ 4 → ⊥) → (k ≡ 5 → ⊥) → (k ≡ 10 → ⊥) → has_plain q (layout_of k).refs ≡ true → plain_need k q ≡ need_at q (layout_of k).refs img
unfolding layout_of plain_need header control host hfi discovery extended no_kind
plain-need q img =
    by_kind (λ k. (k ≡ 4 → ⊥) → (k ≡ 5 → ⊥) → (k ≡ 10 → ⊥) → has_plain q (layout_of k).refs ≡ true → plain_need k q ≡ need_at q (layout_of k).refs img)
    (λ a b d h. refl)
    (λ a b d h. refl)
    (λ a b d h. refl)
    (λ a b d h. absurd (none-plain q hfi.refs tt h))
    (λ a b d h. absurd (a refl))
    (λ a b d h. absurd (b refl))
    (λ a b d h. refl)
    (λ a b d h. info-need img q (info-object q h))
    (λ a b d h. refl)
    (λ a b d h. absurd (d refl))
    (λ k o a b d h. no_plain_lem k q img (ap (λ (l : Layout). l.refs) (other-layout k o)) h)

-- ---- an object is a part of the table

plain_passes : (heap : Region) (e : Env) (t : List ℕ) (a : ℕ) (img : List ℕ) (n q : ℕ) (rs : Refs) → T (ordered n rs) → refs_rule heap e t a img rs ≡ 0 → has_plain q rs ≡ true
    → ref_rule heap (need_at q rs img) (num t (a + q) 4) (num t (a + q + 4) 2) ≡ 0
unfolding refs_rule
plain_passes heap e t a img n q none o z h = absurd (none-plain q none tt h)
plain_passes heap e t a img n q (plain p need content rest) o z h =
    let u = and_yes (leb (p + 6) n) (ordered n rest) o in
    let v = first-of (plain_rule heap (need img) content e t (a + p)) (refs_rule heap e t a img rest) z in
    go (eqb q p) refl (first-of (ref_rule heap (need img) (num t (a + p) 4) (num t (a + p + 4) 2)) _ v.0).0 (λ g. plain_passes heap e t a img n q rest u.1 v.1 g) h
  where
    go : (c : Bool) → eqb q p ≡ c → ref_rule heap (need img) (num t (a + p) 4) (num t (a + p + 4) 2) ≡ 0
        → (has_plain q rest ≡ true → ref_rule heap (need_at q rest img) (num t (a + q) 4) (num t (a + q + 4) 2) ≡ 0)
        → pick c true (has_plain q rest) ≡ true → ref_rule heap (pick c (need img) (need_at q rest img)) (num t (a + q) 4) (num t (a + q + 4) 2) ≡ 0
    go true f x r g = rw (eqb-true q p f) x
    go false f x r g = r g
plain_passes heap e t a img n q (nest p need shape own rest) o z h = absurd (none-plain q rest o h)

-- a place lies in the table, and what is not empty there in the heap
abbrev Placed : List ℕ → Place → Type 0
Placed t p = (p.at + p.len ≤ length t) × (0 < p.len → InHeap t p.at p.len)

-- none
nowhere-placed : (t : List ℕ) (a : Answer) → Placed t (no_place a)
nowhere-placed t a = (omega arith, λ h. absurd (omega (arith, h)))

-- under a need, of a reference that passes
need-placed : (t : List ℕ) (ok : Accepted t) (r : ℕ) (n : Need) → ref_rule (heap_in t) n (num t r 4) (num t (r + 4) 2) ≡ 0 → Placed t (under n (no_place done) (ref_place t r))
need-placed t ok r n z = go n z where
  there : (m : Need) → (m ≡ Ignored → ⊥) → ref_rule (heap_in t) m (num t r 4) (num t (r + 4) 2) ≡ 0 → Placed t (ref_place t r)
  there m c y = by (eqb (num t (r + 4) 2) 0) refl where
    by : (b : Bool) → eqb (num t (r + 4) 2) 0 ≡ b → Placed t (pick b (no_place done) (record { answer = done; present = true; at = num t r 4; len = num t (r + 4) 2 }))
    by true f = nowhere-placed t done
    by false f =
        let i = ref-inside t m (num t r 4) (num t (r + 4) 2) y c (omega (arith, eqb-false (num t (r + 4) 2) 0 f)) in
        (heap-object t (laid t ok) (num t r 4) (num t (r + 4) 2) i, λ h. record { above = i.above; below = i.below })

  go : (m : Need) → ref_rule (heap_in t) m (num t r 4) (num t (r + 4) 2) ≡ 0 → Placed t (under m (no_place done) (ref_place t r))
  go Ignored y = nowhere-placed t done
  go Optional y = there Optional (λ f. let w : ◌≡◌ {A = ℕ} 1 0 = ap (λ (x : Need). under x 0 1) f in omega arith) y
  go Required y = there Required (λ f. let w : ◌≡◌ {A = ℕ} 1 0 = ap (λ (x : Need). under x 0 1) f in omega arith) y

seat-placed : (t : List ℕ) (ok : Accepted t) (q k : ℕ) (s : Seat) → Good t k s → Placed t (whole_at t q s)
unfolding image_in
seat-placed t ok q k nowhere g = nowhere-placed t (answer 16 0 0)
seat-placed t ok q k (seat l a on) g = go (has_plain q l.refs) refl on g.1.passes
  where
    in_order : T (ordered (base_of l) l.refs)
    in_order = subst (λ (m : Layout). T (ordered (base_of m) m.refs)) (sym g.0) (kinds-ordered k)

    go : (c : Bool) → has_plain q l.refs ≡ c → (b : Bool) → (b ≡ true → refs_rule (heap_in t) g.1.around t a (image_in l t a) l.refs ≡ 0)
        → Placed t (pick c (pick b (under (need_at q l.refs (shown t l a b)) (no_place done) (ref_place t (a + q))) (no_place done)) (no_place (answer 16 0 0)))
    go false e b p = nowhere-placed t (answer 16 0 0)
    go true e false p = nowhere-placed t done
    go true e true p =
        need-placed t ok (a + q) (need_at q l.refs (image_in l t a))
        (plain_passes (heap_in t) g.1.around t a (image_in l t a) (base_of l) q l.refs in_order (p refl) e)

pub seat-room : (t : List ℕ) (ok : Accepted t) (q k : ℕ) (s : Seat) → Good t k s → (whole_at t q s).at + (whole_at t q s).len ≤ length t
seat-room t ok q k s g = (seat-placed t ok q k s g).0

-- an object that is there lies in the heap
pub seat-heap : (t : List ℕ) (ok : Accepted t) (q k : ℕ) (s : Seat) → Good t k s → 0 < (whole_at t q s).len → InHeap t (whole_at t q s).at (whole_at t q s).len
seat-heap t ok q k s g = (seat-placed t ok q k s g).1

-- one that is not there starts at 0
abbrev Starts : Place → Type 0
Starts p = pick {X = ℕ} (eqb p.len 0) 0 p.at ≡ p.at

pub absent-start : (t : List ℕ) (q : ℕ) (s : Seat) → pick (eqb (whole_at t q s).len 0) 0 (whole_at t q s).at ≡ (whole_at t q s).at
absent-start t q nowhere = refl
absent-start t q (seat l a on) = go (has_plain q l.refs) on (need_at q l.refs (shown t l a on)) (named (eqb (reference_at t (a + q)).len 0) refl) where
  named : (c : Bool) → eqb (reference_at t (a + q)).len 0 ≡ c → Starts (ref_place t (a + q))
  named true e = rw e refl
  named false e = rw (e, e) refl

  go : (c d : Bool) (n : Need) → Starts (ref_place t (a + q)) → Starts (pick c (pick d (under n (no_place done) (ref_place t (a + q))) (no_place done)) (no_place (answer 16 0 0)))
  go false d n z = refl
  go true false n z = refl
  go true true Ignored z = refl
  go true true Optional z = z
  go true true Required z = z

pub accepted : (t : List ℕ) → (check t).number ≡ 0 → Accepted t
accepted t e = record { good = check-zero t e }

-- ---- an object's place and length are small numbers

num2-small : (t : List ℕ) → Bytes t → (a : ℕ) → num t a 2 < 65536
num2-small t b a = omega (arith, two_bytes t a, b a, b (a + 1))

num4-small : (t : List ℕ) → Bytes t → (a : ℕ) → num t a 4 < 4294967296
num4-small t b a = omega (arith, num4 t a, num2-small t b a, num2-small t b (a + 2))

abbrev pub PlaceFits : Place → Type 0
PlaceFits p = (p.answer.position < 256) × (p.len < 65536) × (p.at < 4294967296)

pub one-fits : (c : Bool) (x y : Place) → PlaceFits x → PlaceFits y → PlaceFits (pick c x y)
one-fits true x y p q = p
one-fits false x y p q = q

under-fits : (n : Need) (x y : Place) → PlaceFits x → PlaceFits y → PlaceFits (under n x y)
under-fits Ignored x y p q = p
under-fits Optional x y p q = q
under-fits Required x y p q = q

abbrev none_place : PlaceFits (no_place done)
none_place = (lit< tt, lit< tt, lit< tt)

pub seat-place : (t : List ℕ) → Bytes t → (q : ℕ) (s : Seat) → PlaceFits (whole_at t q s)
seat-place t b q nowhere = none_place
seat-place t b q (seat l a on) =
    one-fits (has_plain q l.refs) _ _
    (one-fits on _ _
    (under-fits (need_at q l.refs (shown t l a on)) (no_place done) (ref_place t (a + q)) none_place
    (one-fits (eqb (num t (a + q + 4) 2) 0) _ _ none_place (lit< tt, num2-small t b (a + q + 4), num4-small t b (a + q))))
    none_place)
    none_place
