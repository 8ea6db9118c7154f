-- A walk over the sites of an accepted table marks the heap bytes that they name: before the first site, over one step, and at the end. Assumes nothing.
use mathlib.Core.Path.{◌≡◌, refl, sym, ap, ap₂, subst, ◌∙◌}
use mathlib.Core.Logic.{inl}
use mathlib.Core.Bool.{Bool, true, false, not, ◌&&◌, ◌||◌}
use mathlib.Core.List.{List, [], ◌∷◌, ◌++◌, append-nil, append_assoc}
use Prim.Native.Nat.{ℕ, ◌+◌, ◌-◌, ◌*◌, ◌≤◌, ◌<◌}
use native.Mathlib.Omega.{arith}
use native.Mathlib.Decide.{dec_le}
use lib.ListN.{length, replicate}
use lib.Dec.{eqb, leb, ltb}
use borrow.Author.Tests.{eq-eqb, le-leb, le-ltb, lt-leb, lt-ltb, ne_eqb, eqb-true, eqb-false}
use Rattle.table.specs.Bytes.{num, pick}
use Rattle.table.specs.Layout.{none}
use Rattle.table.specs.FixedLayouts.{layout_of}
use Rattle.table.specs.Meaning.{meaning}
use Rattle.table.specs.Numbers.{heap_in}
use Rattle.table.specs.Closing.{Site, covers, map_of, marks, site, sites}
use Rattle.laws.specs.Fields.{Bytes}
use Rattle.laws.specs.Sound.{num-bound}
use Rattle.laws.specs.AcceptedMeaning.{lawful, stands}
use Rattle.reader.specs.Accepted.{Accepted}
use Rattle.reader.proofs.AcceptedLaws.{checked}
use Rattle.closing_laws.specs.Members.{In, in_right}
use Rattle.closing_laws.specs.Carrying.{Sound}
use Rattle.closing_laws.specs.Fencing.{places}
use Rattle.bytes_bits.specs.Bits.{with_bits}
use Rattle.bytes_bits.specs.MapLaws.{also_all, map-mark-all, map_same, map-zeros}
use Rattle.closer_sites.specs.declared.Walk.{Walk}
use Rattle.closer_sites.specs.declared.Named.{Named}
use Rattle.closer_sites.specs.Walk.{begun, rest_of, site_of, step_of}
use Rattle.closer_sites.specs.Going.{Going}
use Rattle.closer_sites.proofs.WalkLaws.{going-first, going_on, rest_end, rest-first, rest-step}

-- ---- the bytes that sites cover

-- whether one of the sites names byte n of the heap
abbrev pub covered : List ℕ → List Site → ℕ → Bool
covered t ss n = covers ss ((heap_in t).at + n)

or_assoc : (x y z : Bool) → ((x || y) || z) ≡ (x || (y || z))
or_assoc true y z = refl
or_assoc false y z = refl

or_no : (x : Bool) → (x || false) ≡ x
or_no true = refl
or_no false = refl

covers-append : (xs ys : List Site) (n : ℕ) → covers (xs ++ ys) n ≡ (covers xs n || covers ys n)
covers-append [] ys n = refl
covers-append (x ∷ xs) ys n =
    let c : Bool = leb x.off n && ltb n (x.off + x.len) in
    ap (λ (b : Bool). c || b) (covers-append xs ys n) ∙ sym (or_assoc c (covers xs n) (covers ys n))

-- the tests on a place in the table, and on the place in the heap
from-test : (a o k : ℕ) → a ≤ o → leb o (a + k) ≡ leb (o - a) k
from-test a o k h = go (dec_le o (a + k))
  where
    go : Dec (o ≤ a + k) → leb o (a + k) ≡ leb (o - a) k
    go (yes d) = le-leb o (a + k) d ∙ sym (le-leb (o - a) k (omega arith))
    go (no d) = lt-leb o (a + k) (omega arith) ∙ sym (lt-leb (o - a) k (omega arith))

upto-test : (a o n k : ℕ) → a ≤ o → ltb (a + k) (o + n) ≡ ltb k (o - a + n)
upto-test a o n k h = go (dec_le (o + n) (a + k))
  where
    go : Dec (o + n ≤ a + k) → ltb (a + k) (o + n) ≡ ltb k (o - a + n)
    go (yes d) = le-ltb (a + k) (o + n) d ∙ sym (le-ltb k (o - a + n) (omega arith))
    go (no d) = lt-ltb (a + k) (o + n) (omega arith) ∙ sym (lt-ltb k (o - a + n) (omega arith))

-- one site more
covers_more : (t : List ℕ) (ss : List Site) (s : Site) → (heap_in t).at ≤ s.off → (k : ℕ)
    → covered t (ss ++ (s ∷ [])) k ≡ also_all (covered t ss) (s.off - (heap_in t).at) s.len k
covers_more t ss s h k =
    let a : ℕ = (heap_in t).at in
    let c : Bool = leb s.off (a + k) && ltb (a + k) (s.off + s.len) in
    covers-append ss (s ∷ []) (a + k)
    ∙ ap (λ (b : Bool). covers ss (a + k) || b) (or_no c)
    ∙ ap₂ (λ (x y : Bool). covers ss (a + k) || (x && y)) (from-test a s.off k h) (upto-test a s.off s.len k h)

-- ---- what a step finds

abbrev site_by : Named → Site
site_by x = site x.at x.off x.len (not (eqb x.kind 0)) (pick (eqb x.kind 0) none (layout_of x.kind).refs)

site-none : (x : Named) → x.len ≡ 0 → site_of x ≡ []
site-none x e = ap (λ (c : Bool). pick c [] (site_by x ∷ [])) (eq-eqb x.len 0 e)

site-some : (x : Named) → (x.len ≡ 0 → ⊥) → site_of x ≡ site_by x ∷ []
site-some x e = ap (λ (c : Bool). pick c [] (site_by x ∷ [])) (ne_eqb x.len 0 e)

-- ---- the walk

-- the map has the marks of the sites that the walk has passed
pub record Marked (t : List ℕ) (m : ℕ) (map : List ℕ) (w : Walk) : Type 0 where
  pub going : Going t w
  pub passed : List Site
  pub split : sites t ≡ passed ++ rest_of t w
  pub bits : map ≡ map_of (covered t passed) 0 m

module _ (t : List ℕ) (ok : Accepted t) where
  pub marked-first : (map : List ℕ) → map ≡ replicate (length map) 0 → Marked t (length map) map begun
  marked-first map e = record { going = going-first t ok; passed = []; split = sym (rest-first t); bits = e ∙ sym (map-zeros 0 (length map)) }

  pub marked-end : (m : ℕ) (map : List ℕ) (w : Walk) → Marked t m map w → w.list ≡ 7 → map ≡ map_of (marks t) 0 m
  unfolding marks
  marked-end m map w z e =
      let f : sites t ≡ z.passed = z.split ∙ ap (λ (ss : List Site). z.passed ++ ss) (rest_end t w z.going e) ∙ append-nil z.passed in
      z.bits ∙ map_same (covered t (sites t)) (covered t z.passed) m (λ k l. ap (λ (ss : List Site). covered t ss k) (sym f))

  module _ (b : Bytes t) (m : ℕ) (map : List ℕ) (w : Walk) (z : Marked t m map w) (h : w.list < 7) where
    abbrev found : Named
    found = (step_of t w).named

    -- the sites with what the step found
    parted : sites t ≡ z.passed ++ (site_of found ++ rest_of t (step_of t w).walk)
    parted = z.split ∙ ap (λ (ss : List Site). z.passed ++ ss) (rest-step t w z.going h)

    found_in : (found.len ≡ 0 → ⊥) → In (site_by found) (sites t)
    found_in e =
        let s = site_by found in
        let rest : List Site = rest_of t (step_of t w).walk in
        let f : sites t ≡ z.passed ++ (s ∷ rest) = parted ∙ ap (λ (ss : List Site). z.passed ++ (ss ++ rest)) (site-some found e) in
        subst (In s) (sym f) (in_right s z.passed (s ∷ rest) (inl refl))

    found-sound : (found.len ≡ 0 → ⊥) → Sound t (site_by found)
    found-sound e = (places t (meaning t) (lawful t b (checked t ok)).shapes (stands t b (checked t ok)) (site_by found) (found_in e)).0

    -- its bytes lie in the map, where that has a bit for each byte of the heap
    pub found-fits : (heap_in t).len ≤ 8 * m → 0 < found.len
        → (num t 36 4 ≤ found.off) × (found.off - num t 36 4 + found.len ≤ 8 * m) × (found.off - num t 36 4 + found.len ≤ 4294967295)
    unfolding heap_in
    found-fits room l =
        let s = found-sound (λ e. omega arith) in
        (s.from, omega (arith, s.from, s.upto), omega (arith, s.from, s.upto, num-bound t b 40 4))

    -- the map with its bits
    pub marked_step : (heap_in t).len ≤ 8 * m → (next : List ℕ) → next ≡ pick (eqb found.len 0) map (with_bits map (found.off - num t 36 4) found.len)
        → Marked t m next (step_of t w).walk
    unfolding heap_in
    marked_step room next e = go (eqb found.len 0) refl e
      where
        go : (c : Bool) → eqb found.len 0 ≡ c → next ≡ pick c map (with_bits map (found.off - num t 36 4) found.len) → Marked t m next (step_of t w).walk
        go true f g = record {
          going = going_on t ok b w z.going h;
          passed = z.passed;
          split = parted ∙ ap (λ (ss : List Site). z.passed ++ (ss ++ rest_of t (step_of t w).walk)) (site-none found (eqb-true found.len 0 f));
          bits = g ∙ z.bits;
        }
        go false f g =
            let n = eqb-false found.len 0 f in
            let s = site_by found in
            let d = found-sound n in
            let a : ℕ = found.off - (heap_in t).at in
            let rest : List Site = rest_of t (step_of t w).walk in
            record {
              going = going_on t ok b w z.going h;
              passed = z.passed ++ (s ∷ []);
              split = parted ∙ ap (λ (ss : List Site). z.passed ++ (ss ++ rest)) (site-some found n) ∙ sym (append_assoc z.passed (s ∷ []) rest);
              bits = g
                  ∙ ap (λ (x : List ℕ). with_bits x a found.len) z.bits
                  ∙ map-mark-all (covered t z.passed) m a found.len (omega (arith, d.from, d.upto))
                  ∙ map_same (covered t (z.passed ++ (s ∷ []))) (also_all (covered t z.passed) a found.len) m (λ k l. sym (covers_more t z.passed s d.from k));
            }
