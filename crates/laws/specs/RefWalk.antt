-- The references of a kind by their offsets: the rule of each alone, and the walk over all of them as the first fault. Assumes nothing.
use Rattle.std.specs.Prelude.{◌≡◌, refl, Bool, true, false, not, ◌&&◌, ◌||◌, List, [], ◌∷◌, ℕ, suc, ◌+◌, ◌≤◌, ◌<◌, get_or, take, drop, T, leb, eqb}
use Rattle.std.proofs.Common.{sym, ap, ap₂, ◌∙◌, subst, add-one, arith, length-take, length-drop, drop_of_length-le, drop-cons, get_or-take, leb→le, eq-eqb, ne_eqb, eqb-true, leb-true}
use Rattle.std.proofs.Math.ListN.{length}
use Rattle.std.proofs.Math.Facts.{and_yes}
use Rattle.table.specs.declared.Region.{Region}
use Rattle.table.specs.declared.Need.{Need}
use Rattle.table.specs.declared.Need.TheVariants.{Ignored, Optional, Required}
use Rattle.table.specs.Bytes.{num, part, pick}
use Rattle.table.specs.Layout.{Content, anything, Env, Refs, Shape, image, named_at, nest, none, offsets, plain, reference_at, region}
use Rattle.table.specs.Objects.{under}
use Rattle.table.specs.Rules.{first_of, is_sound, nest_rule, plain_rule, reaches, ref_rule, refs_rule, ruled}
use Rattle.table.specs.Reads.{content_at, has_plain, need_at}
use Rattle.laws.specs.Lawful.{all_keep, ok_keep}
use Rattle.laws.specs.Fields.{image-part, num-part}

-- the rule of the reference at q
unfoldable pub rule_at : Region → Env → List ℕ → ℕ → List ℕ → Refs → ℕ → ℕ
rule_at heap e t a img none q = 0
rule_at heap e t a img (plain p need content rest) q = pick (eqb q p) (plain_rule heap (need img) content e t (a + q)) (rule_at heap e t a img rest q)
rule_at heap e t a img (nest p need shape own rest) q =
    pick (eqb q p)
    (nest_rule heap (need img) shape e img t (a + q) (refs_rule heap e t (reference_at t (a + q)).at (image shape.keep (drop (reference_at t (a + q)).at t)) own))
    (rule_at heap e t a img rest q)

-- the first fault of f over a list
abbrev pub first_over : (ℕ → ℕ) → List ℕ → ℕ
first_over f [] = 0
first_over f (x ∷ xs) = first_of (f x) (first_over f xs)

abbrev not_in : ℕ → List ℕ → Bool
not_in p [] = true
not_in p (q ∷ qs) = not (eqb q p) && not_in p qs

abbrev pub distinct_refs : Refs → Bool
distinct_refs none = true
distinct_refs (plain p need content rest) = not_in p (offsets rest) && distinct_refs rest
distinct_refs (nest p need shape own rest) = not_in p (offsets rest) && distinct_refs rest

skip : (p : ℕ) (h g : ℕ → ℕ) (qs : List ℕ) → T (not_in p qs) → first_over (λ (q : ℕ). pick (eqb q p) (h q) (g q)) qs ≡ first_over g qs
skip p h g [] m = refl
skip p h g (q ∷ qs) m =
    let u = and_yes (not (eqb q p)) (not_in p qs) m in
    ap₂ first_of (go (eqb q p) u.0) (skip p h g qs u.1)
  where
    go : (c : Bool) → T (not c) → pick c (h q) (g q) ≡ g q
    go true n = absurd n
    go false n = refl

eqb_same : (p : ℕ) → eqb p p ≡ true
eqb_same p = eq-eqb p p refl

pub refs-over : (heap : Region) (e : Env) (t : List ℕ) (a : ℕ) (img : List ℕ) (rs : Refs) → T (distinct_refs rs)
    → refs_rule heap e t a img rs ≡ first_over (rule_at heap e t a img rs) (offsets rs)
unfolding refs_rule rule_at
refs-over heap e t a img none d = refl
refs-over heap e t a img (plain p need content rest) d =
    let u = and_yes (not_in p (offsets rest)) (distinct_refs rest) d in
    let here = plain_rule heap (need img) content e t (a + p) in
    ap₂ first_of
    (sym (ap (λ (c : Bool). pick c here (rule_at heap e t a img rest p)) (eqb_same p)))
    (refs-over heap e t a img rest u.1
    ∙ sym (skip p (λ (q : ℕ). plain_rule heap (need img) content e t (a + q)) (rule_at heap e t a img rest) (offsets rest) u.0))
refs-over heap e t a img (nest p need shape own rest) d =
    let u = and_yes (not_in p (offsets rest)) (distinct_refs rest) d in
    let rule : ℕ → ℕ = λ q. nest_rule heap (need img) shape e img t (a + q) (refs_rule heap e t (reference_at t (a + q)).at (image shape.keep (drop (reference_at t (a + q)).at t)) own) in
    ap₂ first_of
    (sym (ap (λ (c : Bool). pick c (rule p) (rule_at heap e t a img rest p)) (eqb_same p)))
    (refs-over heap e t a img rest u.1 ∙ sym (skip p rule (rule_at heap e t a img rest) (offsets rest) u.0))

-- ---- a plain reference

pub first-zero : (v : ℕ) → first_of v 0 ≡ v
first-zero v = step (eqb v 0) refl where
  step : (c : Bool) → eqb v 0 ≡ c → pick c 0 v ≡ v
  step true e = sym (eqb-true v 0 e)
  step false e = refl

-- one that may hold anything
pub plain-any : (heap : Region) (n : Need) (e : Env) (t : List ℕ) (r : ℕ) → plain_rule heap n anything e t r ≡ ref_rule heap n (reference_at t r).at (reference_at t r).len
plain-any heap n e t r = go n (ref_rule heap n (reference_at t r).at (reference_at t r).len) where
  none-ruled : (b : List ℕ) → ruled anything e b ≡ 0
  none-ruled [] = refl
  none-ruled (b ∷ bs) = refl

  go : (n : Need) (v : ℕ) → first_of v (under n 0 (ruled anything e (named_at t r))) ≡ v
  go Ignored v = first-zero v
  go Optional v = ap (first_of v) (none-ruled (named_at t r)) ∙ first-zero v
  go Required v = ap (first_of v) (none-ruled (named_at t r)) ∙ first-zero v

abbrev pub nest_at : ℕ → Refs → Bool
nest_at q none = false
nest_at q (plain p need content rest) = nest_at q rest
nest_at q (nest p need shape own rest) = eqb q p || nest_at q rest

-- none of the references to heap records is one to an object, since offsets are distinct
no-nest : (q : ℕ) (rs : Refs) → T (not_in q (offsets rs)) → T (not (nest_at q rs))
no-nest q none m = tt
no-nest q (plain p need content rest) m = no-nest q rest (and_yes (not (eqb p q)) (not_in q (offsets rest)) m).1
no-nest q (nest p need shape own rest) m = let u = and_yes (not (eqb p q)) (not_in q (offsets rest)) m in go (eqb q p) refl u.0 (no-nest q rest u.1) where
  go : (c : Bool) → eqb q p ≡ c → T (not (eqb p q)) → T (not (nest_at q rest)) → T (not (c || nest_at q rest))
  go true e x y = absurd (rw (eq-eqb p q (sym (eqb-true q p e))) at x)
  go false e x y = y

no_plain_lem : (q : ℕ) (rs : Refs) → T (not_in q (offsets rs)) → T (has_plain q rs) → ⊥
no_plain_lem q none m h = h
no_plain_lem q (plain p need content rest) m h = let u = and_yes (not (eqb p q)) (not_in q (offsets rest)) m in go (eqb q p) refl u.0 h (no_plain_lem q rest u.1) where
  go : (c : Bool) → eqb q p ≡ c → T (not (eqb p q)) → T (pick c true (has_plain q rest)) → (T (has_plain q rest) → ⊥) → ⊥
  go true e x y f = absurd (rw (eq-eqb p q (sym (eqb-true q p e))) at x)
  go false e x y f = f y
no_plain_lem q (nest p need shape own rest) m h = no_plain_lem q rest (and_yes (not (eqb p q)) (not_in q (offsets rest)) m).1 h

pub plain-alone : (q : ℕ) (rs : Refs) → T (distinct_refs rs) → T (has_plain q rs) → T (not (nest_at q rs))
plain-alone q none d h = tt
plain-alone q (plain p need content rest) d h = let u = and_yes (not_in p (offsets rest)) (distinct_refs rest) d in go (eqb q p) refl u.0 h (plain-alone q rest u.1) where
  go : (c : Bool) → eqb q p ≡ c → T (not_in p (offsets rest)) → T (pick c true (has_plain q rest)) → (T (has_plain q rest) → T (not (nest_at q rest))) → T (not (nest_at q rest))
  go true e x y f = no-nest q rest (rw (eqb-true q p e) x)
  go false e x y f = f y
plain-alone q (nest p need shape own rest) d h = let u = and_yes (not_in p (offsets rest)) (distinct_refs rest) d in go (eqb q p) refl u.0 (plain-alone q rest u.1 h) where
  go : (c : Bool) → eqb q p ≡ c → T (not_in p (offsets rest)) → T (not (nest_at q rest)) → T (not (c || nest_at q rest))
  go true e x y = absurd (no_plain_lem q rest (rw (eqb-true q p e) x) h)
  go false e x y = y

-- a plain reference's rule: by its need, what its object holds, and its two halves
pub plain_at : (heap : Region) (e : Env) (t : List ℕ) (a : ℕ) (img : List ℕ) (rs : Refs) (q : ℕ) → T (not (nest_at q rs))
    → rule_at heap e t a img rs q ≡ plain_rule heap (need_at q rs img) (content_at q rs) e t (a + q)
unfolding rule_at
plain_at heap e t a img none q n = refl
plain_at heap e t a img (plain p need content rest) q n = go (eqb q p) (plain_at heap e t a img rest q n) where
  go : (c : Bool) → rule_at heap e t a img rest q ≡ plain_rule heap (need_at q rest img) (content_at q rest) e t (a + q)
      → pick c (plain_rule heap (need img) content e t (a + q)) (rule_at heap e t a img rest q)
      ≡ plain_rule heap (pick c (need img) (need_at q rest img)) (pick c content (content_at q rest)) e t (a + q)
  go true z = refl
  go false z = z
plain_at heap e t a img (nest p need shape own rest) q n = go (eqb q p) n (λ m. plain_at heap e t a img rest q m) where
  go : (c : Bool) → T (not (c || nest_at q rest))
      → (T (not (nest_at q rest)) → rule_at heap e t a img rest q ≡ plain_rule heap (need_at q rest img) (content_at q rest) e t (a + q))
      → pick c (nest_rule heap (need img) shape e img t (a + q) (refs_rule heap e t (reference_at t (a + q)).at (image shape.keep (drop (reference_at t (a + q)).at t)) own))
      (rule_at heap e t a img rest q)
      ≡ plain_rule heap (pick c (need img) (need_at q rest img)) (content_at q rest) e t (a + q)
  go true n z = absurd n
  go false n z = z n

-- ---- turn by turn, as code goes through the references

-- n is what the first of two gives: the answer, where it is not 0
pub stop : {n x : ℕ} (y : ℕ) → n ≡ x → (n ≡ 0 → ⊥) → n ≡ first_of x y
stop {n} {x} y e z = e ∙ sym (ap (λ (c : Bool). pick c y x) (ne_eqb x 0 (λ w. z (e ∙ w))))

pub more : {n x m y : ℕ} → n ≡ x → n ≡ 0 → m ≡ y → m ≡ first_of x y
more {n} {x} {m} {y} e z f = f ∙ sym (ap (λ (c : Bool). pick c y x) (eq-eqb x 0 (sym e ∙ z)))

-- the first n of xs are l
pub lists_at_lem : (n : ℕ) (xs : List ℕ) {l : List ℕ} → take n xs ≡ l → (i : ℕ) → i < n → get_or xs i 0 ≡ get_or l i 0
lists_at_lem n xs {l} p i h = sym (get_or-take n xs i 0 h) ∙ ap (λ (ys : List ℕ). get_or ys i 0) p

module _ (f : ℕ → ℕ) (n : ℕ) (xs : List ℕ) {l : List ℕ} (p : take n xs ≡ l) (q : n ≡ length l) {i : ℕ} (h : i < n) {a : ℕ} (e : a ≡ f (get_or xs i 0)) where
  found : a ≡ f (get_or l i 0)
  found = e ∙ ap f (lists_at_lem n xs p i h)

  within : i < length l
  within = rw q at h

  pub over-stop : (a ≡ 0 → ⊥) → a ≡ first_over f (drop i l)
  over-stop z = rw (drop-cons l i 0 within) (stop (first_over f (drop (suc i) l)) found z)

  pub over-more : a ≡ 0 → first_over f (drop (i + 1) l) ≡ first_over f (drop i l)
  over-more z = rw (add-one i, drop-cons l i 0 within) (more found z refl)

pub over_none : (f : ℕ → ℕ) (l : List ℕ) (i : ℕ) → length l ≤ i → 0 ≡ first_over f (drop i l)
over_none f l i h = rw (drop_of_length-le l h)

-- ---- a reference to a heap record, whose own references are all plain

abbrev pub all_plain : Refs → Bool
all_plain none = true
all_plain (plain p need content rest) = all_plain rest
all_plain (nest p need shape own rest) = false

plain-only : (rs : Refs) (q : ℕ) → T (all_plain rs) → T (not (nest_at q rs))
plain-only none q a = tt
plain-only (plain p need content rest) q a = plain-only rest q a
plain-only (nest p need shape own rest) q a = absurd a

-- each reference lies in a record of n bytes
abbrev pub fitting : ℕ → List ℕ → Bool
fitting n [] = true
fitting n (q ∷ qs) = leb (q + 6) n && fitting n qs

-- what the walks ask of a heap record: its references stand at places of their own and lie in it; a test that computes
abbrev pub part_ok : Shape → Refs → Bool
part_ok shape rs = all_keep (ok_keep shape.keep) shape.keep && (distinct_refs rs && fitting (length shape.keep) (offsets rs))

-- a heap record by its own bytes x, and its owner's image: long enough and sound, then what its references give
unfoldable pub sound_rule : Env → Shape → List ℕ → List ℕ → ℕ → ℕ
sound_rule e shape owner x inner = first_of (pick (leb (length shape.keep) (length x) && is_sound shape e owner (image shape.keep x)) 0 12) inner

-- a plain reference by its two halves r, and the bytes b that it names
abbrev pub plain_by : Region → Need → Content → Env → Region → List ℕ → ℕ
plain_by heap n content e r b = first_of (ref_rule heap n r.at r.len) (under n 0 (ruled content e b))

-- its plain reference at q by its own bytes x; what that names is a part of the table t
abbrev pub own_rule : Region → Env → Refs → List ℕ → List ℕ → List ℕ → ℕ → ℕ
own_rule heap e rs img t x q =
    let r = reference_at x q in
    plain_by heap (need_at q rs img) (content_at q rs) e r (part t r.at r.len)

-- the whole of one whose references are all plain
unfoldable pub part_rule : Region → Env → Shape → Refs → List ℕ → List ℕ → List ℕ → ℕ
part_rule heap e shape rs owner t x = sound_rule e shape owner x (first_over (own_rule heap e rs (image shape.keep x) t x) (offsets rs))

over-same : (f g : ℕ → ℕ) (n : ℕ) (qs : List ℕ) → T (fitting n qs) → ((q : ℕ) → q + 6 ≤ n → f q ≡ g q) → first_over f qs ≡ first_over g qs
over-same f g n [] k s = refl
over-same f g n (q ∷ qs) k s =
    let u = and_yes (leb (q + 6) n) (fitting n qs) k in
    ap₂ first_of (s q (leb→le (q + 6) n u.0)) (over-same f g n qs u.1 s)

long : (x y z : Bool) → (not x && (not y && z)) ≡ true → y ≡ false
long true y z e = let w : false ≡ true = e in absurd (subst (λ (v : Bool). T (not v)) w tt)
long false true z e = let w : false ≡ true = e in absurd (subst (λ (v : Bool). T (not v)) w tt)
long false false z e = refl

-- a reference at q of a record stands in its own bytes as it stands in the table
pub reference-part : (t : List ℕ) (off len q : ℕ) → q + 6 ≤ len → reference_at (part t off len) q ≡ reference_at t (off + q)
reference-part t off len q h =
    let y : off + (q + 4) ≡ off + q + 4 = omega arith in
    ap₂ region (num-part t off len q 4 (omega arith)) (num-part t off len (q + 4) 2 (omega arith) ∙ ap (λ (m : ℕ). num t m 2) y)

module _ (heap : Region) (e : Env) (shape : Shape) (rs : Refs) (t : List ℕ) (k : T (part_ok shape rs)) where
  keeps : T (all_keep (ok_keep shape.keep) shape.keep) × T (distinct_refs rs) × T (fitting (length shape.keep) (offsets rs))
  keeps =
      let u = and_yes (all_keep (ok_keep shape.keep) shape.keep) _ k in
      let v = and_yes (distinct_refs rs) (fitting (length shape.keep) (offsets rs)) u.1 in
      (u.0, v.0, v.1)

  -- what its references give, read one by one from its own bytes as f does
  pub own-refs : (f : ℕ → ℕ) (img : List ℕ) (off len : ℕ) → length shape.keep ≤ len → ((q : ℕ) → q + 6 ≤ length shape.keep → f q ≡ rule_at heap e t off img rs q)
      → first_over f (offsets rs) ≡ refs_rule heap e t off img rs
  own-refs f img off len l s =
      over-same f (rule_at heap e t off img rs) (length shape.keep) (offsets rs) keeps.2 s ∙ sym (refs-over heap e t off img rs keeps.1)

  abbrev refs_at : ℕ → ℕ
  refs_at off = refs_rule heap e t off (image shape.keep (drop off t)) rs

  module _ (owner : List ℕ) where
    abbrev named_rule : ℕ → ℕ → ℕ
    named_rule off len = first_of (pick (leb (length shape.keep) len && is_sound shape e owner (image shape.keep (drop off t))) 0 12) (refs_at off)

    sound-part : (off len inner : ℕ) → off + len ≤ length t → (length shape.keep ≤ len → inner ≡ refs_at off) → sound_rule e shape owner (part t off len) inner ≡ named_rule off len
    unfolding sound_rule
    sound-part off len inner b s = rw sized (go (leb (length shape.keep) len) refl)
      where
        sized : length (part t off len) ≡ len
        sized = simp (length-take, length-drop) (omega arith)

        go : (c : Bool) → leb (length shape.keep) len ≡ c
            → first_of (pick (c && is_sound shape e owner (image shape.keep (part t off len))) 0 12) inner
            ≡ first_of (pick (c && is_sound shape e owner (image shape.keep (drop off t))) 0 12) (refs_at off)
        go false z = refl
        go true z =
            let l = leb-true (length shape.keep) len z in
            ap₂ first_of (ap (λ (x : List ℕ). pick (is_sound shape e owner x) 0 12) (image-part shape.keep t off len keeps.0 l)) (s l)

    -- the reference at r to it; `inner` is what code finds of its references
    module _ (r inner : ℕ) (b : reaches heap (reference_at t r).at (reference_at t r).len ≡ true → (reference_at t r).at + (reference_at t r).len ≤ length t)
        (s : reaches heap (reference_at t r).at (reference_at t r).len ≡ true → length shape.keep ≤ (reference_at t r).len → inner ≡ refs_at (reference_at t r).at) where
      abbrev off : ℕ
      off = (reference_at t r).at

      abbrev len : ℕ
      len = (reference_at t r).len

      abbrev judged : ℕ
      judged = sound_rule e shape owner (named_at t r) inner

      reached-part : (c : Bool) → reaches heap off len ≡ c → first_of (pick c 0 11) judged ≡ first_of (pick c 0 11) (pick (eqb len 0) 0 (named_rule off len))
      reached-part false z = refl
      reached-part true z = sound-part off len inner (b z) (s z) ∙ sym (ap (λ (c : Bool). pick c 0 (named_rule off len)) (long (eqb off 0) (eqb len 0) _ z))

      pub nest-required : first_of (pick (reaches heap off len) 0 11) judged ≡ nest_rule heap Required shape e owner t r (refs_at off)
      nest-required = reached-part (reaches heap off len) refl

      pub nest-optional : pick (eqb off 0 && eqb len 0) 0 (first_of (pick (reaches heap off len) 0 11) judged) ≡ nest_rule heap Optional shape e owner t r (refs_at off)
      nest-optional = go (eqb off 0) (eqb len 0) (reached-part (reaches heap off len) refl)
        where
          go : (x y : Bool) → first_of (pick (reaches heap off len) 0 11) judged ≡ first_of (pick (reaches heap off len) 0 11) (pick y 0 (named_rule off len))
              → pick (x && y) 0 (first_of (pick (reaches heap off len) 0 11) judged)
              ≡ first_of (pick (x && y) 0 (pick (reaches heap off len) 0 11)) (pick y 0 (named_rule off len))
          go true true z = refl
          go true false z = z
          go false y z = z

-- the references of a heap record that names objects alone, by its own bytes
pub plain-refs : (heap : Region) (e : Env) (shape : Shape) (rs : Refs) (t : List ℕ) → T (part_ok shape rs) → T (all_plain rs) → (off len : ℕ) → length shape.keep ≤ len
    → first_over (own_rule heap e rs (image shape.keep (part t off len)) t (part t off len)) (offsets rs) ≡ refs_rule heap e t off (image shape.keep (drop off t)) rs
plain-refs heap e shape rs t k a off len l =
    let img = image shape.keep (drop off t) in
    rw (image-part shape.keep t off len (keeps heap e shape rs t k).0 l)
    (own-refs heap e shape rs t k (own_rule heap e rs img t (part t off len)) img off len l
    (λ q h.
    ap (λ (x : Region). plain_by heap (need_at q rs img) (content_at q rs) e x (part t x.at x.len)) (reference-part t off len q (omega arith))
    ∙ sym (plain_at heap e t off img rs q (plain-only rs q a))))
