-- The rules of records by the bytes that are read. Assumes nothing.
use mathlib.Core.Path.{◌≡◌, refl, sym, ap, ◌∙◌}
use mathlib.Core.Bool.{Bool, true, false, ◌&&◌}
use mathlib.Core.List.{List}
use Prim.Native.Nat.{ℕ, zero, suc, ◌+◌, ◌≤◌}
use native.Mathlib.Nat.{add-zero}
use native.Mathlib.Omega.{arith}
use lib.ListN.{get_or, drop}
use lib.Dec.{T, eqb}
use Rattle.table.specs.Bytes.{pick, num}
use Rattle.table.specs.Layout.{image, Layout, base_of, fixed_right, pairs_right, is_right}
use Rattle.table.specs.FixedLayouts.{host, hfi, ssns, security, discovery, layout_of}
use Rattle.table.specs.Rules.{first_of}
use Rattle.laws.specs.Fields.{Bytes, image_in, length-image_in, whole, one_byte, two_bytes}
use Rattle.laws.specs.FieldTests.{chain, fixed_in, fixed-chain, and_assoc}
use Rattle.laws.specs.ListWalk.{env-position}
use Rattle.reader_rules.specs.Records.{right_rule, named_in, named_rule, is_named}

-- ---- the whole rule: ID, type and index, then the two-bit fields

pub right_is : (k : ℕ) (t : List ℕ) (a pos : ℕ) → first_of (named_rule k t a pos) (pick (pairs_right (layout_of k).shape (image_in (layout_of k) t a)) 0 10) ≡ right_rule k t a pos
unfolding named_rule right_rule is_right
right_is k t a pos =
    let x = image_in (layout_of k) t a in
    let s = (layout_of k).shape in
    let index : ℕ → Bool = λ p. eqb (num x s.index.at s.index.len) p in
    both (named_in s x pos) (pairs_right s x)
    ∙ ap (λ (c : Bool). pick c 0 10)
    (and_assoc (fixed_right s.fixed x) (index pos) (pairs_right s x)
    ∙ ap (λ (p : ℕ). fixed_right s.fixed x && (index p && pairs_right s x)) (sym (env-position t pos)))
  where
    both : (c d : Bool) → first_of (pick c 0 10) (pick d 0 10) ≡ pick (c && d) 0 10
    both true d = refl
    both false d = refl

-- ---- each kind's own fields

-- records of these kinds have 32 bytes at least
pub at-least : (k a n : ℕ) → 2 ≤ k → k ≤ 6 → a + base_of (layout_of k) ≤ n → a + 32 ≤ n
unfolding layout_of host hfi ssns security discovery
at-least zero a n x y z = absurd (omega arith)
at-least (suc zero) a n x y z = absurd (omega arith)
at-least (suc (suc zero)) a n x y z = z
at-least (suc (suc (suc zero))) a n x y z = z
at-least (suc (suc (suc (suc zero)))) a n x y z = let w : a + 128 ≤ n = z in omega arith
at-least (suc (suc (suc (suc (suc zero))))) a n x y z = let w : a + 64 ≤ n = z in omega arith
at-least (suc (suc (suc (suc (suc (suc zero)))))) a n x y z = z
at-least (suc (suc (suc (suc (suc (suc (suc k))))))) a n x y z = absurd (omega arith)

-- the record at a of a kind, by its image
named-at : (l : Layout) (t : List ℕ) (a pos : ℕ) → T (fixed_in l.shape.fixed (base_of l))
    → named_in l.shape (image_in l t a) pos ≡ chain l.shape.fixed (image_in l t a) (eqb (num (image_in l t a) l.shape.index.at l.shape.index.len) pos)
named-at l t a pos k = fixed-chain l.shape.fixed (image_in l t a) _ (rw (length-image_in l t a) k)

module _ (t : List ℕ) (a pos : ℕ) (b : Bytes t) where
  at0 : get_or t (a + 0) 0 ≡ get_or t a 0
  at0 = ap (λ (m : ℕ). get_or t m 0) (add-zero a)

  pub host-named : pick (is_named 2 (get_or t a 0) 3 0 pos) 0 10 ≡ named_rule 2 t a pos
  unfolding is_named named_rule layout_of host image_in
  host-named =
      let x = image host.shape.keep (drop a t) in
      let e0 : get_or x 0 0 ≡ get_or t a 0 = whole host.shape.keep t a 0 tt refl (b (a + 0)) ∙ at0 in
      let q : (eqb (get_or x 0 0) 2 && eqb 0 pos) ≡ is_named 2 (get_or t a 0) 3 0 pos = rw e0 in
      sym (ap (λ (c : Bool). pick c 0 10) (named-at host t a pos tt ∙ q))

  pub hfi-named : pick (is_named 3 (get_or t a 0) (get_or t (a + 3) 0) (get_or t (a + 1) 0) pos) 0 10 ≡ named_rule 3 t a pos
  unfolding is_named named_rule layout_of hfi image_in
  hfi-named =
      let x = image hfi.shape.keep (drop a t) in
      let e0 : get_or x 0 0 ≡ get_or t a 0 = whole hfi.shape.keep t a 0 tt refl (b (a + 0)) ∙ at0 in
      let e1 : num x 1 1 ≡ get_or t (a + 1) 0 = one_byte x 1 ∙ whole hfi.shape.keep t a 1 tt refl (b (a + 1)) in
      let e3 : get_or x 3 0 ≡ get_or t (a + 3) 0 = whole hfi.shape.keep t a 3 tt refl (b (a + 3)) in
      let q : (eqb (get_or x 0 0) 3 && (eqb (get_or x 3 0) 3 && eqb (num x 1 1) pos)) ≡ is_named 3 (get_or t a 0) (get_or t (a + 3) 0) (get_or t (a + 1) 0) pos = rw (e0, e3, e1) in
      sym (ap (λ (c : Bool). pick c 0 10) (named-at hfi t a pos tt ∙ q))

  pub ssns-named : pick (is_named 4 (get_or t a 0) (get_or t (a + 5) 0) (num t (a + 1) 2) pos) 0 10 ≡ named_rule 4 t a pos
  unfolding is_named named_rule layout_of ssns image_in
  ssns-named =
      let x = image ssns.shape.keep (drop a t) in
      let e0 : get_or x 0 0 ≡ get_or t a 0 = whole ssns.shape.keep t a 0 tt refl (b (a + 0)) ∙ at0 in
      let f1 = whole ssns.shape.keep t a 1 tt refl (b (a + 1)) in
      let f2 = whole ssns.shape.keep t a 2 tt refl (b (a + 2)) in
      let g : get_or t (a + 1 + 1) 0 ≡ get_or t (a + 2) 0 = ap (λ (m : ℕ). get_or t m 0) (omega arith) in
      let e1 : num x 1 2 ≡ num t (a + 1) 2 = omega (arith, two_bytes x 1, two_bytes t (a + 1), f1, f2, g) in
      let e5 : get_or x 5 0 ≡ get_or t (a + 5) 0 = whole ssns.shape.keep t a 5 tt refl (b (a + 5)) in
      let q : (eqb (get_or x 0 0) 4 && (eqb (get_or x 5 0) 3 && eqb (num x 1 2) pos)) ≡ is_named 4 (get_or t a 0) (get_or t (a + 5) 0) (num t (a + 1) 2) pos = rw (e0, e5, e1) in
      sym (ap (λ (c : Bool). pick c 0 10) (named-at ssns t a pos tt ∙ q))

  pub security-named : pick (is_named 5 (get_or t a 0) 3 (get_or t (a + 1) 0) pos) 0 10 ≡ named_rule 5 t a pos
  unfolding is_named named_rule layout_of security image_in
  security-named =
      let x = image security.shape.keep (drop a t) in
      let e0 : get_or x 0 0 ≡ get_or t a 0 = whole security.shape.keep t a 0 tt refl (b (a + 0)) ∙ at0 in
      let e1 : num x 1 1 ≡ get_or t (a + 1) 0 = one_byte x 1 ∙ whole security.shape.keep t a 1 tt refl (b (a + 1)) in
      let q : (eqb (get_or x 0 0) 5 && eqb (num x 1 1) pos) ≡ is_named 5 (get_or t a 0) 3 (get_or t (a + 1) 0) pos = rw (e0, e1) in
      sym (ap (λ (c : Bool). pick c 0 10) (named-at security t a pos tt ∙ q))

  pub discovery-named : pick (is_named 6 (get_or t a 0) 3 (get_or t (a + 2) 0) pos) 0 10 ≡ named_rule 6 t a pos
  unfolding is_named named_rule layout_of discovery image_in
  discovery-named =
      let x = image discovery.shape.keep (drop a t) in
      let e0 : get_or x 0 0 ≡ get_or t a 0 = whole discovery.shape.keep t a 0 tt refl (b (a + 0)) ∙ at0 in
      let e2 : num x 2 1 ≡ get_or t (a + 2) 0 = one_byte x 2 ∙ whole discovery.shape.keep t a 2 tt refl (b (a + 2)) in
      let q : (eqb (get_or x 0 0) 6 && eqb (num x 2 1) pos) ≡ is_named 6 (get_or t a 0) 3 (get_or t (a + 2) 0) pos = rw (e0, e2) in
      sym (ap (λ (c : Bool). pick c 0 10) (named-at discovery t a pos tt ∙ q))
