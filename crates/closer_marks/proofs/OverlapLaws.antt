-- A walk of so many steps, and what a heap record shares with the sites that it finds. Assumes nothing.
use mathlib.Core.Path.{◌≡◌, refl, sym, ap, ◌∙◌}
use mathlib.Core.Bool.{Bool, true, false, true≢false, not, ◌&&◌, ◌||◌}
use mathlib.Core.List.{List, [], ◌++◌, append_assoc, append-nil}
use Prim.Native.Nat.{ℕ, zero, suc, ◌+◌, ◌-◌, ◌≤◌, ◌<◌}
use native.Mathlib.Nat.{zero-add}
use native.Mathlib.Omega.{arith}
use native.Mathlib.Decide.{dec_le}
use lib.Dec.{eqb, leb, ltb}
use borrow.Author.Tests.{le-leb, le-ltb, lt-leb, lt-ltb, ne_eqb}
use Rattle.table.specs.Closing.{Site, overlapped, sites}
use Rattle.laws.specs.Fields.{Bytes}
use Rattle.reader.specs.Accepted.{Accepted}
use Rattle.closing_laws.specs.Whole.{hits, hits-append, whole-hits, whole_hits}
use Rattle.closer_sites.specs.declared.Walk.{Walk}
use Rattle.closer_sites.specs.declared.Named.{Named}
use Rattle.closer_sites.specs.Walk.{begun, rest_of, site_of, sites_within, step_of}
use Rattle.closer_sites.specs.Going.{Going, left}
use Rattle.closer_sites.proofs.WalkLaws.{going_on, left_less, left-some, rest_end, rest-first, rest-step}
use Rattle.closer_marks.specs.Shared.{shares}

-- ---- one that a step found

module _ (o n : ℕ) (y : Named) where
  pub met-none : y.len ≡ 0 → hits o n (site_of y) ≡ false
  met-none e = rw e refl

  pub met-behind : (y.len ≡ 0 → ⊥) → o + n ≤ y.off → hits o n (site_of y) ≡ false
  met-behind z h = rw (ne_eqb y.len 0 z, le-leb (o + n) y.off h) refl

  pub met-else : (y.len ≡ 0 → ⊥) → y.off < o + n → hits o n (site_of y) ≡ ltb o (y.off + y.len)
  met-else z h = rw (ne_eqb y.len 0 z, lt-leb (o + n) y.off h) (go (dec_le (y.off + y.len) o))
    where
      go : Dec (y.off + y.len ≤ o) → (not (leb (y.off + y.len) o) || false) ≡ ltb o (y.off + y.len)
      go (yes d) = rw (le-leb (y.off + y.len) o d, le-ltb o (y.off + y.len) d) refl
      go (no d) = rw (lt-leb (y.off + y.len) o (omega arith), lt-ltb o (y.off + y.len) (omega arith)) refl

-- ---- so many steps

module _ (t : List ℕ) where
  pub within_none : (w : Walk) → sites_within t w 0 ≡ []
  unfolding sites_within
  within_none w = refl

  pub within_end : (w : Walk) (n : ℕ) → w.list ≡ 7 → sites_within t w n ≡ []
  unfolding sites_within
  within_end w zero e = refl
  within_end w (suc n) e = rw e refl

  pub within_more : (w : Walk) (n : ℕ) → w.list < 7 → sites_within t w (suc n) ≡ site_of (step_of t w).named ++ sites_within t (step_of t w).walk n
  unfolding sites_within
  within_more w n h = rw (ne_eqb w.list 7 (λ e. omega arith)) refl

  -- one turn of a walk of so many steps
  pub turn : (o n : ℕ) (w : Walk) (steps i : ℕ) → w.list < 7 → i < steps → (c : Bool) → hits o n (site_of (step_of t w).named) ≡ c
      → hits o n (sites_within t w (steps - i)) ≡ (c || hits o n (sites_within t (step_of t w).walk (steps - (i + 1))))
  turn o n w steps i l h c e =
      let z : steps - i ≡ suc (steps - (i + 1)) = omega arith in
      let s = sites_within t (step_of t w).walk (steps - (i + 1)) in
      ap (λ (m : ℕ). hits o n (sites_within t w m)) z
      ∙ ap (hits o n) (within_more w (steps - (i + 1)) l)
      ∙ hits-append o n (site_of (step_of t w).named) s
      ∙ ap (λ (d : Bool). d || hits o n s) e

  -- as many as are left find all
  pub within_all : Accepted t → Bytes t → (n : ℕ) (w : Walk) → Going t w → left w ≤ n → sites_within t w n ≡ rest_of t w
  within_all ok b zero w g h = absurd (omega (arith, left-some t w g))
  within_all ok b (suc n) w g h = go (dec_le 7 w.list) (λ l. within_all ok b n (step_of t w).walk (going_on t ok b w g l) (omega (arith, left_less t w g l)))
    where
      go : Dec (7 ≤ w.list) → (w.list < 7 → sites_within t (step_of t w).walk n ≡ rest_of t (step_of t w).walk) → sites_within t w (suc n) ≡ rest_of t w
      go (yes d) f = let e : w.list ≡ 7 = omega (arith, g.upto) in within_end w (suc n) e ∙ sym (rest_end t w g e)
      go (no d) f =
          let l : w.list < 7 = omega arith in
          within_more w n l ∙ ap (λ (ss : List Site). site_of (step_of t w).named ++ ss) (f l) ∙ sym (rest-step t w g l)

  -- the steps of a walk, and one more
  unfoldable pub Reached : ℕ → Walk → Type 0
  Reached i w = (n : ℕ) → sites_within t begun (i + n) ≡ sites_within t begun i ++ sites_within t w n

  pub reached-first : Reached 0 begun
  unfolding Reached
  reached-first n = ap (sites_within t begun) (zero-add n) ∙ ap (λ (ss : List Site). ss ++ sites_within t begun n) (sym (within_none begun))

  pub reached-found : (i : ℕ) (w : Walk) → w.list < 7 → Reached i w → sites_within t begun (i + 1) ≡ sites_within t begun i ++ site_of (step_of t w).named
  unfolding Reached
  reached-found i w l r =
      let x = site_of (step_of t w).named in
      r 1
      ∙ ap (λ (ss : List Site). sites_within t begun i ++ ss)
      (within_more w 0 l ∙ ap (λ (ss : List Site). x ++ ss) (within_none (step_of t w).walk) ∙ append-nil x)

  pub reached-on : (i : ℕ) (w : Walk) → w.list < 7 → Reached i w → Reached (i + 1) (step_of t w).walk
  unfolding Reached
  reached-on i w l r n =
      let e : i + 1 + n ≡ i + suc n = omega arith in
      let x = site_of (step_of t w).named in
      let s = sites_within t (step_of t w).walk n in
      ap (sites_within t begun) e
      ∙ r (suc n)
      ∙ ap (λ (ss : List Site). sites_within t begun i ++ ss) (within_more w n l)
      ∙ sym (append_assoc (sites_within t begun i) x s)
      ∙ ap (λ (ss : List Site). ss ++ s) (sym (reached-found i w l r))

-- ---- a heap record among the sites

not-shared : (k h w : Bool) → ((not k && not false) && h) ≡ false → ((not k && h) || w) ≡ w
not-shared true h w e = refl
not-shared false true w e = absurd (true≢false e)
not-shared false false w e = refl

is_shared : (k h w : Bool) → ((not k && not false) && h) ≡ true → ((not k && h) || w) ≡ true
is_shared true h w e = absurd (true≢false (sym e))
is_shared false true w e = refl
is_shared false false w e = absurd (true≢false (sym e))

module _ (x : Named) (pre rest : List Site) where
  met : Bool
  met = hits x.off x.len pre || hits x.off x.len rest

  -- no byte shared by this one
  pub shared-no : shares x pre rest ≡ false → whole_hits pre (site_of x ++ rest) ≡ whole_hits (pre ++ site_of x) rest
  unfolding met
  shared-no e = go (eqb x.len 0) refl e
    where
      go : (c : Bool) → eqb x.len 0 ≡ c → ((not (eqb x.kind 0) && not c) && met) ≡ false → whole_hits pre (site_of x ++ rest) ≡ whole_hits (pre ++ site_of x) rest
      go true q e = rw q (ap (λ (ss : List Site). whole_hits ss rest) (sym (append-nil pre)))
      go false q e = rw q (not-shared (eqb x.kind 0) met _ e)

  pub shared-yes : shares x pre rest ≡ true → whole_hits pre (site_of x ++ rest) ≡ true
  unfolding met
  shared-yes e = go (eqb x.len 0) refl e
    where
      none : (k h : Bool) → ((not k && not true) && h) ≡ true → ⊥
      none true h e = true≢false (sym e)
      none false h e = true≢false (sym e)

      go : (c : Bool) → eqb x.len 0 ≡ c → ((not (eqb x.kind 0) && not c) && met) ≡ true → whole_hits pre (site_of x ++ rest) ≡ true
      go true q e = absurd (none (eqb x.kind 0) met e)
      go false q e = rw q (is_shared (eqb x.kind 0) met _ e)

-- before the first step
pub none_found : (t : List ℕ) → overlapped t ≡ whole_hits (sites_within t begun 0) (rest_of t begun)
unfolding overlapped
none_found t = sym (ap (λ (ss : List Site). whole_hits ss (rest_of t begun)) (within_none t begun) ∙ ap (whole_hits []) (rest-first t) ∙ whole-hits (sites t))
