-- The closed heap has no byte that no site names, so that closing again moves none. Assumes nothing.
use Rattle.std.specs.Prelude.{◌≡◌, refl, ◌⊎◌, Bool, true, false, not, ◌&&◌, List, [], ◌∷◌, get_or, T, eqb, leb, ltb}
use Rattle.std.proofs.Common.{sym, ◌∙◌, inl, inr, zero-add, arith, leb→le, ltb→lt}
use Rattle.std.proofs.Math.Path.{ap}
use Prim.Native.Nat.{ℕ, zero, suc, ◌+◌, ◌-◌, ◌≤◌, ◌<◌}
use Rattle.std.proofs.Math.Facts.{and_yes, or_yes, yes_eqb}
use Rattle.table.specs.Rules.{done}
use Rattle.table.specs.Meaning.{Meaning, meaning}
use Rattle.table.specs.Numbers.{check, heap_in}
use Rattle.laws.specs.Lawful.{Shaped}
use Rattle.laws.specs.Standing.{Stands}
use Rattle.table.specs.Closing.{Site, closed, covers, goes, marks, moved, moved_of, one, ones, overlapped, sites, slid}
use Rattle.closing_laws.specs.Members.{In}
use Rattle.closing_laws.specs.SlidLaws.{ones-stretch}
use Rattle.closing_laws.specs.Carrying.{covered, site-slides}
use Rattle.closing_laws.specs.ClosedStands.{Fenced, heap-at, heap_len_lem}
use Rattle.closing_laws.specs.Fencing.{fenced}
use Rattle.laws.specs.AcceptedMeaning.{lawful, stands}
use Rattle.closing_laws.specs.Walks.{ones-onto}
use Rattle.closing_laws.specs.Twins.{sites-twins, twin-of}

-- where all are marked none moves
one-no : (c d : Bool) → T d → one (c && not d) ≡ 0
one-no true true k = refl
one-no false true k = refl
one-no c false k = absurd k

moved_none : (f : ℕ → Bool) (k : ℕ) → ((j : ℕ) → j < k → T (f j)) → moved_of f k ≡ 0
moved_none f zero h = refl
moved_none f (suc k) h =
    let e : ones f k ≡ k = ap (ones f) (sym (zero-add k)) ∙ ones-stretch f 0 k (λ j l. rw (zero-add j) (h j (omega arith))) ∙ omega arith in
    omega (arith, moved_none f k (λ j l. h j (omega arith)), one-no (f k) (eqb (ones f k) k) (yes_eqb {a = ones f k} {b = k} e))

uncover : (ss : List Site) (n : ℕ) → T (covers ss n) → (s : Site) × In s ss × (s.off ≤ n) × (n < s.off + s.len)
uncover [] n k = absurd k
uncover (y ∷ ys) n k = go (or_yes (leb y.off n && ltb n (y.off + y.len)) (covers ys n) k) (uncover ys n)
  where
    go : T (leb y.off n && ltb n (y.off + y.len)) ⊎ T (covers ys n)
        → (T (covers ys n) → (s : Site) × In s ys × (s.off ≤ n) × (n < s.off + s.len))
        → (s : Site) × In s (y ∷ ys) × (s.off ≤ n) × (n < s.off + s.len)
    go (inl h) r = let z = and_yes (leb y.off n) (ltb n (y.off + y.len)) h in (y, inl refl, leb→le y.off n z.0, ltb→lt n (y.off + y.len) z.1)
    go (inr h) r = let z = r h in (z.0, inr z.1, z.2, z.3)

module _ (t : List ℕ) (g : Fenced t) where
  -- every heap byte of the closed table is marked
  pub full : (m : Meaning) → Shaped m → Stands t m → (n : ℕ) → n < (heap_in (closed t)).len → T (marks (closed t) n)
  unfolding marks slid goes
  full m w st n h =
      let y = ones-onto (marks t) (heap_in t).len n (rw (heap_len_lem t g) at h) in
      let k : ℕ = y.0 in
      let z = uncover (sites t) ((heap_in t).at + k) y.2 in
      let s : Site = z.0 in
      let a = (g.sound s z.1).from in
      let j : ℕ = (heap_in t).at + k - s.off in
      let d : k ≡ s.off - (heap_in t).at + j = omega (arith, z.2) in
      let e : slid t (s.off - (heap_in t).at + j) ≡ slid t (s.off - (heap_in t).at) + j = site-slides t g.roomy g.sound s z.1 j (omega (arith, z.3)) in
      let q : slid t k ≡ n = y.3 in
      let r : slid t k ≡ slid t (s.off - (heap_in t).at + j) = ap (slid t) d in
      let x = twin-of t (sites t) (sites (closed t)) (sites-twins t g m w st) s z.1 in
      covered (sites (closed t)) x.0 ((heap_in (closed t)).at + n) x.1 (omega (arith, x.2.off, heap-at t g)) (omega (arith, x.2.off, x.2.len, heap-at t g, z.3))

  -- closing again moves nothing
  full-moved : (m : Meaning) → Shaped m → Stands t m → moved (closed t) ≡ 0
  unfolding moved
  full-moved m w st = moved_none (marks (closed t)) (heap_in (closed t)).len (full m w st)

-- ---- an accepted table without overlap

module _ (t : List ℕ) (b : (i : ℕ) → get_or t i 0 < 256) (ok : check t ≡ done) (nov : T (not (overlapped t))) where
  pub closed-full : (n : ℕ) → n < (heap_in (closed t)).len → T (marks (closed t) n)
  closed-full = full t (fenced t b ok nov) (meaning t) (lawful t b ok).shapes (stands t b ok)

  pub closed-again : moved (closed t) ≡ 0
  closed-again = full-moved t (fenced t b ok nov) (meaning t) (lawful t b ok).shapes (stands t b ok)
