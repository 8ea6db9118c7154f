-- The closed table is accepted, and means the same. Assumes nothing.
use Rattle.std.specs.Prelude.{◌≡◌, ◌⊎◌, Bool, false, not, ◌&&◌, ◌||◌, ℕ, ◌+◌, ◌*◌, ◌%◌, ◌≤◌, ◌<◌, take, T, eqb, leb}
use Rattle.std.proofs.Math.Path.{refl}
use Rattle.std.proofs.Common.{ap, inl, inr, arith, leb→le}
use Rattle.std.proofs.Math.Bool.{true}
use mathlib.Core.List.{List, [], ◌∷◌}
use Rattle.std.proofs.Math.ListN.{length, get_or}
use Rattle.std.proofs.Math.Facts.{and_yes, or_yes, yes_and, yes_eqb, yes_leb}
use Rattle.table.specs.declared.Region.{Region}
use Rattle.table.specs.Bytes.{num, total}
use Rattle.table.specs.Layout.{Layout, base_of, region}
use Rattle.table.specs.FixedLayouts.{host, list_kinds}
use Rattle.table.specs.Rules.{apart, apart_all, apart_each, cons_if, done, inside, list_regions, long_enough, versioned}
use Rattle.table.specs.Meaning.{meaning}
use Rattle.table.specs.Numbers.{check, heap_in, regions, tests}
use Rattle.laws.specs.TestLaws.{AllPass}
use Rattle.laws.specs.AcceptedMeaning.{lawful, stands}
use Rattle.laws.specs.Standing.{Stands}
use Rattle.laws.specs.Means.{means, taken}
use Rattle.table.specs.Closing.{closed, overlapped, slid}
use Rattle.closing_laws.specs.ClosedBytes.{closed-sum, length-closed}
use Rattle.closing_laws.specs.ClosedStands.{Fenced, closed-stands, front, num-len, num-same, slid-small}
use Rattle.closing_laws.specs.Fencing.{fenced, passed, regs}

-- ---- a shorter last region

or_left : (a b : Bool) → T a → T (a || b)
or_left true b k = tt
or_left false b k = absurd k

or_right : (a b : Bool) → T b → T (a || b)
or_right true b k = tt
or_right false b k = k

apart-shorter : (x : Region) (a n m : ℕ) → m ≤ n → T (apart x (region a n)) → T (apart x (region a m))
apart-shorter x a n m h k = go (or_yes (leb (x.at + x.len) a) (leb (a + n) x.at) k)
  where
    go : T (leb (x.at + x.len) a) ⊎ T (leb (a + n) x.at) → T (apart x (region a m))
    go (inl e) = or_left (leb (x.at + x.len) a) (leb (a + m) x.at) e
    go (inr e) = or_right (leb (x.at + x.len) a) (leb (a + m) x.at) (let f = leb→le (a + n) x.at e in yes_leb {a = a + m} {b = x.at} (omega arith))

module _ (a n m : ℕ) (c : Bool) (h : m ≤ n) where
  tail_all : (d : Bool) (x : Region) → T (apart_all x (region a n ∷ [])) → T (apart_all x (cons_if d (region a m) []))
  tail_all true x k = yes_and (apart x (region a m)) true (apart-shorter x a n m h (and_yes (apart x (region a n)) true k).0) tt
  tail_all false x k = tt

  tail-each : (d : Bool) → T (apart_each (cons_if d (region a m) []))
  tail-each true = tt
  tail-each false = tt

  tail-inside : (d : Bool) (lo hi : ℕ) → T (inside lo hi (region a n ∷ [])) → T (inside lo hi (cons_if d (region a m) []))
  tail-inside true lo hi k =
      let u = and_yes (leb lo a) (leb (a + n) hi) (and_yes (leb lo a && leb (a + n) hi) true k).0 in
      let f = leb→le (a + n) hi u.1 in
      yes_and (leb lo a && leb (a + m) hi) true (yes_and (leb lo a) (leb (a + m) hi) u.0 (yes_leb {a = a + m} {b = hi} (omega arith))) tt
  tail-inside false lo hi k = tt

  cons-all : (d : Bool) (x r : Region) (xs ys : List Region) → (T (apart_all x xs) → T (apart_all x ys)) → T (apart_all x (cons_if d r xs)) → T (apart_all x (cons_if d r ys))
  cons-all true x r xs ys f k = let u = and_yes (apart x r) (apart_all x xs) k in yes_and (apart x r) (apart_all x ys) u.0 (f u.1)
  cons-all false x r xs ys f k = f k

  cons-each : (d : Bool) (r : Region) (xs ys : List Region)
      → (T (apart_all r xs) → T (apart_all r ys))
      → (T (apart_each xs) → T (apart_each ys))
      → T (apart_each (cons_if d r xs))
      → T (apart_each (cons_if d r ys))
  cons-each true r xs ys f g k = let u = and_yes (apart_all r xs) (apart_each xs) k in yes_and (apart_all r ys) (apart_each ys) (f u.0) (g u.1)
  cons-each false r xs ys f g k = g k

  cons-inside : (d : Bool) (lo hi : ℕ) (r : Region) (xs ys : List Region) → (T (inside lo hi xs) → T (inside lo hi ys)) → T (inside lo hi (cons_if d r xs)) → T (inside lo hi (cons_if d r ys))
  cons-inside true lo hi r xs ys f k =
      let u = and_yes (leb lo r.at && leb (r.at + r.len) hi) (inside lo hi xs) k in
      yes_and (leb lo r.at && leb (r.at + r.len) hi) (inside lo hi ys) u.0 (f u.1)
  cons-inside false lo hi r xs ys f k = f k

  module _ (t : List ℕ) where
    lists-all : (ls : List Layout) (p : ℕ) (x : Region) → T (apart_all x (list_regions ls t p (region a n ∷ []))) → T (apart_all x (list_regions ls t p (cons_if c (region a m) [])))
    unfolding list_regions
    lists-all [] p x k = tail_all c x k
    lists-all (l ∷ ls) p x k = cons-all (not (eqb (get_or t (p + 7) 0) 0)) x _ _ _ (lists-all ls (p + 8) x) k

    lists-each : (ls : List Layout) (p : ℕ) → T (apart_each (list_regions ls t p (region a n ∷ []))) → T (apart_each (list_regions ls t p (cons_if c (region a m) [])))
    unfolding list_regions
    lists-each [] p k = tail-each c
    lists-each (l ∷ ls) p k = cons-each (not (eqb (get_or t (p + 7) 0) 0)) _ _ _ (lists-all ls (p + 8) _) (lists-each ls (p + 8)) k

    lists-inside : (lo hi : ℕ) (ls : List Layout) (p : ℕ) → T (inside lo hi (list_regions ls t p (region a n ∷ []))) → T (inside lo hi (list_regions ls t p (cons_if c (region a m) [])))
    unfolding list_regions
    lists-inside lo hi [] p k = tail-inside c lo hi k
    lists-inside lo hi (l ∷ ls) p k = cons-inside (not (eqb (get_or t (p + 7) 0) 0)) lo hi _ _ _ (lists-inside lo hi ls (p + 8)) k

-- ---- the control record is the same

module _ (t : List ℕ) (g : Fenced t) where
  low : (i : ℕ) → 48 ≤ i → i < 128 → get_or (closed t) i 0 ≡ get_or t i 0
  low i h k = front t g i (inr (omega arith)) (inr h) k

  low-num : (i n : ℕ) → 48 ≤ i → i + n ≤ 128 → num (closed t) i n ≡ num t i n
  low-num i n h k = num-same t (closed t) i n (λ j l. low (i + j) (omega arith) (omega arith))

  regions-same : (ls : List Layout) (c : ℕ) (tail : List Region) → 48 ≤ c → c + length ls * 8 ≤ 128 → list_regions ls (closed t) c tail ≡ list_regions ls t c tail
  unfolding list_regions
  regions-same [] c tail lo hi = refl
  regions-same (l ∷ ls) c tail lo hi =
      rw (low (c + 7) (omega arith) (omega arith), low-num c 4 lo (omega arith), low-num (c + 4) 2 (omega arith) (omega arith), regions-same ls (c + 8) tail (omega arith) (omega arith)) refl

  long_same : (ls : List Layout) (c : ℕ) → 48 ≤ c → c + length ls * 8 ≤ 128 → long_enough ls (closed t) c ≡ long_enough ls t c
  unfolding long_enough
  long_same [] c lo hi = refl
  long_same (l ∷ ls) c lo hi =
      rw (low (c + 7) (omega arith) (omega arith), low-num (c + 4) 2 (omega arith) (omega arith), long_same ls (c + 8) (omega arith) (omega arith)) refl

  versioned-same : (ls : List Layout) (c : ℕ) → 48 ≤ c → c + length ls * 8 ≤ 128 → versioned ls (closed t) c ≡ versioned ls t c
  unfolding versioned
  versioned-same [] c lo hi = refl
  versioned-same (l ∷ ls) c lo hi =
      rw (low (c + 7) (omega arith) (omega arith), low (c + 6) (omega arith) (omega arith), versioned-same ls (c + 8) (omega arith) (omega arith)) refl

-- ---- an accepted table without overlap

module _ (t : List ℕ) (b : (i : ℕ) → get_or t i 0 < 256) (ok : check t ≡ done) (nov : T (not (overlapped t))) where
  g : Fenced t
  g = fenced t b ok nov

  k : ℕ
  k = slid t (heap_in t).len

  early : (i n : ℕ) → i + n ≤ 9 → num (closed t) i n ≡ num t i n
  early i n h = num-same t (closed t) i n (λ j l. front t g (i + j) (inl (omega arith)) (inl (omega arith)) (omega arith))

  heap-same : num (closed t) 36 4 ≡ num t 36 4
  heap-same = num-same t (closed t) 36 4 (λ j l. front t g (36 + j) (inr (omega arith)) (inl (omega arith)) (omega arith))

  O : Region
  O = region (num t 72 4) (num t 76 2)

  L : List Region
  L = list_regions list_kinds t 80 (cons_if (not (eqb k 0)) (region (num t 36 4) k) [])

  new-regs : regions (closed t) ≡ O ∷ L
  unfolding regions O L k
  new-regs =
      rw (low-num t g 72 4 (omega arith) (omega arith), low-num t g 76 2 (omega arith) (omega arith), heap-same, num-len t g)
      (ap (λ (r : List Region). region (num t 72 4) (num t 76 2) ∷ r) (regions-same t g list_kinds 80 (cons_if (not (eqb k 0)) (region (num t 36 4) k) []) (omega arith) (omega arith)))

  shorter : k ≤ num t 40 4
  unfolding k heap_in
  shorter = slid-small t g

  old-regs : regions t ≡ O ∷ list_regions list_kinds t 80 (region (num t 36 4) (num t 40 4) ∷ [])
  unfolding heap_in O
  old-regs = regs t b ok nov

  still-in : (lo hi : ℕ) → T (inside lo hi (regions t)) → T (inside lo hi (regions (closed t)))
  unfolding L
  still-in lo hi h =
      rw new-regs (cons-inside (num t 36 4) (num t 40 4) k (not (eqb k 0)) shorter true lo hi O
      (list_regions list_kinds t 80 (region (num t 36 4) (num t 40 4) ∷ []))
      (list_regions list_kinds t 80 (cons_if (not (eqb k 0)) (region (num t 36 4) k) []))
      (lists-inside (num t 36 4) (num t 40 4) k (not (eqb k 0)) shorter t lo hi list_kinds 80) (rw old-regs at h))

  still-apart : T (apart_each (regions t)) → T (apart_each (regions (closed t)))
  unfolding L
  still-apart h =
      rw new-regs (cons-each (num t 36 4) (num t 40 4) k (not (eqb k 0)) shorter true O
      (list_regions list_kinds t 80 (region (num t 36 4) (num t 40 4) ∷ []))
      (list_regions list_kinds t 80 (cons_if (not (eqb k 0)) (region (num t 36 4) k) []))
      (lists-all (num t 36 4) (num t 40 4) k (not (eqb k 0)) shorter t list_kinds 80 O)
      (lists-each (num t 36 4) (num t 40 4) k (not (eqb k 0)) shorter t list_kinds 80) (rw old-regs at h))

  pub closed-passes : AllPass (tests (closed t))
  unfolding tests
  closed-passes =
      let p = passed t b ok nov in
      let n : length (closed t) ≡ length t = length-closed t g.roomy in
      let size : num (closed t) 4 4 ≡ num t 4 4 = early 4 4 (omega arith) in
      let csl : num (closed t) 68 2 ≡ num t 68 2 = low-num t g 68 2 (omega arith) (omega arith) in
      let at : (i : ℕ) → 48 ≤ i → i < 128 → get_or (closed t) i 0 ≡ get_or t i 0 = low t g in
      let v = and_yes (leb (base_of host) (num t 76 2)) _ p.1.1.1.1.1.1.1.0 in
      let v₁ = and_yes (long_enough list_kinds t 80) _ v.1 in
      let v₂ = and_yes (inside (64 + num t 68 2) (num t 4 4) (regions t)) _ v₁.1 in
      let w = and_yes (eqb (get_or t 78 0) 1) _ p.1.1.1.1.1.1.1.1.0 in (
        rw n p.0,
        (
          rw (early 0 4 (omega arith)) p.1.0,
          (
            rw (size, n) p.1.1.0,
            (
              rw size p.1.1.1.0,
              (
                rw size (yes_eqb {a = total (take (num t 4 4) (closed t)) % 256} {b = 0}
                    (closed-sum t g.roomy
                    (leb→le 160 (num t 4 4) (and_yes (leb 160 (num t 4 4)) _ p.1.1.0).0))),
                (
                  rw (front t g 8 (inl (omega arith)) (inl (omega arith)) (omega arith))
                      p.1.1.1.1.1.0,
                  (
                    rw (
                      at 64 (omega arith) (omega arith),
                      at 65 (omega arith) (omega arith),
                      csl,
                      size,
                      at 70 (omega arith) (omega arith),
                    ) p.1.1.1.1.1.1.0,
                    (
                      rw (
                        low-num t g 76 2 (omega arith) (omega arith),
                        long_same t g list_kinds 80 (omega arith) (omega arith),
                        csl,
                        size,
                      ) (yes_and (leb (base_of host) (num t 76 2)) _ v.0
                          (yes_and (long_enough list_kinds t 80) _ v₁.0
                          (yes_and
                          (inside (64 + num t 68 2) (num t 4 4) (regions (closed t))) _
                          (still-in (64 + num t 68 2) (num t 4 4) v₂.0)
                          (still-apart v₂.1)))),
                      (
                        rw (
                          at 78 (omega arith) (omega arith),
                          versioned-same t g list_kinds 80 (omega arith)
                              (omega arith),
                        ) (yes_and (eqb (get_or t 78 0) 1) _ w.0 w.1),
                        tt,
                      ),
                    ),
                  ),
                ),
              ),
            ),
          ),
        ),
      )

  pub still-stands : Stands (closed t) (meaning t)
  still-stands = closed-stands t g (meaning t) (lawful t b ok).shapes (stands t b ok)

  -- the closed table is accepted
  pub closed-accepted : check (closed t) ≡ done
  closed-accepted = taken (closed t) (meaning t) (lawful t b ok) still-stands closed-passes

  -- and means the same
  pub closed-means : meaning (closed t) ≡ meaning t
  closed-means = means (closed t) (meaning t) (lawful t b ok).shapes still-stands
