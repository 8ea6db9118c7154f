-- Places of two tables: which positions are there, what stands at each, and that a walk goes over all of it. Assumes nothing.
use mathlib.Core.Path.{◌≡◌, refl, sym, ap, ap₂, ◌∙◌}
use mathlib.Core.Bool.{Bool, true, false}
use mathlib.Core.List.{List, [], ◌∷◌, ◌++◌, append_assoc}
use Prim.Native.Nat.{ℕ, zero, suc, ◌+◌, ◌-◌, ◌≤◌, ◌<◌}
use native.Mathlib.Omega.{arith}
use lib.ListN.{get_or}
use lib.Dec.{eqb, ltb}
use borrow.Author.Tests.{le-leb, le-ltb, lt-leb, lt-ltb, ltb-false, ltb-true, ne_eqb}
use Rattle.table.specs.Layout.{Layout}
use Rattle.table.specs.FixedLayouts.{control, discovery, hfi, security, ssns}
use Rattle.table.specs.Reads.{image_at, list_seat, seat_of}
use Rattle.laws.specs.Fields.{Bytes}
use Rattle.reader.specs.Accepted.{Accepted}
use Rattle.reads_seats.specs.Told.{count_of, image_of}
use Rattle.reads_seats.proofs.MeaningLaws.{counted}
use Rattle.changes.specs.Changes.{Line, only_on}
use Rattle.changes_records.specs.declared.places.Walk.{Walk}
use Rattle.changes_records.specs.Told.{all_lines, list_lines_from, lists_from, longer, most_of, own_lines, pair_lines, position_lines, whole_lines}
use Rattle.changes_records.specs.Walk.{begun, lines_at, next_of, rest_of, walk}

-- ---- the greater count

pub longer-less : (c d : ℕ) → c < d → longer c d ≡ d
longer-less zero d h = refl
longer-less (suc c) zero h = absurd (omega arith)
longer-less (suc c) (suc d) h = ap suc (longer-less c d (omega arith))

pub longer-more : (c d : ℕ) → d ≤ c → longer c d ≡ c
longer-more zero zero h = refl
longer-more zero (suc d) h = absurd (omega arith)
longer-more (suc c) zero h = refl
longer-more (suc c) (suc d) h = ap suc (longer-more c d (omega arith))

-- ---- a position that a list has is read

listed-number : (t : List ℕ) (l : Layout) (c n : ℕ) → 1 ≤ n → n ≤ get_or t (c + 7) 0 → (image_at t (list_seat l t c n)).answer.number ≡ 0
listed-number t l c n lo hi = rw (le-leb 1 n lo, le-leb n (get_or t (c + 7) 0) hi) refl

pub there-listed : (t : List ℕ) → Bytes t → Accepted t → (k n : ℕ) → 3 ≤ k → k ≤ 6 → 1 ≤ n → n ≤ count_of t k → (image_of t k n).answer.number ≡ 0
unfolding image_of seat_of count_of
there-listed t b ok zero n a z lo hi = absurd (omega arith)
there-listed t b ok (suc zero) n a z lo hi = absurd (omega arith)
there-listed t b ok (suc (suc zero)) n a z lo hi = absurd (omega arith)
there-listed t b ok (suc (suc (suc zero))) n a z lo hi = listed-number t hfi 80 n lo (omega (arith, hi, counted t b ok 87 tt (unfold control in refl)))
there-listed t b ok (suc (suc (suc (suc zero)))) n a z lo hi = listed-number t ssns 88 n lo (omega (arith, hi, counted t b ok 95 tt (unfold control in refl)))
there-listed t b ok (suc (suc (suc (suc (suc zero))))) n a z lo hi = listed-number t security 96 n lo (omega (arith, hi, counted t b ok 103 tt (unfold control in refl)))
there-listed t b ok (suc (suc (suc (suc (suc (suc zero)))))) n a z lo hi = listed-number t discovery 104 n lo (omega (arith, hi, counted t b ok 111 tt (unfold control in refl)))
there-listed t b ok (suc (suc (suc (suc (suc (suc (suc k))))))) n a z lo hi = absurd (omega arith)

-- counts, header and host are always there
pub there-front : (t : List ℕ) → ((image_of t 0 0).answer.number ≡ 0) × ((image_of t 1 0).answer.number ≡ 0) × ((image_of t 2 0).answer.number ≡ 0)
unfolding image_of seat_of
there-front t = (refl, refl, refl)

module _ (t u : List ℕ) where
  -- ---- what stands at a position, by the two counts

  pub position-both : (k n : ℕ) → n ≤ count_of t k → n ≤ count_of u k → position_lines t u k n ≡ pair_lines t u k n
  unfolding position_lines
  position-both k n a b = rw (le-leb n (count_of t k) a, le-leb n (count_of u k) b) refl

  pub position-one : (k n : ℕ) → n ≤ count_of t k → count_of u k < n → position_lines t u k n ≡ only_on k n 1 ∷ []
  unfolding position_lines
  position-one k n a b = rw (le-leb n (count_of t k) a, lt-leb n (count_of u k) b) refl

  pub position-other : (k n : ℕ) → count_of t k < n → position_lines t u k n ≡ only_on k n 2 ∷ []
  unfolding position_lines
  position-other k n a = rw (lt-leb n (count_of t k) a) refl

  -- ---- what stands at a place of a list

  module _ (w : Walk) (l : 3 ≤ w.list) where
    no0 : eqb w.list 0 ≡ false
    no0 = ne_eqb w.list 0 (λ z. omega (arith, z, l))

    no1 : eqb w.list 1 ≡ false
    no1 = ne_eqb w.list 1 (λ z. omega (arith, z, l))

    no2 : eqb w.list 2 ≡ false
    no2 = ne_eqb w.list 2 (λ z. omega (arith, z, l))

    pub listed-some : w.position < most_of t u w.list → lines_at t u w ≡ position_lines t u w.list (w.position + 1)
    unfolding lines_at
    listed-some h = rw (no0, no1, no2, lt-ltb w.position (most_of t u w.list) h) refl

    pub listed-none : most_of t u w.list ≤ w.position → lines_at t u w ≡ []
    unfolding lines_at
    listed-none h = rw (no0, no1, no2, le-ltb w.position (most_of t u w.list) h) refl

  -- ---- the next place

  pub next-front : (w : Walk) → w.list < 3 → next_of t u w ≡ walk (w.list + 1) 0
  unfolding next_of
  next-front w h = rw (lt-ltb w.list 3 h) refl

  pub next-some : (w : Walk) → 3 ≤ w.list → w.position < most_of t u w.list → next_of t u w ≡ walk w.list (w.position + 1)
  unfolding next_of
  next-some w l h = rw (le-ltb w.list 3 l, lt-ltb w.position (most_of t u w.list) h) refl

  pub next-over : (w : Walk) → 3 ≤ w.list → most_of t u w.list ≤ w.position → next_of t u w ≡ walk (w.list + 1) 0
  unfolding next_of
  next-over w l h = rw (le-ltb w.list 3 l, le-ltb w.position (most_of t u w.list) h) refl

  -- ---- what stands before the lists

  pub at-counts : (w : Walk) → w.list ≡ 0 → lines_at t u w ≡ own_lines t u 1 0
  unfolding lines_at
  at-counts w h = rw h refl

  pub at-header : (w : Walk) → w.list ≡ 1 → lines_at t u w ≡ whole_lines t u 0 0
  unfolding lines_at
  at-header w h = rw h refl

  pub at-host : (w : Walk) → w.list ≡ 2 → lines_at t u w ≡ pair_lines t u 2 0
  unfolding lines_at
  at-host w h = rw h refl

  -- ---- a walk: all lines are before it, each step takes off what stands there, and none is left at its end

  pub rest-first : rest_of t u begun ≡ all_lines t u
  unfolding rest_of all_lines
  rest-first = refl

  rest-listed : (w : Walk) → 3 ≤ w.list
      → rest_of t u w ≡ list_lines_from t u w.list (w.position + 1) (most_of t u w.list - w.position) ++ lists_from t u (w.list + 1) (6 - w.list)
  unfolding rest_of
  rest-listed w l = rw (no0 w l, no1 w l, no2 w l) refl

  most-end : (k : ℕ) → 7 ≤ k → most_of t u k ≡ 0
  unfolding count_of
  most-end k h = rw (ne_eqb k 3 (λ z. omega (arith, z, h)), ne_eqb k 4 (λ z. omega (arith, z, h)), ne_eqb k 5 (λ z. omega (arith, z, h)), ne_eqb k 6 (λ z. omega (arith, z, h))) refl

  pub rest_end : (w : Walk) → w.list ≡ 7 → rest_of t u w ≡ []
  unfolding list_lines_from lists_from
  rest_end w e =
      let z : most_of t u w.list - w.position ≡ 0 = omega (arith, most-end w.list (omega (arith, e))) in
      let y : 6 - w.list ≡ 0 = omega (arith, e) in
      rest-listed w (omega (arith, e)) ∙ ap₂ (λ (m i : ℕ). list_lines_from t u w.list (w.position + 1) m ++ lists_from t u (w.list + 1) i) z y

  module _ (w : Walk) (l : 3 ≤ w.list) where
    -- on to the next position
    rest_some : w.position < most_of t u w.list → rest_of t u w ≡ lines_at t u w ++ rest_of t u (next_of t u w)
    unfolding list_lines_from
    rest_some h =
        let m : ℕ = most_of t u w.list - (w.position + 1) in
        let e : most_of t u w.list - w.position ≡ suc m = omega (arith, h) in
        let f : suc (w.position + 1) ≡ w.position + 1 + 1 = omega arith in
        let rest : List Line = lists_from t u (w.list + 1) (6 - w.list) in
        rest-listed w l
        ∙ ap (λ (i : ℕ). list_lines_from t u w.list (w.position + 1) i ++ rest) e
        ∙ append_assoc (position_lines t u w.list (w.position + 1)) (list_lines_from t u w.list (suc (w.position + 1)) m) rest
        ∙ ap (λ (i : ℕ). position_lines t u w.list (w.position + 1) ++ (list_lines_from t u w.list i m ++ rest)) f
        ∙ sym (ap₂ ◌++◌ (listed-some w l h) (ap (rest_of t u) (next-some w l h) ∙ rest-listed (walk w.list (w.position + 1)) l))

    -- on to the next list
    rest_over : w.list < 7 → most_of t u w.list ≤ w.position → rest_of t u w ≡ lines_at t u w ++ rest_of t u (next_of t u w)
    unfolding list_lines_from lists_from
    rest_over b h =
        let e : most_of t u w.list - w.position ≡ 0 = omega (arith, h) in
        let k : ℕ = w.list + 1 in
        rest-listed w l
        ∙ ap (λ (i : ℕ). list_lines_from t u w.list (w.position + 1) i ++ lists_from t u k (6 - w.list)) e
        ∙ go (ltb w.list 6) refl
        ∙ sym (ap₂ ◌++◌ (listed-none w l h) (ap (rest_of t u) (next-over w l h)))
      where
        go : (c : Bool) → ltb w.list 6 ≡ c → lists_from t u (w.list + 1) (6 - w.list) ≡ rest_of t u (walk (w.list + 1) 0)
        go true d =
            let z = ltb-true w.list 6 d in
            let f : 6 - w.list ≡ suc (6 - (w.list + 1)) = omega (arith, z) in
            let s : suc (w.list + 1) ≡ w.list + 1 + 1 = omega arith in
            let o : most_of t u (w.list + 1) ≡ most_of t u (w.list + 1) - 0 = omega arith in
            ap (lists_from t u (w.list + 1)) f
            ∙ ap₂ (λ (m i : ℕ). list_lines_from t u (w.list + 1) 1 m ++ lists_from t u i (6 - (w.list + 1))) o s
            ∙ sym (rest-listed (walk (w.list + 1) 0) (omega (arith, l)))
        go false d =
            let z = ltb-false w.list 6 d in
            let f : 6 - w.list ≡ 0 = omega (arith, z) in
            ap (lists_from t u (w.list + 1)) f ∙ sym (rest_end (walk (w.list + 1) 0) (omega (arith, z, b)))

  pub rest-step : (w : Walk) → w.list < 7 → rest_of t u w ≡ lines_at t u w ++ rest_of t u (next_of t u w)
  unfolding rest_of lines_at next_of lists_from
  rest-step w b = go w.list refl (ltb w.position (most_of t u w.list)) refl
    where
      go : (k : ℕ) → w.list ≡ k → (c : Bool) → ltb w.position (most_of t u w.list) ≡ c → rest_of t u w ≡ lines_at t u w ++ rest_of t u (next_of t u w)
      go zero e c d = rw e refl
      go (suc zero) e c d = rw e refl
      go (suc (suc zero)) e c d =
          let o : most_of t u 3 ≡ most_of t u 3 - 0 = omega arith in
          rw e (ap (λ (m : ℕ). pair_lines t u 2 0 ++ (list_lines_from t u 3 1 m ++ lists_from t u 4 3)) o)
      go (suc (suc (suc k))) e true d = rest_some w (omega (arith, e)) (ltb-true w.position (most_of t u w.list) d)
      go (suc (suc (suc k))) e false d = rest_over w (omega (arith, e)) b (ltb-false w.position (most_of t u w.list) d)
