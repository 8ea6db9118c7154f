-- Laws of rows that stand behind one another, all of one length. Assumes nothing.
use mathlib.Core.Path.{◌≡◌, sym, ap, ap₂, ◌∙◌}
use mathlib.Core.List.{List, ◌++◌, append-nil, append_assoc}
use Prim.Native.Nat.{ℕ, zero, suc, ◌+◌, ◌-◌, ◌*◌, ◌≤◌}
use native.Mathlib.Nat.{add-zero, zero-add, mul-zero}
use native.Mathlib.Numerals.{add-one}
use native.Mathlib.Omega.{arith}
use lib.ListN.{length, take, drop, length-append}
use lib.Seq.{take_at, drop_at}
use Rattle.table.specs.Bytes.{splice}
use Rattle.bytes_writer.proofs.StoreLaws.{splice-next}
use Rattle.reads_whole.specs.Whole.{rows}

module _ (row : ℕ → List ℕ) where
  -- one row more
  rows_more : (n m : ℕ) → rows row n (suc m) ≡ rows row n m ++ row (n + m)
  unfolding rows
  rows_more n zero = append-nil (row n) ∙ ap row (sym (add-zero n))
  rows_more n (suc m) =
      let e : n + 1 + m ≡ n + suc m = omega arith in
      ap (λ (x : List ℕ). row n ++ x) (rows_more (n + 1) m ∙ ap (λ (j : ℕ). rows row (n + 1) m ++ row j) e)
      ∙ sym (append_assoc (row n) (rows row (n + 1) m) (row (n + suc m)))

  -- the first m of more
  rows_join : (n m r : ℕ) → rows row n (m + r) ≡ rows row n m ++ rows row (n + m) r
  unfolding rows
  rows_join n zero r = ap₂ (rows row) (sym (add-zero n)) (zero-add r)
  rows_join n (suc m) r =
      let e : suc m + r ≡ suc (m + r) = omega arith in
      let f : n + 1 + m ≡ n + suc m = omega arith in
      ap (rows row n) e
      ∙ ap (λ (x : List ℕ). row n ++ x) (rows_join (n + 1) m r ∙ ap (λ (j : ℕ). rows row (n + 1) m ++ rows row j r) f)
      ∙ sym (append_assoc (row n) (rows row (n + 1) m) (rows row (n + suc m) r))

  module _ (w : ℕ) (each : (i : ℕ) → length (row i) ≡ w) where
    pub rows_long : (n m : ℕ) → length (rows row n m) ≡ w * m
    unfolding rows
    rows_long n zero = sym (mul-zero w)
    rows_long n (suc m) = let e = rows_long (n + 1) m in let f = each n in let g = length-append (row n) (rows row (n + 1) m) in omega (arith, e, f, g)

    -- a turn of a loop that writes them: x is what stood there, y what one store left
    pub rows-turn : (d x y : List ℕ) (n i at : ℕ) → w * i ≤ length d → at ≡ w * i → x ≡ splice d 0 (rows row n i) → y ≡ splice x at (row (n + i))
        → y ≡ splice d 0 (rows row n (i + 1))
    rows-turn d x y n i at h p e f =
        let l = rows_long n i in
        splice-next d x y 0 at (rows row n i) (row (n + i)) (omega (arith, l)) (omega (arith, l, p)) e f
        ∙ ap (splice d 0) (sym (rows_more n i) ∙ ap (rows row n) (sym (add-one i)))

    pub rows_take : (n m left : ℕ) (ys : List ℕ) → m ≤ left → take (w * m) (rows row n left ++ ys) ≡ rows row n m
    rows_take n m left ys h =
        let e : left ≡ m + (left - m) = omega arith in
        let f = rows_join n m (left - m) in
        ap (λ (x : List ℕ). take (w * m) (x ++ ys)) (ap (rows row n) e ∙ f)
        ∙ ap (take (w * m)) (append_assoc (rows row n m) (rows row (n + m) (left - m)) ys)
        ∙ take_at (rows row n m) (rows row (n + m) (left - m) ++ ys) (w * m) (rows_long n m)

    pub rows_drop : (n left : ℕ) (ys : List ℕ) → drop (w * left) (rows row n left ++ ys) ≡ ys
    rows_drop n left ys = drop_at (rows row n left) ys (w * left) (rows_long n left)
