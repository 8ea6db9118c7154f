-- The memory of a text: its bytes, and zeros behind them. Assumes nothing.
use Rattle.std.specs.Prelude.{List, ◌++◌, ℕ, ◌-◌, ◌≤◌, ◌≡◌, length, take, drop, replicate}
use Rattle.std.proofs.Common.{sym, ap, ◌∙◌, subst, take-append-drop, length-take-le}

-- the bytes d, and as many zeros as 128 bytes have room for behind them
abbrev pub filled : List ℕ → List ℕ
filled d = d ++ replicate (128 - length d) 0

-- the first n of 128 bytes are n
pub length-front : (n : ℕ) (xs : List ℕ) → n ≤ 128 → length xs ≡ 128 → length (take n xs) ≡ n
length-front n xs h long = length-take-le n xs (subst (λ (k : ℕ). n ≤ k) (sym long) h)

-- and where only zeros stand behind these, they give the 128 back
pub filled-front : (n : ℕ) (xs : List ℕ) → n ≤ 128 → length xs ≡ 128 → drop n xs ≡ replicate (128 - n) 0 → filled (take n xs) ≡ xs
filled-front n xs h long zeros = ap (λ (k : ℕ). take n xs ++ replicate (128 - k) 0) (length-front n xs h long)
    ∙ ap (λ (ys : List ℕ). take n xs ++ ys) (sym zeros) ∙ take-append-drop n xs
