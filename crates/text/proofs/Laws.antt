-- Facts about lists that proofs here and in the crates above share. Assumes nothing.
use Rattle.std.proofs.Common.{◌≡◌, sym, ap, ◌∙◌, List, ◌++◌, ℕ, ◌+◌, ◌-◌, ◌≤◌, length, drop, length-append, arith}
use Rattle.std.proofs.lemmas.List.{drop-drop, drop-replicate}
use Rattle.std.specs.Prelude.{replicate}

-- how much longer a text is by what was put behind it
pub longer-by : {xs : List ℕ} (ys zs : List ℕ) (n : ℕ) → xs ≡ ys ++ zs → length zs ≤ n → length xs ≤ length ys + n
longer-by ys zs n e h = rw (e, length-append ys zs) (omega (arith, h))

-- zeros from n on are zeros from n + k on too
pub zeros-on : (n k : ℕ) (xs : List ℕ) → drop n xs ≡ replicate (128 - n) 0 → drop (n + k) xs ≡ replicate (128 - (n + k)) 0
zeros-on n k xs zeros = sym (drop-drop k n xs) ∙ ap (drop k) zeros ∙ drop-replicate k (128 - n) 0
    ∙ ap (λ (m : ℕ). replicate m 0) (omega arith)
