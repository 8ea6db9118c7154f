-- Products of bounded numbers, and spans one by one. Assumes nothing.
use Prim.Native.Nat.{ℕ, zero, suc, ◌*◌, ◌≤◌, ◌<◌}
use native.Mathlib.Nat.{le_trans, le_of_lt, mul-le-mul_left, mul-le-mul_right}
use native.Mathlib.Omega.{arith}
use mathlib.Core.List.{List, [], ◌∷◌}
use mathlib.Core.Path.{◌≡◌, refl}
use Rattle.std.specs.Prelude.{All}
use Rattle.reader_spans.specs.declared.Span.{Span}
use Rattle.reader_spans.specs.Spans.{Ends, overlap}
use Rattle.reader_regions.specs.Regions.{overlaps_of}

-- a product of two bounded numbers is bounded
pub prod : {a b : ℕ} (m n : ℕ) → a < m → b < n → a * b ≤ m * n
prod {a} {b} m n ha hb = le_trans (mul-le-mul_left a (le_of_lt hb)) (mul-le-mul_right n (le_of_lt ha))

-- what holds of six spans one by one holds of each of them
pub all-six : (a b c d e f : Span) → Ends a → Ends b → Ends c → Ends d → Ends e → Ends f → All Ends (a ∷ b ∷ c ∷ d ∷ e ∷ f ∷ [])
all-six a b c d e f p q r s t u zero x h = p
all-six a b c d e f p q r s t u (suc zero) x h = q
all-six a b c d e f p q r s t u (suc (suc zero)) x h = r
all-six a b c d e f p q r s t u (suc (suc (suc zero))) x h = s
all-six a b c d e f p q r s t u (suc (suc (suc (suc zero)))) x h = t
all-six a b c d e f p q r s t u (suc (suc (suc (suc (suc zero))))) x h = u
all-six a b c d e f p q r s t u (suc (suc (suc (suc (suc (suc k)))))) x h = absurd (omega arith)

-- a region that is none shares no byte
pub none-overlaps : (x : Span) (ys : List Span) → x.present ≡ 0 → overlaps_of x ys ≡ 0
unfolding overlap
none-overlaps x [] e = refl
none-overlaps x (y ∷ ys) e = rw (e, none-overlaps x ys e) refl
