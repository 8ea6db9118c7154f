-- What holds of the host's kind and the lists' holds of every kind of record. Assumes nothing.
use Rattle.std.specs.Prelude.{◌≡◌, refl, ℕ, zero, suc, ◌≤◌}
use Rattle.std.proofs.Common.{arith}
use Rattle.table.specs.FixedLayouts.{layout_of, host, hfi, ssns, security, discovery}

pub by-record : (P : ℕ → Type 0) → P 2 → P 3 → P 4 → P 5 → P 6 → (k : ℕ) → 2 ≤ k → k ≤ 6 → P k
by-record P a b c d e zero l h = absurd (omega arith)
by-record P a b c d e (suc zero) l h = absurd (omega arith)
by-record P a b c d e (suc (suc zero)) l h = a
by-record P a b c d e (suc (suc (suc zero))) l h = b
by-record P a b c d e (suc (suc (suc (suc zero)))) l h = c
by-record P a b c d e (suc (suc (suc (suc (suc zero))))) l h = d
by-record P a b c d e (suc (suc (suc (suc (suc (suc zero)))))) l h = e
by-record P a b c d e (suc (suc (suc (suc (suc (suc (suc k))))))) l h = absurd (omega arith)

pub kind-of : (k : ℕ) → 2 ≤ k → k ≤ 6 → (layout_of k).kind ≡ k
unfolding layout_of host hfi ssns security discovery
kind-of = by-record (λ k. (layout_of k).kind ≡ k) refl refl refl refl refl
