use Rattle.std.proofs.Common.{ℕ, ◌+◌, ◌*◌, ◌/◌, List, [], ◌∷◌, length, arith}
use Rattle.bytes_wire.proofs.Laws.{Summed, sum_rest, summed-none, summed-more, summed-to, summed-all}
use Rattle.bytes_wire.proofs.sum8.Goals.{After-loop-i}
use Rattle.bytes_wire.proofs.sum8.Goals as goal

pub loop-i-init : goal.loop-i-init
loop-i-init c =
    let t = c.args.t.now in
    let q = length t / 4 in
    omega (arith, summed-none t q (q + 0) (omega arith), summed-none t (2 * q) (2 * q + 0) (omega arith), summed-none t (3 * q) (3 * q + 0) (omega arith))

pub loop-i-preserved : goal.loop-i-preserved
loop-i-preserved c =
    let t = c.args.t.now in
    let q = length t / 4 in
    let i = c.loop-i.i in
    let v = c.loop-i.invariant in
    let a = summed-more t 0 i (i + 1) c.loop-i.first (omega arith) (omega arith) v.0.1 in
    let b = summed-more t q (q + i) (q + (i + 1)) c.loop-i.second (omega arith) (omega arith) v.1.1 in
    let d = summed-more t (2 * q) (2 * q + i) (2 * q + (i + 1)) c.loop-i.third (omega arith) (omega arith) v.2.1 in
    let e = summed-more t (3 * q) (3 * q + i) (3 * q + (i + 1)) c.loop-i.fourth (omega arith) (omega arith) v.3.1 in
    omega (arith, a, b, d, e)

-- the quarters' sums together are the sum of what stands before the rest
quarters : (c : After-loop-i) → let t = c.args.t.now in
    Summed t 0 (4 * (length t / 4)) (c.loop-i.first + (c.loop-i.second + (c.loop-i.third + (c.loop-i.fourth + 0))))
quarters c =
    let o = c.loop-i in
    let t = c.args.t.now in
    let q = length t / 4 in
    let i = o.i in
    let xs : List (ℕ × ℕ) = (o.first, q) ∷ (o.second, 2 * q) ∷ (o.third, 3 * q) ∷ (o.fourth, 4 * q) ∷ [] in
    let a = summed-to t 0 i q o.first (omega arith) o.invariant.0.1 in
    let b = summed-to t q (q + i) (2 * q) o.second (omega arith) o.invariant.1.1 in
    let d = summed-to t (2 * q) (2 * q + i) (3 * q) o.third (omega arith) o.invariant.2.1 in
    let e = summed-to t (3 * q) (3 * q + i) (4 * q) o.fourth (omega arith) o.invariant.3.1 in
    summed-all t 0 xs (4 * q) (a, (b, (d, (e, omega arith))))

pub returns : goal.returns
returns c = let t = c.args.t.now in omega (arith, quarters (goal.at.returns c).After-loop-i, sum_rest t (4 * (length t / 4)))
