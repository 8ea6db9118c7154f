use mathlib.Core.List.{List}
use Prim.Native.Nat.{ℕ, ◌+◌, ◌-◌, ◌*◌, ◌/◌, ◌%◌, ◌≤◌}
use native.Mathlib.Omega.{arith}
use Rattle.bytes_bits.proofs.Laws.{bits-then}
use Rattle.bytes_bits.proofs.mark_all.Goals as goal

pub returns : goal.returns
returns c =
    let m : List ℕ = c.args.map.now in
    let a : ℕ = c.args.a in
    let n : ℕ = c.args.n in
    let x : ℕ = (8 - a % 8) % 8 in
    let y : ℕ = 8 * ((n - x) / 8) in
    let h : 8 ≤ n = omega (arith, c.if-n-lt8.false) in
    bits-then m a (x + y) (a + x + y) ((n - x) % 8) n (omega arith) (omega arith)
    (bits-then m a x (8 * ((a + x) / 8)) y (x + y) (omega arith) (omega arith) c.mark_each-2.ensures c.mark_bytes.ensures)
    c.mark_each-3.ensures
