use mathlib.Core.Path.{◌≡◌, refl}
use Prim.Native.Nat.{ℕ, ◌/◌, ◌%◌, ◌^◌}
use lib.ListN.{get_or}
use native.Mathlib.Omega.{arith}
use Rattle.bytes_bits.proofs.Laws.{room}
use Rattle.bytes_bits.specs.Bits.{bit_at, with_bit}
use Rattle.table.proofs.Rules.{picks}
use Rattle.bytes_bits.proofs.mark.Goals as goal

pub overflow_add-map : goal.overflow_add-map
overflow_add-map c =
    let b : ℕ = get_or c.args.map.now (c.args.n / 8) 0 in
    let e : c.power-p.result ≡ 2 ^ (c.args.n % 8) = c.power-p.ensures.0 in
    omega (
      arith,
      e,
      room (c.args.n % 8) (omega arith) b (omega (arith, c.slice_known-1.given (c.args.n / 8)))
          (rw e at c.if-b-p-eq0.true),
    )

pub returns-then-b-p-eq0 : goal.returns-then-b-p-eq0
unfolding with_bit
returns-then-b-p-eq0 c =
    let e : c.power-p.result ≡ 2 ^ (c.args.n % 8) = c.power-p.ensures.0 in
    let z : bit_at c.args.map.now c.args.n ≡ 0 = rw e at c.if-b-p-eq0.true in
    rw (e, z) refl

pub returns-else-b-p-eq0 : goal.returns-else-b-p-eq0
unfolding with_bit
returns-else-b-p-eq0 c = rw (← c.power-p.ensures.0) (search picks)
