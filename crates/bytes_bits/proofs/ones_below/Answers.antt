use mathlib.Core.List.{List}
use lib.ListN.{get_or}
use lib.Count.{ones}
use Rattle.std.proofs.lemmas.List.{length-take-le, get_or-take}
use mathlib.Core.Path.{◌≡◌, sym, ap, ap₂, ◌∙◌}
use Prim.Native.Nat.{ℕ, ◌+◌, ◌*◌, ◌/◌, ◌%◌, ◌^◌, ◌<◌}
use native.Mathlib.Omega.{arith}
use Rattle.bytes_bits.specs.Bits.{bits_below}
use Rattle.bytes_bits.proofs.Laws.{below-byte, below_rest}
use Rattle.bytes_bits.proofs.ones_below.Goals as goal

pub loop-byte-preserved : goal.loop-byte-preserved
loop-byte-preserved c =
    let i = c.loop-byte.byte-index in
    let inv = c.loop-byte.invariant in
    let whole : i < c.args.n / 8 = omega (arith, c.loop-byte-test.true, length-take-le (c.args.n / 8) c.args.map.now (omega arith)) in (
      omega (arith, inv.0, c.ones_in-sum.ensures.1),
      sym (below-byte c.args.map.now i (omega (arith, c.type_inv.map i)) ∙ ap₂ ◌+◌ (sym inv.1) (sym (rw get_or-take at c.ones_in-sum.ensures.0))),
    )

pub returns : goal.returns
returns c =
    let n : ℕ = c.args.n in
    let m : List ℕ = c.args.map.now in
    let q : c.loop-byte.byte-index ≡ n / 8 = omega (arith, c.loop-byte-test.false, c.loop-byte.auto.byte-index-end, length-take-le (n / 8) m (omega arith)) in
    let s : c.loop-byte.sum ≡ bits_below m (8 * (n / 8)) = c.loop-byte.invariant.1 ∙ ap (λ (x : ℕ). bits_below m (8 * x)) q in
    let r : c.ones_in.result ≡ ones (get_or m (n / 8) 0 % 2 ^ (n % 8)) = c.ones_in.ensures.0 ∙ ap (λ (x : ℕ). ones (get_or m (n / 8) 0 % x)) c.power.ensures.0 in
    let d : 8 * (n / 8) + n % 8 ≡ n = omega arith in
    ap₂ ◌+◌ s r ∙ sym (below_rest m (n / 8) (n % 8) (omega arith)) ∙ ap (bits_below m) d
