use native.Mathlib.Omega.{arith}
use mathlib.Core.Path.{ap₂}
use Prim.Native.Nat.{◌*◌}
use Rattle.rewriter_sizes.proofs.PartLaws.{span_small}
use Rattle.rewriter_sizes.proofs.sizes.list_span.Goals as goal

pub overflow_mul-result : goal.overflow_mul-result
overflow_mul-result c = let m = span_small c.count_of.result c.args.kind c.count_of.ensures.1 in rw c.base_size-size.ensures (omega (arith, m))

pub returns : goal.returns
returns c =
    let k = c.args.kind in (
      ap₂ ◌*◌ c.count_of.ensures.0 c.base_size-size.ensures,
      rw c.base_size-size.ensures (span_small c.count_of.result k c.count_of.ensures.1),
    )
