use mathlib.Core.Path.{ap, ◌∙◌}
use Prim.Native.Nat.{◌+◌}
use native.Mathlib.Numerals.{add-one}
use lib.ListN.{length}
use Rattle.bytes_bits.specs.Bits.{with_bits}
use Rattle.bytes_bits.specs.MapLaws.{length-mark}
use Rattle.bytes_bits.proofs.mark_each.Goals as goal

pub loop-i-preserved : goal.loop-i-preserved
loop-i-preserved c =
    let a = c.args in
    let inv = c.loop-i.invariant in (
      cc (c.mark.ensures, inv.0, ap (with_bits a.map.now a.a) (add-one c.loop-i.i)),
      ap length c.mark.ensures ∙ length-mark c.loop-i.map (a.a + c.loop-i.i) ∙ inv.1,
    )
