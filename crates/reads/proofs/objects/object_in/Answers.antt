use mathlib.Core.Path.{◌∙◌}
use native.Mathlib.Omega.{arith}
use Rattle.reads.proofs.HandedLaws.{handed-at, handed-bytes}
use Rattle.reads.proofs.objects.object_in.Goals as goal

pub returns : goal.returns
returns c =
    let a = c.args in
    let w = c.whole_object-whole in
    let h = c.handed_len-len.ensures in
    let p = c.part_of.ensures in
    let e = handed-at a.t.now c.requires a.kind a.position a.off in (
      handed-bytes a.t.now c.requires a.kind a.position a.off w.result.now c.part_of.result.now c.handed_len-len.result
          w.ensures.0 h.0 h.1 p.0,
      p.1 ∙ w.ensures.1,
      omega (arith, p.2, w.ensures.2, e),
    )
