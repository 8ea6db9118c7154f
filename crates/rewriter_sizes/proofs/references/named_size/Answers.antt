use native.Mathlib.Omega.{arith}
use Rattle.rewriter_sizes.proofs.PartLaws.{sized-split}
use Rattle.rewriter_sizes.proofs.references.named_size.Goals as goal

pub returns : goal.returns
returns c =
    let a = c.args in
    let o = c.objects_size-objects.ensures in
    let h = c.held_span-held.ensures in
    (omega (arith, o.0, h.0, sized-split a.t.now c.requires.0 a.kind a.at c.requires.1), omega (arith, o.1, h.1))
