use Rattle.rewriter_sizes.proofs.PartLaws.{Adding}
use Rattle.rewriter_sizes.specs.Parts.{objects_of}
use Prim.Native.Nat.{◌*◌, ◌≤◌}
use Rattle.rewriter_sizes.proofs.references.objects_size.Given as goal

abbrev pub invariant-loop-offset : goal.invariant-loop-offset
invariant-loop-offset l = Adding l.t l.kind l.at (objects_of l.kind) l.total l.offset-index × (l.total ≤ 65535 * l.offset-index)
