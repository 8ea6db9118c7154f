use Rattle.rewriter_objects.proofs.LaidLaws.{Walk}
use Rattle.rewriter_sizes.specs.Parts.{objects_of}
use Rattle.rewriter_objects.proofs.lay_objects.Given as goal

abbrev pub invariant-loop-offset : goal.invariant-loop-offset
invariant-loop-offset l = Walk l.t l.kind l.source (objects_of l.kind) l.initial.out l.place l.next l.out l.cursor l.offset-index
