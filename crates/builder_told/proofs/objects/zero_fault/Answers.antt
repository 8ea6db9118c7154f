use mathlib.Core.Path.{sym, ◌∙◌}
use mathlib.Core.Bool.{true, false}
use Rattle.builder_told.proofs.Laws.{zero-fault}
use Rattle.builder_told.proofs.objects.zero_fault.Goals as goal

pub returns-then-has_zero : goal.returns-then-has_zero
returns-then-has_zero c = zero-fault c.args.object.now true (sym c.if-has_zero.true ∙ c.has_zero.ensures)

pub returns : goal.returns
returns c = zero-fault c.args.object.now false (sym c.if-has_zero.false ∙ c.has_zero.ensures)
