use mathlib.Core.Path.{ap, ◌∙◌}
use Rattle.reader_references.specs.References.{ref_number}
use Rattle.reader_references.proofs.Laws.{ref-rule}
use Rattle.reader_references.proofs.plain_fault.Goals as goal

pub returns : goal.returns
returns c = c.ref_number.ensures ∙ ap (ref_number _) c.ref_at.ensures ∙ ref-rule _ _ _ _
