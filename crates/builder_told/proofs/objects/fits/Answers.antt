use mathlib.Core.Path.{ap, ◌∙◌}
use lib.ListN.{length}
use Rattle.table.specs.Layout.{anything}
use Rattle.builder_told.specs.Faults.{fault_under}
use Rattle.builder_told.proofs.Laws.{fault-told}
use Rattle.builder_told.proofs.objects.fits.Goals as goal

pub returns : goal.returns
returns c =
    let object = c.args.object.now in
    let need = c.args.need in
    c.fault_under.ensures ∙ ap (fault_under need (length object)) c.bytes_fault.ensures ∙ fault-told need anything object
