use Rattle.bytes_writer.proofs.RecordLaws.{splice_all}
use mathlib.Core.Path.{sym, ◌∙◌}
use Rattle.reads_whole.proofs.entries.put_head.Goals as goal

pub returns : goal.returns
returns c =
    rw (← c.low.ensures, ← c.bit.ensures, ← c.low-2.ensures)
    (c.copy_into.ensures ∙ splice_all c.args.part.now _ (sym c.requires))
