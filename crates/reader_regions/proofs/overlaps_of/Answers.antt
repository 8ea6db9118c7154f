use native.Mathlib.Omega.{arith}
use mathlib.Core.Path.{sym}
use Rattle.reader_regions.proofs.Laws.{none-overlaps}
use Rattle.reader_regions.proofs.overlaps_of.Goals as goal

pub returns-then-one-eq0 : goal.returns-then-one-eq0
returns-then-one-eq0 c = (sym (none-overlaps c.args.one c.args.others.now c.if-one-eq0.true), omega arith)
