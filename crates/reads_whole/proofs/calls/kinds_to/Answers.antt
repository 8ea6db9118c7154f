use native.Mathlib.Omega.{arith}
use Rattle.reads_whole.specs.Whole.{kinds_to}
use Rattle.reads_whole.proofs.ListLaws.{min-least}
use Rattle.reads_whole.proofs.calls.kinds_to.Goals as goal

pub returns : goal.returns
unfolding kinds_to
returns c = omega (arith, c.min-end.ensures, min-least c.args.last 10, c.saturating_sub.ensures)
