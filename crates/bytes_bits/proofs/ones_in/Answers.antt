use native.Mathlib.Omega.{arith}
use lib.Count.{ones-le}
use Rattle.table.proofs.Rules.{picks}
use Rattle.bytes_bits.proofs.ones_in.Goals as goal

pub returns : goal.returns
returns c = (search picks, ones-le 8 c.from.result (omega (arith, c.from.ensures)))
