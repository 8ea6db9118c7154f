use native.Mathlib.Omega.{arith}
use Rattle.text_addresses.proofs.Groups.{group-is}
use Rattle.text_addresses.proofs.group_at.Goals as goal

pub returns : goal.returns
returns c = let a = c.args in (rw (group-is a.i a.b.now (omega arith)) (cc), omega arith)
