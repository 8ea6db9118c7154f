use Rattle.std.proofs.Common.{arith}
use Rattle.bytes_wire.proofs.Laws.{num4}
use Rattle.bytes_wire.proofs.u32_at.Goals as goal

pub returns : goal.returns
returns c = let a = c.args in omega (arith, num4 a.t.now a.at)
