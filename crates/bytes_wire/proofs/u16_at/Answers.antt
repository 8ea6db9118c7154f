use Rattle.std.proofs.Common.{arith}
use Rattle.laws.specs.Fields.{two_bytes}
use Rattle.bytes_wire.proofs.u16_at.Goals as goal

pub returns : goal.returns
returns c = let a = c.args in omega (arith, two_bytes a.t.now a.at)
