use native.Mathlib.Omega.{arith}
use lib.Pow.{pow_pos}
use Rattle.bytes_bits.proofs.Laws.{power-is}
use Rattle.bytes_bits.proofs.power.Goals as goal

pub returns : goal.returns
returns c = let e = power-is c.args.k c.requires in (e, omega (arith, e, pow_pos c.args.k))
