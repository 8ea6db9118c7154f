use Rattle.bytes_writer.proofs.StoreLaws.{put_one}
use native.Mathlib.Omega.{arith}
use Rattle.bytes_writer.proofs.stores.put_u8.Goals as goal

pub returns : goal.returns
returns c = put_one c.args.part.now c.args.at c.args.value (omega (arith, c.requires))
