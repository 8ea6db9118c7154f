use Rattle.table.specs.Bytes.{le}
use native.Mathlib.Omega.{arith}
use Rattle.bytes_writer.proofs.StoreLaws.{splice-join}
use Rattle.bytes_writer.proofs.stores.put_ref.Goals as goal

pub returns : goal.returns
returns c =
    let a = c.args in
    cc (splice-join a.part.now a.at (le 4 a.target) (le 2 a.len) (omega (arith, c.requires)))
