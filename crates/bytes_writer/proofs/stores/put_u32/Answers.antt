use Rattle.table.specs.Bytes.{le}
use native.Mathlib.Omega.{arith}
use Prim.Native.Nat.{◌/◌}
use Rattle.bytes_writer.proofs.StoreLaws.{splice-join}
use Rattle.bytes_writer.proofs.stores.put_u32.Goals as goal

pub returns : goal.returns
returns c =
    let a = c.args in
    cc (splice-join a.part.now a.at (le 2 a.value) (le 2 (a.value / 256 / 256)) (omega (arith, c.requires)))
