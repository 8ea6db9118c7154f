use Rattle.std.proofs.Common.{◌+◌, arith}
use Rattle.bytes_wire.proofs.Laws.{summed-more, sum_done}
use Rattle.bytes_wire.proofs.sum_of.Goals as goal

pub loop-byte-preserved : goal.loop-byte-preserved
loop-byte-preserved c =
    let i = c.loop-byte.byte-index in
    omega (arith, summed-more c.args.bytes.now 0 i (i + 1) c.loop-byte.sum (omega arith) (omega arith) c.loop-byte.invariant.0)

pub returns : goal.returns
returns c = omega (arith, sum_done c.args.bytes.now c.loop-byte.byte-index (omega arith), c.loop-byte.invariant.0)
