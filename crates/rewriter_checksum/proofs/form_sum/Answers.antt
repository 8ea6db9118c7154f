use Rattle.std.proofs.Common.{ap, arith}
use Rattle.table.specs.Bytes.{total}
use Rattle.rewriter_checksum.proofs.form_sum.Goals as goal

pub returns : goal.returns
returns c = omega (arith, ap total c.requires.2, c.sum_but-whole.ensures, c.driver_sum-rest.ensures, c.wrapping_add_u8.ensures)
