use native.Mathlib.Omega.{arith}
use Rattle.builder_told.proofs.marks.set_valid.Goals as goal

pub overflow_mul-flags : goal.overflow_mul-flags
overflow_mul-flags c = omega (arith, c.type_inv.bytes c.args.at)

pub overflow_add-flags : goal.overflow_add-flags
overflow_add-flags c = omega (arith, c.type_inv.bytes c.args.at)
