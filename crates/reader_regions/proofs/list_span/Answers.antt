use mathlib.Core.Path.{refl}
use Rattle.reader_regions.proofs.Laws.{prod}
use Rattle.reader_regions.specs.Regions.{list_span}
use native.Mathlib.Omega.{arith}
use Rattle.reader_regions.proofs.list_span.Goals as goal

pub overflow_mul-result : goal.overflow_mul-result
overflow_mul-result c = omega (arith, prod 256 65536 c.requires.count c.requires.step)

pub returns : goal.returns
unfolding list_span
returns c = (refl, omega (arith, c.requires.at, prod 256 65536 c.requires.count c.requires.step))
