use mathlib.Core.Path.{refl}
use Rattle.closer_sites.proofs.held_kind.Goals as goal

pub returns-in-7 : goal.returns-in-7
returns-in-7 c = rw c.in-7.is refl
