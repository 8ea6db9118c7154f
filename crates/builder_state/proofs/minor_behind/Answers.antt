use mathlib.Core.Path.{refl}
use Rattle.builder_state.proofs.minor_behind.Goals as goal

pub returns-then-newer : goal.returns-then-newer
returns-then-newer c = rw c.if-newer.true refl

pub returns : goal.returns
returns c = rw c.if-newer.false refl
