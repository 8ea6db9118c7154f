use mathlib.Core.Path.{refl}
use native.Mathlib.Omega.{arith}
use Rattle.reads_seats.specs.Objects.{handed_len}
use Rattle.reads.proofs.objects.handed_len.Goals as goal

pub returns-then-not-holds_text : goal.returns-then-not-holds_text
unfolding handed_len
returns-then-not-holds_text c = rw (← c.holds_text.ensures, c.if-not-holds_text.true) (refl, omega arith)

pub returns-then-len-eq0 : goal.returns-then-len-eq0
unfolding handed_len
returns-then-len-eq0 c = rw (← c.holds_text.ensures, c.if-not-holds_text.false, c.if-len-eq0.true) (refl, omega arith)

pub returns : goal.returns
unfolding handed_len
returns c = rw (← c.holds_text.ensures, c.if-not-holds_text.false) (refl, omega arith)
