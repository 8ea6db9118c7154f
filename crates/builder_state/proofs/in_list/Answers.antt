use mathlib.Core.Path.{refl}
use borrow.Author.Tests.{lt-leb}
use Rattle.builder_state.proofs.Laws.{in-list-is}
use native.Mathlib.Omega.{arith}
use Rattle.builder_state.proofs.in_list.Goals as goal

pub returns-then-position-lt1 : goal.returns-then-position-lt1
returns-then-position-lt1 c = rw (lt-leb 1 c.args.state.position c.if-position-lt1.true) refl

pub returns : goal.returns
returns c = in-list-is c.args.state c.count_of.result c.count_of.ensures.0 (omega (arith, c.if-position-lt1.false))
