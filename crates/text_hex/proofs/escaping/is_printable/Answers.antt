use Rattle.text_hex.specs.Escapes.{printable}
use borrow.Author.Tests.{le-leb, lt-leb}
use Rattle.std.proofs.Common.{refl}
use Rattle.text_hex.proofs.escaping.is_printable.Goals as goal

pub returns-then-b-ge32 : goal.returns-then-b-ge32
unfolding printable
returns-then-b-ge32 c = rw (le-leb 0x20 c.args.b c.if-b-ge32.true) refl

pub returns-else-b-ge32 : goal.returns-else-b-ge32
unfolding printable
returns-else-b-ge32 c = rw (lt-leb 0x20 c.args.b c.if-b-ge32.false) refl
