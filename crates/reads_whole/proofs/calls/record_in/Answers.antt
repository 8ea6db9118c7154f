use Rattle.reads_whole.specs.Whole.{entry_after}
use mathlib.Core.Path.{refl}
use Rattle.reads_whole.proofs.calls.record_in.Goals as goal

pub returns-in-None : goal.returns-in-None
unfolding entry_after
returns-in-None c = (rw (← c.seat_of.ensures, c.in-None.is) c.refuse.ensures, rw c.refuse.ensures refl)

pub returns-in-Some : goal.returns-in-Some
unfolding entry_after
returns-in-Some c = (
  rw (← c.seat_of.ensures, c.in-Some.is) c.done.ensures,
  rw c.done.ensures c.put_entry.ensures,
)
