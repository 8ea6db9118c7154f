use Rattle.c_states.specs.States.{state_bytes}
use mathlib.Core.Path.{refl}
use Rattle.c_states.proofs.state_bytes.Goals as goal

pub returns : goal.returns
unfolding state_bytes
returns c =
    rw (
      c.low.ensures,
      c.low-2.ensures,
      c.low-3.ensures,
      c.low-4.ensures,
      c.low-5.ensures,
      c.low-6.ensures,
      c.low-7.ensures,
      c.low-8.ensures,
      c.low-9.ensures,
      c.low-10.ensures,
      c.low-11.ensures,
      c.low-12.ensures,
    ) refl
