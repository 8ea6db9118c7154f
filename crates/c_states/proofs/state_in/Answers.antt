use Rattle.c_states.proofs.StateLaws.{state-read}
use native.Mathlib.Omega.{arith}
use Rattle.c_states.proofs.state_in.Goals as goal

pub returns : goal.returns
returns c = (
  state-read c.args.b.now c.u16_at-turn.result c.u16_at-position.result
      c.u32_at-used.result c.u32_at-minor.result c.u16_at-turn.ensures.0
      c.u16_at-position.ensures.0 c.u32_at-used.ensures.0 c.u32_at-minor.ensures.0,
  (
    omega (arith, c.type_inv.b 4),
    omega (arith, c.type_inv.b 5),
    omega (arith, c.type_inv.b 6),
    omega (arith, c.type_inv.b 7),
  ),
)
