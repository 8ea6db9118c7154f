use Rattle.c_states.specs.States.{state_after}
use Rattle.table.specs.Bytes.{pick}
use lib.Dec.{eqb}
use Prim.Native.Nat.{ℕ}
use mathlib.Core.List.{List}
use mathlib.Core.Path.{ap, ◌∙◌}
use Rattle.c_states.proofs.show.Goals as goal

pub returns : goal.returns
unfolding state_after
returns c =
    let a = c.args in (
      c.pack.ensures,
      c.store.ensures
          ∙ ap (λ (x : List ℕ). pick (eqb a.step.answer.number 0) x a.state.now)
          c.state_bytes.ensures,
    )
