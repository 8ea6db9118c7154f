use mathlib.Core.Path.{refl}
use borrow.Author.Tests.{ne_eqb}
use Rattle.builder_state.specs.Turns.{later_turn}
use Rattle.table.specs.FixedLayouts.{hfi, ssns, security, discovery}
use Rattle.builder_state.proofs.later_list.Goals as goal

pub returns-in-2 : goal.returns-in-2
unfolding later_turn hfi ssns security discovery
returns-in-2 c = rw c.in-2.is c.first_list.ensures

pub returns-in-3 : goal.returns-in-3
unfolding later_turn hfi ssns security discovery
returns-in-3 c = rw c.in-3.is c.first_list-in-3.ensures

pub returns-in-4 : goal.returns-in-4
unfolding later_turn hfi ssns security discovery
returns-in-4 c = rw c.in-4.is c.first_list-in-4.ensures

pub returns-in-5 : goal.returns-in-5
unfolding later_turn hfi ssns security discovery
returns-in-5 c = rw c.in-5.is c.first_list-in-5.ensures

pub returns-in_default : goal.returns-in_default
unfolding later_turn
returns-in_default c = let m = c.in_default.in_default-own.rest in let k = c.args.state.turn in rw (ne_eqb k 2 m.0.0.0.1, ne_eqb k 3 m.0.0.1, ne_eqb k 4 m.0.1, ne_eqb k 5 m.1) refl
