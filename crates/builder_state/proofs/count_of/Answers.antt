use mathlib.Core.Path.{refl, sym}
use Rattle.builder_state.proofs.Laws.{none}
use lib.Dec.{lit≤}
use native.Mathlib.Omega.{arith}
use Rattle.table.specs.FixedLayouts.{hfi, ssns, security, discovery}
use Rattle.builder_state.proofs.count_of.Goals as goal

pub returns-in-3 : goal.returns-in-3
unfolding hfi ssns security discovery
returns-in-3 c = (rw c.in-3.is refl, omega (arith, c.struct_known-1.given))

pub returns-in-4 : goal.returns-in-4
unfolding hfi ssns security discovery
returns-in-4 c = (rw c.in-4.is refl, omega (arith, c.struct_known-in-4-1.given))

pub returns-in-5 : goal.returns-in-5
unfolding hfi ssns security discovery
returns-in-5 c = (rw c.in-5.is refl, omega (arith, c.struct_known-in-5-1.given))

pub returns-in-6 : goal.returns-in-6
unfolding hfi ssns security discovery
returns-in-6 c = (rw c.in-6.is refl, omega (arith, c.struct_known-in-6-1.given))

pub returns-in_default : goal.returns-in_default
unfolding hfi ssns security discovery
returns-in_default c = let m = c.in_default.in_default-own.rest in (sym (none c.args.state c.args.kind m.0.0.0.1 m.0.0.1 m.0.1 m.1), lit≤ tt)
