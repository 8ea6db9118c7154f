use borrow.Author.Tests.{ne_eqb}
use native.Mathlib.Omega.{arith}
use Rattle.table.specs.FixedLayouts.{hfi, ssns, security, discovery}
use Rattle.builder_state.proofs.list_start.Goals as goal

pub returns-in-3 : goal.returns-in-3
unfolding hfi ssns security discovery
returns-in-3 c = rw c.in-3.is (omega arith, omega (arith, c.struct_known-3-1.given, c.struct_known-2-1.given, c.struct_known-1.given))

pub returns-in-4 : goal.returns-in-4
unfolding hfi ssns security discovery
returns-in-4 c = rw c.in-4.is (omega arith, omega (arith, c.struct_known-3-1.given, c.struct_known-2-1.given, c.struct_known-1.given))

pub returns-in-5 : goal.returns-in-5
unfolding hfi ssns security discovery
returns-in-5 c = rw c.in-5.is (omega arith, omega (arith, c.struct_known-3-1.given, c.struct_known-2-1.given, c.struct_known-1.given))

pub returns-in-6 : goal.returns-in-6
unfolding hfi ssns security discovery
returns-in-6 c = rw c.in-6.is (omega arith, omega (arith, c.struct_known-3-1.given, c.struct_known-2-1.given, c.struct_known-1.given))

pub returns-in_default : goal.returns-in_default
unfolding hfi ssns security discovery
returns-in_default c =
    let m = c.in_default.in_default-own.rest in
    let k = c.args.kind in
    rw (ne_eqb k 3 m.0.0.0.1, ne_eqb k 4 m.0.0.1, ne_eqb k 5 m.0.1, ne_eqb k 6 m.1) (
      omega arith,
      omega (
        arith,
        c.struct_known-in_default-1.given,
        c.struct_known-3-1.given,
        c.struct_known-2-1.given,
        c.struct_known-1.given,
      ),
    )
