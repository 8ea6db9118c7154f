use Rattle.table.specs.Builder.{records_end}
use native.Mathlib.Omega.{arith}
use Rattle.table.specs.FixedLayouts.{hfi, ssns, security, discovery}
use Rattle.builder_state.proofs.records_end.Goals as goal

pub returns : goal.returns
unfolding records_end hfi ssns security discovery
returns c = (omega arith, omega arith, omega (arith, c.struct_known-4-1.given, c.struct_known-3-1.given, c.struct_known-2-1.given, c.struct_known-1.given))
