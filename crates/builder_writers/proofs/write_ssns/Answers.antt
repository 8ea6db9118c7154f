use mathlib.Core.Path.{◌∙◌}
use native.Mathlib.Omega.{arith}
use Rattle.table.specs.FixedLayouts.{layout_of, ssns}
use Rattle.bytes_writer.specs.Stores.{stores_from}
use Rattle.builder_writers.specs.Written.{record_with}
use Rattle.builder_writers.proofs.WriterLaws.{same-record, six-narrow}
use Rattle.builder_writers.proofs.write_ssns.Goals as goal

pub write_record-requires : goal.write_record-requires
unfolding layout_of
write_record-requires c =
    let z = c.nested_sizes-sizes.ensures in (
      c.requires.0,
      six-narrow c.nested_sizes-sizes.result.span _ _ _ _ _ _ z.1 (omega arith) (omega arith) (omega arith) (omega arith) (omega arith) (omega
          arith),
    )

pub returns : goal.returns
unfolding record_with layout_of ssns stores_from
returns c =
    let a = c.args in
    let z = c.nested_sizes-sizes in
    c.write_record.ensures
    ∙ same-record (layout_of 4) a.told.now a.heap z.result.len _ z.result.span _ z.ensures.0
    z.ensures.1
