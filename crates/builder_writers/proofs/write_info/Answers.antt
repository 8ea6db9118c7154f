use mathlib.Core.Path.{◌∙◌}
use native.Mathlib.Omega.{arith}
use Rattle.table.specs.FixedLayouts.{layout_of, info}
use Rattle.bytes_writer.specs.Stores.{stores_from}
use Rattle.builder_writers.specs.Written.{record_with}
use Rattle.builder_writers.proofs.WriterLaws.{same-record, six-narrow}
use Rattle.builder_writers.proofs.write_info.Goals as goal

pub write_record-requires : goal.write_record-requires
unfolding layout_of
write_record-requires c =
    let z = c.object_then_nested.ensures in
    (c.requires.0, six-narrow c.object_then_nested.result.span _ _ _ _ _ _ z.1 (omega arith) (omega arith) (omega arith) (omega arith) (omega arith) (omega arith))

pub returns : goal.returns
unfolding record_with layout_of info stores_from
returns c =
    let a = c.args in
    let z = c.object_then_nested in
    c.write_record.ensures ∙ same-record (layout_of 7) a.told.now a.heap z.result.len _ z.result.span _ z.ensures.0 z.ensures.1
