use mathlib.Core.Path.{◌∙◌}
use native.Mathlib.Omega.{arith}
use Rattle.table.specs.FixedLayouts.{layout_of, hfi, info}
use Rattle.bytes_writer.specs.Stores.{stores_from}
use Rattle.builder_writers.specs.Written.{record_with}
use Rattle.builder_writers.proofs.WriterLaws.{same-record, six-narrow}
use Rattle.builder_writers.proofs.write_hfi.Goals as goal

pub write_record-requires : goal.write_record-requires
unfolding layout_of
write_record-requires c =
    let z = c.only_nested.ensures in
    (c.requires.0, six-narrow c.only_nested.result.span _ _ _ _ _ _ z.1 (omega arith) (omega arith) (omega arith) (omega arith) (omega arith) (omega arith))

pub returns : goal.returns
unfolding record_with layout_of hfi info stores_from
returns c =
    let a = c.args in
    let z = c.only_nested in
    c.write_record.ensures ∙ same-record (layout_of 3) a.told.now a.heap z.result.len _ z.result.span _ z.ensures.0 z.ensures.1
