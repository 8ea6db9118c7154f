use Rattle.builder_writers.proofs.WriterLaws.{refs-room}
use Rattle.builder_writers.specs.Written.{record_with}
use Rattle.bytes_writer.proofs.RecordLaws.{splice_all}
use Rattle.laws.specs.Fields.{image_in, length-image_in}
use Rattle.table.specs.FixedLayouts.{layout_of}
use mathlib.Core.Path.{sym, ◌∙◌}
use Rattle.builder_writers.proofs.write_record.Goals as goal

pub put_refs-requires : goal.put_refs-requires
put_refs-requires c =
    let a = c.args in
    let o = c.reference_offsets in record {
      room = refs-room a.kind o.result.now a.sizes.span _ o.ensures.0 o.ensures.1 c.requires.1 (c.put_image.auto.out ∙ c.requires.0.0);
      heap_bound = c.requires.0.2;
    }

pub returns : goal.returns
unfolding record_with
returns c =
    let a = c.args in
    let l = layout_of a.kind in
    let i = c.put_image.ensures ∙ splice_all a.part.now (image_in l a.told.now 0) (length-image_in l a.told.now 0 ∙ sym c.requires.0.0) in
    rw (← i, ← c.reference_offsets.ensures.0) c.put_refs.ensures
