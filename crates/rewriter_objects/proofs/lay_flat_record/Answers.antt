use native.Mathlib.Nat.{add-zero}
use mathlib.Core.Path.{sym, ◌∙◌}
use Rattle.table.specs.Bytes.{splice}
use Rattle.bytes_writer.proofs.StoreLaws.{splice-none}
use Rattle.bytes_writer.specs.Stores.{ref_num}
use Rattle.rewriter_sizes.specs.Parts.{record_part, record_bytes}
use Rattle.rewriter_objects.proofs.lay_flat_record.Goals as goal

pub lay_flat-requires : goal.lay_flat-requires
unfolding record_part
lay_flat-requires c =
    record { accepted = (c.requires.accepted.0, rw c.in-Some.is at c.requires.accepted.1, c.requires.accepted.2); slot_bound = rw c.in-Some.is at c.requires.slot_bound }

pub returns-in-None : goal.returns-in-None
unfolding record_part record_bytes
returns-in-None c =
    let a = c.args in
    rw c.in-None.is (
      sym (add-zero a.next),
      c.put_slot.ensures
          ∙ splice-none (splice a.out.now a.slot (ref_num a.next 0)) a.next,
    )

pub returns-in-Some : goal.returns-in-Some
unfolding record_part record_bytes
returns-in-Some c = rw c.in-Some.is c.lay_flat.ensures
