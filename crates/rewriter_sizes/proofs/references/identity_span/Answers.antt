use mathlib.Core.Path.{refl, sym, ap, ◌∙◌}
use Rattle.table.specs.FixedLayouts.{layout_of, info, hfi_extended}
use Rattle.std.specs.Prelude.{Option}
use Rattle.reads_seats.specs.declared.seats.Seat.{Seat}
use Rattle.reads_seats.proofs.SeatLaws.{record-held}
use Rattle.rewriter_sizes.specs.Parts.{record_part}
use Rattle.rewriter_sizes.proofs.PartLaws.{spans-held}
use Rattle.rewriter_sizes.proofs.references.identity_span.Goals as goal

pub flat_span-requires : goal.flat_span-requires
unfolding layout_of hfi_extended
flat_span-requires c =
    let a = c.args in
    rw c.heap_record.ensures (c.requires.0, record-held a.t.now c.requires.0 a.at 7 (refl, c.requires.1), refl)

pub returns : goal.returns
unfolding layout_of info
returns c =
    let a = c.args in
    let o = c.flat_span.ensures in (
      o.0
          ∙ ap (λ (w : Option Seat). (record_part a.t.now 10 w).span) c.heap_record.ensures
          ∙ sym (spans-held a.t.now c.requires.0 7 a.at c.requires.1 110 refl),
      o.1,
    )
