use Rattle.reads_seats.proofs.OwnLaws.{own-long, whole_at-own}
use Rattle.table.specs.Reads.{seat, whole_at}
use Rattle.table.specs.FixedLayouts.{layout_of}
use Rattle.table.specs.Bytes.{part}
use Rattle.table.specs.declared.Place.{Place}
use Rattle.std.proofs.Common.{ℕ, true, List, length, ap, ◌∙◌, arith}
use Rattle.reads_by_seat.proofs.objects.object_len.Goals as goal

pub named_len-requires : goal.named_len-requires
named_len-requires c = let a = c.args in let t = a.t.now in
    (omega (arith, ap length (c.part_of.ensures.0 ∙ ap (part t a.at) c.base_size.ensures), own-long a.kind t a.at c.requires.0), c.requires.1)

pub returns : goal.returns
returns c =
    let a = c.args in
    let t = a.t.now in
    let l = layout_of a.kind in
    let e = c.part_of.ensures.0 ∙ ap (part t a.at) c.base_size.ensures in (
      c.named_len.ensures.0
          ∙ ap (λ (x : List ℕ). (whole_at x a.offset (seat l 0 true)).len) e
          ∙ ap (λ (q : Place). q.len) (whole_at-own a.kind t a.at a.offset true),
      c.named_len.ensures.1,
    )
