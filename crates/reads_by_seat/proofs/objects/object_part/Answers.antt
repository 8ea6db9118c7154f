use Rattle.std.proofs.Common.{ℕ, true, sym, ap, ◌∙◌, arith}
use Rattle.table.specs.Bytes.{part}
use Rattle.table.specs.FixedLayouts.{layout_of}
use Rattle.table.specs.Reads.{seat, whole_at}
use Rattle.reads_by_seat.proofs.objects.object_part.Goals as goal

pub returns-then-len-eq0 : goal.returns-then-len-eq0
returns-then-len-eq0 c = let a = c.args in let t = a.t.now in let l = layout_of a.kind in let q = whole_at t a.offset (seat l a.at true) in
    c.part_of.ensures.0 ∙ ap (λ (n : ℕ). part t q.at n) (sym c.if-len-eq0.true ∙ c.object_len-len.ensures.0)

pub object_bytes-requires : goal.object_bytes-requires
object_bytes-requires c = record { accepted = c.requires; len_value = (c.object_len-len.ensures.0, omega (arith, c.if-len-eq0.false)) }
