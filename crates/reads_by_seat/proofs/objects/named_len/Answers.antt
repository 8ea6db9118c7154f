use Rattle.std.proofs.Common.{true, false, sym, ap, ◌∙◌, arith, lit≤}
use Rattle.table.specs.declared.Region.{Region}
use Rattle.reads_seats.proofs.ObjectLaws.{plain_fits}
use Rattle.reads_by_seat.proofs.ObjectLaws.{counted-len}
use Rattle.reads_by_seat.proofs.objects.named_len.Goals as goal

pub reference_at-requires : goal.reference_at-requires
reference_at-requires c = omega (arith, plain_fits c.args.kind c.args.offset c.requires.1, c.requires.0)

pub returns-then-counts : goal.returns-then-counts
returns-then-counts c = let a = c.args in let r = c.reference_at in (
  ap (λ (n : Region). n.len) r.ensures.0
      ∙ sym (counted-len a.bytes.now a.kind a.offset c.requires.1 true (sym c.if-counts.true ∙ c.counts.ensures)),
  omega (arith, r.ensures.2),
)

pub returns : goal.returns
returns c = let a = c.args in
    (sym (counted-len a.bytes.now a.kind a.offset c.requires.1 false (sym c.if-counts.false ∙ c.counts.ensures)), lit≤ tt)
