use lib.Dec.{lit≤}
use Rattle.reads_whole.specs.Whole.{entries_of, kinds_to, refused_records, read_records, records_bytes}
use Rattle.reads_whole.specs.declared.Records.{Records}
use Rattle.reads_seats.proofs.ObjectLaws.{accepted}
use Rattle.bytes_writer.proofs.StoreLaws.{splice-none}
use Rattle.table.specs.Numbers.{check}
use Rattle.table.specs.Bytes.{splice}
use Rattle.table.specs.declared.Answer.{Answer}
use borrow.Author.Tests.{eq-eqb, ne_eqb}
use lib.ListN.{take}
use Prim.Native.Nat.{◌*◌}
use mathlib.Core.Path.{sym, ap, ◌∙◌}
use Rattle.reads_whole.proofs.calls.records.Goals as goal

pub returns-then-a-ne0 : goal.returns-then-a-ne0
unfolding read_records records_bytes
returns-then-a-ne0 c =
    let a = c.args in
    let e = ap (λ (x : Answer). x.number) c.check-a.ensures in
    let bad = ne_eqb (check a.t.now).number 0 (λ z. c.if-a-ne0.true (e ∙ z)) in record {
      value = (
        rw bad (c.refused_records.ensures ∙ ap refused_records c.check-a.ensures),
        rw bad (splice-none a.out.now 0),
      );
      written_le_total = rw c.refused_records.ensures (lit≤ tt, lit≤ tt);
    }

pub records_in-requires : goal.records_in-requires
records_in-requires c =
    accepted c.args.t.now
    (sym (ap (λ (x : Answer). x.number) c.check-a.ensures) ∙ c.if-a-ne0.false)

pub returns : goal.returns
unfolding read_records records_bytes
returns c =
    let a = c.args in
    let out = a.out.now in
    let e = ap (λ (x : Answer). x.number) c.check-a.ensures in
    let good = eq-eqb (check a.t.now).number 0 (sym e ∙ c.if-a-ne0.false) in
    let read = c.records_in.ensures in record {
      value = (
        rw good read.value.0,
        rw good (read.value.1
            ∙ ap (λ (r : Records). splice out 0
            (take (184 * r.written) (entries_of a.t.now a.kind a.position (kinds_to a.kind a.last))))
            read.value.0),
      );
      written_le_total = read.written_le_total;
    }
