use lib.ListN.{length}
use Rattle.table.specs.Layout.{region}
use borrow.Author.Tests.{ne_eqb}
use Rattle.reader_rules.proofs.HeapLaws.{hfi-other}
use Rattle.reader_rules.proofs.hfi_ref.Goals as goal

pub returns-then-off-eq16 : goal.returns-then-off-eq16
returns-then-off-eq16 c = rw c.if-off-eq16.true c.info_ref.ensures

pub returns : goal.returns
returns c =
    hfi-other (region c.args.heap.from (length c.args.heap.bytes.now)) c.args.t.now c.args.a
    c.args.position c.args.off (ne_eqb _ 16 c.if-off-eq16.false)
