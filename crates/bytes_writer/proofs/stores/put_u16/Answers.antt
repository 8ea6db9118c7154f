use Rattle.bytes_writer.proofs.StoreLaws.{put_two}
use lib.ListN.{length-set}
use Rattle.table.proofs.Rules.{picks}
use Rattle.bytes_writer.proofs.stores.put_u16.Goals as goal

pub bounds-part-at-2 : goal.bounds-part-at-2
bounds-part-at-2 c = simp length-set (search picks)

pub returns : goal.returns
returns c =
    let a = c.args in
    cc (put_two a.part.now a.at c.low.result c.low-2.result c.requires)
