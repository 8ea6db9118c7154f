use Rattle.bytes_writer.proofs.StoreLaws.{paste_more}
use lib.Seq.{paste-zero}
use lib.ListN.{length-set}
use mathlib.Core.Path.{refl}
use Rattle.table.proofs.Rules.{picks}
use Rattle.bytes_writer.proofs.stores.copy_into.Goals as goal

pub loop-i-init : goal.loop-i-init
loop-i-init c = (paste-zero c.args.out.now c.args.at c.args.src.now, refl)

pub loop-i-preserved : goal.loop-i-preserved
loop-i-preserved c =
    let a = c.args in (
      cc (paste_more a.out.now a.at a.src.now c.loop-i.i c.requires c.loop-i-test.true),
      simp length-set (search picks),
    )
