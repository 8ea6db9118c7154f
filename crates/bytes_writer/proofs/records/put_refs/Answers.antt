use mathlib.Core.Path.{◌∙◌}
use native.Mathlib.Omega.{arith}
use lib.ListN.{length}
use Rattle.bytes_writer.proofs.RecordLaws.{stores-done, stores-turn}
use Rattle.table.proofs.Rules.{picks}
use Rattle.bytes_writer.proofs.records.put_refs.Goals as goal

pub loop-i-preserved : goal.loop-i-preserved
loop-i-preserved c =
    let l = c.loop-i in
    let a = c.args in
    let k = c.loop-i-test.true in
    let p = c.put_slot in (
      omega (arith, c.requires.room.short l.i k, l.invariant.0),
      search picks,
      stores-turn l.part p.new.part a.offsets.now a.sizes.len a.sizes.span l.next l.i (length a.offsets.now) k
          p.ensures
          ∙ l.invariant.2,
    )

pub returns : goal.returns
returns c = let l = c.loop-i in let a = c.args in cc (stores-done l.part a.offsets.now a.sizes.len a.sizes.span l.next l.i (length a.offsets.now) c.loop-i-test.false)
