use Rattle.reads_whole.proofs.RowLaws.{rows-turn}
use Rattle.reads_whole.proofs.EntryLaws.{entry-long}
use Rattle.reads_whole.specs.Whole.{rows, entry_at}
use Rattle.bytes_writer.proofs.StoreLaws.{lent, splice-none}
use Rattle.table.specs.Bytes.{splice}
use lib.ListN.{length}
use native.Mathlib.Omega.{arith}
use Prim.Native.Nat.{ℕ, ◌+◌, ◌-◌, ◌*◌}
use mathlib.Core.Path.{◌≡◌, refl, ap, ◌∙◌}
use Rattle.reads_whole.proofs.lists.put_run.Goals as goal

pub loop-i-init : goal.loop-i-init
unfolding rows
loop-i-init c = (refl, splice-none c.args.out.now 0)

pub loop-i-preserved : goal.loop-i-preserved
loop-i-preserved c =
    let a = c.args in
    let t = a.t.now in
    let l = c.loop-i in
    let i = l.i in
    let entry = entry_at t a.kind in
    let w = c.put_entry in
    let each = entry-long t c.requires.0 a.kind in
    let long : length w.new.part ≡ 184 * i + 184 - 184 * i =
    omega (arith, ap length w.ensures, each (a.position + i)) in (
      c.out-1.given.1 ∙ l.invariant.0,
      rows-turn entry 184 each a.out.now l.out _ a.position i (184 * i)
          (omega (arith, c.loop-i-test.true, c.requires.1)) refl l.invariant.1 (lent l.out (184 * i)
          (184 * i + 184 - 184 * i) w.new.part long
          ∙ ap (splice l.out (184 * i)) w.ensures),
    )

pub returns : goal.returns
returns c = let a = c.args in
    let l = c.loop-i in
    let e : l.i ≡ a.count = omega arith in
    l.invariant.1 ∙ ap (λ (n : ℕ). splice a.out.now 0 (rows (entry_at a.t.now a.kind) a.position n)) e
