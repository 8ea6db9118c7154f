use Rattle.reads_whole.proofs.EntryLaws.{entry-none}
use Rattle.reads_whole.specs.Whole.{head_of}
use Rattle.bytes_writer.proofs.StoreLaws.{lent}
use Rattle.table.specs.Bytes.{splice}
use lib.ListN.{length, replicate}
use Prim.Native.Nat.{ℕ}
use mathlib.Core.List.{List}
use mathlib.Core.Path.{◌≡◌, ap, ◌∙◌}
use Rattle.reads_whole.proofs.entries.put_none.Goals as goal

pub returns : goal.returns
unfolding head_of
returns c =
    let a = c.args in
    let x = a.part.now in
    let h = c.put_head.new.part in
    let lh : length h ≡ 8 = ap length c.put_head.ensures in
    entry-none a.t.now a.kind a.position x h c.fill_zero.new.out c.requires lh c.put_head.ensures
    (c.fill_zero.ensures ∙ ap (λ (z : List ℕ). splice z 8 (replicate 176 0)) (lent x 0 8 h lh))
