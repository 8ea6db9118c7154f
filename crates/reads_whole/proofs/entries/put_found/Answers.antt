use Rattle.reads_whole.proofs.EntryLaws.{parts-laid, length-bytes, length-places}
use Rattle.reads_whole.specs.Whole.{head_of, entry_of}
use Rattle.table.specs.Reads.{seat}
use Rattle.table.specs.FixedLayouts.{layout_of}
use Rattle.table.specs.Bytes.{pick}
use lib.ListN.{length}
use Prim.Native.Nat.{ℕ, ◌%◌}
use mathlib.Core.List.{List, [], ◌∷◌, ◌++◌}
use mathlib.Core.Path.{ap, ap₂, ◌∙◌}
use Rattle.reads_whole.proofs.entries.put_found.Goals as goal

pub returns : goal.returns
unfolding entry_of head_of
returns c =
    let a = c.args in
    let k = a.kind in
    let at = seat (layout_of k) 0 a.used in
    let h = c.put_head in
    let i = c.put_image in
    let p = c.put_places in
    let len = ap (λ (n : ℕ). k ∷ a.position % 256 ∷ pick a.used 1 0 ∷ n % 256 ∷ 0 ∷ 0 ∷ 0 ∷ 0 ∷ [])
    c.base_size-size.ensures in
    parts-laid a.part.now h.new.part i.new.part p.new.part c.requires.0 (ap length h.ensures)
    (ap length i.ensures ∙ length-bytes a.x.now k 0 a.used)
    (ap length p.ensures ∙ length-places a.x.now k at)
    ∙ ap₂ (λ (u v : List ℕ). u ++ v) (h.ensures ∙ len) (ap₂ (λ (u v : List ℕ). u ++ v) i.ensures p.ensures)
