use Rattle.reads_whole.proofs.EntryLaws.{zeroed}
use Rattle.reads_seats.proofs.ReadLaws.{zeros-padded}
use Rattle.layout_images.proofs.Laws.{splice-padded}
use Rattle.laws.specs.ListWalk.{base-small}
use Rattle.laws.specs.Fields.{image_in}
use Rattle.table.specs.FixedLayouts.{layout_of}
use Rattle.table.specs.Layout.{base_of}
use Rattle.table.specs.Bytes.{splice}
use native.Mathlib.Omega.{arith}
use Prim.Native.Nat.{ℕ}
use mathlib.Core.List.{List}
use mathlib.Core.Path.{ap, ◌∙◌}
use Rattle.reads_whole.proofs.entries.put_image.Goals as goal

pub put_image-requires : goal.put_image-requires
put_image-requires c =
    (c.requires.1, omega (arith, base-small c.args.kind, c.requires.0, c.fill_zero.auto.out))

pub returns-then-used : goal.returns-then-used
unfolding image_in
returns-then-used c =
    let a = c.args in
    let i = image_in (layout_of a.kind) a.x.now 0 in
    let z = zeroed a.part.now c.fill_zero.new.out 128 c.requires.0 c.fill_zero.ensures in
    rw c.if-used.true
    (c.put_image.ensures ∙ ap (λ (y : List ℕ). splice y 0 i) z ∙ splice-padded 128 i)

pub returns-else-used : goal.returns-else-used
returns-else-used c =
    let a = c.args in
    rw c.if-used.false (zeroed a.part.now c.fill_zero.new.out 128 c.requires.0 c.fill_zero.ensures
    ∙ zeros-padded (base_of (layout_of a.kind)) 128 (base-small a.kind))
