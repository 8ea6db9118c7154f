use mathlib.Core.Path.{◌∙◌}
use native.Mathlib.Omega.{arith}
use Rattle.table.specs.FixedLayouts.{layout_of}
use Rattle.laws.specs.Fields.{image_in}
use Rattle.laws.specs.ListWalk.{base-small}
use Rattle.layout_images.proofs.Laws.{splice-padded}
use Rattle.layout_images.proofs.images.image_at.Goals as goal

pub put_image-requires : goal.put_image-requires
put_image-requires c = (c.requires, omega (arith, base-small c.args.kind))

pub returns : goal.returns
returns c = let a = c.args in c.put_image.ensures ∙ splice-padded 128 (image_in (layout_of a.kind) a.x.now 0)
