use mathlib.Core.Path.{◌≡◌}
use lib.ListN.{replicate}
use Rattle.table.specs.Bytes.{part}
use Rattle.table.specs.FixedLayouts.{layout_of}
use Rattle.laws.specs.Fields.{image_in}
use Rattle.layout_images.specs.Masks.{over}
use Rattle.layout_images.proofs.images.field_at.Given as goal

abbrev pub invariant-loop-i : goal.invariant-loop-i
invariant-loop-i l = l.out ≡ over (replicate 16 0) (part (image_in (layout_of l.kind) l.x 0) l.off l.width) l.i
