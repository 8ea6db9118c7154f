use Rattle.table.specs.FixedLayouts.{layout_of, info, extended, hfi_extended}
use Rattle.table.specs.Bytes.{part}
use mathlib.Core.Path.{refl, ap, ◌∙◌}
use Rattle.reads_seats.proofs.lent.record_at.Goals as goal

pub heap_part-requires : goal.heap_part-requires
unfolding layout_of info
heap_part-requires c = (c.requires.0, λ h. rw c.base_size-size.ensures (c.requires.1.heaped (rw c.in-7.is refl)))

pub heap_part-requires-in-9 : goal.heap_part-requires-in-9
unfolding layout_of extended
heap_part-requires-in-9 c = (c.requires.0, λ h. rw c.base_size-size.ensures (c.requires.1.heaped (rw c.in-9.is refl)))

pub heap_part-requires-in-10 : goal.heap_part-requires-in-10
unfolding layout_of hfi_extended
heap_part-requires-in-10 c = (c.requires.0, λ h. rw c.base_size-size.ensures (c.requires.1.heaped (rw c.in-10.is refl)))

pub returns-in-7 : goal.returns-in-7
returns-in-7 c = let a = c.args in c.heap_part.ensures.0 ∙ ap (part a.t.now a.at) c.base_size-size.ensures

pub returns-in-9 : goal.returns-in-9
returns-in-9 c = let a = c.args in c.heap_part-in-9.ensures.0 ∙ ap (part a.t.now a.at) c.base_size-size.ensures

pub returns-in-10 : goal.returns-in-10
returns-in-10 c = let a = c.args in c.heap_part-in-10.ensures.0 ∙ ap (part a.t.now a.at) c.base_size-size.ensures

pub returns-in_default : goal.returns-in_default
returns-in_default c = let a = c.args in c.part_of.ensures.0 ∙ ap (part a.t.now a.at) c.base_size-size.ensures
