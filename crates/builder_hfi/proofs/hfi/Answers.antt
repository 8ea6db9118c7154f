use mathlib.Core.Path.{refl, sym, ap, ◌∙◌}
use lib.Dec.{lit≤, lit<}
use Rattle.table.specs.FixedLayouts.{layout_of, hfi, info, hfi_extended}
use Rattle.table.specs.Builder.{Outcome}
use Rattle.builder_record.proofs.LayLaws.{step_is}
use Rattle.builder_hfi.proofs.Laws.{hfi-refused, hfi-passed, hfi-done}
use Rattle.builder_hfi.proofs.hfi.Goals as goal

pub mark_whole-marked-requires : goal.mark_whole-marked-requires
unfolding layout_of hfi
mark_whole-marked-requires c = (lit< tt, (refl, refl))

pub mark_whole-marked_info-requires : goal.mark_whole-marked_info-requires
unfolding layout_of info
mark_whole-marked_info-requires c = (lit< tt, (refl, refl))

pub mark_whole-marked_extended-requires : goal.mark_whole-marked_extended-requires
unfolding layout_of hfi_extended
mark_whole-marked_extended-requires c = (lit< tt, (refl, refl))

pub judged-answer-requires : goal.judged-answer-requires
unfolding layout_of hfi
judged-answer-requires c =
    (lit≤ tt, lit≤ tt, c.mark_whole-marked.ensures.2)

pub returns-then-answer-ne0 : goal.returns-then-answer-ne0
returns-then-answer-ne0 c =
    let a = c.args in
    let t = hfi-refused a.state a.out.now a.told.bytes c.mark_whole-marked.result a.info.bytes c.mark_whole-marked_info.result a.name.now a.extended_told
    a.extended.bytes c.mark_whole-marked_extended.result a.iaid.now a.duid.now c.own_fault-own.result c.object_fault-objects.result c.judged-answer.result
    c.mark_whole-marked.ensures.0 c.mark_whole-marked_info.ensures.0 c.mark_whole-marked_extended.ensures.0 c.is_there-there.result c.is_there-there.ensures
    c.own_fault-own.ensures c.object_fault-objects.ensures c.judged-answer.ensures c.if-answer-ne0.true in (
      step_is c.refused.result c.judged-answer.result a.state c.refused.ensures.0 c.refused.ensures.1 ∙ t.0,
      t.1,
    )

pub slice_bounds-lay_hfi-end : goal.slice_bounds-lay_hfi-end
slice_bounds-lay_hfi-end c =
    sym c.mark_whole-marked.ensures.2

pub lay_hfi-requires : goal.lay_hfi-requires
unfolding hfi info hfi_extended
lay_hfi-requires c =
    let a = c.args in
    let p = hfi-passed a.state a.out.now a.told.bytes c.mark_whole-marked.result a.info.bytes c.mark_whole-marked_info.result a.name.now a.extended_told
    a.extended.bytes c.mark_whole-marked_extended.result a.iaid.now a.duid.now c.own_fault-own.result c.object_fault-objects.result c.judged-answer.result
    c.mark_whole-marked.ensures.0 c.mark_whole-marked_info.ensures.0 c.mark_whole-marked_extended.ensures.0 c.is_there-there.result c.is_there-there.ensures
    c.own_fault-own.ensures c.object_fault-objects.ensures c.judged-answer.ensures c.if-answer-ne0.false in
    record { state_value = (p.0, c.mark_whole-marked.ensures.2, c.mark_whole-marked_info.ensures.2, c.mark_whole-marked_extended.ensures.2); name_len_bound = (p.1, p.2, p.3) }

pub returns : goal.returns
returns c =
    let a = c.args in
    let d = hfi-done a.state a.out.now a.told.bytes c.mark_whole-marked.result a.info.bytes c.mark_whole-marked_info.result a.name.now a.extended_told
    a.extended.bytes c.mark_whole-marked_extended.result a.iaid.now a.duid.now c.own_fault-own.result c.object_fault-objects.result c.judged-answer.result
    c.mark_whole-marked.ensures.0 c.mark_whole-marked_info.ensures.0 c.mark_whole-marked_extended.ensures.0 c.is_there-there.result c.is_there-there.ensures
    c.own_fault-own.ensures c.object_fault-objects.ensures c.judged-answer.ensures c.if-answer-ne0.false in
    (c.lay_hfi.ensures.0 ∙ ap (λ (o : Outcome). o.step) d, c.lay_hfi.ensures.1 ∙ ap (λ (o : Outcome). o.buffer) d)
