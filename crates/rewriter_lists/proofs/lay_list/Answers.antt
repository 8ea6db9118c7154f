use Rattle.rewriter_lists.proofs.RunLaws.{one_less, list-turn, list-ended}
use Rattle.rewriter_objects.specs.Laid.{laid}
use Rattle.rewriter_sizes.proofs.PartLaws.{size-more, size-done, list_all}
use Rattle.rewriter_sizes.specs.Parts.{list_of, list_from}
use Rattle.table.specs.Objects.{size_list, recs_list, heap_list}
use Rattle.table.specs.FixedLayouts.{layout_of}
use Rattle.table.specs.Layout.{Entry, base_of}
use lib.ListN.{length}
use native.Mathlib.Omega.{arith}
use native.Mathlib.Nat.{sub-zero}
use Prim.Native.Nat.{◌+◌, ◌-◌, ◌≤◌}
use mathlib.Core.List.{List}
use mathlib.Core.Path.{◌≡◌, refl, sym, ap, ◌∙◌}
use Rattle.rewriter_lists.proofs.lay_list.Goals as goal
use Rattle.rewriter_lists.proofs.lay_list.Goals.{After-lay_position-cursor}

pub loop-position-init : goal.loop-position-init
loop-position-init c =
    let a = c.args in
    let t = a.t.now in
    let k = a.kind in
    let n = c.count_of-count.result in
    let e = list_all t k n c.count_of-count.ensures.0 in (
      rw (sub-zero n, c.count_of-count.ensures.0) c.requires.kind_bound.0,
      ap (λ (es : List (Entry (layout_of k))). a.next + size_list es) e,
      refl,
      ap (λ (es : List (Entry (layout_of k))). laid a.out.now a.place (recs_list a.next es) a.next
          (heap_list a.next es)) e,
    )

pub lay_position-cursor-requires : goal.lay_position-cursor-requires
lay_position-cursor-requires c =
    let a = c.args in
    let t = a.t.now in
    let k = a.kind in
    let l = c.loop-position in
    let n = c.count_of-count.result in
    let m = size-more t k l.position n (omega arith) (omega arith) in
    let q = one_less n l.position (base_of (layout_of k)) (omega arith) (omega arith) in
    record { accepted = c.requires.accepted; kind_bound = (omega (arith, q, l.invariant.0), omega (arith, m, l.invariant.1, l.invariant.2, c.requires.kind_bound)) }

pub overflow_add-at : goal.overflow_add-at
overflow_add-at c =
    let l = c.loop-position in
    omega (
      arith,
      one_less c.count_of-count.result l.position (base_of (layout_of c.args.kind)) (omega arith) (omega arith),
      l.invariant.0,
      l.invariant.1,
      c.base_size-base.ensures,
      c.requires.kind_bound,
      c.well_formed.0.0,
    )

-- what a turn leaves: where the heap goes on, and what is laid
turned : (c : After-lay_position-cursor) → let a = c.args in let p = c.lay_position-cursor in let es = list_from a.t.now a.kind c.count_of-count.result c.loop-position.position in
    (p.result + size_list es ≡ a.next + size_list (list_of a.t.now a.kind))
    × (length p.new.out ≡ length a.out.now)
    × (laid p.new.out (c.loop-position.at + base_of (layout_of a.kind)) (recs_list p.result es) p.result (heap_list p.result es)
    ≡ laid a.out.now a.place (recs_list a.next (list_of a.t.now a.kind)) a.next (heap_list a.next (list_of a.t.now a.kind)))
turned c =
    let a = c.args in
    let t = a.t.now in
    let k = a.kind in
    let l = c.loop-position in
    let n = c.count_of-count.result in
    let p = c.lay_position-cursor in
    let m = size-more t k l.position n (omega arith) (omega arith) in (
      omega (arith, m, l.invariant.1, p.ensures.0),
      p.auto.out ∙ l.invariant.2,
      list-turn t c.requires.accepted k l.out p.new.out n l.position l.at l.cursor (omega arith) (omega arith) l.invariant.0
          (omega (arith, l.invariant.1, l.invariant.2, c.requires.kind_bound)) p.ensures.1 p.result p.ensures.0
          ∙ l.invariant.3,
    )

pub loop-position-preserved : goal.loop-position-preserved
loop-position-preserved c =
    let l = c.loop-position in
    let n = c.count_of-count.result in
    let b = c.base_size-base.ensures in
    let q = one_less n l.position (base_of (layout_of c.args.kind)) (omega arith) (omega arith) in
    let e : l.position + 1 - 1 ≡ l.position = omega arith in
    let w = turned (goal.at.loop-position-preserved c).After-lay_position-cursor in
    rw e (omega (arith, q, l.invariant.0, b, c.lay_position-cursor.ensures.0), w.0, w.1, rw b w.2)

pub returns : goal.returns
returns c =
    let a = c.args in
    let t = a.t.now in
    let k = a.kind in
    let l = c.loop-position in
    let n = c.count_of-count.result in
    let e : n ≤ l.position - 1 = omega arith in (
      omega (arith, l.invariant.1, size-done t k (l.position - 1) n e),
      sym (list-ended t c.requires.accepted k l.out n (l.position - 1) l.at l.cursor e) ∙ l.invariant.3,
    )

pub returns-2 : goal.returns-2
returns-2 c =
    let a = c.args in
    let t = a.t.now in
    let k = a.kind in
    let l = c.loop-position in
    let n = c.count_of-count.result in
    let p = c.lay_position-cursor in
    let w = turned (goal.at.returns-2 c).After-lay_position-cursor in
    let e : n ≤ l.position = omega arith in (
      omega (arith, w.0, size-done t k l.position n e),
      sym (list-ended t c.requires.accepted k p.new.out n l.position (l.at + base_of (layout_of k)) p.result e) ∙ w.2,
    )
