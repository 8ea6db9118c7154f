use mathlib.Core.Path.{sym, ap, ◌∙◌}
use Prim.Native.Nat.{ℕ}
use native.Mathlib.Omega.{arith}
use lib.ListN.{length}
use lib.Dec.{lit≤}
use Rattle.table.specs.declared.Answer.{Answer}
use Rattle.table.specs.Layout.{region}
use Rattle.table.specs.FixedLayouts.{layout_of, header}
use Rattle.reader.specs.Stages.{numbered}
use Rattle.laws.specs.LookLaws.{behind_more, behind-stop}
use Rattle.reader.proofs.Laws.{answer-stop, answer-more, heap-at, look-more, look_stop, parts_are, parts-look}
use Rattle.reader.proofs.parts_fault.Goals as goal

pub refs_fault-requires : goal.refs_fault-requires
unfolding layout_of header
refs_fault-requires c =
    (lit≤ tt, omega (arith, c.requires.0.lent), c.requires.1)

pub returns-then-answer-ne0 : goal.returns-then-answer-ne0
returns-then-answer-ne0 c =
    let a = c.args in
    let t = a.t.now in
    let heap = region a.heap.from (length a.heap.bytes.now) in
    let same = heap-at t a.heap.from (length a.heap.bytes.now) c.requires.2 c.requires.3 in
    let driver = c.answer_of-answer.ensures ∙ ap (λ (v : ℕ). numbered v 0) c.refs_fault.ensures in (
      answer-stop _ driver c.if-answer-ne0.true ∙ parts_are t heap same,
      sym (behind-stop _ _ (λ z. c.if-answer-ne0.true (ap (λ (x : Answer). x.number) driver ∙ z))) ∙ parts-look t heap same,
    )

pub returns-then-host-ne0 : goal.returns-then-host-ne0
returns-then-host-ne0 c =
    let a = c.args in
    let t = a.t.now in
    let heap = region a.heap.from (length a.heap.bytes.now) in
    let same = heap-at t a.heap.from (length a.heap.bytes.now) c.requires.2 c.requires.3 in
    let driver = c.answer_of-answer.ensures ∙ ap (λ (v : ℕ). numbered v 0) c.refs_fault.ensures in
    let signed = c.if-answer-ne0.false in
    let host = c.host_fault-host.ensures in (
      answer-more driver signed (answer-stop _ host.0 c.if-host-ne0.true) ∙ parts_are t heap same,
      look_stop host.0 host.1 _ c.if-host-ne0.true ∙ sym (behind_more _ _ (sym (ap (λ (x : Answer). x.number) driver) ∙ signed)) ∙ parts-look t heap same,
    )

pub returns : goal.returns
returns c =
    let a = c.args in
    let t = a.t.now in
    let heap = region a.heap.from (length a.heap.bytes.now) in
    let same = heap-at t a.heap.from (length a.heap.bytes.now) c.requires.2 c.requires.3 in
    let driver = c.answer_of-answer.ensures ∙ ap (λ (v : ℕ). numbered v 0) c.refs_fault.ensures in
    let signed = c.if-answer-ne0.false in
    let host = c.host_fault-host.ensures in
    let owned = c.if-host-ne0.false in
    let lists = c.lists_fault.ensures in
    let rest = c.behind.ensures in (
      answer-more driver signed (answer-more host.0 owned (rest.0 ∙ lists.0)) ∙ parts_are t heap same,
      rest.1
          ∙ look-more host.0 host.1 owned lists.1
          ∙ sym (behind_more _ _ (sym (ap (λ (x : Answer). x.number) driver) ∙ signed))
          ∙ parts-look t heap same,
    )
