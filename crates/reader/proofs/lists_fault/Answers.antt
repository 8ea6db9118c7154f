use mathlib.Core.Path.{◌≡◌, sym, ◌∙◌}
use Prim.Native.Nat.{◌+◌}
use native.Mathlib.Omega.{arith}
use lib.ListN.{length}
use lib.Dec.{lit≤}
use Rattle.table.specs.Layout.{region}
use Rattle.table.specs.FixedLayouts.{layout_of, hfi, ssns, security, discovery}
use Rattle.reader_lists.specs.Lists.{list_fault, list_looks}
use Rattle.reader.proofs.Laws.{answer-stop, answer-more, body_is, body-looks, last-list, last-looks, look_stop, look-more}
use Rattle.reader.proofs.lists_fault.Goals as goal

pub list_fault-hfi-requires : goal.list_fault-hfi-requires
unfolding layout_of hfi
list_fault-hfi-requires c =
    record { laid_out = (c.requires.0, lit≤ tt, lit≤ tt, c.requires.1); c_in_bounds = (omega (arith, c.requires.0.lent), c.requires.0.hfi) }

pub returns-then-hfi-ne0 : goal.returns-then-hfi-ne0
returns-then-hfi-ne0 c =
    let a = c.args in
    let heap = region a.heap.from (length a.heap.bytes.now) in
    let e3 = c.list_fault-hfi.ensures in (
      answer-stop _ e3.0 c.if-hfi-ne0.true ∙ body_is a.t.now heap,
      look_stop e3.0 e3.1 _ c.if-hfi-ne0.true ∙ body-looks a.t.now heap,
      omega (arith, e3.2),
    )

pub list_fault-second-requires : goal.list_fault-second-requires
unfolding layout_of ssns
list_fault-second-requires c =
    record { laid_out = (c.requires.0, lit≤ tt, lit≤ tt, c.requires.1); c_in_bounds = (omega (arith, c.requires.0.lent), c.requires.0.ssns) }

pub returns-then-ssns-ne0 : goal.returns-then-ssns-ne0
returns-then-ssns-ne0 c =
    let a = c.args in
    let heap = region a.heap.from (length a.heap.bytes.now) in
    let e3 = c.list_fault-hfi.ensures in
    let e4 = c.list_fault-second.ensures in
    let s = c.behind-ssns.ensures in
    let z3 = c.if-hfi-ne0.false in
    let n4 = c.if-ssns-ne0.true in
    let a4 = s.0 ∙ e4.0 in (
      answer-more e3.0 z3 (answer-stop _ a4 n4) ∙ body_is a.t.now heap,
      s.1 ∙ look-more e3.0 e3.1 z3 (look_stop a4 e4.1 _ n4) ∙ body-looks a.t.now heap,
      omega (arith, e3.2, e4.2, s.1),
    )

pub list_fault-third-requires : goal.list_fault-third-requires
unfolding layout_of security
list_fault-third-requires c =
    record { laid_out = (c.requires.0, lit≤ tt, lit≤ tt, c.requires.1); c_in_bounds = (omega (arith, c.requires.0.lent), c.requires.0.security) }

pub behind-security-requires : goal.behind-security-requires
behind-security-requires c = let s = c.behind-ssns.ensures in omega (arith, s.1, c.list_fault-second.ensures.2, c.list_fault-hfi.ensures.2, c.list_fault-third.ensures.2)

pub returns-then-security-ne0 : goal.returns-then-security-ne0
returns-then-security-ne0 c =
    let a = c.args in
    let heap = region a.heap.from (length a.heap.bytes.now) in
    let e3 = c.list_fault-hfi.ensures in
    let e4 = c.list_fault-second.ensures in
    let e5 = c.list_fault-third.ensures in
    let s = c.behind-ssns.ensures in
    let b = c.behind-security.ensures in
    let z3 = c.if-hfi-ne0.false in
    let z4 = c.if-ssns-ne0.false in
    let n5 = c.if-security-ne0.true in
    let a4 = s.0 ∙ e4.0 in
    let a5 = b.0 ∙ e5.0 in
    let l3 = c.list_fault-hfi.result.looks in
    let l4 = c.list_fault-second.result.looks in
    let total : c.behind-security.result.looks ≡ l3 + (l4 + c.list_fault-third.result.looks) = omega (arith, s.1, b.1) in (
      answer-more e3.0 z3 (answer-more a4 z4 (answer-stop _ a5 n5)) ∙ body_is a.t.now heap,
      total
          ∙ look-more e3.0 e3.1 z3 (look-more a4 e4.1 z4 (look_stop a5 e5.1 _ n5))
          ∙ body-looks a.t.now heap,
      omega (arith, total, e3.2, e4.2, e5.2),
    )

pub list_fault-last-requires : goal.list_fault-last-requires
unfolding layout_of discovery
list_fault-last-requires c =
    record { laid_out = (c.requires.0, lit≤ tt, lit≤ tt, c.requires.1); c_in_bounds = (omega (arith, c.requires.0.lent), c.requires.0.discovery) }

pub behind-requires : goal.behind-requires
behind-requires c =
    let s = c.behind-ssns.ensures in
    let b = c.behind-security.ensures in
    omega (arith, s.1, b.1, c.list_fault-second.ensures.2, c.list_fault-hfi.ensures.2, c.list_fault-third.ensures.2, c.list_fault-last.ensures.2)

pub returns : goal.returns
returns c =
    let a = c.args in
    let heap = region a.heap.from (length a.heap.bytes.now) in
    let e3 = c.list_fault-hfi.ensures in
    let e4 = c.list_fault-second.ensures in
    let e5 = c.list_fault-third.ensures in
    let e6 = c.list_fault-last.ensures in
    let s = c.behind-ssns.ensures in
    let b = c.behind-security.ensures in
    let d = c.behind.ensures in
    let z3 = c.if-hfi-ne0.false in
    let z4 = c.if-ssns-ne0.false in
    let z5 = c.if-security-ne0.false in
    let a4 = s.0 ∙ e4.0 in
    let a5 = b.0 ∙ e5.0 in
    let l3 = c.list_fault-hfi.result.looks in
    let l4 = c.list_fault-second.result.looks in
    let l5 = c.list_fault-third.result.looks in
    let last = e6.1 ∙ sym (last-looks (list_fault 6 heap a.t.now 104).number (list_looks 6 heap a.t.now 104)) in
    let total : c.behind.result.looks ≡ l3 + (l4 + (l5 + c.list_fault-last.result.looks)) = omega (arith, s.1, b.1, d.1) in (
      answer-more e3.0 z3 (answer-more a4 z4 (answer-more a5 z5 (d.0 ∙ e6.0 ∙ last-list 6 heap a.t.now 104))) ∙ body_is a.t.now heap,
      total
          ∙ look-more e3.0 e3.1 z3 (look-more a4 e4.1 z4 (look-more a5 e5.1 z5 last))
          ∙ body-looks a.t.now heap,
      omega (arith, total, e3.2, e4.2, e5.2, e6.2),
    )
