use mathlib.Core.Path.{sym, ◌≡◌, refl, ap, ◌∙◌}
use lib.Dec.{lit≤, lit<}
use Rattle.table.specs.FixedLayouts.{layout_of, security}
use Rattle.table.specs.Rules.{first_fail}
use Rattle.table.specs.Builder.{Outcome}
use Rattle.laws.specs.Fields.{image_in}
use Rattle.builder_record.specs.Steps.{judge_tests}
use Rattle.builder_record.proofs.LayLaws.{step_is}
use Prim.Native.Nat.{ℕ}
use Rattle.builder_security.proofs.Laws.{security-refused, security-passed, security-done, need_for}
use mathlib.Core.List.{[]}
use native.Mathlib.Omega.{arith}
use Rattle.table.specs.declared.Need.{Need}
use Rattle.table.specs.Objects.{under}
use Rattle.builder_security.specs.SecurityFaults.{security_fault}
use Rattle.builder_security.proofs.security.Goals.{After-judged-answer, After-kept-6}
use Rattle.builder_security.proofs.security.Goals as goal

-- what was answered, by the objects
judged-is : (c : After-judged-answer) →
    c.judged-answer.result
    ≡ first_fail (judge_tests (layout_of 5) c.args.state (image_in (layout_of 5) c.mark_whole-marked.result 0) 0
    (security_fault (image_in security c.mark_whole-marked.result 0) c.args.algorithms.now
    c.args.protocols.now c.args.ciphers.now c.args.groups.now c.args.hashes.now
    c.args.keypath.now))
judged-is c =
    c.judged-answer.ensures
    ∙ ap (λ (f : ℕ). first_fail
    (judge_tests (layout_of 5) c.args.state (image_in (layout_of 5) c.mark_whole-marked.result 0) 0 f))
    c.security_fault-fault.ensures

-- what is known of a record that was taken
module _ (c : After-kept-6) where
  algorithms-kept :
      c.kept.result.now ≡ under (need_for c.mark_whole-marked.result 6) [] c.args.algorithms.now
  algorithms-kept =
      c.kept.ensures
      ∙ ap (λ (n : Need). under n [] c.args.algorithms.now) c.security_need.ensures

  protocols-kept :
      c.kept-2.result.now ≡ under (need_for c.mark_whole-marked.result 12) [] c.args.protocols.now
  protocols-kept =
      c.kept-2.ensures
      ∙ ap (λ (n : Need). under n [] c.args.protocols.now) c.security_need-2.ensures

  ciphers-kept :
      c.kept-3.result.now ≡ under (need_for c.mark_whole-marked.result 18) [] c.args.ciphers.now
  ciphers-kept =
      c.kept-3.ensures
      ∙ ap (λ (n : Need). under n [] c.args.ciphers.now) c.security_need-3.ensures

  groups-kept :
      c.kept-4.result.now ≡ under (need_for c.mark_whole-marked.result 24) [] c.args.groups.now
  groups-kept =
      c.kept-4.ensures
      ∙ ap (λ (n : Need). under n [] c.args.groups.now) c.security_need-4.ensures

  hashes-kept :
      c.kept-5.result.now
      ≡ under (need_for c.mark_whole-marked.result 30) [] c.args.hashes.now
  hashes-kept =
      c.kept-5.ensures
      ∙ ap (λ (n : Need). under n [] c.args.hashes.now) c.security_need-5.ensures

  keypath-kept :
      c.kept-6.result.now ≡ under (need_for c.mark_whole-marked.result 36) [] c.args.keypath.now
  keypath-kept =
      c.kept-6.ensures
      ∙ ap (λ (n : Need). under n [] c.args.keypath.now) c.security_need-6.ensures

pub mark_whole-marked-requires : goal.mark_whole-marked-requires
unfolding layout_of security
mark_whole-marked-requires c = (lit< tt, (refl, refl))

pub judged-answer-requires : goal.judged-answer-requires
unfolding layout_of security
judged-answer-requires c = (lit≤ tt, lit≤ tt, c.mark_whole-marked.ensures.2)

pub returns-then-answer-ne0 : goal.returns-then-answer-ne0
returns-then-answer-ne0 c =
    let t = security-refused c.args.state c.args.out.now c.args.told.bytes
    c.mark_whole-marked.result c.args.algorithms.now c.args.protocols.now c.args.ciphers.now
    c.args.groups.now c.args.hashes.now c.args.keypath.now c.judged-answer.result
    c.mark_whole-marked.ensures.0 (judged-is (goal.at.returns-then-answer-ne0 c).After-judged-answer) c.if-answer-ne0.true in (
      step_is c.refused.result c.judged-answer.result c.args.state c.refused.ensures.0
          c.refused.ensures.1
          ∙ t.0,
      t.1,
    )

pub slice_bounds-security_need-end-4 : goal.slice_bounds-security_need-end-4
slice_bounds-security_need-end-4 c =
    let mark-64 = c.mark_whole-marked in
    sym mark-64.ensures.2

pub security_need-requires-4 : goal.security_need-requires-4
security_need-requires-4 c =
    let mark-64 = c.mark_whole-marked in
    omega (arith, mark-64.ensures.2)

pub slice_bounds-security_need-end-5 : goal.slice_bounds-security_need-end-5
slice_bounds-security_need-end-5 c =
    let mark-64 = c.mark_whole-marked in
    sym mark-64.ensures.2

pub security_need-requires-5 : goal.security_need-requires-5
security_need-requires-5 c =
    let mark-64 = c.mark_whole-marked in
    omega (arith, mark-64.ensures.2)

pub slice_bounds-security_need-end-6 : goal.slice_bounds-security_need-end-6
slice_bounds-security_need-end-6 c =
    let mark-64 = c.mark_whole-marked in
    sym mark-64.ensures.2

pub security_need-requires-6 : goal.security_need-requires-6
security_need-requires-6 c =
    let mark-64 = c.mark_whole-marked in
    omega (arith, mark-64.ensures.2)

pub lay_security-requires : goal.lay_security-requires
unfolding security
lay_security-requires c =
    let p = security-passed c.args.state c.args.out.now c.args.told.bytes
    c.mark_whole-marked.result c.args.algorithms.now c.args.protocols.now c.args.ciphers.now
    c.args.groups.now c.args.hashes.now c.args.keypath.now c.judged-answer.result
    c.mark_whole-marked.ensures.0 (judged-is (goal.at.lay_security-requires c).After-judged-answer) c.if-answer-ne0.false in
    let k = (goal.at.lay_security-requires c).After-kept-6 in record {
      state_value = (p.0, c.mark_whole-marked.ensures.2);
      algorithms_len_bound = (
        rw (algorithms-kept k) p.1,
        rw (protocols-kept k) p.2,
        rw (ciphers-kept k) p.3,
        rw (groups-kept k) p.4,
        rw (hashes-kept k) p.5,
        rw (keypath-kept k) p.6,
      );
    }

pub returns : goal.returns
returns c =
    let k = (goal.at.returns c).After-kept-6 in
    let d = security-done c.args.state c.args.out.now c.args.told.bytes
    c.mark_whole-marked.result c.args.algorithms.now c.args.protocols.now c.args.ciphers.now
    c.args.groups.now c.args.hashes.now c.args.keypath.now c.judged-answer.result
    c.mark_whole-marked.ensures.0 (judged-is (goal.at.returns c).After-judged-answer) c.if-answer-ne0.false c.kept.result.now
    c.kept-2.result.now c.kept-3.result.now
    c.kept-4.result.now c.kept-5.result.now c.kept-6.result.now
    (algorithms-kept k) (protocols-kept k) (ciphers-kept k)
    (groups-kept k) (hashes-kept k) (keypath-kept k) in (
      c.lay_security.ensures.0 ∙ ap (λ (o : Outcome). o.step) d,
      c.lay_security.ensures.1 ∙ ap (λ (o : Outcome). o.buffer) d,
    )
