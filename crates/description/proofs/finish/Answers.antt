use Rattle.description.proofs.FinishLaws.{finish-accepted}
use Rattle.table.specs.declared.Step.{Step}
use Rattle.table.specs.Numbers.{check}
use lib.Seq.{length-take-le}
use lib.ListN.{length, take}
use Prim.Native.Nat.{ℕ, ◌≤◌}
use mathlib.Core.List.{List}
use mathlib.Core.Path.{sym, ap, ◌∙◌}
use native.Mathlib.Omega.{arith}
use Rattle.description.proofs.finish.Goals as goal

pub returns : goal.returns
returns c =
    let s = c.args.walk.state in
    let b = c.args.out.now in
    let accepted = sym (ap (λ (x : Step). x.answer.number) c.finish-step.ensures.0) ∙ c.if-a-ne0.false in
    let f = finish-accepted s b accepted in
    let l : s.used ≤ length c.finish-step.new.out = omega (arith, f.0, c.finish-step.auto.out) in (
      (l, sym (length-take-le s.used c.finish-step.new.out l)),
      ap (λ (x : List ℕ). (check (take s.used x)).number) c.finish-step.ensures.1 ∙ f.1,
    )
