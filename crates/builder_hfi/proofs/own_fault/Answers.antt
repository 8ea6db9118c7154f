use mathlib.Core.Path.{sym, ap₂, ◌∙◌}
use mathlib.Core.List.{[]}
use Prim.Native.Nat.{ℕ}
use Rattle.table.specs.Bytes.{pick}
use Rattle.table.specs.FixedLayouts.{info_rule, info}
use Rattle.table.specs.Rules.{first_of}
use Rattle.laws.specs.Fields.{image_in}
use Rattle.laws.specs.RefWalk.{first-zero}
use Rattle.builder_hfi.specs.HfiParts.{own_fault}
use Rattle.builder_hfi.proofs.own_fault.Goals as goal

pub returns-then-there : goal.returns-then-there
unfolding own_fault
returns-then-there c =
    rw c.if-there.true (c.first_of.ensures ∙ ap₂ (λ (x y : ℕ). first_of x y) c.info_fault-fault.ensures c.identity_fault.ensures)

pub returns : goal.returns
unfolding own_fault
returns c =
    rw c.if-there.false (c.info_fault-fault.ensures ∙ sym (first-zero (pick (info_rule [] (image_in info c.args.info.now 0)) 0 12)))
