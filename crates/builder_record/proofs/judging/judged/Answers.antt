use mathlib.Core.Path.{◌≡◌, sym, ap, ◌∙◌}
use mathlib.Core.Bool.{true}
use Prim.Native.Nat.{ℕ}
use native.Mathlib.Omega.{arith}
use Rattle.table.specs.Layout.{pairs_right}
use Rattle.table.specs.FixedLayouts.{layout_of}
use Rattle.table.specs.Rules.{answer}
use Rattle.table.specs.Builder.{waits}
use Rattle.laws.specs.Fields.{image_in}
use Rattle.laws.specs.RecordKinds.{kind-of}
use Rattle.builder_record.proofs.JudgeLaws.{out-of-turn, wrong-pair, own-fault, wrong-object, no-fault}
use Rattle.builder_record.proofs.judging.judged.Goals.{After-pairs_right, After-waits, Else-not-pairs_right}
use Rattle.builder_record.proofs.judging.judged.Goals as goal

kind-is : (c : After-waits) →
    (layout_of c.args.kind).kind ≡ c.args.kind
kind-is c =
    kind-of c.args.kind c.requires.0 c.requires.1

in-turn : (c : After-pairs_right) →
    waits c.args.state (layout_of c.args.kind).kind ≡ true
in-turn c =
    ap (waits c.args.state) (kind-of c.args.kind c.requires.0 c.requires.1)
    ∙ sym c.waits.ensures
    ∙ c.if-not-waits.false

right : (c : Else-not-pairs_right) →
    pairs_right (layout_of c.args.kind).shape (image_in (layout_of c.args.kind) c.args.told.now 0)
    ≡ true
right c = sym c.pairs_right.ensures ∙ c.if-not-pairs_right.false

pub returns-then-not-waits : goal.returns-then-not-waits
returns-then-not-waits c =
    c.refuse.ensures
    ∙ out-of-turn (layout_of c.args.kind) c.args.state
    (image_in (layout_of c.args.kind) c.args.told.now 0) c.args.own c.args.objects
    (ap (waits c.args.state) (kind-is (goal.at.returns-then-not-waits c).After-waits)
    ∙ sym c.waits.ensures
    ∙ c.if-not-waits.true)

pub pairs_right-requires : goal.pairs_right-requires
pairs_right-requires c =
    (c.requires.0, c.requires.1, omega (arith, c.requires.2))

pub returns-then-not-pairs_right : goal.returns-then-not-pairs_right
returns-then-not-pairs_right c =
    c.refuse-then-not-pairs_right.ensures
    ∙ ap (λ (i : ℕ). answer 10 i c.args.state.position) (sym (kind-is (goal.at.returns-then-not-pairs_right c).After-waits))
    ∙ wrong-pair (layout_of c.args.kind) c.args.state
    (image_in (layout_of c.args.kind) c.args.told.now 0) c.args.own c.args.objects
    (in-turn (goal.at.returns-then-not-pairs_right c).After-pairs_right) (sym c.pairs_right.ensures ∙ c.if-not-pairs_right.true)

pub returns-then-own-ne0 : goal.returns-then-own-ne0
returns-then-own-ne0 c =
    c.refuse-then-own-ne0.ensures
    ∙ ap (λ (i : ℕ). answer c.args.own i c.args.state.position) (sym (kind-is (goal.at.returns-then-own-ne0 c).After-waits))
    ∙ own-fault (layout_of c.args.kind) c.args.state
    (image_in (layout_of c.args.kind) c.args.told.now 0) c.args.own c.args.objects
    (in-turn (goal.at.returns-then-own-ne0 c).After-pairs_right) (right (goal.at.returns-then-own-ne0 c).Else-not-pairs_right) c.if-own-ne0.true

pub returns-then-objects-ne0 : goal.returns-then-objects-ne0
returns-then-objects-ne0 c =
    c.refuse-then-objects-ne0.ensures
    ∙ ap (λ (i : ℕ). answer c.args.objects i c.args.state.position)
    (sym (kind-is (goal.at.returns-then-objects-ne0 c).After-waits))
    ∙ wrong-object (layout_of c.args.kind) c.args.state
    (image_in (layout_of c.args.kind) c.args.told.now 0) c.args.own c.args.objects
    (in-turn (goal.at.returns-then-objects-ne0 c).After-pairs_right) (right (goal.at.returns-then-objects-ne0 c).Else-not-pairs_right) c.if-own-ne0.false c.if-objects-ne0.true

pub returns : goal.returns
returns c =
    c.done.ensures
    ∙ no-fault (layout_of c.args.kind) c.args.state
    (image_in (layout_of c.args.kind) c.args.told.now 0) c.args.own c.args.objects
    (in-turn (goal.at.returns c).After-pairs_right) (right (goal.at.returns c).Else-not-pairs_right) c.if-own-ne0.false c.if-objects-ne0.false
