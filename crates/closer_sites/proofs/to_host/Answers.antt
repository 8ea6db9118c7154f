use mathlib.Core.Path.{◌≡◌, ap, ap₂, ◌∙◌}
use mathlib.Core.List.{List}
use native.Mathlib.Omega.{arith}
use Prim.Native.Nat.{ℕ}
use lib.ListN.{length}
use lib.Dec.{lit≤}
use Rattle.table.specs.declared.Region.{Region}
use Rattle.table.specs.Bytes.{num, part}
use Rattle.table.specs.Layout.{is_valid}
use Rattle.table.specs.FixedLayouts.{host, layout_of}
use Rattle.laws.specs.Fields.{image_in}
use Rattle.layout_images.proofs.Laws.{image-own, part-long}
use Rattle.closer_sites.specs.Walk.{first_of, host_of, walk}
use Rattle.closer_sites.proofs.to_host.Goals.{After-reference_at-at}
use Rattle.closer_sites.proofs.to_host.Goals as goal

-- where the host stands
host-at : (c : After-reference_at-at) → c.reference_at-at.result.at ≡ num c.args.t.now 72 4
host-at c = ap (λ (r : Region). r.at) c.reference_at-at.ensures.0

pub part_of-requires : goal.part_of-requires
part_of-requires c = omega (arith, c.requires.owner, host-at (goal.at.part_of-requires c).After-reference_at-at)

pub is_used-used-requires : goal.is_used-used-requires
unfolding layout_of host
is_used-used-requires c =
    let at = c.reference_at-at.result.at in
    let l = part-long c.args.t.now at 32 (omega (arith, c.requires.owner, host-at (goal.at.is_used-used-requires c).After-reference_at-at)) in
    (lit≤ tt, lit≤ tt, omega (arith, ap length c.part_of.ensures.0, l))

pub returns : goal.returns
unfolding host_of layout_of host
returns c =
    let t = c.args.t.now in
    let e = host-at (goal.at.returns c).After-reference_at-at in
    let i : image_in host c.part_of.result.now 0 ≡ image_in host t (num t 72 4) =
    ap (λ (x : List ℕ). image_in host x 0) (c.part_of.ensures.0 ∙ ap (λ (a : ℕ). part t a 32) e) ∙ image-own 2 t (num t 72 4) in
    c.walk_of.ensures
    ∙ ap₂ (walk 3 0 2) e (c.first_of.ensures ∙ ap (first_of 2) (c.is_used-used.ensures ∙ ap (is_valid host.shape) i))
