use Prim.Native.Nat.{ℕ}
use native.Mathlib.Nat.{zero-add}
use mathlib.Core.Path.{ap, ap₂, sym, ◌∙◌}
use Rattle.table.specs.Rules.{done}
use Rattle.table.specs.Objects.{under}
use Rattle.table.specs.declared.Need.{Need}
use Rattle.reads_seats.proofs.ObjectLaws.{plain_fits}
use Rattle.laws.specs.Fields.{image_in}
use Rattle.table.specs.Reads.{no_place, ref_place}
use native.Mathlib.Omega.{arith}
use Rattle.reads_seats.proofs.objects.object_of.Goals as goal

pub named_place-requires : goal.named_place-requires
named_place-requires c =
    let a = c.args in
    omega (arith, plain_fits a.kind a.offset c.requires.1, c.requires.0)

pub returns-then-used : goal.returns-then-used
unfolding image_in
returns-then-used c = let x = c.args.bytes.now in let off = c.args.offset in
    rw (c.requires.1, c.if-used.true)
    (c.named_place.ensures
    ∙ ap₂ (λ (n : Need) (i : ℕ). under n (no_place done) (ref_place x i)) c.object_need.ensures (sym (zero-add off)))

pub returns : goal.returns
returns c = rw (c.requires.1, c.if-used.false) (c.no_place.ensures ∙ ap no_place c.done.ensures)
