use mathlib.Core.Path.{◌≡◌, ap, ◌∙◌}
use Prim.Native.Nat.{ℕ, ◌+◌, ◌-◌}
use native.Mathlib.Omega.{arith}
use lib.ListN.{length, take, drop, length-drop}
use lib.Seq.{length-take-le}
use Rattle.table.specs.Bytes.{splice}
use Rattle.table.specs.FixedLayouts.{layout_of}
use Rattle.laws.specs.Fields.{image_in}
use Rattle.reads_seats.proofs.MeaningLaws.{image-front}
use Rattle.bytes_writer.proofs.StoreLaws.{lent}
use Rattle.rewriter_objects.proofs.put_record.Goals as goal

pub image_into-requires : goal.image_into-requires
image_into-requires c = let a = c.args in let b = c.base_size in let x = a.out.now in let k : ℕ = a.place + b.result - a.place in
    let l : length (take k (drop a.place x)) ≡ k = length-take-le k (drop a.place x) (rw length-drop (omega (arith, b.ensures, c.requires.2))) in
    (c.requires.0, c.requires.1, omega (arith, l, b.ensures))

pub returns : goal.returns
unfolding image_in
returns c =
    let a = c.args in
    let x = a.out.now in
    let b = c.base_size in
    let y = c.image_into in
    let k : ℕ = a.place + b.result - a.place in
    let l : length (take k (drop a.place x)) ≡ k = length-take-le k (drop a.place x)
    (rw length-drop (omega (arith, b.ensures, c.requires.2))) in
    lent x a.place k y.new.part (y.auto.part ∙ l)
    ∙ ap (splice x a.place) (y.ensures ∙ image-front (layout_of a.kind) a.t.now a.source)
