use native.Mathlib.Nat.{zero-add}
use Rattle.reads_whole.proofs.RowLaws.{rows-turn}
use Rattle.reads_whole.proofs.EntryLaws.{zeroed, length-place}
use Rattle.reads_whole.specs.Whole.{rows, place_bytes, place_row, places_of}
use Rattle.bytes_writer.proofs.StoreLaws.{splice-none}
use Rattle.layout_images.proofs.Laws.{splice-padded}
use Rattle.layout_kinds.specs.References.{object_refs}
use Rattle.table.specs.Reads.{seat, place_at}
use Rattle.table.specs.FixedLayouts.{layout_of}
use Rattle.table.specs.Bytes.{splice}
use lib.ListN.{length, get_or, replicate, length-replicate}
use native.Mathlib.Omega.{arith}
use Prim.Native.Nat.{ℕ, ◌+◌, ◌*◌}
use mathlib.Core.List.{List}
use mathlib.Core.Path.{◌≡◌, refl, sym, ap, ◌∙◌}
use Rattle.reads_whole.proofs.entries.put_places.Goals as goal

pub loop-i-init : goal.loop-i-init
unfolding rows
loop-i-init c =
    let z = zeroed c.args.part.now c.fill_zero.new.out 48 c.requires.0 c.fill_zero.ensures in
    (c.fill_zero.auto.out ∙ c.requires.0, z ∙ splice-none (replicate 48 0) 0)

pub put_place-requires : goal.put_place-requires
put_place-requires c = omega (arith, c.loop-i.invariant.0, c.loop-i-test.true, c.object_offsets-offset-items.ensures.1)

pub loop-i-preserved : goal.loop-i-preserved
unfolding place_row
loop-i-preserved c =
    let a = c.args in
    let k = a.kind in
    let l = c.loop-i in
    let o = c.object_offsets-offset-items.ensures in
    let at = seat (layout_of k) 0 a.used in
    let row : place_bytes c.place_of.result ≡ place_row a.x.now k at (0 + l.i) = ap place_bytes
    (c.place_of.ensures
    ∙ ap (λ (q : ℕ). place_at a.x.now q at)
    (ap (λ (ps : List ℕ). get_or ps l.i 0) o.0 ∙ ap (λ (j : ℕ). get_or (object_refs (layout_of k).refs) j 0) (sym (zero-add l.i)))) in (
      c.put_place.auto.part ∙ l.invariant.0,
      rows-turn (place_row a.x.now k at) 8 (length-place a.x.now k at) (replicate 48 0) l.part
          c.put_place.new.part 0 l.i (8 * l.i) (omega (arith, c.loop-i-test.true, o.1, length-replicate {A = ℕ} 48 0)) refl
          l.invariant.1 (c.put_place.ensures ∙ ap (splice l.part (8 * l.i)) row),
    )

pub returns : goal.returns
unfolding places_of
returns c =
    let a = c.args in
    let l = c.loop-i in
    let at = seat (layout_of a.kind) 0 a.used in
    let e : l.i ≡ length (object_refs (layout_of a.kind).refs) =
    omega (arith, ap length c.object_offsets-offset-items.ensures.0) in
    l.invariant.1
    ∙ ap (λ (n : ℕ). splice (replicate 48 0) 0 (rows (place_row a.x.now a.kind at) 0 n)) e
    ∙ splice-padded 48 (rows (place_row a.x.now a.kind at) 0 (length (object_refs (layout_of a.kind).refs)))
