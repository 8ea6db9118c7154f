use Rattle.std.proofs.Common.{◌≡◌, ℕ, ◌+◌, List, length, get_or, drop, sym, refl, ap, ◌∙◌, arith, lit<, get_or-drop, get_or-take}
use Rattle.table.specs.Bytes.{part}
use Rattle.table.specs.Layout.{base_of}
use Rattle.table.specs.FixedLayouts.{layout_of, info}
use Rattle.laws.specs.Fields.{Bytes, image_in, whole}
use Rattle.layout_images.proofs.Laws.{part-long}
use Rattle.reads_by_seat.proofs.versions.info_version.Goals as goal

-- by the bytes of the info
version-at : (t : List ℕ) → Bytes t → (a : ℕ) → get_or (part t a (base_of (layout_of 7))) 3 0 ≡ get_or (image_in info t a) 3 0
unfolding layout_of info image_in
version-at t b a = get_or-take 128 (drop a t) 3 0 (lit< tt) ∙ get_or-drop a t 3 0 ∙ sym (whole info.shape.keep t a 3 tt refl (b (a + 3)))

pub bounds-record_at-3 : goal.bounds-record_at-3
unfolding layout_of info
bounds-record_at-3 c =
    omega (arith, part-long c.args.t.now c.args.at (base_of (layout_of 7)) c.requires.1.within, ap length c.record_at.ensures)

pub returns : goal.returns
returns c =
    let a = c.args in
    ap (λ (x : List ℕ). get_or x 3 0) c.record_at.ensures ∙ version-at a.t.now (λ i. omega (arith, c.type_inv.t i)) a.at
