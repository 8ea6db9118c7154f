use Rattle.builder_told.proofs.Laws.{flags-inside, valid-of}
use native.Mathlib.Omega.{arith}
use Rattle.builder_told.specs.Marks.{marked}
use Rattle.builder_told.proofs.marks.mark.Goals as goal

pub set_valid-requires : goal.set_valid-requires
set_valid-requires c =
    omega (
      arith,
      flags-inside c.args.kind c.requires.0,
      c.requires.1,
      c.flags_at.ensures,
      c.stamp.auto.bytes,
    )

pub returns : goal.returns
unfolding marked
returns c =
    let stamp = c.stamp in
    valid-of _ stamp.new.bytes _ c.flags_at.result _ c.set_valid.ensures stamp.ensures
    c.flags_at.ensures
