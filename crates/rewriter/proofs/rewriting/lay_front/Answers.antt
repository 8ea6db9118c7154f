use Rattle.table.specs.Meaning.{heap_at}
use native.Mathlib.Omega.{arith}
use Rattle.rewriter.proofs.rewriting.lay_front.Goals as goal

pub write_front-requires : goal.write_front-requires
unfolding heap_at
write_front-requires c = (omega (arith, c.requires.1), c.oem.ensures.1)

pub returns : goal.returns
returns c =
    rw (
      ← c.oem.ensures.0,
      ← c.form_minor.ensures,
      ← c.count_byte.ensures,
      ← c.count_byte-2.ensures,
      ← c.count_byte-3.ensures,
      ← c.count_byte-4.ensures,
    ) c.write_front.ensures
