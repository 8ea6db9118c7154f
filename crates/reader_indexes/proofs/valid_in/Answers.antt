use native.Mathlib.Omega.{arith}
use Rattle.reader_indexes.proofs.valid_in.Goals as goal

pub listed-requires : goal.listed-requires
listed-requires c =
    let p = c.requires.1 in
    rw (c.wide.ensures.0, c.u16_at.ensures.0, c.u32_at.ensures.0)
    (p.within, (λ h. let l = p.long h in omega arith))

pub returns : goal.returns
returns c = cc
