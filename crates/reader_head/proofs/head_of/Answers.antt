use Rattle.reader_head.specs.Head.{head_of}
use native.Mathlib.Omega.{arith}
use Rattle.reader_head.proofs.head_of.Goals as goal

pub returns : goal.returns
unfolding head_of
returns c = (
  rw (
    c.u32_at.ensures.0,
    c.u32_at-2.ensures.0,
    c.u16_at.ensures.0,
    c.reference_at.ensures.0,
    c.region_at.ensures.0,
    c.entry_at.ensures.0,
    c.entry_at-2.ensures.0,
    c.entry_at-3.ensures.0,
    c.entry_at-4.ensures.0,
  ),
  record {
    csl = c.u16_at.ensures.1;
    host = (c.reference_at.ensures.1, omega (arith, c.reference_at.ensures.2));
    heap = c.region_at.ensures.1;
    hfi = c.entry_at.ensures.1;
    ssns = c.entry_at-2.ensures.1;
    security = c.entry_at-3.ensures.1;
    discovery = c.entry_at-4.ensures.1;
  },
)
