use Rattle.reader_lists.specs.Lists.{list_fault, list_looks}
use Rattle.reader_lists.proofs.list_fault.Goals as goal

pub list_from-requires : goal.list_from-requires
list_from-requires c =
    let p = c.requires in record {
      laid_out = p.laid_out;
      step_in_bounds = (
        rw (c.wide.ensures.0, c.u16_at.ensures.0, c.u32_at.ensures.0) p.c_in_bounds.1.within,
        rw (c.wide.ensures.0, c.u16_at.ensures.0) p.c_in_bounds.1.long,
        c.wide.ensures.1,
        c.u32_at.ensures.1,
      );
    }

pub returns : goal.returns
unfolding list_fault list_looks
returns c =
    let e = c.list_from.ensures in
    (cc e.0, cc e.1, e.2)
