use native.Mathlib.Omega.{arith}
use Rattle.rewriter_sizes.proofs.PartLaws.{heap-parts}
use Rattle.rewriter_sizes.proofs.sizes.heap_size.Goals as goal

pub returns : goal.returns
returns c =
    let t = c.args.t.now in
    let p = heap-parts t (λ i. omega (arith, c.type_inv.t i)) c.requires in (
      omega (
        arith,
        p,
        c.entry_size-driver.ensures.0,
        c.entry_size-owner.ensures.0,
        c.list_size-hfi.ensures.0,
        c.list_size-ssns.ensures.0,
        c.list_size-security.ensures.0,
        c.list_size-discovery.ensures.0,
      ),
      omega (
        arith,
        c.entry_size-driver.ensures.1,
        c.entry_size-owner.ensures.1,
        c.list_size-hfi.ensures.1,
        c.list_size-ssns.ensures.1,
        c.list_size-security.ensures.1,
        c.list_size-discovery.ensures.1,
      ),
    )
