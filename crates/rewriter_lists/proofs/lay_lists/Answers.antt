use Prim.Native.Nat.{◌+◌}
use native.Mathlib.Omega.{arith}
use Rattle.rewriter_sizes.proofs.PartLaws.{span-parts}
use Rattle.rewriter_lists.proofs.ListLaws.{size-body, lists-laid}
use Rattle.rewriter_lists.proofs.lay_lists.Goals as goal

pub lay_list-ssns_next-requires : goal.lay_list-ssns_next-requires
lay_list-ssns_next-requires c =
    let a = c.args in
    let t = a.t.now in
    let ok = c.requires.accepted in
    let sp = span-parts t (λ i. omega (arith, c.type_inv.t i)) ok in
    let sb = size-body t (λ i. omega (arith, c.type_inv.t i)) ok a.next in
    record { accepted = ok; kind_bound = (omega (arith, sp, c.requires.t_bound), omega (arith, sb, c.requires.t_bound)) }

pub lay_list-security_next-requires : goal.lay_list-security_next-requires
lay_list-security_next-requires c =
    let a = c.args in
    let t = a.t.now in
    let ok = c.requires.accepted in
    let sp = span-parts t (λ i. omega (arith, c.type_inv.t i)) ok in
    let sb = size-body t (λ i. omega (arith, c.type_inv.t i)) ok a.next in
    let w = c.list_span.ensures.0 in
    let p = c.lay_list-ssns_next in
    record { accepted = ok; kind_bound = (omega (arith, sp, c.requires.t_bound, w, p.ensures.0), omega (arith, sb, c.requires.t_bound, p.ensures.0, p.auto.out)) }

pub lay_list-discovery_next-requires : goal.lay_list-discovery_next-requires
lay_list-discovery_next-requires c =
    let a = c.args in
    let t = a.t.now in
    let ok = c.requires.accepted in
    let sp = span-parts t (λ i. omega (arith, c.type_inv.t i)) ok in
    let sb = size-body t (λ i. omega (arith, c.type_inv.t i)) ok a.next in
    let w = c.list_span.ensures.0 in
    let v = c.list_span-2.ensures.0 in
    let p = c.lay_list-ssns_next in
    let q = c.lay_list-security_next in record {
      accepted = ok;
      kind_bound = (
        omega (arith, sp, c.requires.t_bound, w, v, p.ensures.0, q.ensures.0),
        omega (arith, sb, c.requires.t_bound, p.ensures.0, p.auto.out, q.ensures.0, q.auto.out),
      );
    }

pub lay_list-requires : goal.lay_list-requires
lay_list-requires c =
    let a = c.args in
    let t = a.t.now in
    let ok = c.requires.accepted in
    let sp = span-parts t (λ i. omega (arith, c.type_inv.t i)) ok in
    let sb = size-body t (λ i. omega (arith, c.type_inv.t i)) ok a.next in
    let w = c.list_span.ensures.0 in
    let v = c.list_span-2.ensures.0 in
    let x = c.list_span-3.ensures.0 in
    let p = c.lay_list-ssns_next in
    let q = c.lay_list-security_next in
    let r = c.lay_list-discovery_next in record {
      accepted = ok;
      kind_bound = (
        omega (arith, sp, c.requires.t_bound, w, v, x, p.ensures.0, q.ensures.0, r.ensures.0),
        omega (
          arith,
          sb,
          c.requires.t_bound,
          p.ensures.0,
          p.auto.out,
          q.ensures.0,
          q.auto.out,
          r.ensures.0,
          r.auto.out,
        ),
      );
    }

pub returns : goal.returns
returns c =
    let a = c.args in
    let t = a.t.now in
    let ok = c.requires.accepted in
    let sp = span-parts t (λ i. omega (arith, c.type_inv.t i)) ok in
    let sb = size-body t (λ i. omega (arith, c.type_inv.t i)) ok a.next in
    let w = c.list_span in
    let v = c.list_span-2 in
    let x = c.list_span-3 in
    let p = c.lay_list-ssns_next in
    let q = c.lay_list-security_next in
    let r = c.lay_list-discovery_next in
    let z = c.lay_list in
    lists-laid t (λ i. omega (arith, c.type_inv.t i)) ok a.next a.out.now p.new.out
    q.new.out r.new.out z.new.out a.place (a.place + w.result) (a.place + w.result + v.result)
    (a.place + w.result + v.result + x.result) p.result q.result r.result c.requires.t_bound.0 c.requires.t_bound.1
    (omega (arith, w.ensures.0)) (omega (arith, v.ensures.0)) (omega (arith, x.ensures.0)) p.ensures.1
    p.ensures.0 q.ensures.1 q.ensures.0 r.ensures.1 r.ensures.0 z.ensures.1
