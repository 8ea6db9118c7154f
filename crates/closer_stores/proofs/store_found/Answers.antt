use Prim.Native.Nat.{◌-◌, ◌<◌}
use native.Mathlib.Omega.{arith}
use Rattle.closer_stores.proofs.TurnLaws.{below-upto}
use Rattle.table.proofs.Rules.{picks}
use Rattle.closer_stores.proofs.store_found.Goals as goal

pub overflow_sub-found : goal.overflow_sub-found
overflow_sub-found c =
    let n : 0 < c.args.found.len = omega (arith, c.if-found-eq0.false) in
    omega (arith, (c.requires n).0)

pub ones_below-kept-requires : goal.ones_below-kept-requires
ones_below-kept-requires c =
    let n : 0 < c.args.found.len = omega (arith, c.if-found-eq0.false) in
    let p = c.requires n in
    omega (arith, p.0, p.1, p.2)

pub overflow_add-start : goal.overflow_add-start
overflow_add-start c =
    let a = c.args in
    let n : 0 < a.found.len = omega (arith, c.if-found-eq0.false) in
    let p = c.requires n in
    omega (arith, p.0, p.2, c.ones_below-kept.ensures, below-upto a.map.now (a.found.off - a.start))

pub put_u32-requires : goal.put_u32-requires
put_u32-requires c =
    let n : 0 < c.args.found.len = omega (arith, c.if-found-eq0.false) in
    omega (arith, (c.requires n).3)

pub returns : goal.returns
returns c = rw (← c.ones_below-kept.ensures) (search picks)
