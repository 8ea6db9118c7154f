use native.Mathlib.Omega.{arith}
use Rattle.layout_flags.proofs.Laws.{host-pairs, ssns-pairs, security-pairs, pairs-none}
use Rattle.laws.specs.Fields.{image_in}
use Rattle.table.specs.FixedLayouts.{layout_of, host, ssns, security}
use Rattle.table.proofs.Rules.{picks}
use Rattle.layout_flags.proofs.pairs_right.Goals as goal

pub bounds-t-a : goal.bounds-t-a
unfolding layout_of host
bounds-t-a c = let p = rw c.in-2.is at c.requires.2 in omega (arith, p)

pub ssns_flags-requires : goal.ssns_flags-requires
unfolding layout_of ssns
ssns_flags-requires c = rw c.in-4.is at c.requires.2

pub security_flags-requires : goal.security_flags-requires
unfolding layout_of security
security_flags-requires c = rw c.in-5.is at c.requires.2

pub returns-in-2 : goal.returns-in-2
returns-in-2 c =
    rw (c.in-2.is, ← host-pairs c.args.t.now c.args.a) (cc)

pub returns-in-4 : goal.returns-in-4
returns-in-4 c =
    rw (c.in-4.is, ← ssns-pairs c.args.t.now c.args.a) (cc)

pub returns-in-5 : goal.returns-in-5
returns-in-5 c =
    rw (c.in-5.is, ← security-pairs c.args.t.now c.args.a) (cc)

pub returns-in_default : goal.returns-in_default
returns-in_default c =
    pairs-none c.args.kind (image_in (layout_of c.args.kind) c.args.t.now c.args.a)
    (search picks) (search picks) (search picks)
