use Rattle.std.proofs.Common.{arith, refl, drop, length-drop}
use lib.ListN.{drop_of_length-le}
use Rattle.text_addresses.specs.Runs.{runs_of}
use Rattle.text_addresses.specs.Addresses.{groups}
use Rattle.text_addresses.proofs.Groups.{eight, runs_fit, runs-next}
use Rattle.text_addresses.proofs.runs_in.Goals as goal

pub loop-i-init : goal.loop-i-init
unfolding runs_of
loop-i-init c = rw (drop_of_length-le (groups c.args.b.now) {i = 8} (omega (arith, eight c.args.b.now c.requires))) refl

pub joined_runs-r-requires : goal.joined_runs-r-requires
joined_runs-r-requires c =
    let b = c.args.b.now in
    let i = c.loop-i.i in
    let f = runs_fit (drop i (groups b)) in
    let n = length-drop i (groups b) in
    rw c.loop-i.invariant (omega (arith, eight b c.requires), omega (arith, eight b c.requires))

pub loop-i-preserved : goal.loop-i-preserved
loop-i-preserved c =
    let b = c.args.b.now in
    let i = c.loop-i.i in
    cc (
      c.joined_runs-r.ensures,
      c.group_at.ensures.0,
      c.loop-i.invariant,
      runs-next (groups b) i c.loop-i-test.true (omega (arith, c.loop-i.auto.i, eight b c.requires)),
    )
