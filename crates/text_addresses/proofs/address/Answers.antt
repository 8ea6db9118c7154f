use Rattle.std.proofs.Common.{arith, ◌≡◌, refl}
use borrow.Author.Tests.{eq-eqb, ne_eqb}
use Rattle.text_addresses.specs.Addresses.{groups, zeros_first, address_of}
use Rattle.text_addresses.proofs.Groups.{eight, runs_fit, runs-right}
use Rattle.text_addresses.proofs.address.Goals.{After-runs_in-runs}
use Rattle.text_addresses.proofs.address.Goals as goal

zeros : (c : After-runs_in-runs) → c.runs_in-runs.result.first ≡ zeros_first (groups c.args.b.now)
zeros c = rw c.runs_in-runs.ensures (runs-right (groups c.args.b.now)).first

pub is_mapped-requires : goal.is_mapped-requires
is_mapped-requires c = (c.requires, zeros (goal.at.is_mapped-requires c).After-runs_in-runs)

pub returns-then-is_mapped : goal.returns-then-is_mapped
unfolding address_of
returns-then-is_mapped c = rw (← c.is_mapped.ensures, c.if-is_mapped.true, c.put_quad.ensures, c.new-text.ensures) refl

pub returns-then-first-eq6 : goal.returns-then-first-eq6
unfolding address_of
returns-then-first-eq6 c =
    let place = zeros (goal.at.returns-then-first-eq6 c).After-runs_in-runs in
    rw (← c.is_mapped.ensures, c.if-is_mapped.false, ← place, eq-eqb c.runs_in-runs.result.first 6 c.if-first-eq6.true, c.put_quad-then-first-eq6.ensures, c.append.ensures, c.new-text.ensures) refl

pub six-requires : goal.six-requires
six-requires c =
    let b = c.args.b.now in
    let r = runs-right (groups b) in
    let f = runs_fit (groups b) in
    rw c.runs_in-runs.ensures (c.requires, omega (arith, f.1, eight b c.requires), r.len, r.at)

pub returns : goal.returns
unfolding address_of
returns c =
    let place = zeros (goal.at.returns c).After-runs_in-runs in
    rw (← c.is_mapped.ensures, c.if-is_mapped.false, ← place, ne_eqb c.runs_in-runs.result.first 6 c.if-first-eq6.false) c.six.ensures
