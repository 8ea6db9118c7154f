use Rattle.closer_sites.specs.Walk.{onward_of}
use Rattle.table.proofs.Rules.{picks}
use Rattle.closer_sites.proofs.onward.Goals.{then-named-eq0-via-then-named-eq0, then-named-eq0-via-else-named-eq0+then-named-eq0-2}
use Rattle.closer_sites.proofs.onward.Goals as goal

pub returns-then-named-eq0 : goal.returns-then-named-eq0
unfolding onward_of
returns-then-named-eq0 c =
    elim c.then-named-eq0.branch [
      | then-named-eq0-via-then-named-eq0 w ↦ search picks
      | then-named-eq0-via-else-named-eq0+then-named-eq0-2 w ↦ search picks
    ]

pub returns : goal.returns
unfolding onward_of
returns c = search picks
