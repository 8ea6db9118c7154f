use Rattle.text.proofs.Rules.{picks}
use Rattle.text_addresses.specs.Runs.{joined}
use Rattle.text_addresses.proofs.joined_runs.Goals as goal

pub returns-then-r-first : goal.returns-then-r-first
unfolding joined
returns-then-r-first c = search picks

pub returns : goal.returns
unfolding joined
returns c = search picks
