use Rattle.closer_sites.specs.Walk.{record_of}
use Rattle.table.proofs.Rules.{picks}
use Rattle.closer_sites.proofs.to_record.Goals as goal

pub returns-then-w-eq-ID : goal.returns-then-w-eq-ID
unfolding record_of
returns-then-w-eq-ID c = rw c.if-w-eq-ID.true c.to_host.ensures

pub returns : goal.returns
unfolding record_of
returns c = search picks
