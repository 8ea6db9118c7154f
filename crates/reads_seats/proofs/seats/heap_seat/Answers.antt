use Rattle.reads_seats.specs.Seats.{heap_at}
use Rattle.table.specs.declared.Region.{Region}
use mathlib.Core.Path.{ap}
use Rattle.table.proofs.Rules.{picks}
use Rattle.reads_seats.proofs.seats.heap_seat.Goals as goal

pub returns-then-len-eq0 : goal.returns-then-len-eq0
unfolding heap_at
returns-then-len-eq0 c = let e = ap (λ (n : Region). n.len) c.reference_at-named.ensures.0 in rw (← e) (search picks)

pub returns : goal.returns
unfolding heap_at
returns c = let n = c.reference_at-named in let e = ap (λ (x : Region). x.len) n.ensures.0 in let f = ap (λ (x : Region). x.at) n.ensures.0 in rw (← e, ← f) (search picks)
