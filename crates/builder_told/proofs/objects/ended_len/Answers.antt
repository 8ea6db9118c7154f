use Rattle.builder_told.proofs.Laws.{ended-none, ended_some}
use Rattle.builder_told.proofs.objects.ended_len.Goals as goal

pub returns-then-len-eq0 : goal.returns-then-len-eq0
returns-then-len-eq0 c = ended-none c.args.object.now c.if-len-eq0.true

pub returns : goal.returns
returns c = ended_some c.args.object.now c.if-len-eq0.false
