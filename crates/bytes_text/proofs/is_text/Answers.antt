use Rattle.std.proofs.Common.{ap, ◌∙◌, not}
use Rattle.laws.specs.TextLaws.{no_zero}
use Rattle.bytes_text.proofs.Laws.{twice, unended, well-ended}
use Rattle.bytes_text.proofs.is_text.Goals as goal

pub returns-then-last-eq0 : goal.returns-then-last-eq0
returns-then-last-eq0 c =
    let front = c.in-Some.front.now in
    ap not c.zero_by_blocks.ensures ∙ twice (no_zero front) ∙ well-ended c.args.bytes.now front c.in-Some.last.now c.in-Some.ensures.cases.0 c.if-last-eq0.true

pub returns-else-last-eq0 : goal.returns-else-last-eq0
returns-else-last-eq0 c = unended c.args.bytes.now c.in-Some.front.now c.in-Some.last.now c.in-Some.ensures.cases.0 c.if-last-eq0.false
