use Rattle.builder_ssns.proofs.Laws.{not_own, is-own}
use Rattle.table.specs.FixedLayouts.{ssns}
use Rattle.laws.specs.Fields.{image_in}
use Rattle.builder_ssns.proofs.own_need.Goals as goal

pub returns-then-ssns_flags-eq0 : goal.returns-then-ssns_flags-eq0
returns-then-ssns_flags-eq0 c = not_own (image_in ssns c.args.marked.now 0) c.ssns_flags.result c.ssns_flags.ensures c.if-ssns_flags-eq0.true

pub returns : goal.returns
returns c = is-own (image_in ssns c.args.marked.now 0) c.ssns_flags.result c.ssns_flags.ensures c.if-ssns_flags-eq0.false
