use Rattle.table.specs.FixedLayouts.{hfi, ssns, security, discovery}
use Rattle.table.proofs.Rules.{picks}
use Rattle.builder_state.proofs.first_list.Goals as goal

pub returns-then-hfi-ne0 : goal.returns-then-hfi-ne0
unfolding hfi ssns security discovery
returns-then-hfi-ne0 c = search picks

pub returns-then-ssns-ne0 : goal.returns-then-ssns-ne0
unfolding hfi ssns security discovery
returns-then-ssns-ne0 c = search picks

pub returns-then-security-ne0 : goal.returns-then-security-ne0
unfolding hfi ssns security discovery
returns-then-security-ne0 c = search picks

pub returns-then-discovery-ne0 : goal.returns-then-discovery-ne0
unfolding hfi ssns security discovery
returns-then-discovery-ne0 c = search picks

pub returns : goal.returns
unfolding hfi ssns security discovery
returns c = search picks
