use Rattle.c_states.proofs.StateLaws.{four_bytes}
use lib.ListN.{length}
use mathlib.Core.Path.{◌≡◌}
use borrow.Author.Rules.{rules}
use Rattle.c_states.proofs.counts_of.Goals as goal

pub returns : goal.returns
returns c = let b = c.args.b in let l : length b ≡ 4 = search rules in four_bytes b l
