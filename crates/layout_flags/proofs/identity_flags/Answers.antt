use Rattle.layout_flags.proofs.Laws.{identity-flags}
use Rattle.layout_flags.proofs.identity_flags.Goals as goal

pub returns : goal.returns
returns c = rw (identity-flags c.args.bytes.now) (cc)
