use Rattle.builder_hfi.proofs.is_there.Goals as goal

pub returns-then-extended_told : goal.returns-then-extended_told
returns-then-extended_told c =
    rw c.if-extended_told.true c.is_newer.ensures
