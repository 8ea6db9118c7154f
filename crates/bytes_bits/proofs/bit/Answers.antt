use Rattle.bytes_bits.proofs.bit.Goals as goal

pub returns : goal.returns
returns c = cc
