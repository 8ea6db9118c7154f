use mathlib.Core.Path.{refl}
use Rattle.reads.proofs.records.image_of.Goals as goal

pub returns : goal.returns
returns c = rw (c.done-answer.ensures, c.base_size-len.ensures, c.image_bytes-bytes.ensures) refl
