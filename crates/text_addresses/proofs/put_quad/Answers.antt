use Rattle.std.proofs.Common.{refl, append_assoc}
use Rattle.text_addresses.specs.Addresses.{quad_of}
use Rattle.text_addresses.proofs.put_quad.Goals as goal

pub returns : goal.returns
unfolding quad_of
returns c = simp (c.put_octet-3.ensures.1, c.put_octet-2.ensures.1, c.put_octet.ensures.1, c.put_number.ensures.1, c.wide.ensures.0, append_assoc) refl
