use Rattle.std.proofs.Common.{refl, append_assoc}
use Rattle.text_hex.specs.Hexadecimal.{mac_of}
use Rattle.text_hex.proofs.mac.Goals as goal

pub returns : goal.returns
unfolding mac_of
returns c =
    simp (c.put_next-5.ensures.1, c.put_next-4.ensures.1, c.put_next-3.ensures.1, c.put_next-2.ensures.1, c.put_next.ensures.1, c.put_hex_byte.ensures.1, c.new-text.ensures, append_assoc)
    refl
