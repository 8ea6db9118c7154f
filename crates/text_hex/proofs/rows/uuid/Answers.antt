use Rattle.std.proofs.Common.{refl, append_assoc}
use Rattle.text_hex.specs.Hexadecimal.{uuid_of}
use Rattle.text_hex.proofs.rows.uuid.Goals as goal

pub returns : goal.returns
unfolding uuid_of
returns c =
    simp (c.put_dashed-4.ensures.1, c.put_dashed-3.ensures.1, c.put_dashed-2.ensures.1, c.put_dashed.ensures.1, c.put_hexes.ensures.1, c.new-text.ensures, append_assoc)
    refl
