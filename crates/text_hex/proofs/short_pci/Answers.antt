use Rattle.std.proofs.Common.{refl, append_assoc}
use Rattle.text_hex.specs.Hexadecimal.{short_pci_of}
use Rattle.text_hex.proofs.short_pci.Goals as goal

pub returns : goal.returns
unfolding short_pci_of
returns c =
    simp (c.put_unpadded-3.ensures.1, c.push-2.ensures, c.put_unpadded-2.ensures.1, c.push.ensures, c.put_unpadded.ensures.1, c.append.ensures, c.new-text.ensures, append_assoc)
    refl
