use Rattle.std.proofs.Common.{refl, append_assoc}
use Rattle.text_hex.specs.Hexadecimal.{pci_of}
use Rattle.text_hex.proofs.pci.Goals as goal

pub returns : goal.returns
unfolding pci_of
returns c =
    simp (c.put_hex-4.ensures.1, c.push-3.ensures, c.put_hex-3.ensures.1, c.push-2.ensures, c.put_hex-2.ensures.1, c.push.ensures, c.put_hex.ensures.1, c.new-text.ensures, append_assoc)
    refl
