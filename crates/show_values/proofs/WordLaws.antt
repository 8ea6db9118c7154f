-- Words for two bits, chosen before or behind their bytes. Assumes nothing.
use Rattle.std.proofs.Common.{◌≡◌, refl, Bool, true, false, List, ℕ}
use Prim.Native.String.{String}
use lib.Dec.{eqb}
use Rattle.table.specs.Bytes.{pick}
use Rattle.text.specs.Ascii.{ascii}
use Rattle.show_values.specs.Values.{word}

chosen : (b : Bool) (x y : String) → pick b (ascii x) (ascii y) ≡ ascii (pick b x y)
chosen true x y = refl
chosen false x y = refl

pub word_is : (zeroth first second : String) (v : ℕ)
    → pick (eqb v 0) (ascii zeroth) (pick (eqb v 1) (ascii first) (pick (eqb v 2) (ascii second) (ascii "reserved"))) ≡ word zeroth first second v
word_is zeroth first second v =
    rw (chosen (eqb v 2) second "reserved", chosen (eqb v 1) first (pick (eqb v 2) second "reserved")) (chosen (eqb v 0) zeroth (pick (eqb v 1) first (pick (eqb v 2) second "reserved")))
