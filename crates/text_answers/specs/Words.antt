-- What the numbers of an answer mean, in words, and the line that says so. Assumes nothing.
use Rattle.std.specs.Prelude.{cond, List, [], ◌++◌, ℕ, ◌≡◌, refl, eqb}
use Prim.Native.String.{String}
use Rattle.text.specs.Ascii.{ascii}
use Rattle.text.specs.Numerals.{digits_of, numeral}

unfoldable pub meaning_of : ℕ → String
meaning_of n =
    cond (eqb n 0) "good"
    (cond (eqb n 1) "too few bytes"
    (cond (eqb n 2) "the signature is wrong"
    (cond (eqb n 3) "Length is outside what is lent"
    (cond (eqb n 4) "Length is above 65536"
    (cond (eqb n 5) "the checksum is wrong"
    (cond (eqb n 6) "the header's major revision is wrong"
    (cond (eqb n 7) "the control record is wrong"
    (cond (eqb n 8) "a record length or a region is wrong"
    (cond (eqb n 9) "a version is wrong"
    (cond (eqb n 10) "a host that is not valid, or a wrong ID, index, type or two-bit field"
    (cond (eqb n 11) "a reference is wrong, outside the heap, or required and absent"
    (cond (eqb n 12) "a heap record breaks its rule"
    (cond (eqb n 13) "an index names no valid record"
    (cond (eqb n 14) "the output is too short"
    (cond (eqb n 15) "a builder call out of turn or an impossible state"
    (cond (eqb n 16) "no such kind, position or field"
    (cond (eqb n 17) "the output would pass 65536 bytes"
    (cond (eqb n 18) "a text does not end in its only zero byte"
    (cond (eqb n 19) "a heap record shares a byte with another object"
    (cond (eqb n 20) "a secondary list is too long or names an HFI twice"
    "a fault with no name"))))))))))))))))))))

unfoldable pub kind_of : ℕ → String
kind_of k =
    cond (eqb k 0) "header"
    (cond (eqb k 1) "control"
    (cond (eqb k 2) "host"
    (cond (eqb k 3) "HFI"
    (cond (eqb k 4) "SSNS"
    (cond (eqb k 5) "security"
    (cond (eqb k 6) "discovery"
    "a record with no name"))))))

-- a position of 0 is no place in a list, and is left out
unfoldable pub place_of : ℕ → ℕ → List ℕ
place_of k p = ascii ": " ++ ascii (kind_of k) ++ cond (eqb p 0) [] (ascii " " ++ numeral p)

-- what is wrong and where, or that nothing is
unfoldable pub fault_line : ℕ → ℕ → ℕ → List ℕ
fault_line n k p = ascii (meaning_of n) ++ cond (eqb n 0) [] (place_of k p) ++ ascii "\n"

pub good : fault_line 0 0 0 ≡ ascii "good\n"
unfolding fault_line meaning_of
good = refl

pub of-the-table : fault_line 5 0 0 ≡ ascii "the checksum is wrong: header\n"
unfolding fault_line place_of meaning_of kind_of
of-the-table = refl

pub of-a-record : fault_line 13 4 2 ≡ ascii "an index names no valid record: SSNS 2\n"
unfolding fault_line place_of meaning_of kind_of numeral digits_of
of-a-record = refl
