-- Bytes of unknown meaning, made printable. Assumes nothing.
use Rattle.std.specs.Prelude.{Bool, cond, ◌&&◌, List, [], ◌∷◌, ◌++◌, ℕ, ◌≡◌, refl, eqb, leb}
use Rattle.text.specs.Ascii.{ascii}
use Rattle.text_hex.specs.Hexadecimal.{hex_digit, hex_of, row_of}

-- ASCII from the space to the tilde
unfoldable pub printable : ℕ → Bool
printable b = leb 0x20 b && leb b 0x7e

-- as itself where it is printable and no backslash (5Ch), else by its number
unfoldable pub escaped_of : ℕ → List ℕ
escaped_of b = cond (printable b) (cond (eqb b 0x5c) (ascii "\\x" ++ hex_of 2 b) (b ∷ [])) (ascii "\\x" ++ hex_of 2 b)

-- in a JSON string: a quotation mark (22h) and a backslash behind a backslash
unfoldable pub json_of : ℕ → List ℕ
json_of b =
    cond (printable b) (cond (eqb b 0x22) (ascii "\\\"") (cond (eqb b 0x5c) (ascii "\\\\") (b ∷ []))) (ascii "\\u00" ++ hex_of 2 b)

-- rows of bytes
abbrev pub escapes_of : List ℕ → List ℕ
escapes_of = row_of escaped_of

abbrev pub jsons_of : List ℕ → List ℕ
jsons_of = row_of json_of

pub backslash : escaped_of 0x5c ≡ ascii "\\x5c"
unfolding escaped_of printable hex_of hex_digit
backslash = refl

pub delete : json_of 0x7f ≡ ascii "\\u007f"
unfolding json_of printable hex_of hex_digit
delete = refl

pub quotation : json_of 0x22 ≡ ascii "\\\""
unfolding json_of printable
quotation = refl

pub a-row : escapes_of (0x61 ∷ 0x00 ∷ 0x5c ∷ []) ≡ ascii "a\\x00\\x5c"
unfolding escaped_of printable hex_of hex_digit
a-row = refl

pub a-json-row : jsons_of (0x61 ∷ 0x22 ∷ 0xff ∷ []) ≡ ascii "a\\\"\\u00ff"
unfolding json_of printable hex_of hex_digit
a-json-row = refl
