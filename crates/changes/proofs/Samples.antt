-- Tables beside tables, and the lines that the definitions compute of them. Assumes nothing.
use mathlib.Core.Bool.{Bool, true, ◌&&◌}
use mathlib.Core.List.{List, [], ◌∷◌}
use Prim.Native.Nat.{ℕ}
use Prim.Native.String.{String}
use lib.Dec.{T}
use Rattle.table.specs.Bytes.{edit, same}
use Rattle.table.specs.Layout.{image}
use Rattle.table.specs.FixedLayouts.{discovery, extended, header, hfi, hfi_extended, host, info, security, ssns}
use Rattle.table.specs.Objects.{read_body, read_entry, read_list, read_slots}
use Rattle.table.specs.Meaning.{meaning}
use Rattle.table.proofs.Samples.{identity_with, k1, with}
use Rattle.text.specs.Ascii.{ascii}
use Rattle.text.specs.Numerals.{digits_of, numeral}
use Rattle.text_hex.specs.Hexadecimal.{hex_digit, hex_of}
use Rattle.changes.specs.Changes.{body_lines, changes, count_lines, entry_lines, list_lines, named_lines, text_of, texts_of}

-- two tables, and what must be printed of them
pub record Pair : Type 0 where
  pub one : List ℕ
  pub other : List ℕ
  pub lines : String

abbrev pub pair : List ℕ → List ℕ → String → Pair
pair t u s = record { one = t; other = u; lines = s }

unfoldable pub fine : Pair → Bool
unfolding image header host info extended hfi_extended hfi ssns security discovery read_slots read_entry read_list read_body meaning digits_of numeral hex_digit hex_of named_lines entry_lines list_lines body_lines count_lines changes text_of
fine p = same (texts_of (changes (meaning p.one) (meaning p.other))) (ascii p.lines)

abbrev pub all_fine : List Pair → Bool
all_fine [] = true
all_fine (p ∷ ps) = fine p && all_fine ps

-- In order: K1 and itself; K7, whose NQN is empty, and the other way round; K9, which differs in a reserved byte; a flag of the host, and its ID; an HFI extended
-- info without client identifier, whose references are then ignored; an unused HFI
abbrev pub samples : List Pair
samples =
    pair k1 k1 ""
    ∷ pair k1 (with (edit 146 (0xA1 ∷ []) ∷ edit 150 (1 ∷ []) ∷ [])) "2 0 18 2 1 0\n"
    ∷ pair (with (edit 146 (0xA1 ∷ []) ∷ edit 150 (1 ∷ []) ∷ [])) k1 "2 0 18 1 2 0\n"
    ∷ pair k1 (with (edit 152 (5 ∷ []) ∷ [])) ""
    ∷ pair k1 (with (edit 129 (3 ∷ 0xA7 ∷ []) ∷ [])) "2 0 1 1 3\n2 0 2 00000000000000000000000000000000 a7000000000000000000000000000000\n"
    ∷ pair (identity_with []) (identity_with (edit 328 (1 ∷ []) ∷ [])) "10 1 4 3 1\n10 1 8 2 0 0\n10 1 14 1 0 0\n"
    ∷ pair (identity_with []) (identity_with (edit 162 (0 ∷ []) ∷ [])) "3 1 used 1\n"
    ∷ []

pub samples-fine : T (all_fine samples)
unfolding fine
samples-fine = tt
