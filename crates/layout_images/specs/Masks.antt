-- The bits of each byte that count, as masks: what code reads the layouts from. Definitions only.
use Rattle.std.specs.Prelude.{Bool, true, false, not, List, [], ◌∷◌, ◌++◌, ℕ, ◌-◌, ◌/◌, ◌%◌, get_or, take, drop, eqb}
use Rattle.table.specs.Bytes.{pick, padded}
use Rattle.table.specs.Layout.{Keep, low, sel}
use Rattle.table.specs.FixedLayouts.{layout_of}

-- `more` says that the flag is set under which a further field counts, `newer` the bit of the version under which one more flag does
abbrev pub mask_of : Bool → Bool → Keep → ℕ
mask_of more newer (low n) = n - 1
mask_of more newer (sel f d m₀ m₁) = pick (pick (eqb d 2) newer more) m₁ m₀ - 1

abbrev pub masks_of : Bool → Bool → List Keep → List ℕ
masks_of more newer [] = []
masks_of more newer (k ∷ ks) = mask_of more newer k ∷ masks_of more newer ks

-- the byte that has that flag, as its bit 2
abbrev pub switch_of : ℕ → ℕ
switch_of k = pick (eqb k 4) 3 6

abbrev pub switched : ℕ → Bool
switched k = pick (eqb k 4) true (eqb k 7)

-- whether it is set in the bytes of a record of kind k
unfoldable pub on_in : ℕ → List ℕ → Bool
on_in k x = pick (switched k) (not (eqb (get_or x (switch_of k) 0 % 8 / 4) 0)) false

-- whether the bit of the version is, which an info alone has: bit 1 of byte 3
unfoldable pub newer_in : ℕ → List ℕ → Bool
newer_in k x = pick (eqb k 7) (not (eqb (get_or x 3 0 % 4 / 2) 0)) false

-- the masks of kind k, filled up to the size of the longest record
unfoldable pub masks_for : ℕ → Bool → Bool → List ℕ
masks_for k more newer = padded 128 (masks_of more newer (layout_of k).shape.keep)

-- d, with its first i elements those of s
abbrev pub over : List ℕ → List ℕ → ℕ → List ℕ
over d s i = take i s ++ drop i d
