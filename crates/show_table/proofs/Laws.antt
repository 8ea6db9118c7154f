-- Names behind bars, byte by byte, and rows by their numbers. Assumes nothing.
use mathlib.Core.Path.{◌≡◌, refl, sym, ap, ◌∙◌}
use mathlib.Core.Bool.{Bool, true, false, ◌&&◌}
use mir.Facts.{and_yes}
use mathlib.Core.List.{List, [], ◌∷◌, ◌++◌, append_assoc}
use Prim.Native.Nat.{ℕ, zero, suc, ◌+◌, ◌-◌, ◌≤◌, ◌<◌}
use native.Mathlib.Omega.{arith}
use lib.ListN.{length, get_or, take, drop, length-drop}
use lib.Seq.{drop-cons, drop-length, take-suc, get_or-drop}
use Rattle.table.specs.Bytes.{pick}
use Prim.Native.String.{String}
use lib.Dec.{T, eqb, leb, leb→le}
use native.Mathlib.Nat.{le_of_suc-le-suc}
use Rattle.table.specs.Bytes.{same}
use Rattle.laws.specs.ByteLaws.{same-eq}
use Rattle.text.specs.Ascii.{ascii}
use Rattle.show_table.specs.Names.{bars_in, behind_bars, until_bar, name_at}
use Rattle.show_table.specs.Shown.{Line, no_line}
use Rattle.show_table.specs.declared.Row.{Row}

pub behind-nothing : (n : ℕ) → behind_bars n [] ≡ []
behind-nothing zero = refl
behind-nothing (suc n) = refl

behind-cons : (m b : ℕ) (bs : List ℕ) → behind_bars (suc m) (b ∷ bs) ≡ behind_bars (suc m - bars_in b) bs
behind-cons m b bs = go (eqb b 124)
  where
    go : (c : Bool) → pick c (behind_bars m bs) (behind_bars (suc m) bs) ≡ behind_bars (suc m - pick c 1 0) bs
    go true = let z : m ≡ suc m - 1 = omega arith in ap (λ (k : ℕ). behind_bars k bs) z
    go false = let z : suc m ≡ suc m - 0 = omega arith in ap (λ (k : ℕ). behind_bars k bs) z

module _ (names : List ℕ) (at : ℕ) where
  -- at the end no bar is left
  pub behind-end : (m : ℕ) → length names ≤ at → at ≤ length names → behind_bars m (drop at names) ≡ drop at names
  behind-end m l h =
      let e : at ≡ length names = omega (arith, l, h) in
      let d : drop at names ≡ [] = ap (λ (i : ℕ). drop i names) e ∙ drop-length names in
      ap (behind_bars m) d ∙ behind-nothing m ∙ sym d

  pub behind-step : (m : ℕ) → 0 < m → at < length names → behind_bars m (drop at names) ≡ behind_bars (m - bars_in (get_or names at 0)) (drop (at + 1) names)
  behind-step zero p h = absurd (omega (arith, p))
  behind-step (suc m) p h =
      let next : suc at ≡ at + 1 = omega arith in
      ap (behind_bars (suc m)) (drop-cons names at 0 h)
      ∙ behind-cons m (get_or names at 0) (drop (suc at) names)
      ∙ ap (λ (i : ℕ). behind_bars (suc m - bars_in (get_or names at 0)) (drop i names)) next

  pub until_end : length names ≤ at → at ≤ length names → until_bar (drop at names) ≡ []
  until_end l h = let e : at ≡ length names = omega (arith, l, h) in ap (λ (i : ℕ). until_bar (drop i names)) e ∙ ap until_bar (drop-length names)

  pub until-bar : at < length names → eqb (get_or names at 0) 124 ≡ true → until_bar (drop at names) ≡ []
  until-bar h e = ap until_bar (drop-cons names at 0 h) ∙ ap (λ (c : Bool). pick c [] (get_or names at 0 ∷ until_bar (drop (suc at) names))) e

  -- one byte more of a name that starts at `from`
  pub until-step : (from : ℕ) → from ≤ at → at < length names → eqb (get_or names at 0) 124 ≡ false
      → take (at - from) (drop from names) ++ until_bar (drop at names) ≡ take (at + 1 - from) (drop from names) ++ until_bar (drop (at + 1) names)
  until-step from l h e =
      let j : ℕ = at - from in
      let long : j < length (drop from names) = omega (arith, l, h, length-drop from names) in
      let same : get_or (drop from names) j 0 ≡ get_or names at 0 = get_or-drop from names j 0 ∙ ap (λ (i : ℕ). get_or names i 0) (omega (arith, l)) in
      let rest = until_bar (drop (suc at) names) in
      let longer : take (suc j) (drop from names) ≡ take j (drop from names) ++ (get_or names at 0 ∷ []) =
      take-suc (drop from names) j 0 long ∙ ap (λ (x : ℕ). take j (drop from names) ++ (x ∷ [])) same in
      let here : until_bar (drop at names) ≡ get_or names at 0 ∷ rest =
      ap until_bar (drop-cons names at 0 h) ∙ ap (λ (c : Bool). pick c [] (get_or names at 0 ∷ rest)) e in
      let k : suc j ≡ at + 1 - from = omega (arith, l) in
      let s : suc at ≡ at + 1 = omega arith in
      ap (λ (x : List ℕ). take j (drop from names) ++ x) here
      ∙ sym (append_assoc (take j (drop from names)) (get_or names at 0 ∷ []) rest)
      ∙ ap (λ (x : List ℕ). x ++ rest) (sym longer)
      ∙ ap (λ (i : ℕ). take i (drop from names) ++ rest) k
      ∙ ap (λ (i : ℕ). take (at + 1 - from) (drop from names) ++ until_bar (drop i names)) s

-- a name by where it starts and ends
pub named : (names : List ℕ) (n from to : ℕ) → drop from names ≡ behind_bars n names
    → take (to - from) (drop from names) ≡ until_bar (drop from names) → take (to - from) (drop from names) ≡ name_at n names
unfolding name_at
named names n from to s e = e ∙ ap until_bar s

-- ---- names of lines

-- behind one bar, and behind the others
behind-one : (n : ℕ) (bs : List ℕ) → behind_bars (suc n) bs ≡ behind_bars n (behind_bars 1 bs)
behind-one n [] = sym (behind-nothing n)
behind-one n (b ∷ bs) = go (eqb b 124) (behind-one n bs)
  where
    go : (c : Bool) → behind_bars (suc n) bs ≡ behind_bars n (behind_bars 1 bs) → pick c (behind_bars n bs) (behind_bars (suc n) bs) ≡ behind_bars n (pick c bs (behind_bars 1 bs))
    go true e = refl
    go false e = e

-- the names are what f says of some lines, and none is long
abbrev pub names_right : (Line → String) → List ℕ → List Line → Bool
names_right f bs [] = true
names_right f bs (l ∷ ls) = (same (until_bar bs) (ascii (f l)) && leb (length (until_bar bs)) 40) && names_right f (behind_bars 1 bs) ls

pub names-right : (f : Line → String) (bs : List ℕ) (ls : List Line) → T (names_right f bs ls) → (n : ℕ) → n < length ls
    → (name_at n bs ≡ ascii (f (get_or ls n no_line))) × (length (name_at n bs) ≤ 40)
unfolding name_at
names-right f bs [] t n h = absurd (omega (arith, h))
names-right f bs (l ∷ ls) t zero h =
    let u = and_yes (same (until_bar bs) (ascii (f l)) && leb (length (until_bar bs)) 40) (names_right f (behind_bars 1 bs) ls) t in
    let v = and_yes (same (until_bar bs) (ascii (f l))) (leb (length (until_bar bs)) 40) u.0 in
    (same-eq (until_bar bs) (ascii (f l)) v.0, leb→le (length (until_bar bs)) 40 v.1)
names-right f bs (l ∷ ls) t (suc n) h =
    let u = and_yes (same (until_bar bs) (ascii (f l)) && leb (length (until_bar bs)) 40) (names_right f (behind_bars 1 bs) ls) t in
    let v = names-right f (behind_bars 1 bs) ls u.1 n (le_of_suc-le-suc h) in
    let e : name_at (suc n) bs ≡ name_at n (behind_bars 1 bs) = ap until_bar (behind-one n bs) in
    (e ∙ v.0, rw e v.1)

-- ---- rows of lines

abbrev pub rows_of : List Line → List Row
rows_of [] = []
rows_of (l ∷ ls) = l.row ∷ rows_of ls

pub row-of : (ls : List Line) (n : ℕ) → get_or (rows_of ls) n no_line.row ≡ (get_or ls n no_line).row
row-of [] n = refl
row-of (l ∷ ls) zero = refl
row-of (l ∷ ls) (suc n) = row-of ls n
