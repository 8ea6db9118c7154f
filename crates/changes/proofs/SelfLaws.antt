-- No line where nothing differs, and so none exactly where two meanings are equal. Assumes nothing.
use Rattle.std.specs.Prelude.{◌≡◌, refl, ◌↔◌, List, [], ◌∷◌, ◌++◌, ℕ, suc, ◌+◌, ◌-◌, length}
use Rattle.std.proofs.Common.{sym, ap, ap₂, ◌∙◌}
use Rattle.table.specs.Layout.{Body, Entry, Layout, more, none, stop, unused, used}
use Rattle.table.specs.FixedLayouts.{header}
use Rattle.table.specs.Meaning.{Meaning}
use Rattle.laws.specs.Lawful.{Shaped}
use Rattle.changes.specs.Changes.{body_lines, changes, count_lines, entry_lines, head_of, list_lines, named_lines, unlike}
use Rattle.changes.specs.ChangeLaws.{named_self, none_equal, record-self, unlike-self}

entry-self : (n : ℕ) {l : Layout} (a : Entry l) → entry_lines n a a ≡ []
unfolding entry_lines
entry-self n unused = refl
entry-self n {l} (used x ss) = record-self l.kind n l.shape x (named_lines l.kind n ss ss) (named_self l.kind n ss)

list-self : {l : Layout} (n : ℕ) (es : List (Entry l)) → list_lines n es es ≡ []
unfolding list_lines
list-self n [] = refl
list-self n (e ∷ es) = ap₂ ◌++◌ (entry-self n e) (list-self (suc n) es)

body-self : {ls : List Layout} (xs : Body ls) → body_lines xs xs ≡ []
unfolding body_lines
body-self stop = refl
body-self (more es xs) = ap₂ ◌++◌ (list-self 1 es) (body-self xs)

counts-self : (q : ℕ) {ls : List Layout} (xs : Body ls) → count_lines q xs xs ≡ []
unfolding count_lines
counts-self q stop = refl
counts-self q (more es xs) = ap₂ ◌++◌ (unlike-self (length es ∷ []) _) (counts-self (q + 8) xs)

pub equal-none : (m : Meaning) → changes m m ≡ []
unfolding changes
equal-none m =
    ap₂ ◌++◌ (counts-self 87 m.lists)
    (ap₂ ◌++◌ (record-self 0 0 header.shape (head_of m) (named_lines 0 0 m.driver m.driver) (named_self 0 0 m.driver))
    (ap₂ ◌++◌ (entry-self 0 m.owner) (body-self m.lists)))

-- none exactly where they are equal, of meanings of accepted tables
pub none-exactly : (m n : Meaning) → Shaped m → Shaped n → (changes m n ≡ []) ↔ (m ≡ n)
none-exactly m n w v = (none_equal m n w v, λ e. ap (changes m) (sym e) ∙ equal-none m)
