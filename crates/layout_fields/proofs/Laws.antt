-- A test that decides between yes and no; kinds without text, and without lists of positions. Assumes nothing.
use mathlib.Core.Path.{◌≡◌, refl}
use mathlib.Core.Bool.{Bool, true, false, ◌&&◌}
use Prim.Native.Nat.{ℕ}
use lib.Dec.{T, eqb}
use mir.Facts.{and_yes}
use Rattle.table.specs.Bytes.{pick}
use Rattle.table.specs.Layout.{Content, anything, text, positions, Refs, none, plain, nest}
use Rattle.table.specs.Reads.{content_at}
use Rattle.layout_fields.specs.Texts.{is_of_text}

pub yes_or_no : (c : Bool) → c ≡ pick c true false
yes_or_no true = refl
yes_or_no false = refl

-- text or any bytes, by a test
pub text_or_not : (c : Bool) → c ≡ is_of_text (pick c text anything)
text_or_not true = refl
text_or_not false = refl

-- all objects are any bytes
abbrev pub all_bytes : Refs → Bool
all_bytes none = true
all_bytes (plain p need anything rest) = all_bytes rest
all_bytes (plain p need text rest) = false
all_bytes (plain p need positions rest) = false
all_bytes (nest p need shape own rest) = all_bytes rest

pub no_text : (rs : Refs) → T (all_bytes rs) → (q : ℕ) → false ≡ is_of_text (content_at q rs)
no_text none t q = refl
no_text (plain p need anything rest) t q = go (eqb q p) (no_text rest t q) where
  go : (c : Bool) → false ≡ is_of_text (content_at q rest) → false ≡ is_of_text (pick c anything (content_at q rest))
  go true e = refl
  go false e = e
no_text (plain p need text rest) t q = absurd t
no_text (plain p need positions rest) t q = absurd t
no_text (nest p need shape own rest) t q = no_text rest t q

-- what is asked of an object does not depend on how many records there are
abbrev pub is_unlisted : Content → Bool
is_unlisted anything = true
is_unlisted text = true
is_unlisted positions = false

abbrev pub all_unlisted : Refs → Bool
all_unlisted none = true
all_unlisted (plain p need content rest) = is_unlisted content && all_unlisted rest
all_unlisted (nest p need shape own rest) = all_unlisted rest

pub no-list : (rs : Refs) → T (all_unlisted rs) → (q : ℕ) → T (is_unlisted (content_at q rs))
no-list none t q = tt
no-list (plain p need content rest) t q = let u = and_yes (is_unlisted content) (all_unlisted rest) t in go (eqb q p) u.0 (no-list rest u.1 q) where
  go : (c : Bool) → T (is_unlisted content) → T (is_unlisted (content_at q rest)) → T (is_unlisted (pick c content (content_at q rest)))
  go true x y = x
  go false x y = y
no-list (nest p need shape own rest) t q = no-list rest t q
