-- A layout that is in order, and a meaning that is lawful: what the rules ask of a meaning alone. Definitions only.
use Rattle.std.specs.Prelude.{◌≡◌, Bool, true, false, ◌&&◌, List, [], ◌∷◌, ℕ, suc, ◌+◌, ◌*◌, ◌%◌, ◌<◌, length, get_or, take, drop, T, leb, ltb, eqb}
use Rattle.table.specs.declared.Need.{Need}
use Rattle.table.specs.Layout.{Body, Content, Entry, Env, Keep, Layout, Refs, Shape, Slots, base_of, bytes, env, gone, image, is_right, is_valid, low, more}
use Rattle.table.specs.Layout.{names_used, nest, nil, none, plain, rec, sel, stop, unused, used}
use Rattle.table.specs.Objects.{count_in, is_used, used_in}
use Rattle.table.specs.Rules.{is_sound, ruled}
use Rattle.table.specs.Meaning.{Meaning}
use Rattle.table.specs.Builder.{fits_need, may_have, may_lack}

-- ---- a layout in order: references ascend, lie inside, do not overlap, and no bit of theirs counts; conditions look at bits that count

-- the moduli between which a condition chooses
abbrev pub top_of : Keep → ℕ
top_of (low n) = n
top_of (sel f d m₀ m₁) = m₁

abbrev pub bot_of : Keep → ℕ
bot_of (low n) = n
bot_of (sel f d m₀ m₁) = m₀

abbrev pub all_keep : (Keep → Bool) → List Keep → Bool
all_keep f [] = true
all_keep f (k ∷ ks) = f k && all_keep f ks

abbrev pub is_none : Keep → Bool
is_none (low n) = eqb n 1
is_none (sel f d m₀ m₁) = false

abbrev pub ok_keep : List Keep → Keep → Bool
ok_keep ks (low n) = true
ok_keep ks (sel f d m₀ m₁) =
    ltb f (length ks) && (eqb (top_of (get_or ks f (low 1)) % (2 * d)) 0 && (eqb (bot_of (get_or ks f (low 1)) % (2 * d)) 0 && eqb (m₁ % m₀) 0))

abbrev pub ok_refs : ℕ → List Keep → Refs → Bool
ok_refs q ks none = leb q (length ks)
ok_refs q ks (plain p need content rest) = (leb q p && all_keep is_none (take 6 (drop p ks))) && ok_refs (p + 6) ks rest
ok_refs q ks (nest p need shape own rest) =
    ((leb q p && all_keep is_none (take 6 (drop p ks))) && ok_refs (p + 6) ks rest)
    && ((all_keep (ok_keep shape.keep) shape.keep && ok_refs 0 shape.keep own) && (ltb (length shape.keep) 65536 && ltb 0 (length shape.keep)))

abbrev pub ok_layout : Layout → Bool
ok_layout l =
    (all_keep (ok_keep l.shape.keep) l.shape.keep && ok_refs 0 l.shape.keep l.refs) && (ltb (base_of l) 65536 && ltb l.shape.flags.at (base_of l))

abbrev pub all_ok : List Layout → Bool
all_ok [] = true
all_ok (l ∷ ls) = ok_layout l && all_ok ls

-- ---- a lawful meaning

pub record FitBytes (n : Need) (content : Content) (e : Env) (b : List ℕ) : Type 0 where
  pub need : T (fits_need n b)
  pub lawful : T (eqb (ruled content e b) 0)
  pub short : length b < 65536

pub record FitRec (n : Need) (shape : Shape) (e : Env) (owner img : List ℕ) : Type 0 where
  pub need : T (may_have n)
  pub fixed : image shape.keep img ≡ img
  pub sound : T (is_sound shape e owner img)

-- the objects of a record whose image is img
abbrev pub Fit : {rs : Refs} → Env → List ℕ → Slots rs → Type 0
Fit e img nil = Unit {0}
Fit e img (bytes {need = need} {content = content} b ss) = FitBytes (need img) content e b × Fit e img ss
Fit e img (gone {need = need} ss) = T (may_lack (need img)) × Fit e img ss
Fit e img (rec {need = need} {shape = shape} img' own ss) = FitRec (need img) shape e img img' × Fit e img' own × Fit e img ss

pub record FitUsed (l : Layout) (e : Env) (img : List ℕ) (ss : Slots l.refs) : Type 0 where
  pub fixed : image l.shape.keep img ≡ img
  pub valid : T (is_valid l.shape img)
  pub right : T (is_right l.shape e img)
  pub objects : Fit e img ss

abbrev pub FitEntry : {l : Layout} → Env → Entry l → Type 0
FitEntry {l} e unused = Unit {0}
FitEntry {l} e (used img ss) = FitUsed l e img ss

abbrev pub FitList : {l : Layout} → (ℕ → ℕ) → ℕ → List (Entry l) → Type 0
FitList count pos [] = Unit {0}
FitList count pos (x ∷ xs) = FitEntry (env count pos) x × FitList count (suc pos) xs

abbrev pub FitBody : {ls : List Layout} → (ℕ → ℕ) → Body ls → Type 0
FitBody count stop = Unit {0}
FitBody count (more es rest) = FitList count 1 es × (length es < 256) × FitBody count rest

-- the indexes name used records
abbrev pub NamesEntry : {l : Layout} → (ℕ → ℕ → Bool) → Entry l → Type 0
NamesEntry named unused = Unit {0}
NamesEntry {l} named (used img ss) = T (names_used named (l.indexes img ss))

abbrev pub NamesList : {l : Layout} → (ℕ → ℕ → Bool) → List (Entry l) → Type 0
NamesList named [] = Unit {0}
NamesList named (x ∷ xs) = NamesEntry named x × NamesList named xs

abbrev pub NamesBody : {ls : List Layout} → (ℕ → ℕ → Bool) → Body ls → Type 0
NamesBody named stop = Unit {0}
NamesBody named (more es rest) = NamesList named es × NamesBody named rest

-- every record by itself: fields, objects, own index
pub record Shaped (m : Meaning) : Type 0 where
  pub sized : length m.oem ≡ 26
  pub signed : Fit (env (count_in m.lists) 0) [] m.driver
  pub owned : FitEntry (env (count_in m.lists) 0) m.owner
  pub listed : FitBody (count_in m.lists) m.lists

pub record Lawful (m : Meaning) : Type 0 where
  pub shapes : Shaped m
  pub present : T (is_used m.owner)
  pub owned_names : NamesEntry (used_in m.lists) m.owner
  pub named : NamesBody (used_in m.lists) m.lists
