-- What was told stays told: a further record changes no used one, since it is put at a position that was unused. Assumes nothing.
use Rattle.std.specs.Prelude.{◌≡◌, List, [], ◌∷◌, ◌++◌, ℕ, zero, suc, get_or, replicate, T}
use Rattle.std.proofs.Common.{sym, ap, ◌∙◌, subst}
use Rattle.table.specs.Layout.{Body, Entry, Layout, Slots, more, stop, unused, used}
use Rattle.table.specs.FixedLayouts.{host}
use Rattle.table.specs.Objects.{is_used}
use Rattle.table.specs.Meaning.{Meaning}
use Rattle.laws.specs.Blank.{Put, here, there}

-- ---- definitions

abbrev pub KeptList : {l : Layout} → List (Entry l) → List (Entry l) → Type 0
KeptList {l} es es' = (i : ℕ) (img : List ℕ) (ss : Slots l.refs) → get_or es i unused ≡ used img ss → get_or es' i unused ≡ used img ss

abbrev pub KeptBody : {ls : List Layout} → Body ls → Body ls → Type 0
KeptBody stop stop = Unit {0}
KeptBody (more es rest) (more es' rest') = KeptList es es' × KeptBody rest rest'

-- what m says of used records m' says too
pub record Kept (m m' : Meaning) : Type 0 where
  pub owner_kept : (img : List ℕ) (ss : Slots host.refs) → m.owner ≡ used img ss → m'.owner ≡ used img ss
  pub lists_kept : KeptBody m.lists m'.lists

-- ---- laws

pub unused-not : {l : Layout} {img : List ℕ} {ss : Slots l.refs} → ◌≡◌ {A = Entry l} unused (used img ss) → ⊥
unused-not {l} e = subst (λ (x : Entry l). T (is_used x)) (sym e) tt

pub same_body : {ls : List Layout} (b : Body ls) → KeptBody b b
same_body stop = tt
same_body (more es rest) = ((λ i img ss e. e), same_body rest)

through-body : {ls : List Layout} (b c d : Body ls) → KeptBody b c → KeptBody c d → KeptBody b d
through-body stop stop stop f g = tt
through-body (more es b) (more fs c) (more gs d) f g = ((λ i img ss e. g.0 i img ss (f.0 i img ss e)), through-body b c d f.1 g.1)

pub kept_same : (m : Meaning) → Kept m m
kept_same m = record { owner_kept = λ img ss e. e; lists_kept = same_body m.lists }

pub kept-through : (a b c : Meaning) → Kept a b → Kept b c → Kept a c
kept-through a b c f g = record { owner_kept = λ img ss e. g.owner_kept img ss (f.owner_kept img ss e); lists_kept = through-body a.lists b.lists c.lists f.lists_kept g.lists_kept }

-- one more record at the first untold position
pub put-kept : {l : Layout} (p : ℕ) (x : Entry l) {ls : List Layout} (b b' : Body ls) → Put p x ls b b' → KeptBody b b'
put-kept {l} p x b b' (here {rest = rest} es n e k q r) =
    ((λ i img ss f. ap (λ (z : List (Entry l)). get_or z i unused) r ∙ over es i img ss (ap (λ (z : List (Entry l)). get_or z i unused) (sym q) ∙ f)), same_body rest)
  where
    over : (es : List (Entry l)) (i : ℕ) (img : List ℕ) (ss : Slots l.refs) → get_or (es ++ (unused ∷ replicate n unused)) i unused ≡ used img ss
        → get_or (es ++ (x ∷ replicate n unused)) i unused ≡ used img ss
    over [] zero img ss f = absurd (unused-not f)
    over [] (suc i) img ss f = f
    over (y ∷ ys) zero img ss f = f
    over (y ∷ ys) (suc i) img ss f = over ys i img ss f
put-kept p x b b' (there {b = c} {b' = c'} es d u) = ((λ i img ss e. e), put-kept p x c c' u)
