-- No line only where nothing differs: of two meanings whose records are in order, where there is no line the meanings are equal. The other way round
-- is in proofs/SelfLaws.antt. Assumes nothing.
use Rattle.std.specs.Prelude.{◌≡◌, refl, ◌⊎◌, Bool, true, false, ◌&&◌, ◌||◌, List, [], ◌∷◌, ◌++◌, ℕ, zero, suc, ◌+◌, ◌-◌, ◌%◌, ◌≤◌, ◌<◌, length, get_or, drop, T, eqb, leb, ltb}
use Rattle.std.proofs.Common.{sym, ap, ap₂, ◌∙◌, inl, inr, arith, ext_get_or, get_or-drop, get_or-take, eqb→eq, leb→le, ltb→lt, eq-eqb, leb-false, leb-true, ne_eqb}
use Rattle.std.proofs.Math.Facts.{and_yes, or_yes}
use Rattle.table.specs.declared.Region.{Region}
use Rattle.table.specs.Bytes.{part, pick, same}
use Rattle.table.specs.Layout.{
  Body,
  Entry,
  Env,
  Keep,
  Layout,
  Refs,
  Shape,
  Slots,
  base_of,
  bytes,
  env,
  gone,
  image,
  low,
  mod_of,
  more,
  nest,
  nil,
  none,
  plain,
  rec,
  sel,
  stop,
  unused,
  used,
}
use Rattle.table.specs.FixedLayouts.{discovery, extended, header, hfi, hfi_extended, host, info, list_kinds, security, ssns}
use Rattle.table.specs.Objects.{count_in}
use Rattle.table.specs.Meaning.{Meaning}
use Rattle.table.specs.Reads.{width_at}
use Rattle.laws.specs.ByteLaws.{same-eq}
use Rattle.laws.specs.ImageLaws.{image-at, length-image}
use Rattle.laws.specs.Lawful.{Fit, FitBody, FitEntry, FitList, Shaped, is_none}
use Rattle.changes.specs.Changes.{Line, body_lines, changes, count_lines, each, entry_lines, head_of, id_of, list_lines, named_lines, offset_lines, record_lines, unlike}

-- ---- layouts: each byte that counts lies in a field, a field is found by its first byte, and no reference begins a field

abbrev pub in_field : ℕ → List Region → Bool
in_field i [] = false
in_field i (f ∷ fs) = (leb f.at i && ltb i (f.at + f.len)) || in_field i fs

abbrev pub covered : List Region → ℕ → List Keep → Bool
covered fs i [] = true
covered fs i (k ∷ ks) = (is_none k || in_field i fs) && covered fs (suc i) ks

abbrev pub found_in : List Region → ℕ → List Region → Bool
found_in all b [] = true
found_in all b (f ∷ fs) = (ltb f.at b && (eqb (width_at f.at all) f.len && ltb 0 f.len)) && found_in all b fs

abbrev pub tells_all : Shape → Bool
tells_all s = covered s.fields 0 s.keep && found_in s.fields (length s.keep) s.fields

-- a reference at p, behind those below q, in a record of b bytes
abbrev pub stands_at : List Region → ℕ → ℕ → ℕ → Bool
stands_at fs b q p = leb q p && (ltb p b && eqb (width_at p fs) 0)

abbrev pub tells_refs : List Region → ℕ → ℕ → Refs → Bool
tells_refs fs b q none = true
tells_refs fs b q (plain p need content rest) = stands_at fs b q p && tells_refs fs b (suc p) rest
tells_refs fs b q (nest p need s own rest) =
    (stands_at fs b q p && tells_refs fs b (suc p) rest) && (tells_all s && tells_refs s.fields (length s.keep) 0 own)

abbrev pub tells_kind : Layout → Bool
tells_kind l = tells_all l.shape && tells_refs l.shape.fields (base_of l) 0 l.refs

abbrev pub tell_kinds : List Layout → Bool
tell_kinds [] = true
tell_kinds (l ∷ ls) = tells_kind l && tell_kinds ls

pub kinds-tell : T (tell_kinds (header ∷ host ∷ list_kinds))
unfolding header host hfi ssns security discovery info extended hfi_extended
kinds-tell = tt

-- ---- no line: both halves of nothing are nothing

none_both : {X : Type 0} (xs ys : List X) → xs ++ ys ≡ [] → (xs ≡ []) × (ys ≡ [])
none_both [] ys e = (refl, e)
none_both (x ∷ xs) ys e = absurd (omega (arith, ap length e))

unlike-none : (x y : List ℕ) (l : Line) → unlike x y l ≡ [] → x ≡ y
unlike-none x y l e = go (same x y) refl e
  where
    go : (c : Bool) → same x y ≡ c → pick c [] (l ∷ []) ≡ [] → x ≡ y
    go true d e = same-eq x y (rw d tt)
    go false d e = absurd (omega (arith, ap length e))

each_none : (f : ℕ → List Line) (q n : ℕ) → each f q n ≡ [] → (j : ℕ) → q ≤ j → j < q + n → f j ≡ []
each_none f q zero e j l h = absurd (omega arith)
each_none f q (suc n) e j l h =
    let z = none_both (f q) (each f (suc q) n) e in
    go (leb (suc q) j) refl (λ k. each_none f (suc q) n z.1 j k (omega arith)) z.0
  where
    go : (c : Bool) → leb (suc q) j ≡ c → (suc q ≤ j → f j ≡ []) → f q ≡ [] → f j ≡ []
    go true d on here = on (leb-true (suc q) j d)
    go false d on here = let z : j ≡ q = omega (arith, leb-false (suc q) j d) in ap f z ∙ here

-- ---- the image: where its fields are the same it is

covered-at : (fs : List Region) (i : ℕ) (ks : List Keep) → T (covered fs i ks) → (j : ℕ) → j < length ks → T (is_none (get_or ks j (low 1)) || in_field (i + j) fs)
covered-at fs i [] t j h = absurd (omega arith)
covered-at fs i (k ∷ ks) t zero h =
    let e : i + 0 ≡ i = omega arith in
    rw e (and_yes (is_none k || in_field i fs) (covered fs (suc i) ks) t).0
covered-at fs i (k ∷ ks) t (suc j) h =
    let e : i + suc j ≡ suc i + j = omega arith in
    rw e (covered-at fs (suc i) ks (and_yes (is_none k || in_field i fs) (covered fs (suc i) ks) t).1 j (omega arith))

-- a byte of which nothing counts
none_kept : (k : Keep) (w : List ℕ) (x : ℕ) → T (is_none k) → x % mod_of k w ≡ 0
none_kept (low n) w x h = let e : n ≡ 1 = eqb→eq n 1 h in rw e (omega arith)
none_kept (sel f d m₀ m₁) w x h = absurd h

module _ (s : Shape) (x y : List ℕ) (ok : T (covered s.fields 0 s.keep)) where
  image-eq : image s.keep x ≡ x → image s.keep y ≡ y → ((i : ℕ) → T (in_field i s.fields) → get_or x i 0 ≡ get_or y i 0) → x ≡ y
  image-eq fx fy h =
      let lx : length x ≡ length s.keep = ap length (sym fx) ∙ length-image s.keep x in
      let ly : length y ≡ length s.keep = ap length (sym fy) ∙ length-image s.keep y in
      ext_get_or 0 x y (lx ∙ sym ly)
      (λ i l.
      let k : i < length s.keep = omega (arith, lx) in
      let z : 0 + i ≡ i = omega arith in
      go i (or_yes (is_none (get_or s.keep i (low 1))) (in_field i s.fields) (rw z at (covered-at s.fields 0 s.keep ok i k)))
      (ap (λ (u : List ℕ). get_or u i 0) (sym fx) ∙ image-at s.keep x i k)
      (ap (λ (u : List ℕ). get_or u i 0) (sym fy) ∙ image-at s.keep y i k) h)
    where
      go : (i : ℕ) → T (is_none (get_or s.keep i (low 1))) ⊎ T (in_field i s.fields)
          → get_or x i 0 ≡ get_or x i 0 % mod_of (get_or s.keep i (low 1)) x
          → get_or y i 0 ≡ get_or y i 0 % mod_of (get_or s.keep i (low 1)) y
          → ((i : ℕ) → T (in_field i s.fields) → get_or x i 0 ≡ get_or y i 0)
          → get_or x i 0 ≡ get_or y i 0
      go i (inl n) ex ey h = ex ∙ none_kept (get_or s.keep i (low 1)) x (get_or x i 0) n ∙ sym (ey ∙ none_kept (get_or s.keep i (low 1)) y (get_or y i 0) n)
      go i (inr f) ex ey h = h i f

part_at : (x : List ℕ) (a n i : ℕ) → a ≤ i → i < a + n → get_or x i 0 ≡ get_or (part x a n) (i - a) 0
part_at x a n i l h =
    let e : a + (i - a) ≡ i = omega arith in
    sym (get_or-take n (drop a x) (i - a) 0 (omega arith) ∙ get_or-drop a x (i - a) 0 ∙ ap (λ (j : ℕ). get_or x j 0) e)

-- ---- a record of which no offset has a line

module _ (k n : ℕ) (fs : List Region) (b : ℕ) (x y : List ℕ) (named : ℕ → List Line) (e : (q : ℕ) → q < b → offset_lines k n fs x y named q ≡ []) where
  field-same : (g : Region) → T (ltb g.at b) → T (eqb (width_at g.at fs) g.len) → T (ltb 0 g.len) → part x g.at g.len ≡ part y g.at g.len
  field-same g l w p =
      let v : width_at g.at fs ≡ g.len = eqb→eq (width_at g.at fs) g.len w in
      let some : eqb g.len 0 ≡ false = ne_eqb g.len 0 (λ z. omega (arith, z, ltb→lt 0 g.len p)) in
      unlike-none (part x g.at g.len) (part y g.at g.len) _ (rw (v, some) at (e g.at (ltb→lt g.at b l)))

  fields-same : (gs : List Region) → T (found_in fs b gs) → (i : ℕ) → T (in_field i gs) → get_or x i 0 ≡ get_or y i 0
  fields-same [] t i h = absurd h
  fields-same (g ∷ gs) t i h =
      let u = and_yes (ltb g.at b && (eqb (width_at g.at fs) g.len && ltb 0 g.len)) (found_in fs b gs) t in
      let v = and_yes (ltb g.at b) (eqb (width_at g.at fs) g.len && ltb 0 g.len) u.0 in
      let w = and_yes (eqb (width_at g.at fs) g.len) (ltb 0 g.len) v.1 in
      go (or_yes (leb g.at i && ltb i (g.at + g.len)) (in_field i gs) h) (field-same g v.0 w.0 w.1) (fields-same gs u.1 i)
    where
      go : T (leb g.at i && ltb i (g.at + g.len)) ⊎ T (in_field i gs)
          → part x g.at g.len ≡ part y g.at g.len
          → (T (in_field i gs) → get_or x i 0 ≡ get_or y i 0)
          → get_or x i 0 ≡ get_or y i 0
      go (inl z) p on =
          let m = and_yes (leb g.at i) (ltb i (g.at + g.len)) z in
          let a = leb→le g.at i m.0 in
          let l = ltb→lt i (g.at + g.len) m.1 in
          part_at x g.at g.len i a l ∙ ap (λ (u : List ℕ). get_or u (i - g.at) 0) p ∙ sym (part_at y g.at g.len i a l)
      go (inr z) p on = on z

  -- and where no field begins, what a reference names has none
  refs-none : (q : ℕ) → q < b → T (eqb (width_at q fs) 0) → named q ≡ []
  refs-none q l w = let v : width_at q fs ≡ 0 = eqb→eq (width_at q fs) 0 w in rw v at (e q l)

-- ---- what references name

-- the first of two runs of references, and those behind it
stands : (fs : List Region) (b q p : ℕ) (on : Bool) → T (stands_at fs b q p && on) → (q ≤ p) × (p < b) × T (eqb (width_at p fs) 0) × T on
stands fs b q p on t =
    let u = and_yes (stands_at fs b q p) on t in
    let v = and_yes (leb q p) (ltb p b && eqb (width_at p fs) 0) u.0 in
    let w = and_yes (ltb p b) (eqb (width_at p fs) 0) v.1 in
    (leb→le q p v.0, ltb→lt p b w.0, w.1, u.1)

-- no reference from q on has a line
abbrev NoLine : List Region → ℕ → ℕ → (ℕ → List Line) → Type 0
NoLine fs b q named = (p : ℕ) → q ≤ p → p < b → T (eqb (width_at p fs) 0) → named p ≡ []

slots-eq : (k n : ℕ) {rs : Refs} (fs : List Region) (b q : ℕ) → T (tells_refs fs b q rs) → (e d : Env) (ow ow' : List ℕ) (ss us : Slots rs) → Fit e ow ss → Fit d ow' us
    → NoLine fs b q (named_lines k n ss us) → ss ≡ us
unfolding named_lines
slots-eq k n fs b q t e d ow ow' nil nil f g h = refl
slots-eq k n fs b q t e d ow ow' (bytes {p = p} {rest = rest} v ss) (bytes w us) f g h =
    let z = stands fs b q p (tells_refs fs b (suc p) rest) t in
    let here : v ≡ w = unlike-none v w _ (rw (eq-eqb p p refl) at (h p z.0 z.1 z.2)) in
    let on = slots-eq k n fs b (suc p) z.3 e d ow ow' ss us f.1 g.1
    (λ r l m o. rw (ne_eqb r p (λ i. omega (arith, i, l))) at (h r (omega (arith, z.0)) m o)) in
    ap₂ bytes here on
slots-eq k n fs b q t e d ow ow' (gone {p = p} {shape = s} {own = own} {rest = rest} ss) (gone us) f g h =
    let y = and_yes (stands_at fs b q p && tells_refs fs b (suc p) rest) (tells_all s && tells_refs s.fields (length s.keep) 0 own) t in
    let z = stands fs b q p (tells_refs fs b (suc p) rest) y.0 in
    ap gone (slots-eq k n fs b (suc p) z.3 e d ow ow' ss us f.1 g.1 (λ r l m o. h r (omega (arith, z.0)) m o))
slots-eq k n fs b q t e d ow ow' (gone {p = p} {shape = s} {own = own} {rest = rest} ss) (rec y o us) f g h =
    let u = and_yes (stands_at fs b q p && tells_refs fs b (suc p) rest) (tells_all s && tells_refs s.fields (length s.keep) 0 own) t in
    let z = stands fs b q p (tells_refs fs b (suc p) rest) u.0 in
    absurd (omega (arith, ap length (rw (eq-eqb p p refl) at (h p z.0 z.1 z.2))))
slots-eq k n fs b q t e d ow ow' (rec {p = p} {shape = s} {own = own} {rest = rest} x o ss) (gone us) f g h =
    let u = and_yes (stands_at fs b q p && tells_refs fs b (suc p) rest) (tells_all s && tells_refs s.fields (length s.keep) 0 own) t in
    let z = stands fs b q p (tells_refs fs b (suc p) rest) u.0 in
    absurd (omega (arith, ap length (rw (eq-eqb p p refl) at (h p z.0 z.1 z.2))))
slots-eq k n fs b q t e d ow ow' (rec {p = p} {shape = s} {own = own} {rest = rest} x o ss) (rec y o' us) f g h =
    let u = and_yes (stands_at fs b q p && tells_refs fs b (suc p) rest) (tells_all s && tells_refs s.fields (length s.keep) 0 own) t in
    let v = and_yes (tells_all s) (tells_refs s.fields (length s.keep) 0 own) u.1 in
    let w = and_yes (covered s.fields 0 s.keep) (found_in s.fields (length s.keep) s.fields) v.0 in
    let z = stands fs b q p (tells_refs fs b (suc p) rest) u.0 in
    let i = id_of s.fixed in
    let c = length s.keep in
    let lines : record_lines i n s x y (named_lines i n o o') ≡ [] = rw (eq-eqb p p refl) at (h p z.0 z.1 z.2) in
    let none-at : (j : ℕ) → j < c → offset_lines i n s.fields x y (named_lines i n o o') j ≡ [] =
    λ j l. each_none (offset_lines i n s.fields x y (named_lines i n o o')) 0 c lines j (omega arith) (omega arith) in
    let ex : x ≡ y = image-eq s x y w.0 f.0.fixed g.0.fixed (fields-same i n s.fields c x y (named_lines i n o o') none-at s.fields w.1) in
    let eo : o ≡ o' = slots-eq i n s.fields c 0 v.1 e d x y o o' f.1 g.1 (λ r l m a. refs-none i n s.fields c x y (named_lines i n o o') none-at r m a) in
    let on = slots-eq k n fs b (suc p) z.3 e d ow ow' ss us f.2 g.2
    (λ r l m a. rw (ne_eqb r p (λ j. omega (arith, j, l))) at (h r (omega (arith, z.0)) m a)) in
    ap (λ (a : List ℕ). rec a o ss) ex ∙ ap (λ (a : Slots own). rec y a ss) eo ∙ ap (λ (a : Slots rest). rec y o' a) on

-- ---- positions

record-eq : (l : Layout) → T (tells_kind l) → (n : ℕ) (e d : Env) (x y : List ℕ) (ss us : Slots l.refs) → image l.shape.keep x ≡ x → image l.shape.keep y ≡ y
    → Fit e x ss → Fit d y us → record_lines l.kind n l.shape x y (named_lines l.kind n ss us) ≡ [] → (x ≡ y) × (ss ≡ us)
record-eq l t n e d x y ss us fx fy f g lines =
    let s = l.shape in
    let c = length s.keep in
    let named = named_lines l.kind n ss us in
    let u = and_yes (tells_all s) (tells_refs s.fields c 0 l.refs) t in
    let w = and_yes (covered s.fields 0 s.keep) (found_in s.fields c s.fields) u.0 in
    let none-at : (j : ℕ) → j < c → offset_lines l.kind n s.fields x y named j ≡ [] =
    λ j h. each_none (offset_lines l.kind n s.fields x y named) 0 c lines j (omega arith) (omega arith) in (
      image-eq s x y w.0 fx fy (fields-same l.kind n s.fields c x y named none-at s.fields w.1),
      slots-eq l.kind n s.fields c 0 u.1 e d x y ss us f g (λ r h m a. refs-none l.kind n s.fields c x y named none-at r m a),
    )

entry-eq : (l : Layout) → T (tells_kind l) → (n : ℕ) (e d : Env) (a b : Entry l) → FitEntry e a → FitEntry d b → entry_lines n a b ≡ [] → a ≡ b
unfolding entry_lines
entry-eq l t n e d unused unused f g h = refl
entry-eq l t n e d unused (used y us) f g h = absurd (omega (arith, ap length h))
entry-eq l t n e d (used x ss) unused f g h = absurd (omega (arith, ap length h))
entry-eq l t n e d (used x ss) (used y us) f g h =
    let z = record-eq l t n e d x y ss us f.fixed g.fixed f.objects g.objects h in ap₂ used z.0 z.1

list-eq : (l : Layout) → T (tells_kind l) → (n : ℕ) (c d : ℕ → ℕ) (es fs : List (Entry l)) → FitList c n es → FitList d n fs → list_lines n es fs ≡ [] → es ≡ fs
unfolding list_lines
list-eq l t n c d [] [] f g h = refl
list-eq l t n c d [] (b ∷ fs) f g h = absurd (omega (arith, ap length h))
list-eq l t n c d (a ∷ es) [] f g h = absurd (omega (arith, ap length h))
list-eq l t n c d (a ∷ es) (b ∷ fs) f g h =
    let z = none_both (entry_lines n a b) (list_lines (suc n) es fs) h in
    ap₂ ◌∷◌ (entry-eq l t n (env c n) (env d n) a b f.0 g.0 z.0) (list-eq l t (suc n) c d es fs f.1 g.1 z.1)

body-eq : (ls : List Layout) → T (tell_kinds ls) → (c d : ℕ → ℕ) (xs ys : Body ls) → FitBody c xs → FitBody d ys → body_lines xs ys ≡ [] → xs ≡ ys
unfolding body_lines
body-eq [] t c d stop stop f g h = refl
body-eq (l ∷ ls) t c d (more es xs) (more fs ys) f g h =
    let u = and_yes (tells_kind l) (tell_kinds ls) t in
    let z = none_both (list_lines 1 es fs) (body_lines xs ys) h in
    ap₂ more (list-eq l u.0 1 c d es fs f.0 g.0 z.0) (body-eq ls u.1 c d xs ys f.2 g.2 z.1)

-- ---- the header, whose bytes 10 to 35 are meant

abbrev all_in : List Region → ℕ → ℕ → Bool
all_in fs i zero = true
all_in fs i (suc n) = in_field i fs && all_in fs (suc i) n

all_in_lem : (fs : List Region) (i n : ℕ) → T (all_in fs i n) → (j : ℕ) → j < n → T (in_field (i + j) fs)
all_in_lem fs i zero t j h = absurd (omega arith)
all_in_lem fs i (suc n) t zero h = let e : i + 0 ≡ i = omega arith in rw e (and_yes (in_field i fs) (all_in fs (suc i) n) t).0
all_in_lem fs i (suc n) t (suc j) h =
    let e : i + suc j ≡ suc i + j = omega arith in
    rw e (all_in_lem fs (suc i) n (and_yes (in_field i fs) (all_in fs (suc i) n) t).1 j (omega arith))

head-told : T (all_in header.shape.fields 10 26)
unfolding header
head-told = tt

-- a byte of it, counted from the OEM ID on
pub head_at : (m : Meaning) (i : ℕ) → get_or (head_of m) (10 + i) 0 ≡ get_or m.oem i 0
head_at m i =
    let e : 10 + i ≡ suc (suc (suc (suc (suc (suc (suc (suc (suc (suc i))))))))) = omega arith in
    ap (λ (j : ℕ). get_or (head_of m) j 0) e

module _ (m n : Meaning) (w : Shaped m) (v : Shaped n) (h : record_lines 0 0 header.shape (head_of m) (head_of n) (named_lines 0 0 m.driver n.driver) ≡ []) where
  head-none : (j : ℕ) → j < length header.shape.keep → offset_lines 0 0 header.shape.fields (head_of m) (head_of n) (named_lines 0 0 m.driver n.driver) j ≡ []
  head-none j l =
      each_none (offset_lines 0 0 header.shape.fields (head_of m) (head_of n) (named_lines 0 0 m.driver n.driver)) 0 (length header.shape.keep) h j
      (omega arith) (omega arith)

  -- its kind's test
  head-tells : T (tells_kind header)
  head-tells = (and_yes (tells_kind header) (tell_kinds (host ∷ list_kinds)) kinds-tell).0

  oem-eq : m.oem ≡ n.oem
  oem-eq =
      let fs = header.shape.fields in
      let c = length header.shape.keep in
      let u = and_yes (tells_all header.shape) (tells_refs fs c 0 header.refs) head-tells in
      let t = and_yes (covered fs 0 header.shape.keep) (found_in fs c fs) u.0 in
      ext_get_or 0 m.oem n.oem (w.sized ∙ sym v.sized)
      (λ i l. sym (head_at m i)
      ∙ fields-same 0 0 fs c (head_of m) (head_of n) (named_lines 0 0 m.driver n.driver) head-none fs t.1 (10 + i)
      (all_in_lem fs 10 26 head-told i (omega (arith, w.sized)))
      ∙ head_at n i)

  driver-eq : m.driver ≡ n.driver
  driver-eq =
      let fs = header.shape.fields in
      let c = length header.shape.keep in
      let u = and_yes (tells_all header.shape) (tells_refs fs c 0 header.refs) head-tells in
      slots-eq 0 0 fs c 0 u.1 (env (count_in m.lists) 0) (env (count_in n.lists) 0) [] [] m.driver n.driver w.signed v.signed
      (λ r l b a. refs-none 0 0 fs c (head_of m) (head_of n) (named_lines 0 0 m.driver n.driver) head-none r b a)

-- ---- the meaning

meaning-of : List ℕ → Slots header.refs → Entry host → Body list_kinds → Meaning
meaning-of o d h b = record { oem = o; driver = d; owner = h; lists = b }

-- where there is no line the meanings are equal
pub none_equal : (m n : Meaning) → Shaped m → Shaped n → changes m n ≡ [] → m ≡ n
unfolding changes meaning-of
none_equal m n w v e =
    let counts = count_lines 87 m.lists n.lists in
    let head = record_lines 0 0 header.shape (head_of m) (head_of n) (named_lines 0 0 m.driver n.driver) in
    let owner = entry_lines 0 m.owner n.owner in
    let body = body_lines m.lists n.lists in
    let z = none_both head (owner ++ body) (none_both counts (head ++ (owner ++ body)) e).1 in
    let y = none_both owner body z.1 in
    let t = (and_yes (tells_kind header) (tell_kinds (host ∷ list_kinds)) kinds-tell).1 in
    let u = and_yes (tells_kind host) (tell_kinds list_kinds) t in
    let c = count_in m.lists in
    let d = count_in n.lists in
    ap (λ (o : List ℕ). meaning-of o m.driver m.owner m.lists) (oem-eq m n w v z.0)
    ∙ ap (λ (x : Slots header.refs). meaning-of n.oem x m.owner m.lists) (driver-eq m n w v z.0)
    ∙ ap₂ (meaning-of n.oem n.driver) (entry-eq host u.0 0 (env c 0) (env d 0) m.owner n.owner w.owned v.owned y.0)
    (body-eq list_kinds u.1 c d m.lists n.lists w.listed v.listed y.1)

-- ---- the other way: nothing differs from itself

same_self : (xs : List ℕ) → same xs xs ≡ true
same_self [] = refl
same_self (x ∷ xs) = rw (eq-eqb x x refl) (same_self xs)

pub unlike-self : (x : List ℕ) (l : Line) → unlike x x l ≡ []
unlike-self x l = rw (same_self x) refl

pick-none : (c : Bool) {xs ys : List Line} → xs ≡ [] → ys ≡ [] → pick c xs ys ≡ []
pick-none true e d = e
pick-none false e d = d

pub each-nothing : (f : ℕ → List Line) (q n : ℕ) → ((j : ℕ) → q ≤ j → j < q + n → f j ≡ []) → each f q n ≡ []
each-nothing f q zero h = refl
each-nothing f q (suc n) h = ap₂ ◌++◌ (h q (omega arith) (omega arith)) (each-nothing f (suc q) n (λ j l k. h j (omega arith) (omega arith)))

pub record-self : (k n : ℕ) (s : Shape) (x : List ℕ) (named : ℕ → List Line) → ((q : ℕ) → named q ≡ []) → record_lines k n s x x named ≡ []
record-self k n s x named h =
    each-nothing (offset_lines k n s.fields x x named) 0 (length s.keep)
    (λ q l m. pick-none (eqb (width_at q s.fields) 0) (h q) (unlike-self (part x q (width_at q s.fields)) _))

pub named_self : (k n : ℕ) {rs : Refs} (ss : Slots rs) (q : ℕ) → named_lines k n ss ss q ≡ []
unfolding named_lines
named_self k n nil q = refl
named_self k n (bytes {p = p} x ss) q = pick-none (eqb q p) (unlike-self x _) (named_self k n ss q)
named_self k n (gone ss) q = named_self k n ss q
named_self k n (rec {p = p} {shape = s} x own ss) q =
    pick-none (eqb q p) (record-self (id_of s.fixed) n s x (named_lines (id_of s.fixed) n own own) (named_self (id_of s.fixed) n own)) (named_self k n ss q)
