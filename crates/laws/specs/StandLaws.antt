-- What stands in a table is what it reads as, and passes the rules. Assumes nothing.
use Rattle.std.specs.Prelude.{◌≡◌, Bool, true, false, not, ◌&&◌, ℕ, suc, ◌+◌, ◌^◌, ◌<◌, length, get_or, drop, T, leb, eqb}
use Rattle.std.proofs.Math.Path.{refl, ap}
use Rattle.std.proofs.Common.{ap₂, ◌∙◌, arith, eqb→eq, lit<}
use mathlib.Core.List.{List, [], ◌∷◌}
use Rattle.std.proofs.Math.Facts.{yes_and, no_eqb, yes_leb}
use Rattle.table.specs.declared.Answer.{Answer}
use Rattle.table.specs.declared.Region.{Region}
use Rattle.table.specs.declared.Need.{Need}
use Rattle.table.specs.declared.Need.TheVariants.{Ignored, Optional, Required}
use Rattle.table.specs.Bytes.{le, num, odd, part, pick}
use Rattle.table.specs.Layout.{Body, Entry, Env, Layout, Refs, Slots, bytes, env, gone, image, is_right, more, nil, rec, stop, unused, used, names_used}
use Rattle.table.specs.Objects.{read_body, read_entry, read_list, read_slots, ref6, under}
use Rattle.table.specs.Rules.{body_rule, done, entry_rule, first, first_of, is_sound, list_rule, reaches, ref_rule, refs_rule, ruled, used_rule}
use Rattle.table.specs.Builder.{fits_need, may_have, may_lack}
use Rattle.laws.specs.Lawful.{Fit, FitBody, FitEntry, FitList, FitUsed, NamesBody, NamesEntry, NamesList}
use Rattle.laws.specs.ByteLaws.{Holds, holds-left, holds-num, holds-part, holds-right, pick_no, pick_yes}
use Rattle.laws.specs.Standing.{At, BodyAt, EntryAt, ListAt, PlainAt, RefTo}

-- ---- a reference's two numbers

ref-off : (t : List ℕ) (r off len : ℕ) → off < 256 ^ 4 → Holds t r (ref6 off len) → num t r 4 ≡ off
ref-off t r off len k h = holds-num t r 4 off k (holds-left t r (le 4 off) (le 2 len) h)

ref-len : (t : List ℕ) (r off len : ℕ) → len < 256 ^ 2 → Holds t r (ref6 off len) → num t (r + 4) 2 ≡ len
ref-len t r off len k h = holds-num t (r + 4) 2 len k (holds-right t r (le 4 off) (le 2 len) h)

-- ---- reading

plain-read : (t : List ℕ) (heap : Region) (r : ℕ) (b : List ℕ) → PlainAt t heap r b → part t (num t r 4) (num t (r + 4) 2) ≡ b
plain-read t heap r [] g = ap (λ (n : ℕ). part t (num t r 4) n) (ref-len t r 0 0 (lit< tt) g)
plain-read t heap r (b ∷ bs) g =
    let x = g.1 in
    ap₂ (λ (m n : ℕ). part t m n) (ref-off t r g.0 (length (b ∷ bs)) x.small x.ref) (ref-len t r g.0 (length (b ∷ bs)) x.short x.ref)
    ∙ holds-part t g.0 (b ∷ bs) g.2

slot-back : {A : Type 0} (n : Need) (b x : List ℕ) → T (fits_need n b) → (A → x ≡ b) → under n (Unit {0}) A → under n [] x ≡ b
slot-back Ignored [] x t f s = refl
slot-back Ignored (c ∷ cs) x t f s = absurd t
slot-back Optional b x t f s = f s
slot-back Required b x t f s = f s

gone-back : {X A : Type 0} (n : Need) (c : Bool) (y x : X) → T (may_lack n) → (A → T c) → under n (Unit {0}) A → under n y (pick c y x) ≡ y
gone-back Ignored c y x t f s = refl
gone-back Optional c y x t f s = pick_yes c y x (f s)
gone-back Required c y x t f s = absurd t

rec-back {ℓ} : {X : Type ℓ} (n : Need) (c : Bool) (y x : X) → T (may_have n) → T (not c) → under n y (pick c y x) ≡ x
rec-back Ignored c y x t u = absurd t
rec-back Optional true y x t u = absurd u
rec-back Optional false y x t u = refl
rec-back Required true y x t u = absurd u
rec-back Required false y x t u = refl

pub read_at : {rs : Refs} (t : List ℕ) (heap : Region) (a : ℕ) (v : Env) (img : List ℕ) (ss : Slots rs) → Fit v img ss → At t heap a img ss → read_slots t a img rs ≡ ss
unfolding read_slots
read_at t heap a v img nil f s = refl
read_at t heap a v img (bytes {p = p} {need = need} {content = content} {rest = rest} b ss) f s =
    ap₂ (λ (x : List ℕ) (y : Slots rest). bytes {p = p} {need = need} {content = content} x y)
    (slot-back (need img) b _ f.0.need (plain-read t heap (a + p) b) s.0)
    (read_at t heap a v img ss f.1 s.1)
read_at t heap a v img (gone {p = p} {need = need} {shape = shape} {own = own} {rest = rest} ss) f s =
    gone-back (need img) (eqb (num t (a + p + 4) 2) 0) _ _ f.0 (λ g. rw (ref-len t (a + p) 0 0 (lit< tt) g) tt) s.0
    ∙ ap (λ (y : Slots rest). gone {p = p} {need = need} {shape = shape} {own = own} y) (read_at t heap a v img ss f.1 s.1)
read_at t heap a v img (rec {p = p} {need = need} {shape = shape} {own = own} {rest = rest} img' own' ss) f s =
    let off : ℕ = s.0.0 in
    let len : ℕ = s.0.1 in
    let x = s.0.2 in
    let n : ℕ = num t (a + p) 4 in
    let e₀ : n ≡ off = ref-off t (a + p) off len x.small x.ref in
    let e₁ : image shape.keep (drop n t) ≡ img' = ap (λ (m : ℕ). image shape.keep (drop m t)) e₀ ∙ s.0.4 in
    let e₂ : read_slots t n (image shape.keep (drop n t)) own ≡ own' =
    ap₂ (λ (m : ℕ) (y : List ℕ). read_slots t m y own) e₀ e₁ ∙ read_at t heap off v img' own' f.1 s.0.5 in
    let e₃ : read_slots t a img rest ≡ ss = read_at t heap a v img ss f.2 s.1 in
    rec-back (need img) (eqb (num t (a + p + 4) 2) 0) _ _ f.0.need
    (rw (ref-len t (a + p) off len x.short x.ref) (no_eqb {a = len} {b = 0} (omega (arith, x.nonzero))))
    ∙ (λ i. rec {p = p} {need = need} {shape = shape} (e₁ i) (e₂ i) (e₃ i))

pub read-entry : {l : Layout} (t : List ℕ) (heap : Region) (a : ℕ) (v : Env) (e : Entry l) → FitEntry v e → EntryAt t heap a e → read_entry l t a ≡ e
unfolding read_entry
read-entry {l} t heap a v unused f s = pick_no (odd (get_or (image l.shape.keep (drop a t)) l.shape.flags.at 0)) _ _ s
read-entry {l} t heap a v (used img ss) f s =
    let e₁ : image l.shape.keep (drop a t) ≡ img = s.0 in
    pick_yes (odd (get_or (image l.shape.keep (drop a t)) l.shape.flags.at 0)) _ _ (rw e₁ f.valid)
    ∙ ap₂ used e₁ (ap (λ (x : List ℕ). read_slots t a x l.refs) e₁ ∙ read_at t heap a v img ss f.objects s.1)

read-list : {l : Layout} (t : List ℕ) (heap : Region) (count : ℕ → ℕ) (a step pos : ℕ) (es : List (Entry l)) → FitList count pos es → ListAt t heap a step es → read_list l t a step (length es) ≡ es
unfolding read_list
read-list t heap count a step pos [] f s = refl
read-list t heap count a step pos (e ∷ es) f s = ap₂ ◌∷◌ (read-entry t heap a (env count pos) e f.0 s.0) (read-list t heap count (a + step) step (suc pos) es f.1 s.1)

pub read-body : {ls : List Layout} (t : List ℕ) (heap : Region) (count : ℕ → ℕ) (c : ℕ) (b : Body ls) → FitBody count b → BodyAt t heap c b → read_body ls t c ≡ b
unfolding read_body
read-body t heap count c stop f s = refl
read-body t heap count c (more {l = l} es rest) f s =
    ap₂ more (ap (read_list l t (num t c 4) (num t (c + 4) 2)) s.0 ∙ read-list t heap count (num t c 4) (num t (c + 4) 2) 1 es f.0 s.1)
    (read-body t heap count (c + 8) rest f.2 s.2)

-- ---- passing the rules

first-zero : (x y : ℕ) → x ≡ 0 → y ≡ 0 → first_of x y ≡ 0
first-zero x y p q = ap (λ (z : ℕ). pick (eqb z 0) y z) p ∙ q

under-zero : (n : Need) (x : ℕ) → x ≡ 0 → under n 0 x ≡ 0
under-zero Ignored x e = refl
under-zero Optional x e = e
under-zero Required x e = e

pick-zero : (c : Bool) (x : ℕ) → x ≡ 0 → pick c 0 x ≡ 0
pick-zero true x e = refl
pick-zero false x e = e

ref_reaches : (heap : Region) (n : Need) (off len : ℕ) → T (may_have n) → T (reaches heap off len) → ref_rule heap n off len ≡ 0
ref_reaches heap Ignored off len t g = absurd t
ref_reaches heap Optional off len t g = pick-zero (eqb off 0 && eqb len 0) _ (pick_yes (reaches heap off len) 0 11 g)
ref_reaches heap Required off len t g = pick_yes (reaches heap off len) 0 11 g

-- a reference to what lies in the heap passes
ref-to : (t : List ℕ) (heap : Region) (n : Need) (r off len : ℕ) → T (may_have n) → RefTo t heap r off len → ref_rule heap n (num t r 4) (num t (r + 4) 2) ≡ 0
ref-to t heap n r off len u x =
    let a = x.positive in
    let b = x.nonzero in
    ap₂ (λ (y z : ℕ). ref_rule heap n y z) (ref-off t r off len x.small x.ref) (ref-len t r off len x.short x.ref)
    ∙ ref_reaches heap n off len u
    (yes_and (not (eqb off 0)) _ (no_eqb {a = off} {b = 0} (omega arith))
    (yes_and (not (eqb len 0)) _ (no_eqb {a = len} {b = 0} (omega arith)) (yes_and (leb heap.at off) _ (yes_leb x.from) (yes_leb x.upto))))

ref-none : (t : List ℕ) (heap : Region) (n : Need) (r : ℕ) → T (may_lack n) → under n (Unit {0}) (Holds t r (ref6 0 0)) → ref_rule heap n (num t r 4) (num t (r + 4) 2) ≡ 0
ref-none t heap Ignored r u g = refl
ref-none t heap Optional r u g = ap₂ (λ (y z : ℕ). ref_rule heap Optional y z) (ref-off t r 0 0 (lit< tt) g) (ref-len t r 0 0 (lit< tt) g)
ref-none t heap Required r u g = absurd u

ref-plain : (t : List ℕ) (heap : Region) (n : Need) (r : ℕ) (b : List ℕ) → T (fits_need n b) → under n (Unit {0}) (PlainAt t heap r b) → ref_rule heap n (num t r 4) (num t (r + 4) 2) ≡ 0
ref-plain t heap Ignored r b u g = refl
ref-plain t heap Optional r [] u g = ref-none t heap Optional r tt g
ref-plain t heap Optional r (b ∷ bs) u g = ref-to t heap Optional r g.0 (length (b ∷ bs)) tt g.1
ref-plain t heap Required r [] u g = absurd u
ref-plain t heap Required r (b ∷ bs) u g = ref-to t heap Required r g.0 (length (b ∷ bs)) tt g.1

-- a rule under a need
rule-back : {A : Type 0} (n : Need) (x : ℕ) → (A → x ≡ 0) → under n (Unit {0}) A → under n 0 x ≡ 0
rule-back Ignored x f s = refl
rule-back Optional x f s = f s
rule-back Required x f s = f s

pub pass-at : {rs : Refs} (t : List ℕ) (heap : Region) (a : ℕ) (v : Env) (img : List ℕ) (ss : Slots rs) → Fit v img ss → At t heap a img ss → refs_rule heap v t a img rs ≡ 0
unfolding refs_rule
pass-at t heap a v img nil f s = refl
pass-at t heap a v img (bytes {p = p} {need = need} {content = content} b ss) f s =
    first-zero _ _
    (first-zero _ _ (ref-plain t heap (need img) (a + p) b f.0.need s.0)
    (rule-back (need img) _ (λ g. ap (ruled content v) (plain-read t heap (a + p) b g) ∙ eqb→eq (ruled content v b) 0 f.0.lawful) s.0))
    (pass-at t heap a v img ss f.1 s.1)
pass-at t heap a v img (gone {p = p} {need = need} ss) f s =
    first-zero _ _
    (first-zero _ _ (ref-none t heap (need img) (a + p) f.0 s.0)
    (rule-back (need img) _ (λ g. pick_yes (eqb (num t (a + p + 4) 2) 0) 0 _ (rw (ref-len t (a + p) 0 0 (lit< tt) g) tt)) s.0))
    (pass-at t heap a v img ss f.1 s.1)
pass-at t heap a v img (rec {p = p} {need = need} {shape = shape} {own = own} img' own' ss) f s =
    let off : ℕ = s.0.0 in
    let len : ℕ = s.0.1 in
    let x = s.0.2 in
    let n : ℕ = num t (a + p) 4 in
    let m : ℕ = num t (a + p + 4) 2 in
    let e₀ : n ≡ off = ref-off t (a + p) off len x.small x.ref in
    let e₁ : image shape.keep (drop n t) ≡ img' = ap (λ (y : ℕ). image shape.keep (drop y t)) e₀ ∙ s.0.4 in
    first-zero _ _
    (first-zero _ _ (ref-to t heap (need img) (a + p) off len f.0.need x)
    (under-zero (need img) _
    (pick-zero (eqb m 0) _
    (first-zero _ _
    (pick_yes (leb (length shape.keep) m && is_sound shape v img (image shape.keep (drop n t))) 0 12
    (yes_and (leb (length shape.keep) m) _ (rw (ref-len t (a + p) off len x.short x.ref) (yes_leb s.0.3)) (rw e₁ f.0.sound)))
    (ap₂ (λ (y : ℕ) (z : List ℕ). refs_rule heap v t y z own) e₀ e₁ ∙ pass-at t heap off v img' own' f.1 s.0.5)))))
    (pass-at t heap a v img ss f.2 s.1)

module _ (valid : ℕ → ℕ → Bool) (count : ℕ → ℕ) (t : List ℕ) (heap : Region) where
  pub pass-used : (l : Layout) (a : ℕ) (v : Env) (img : List ℕ) (ss : Slots l.refs) → FitUsed l v img ss → T (names_used valid (l.indexes img ss)) → At t heap a img ss
      → used_rule l valid heap v t a img ss ≡ 0
  unfolding used_rule
  pass-used l a v img ss f n s =
      first-zero _ _ (pick_yes (is_right l.shape v img) 0 10 f.right)
      (first-zero _ _ (pass-at t heap a v img ss f.objects s) (pick_yes (names_used valid (l.indexes img ss)) 0 13 n))

  pass-entry : (l : Layout) (a : ℕ) (v : Env) (e : Entry l) → FitEntry v e → NamesEntry valid e → EntryAt t heap a e → entry_rule l valid heap v t a e ≡ 0
  unfolding entry_rule
  pass-entry l a v unused f n s = refl
  pass-entry l a v (used img ss) f n s = pass-used l a v img ss f n s.1

  pass-list : (l : Layout) (a step pos : ℕ) (es : List (Entry l)) → FitList count pos es → NamesList valid es → ListAt t heap a step es → list_rule l valid count heap pos t a step es ≡ done
  unfolding list_rule
  pass-list l a step pos [] f n s = refl
  pass-list l a step pos (e ∷ es) f n s =
      pick_yes (eqb (entry_rule l valid heap (env count pos) t a e) 0) _ _ (rw (pass-entry l a (env count pos) e f.0 n.0 s.0) tt)
      ∙ pass-list l (a + step) step (suc pos) es f.1 n.1 s.1

  pub pass-body : {ls : List Layout} (c : ℕ) (b : Body ls) → FitBody count b → NamesBody valid b → BodyAt t heap c b → body_rule valid count heap t c b ≡ done
  unfolding body_rule
  pass-body c stop f n s = refl
  pass-body c (more {l = l} es rest) f n s =
      ap (λ (x : Answer). first x (body_rule valid count heap t (c + 8) rest)) (pass-list l (num t c 4) (num t (c + 4) 2) 1 es f.0 n.0 s.1)
      ∙ pass-body (c + 8) rest f.2 n.1 s.2
