-- What the builder makes of what it is told is right: fixed bytes, index and valid bit stand in the image, and objects that pass its rule fit. Assumes nothing.
use Rattle.std.specs.Prelude.{◌≡◌, Bool, true, false, not, ◌&&◌, ◌||◌, List, [], ◌∷◌, ◌++◌, length, take, drop, T, leb, ltb, eqb}
use Rattle.std.proofs.Math.Path.{refl, ap}
use Rattle.std.proofs.Common.{sym, ap₂, ◌∙◌, add-zero, pow-suc, mod-eq_of_lt, arith, length-drop, ext_get_or, get_or-take, get_or-drop, length-take-le, leb→le, ltb→lt, eqb→eq, lit<}
use Prim.Native.Nat.{ℕ, zero, suc, ◌+◌, ◌*◌, ◌/◌, ◌%◌, ◌^◌, ◌≤◌, ◌<◌}
use Rattle.std.proofs.Math.Nat.{mod-mod_of_dvd, dvd_of_mod-eq-zero}
use Rattle.std.proofs.Math.ListN.{get_or}
use Rattle.std.proofs.Math.Dec.{eqb_refl}
use Rattle.std.proofs.Math.Facts.{and_yes, yes_and, yes_eqb}
use Rattle.table.specs.declared.Need.{Need}
use Rattle.table.specs.declared.Need.TheVariants.{Ignored, Optional, Required}
use Rattle.table.specs.Bytes.{Edit, apply, bits, edit, every, le, num, part, pick, same, splice, val}
use Rattle.table.specs.Layout.{Env, Keep, Refs, Shape, Slots, bytes, fixed_right, gone, image, is_right, is_valid, low, mod_of, nest, nil, none, pairs_right, plain, rec, sel}
use Rattle.table.specs.Objects.{under}
use Rattle.table.specs.Rules.{first_of}
use Rattle.table.specs.Builder.{ended, fits_need, is_short, may_have, may_lack, nests_right, slots_rule, told_image, told_slots}
use Rattle.laws.specs.Lawful.{Fit, all_keep, ok_keep}
use Rattle.laws.specs.ByteLaws.{Holds, holds-get_d, holds-splice-above, holds-splice-below, length-le, length-splice, splice-here, val-le}
use Rattle.laws.specs.ImageLaws.{all-at, even-low, image-at, image-idem, is_even, length-image}
use Rattle.laws.specs.Sound.{first-of, pick-of}

-- ---- the test of a shape: what the builder sets lies inside, apart from each other, in bytes that count wholly

abbrev is_whole : Keep → Bool
is_whole (low n) = eqb n 256
is_whole (sel f d m₀ m₁) = false

abbrev whole_at : List Keep → ℕ → ℕ → Bool
whole_at ks a n = leb (a + n) (length ks) && all_keep is_whole (take n (drop a ks))

-- the n bytes at a are apart from every edit
abbrev clear_of : ℕ → ℕ → List Edit → Bool
clear_of a n [] = true
clear_of a n (e ∷ es) = (leb (a + n) e.at || leb (e.at + length e.put) a) && clear_of a n es

abbrev marks_ok : List Keep → List Edit → Bool
marks_ok ks [] = true
marks_ok ks (e ∷ es) = (whole_at ks e.at (length e.put) && clear_of e.at (length e.put) es) && marks_ok ks es

abbrev all_small : List Edit → Bool
all_small [] = true
all_small (e ∷ es) = every (λ b. ltb b 256) e.put && all_small es

-- what the builder sets in a record for position n
abbrev marks : Shape → ℕ → List Edit
marks s n = s.fixed ++ (edit s.index.at (le s.index.len n) ∷ [])

abbrev pub ok_marks : Shape → ℕ → Bool
ok_marks s n =
    (marks_ok s.keep (marks s n) && all_small s.fixed)
    && ((all_keep (ok_keep s.keep) s.keep && (clear_of s.flags.at 1 (marks s n)))
    && (ltb s.flags.at (length s.keep) && is_even (get_or s.keep s.flags.at (low 1))))

-- ---- stores that are apart keep one another

holds-apart : (x : List ℕ) (b : ℕ) (bs : List ℕ) (p : ℕ) (r : List ℕ) → b + length bs ≤ length x → T (leb (p + length r) b || leb (b + length bs) p) → Holds x p r → Holds (splice x b bs) p r
holds-apart x b bs p r k t h = go (leb (p + length r) b) refl t
  where
    go : (c : Bool) → leb (p + length r) b ≡ c → T (c || leb (b + length bs) p) → Holds (splice x b bs) p r
    go true e u = holds-splice-below x b bs k p r (leb→le (p + length r) b (rw e tt)) h
    go false e u = holds-splice-above x b bs k p r (leb→le (b + length bs) p u) h

abbrev AllInside : ℕ → List Edit → Type 0
AllInside n [] = Unit {0}
AllInside n (e ∷ es) = (e.at + length e.put ≤ n) × AllInside n es

abbrev AllThere : List ℕ → List Edit → Type 0
AllThere t [] = Unit {0}
AllThere t (e ∷ es) = Holds t e.at e.put × AllThere t es

marks-inside : (ks : List Keep) (es : List Edit) → T (marks_ok ks es) → AllInside (length ks) es
marks-inside ks [] t = tt
marks-inside ks (e ∷ es) t =
    let u = and_yes (whole_at ks e.at (length e.put) && clear_of e.at (length e.put) es) (marks_ok ks es) t in
    let v = and_yes (whole_at ks e.at (length e.put)) _ u.0 in
    (leb→le (e.at + length e.put) (length ks) (and_yes (leb (e.at + length e.put) (length ks)) _ v.0).0, marks-inside ks es u.1)

module _ (n : ℕ) where
  length-edits : (es : List Edit) (x : List ℕ) → length x ≡ n → AllInside n es → length (apply x es) ≡ n
  length-edits [] x l i = l
  length-edits (e ∷ es) x l i = length-edits es (splice x e.at e.put) (length-splice x e.at e.put (omega arith) ∙ l) i.1

  edits-keep : (es : List Edit) (x : List ℕ) (p : ℕ) (r : List ℕ) → length x ≡ n → AllInside n es → T (clear_of p (length r) es) → Holds x p r → Holds (apply x es) p r
  edits-keep [] x p r l i t h = h
  edits-keep (e ∷ es) x p r l i t h =
      let u = and_yes (leb (p + length r) e.at || leb (e.at + length e.put) p) (clear_of p (length r) es) t in
      edits-keep es (splice x e.at e.put) p r (length-splice x e.at e.put (omega arith) ∙ l) i.1 u.1
      (holds-apart x e.at e.put p r (omega arith) u.0 h)

  edits-there : (ks : List Keep) (es : List Edit) (x : List ℕ) → length x ≡ n → AllInside n es → T (marks_ok ks es) → AllThere (apply x es) es
  edits-there ks [] x l i t = tt
  edits-there ks (e ∷ es) x l i t =
      let u = and_yes (whole_at ks e.at (length e.put) && clear_of e.at (length e.put) es) (marks_ok ks es) t in
      let v = and_yes (whole_at ks e.at (length e.put)) _ u.0 in
      let l' : length (splice x e.at e.put) ≡ n = length-splice x e.at e.put (omega arith) ∙ l in (
        edits-keep es (splice x e.at e.put) e.at e.put l' i.1 v.1 (splice-here x e.at e.put (omega arith)),
        edits-there ks es (splice x e.at e.put) l' i.1 u.1,
      )

-- ---- bytes that count wholly are their image

whole-low : (k : Keep) → T (is_whole k) → k ≡ low 256
whole-low (low n) t = ap low (eqb→eq n 256 t)
whole-low (sel f d m₀ m₁) t = absurd t

whole-keep : (ks : List Keep) (a n j : ℕ) → T (whole_at ks a n) → j < n → get_or ks (a + j) (low 1) ≡ low 256
whole-keep ks a n j t h =
    let u = and_yes (leb (a + n) (length ks)) _ t in
    let k : a + n ≤ length ks = leb→le (a + n) (length ks) u.0 in
    let l : length (take n (drop a ks)) ≡ n = length-take-le n (drop a ks) (simp length-drop (omega arith)) in
    let e : get_or (take n (drop a ks)) j (low 1) ≡ get_or ks (a + j) (low 1) = get_or-take n (drop a ks) j (low 1) h ∙ get_or-drop a ks j (low 1) in
    whole-low (get_or ks (a + j) (low 1)) (rw e at (all-at is_whole (take n (drop a ks)) u.1 j (omega arith)))

-- the bytes that a record holds where all bits count are its image's
image-whole : (ks : List Keep) (y : List ℕ) (a : ℕ) (bs : List ℕ) → T (whole_at ks a (length bs)) → ((i : ℕ) → get_or bs i 0 < 256) → Holds y a bs → part (image ks y) a (length bs) ≡ bs
image-whole ks y a bs t b h =
    let n : ℕ = length bs in
    let k : a + n ≤ length ks = leb→le (a + n) (length ks) (and_yes (leb (a + n) (length ks)) _ t).0 in
    let li : length (image ks y) ≡ length ks = length-image ks y in
    let l : length (part (image ks y) a n) ≡ n = length-take-le n (drop a (image ks y)) (simp length-drop (omega arith)) in
    ext_get_or 0 (part (image ks y) a n) bs l
    λ j g.
    let g' : j < n = omega arith in
    get_or-take n (drop a (image ks y)) j 0 g'
    ∙ get_or-drop a (image ks y) j 0
    ∙ image-at ks y (a + j) (omega arith)
    ∙ ap₂ (λ (x : ℕ) (q : Keep). x % mod_of q y) (holds-get_d y a bs h j g') (whole-keep ks a n j t g')
    ∙ mod-eq_of_lt (b j)

same_refl : (xs : List ℕ) → T (same xs xs)
same_refl [] = tt
same_refl (x ∷ xs) = yes_and (eqb x x) (same xs xs) (eqb_refl x) (same_refl xs)

every-small : (bs : List ℕ) → T (every (λ b. ltb b 256) bs) → (i : ℕ) → get_or bs i 0 < 256
every-small [] t i = lit< tt
every-small (b ∷ bs) t zero = ltb→lt b 256 (and_yes (ltb b 256) _ t).0
every-small (b ∷ bs) t (suc i) = every-small bs (and_yes (ltb b 256) _ t).1 i

le-small : (n x i : ℕ) → get_or (le n x) i 0 < 256
le-small zero x i = lit< tt
le-small (suc n) x zero = omega arith
le-small (suc n) x (suc i) = le-small n (x / 256) i

fixed-there : (ks : List Keep) (y : List ℕ) (es fs : List Edit) → T (marks_ok ks (es ++ fs)) → T (all_small es) → AllThere y (es ++ fs) → T (fixed_right es (image ks y))
fixed-there ks y [] fs t s h = tt
fixed-there ks y (e ∷ es) fs t s h =
    let u = and_yes (whole_at ks e.at (length e.put) && clear_of e.at (length e.put) (es ++ fs)) (marks_ok ks (es ++ fs)) t in
    let v = and_yes (whole_at ks e.at (length e.put)) _ u.0 in
    let w = and_yes (every (λ b. ltb b 256) e.put) (all_small es) s in
    yes_and (same (part (image ks y) e.at (length e.put)) e.put) _
    (rw (image-whole ks y e.at e.put v.0 (every-small e.put w.0) h.0) (same_refl e.put))
    (fixed-there ks y es fs u.1 w.1 h.1)

last-there : (ks : List Keep) (y : List ℕ) (es : List Edit) (e : Edit)
    → T (marks_ok ks (es ++ (e ∷ [])))
    → AllThere y (es ++ (e ∷ []))
    → T (whole_at ks e.at (length e.put)) × Holds y e.at e.put
last-there ks y [] e t h = ((and_yes (whole_at ks e.at (length e.put)) _ (and_yes (whole_at ks e.at (length e.put) && true) true t).0).0, h.0)
last-there ks y (x ∷ es) e t h =
    last-there ks y es e (and_yes (whole_at ks x.at (length x.put) && clear_of x.at (length x.put) (es ++ (e ∷ []))) _ t).1 h.1

-- ---- the image of a told record

there-still : (x : List ℕ) (f v : ℕ) (es : List Edit) → f + 1 ≤ length x → T (clear_of f 1 es) → AllThere x es → AllThere (splice x f (v ∷ [])) es
there-still x f v [] k t h = tt
there-still x f v (e ∷ es) k t h =
    let u = and_yes (leb (f + 1) e.at || leb (e.at + length e.put) f) (clear_of f 1 es) t in
    (holds-apart x f (v ∷ []) e.at e.put k (swap (leb (f + 1) e.at) (leb (e.at + length e.put) f) u.0) h.0, there-still x f v es k u.1 h.1)
  where
    swap : (c d : Bool) → T (c || d) → T (d || c)
    swap true true t = tt
    swap true false t = tt
    swap false true t = tt
    swap false false t = t

odd-left : (q m : ℕ) → T (eqb (m % 2) 0) → (q / 2 * 2 + 1) % m % 2 ≡ 1
odd-left q m t = mod-mod_of_dvd 2 (q / 2 * 2 + 1) (dvd_of_mod-eq-zero 2 (eqb→eq (m % 2) 0 t)) ∙ omega arith

module _ (s : Shape) (n : ℕ) (x : List ℕ) (ok : T (ok_marks s n)) (sized : length x ≡ length s.keep) where
  -- the test of the shape, taken apart
  placed-ok : T (marks_ok s.keep (marks s n))
  placed-ok = (and_yes (marks_ok s.keep (marks s n)) (all_small s.fixed) (and_yes (marks_ok s.keep (marks s n) && all_small s.fixed) _ ok).0).0

  small-ok : T (all_small s.fixed)
  small-ok = (and_yes (marks_ok s.keep (marks s n)) (all_small s.fixed) (and_yes (marks_ok s.keep (marks s n) && all_small s.fixed) _ ok).0).1

  rest_ok : T (all_keep (ok_keep s.keep) s.keep) × T (clear_of s.flags.at 1 (marks s n)) × T (ltb s.flags.at (length s.keep)) × T (is_even (get_or s.keep s.flags.at (low 1)))
  rest_ok =
      let u = and_yes (all_keep (ok_keep s.keep) s.keep && clear_of s.flags.at 1 (marks s n)) _ (and_yes (marks_ok s.keep (marks s n) && all_small s.fixed) _ ok).1 in
      let v = and_yes (all_keep (ok_keep s.keep) s.keep) _ u.0 in
      let w = and_yes (ltb s.flags.at (length s.keep)) _ u.1 in
      (v.0, v.1, w.0, w.1)

  -- the record with its marks, and with its valid bit
  marked : List ℕ
  marked = apply x (marks s n)

  flagged : List ℕ
  flagged = splice marked s.flags.at ((get_or marked s.flags.at 0 / 2 * 2 + 1) ∷ [])

  long : length marked ≡ length s.keep
  unfolding marked
  long = length-edits (length s.keep) (marks s n) x sized (marks-inside s.keep (marks s n) placed-ok)

  room : s.flags.at + 1 ≤ length marked
  room = let k = ltb→lt s.flags.at (length s.keep) rest_ok.2 in omega (arith, long)

  there : AllThere flagged (marks s n)
  unfolding flagged
  there =
      there-still marked s.flags.at _ (marks s n) room rest_ok.1
      (unfold marked in edits-there (length s.keep) s.keep (marks s n) x sized (marks-inside s.keep (marks s n) placed-ok) placed-ok)

  is-image : told_image s n x ≡ image s.keep flagged
  unfolding told_image flagged marked
  is-image = refl

  pub told_fixed : image s.keep (told_image s n x) ≡ told_image s n x
  told_fixed = rw is-image (image-idem s.keep flagged rest_ok.0)

  pub told-valid : T (is_valid s (told_image s n x))
  unfolding flagged
  told-valid =
      let f : ℕ = s.flags.at in
      let v : ℕ = get_or marked f 0 / 2 * 2 + 1 in
      let h : get_or flagged f 0 ≡ v = ap (λ (j : ℕ). get_or flagged j 0) (sym (add-zero f)) ∙ holds-get_d flagged f (v ∷ []) (splice-here marked f (v ∷ []) room) 0 (lit< tt) in
      rw (is-image, image-at s.keep flagged f (ltb→lt f (length s.keep) rest_ok.2), h)
      (yes_eqb (odd-left (get_or marked f 0) (mod_of (get_or s.keep f (low 1)) flagged) (even-low (get_or s.keep f (low 1)) flagged rest_ok.3)))

  pub told-right : (e : Env) → e.position ≡ n → n < 256 ^ s.index.len → T (pairs_right s (told_image s n x)) → T (is_right s e (told_image s n x))
  unfolding is_right
  told-right e p k q =
      let i = last-there s.keep flagged s.fixed (edit s.index.at (le s.index.len n)) placed-ok there in
      let a : num (image s.keep flagged) s.index.at s.index.len ≡ n =
      ap (λ (m : ℕ). num (image s.keep flagged) s.index.at m) (sym (length-le s.index.len n))
      ∙ ap val (image-whole s.keep flagged s.index.at (le s.index.len n) i.0 (le-small s.index.len n) i.1)
      ∙ val-le s.index.len n k in
      yes_and (fixed_right s.fixed (told_image s n x)) _ (rw is-image (fixed-there s.keep flagged s.fixed _ placed-ok small-ok there))
      (yes_and (eqb (num (told_image s n x) s.index.at s.index.len) e.position) _ (rw (is-image, a, p) (eqb_refl n)) q)

-- ---- the told objects

abbrev no_pairs : List ℕ → Bool
no_pairs [] = true
no_pairs (p ∷ ps) = false

-- what a heap record is told has two bytes or one for its owner's position, and no two-bit fields
abbrev pub ok_told : ℕ → Refs → Bool
ok_told n none = true
ok_told n (plain p need content rest) = ok_told n rest
ok_told n (nest p need shape own rest) = (ok_marks shape n && (leb 1 shape.index.len && no_pairs shape.pairs)) && (ok_told n own && ok_told n rest)

-- the told bytes of a heap record are as many as its kind has
abbrev pub SizedSlots : {rs : Refs} → Slots rs → Type 0
SizedSlots nil = Unit {0}
SizedSlots (bytes b ss) = SizedSlots ss
SizedSlots (gone ss) = SizedSlots ss
SizedSlots (rec {shape = shape} x own ss) = (length x ≡ length shape.keep) × SizedSlots own × SizedSlots ss

pub byte_pow : (n w : ℕ) → n < 256 → 1 ≤ w → n < 256 ^ w
byte_pow n zero k l = absurd (omega arith)
byte_pow n (suc w) k l = rw pow-suc (omega (arith, some w))
  where
    some : (w : ℕ) → 0 < 256 ^ w
    some zero = lit< tt
    some (suc w) = rw pow-suc (omega (arith, some w))

no_pairs_lem : (s : Shape) (img : List ℕ) → T (no_pairs s.pairs) → T (pairs_right s img)
no_pairs_lem s img t = go s.pairs t
  where
    go : (ps : List ℕ) → T (no_pairs ps) → T (every (λ lo. not (eqb (bits s.flags.at s.flags.len (lo + 1) lo img) 3)) ps)
    go [] t = tt
    go (p ∷ ps) t = absurd t

-- a heap record as told, or dropped: d is the need of its reference, n says that its own further rules hold, and those behind it
rec-fits : {own rest : Refs} (p : ℕ) (need : List ℕ → Need) (shape : Shape) (e : Env) (img y : List ℕ) (os : Slots own) (ss : Slots rest) (d : Need) → need img ≡ d
    → image shape.keep y ≡ y → T (is_valid shape y) → T (is_right shape e y) → (T (nests_right y os) → slots_rule e y os ≡ 0 → Fit e y os)
    → (T (nests_right img ss) → slots_rule e img ss ≡ 0 → Fit e img ss)
    → T (nests_right img (under d (gone {p = p} {need = need} {shape = shape} {own = own} ss) (rec {p = p} {need = need} {shape = shape} y os ss)))
    → slots_rule e img (under d (gone {p = p} {need = need} {shape = shape} {own = own} ss) (rec {p = p} {need = need} {shape = shape} y os ss)) ≡ 0
    → Fit e img (under d (gone {p = p} {need = need} {shape = shape} {own = own} ss) (rec {p = p} {need = need} {shape = shape} y os ss))
unfolding slots_rule nests_right
rec-fits p need shape e img y os ss Ignored q f v w g h n r = (rw q tt, h n (first-of (pick (may_lack (need img)) 0 11) (slots_rule e img ss) r).1)
rec-fits p need shape e img y os ss Optional q f v w g h n r =
    let u = first-of (first_of (pick (may_have (need img)) 0 11) (slots_rule e y os)) (slots_rule e img ss) r in
    let a = and_yes (shape.further img y) (nests_right y os && nests_right img ss) n in
    let b = and_yes (nests_right y os) (nests_right img ss) a.1 in
    let s = yes_and (is_valid shape y) _ v (yes_and (is_right shape e y) (shape.further img y) w a.0) in
    (record { need = rw q tt; fixed = f; sound = s }, g b.0 (first-of (pick (may_have (need img)) 0 11) (slots_rule e y os) u.0).1, h b.1 u.1)
rec-fits p need shape e img y os ss Required q f v w g h n r =
    let u = first-of (first_of (pick (may_have (need img)) 0 11) (slots_rule e y os)) (slots_rule e img ss) r in
    let a = and_yes (shape.further img y) (nests_right y os && nests_right img ss) n in
    let b = and_yes (nests_right y os) (nests_right img ss) a.1 in
    let s = yes_and (is_valid shape y) _ v (yes_and (is_right shape e y) (shape.further img y) w a.0) in
    (record { need = rw q tt; fixed = f; sound = s }, g b.0 (first-of (pick (may_have (need img)) 0 11) (slots_rule e y os) u.0).1, h b.1 u.1)

-- told objects that pass the builder's rules fit
pub told_fit : {rs : Refs} (e : Env) → e.position < 256 → (img : List ℕ) (ss : Slots rs) → T (ok_told e.position rs) → SizedSlots ss
    → T (nests_right img (told_slots e.position img ss)) → slots_rule e img (told_slots e.position img ss) ≡ 0 → Fit e img (told_slots e.position img ss)
unfolding slots_rule told_slots nests_right
told_fit e k img nil t z n r = tt
told_fit e k img (bytes {need = need} {content = content} b ss) t z n r =
    let u = first-of _ _ r in
    let v = first-of _ _ u.0 in
    let b' : List ℕ = under (need img) [] (ended content b) in
    let w = and_yes (fits_need (need img) b') (is_short b') (pick-of (fits_need (need img) b' && is_short b') 11 (lit< tt) v.0) in
    let s : length b' ≤ 65535 = leb→le (length b') 65535 w.1 in
    (record { need = w.0; lawful = rw v.1 tt; short = omega arith }, told_fit e k img ss t z n u.1)
told_fit e k img (gone {need = need} {shape = shape} {own = own} {rest = rest} ss) t z n r =
    let u = first-of _ _ r in
    let o = and_yes (ok_told e.position own) (ok_told e.position rest) (and_yes (ok_marks shape e.position && (leb 1 shape.index.len && no_pairs shape.pairs)) _ t).1 in
    (pick-of (may_lack (need img)) 11 (lit< tt) u.0, told_fit e k img ss o.1 z n u.1)
told_fit e k img (rec {p = p} {need = need} {shape = shape} {own = own} {rest = rest} x os ss) t z h r =
    let n : ℕ = e.position in
    let m = and_yes (ok_marks shape n && (leb 1 shape.index.len && no_pairs shape.pairs)) (ok_told n own && ok_told n rest) t in
    let m₁ = and_yes (ok_marks shape n) (leb 1 shape.index.len && no_pairs shape.pairs) m.0 in
    let m₂ = and_yes (leb 1 shape.index.len) (no_pairs shape.pairs) m₁.1 in
    let o = and_yes (ok_told n own) (ok_told n rest) m.1 in
    let y : List ℕ = told_image shape n x in
    rec-fits p need shape e img y (told_slots n y os) (told_slots n img ss) (need img) refl (told_fixed shape n x m₁.0 z.0)
    (told-valid shape n x m₁.0 z.0)
    (told-right shape n x m₁.0 z.0 e refl (byte_pow n shape.index.len k (leb→le 1 shape.index.len m₂.0)) (no_pairs_lem shape y m₂.1))
    (told_fit e k y os o.0 z.1) (told_fit e k img ss o.1 z.2) h r
