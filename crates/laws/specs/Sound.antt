-- The meaning of an accepted table obeys the rules that speak of meanings. Assumes nothing.
use Rattle.std.specs.Prelude.{◌≡◌, Bool, true, false, not, ◌&&◌, length, get_or, take, drop, T, leb, eqb}
use Rattle.std.proofs.Math.Path.{refl}
use Rattle.std.proofs.Common.{ap, pow-suc, arith, length-take, length-drop, get_or-drop, leb→le, lit<}
use mathlib.Core.List.{List, [], ◌∷◌}
use Prim.Native.Nat.{ℕ, zero, suc, ◌+◌, ◌^◌, ◌≤◌, ◌<◌}
use Rattle.std.proofs.Math.Dec.{eqb-suc-zero}
use Rattle.std.proofs.Math.Facts.{and_yes, eqb_no}
use Rattle.table.specs.declared.Answer.{Answer}
use Rattle.table.specs.declared.Region.{Region}
use Rattle.table.specs.declared.Need.{Need}
use Rattle.table.specs.declared.Need.TheVariants.{Ignored, Optional, Required}
use Rattle.table.specs.Bytes.{num, odd, part, pick, val}
use Rattle.table.specs.Layout.{Content, Entry, Env, Keep, Layout, Refs, Shape, Slots, env, gone, image, is_right, nest, none, plain, rec, unused, used, names_used}
use Rattle.table.specs.Objects.{read_body, read_entry, read_list, read_slots, under}
use Rattle.table.specs.Rules.{answer, body_rule, done, entry_rule, first, first_of, is_sound, list_rule, reaches, ref_rule, refs_rule, ruled, used_rule}
use Rattle.table.specs.Builder.{fits_need, may_have}
use Rattle.laws.specs.Lawful.{Fit, FitBody, FitBytes, FitEntry, FitList, FitUsed, NamesBody, NamesEntry, NamesList, all_ok, ok_layout, ok_refs}
use Rattle.laws.specs.ImageLaws.{image-idem}
use Rattle.laws.specs.SlotLaws.{OkNest, nest-next, nest-own, plain-next}
use Rattle.laws.specs.ListLaws.{OkLayout, ok-layout}

-- ---- chains, taken apart

pub first-of : (x y : ℕ) → first_of x y ≡ 0 → (x ≡ 0) × (y ≡ 0)
first-of zero y e = (refl, e)
first-of (suc x) y e =
    let f : suc x ≡ 0 = rw (eqb-suc-zero x) at e in
    absurd (omega arith)

pub pick-of : (c : Bool) (n : ℕ) → 0 < n → pick c 0 n ≡ 0 → T c
pick-of true n k e = tt
pick-of false n k e = absurd (omega arith)

number_of : (x y : Answer) → x ≡ y → x.number ≡ y.number
number_of x y e = ap (λ (a : Answer). a.number) e

pub answer-of : (n k i : ℕ) (y : Answer) → pick (eqb n 0) y (answer n k i) ≡ done → (n ≡ 0) × (y ≡ done)
answer-of zero k i y e = (refl, e)
answer-of (suc n) k i y e =
    let f : answer (suc n) k i ≡ done = rw (eqb-suc-zero n) at e in
    let g : suc n ≡ 0 = number_of _ _ f in
    absurd (omega arith)

-- ---- numbers of bytes

val-bound : (n : ℕ) (xs : List ℕ) → ((i : ℕ) → get_or xs i 0 < 256) → val (take n xs) < 256 ^ n
val-bound zero xs b = lit< tt
val-bound (suc n) [] b = rw pow-suc (omega (arith, val-bound n [] (λ i. lit< tt)))
val-bound (suc n) (x ∷ xs) b =
    let h : x < 256 = b 0 in
    let r : val (take n xs) < 256 ^ n = val-bound n xs (λ i. b (suc i)) in
    rw pow-suc (omega arith)

-- as many records are read as there are to be
pub length-read_list : (t : List ℕ) (l : Layout) (n a step : ℕ) → length (read_list l t a step n) ≡ n
unfolding read_list
length-read_list t l zero a step = refl
length-read_list t l (suc n) a step = ap suc (length-read_list t l n (a + step) step)

module _ (t : List ℕ) (b : (i : ℕ) → get_or t i 0 < 256) where
  pub num-bound : (a n : ℕ) → num t a n < 256 ^ n
  num-bound a n = val-bound n (drop a t) (λ i. rw (get_or-drop a t i 0) (b (a + i)))

  -- the heap lies in the table, unless it is empty
  abbrev pub Bounded : Region → Type 0
  Bounded heap = 0 < heap.len → heap.at + heap.len ≤ length t

  -- an object that is reached is there
  pub part-there : (heap : Region) (off len : ℕ) → Bounded heap → T (reaches heap off len) → (0 < len) × (length (part t off len) ≡ len)
  part-there heap off len k r =
      let r₁ = and_yes (not (eqb off 0)) _ r in
      let r₂ = and_yes (not (eqb len 0)) _ r₁.1 in
      let r₃ = and_yes (leb heap.at off) _ r₂.1 in
      let a : heap.at ≤ off = leb→le heap.at off r₃.0 in
      let c : off + len ≤ heap.at + heap.len = leb→le (off + len) (heap.at + heap.len) r₃.1 in
      let n = eqb_no {a = len} {b = 0} r₂.0 in
      let d : heap.at + heap.len ≤ length t = k (omega arith) in
      (omega arith, simp (length-take, length-drop) (omega arith))

  short-part : (off len : ℕ) → len < 65536 → length (part t off len) < 65536
  short-part off len k = simp (length-take, length-drop) (omega arith)

  nonempty : (n : Need) (x : List ℕ) → 0 < length x → T (may_have n) → T (fits_need n x)
  nonempty n [] k h = absurd (omega arith)
  nonempty Ignored (y ∷ ys) k h = h
  nonempty Optional (y ∷ ys) k h = tt
  nonempty Required (y ∷ ys) k h = tt

  -- what passes as a plain reference fits
  plain_fits : (heap : Region) (n : Need) (content : Content) (v : Env) (off len : ℕ) → Bounded heap → len < 65536
      → ref_rule heap n off len ≡ 0 → under n 0 (ruled content v (part t off len)) ≡ 0 → FitBytes n content v (under n [] (part t off len))
  plain_fits heap Ignored content v off len k l e f = record { need = tt; lawful = tt; short = lit< tt }
  plain_fits heap Optional content v off len k l e f = record { need = tt; lawful = rw f tt; short = short-part off len l }
  plain_fits heap Required content v off len k l e f =
      let u = part-there heap off len k (pick-of (reaches heap off len) 11 (lit< tt) e) in
      record { need = nonempty Required (part t off len) (omega arith) tt; lawful = rw f tt; short = short-part off len l }

  pub reached : (heap : Region) (off len : ℕ) → T (reaches heap off len) → T (not (eqb len 0))
  reached heap off len r = (and_yes (not (eqb len 0)) _ (and_yes (not (eqb off 0)) _ r).1).0

  -- what passes as a reference to a heap record fits: n is the need, c says that the length is zero
  nest-fits : {own rest : Refs} (p : ℕ) (need : List ℕ → Need) (shape : Shape) (v : Env) (img : List ℕ) (heap : Region) (off len : ℕ)
      (os : Slots own) (ss : Slots rest) (inner : ℕ) (n : Need) (c : Bool)
      → need img ≡ n → eqb len 0 ≡ c → ref_rule heap n off len ≡ 0 → under n 0 (pick c 0 inner) ≡ 0
      → (inner ≡ 0 → T (is_sound shape v img (image shape.keep (drop off t))) × Fit v (image shape.keep (drop off t)) os) → OkNest shape own → Fit v img ss
      → Fit v img (under n (gone {p = p} {need = need} {shape = shape} {own = own} ss)
      (pick c (gone {p = p} {need = need} {shape = shape} {own = own} ss) (rec {p = p} {need = need} {shape = shape} (image shape.keep (drop off t)) os ss)))
  nest-fits p need shape v img heap off len os ss inner Ignored c e z r f g o s = (rw e tt, s)
  nest-fits p need shape v img heap off len os ss inner Optional true e z r f g o s = (rw e tt, s)
  nest-fits p need shape v img heap off len os ss inner Optional false e z r f g o s =
      let u = g f in
      (record { need = rw e tt; fixed = image-idem shape.keep (drop off t) o.keeps; sound = u.0 }, u.1, s)
  nest-fits p need shape v img heap off len os ss inner Required true e z r f g o s =
      absurd (rw z at (reached heap off len (pick-of (reaches heap off len) 11 (lit< tt) r)))
  nest-fits p need shape v img heap off len os ss inner Required false e z r f g o s =
      let u = g f in
      (record { need = rw e tt; fixed = image-idem shape.keep (drop off t) o.keeps; sound = u.0 }, u.1, s)

  -- references that pass give objects that fit
  pub refs-fit : (heap : Region) → Bounded heap → (ks : List Keep) (q a : ℕ) (v : Env) (img : List ℕ) (rs : Refs) → T (ok_refs q ks rs)
      → refs_rule heap v t a img rs ≡ 0 → Fit v img (read_slots t a img rs)
  unfolding refs_rule read_slots
  refs-fit heap k ks q a v img none o e = tt
  refs-fit heap k ks q a v img (plain p need content rest) o e =
      let u = first-of _ _ e in
      let w = first-of _ _ u.0 in (
        plain_fits heap (need img) content v (num t (a + p) 4) (num t (a + p + 4) 2) k (num-bound (a + p + 4) 2) w.0 w.1,
        refs-fit heap k ks (p + 6) a v img rest (plain-next q p ks need content rest o) u.1,
      )
  refs-fit heap k ks q a v img (nest p need shape own rest) o e =
      let u = first-of _ _ e in
      let w = first-of _ _ u.0 in
      let off : ℕ = num t (a + p) 4 in
      let len : ℕ = num t (a + p + 4) 2 in
      let o' = nest-own q p ks need shape own rest o in
      nest-fits p need shape v img heap off len (read_slots t off (image shape.keep (drop off t)) own) (read_slots t a img rest)
      (first_of (pick (leb (length shape.keep) len && is_sound shape v img (image shape.keep (drop off t))) 0 12) (refs_rule heap v t off (image shape.keep (drop off t)) own))
      (need img) (eqb len 0) refl refl w.0 w.1
      (λ i.
      let x = first-of _ _ i in (
        (and_yes (leb (length shape.keep) len) _ (pick-of (leb (length shape.keep) len && is_sound shape v img (image shape.keep (drop off t))) 12 (lit< tt) x.0)).1,
        refs-fit heap k shape.keep 0 off v (image shape.keep (drop off t)) own o'.refs x.1,
      ))
      o' (refs-fit heap k ks (p + 6) a v img rest (nest-next q p ks need shape own rest o) u.1)

  -- ---- entries and lists

  used-fit : (l : Layout) → OkLayout l → (valid : ℕ → ℕ → Bool) (heap : Region) → Bounded heap → (e : Env) (a : ℕ)
      → T (odd (get_or (image l.shape.keep (drop a t)) l.shape.flags.at 0))
      → used_rule l valid heap e t a (image l.shape.keep (drop a t)) (read_slots t a (image l.shape.keep (drop a t)) l.refs) ≡ 0
      → FitUsed l e (image l.shape.keep (drop a t)) (read_slots t a (image l.shape.keep (drop a t)) l.refs)
      × T (names_used valid (l.indexes (image l.shape.keep (drop a t)) (read_slots t a (image l.shape.keep (drop a t)) l.refs)))
  unfolding used_rule
  used-fit l o valid heap k e a v z =
      let img : List ℕ = image l.shape.keep (drop a t) in
      let u = first-of _ _ z in
      let x = first-of _ _ u.1 in (
        record {
          fixed = image-idem l.shape.keep (drop a t) o.keeps;
          valid = v;
          right = pick-of (is_right l.shape e img) 10 (lit< tt) u.0;
          objects = refs-fit heap k l.shape.keep 0 a e img l.refs o.refs_ok x.0;
        },
        pick-of (names_used valid (l.indexes img (read_slots t a img l.refs))) 13 (lit< tt) x.1,
      )

  pub entry-fit : (l : Layout) → OkLayout l → (valid : ℕ → ℕ → Bool) (heap : Region) → Bounded heap → (v : Env) (a : ℕ)
      → entry_rule l valid heap v t a (read_entry l t a) ≡ 0 → FitEntry v (read_entry l t a) × NamesEntry valid (read_entry l t a)
  unfolding entry_rule read_entry
  entry-fit l o valid heap k v a e = go (odd (get_or (image l.shape.keep (drop a t)) l.shape.flags.at 0)) refl e
    where
      img : List ℕ
      img = image l.shape.keep (drop a t)

      ss : Slots l.refs
      ss = read_slots t a (image l.shape.keep (drop a t)) l.refs

      go : (c : Bool) → odd (get_or (image l.shape.keep (drop a t)) l.shape.flags.at 0) ≡ c → entry_rule l valid heap v t a (pick c (used img ss) unused) ≡ 0
          → FitEntry {l = l} v (pick c (used img ss) unused) × NamesEntry {l = l} valid (pick c (used img ss) unused)
      go true p q = used-fit l o valid heap k v a (rw p tt) q
      go false p q = (tt, tt)

  list-fit : (l : Layout) → OkLayout l → (valid : ℕ → ℕ → Bool) (count : ℕ → ℕ) (heap : Region) → Bounded heap → (n pos a step : ℕ)
      → list_rule l valid count heap pos t a step (read_list l t a step n) ≡ done → FitList count pos (read_list l t a step n) × NamesList valid (read_list l t a step n)
  unfolding list_rule read_list
  list-fit l o valid count heap k zero pos a step e = (tt, tt)
  list-fit l o valid count heap k (suc n) pos a step e =
      let u = answer-of (entry_rule l valid heap (env count pos) t a (read_entry l t a)) l.kind pos _ e in
      let x = entry-fit l o valid heap k (env count pos) a u.0 in
      let y = list-fit l o valid count heap k n (suc pos) (a + step) step u.1 in
      ((x.0, y.0), (x.1, y.1))

  pub first-both : (x y : Answer) → first x y ≡ done → (x.number ≡ 0) × (y ≡ done)
  first-both x y e = go x.number refl e
    where
      go : (n : ℕ) → x.number ≡ n → pick (eqb n 0) y x ≡ done → (x.number ≡ 0) × (y ≡ done)
      go zero p q = (p, q)
      go (suc n) p q =
          let r : x ≡ done = rw (eqb-suc-zero n) at q in
          let s : x.number ≡ 0 = number_of x done r in
          absurd (omega arith)

  -- a list's answer is done where its number is 0
  pub list-zero : (l : Layout) (valid : ℕ → ℕ → Bool) (count : ℕ → ℕ) (heap : Region) (pos a step : ℕ)
      (es : List (Entry l))
      → (list_rule l valid count heap pos t a step es).number ≡ 0
      → list_rule l valid count heap pos t a step es ≡ done
  unfolding list_rule
  list-zero l valid count heap pos a step [] e = refl
  list-zero l valid count heap pos a step (x ∷ es) e = go (entry_rule l valid heap (env count pos) t a x) e (list-zero l valid count heap (suc pos) (a + step) step es)
    where
      rest : Answer
      rest = list_rule l valid count heap (suc pos) t (a + step) step es

      go : (n : ℕ) → (pick (eqb n 0) rest (answer n l.kind pos)).number ≡ 0 → (rest.number ≡ 0 → rest ≡ done) → pick (eqb n 0) rest (answer n l.kind pos) ≡ done
      go zero p f = f p
      go (suc n) p f =
          let q : suc n ≡ 0 = rw (eqb-suc-zero n) at p in
          absurd (omega arith)

  pub body-fit : (ls : List Layout) → T (all_ok ls) → (valid : ℕ → ℕ → Bool) (count : ℕ → ℕ) (heap : Region) → Bounded heap → (c : ℕ)
      → body_rule valid count heap t c (read_body ls t c) ≡ done → FitBody count (read_body ls t c) × NamesBody valid (read_body ls t c)
  unfolding body_rule read_body
  body-fit [] o valid count heap k c e = (tt, tt)
  body-fit (l ∷ ls) o valid count heap k c e =
      let u = and_yes (ok_layout l) (all_ok ls) o in
      let es : List (Entry l) = read_list l t (num t c 4) (num t (c + 4) 2) (get_or t (c + 7) 0) in
      let x = first-both (list_rule l valid count heap 1 t (num t c 4) (num t (c + 4) 2) es) _ e in
      let y = list-fit l (ok-layout l u.0) valid count heap k (get_or t (c + 7) 0) 1 (num t c 4) (num t (c + 4) 2) (list-zero l valid count heap 1 (num t c 4) (num t (c + 4) 2) es x.0) in
      let z = body-fit ls u.1 valid count heap k (c + 8) x.1 in
      ((y.0, rw (length-read_list t l (get_or t (c + 7) 0) (num t c 4) (num t (c + 4) 2)) (b (c + 7)), z.0), (y.1, z.1))
