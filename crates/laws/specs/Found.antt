-- In an accepted table its meaning stands: the converse of `Standing`. Assumes nothing.
use Rattle.std.specs.Prelude.{◌≡◌, Bool, true, false, not, ◌&&◌, ◌||◌}
use Rattle.std.proofs.Math.Path.{refl}
use Rattle.std.proofs.Common.{sym, ap, ap₂, ◌∙◌, arith, get_or-drop, length-take-le}
use mathlib.Core.List.{List, [], ◌∷◌, ◌++◌}
use Prim.Native.Nat.{ℕ, zero, suc, ◌+◌, ◌*◌, ◌≤◌, ◌<◌}
use lib.ListN.{length, get_or, drop, length-drop, take-append-drop}
use lib.Dec.{T, leb, eqb, eqb→eq, leb→le, eqb-suc-zero, lit<}
use Rattle.std.proofs.Math.Facts.{and_yes, eqb_no}
use Rattle.table.specs.declared.Region.{Region}
use Rattle.table.specs.declared.Need.{Need}
use Rattle.table.specs.declared.Need.TheVariants.{Ignored, Optional, Required}
use Rattle.table.specs.Bytes.{le, num, odd, part, pick, val}
use Rattle.table.specs.Layout.{Entry, Env, Keep, Layout, Refs, Shape, Slots, base_of, env, gone, image, is_right, nest, none, plain, rec, region, unused, used, names_used}
use Rattle.table.specs.Objects.{read_body, read_entry, read_list, read_slots, ref6, under}
use Rattle.table.specs.Rules.{body_rule, cons_if, done, entry_rule, first_of, inside, is_sound, list_regions, list_rule, long_enough, reaches, ref_rule, refs_rule, used_rule}
use Rattle.laws.specs.Lawful.{all_ok, ok_layout, ok_refs}
use Rattle.laws.specs.ByteLaws.{Holds, held, holds-join}
use Rattle.laws.specs.SlotLaws.{nest-next, nest-own, ok-inside, plain-next}
use Rattle.laws.specs.ListLaws.{OkLayout, ok-layout}
use Rattle.laws.specs.Standing.{At, BodyAt, EntryAt, ListAt, PlainAt, RefTo}
use Rattle.laws.specs.Sound.{Bounded, answer-of, first-both, first-of, length-read_list, list-zero, num-bound, part-there, pick-of, reached}

pub le_val : (n : ℕ) (bs : List ℕ) → length bs ≡ n → ((i : ℕ) → get_or bs i 0 < 256) → le n (val bs) ≡ bs
le_val zero [] e b = refl
le_val zero (x ∷ xs) e b = absurd (omega arith)
le_val (suc n) [] e b = absurd (omega arith)
le_val (suc n) (x ∷ xs) e b =
    let h : x < 256 = b 0 in
    ap₂ (λ (y : ℕ) (ys : List ℕ). y ∷ ys) (omega arith)
    (ap (le n) (omega arith) ∙ le_val n xs (omega arith) (λ i. b (suc i)))

module _ (t : List ℕ) (b : (i : ℕ) → get_or t i 0 < 256) where
  part-holds : (a n : ℕ) → Holds t a (part t a n)
  part-holds a n = held (drop n (drop a t)) (sym (take-append-drop n (drop a t)))

  byte-part : (a n i : ℕ) → get_or (part t a n) i 0 < 256
  byte-part a n i = go (part t a n) (drop n (drop a t)) (take-append-drop n (drop a t)) i
    where
      go : (xs ys : List ℕ) → xs ++ ys ≡ drop a t → (i : ℕ) → get_or xs i 0 < 256
      go xs ys e i = small xs i (λ j k. rw (sym (lib.ListN.get_or-append xs ys 0 j k) ∙ ap (λ (l : List ℕ). get_or l j 0) e ∙ get_or-drop a t j 0) (b (a + j)))
        where
          small : (xs : List ℕ) (i : ℕ) → ((j : ℕ) → j < length xs → get_or xs j 0 < 256) → get_or xs i 0 < 256
          small [] i f = lit< tt
          small (x ∷ xs) zero f = f 0 (omega arith)
          small (x ∷ xs) (suc i) f = small xs i (λ j k. f (suc j) (omega arith))

  -- the number at a place, written out again, is what stands there
  num-holds : (a n : ℕ) → a + n ≤ length t → Holds t a (le n (num t a n))
  num-holds a n k =
      let l : length (part t a n) ≡ n = length-take-le n (drop a t) (simp length-drop (omega arith)) in
      rw (le_val n (part t a n) l (byte-part a n)) (part-holds a n)

  ref-holds : (r : ℕ) → r + 6 ≤ length t → Holds t r (ref6 (num t r 4) (num t (r + 4) 2))
  ref-holds r k = holds-join {xs = le 4 (num t r 4)} (num-holds r 4 (omega arith)) (num-holds (r + 4) 2 (omega arith))

  ref-to : (heap : Region) (r : ℕ) → r + 6 ≤ length t → T (reaches heap (num t r 4) (num t (r + 4) 2)) → RefTo t heap r (num t r 4) (num t (r + 4) 2)
  ref-to heap r k g =
      let off : ℕ = num t r 4 in
      let len : ℕ = num t (r + 4) 2 in
      let r₁ = and_yes (not (eqb off 0)) _ g in
      let r₂ = and_yes (not (eqb len 0)) _ r₁.1 in
      let r₃ = and_yes (leb heap.at off) _ r₂.1 in
      let n₁ = eqb_no {a = off} {b = 0} r₁.0 in
      let n₂ = eqb_no {a = len} {b = 0} r₂.0 in
      record {
        small = num-bound t b r 4;
        positive = omega arith;
        nonzero = omega arith;
        short = num-bound t b (r + 4) 2;
        from = leb→le heap.at off r₃.0;
        upto = leb→le (off + len) (heap.at + heap.len) r₃.1;
        ref = ref-holds r k;
      }

  -- an object that isn't empty
  full : (heap : Region) (r off len : ℕ) (x : List ℕ) → length x ≡ len → RefTo t heap r off len → Holds t off x → PlainAt t heap r x
  full heap r off len [] e u h = let n = u.nonzero in absurd (omega arith)
  full heap r off len (y ∷ ys) e u h = (off, rw e u, h)

  reached-at : (heap : Region) (r : ℕ) → Bounded t b heap → r + 6 ≤ length t → T (reaches heap (num t r 4) (num t (r + 4) 2)) → PlainAt t heap r (part t (num t r 4) (num t (r + 4) 2))
  reached-at heap r k l g =
      full heap r (num t r 4) (num t (r + 4) 2) (part t (num t r 4) (num t (r + 4) 2)) (part-there t b heap (num t r 4) (num t (r + 4) 2) k g).1 (ref-to heap r l g)
      (part-holds (num t r 4) (num t (r + 4) 2))

  absent-at : (heap : Region) (r off len : ℕ) → off ≡ 0 → len ≡ 0 → Holds t r (ref6 off len) → PlainAt t heap r (part t off len)
  absent-at heap r off len e f h = rw (e, f) (rw (e, f) at h)

  none-ref : (r : ℕ) → r + 6 ≤ length t → T (eqb (num t r 4) 0) → T (eqb (num t (r + 4) 2) 0) → Holds t r (ref6 0 0)
  none-ref r l x y = rw (eqb→eq (num t r 4) 0 x, eqb→eq (num t (r + 4) 2) 0 y) at (ref-holds r l)

  plain-found : (heap : Region) (n : Need) (r : ℕ) → Bounded t b heap → r + 6 ≤ length t → ref_rule heap n (num t r 4) (num t (r + 4) 2) ≡ 0
      → under n (Unit {0}) (PlainAt t heap r (under n [] (part t (num t r 4) (num t (r + 4) 2))))
  plain-found heap Ignored r k l e = tt
  plain-found heap Optional r k l e = go (eqb (num t r 4) 0 && eqb (num t (r + 4) 2) 0) refl e
    where
      off : ℕ
      off = num t r 4

      len : ℕ
      len = num t (r + 4) 2

      go : (c : Bool) → (eqb off 0 && eqb len 0) ≡ c → pick {X = ℕ} c 0 (pick (reaches heap off len) 0 11) ≡ 0 → PlainAt t heap r (part t off len)
      go true p q =
          let u = and_yes (eqb off 0) (eqb len 0) (rw p tt) in
          absent-at heap r off len (eqb→eq off 0 u.0) (eqb→eq len 0 u.1) (ref-holds r l)
      go false p q = reached-at heap r k l (pick-of (reaches heap off len) 11 (lit< tt) q)
  plain-found heap Required r k l e = reached-at heap r k l (pick-of (reaches heap (num t r 4) (num t (r + 4) 2)) 11 (lit< tt) e)

  -- the reference of an absent heap record
  gone-found : (heap : Region) (n : Need) (r : ℕ) → r + 6 ≤ length t → T (eqb (num t (r + 4) 2) 0) → ref_rule heap n (num t r 4) (num t (r + 4) 2) ≡ 0 → under n (Unit {0}) (Holds t r (ref6 0 0))
  gone-found heap Ignored r l z e = tt
  gone-found heap Optional r l z e = go (eqb (num t r 4) 0) refl e
    where
      off : ℕ
      off = num t r 4

      len : ℕ
      len = num t (r + 4) 2

      go : (c : Bool) → eqb off 0 ≡ c → pick {X = ℕ} (c && eqb len 0) 0 (pick (reaches heap off len) 0 11) ≡ 0 → Holds t r (ref6 0 0)
      go true p q = none-ref r l (rw p tt) z
      go false p q = absurd (lib.Dec.T_not (eqb len 0) (reached t b heap off len (pick-of (reaches heap off len) 11 (lit< tt) q)) z)
  gone-found heap Required r l z e =
      absurd (lib.Dec.T_not (eqb (num t (r + 4) 2) 0) (reached t b heap (num t r 4) (num t (r + 4) 2) (pick-of (reaches heap (num t r 4) (num t (r + 4) 2)) 11 (lit< tt) e)) z)

  present-found : (heap : Region) (n : Need) (r : ℕ)
      → T (not (eqb (num t (r + 4) 2) 0))
      → (n ≡ Ignored → ⊥)
      → ref_rule heap n (num t r 4) (num t (r + 4) 2) ≡ 0
      → T (reaches heap (num t r 4) (num t (r + 4) 2))
  present-found heap Ignored r z i e = absurd (i refl)
  present-found heap Optional r z i e = go (eqb (num t r 4) 0) e
    where
      off : ℕ
      off = num t r 4

      len : ℕ
      len = num t (r + 4) 2

      step : (x y : Bool) → T (not y) → pick {X = ℕ} (x && y) 0 (pick (reaches heap off len) 0 11) ≡ 0 → T (reaches heap off len)
      step true true n q = absurd n
      step true false n q = pick-of (reaches heap off len) 11 (lit< tt) q
      step false y n q = pick-of (reaches heap off len) 11 (lit< tt) q

      go : (c : Bool) → pick {X = ℕ} (c && eqb len 0) 0 (pick (reaches heap off len) 0 11) ≡ 0 → T (reaches heap off len)
      go c q = step c (eqb len 0) z q
  present-found heap Required r z i e = pick-of (reaches heap (num t r 4) (num t (r + 4) 2)) 11 (lit< tt) e

  -- a heap record, or none: n is the need, c says that the length is zero
  nest-found : {own rest : Refs} (p : ℕ) (need : List ℕ → Need) (shape : Shape) (img : List ℕ) (heap : Region) (a : ℕ)
      (os : Slots own) (ss : Slots rest) (n : Need) (c : Bool)
      → need img ≡ n → eqb (num t (a + p + 4) 2) 0 ≡ c → a + p + 6 ≤ length t → ref_rule heap n (num t (a + p) 4) (num t (a + p + 4) 2) ≡ 0
      → (T (not c) → (n ≡ Ignored → ⊥)
      → T (reaches heap (num t (a + p) 4) (num t (a + p + 4) 2))
      → (length shape.keep ≤ num t (a + p + 4) 2) × At t heap (num t (a + p) 4) (image shape.keep (drop (num t (a + p) 4) t)) os)
      → At t heap a img ss
      → At t heap a img (under n (gone {p = p} {need = need} {shape = shape} {own = own} ss)
      (pick c (gone {p = p} {need = need} {shape = shape} {own = own} ss)
      (rec {p = p} {need = need} {shape = shape} (image shape.keep (drop (num t (a + p) 4) t)) os ss)))
  nest-found p need shape img heap a os ss Ignored c e z l r f s = (rw e tt, s)
  nest-found p need shape img heap a os ss Optional true e z l r f s = (rw e (gone-found heap Optional (a + p) l (rw z tt) r), s)
  nest-found p need shape img heap a os ss Optional false e z l r f s =
      let i : T (not (eqb (num t (a + p + 4) 2) 0)) = rw z tt in
      let ne : Optional ≡ Ignored → ⊥ = λ q. let w : ◌≡◌ {A = ℕ} 0 1 = cc in omega arith in
      let g = present-found heap Optional (a + p) i ne r in
      let u = f tt ne g in
      ((num t (a + p) 4, num t (a + p + 4) 2, ref-to heap (a + p) l g, u.0, refl, u.1), s)
  nest-found p need shape img heap a os ss Required true e z l r f s = (rw e (gone-found heap Required (a + p) l (rw z tt) r), s)
  nest-found p need shape img heap a os ss Required false e z l r f s =
      let i : T (not (eqb (num t (a + p + 4) 2) 0)) = rw z tt in
      let ne : Required ≡ Ignored → ⊥ = λ q. let w : ◌≡◌ {A = ℕ} 0 1 = cc in omega arith in
      let g = present-found heap Required (a + p) i ne r in
      let u = f tt ne g in
      ((num t (a + p) 4, num t (a + p + 4) 2, ref-to heap (a + p) l g, u.0, refl, u.1), s)

  reached-room : (heap : Region) (off len : ℕ) → Bounded t b heap → T (reaches heap off len) → off + len ≤ length t
  reached-room heap off len k r =
      let r₂ = and_yes (not (eqb len 0)) _ (and_yes (not (eqb off 0)) _ r).1 in
      let r₃ = and_yes (leb heap.at off) _ r₂.1 in
      let a : heap.at ≤ off = leb→le heap.at off r₃.0 in
      let c : off + len ≤ heap.at + heap.len = leb→le (off + len) (heap.at + heap.len) r₃.1 in
      let n = eqb_no {a = len} {b = 0} r₂.0 in
      let d : heap.at + heap.len ≤ length t = k (omega arith) in
      omega arith

  inner-zero : (n : Need) (c : Bool) (x : ℕ) → under n 0 (pick c 0 x) ≡ 0 → T (not c) → (n ≡ Ignored → ⊥) → x ≡ 0
  inner-zero Ignored c x e z i = absurd (i refl)
  inner-zero Optional true x e z i = absurd z
  inner-zero Optional false x e z i = e
  inner-zero Required true x e z i = absurd z
  inner-zero Required false x e z i = e

  -- references that pass give objects that stand
  pub refs-found : (heap : Region) → Bounded t b heap → (ks : List Keep) (q a : ℕ) (v : Env) (img : List ℕ) (rs : Refs) → T (ok_refs q ks rs) → a + length ks ≤ length t
      → refs_rule heap v t a img rs ≡ 0 → At t heap a img (read_slots t a img rs)
  unfolding refs_rule read_slots
  refs-found heap k ks q a v img none o l e = tt
  refs-found heap k ks q a v img (plain p need content rest) o l e =
      let u = first-of _ _ e in
      let w = first-of _ _ u.0 in
      let o' = plain-next q p ks need content rest o in (
        plain-found heap (need img) (a + p) k (omega (arith, ok-inside q p ks rest o')) w.0,
        refs-found heap k ks (p + 6) a v img rest o' l u.1,
      )
  refs-found heap k ks q a v img (nest p need shape own rest) o l e =
      let u = first-of _ _ e in
      let w = first-of _ _ u.0 in
      let o' = nest-next q p ks need shape own rest o in
      let on = nest-own q p ks need shape own rest o in
      let off : ℕ = num t (a + p) 4 in
      let len : ℕ = num t (a + p + 4) 2 in
      nest-found p need shape img heap a (read_slots t off (image shape.keep (drop off t)) own) (read_slots t a img rest) (need img) (eqb len 0) refl refl
      (omega (arith, ok-inside q p ks rest o')) w.0
      (λ z i g.
      let x = first-of _ _ (inner-zero (need img) (eqb len 0) _ w.1 z i) in
      let y = and_yes (leb (length shape.keep) len) _ (pick-of (leb (length shape.keep) len && is_sound shape v img (image shape.keep (drop off t))) 12 (lit< tt) x.0) in
      let base : length shape.keep ≤ len = leb→le (length shape.keep) len y.0 in
      (base, refs-found heap k shape.keep 0 off v (image shape.keep (drop off t)) own on.refs (omega (arith, reached-room heap off len k g)) x.1))
      (refs-found heap k ks (p + 6) a v img rest o' l u.1)

  -- ---- entries and lists

  used-refs : (l : Layout) (valid : ℕ → ℕ → Bool) (heap : Region) (v : Env) (a : ℕ) (img : List ℕ)
      (ss : Slots l.refs)
      → used_rule l valid heap v t a img ss ≡ 0
      → refs_rule heap v t a img l.refs ≡ 0
  unfolding used_rule
  used-refs l valid heap v a img ss e =
      (first-of (refs_rule heap v t a img l.refs) (pick (names_used valid (l.indexes img ss)) 0 13)
      (first-of (pick (is_right l.shape v img) 0 10) (first_of (refs_rule heap v t a img l.refs) (pick (names_used valid (l.indexes img ss)) 0 13)) e).1).0

  pub entry_found : (l : Layout) → OkLayout l → (valid : ℕ → ℕ → Bool) (heap : Region) → Bounded t b heap → (v : Env) (a : ℕ) → a + base_of l ≤ length t
      → entry_rule l valid heap v t a (read_entry l t a) ≡ 0 → EntryAt t heap a (read_entry l t a)
  unfolding entry_rule read_entry
  entry_found l o valid heap k v a r e = go (odd (get_or (image l.shape.keep (drop a t)) l.shape.flags.at 0)) refl e
    where
      img : List ℕ
      img = image l.shape.keep (drop a t)

      ss : Slots l.refs
      ss = read_slots t a (image l.shape.keep (drop a t)) l.refs

      go : (c : Bool) → odd (get_or (image l.shape.keep (drop a t)) l.shape.flags.at 0) ≡ c → entry_rule l valid heap v t a (pick c (used img ss) unused) ≡ 0
          → EntryAt {l = l} t heap a (pick c (used img ss) unused)
      go true p q = (refl, refs-found heap k l.shape.keep 0 a v img l.refs o.refs_ok r (used-refs l valid heap v a img ss q))
      go false p q = rw p tt

  list-found : (l : Layout) → OkLayout l → (valid : ℕ → ℕ → Bool) (count : ℕ → ℕ) (heap : Region) → Bounded t b heap → (n pos a step : ℕ) → base_of l ≤ step → a + n * step ≤ length t
      → list_rule l valid count heap pos t a step (read_list l t a step n) ≡ done → ListAt t heap a step (read_list l t a step n)
  unfolding list_rule read_list
  list-found l o valid count heap k zero pos a step s r e = tt
  list-found l o valid count heap k (suc n) pos a step s r e =
      let u = answer-of (entry_rule l valid heap (env count pos) t a (read_entry l t a)) l.kind pos _ e in
      (entry_found l o valid heap k (env count pos) a (omega arith) u.0, list-found l o valid count heap k n (suc pos) (a + step) step s (omega arith) u.1)

  -- a list, empty or not
  list-maybe : (l : Layout) → OkLayout l → (valid : ℕ → ℕ → Bool) (count : ℕ → ℕ) (heap : Region) → Bounded t b heap → (lo hi n a step : ℕ) (rs : List Region) → hi ≤ length t
      → T (eqb n 0 || leb (base_of l) step) → T (inside lo hi (cons_if (not (eqb n 0)) (region a (n * step)) rs))
      → list_rule l valid count heap 1 t a step (read_list l t a step n) ≡ done → ListAt t heap a step (read_list l t a step n) × T (inside lo hi rs)
  unfolding read_list
  list-maybe l o valid count heap k lo hi zero a step rs h s i e = (tt, i)
  list-maybe l o valid count heap k lo hi (suc n) a step rs h s i e =
      let s' : T (leb (base_of l) step) = rw (eqb-suc-zero n) at s in
      let i' : T (inside lo hi (region a (suc n * step) ∷ rs)) = rw (eqb-suc-zero n) at i in
      let x = and_yes (leb lo a && leb (a + suc n * step) hi) (inside lo hi rs) i' in
      let y : a + suc n * step ≤ hi = leb→le (a + suc n * step) hi (and_yes (leb lo a) _ x.0).1 in
      (list-found l o valid count heap k (suc n) 1 a step (leb→le (base_of l) step s') (omega arith) e, x.1)

  pub body-found : (ls : List Layout) → T (all_ok ls) → (valid : ℕ → ℕ → Bool) (count : ℕ → ℕ) (heap : Region) → Bounded t b heap → (c lo hi : ℕ) (rs : List Region) → hi ≤ length t
      → T (long_enough ls t c) → T (inside lo hi (list_regions ls t c rs)) → body_rule valid count heap t c (read_body ls t c) ≡ done → BodyAt t heap c (read_body ls t c)
  unfolding body_rule read_body long_enough list_regions
  body-found [] o valid count heap k c lo hi rs h s i e = tt
  body-found (l ∷ ls) o valid count heap k c lo hi rs h s i e =
      let u = and_yes (ok_layout l) (all_ok ls) o in
      let n : ℕ = get_or t (c + 7) 0 in
      let es : List (Entry l) = read_list l t (num t c 4) (num t (c + 4) 2) n in
      let w = and_yes (eqb n 0 || leb (base_of l) (num t (c + 4) 2)) (long_enough ls t (c + 8)) s in
      let x = first-both t b (list_rule l valid count heap 1 t (num t c 4) (num t (c + 4) 2) es) _ e in
      let y = list-maybe l (ok-layout l u.0) valid count heap k lo hi n (num t c 4) (num t (c + 4) 2) (list_regions ls t (c + 8) rs) h w.0 i
      (list-zero t b l valid count heap 1 (num t c 4) (num t (c + 4) 2) es x.0) in
      (sym (length-read_list t l n (num t c 4) (num t (c + 4) 2)), y.0, body-found ls u.1 valid count heap k (c + 8) lo hi rs h w.1 y.1 x.1)
