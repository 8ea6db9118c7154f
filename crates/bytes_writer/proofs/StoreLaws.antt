-- Laws of stores as splices: a run of stores, a copy, one store behind another, and a middle part that was lent. Assumes nothing.
use mathlib.Core.Path.{◌≡◌, refl, sym, ap, ap₂, ◌∙◌}
use mathlib.Core.Bool.{Bool, true, false}
use mathlib.Core.List.{List, [], ◌∷◌, ◌++◌, append_assoc}
use Prim.Native.Nat.{ℕ, ◌+◌, ◌-◌, ◌≤◌, ◌<◌}
use native.Mathlib.Numerals.{add-one}
use native.Mathlib.Omega.{arith}
use lib.ListN.{length, get_or, take, drop, set, length-append}
use lib.Seq.{ext_get_or, set_split, sets-eq, paste, paste-zero, paste-suc, take-length, length-take-le, drop-drop, take_at}
use lib.Dec.{ltb}
use borrow.Author.Tests.{ltb-true, ltb-false}
use Rattle.table.specs.Bytes.{splice}
use Rattle.laws.specs.ByteLaws.{length-splice, drop-splice, splice-here, holds-get_d, get_d-splice-below, get_d-splice-above}

-- one store
pub put_one : (b : List ℕ) (at x : ℕ) → at < length b → set b at x ≡ splice b at (x ∷ [])
put_one b at x h = rw (add-one at) (set_split b at x h)

-- two stores side by side
pub put_two : (b : List ℕ) (at u v : ℕ) → at + 2 ≤ length b → set (set b at u) (at + 1) v ≡ splice b at (u ∷ v ∷ [])
put_two b at u v h = rw (add-one at) (sets-eq (u ∷ v ∷ []) b at h ∙ append_assoc (take at b) (u ∷ v ∷ []) (drop (at + 2) b))

-- a splice, and another right behind it
pub splice-join : (t : List ℕ) (a : ℕ) (xs ys : List ℕ) → a + length xs ≤ length t → splice (splice t a xs) (a + length xs) ys ≡ splice t a (xs ++ ys)
splice-join t a xs ys h =
    let f : length (take a t ++ xs) ≡ a + length xs = length-append (take a t) xs ∙ ap (λ (n : ℕ). n + length xs) (length-take-le a t (omega arith)) in
    let e : take (a + length xs) (splice t a xs) ≡ take a t ++ xs =
    ap (take (a + length xs)) (sym (append_assoc (take a t) xs (drop (a + length xs) t))) ∙ take_at (take a t ++ xs) (drop (a + length xs) t) (a + length xs) f in
    let n : a + length xs + length ys ≡ a + length (xs ++ ys) = omega (arith, length-append xs ys) in
    ap₂ (λ (p q : List ℕ). p ++ (ys ++ q)) e (drop-splice t a xs h (a + length xs + length ys) (omega arith) ∙ ap (λ (m : ℕ). drop m t) n)
    ∙ append_assoc (take a t) xs (ys ++ drop (a + length (xs ++ ys)) t)
    ∙ ap (λ (p : List ℕ). take a t ++ p) (sym (append_assoc xs ys (drop (a + length (xs ++ ys)) t)))

-- a copy that is done is a splice
pub paste-done : (d : List ℕ) (at : ℕ) (s : List ℕ) (n : ℕ) → n ≡ length s → paste d at s n ≡ splice d at s
paste-done d at s n e = rw (e, take-length) (append_assoc (take at d) s (drop (at + length s) d))

-- a turn of a loop that copies s, the list when it is done
pub paste_more : (d : List ℕ) (at : ℕ) (s : List ℕ) (i : ℕ) → at + length s ≤ length d → i < length s
    → set (paste d at s i) (at + i) (get_or s i 0) ≡ paste d at s (i + 1)
paste_more d at s i h k = rw (add-one i) (paste-suc d at s i 0 (omega arith) k)

-- a middle part that was lent comes back at ys
pub lent : (t : List ℕ) (a k : ℕ) (ys : List ℕ) → length ys ≡ k → take a t ++ (ys ++ drop k (drop a t)) ≡ splice t a ys
lent t a k ys e = ap (λ (p : List ℕ). take a t ++ (ys ++ p)) (drop-drop k a t ∙ ap (λ (m : ℕ). drop (a + m) t) (sym e))

-- a run of appends, one turn: what stood so far, and one more right behind it
pub splice-next : (t t₁ t₂ : List ℕ) (a b : ℕ) (xs ys : List ℕ) → a + length xs ≤ length t → b ≡ a + length xs → t₁ ≡ splice t a xs → t₂ ≡ splice t₁ b ys → t₂ ≡ splice t a (xs ++ ys)
splice-next t t₁ t₂ a b xs ys h k e₁ e₂ = e₂ ∙ ap₂ (λ (x : List ℕ) (m : ℕ). splice x m ys) e₁ k ∙ splice-join t a xs ys h

-- ---- a run of stores, any number of them, each right behind the one before: t is before them, z behind them

abbrev pub concat : List (List ℕ) → List ℕ
concat [] = []
concat (p ∷ ps) = p ++ concat ps

abbrev pub Chain : List ℕ → ℕ → List (List ℕ) → List ℕ → Type 0
Chain t a [] z = z ≡ t
Chain t a (p ∷ ps) z = (t₁ : List ℕ) × (b : ℕ) × (t₁ ≡ splice t b p) × (b ≡ a) × Chain t₁ (a + length p) ps z

pub splice-none : (t : List ℕ) (a : ℕ) → t ≡ splice t a []
splice-none t a = paste-zero t a [] ∙ append_assoc (take a t) [] (drop (a + 0) t)

pub chain-laid : (ps : List (List ℕ)) (t : List ℕ) (a : ℕ) (z : List ℕ) → a + length (concat ps) ≤ length t → Chain t a ps z → z ≡ splice t a (concat ps)
chain-laid [] t a z h e = e ∙ splice-none t a
chain-laid (p ∷ ps) t a z h (t₁, b, e, q, r) =
    let n = length-append p (concat ps) in
    let e' : t₁ ≡ splice t a p = e ∙ ap (λ (m : ℕ). splice t m p) q in
    let l : length t₁ ≡ length t = ap length e' ∙ length-splice t a p (omega arith) in
    splice-next t t₁ z a (a + length p) p (concat ps) (omega arith) refl e' (chain-laid ps t₁ (a + length p) z (omega arith) r)

-- ---- two splices apart from each other, in either order

module _ (t : List ℕ) (a : ℕ) (bs : List ℕ) (ok : a + length bs ≤ length t) where
  get_d-inside : (j : ℕ) → a ≤ j → j < a + length bs → get_or (splice t a bs) j 0 ≡ get_or bs (j - a) 0
  get_d-inside j lo hi =
      let e : j ≡ a + (j - a) = omega arith in
      ap (λ (i : ℕ). get_or (splice t a bs) i 0) e ∙ holds-get_d (splice t a bs) a bs (splice-here t a bs ok) (j - a) (omega arith)

module _ (t : List ℕ) (a : ℕ) (xs : List ℕ) (b : ℕ) (ys : List ℕ) (apart : a + length xs ≤ b) (inside : b + length ys ≤ length t) where
  abbrev late : List ℕ
  late = splice (splice t b ys) a xs

  abbrev soon : List ℕ
  soon = splice (splice t a xs) b ys

  length-b : length (splice t b ys) ≡ length t
  length-b = length-splice t b ys inside

  length-a : length (splice t a xs) ≡ length t
  length-a = length-splice t a xs (omega arith)

  ok_late : a + length xs ≤ length (splice t b ys)
  ok_late = omega (arith, length-b)

  ok_soon : b + length ys ≤ length (splice t a xs)
  ok_soon = omega (arith, length-a)

  at_byte : (j : ℕ) → get_or late j 0 ≡ get_or soon j 0
  at_byte j = by (ltb j a) (ltb j (a + length xs)) (ltb j b) (ltb j (b + length ys)) refl refl refl refl where
    by : (c d e f : Bool) → ltb j a ≡ c → ltb j (a + length xs) ≡ d → ltb j b ≡ e → ltb j (b + length ys) ≡ f → get_or late j 0 ≡ get_or soon j 0
    by true d e f p q r s =
        let h : j < a = ltb-true j a p in
        get_d-splice-below (splice t b ys) a xs ok_late j h ∙ get_d-splice-below t b ys inside j (omega arith)
        ∙ sym (get_d-splice-below (splice t a xs) b ys ok_soon j (omega arith) ∙ get_d-splice-below t a xs (omega arith) j h)
    by false true e f p q r s =
        let l : a ≤ j = ltb-false j a p in
        let h : j < a + length xs = ltb-true j (a + length xs) q in
        get_d-inside (splice t b ys) a xs ok_late j l h
        ∙ sym (get_d-splice-below (splice t a xs) b ys ok_soon j (omega arith) ∙ get_d-inside t a xs (omega arith) j l h)
    by false false true f p q r s =
        let l : a + length xs ≤ j = ltb-false j (a + length xs) q in
        let h : j < b = ltb-true j b r in
        get_d-splice-above (splice t b ys) a xs ok_late j l ∙ get_d-splice-below t b ys inside j h
        ∙ sym (get_d-splice-below (splice t a xs) b ys ok_soon j h ∙ get_d-splice-above t a xs (omega arith) j l)
    by false false false true p q r s =
        let l : b ≤ j = ltb-false j b r in
        let h : j < b + length ys = ltb-true j (b + length ys) s in
        get_d-splice-above (splice t b ys) a xs ok_late j (omega arith) ∙ get_d-inside t b ys inside j l h
        ∙ sym (get_d-inside (splice t a xs) b ys ok_soon j l h)
    by false false false false p q r s =
        let l : b + length ys ≤ j = ltb-false j (b + length ys) s in
        get_d-splice-above (splice t b ys) a xs ok_late j (omega arith) ∙ get_d-splice-above t b ys inside j l
        ∙ sym (get_d-splice-above (splice t a xs) b ys ok_soon j l ∙ get_d-splice-above t a xs (omega arith) j (omega arith))

  pub splice-swap : late ≡ soon
  splice-swap =
      ext_get_or 0 late soon (length-splice (splice t b ys) a xs ok_late ∙ length-b ∙ sym (length-splice (splice t a xs) b ys ok_soon ∙ length-a)) λ j h. at_byte j

-- ---- a splice inside another, and one over another

module _ (t : List ℕ) (d : ℕ) (y : List ℕ) (p : ℕ) (r : List ℕ) (inner : p + length r ≤ length y) (outer : d + length y ≤ length t) where
  abbrev stepwise : List ℕ
  stepwise = splice (splice t d y) (d + p) r

  abbrev at_once : List ℕ
  at_once = splice t d (splice y p r)

  long-y : length (splice y p r) ≡ length y
  long-y = length-splice y p r inner

  long-t : length (splice t d y) ≡ length t
  long-t = length-splice t d y outer

  ok₁ : d + p + length r ≤ length (splice t d y)
  ok₁ = omega (arith, long-t)

  ok₂ : d + length (splice y p r) ≤ length t
  ok₂ = omega (arith, long-y)

  byte_inside : (j : ℕ) → get_or stepwise j 0 ≡ get_or at_once j 0
  byte_inside j = by (ltb j d) (ltb j (d + p)) (ltb j (d + p + length r)) (ltb j (d + length y)) refl refl refl refl where
    by : (b c e f : Bool) → ltb j d ≡ b → ltb j (d + p) ≡ c → ltb j (d + p + length r) ≡ e → ltb j (d + length y) ≡ f → get_or stepwise j 0 ≡ get_or at_once j 0
    by true c e f k₁ k₂ k₃ k₄ =
        let h : j < d = ltb-true j d k₁ in
        get_d-splice-below (splice t d y) (d + p) r ok₁ j (omega arith) ∙ get_d-splice-below t d y outer j h ∙ sym (get_d-splice-below t d (splice y p r) ok₂ j h)
    by false true e f k₁ k₂ k₃ k₄ =
        let l : d ≤ j = ltb-false j d k₁ in
        let h : j < d + p = ltb-true j (d + p) k₂ in
        get_d-splice-below (splice t d y) (d + p) r ok₁ j h ∙ get_d-inside t d y outer j l (omega arith)
        ∙ sym (get_d-inside t d (splice y p r) ok₂ j l (omega (arith, long-y)) ∙ get_d-splice-below y p r inner (j - d) (omega arith))
    by false false true f k₁ k₂ k₃ k₄ =
        let l : d + p ≤ j = ltb-false j (d + p) k₂ in
        let h : j < d + p + length r = ltb-true j (d + p + length r) k₃ in
        let e : j - (d + p) ≡ j - d - p = omega arith in
        get_d-inside (splice t d y) (d + p) r ok₁ j l h ∙ ap (λ (i : ℕ). get_or r i 0) e
        ∙ sym (get_d-inside t d (splice y p r) ok₂ j (omega arith) (omega (arith, long-y)) ∙ get_d-inside y p r inner (j - d) (omega arith) (omega arith))
    by false false false true k₁ k₂ k₃ k₄ =
        let l : d + p + length r ≤ j = ltb-false j (d + p + length r) k₃ in
        let h : j < d + length y = ltb-true j (d + length y) k₄ in
        get_d-splice-above (splice t d y) (d + p) r ok₁ j l ∙ get_d-inside t d y outer j (omega arith) h
        ∙ sym (get_d-inside t d (splice y p r) ok₂ j (omega arith) (omega (arith, long-y)) ∙ get_d-splice-above y p r inner (j - d) (omega arith))
    by false false false false k₁ k₂ k₃ k₄ =
        let l : d + length y ≤ j = ltb-false j (d + length y) k₄ in
        get_d-splice-above (splice t d y) (d + p) r ok₁ j (omega arith) ∙ get_d-splice-above t d y outer j l
        ∙ sym (get_d-splice-above t d (splice y p r) ok₂ j (omega (arith, long-y)))

  pub splice-inside : stepwise ≡ at_once
  splice-inside = ext_get_or 0 stepwise at_once (length-splice (splice t d y) (d + p) r ok₁ ∙ long-t ∙ sym (length-splice t d (splice y p r) ok₂)) λ j h. byte_inside j

-- what is stored over goes
pub splice-over : (t : List ℕ) (a : ℕ) (ys zs : List ℕ) → a + length ys ≤ length zs → a + length ys ≤ length t → splice (splice t a ys) 0 zs ≡ splice t 0 zs
splice-over t a ys zs h k = ap (λ (x : List ℕ). zs ++ x) (drop-splice t a ys k (0 + length zs) (omega arith))
