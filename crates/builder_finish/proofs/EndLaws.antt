-- The end of a build. Assumes nothing.
use mathlib.Core.Path.{◌≡◌, refl, sym, ap, ap₂, ◌∙◌}
use mathlib.Core.Bool.{Bool, true, false}
use mathlib.Core.List.{List, [], ◌∷◌, ◌++◌, append_assoc}
use Prim.Native.Nat.{ℕ, ◌+◌, ◌-◌, ◌≤◌, ◌<◌}
use native.Mathlib.Omega.{arith}
use lib.ListN.{length, get_or, take, drop, length-take, length-drop, length-append, take-append-drop, get_or-eq_default}
use lib.Seq.{take_at, drop_at, drop-drop, length-take-le, get_or-take, get_or-drop, drop-cons}
use lib.Dec.{ltb, lit<}
use borrow.Author.Tests.{le-leb, lt-leb, eq-eqb, ne_eqb, ltb-true, ltb-false}
use Rattle.table.specs.declared.Answer.{Answer}
use Rattle.table.specs.declared.State.{State}
use Rattle.table.specs.Bytes.{part, num, le, checksum, splice}
use Rattle.table.specs.Rules.{answer}
use Rattle.table.specs.Numbers.{check}
use Rattle.table.specs.Builder.{finish, finished, moved, records_end, sealed, turn, waits}
use Rattle.laws.specs.ByteLaws.{length-splice}
use Rattle.laws.specs.Found.{le_val}
use Rattle.table.specs.FixedLayouts.{host}
use Rattle.builder_state.proofs.Laws.{host-place}

-- ---- finish

module _ (s : State) (b : List ℕ) where
  pub finish-early : waits s 7 ≡ false → (record { answer = answer 15 0 0; state = s } ≡ (finish s b).step) × (b ≡ (finish s b).buffer)
  unfolding finish
  finish-early e = (rw e refl, rw e refl)

  pub finish-short : waits s 7 ≡ true → length b < s.used → (record { answer = answer 14 0 0; state = s } ≡ (finish s b).step) × (b ≡ (finish s b).buffer)
  unfolding finish
  finish-short e l = let q = lt-leb s.used (length b) l in (rw (e, q) refl, rw (e, q) refl)

  module _ (e : waits s 7 ≡ true) (l : s.used ≤ length b) (a : Answer) (c : a ≡ check (take s.used (sealed s b))) where
    pub finish-refused : (a.number ≡ 0 → ⊥) → (record { answer = a; state = s } ≡ (finish s b).step) × (b ≡ (finish s b).buffer)
    unfolding finish
    finish-refused z = let q = le-leb s.used (length b) l in let n = ne_eqb a.number 0 z in (rw (e, q, sym c, n) refl, rw (e, q, sym c, n) refl)

    pub finish-done : a.number ≡ 0 → (record { answer = a; state = moved s (turn finished 0) s.used s.minor } ≡ (finish s b).step) × (sealed s b ≡ (finish s b).buffer)
    unfolding finish
    finish-done z = let q = le-leb s.used (length b) l in let n = eq-eqb a.number 0 z in (rw (e, q, sym c, n) refl, rw (e, q, sym c, n) refl)

-- ---- stores that are taken back

over : (t : List ℕ) (a : ℕ) (xs ys : List ℕ) → length xs ≡ length ys → a + length xs ≤ length t → splice (splice t a xs) a ys ≡ splice t a ys
over t a xs ys e k =
    let l : length (take a t) ≡ a = length-take-le a t (omega arith) in
    let f : take a (splice t a xs) ≡ take a t = take_at (take a t) (xs ++ drop (a + length xs) t) a l in
    let n : length (take a t ++ xs) ≡ a + length ys = length-append (take a t) xs ∙ omega (arith, l) in
    let g : drop (a + length ys) (splice t a xs) ≡ drop (a + length ys) t =
    ap (drop (a + length ys)) (sym (append_assoc (take a t) xs (drop (a + length xs) t)))
    ∙ drop_at (take a t ++ xs) (drop (a + length xs) t) (a + length ys) n
    ∙ ap (λ (m : ℕ). drop (a + m) t) e in
    ap₂ (λ (u v : List ℕ). u ++ (ys ++ v)) f g

same : (t : List ℕ) (a n : ℕ) → a + n ≤ length t → splice t a (part t a n) ≡ t
same t a n k =
    let l : length (part t a n) ≡ n = length-take-le n (drop a t) (rw length-drop (omega arith)) in
    let d : drop (a + length (part t a n)) t ≡ drop n (drop a t) = ap (λ (m : ℕ). drop (a + m) t) l ∙ sym (drop-drop n a t) in
    ap (λ (u : List ℕ). take a t ++ (part t a n ++ u)) d ∙ ap (λ (u : List ℕ). take a t ++ u) (take-append-drop n (drop a t)) ∙ take-append-drop a t

put_back : (t : List ℕ) (a : ℕ) (xs ys : List ℕ) → ys ≡ part t a (length xs) → a + length xs ≤ length t → splice (splice t a xs) a ys ≡ t
put_back t a xs ys e k =
    let l : length ys ≡ length xs = ap length e ∙ length-take-le (length xs) (drop a t) (rw length-drop (omega arith)) in
    over t a xs ys (sym l) k ∙ ap (splice t a) e ∙ same t a (length xs) k

small-part : (t : List ℕ) (a n : ℕ) → ((i : ℕ) → get_or t i 0 < 256) → (i : ℕ) → get_or (part t a n) i 0 < 256
small-part t a n b i = go (ltb i n) refl
  where
    go : (c : Bool) → ltb i n ≡ c → get_or (part t a n) i 0 < 256
    go true q = rw (get_or-take n (drop a t) i 0 (ltb-true i n q), get_or-drop a t i 0) (b (a + i))
    go false q = rw (get_or-eq_default {A = ℕ} (part t a n) 0 {n = i} (omega (arith, ltb-false i n q, length-take n (drop a t)))) (lit< tt)

le-part : (t : List ℕ) (a n : ℕ) → ((i : ℕ) → get_or t i 0 < 256) → a + n ≤ length t → le n (num t a n) ≡ part t a n
le-part t a n b k =
    let l : length (part t a n) ≡ n = length-take-le n (drop a t) (rw length-drop (omega arith)) in
    ap (λ (m : ℕ). le m (num t a n)) (sym l) ∙ le_val (length (part t a n)) (part t a n) refl (small-part t a n b)

-- ---- the finished bytes

one : (t : List ℕ) (a : ℕ) → a < length t → part t a 1 ≡ get_or t a 0 ∷ []
one t a k = ap (take 1) (drop-cons t a 0 k)

-- a byte that is put back
byte-back : (t : List ℕ) (a v x : ℕ) → x ≡ get_or t a 0 → a < length t → splice (splice t a (v ∷ [])) a (x ∷ []) ≡ t
byte-back t a v x e k = put_back t a (v ∷ []) (x ∷ []) (ap (λ (m : ℕ). m ∷ []) e ∙ sym (one t a k)) (omega arith)

-- a number of four bytes that is put back
number-back : (t : List ℕ) (a v x : ℕ) → ((i : ℕ) → get_or t i 0 < 256) → x ≡ num t a 4 → a + 4 ≤ length t → splice (splice t a (le 4 v)) a (le 4 x) ≡ t
number-back t a v x b e k = put_back t a (le 4 v) (le 4 x) (ap (le 4) e ∙ le-part t a 4 b k) (omega arith)

module _ (s : State) (b t₀ t₁ t₂ t₃ t₄ : List ℕ) (n : ℕ) (en : n ≡ records_end s) (e₀ : t₀ ≡ splice b 50 (s.minor ∷ [])) (e₁ : t₁ ≡ splice t₀ 40 (le 4 (s.used - n)))
    (e₂ : t₂ ≡ splice t₁ 4 (le 4 s.used)) (e₃ : t₃ ≡ splice t₂ 9 (0 ∷ [])) (e₄ : t₄ ≡ splice t₃ 9 (checksum (take s.used t₃) ∷ [])) where
  pub sealed-is : t₄ ≡ sealed s b
  unfolding sealed
  sealed-is =
      let f₁ : t₁ ≡ splice (splice b 50 (s.minor ∷ [])) 40 (le 4 (s.used - records_end s)) = e₁ ∙ ap₂ (λ (y : List ℕ) (m : ℕ). splice y 40 (le 4 (s.used - m))) e₀ en in
      let f₃ : t₃ ≡ splice (splice (splice (splice b 50 (s.minor ∷ [])) 40 (le 4 (s.used - records_end s))) 4 (le 4 s.used)) 9 (0 ∷ []) =
      e₃ ∙ ap (λ (y : List ℕ). splice y 9 (0 ∷ [])) (e₂ ∙ ap (λ (y : List ℕ). splice y 4 (le 4 s.used)) f₁) in
      e₄ ∙ ap (λ (y : List ℕ). splice y 9 (checksum (take s.used y) ∷ [])) f₃

  -- put back in the other order
  pub all_back : 160 ≤ length b → ((i : ℕ) → get_or t₀ i 0 < 256) → ((i : ℕ) → get_or t₁ i 0 < 256) → (t₅ t₆ t₇ t₈ : List ℕ) (x y z w : ℕ)
      → x ≡ get_or t₂ 9 0 → y ≡ num t₁ 4 4 → z ≡ num t₀ 40 4 → w ≡ get_or b 50 0
      → t₅ ≡ splice t₄ 9 (x ∷ []) → t₆ ≡ splice t₅ 4 (le 4 y) → t₇ ≡ splice t₆ 40 (le 4 z) → t₈ ≡ splice t₇ 50 (w ∷ []) → t₈ ≡ b
  all_back k bs bs₁ t₅ t₆ t₇ t₈ x y z w ex ey ez ew e₅ e₆ e₇ e₈ =
      let l₀ : length t₀ ≡ length b = ap length e₀ ∙ length-splice b 50 (s.minor ∷ []) (omega arith) in
      let l₁ : length t₁ ≡ length b = ap length e₁ ∙ length-splice t₀ 40 (le 4 (s.used - n)) (omega arith) ∙ l₀ in
      let l₂ : length t₂ ≡ length b = ap length e₂ ∙ length-splice t₁ 4 (le 4 s.used) (omega arith) ∙ l₁ in
      let l₃ : length t₃ ≡ length b = ap length e₃ ∙ length-splice t₂ 9 (0 ∷ []) (omega arith) ∙ l₂ in
      let c : ℕ = checksum (take s.used t₃) in
      let g₅ : t₅ ≡ t₂ =
      e₅ ∙ ap (λ (u : List ℕ). splice u 9 (x ∷ [])) e₄
      ∙ over t₃ 9 (c ∷ []) (x ∷ []) refl (omega arith)
      ∙ ap (λ (u : List ℕ). splice u 9 (x ∷ [])) e₃
      ∙ byte-back t₂ 9 0 x ex (omega arith) in
      let g₆ : t₆ ≡ t₁ = e₆ ∙ ap (λ (u : List ℕ). splice u 4 (le 4 y)) (g₅ ∙ e₂) ∙ number-back t₁ 4 s.used y bs₁ ey (omega arith) in
      let g₇ : t₇ ≡ t₀ = e₇ ∙ ap (λ (u : List ℕ). splice u 40 (le 4 z)) (g₆ ∙ e₁) ∙ number-back t₀ 40 (s.used - n) z bs ez (omega arith) in
      e₈ ∙ ap (λ (u : List ℕ). splice u 50 (w ∷ [])) (g₇ ∙ e₀) ∙ byte-back b 50 s.minor w ew (omega arith)

-- where records end
pub ends-from : (s : State) → 160 ≤ records_end s
unfolding host
ends-from s = (host-place s).1
