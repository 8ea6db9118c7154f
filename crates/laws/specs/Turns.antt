-- Whose turn it is: counts and places by lists, the first untold position, and what is still untold after it. Assumes nothing.
use Rattle.std.specs.Prelude.{◌≡◌, refl, Bool, true, false, not, ◌&&◌, List, [], ◌∷◌, ◌++◌, ℕ, zero, suc, ◌+◌, ◌-◌, ◌*◌, ◌≤◌, length, take, drop, set, replicate, T, ltb, eqb}
use Rattle.std.proofs.Common.{sym, ap, ◌∙◌, subst, arith, length-append, take-append-drop, length-take-le, drop-drop, drop_at, eq-eqb, eqb-true, lt-ltb, le-ltb}
use Rattle.std.proofs.Math.Nat.{sub-zero}
use Rattle.std.proofs.lemmas.List.{length-replicate, set_split}
use Rattle.std.proofs.Math.Facts.{and_yes}
use Rattle.table.specs.Bytes.{pick}
use Rattle.table.specs.Layout.{Body, Entry, Layout, base_of, env, more, stop, unused}
use Rattle.table.specs.Objects.{count_in, span_body}
use Rattle.table.specs.Builder.{Turn, count_of, end_of, finishing, first_turn, turn, turn_after}
use Rattle.laws.specs.Lawful.{FitBody, FitEntry}
use Rattle.laws.specs.Blank.{AllBlank, BlankFrom, Put, fit-left, fit-put, here, lengths_of, there}

-- ---- counts and places

pub count-is : {ls : List Layout} (b : Body ls) (k : ℕ) → count_of ls (lengths_of b) k ≡ count_in b k
unfolding count_in
count-is stop k = refl
count-is (more {l = l} es rest) k = ap (λ (n : ℕ). pick (eqb k l.kind) (length es) n) (count-is rest k)

pub end_is : {ls : List Layout} (a : ℕ) (b : Body ls) → end_of a ls (lengths_of b) ≡ a + span_body b
unfolding span_body
end_is a stop = omega arith
end_is a (more {l = l} es rest) = end_is (a + length es * base_of l) rest ∙ omega arith

-- ---- the first untold position, filled

-- a list of which nothing is told from position p on
module _ {l : Layout} (es : List (Entry l)) (p : ℕ) (from : 1 ≤ p) (upto : p ≤ length es) (blank : drop (p - 1) es ≡ replicate (length es - (p - 1)) unused) where
  rest-blank : drop (p - 1) es ≡ unused ∷ replicate (length es - p) unused
  rest-blank =
      let e : length es - (p - 1) ≡ suc (length es - p) = omega arith in
      blank ∙ ap (λ (i : ℕ). replicate i unused) e

  split-here : es ≡ take (p - 1) es ++ (unused ∷ replicate (length es - p) unused)
  split-here = sym (take-append-drop (p - 1) es) ∙ ap (λ (r : List (Entry l)). take (p - 1) es ++ r) rest-blank

  place_here : p ≡ suc (length (take (p - 1) es))
  place_here =
      let len : length (take (p - 1) es) ≡ p - 1 = length-take-le (p - 1) es (omega arith) in
      omega arith

  -- filled
  pub put-here : {ls : List Layout} (x : Entry l) (rest : Body ls) → AllBlank rest → Put p x (l ∷ ls) (more es rest) (more (set es (p - 1) x) rest)
  put-here x rest k =
      let q : ℕ = p - 1 in
      let e : q + 1 ≡ suc q = omega arith in
      let d : drop (suc q) es ≡ replicate (length es - p) unused = ap (λ (i : ℕ). drop i es) (sym e) ∙ sym (drop-drop 1 q es) ∙ ap (drop 1) rest-blank in
      here (take q es) (length es - p) place_here k split-here (set_split es q x (omega arith) ∙ ap (λ (r : List (Entry l)). take q es ++ (x ∷ r)) d)

  -- left unused
  put-none : {ls : List Layout} (rest : Body ls) → AllBlank rest → Put {l = l} p unused (l ∷ ls) (more es rest) (more es rest)
  put-none rest k = here (take (p - 1) es) (length es - p) place_here k split-here split-here

pub fit-body-put : {l : Layout} (count : ℕ → ℕ) (p : ℕ) (x : Entry l) {ls : List Layout} (b b' : Body ls) → FitBody count b → FitEntry (env count p) x → Put p x ls b b' → FitBody count b'
fit-body-put count p x b b' f g (here es n e k q r) =
    let l₁ : length (es ++ (x ∷ replicate n unused)) ≡ length (es ++ (unused ∷ replicate n unused)) = length-append es
    (x ∷ replicate n unused) ∙ sym (length-append es (unused ∷ replicate n unused)) in (
      rw r (fit-put count 1 es x n (fit-left count 1 es (unused ∷ replicate n unused) (rw q at f.0))
          (subst (λ (i : ℕ). FitEntry (env count i) x) (e ∙ omega arith) g)),
      rw (r, l₁) (rw q at f.1),
      f.2,
    )
fit-body-put count p x b b' f g (there {b = c} {b' = c'} es d u) = (f.0, f.1, fit-body-put count p x c c' f.2 g u)

-- ---- what is untold after it

-- k is no kind of these lists, nor the turn to finish
abbrev pub missing : ℕ → List Layout → Bool
missing k [] = not (eqb finishing k)
missing k (l ∷ ls) = not (eqb l.kind k) && missing k ls

abbrev pub distinct : List Layout → Bool
distinct [] = true
distinct (l ∷ ls) = missing l.kind ls && distinct ls

pub off : (c : Bool) → T (not c) → c ≡ false
off true t = absurd t
off false t = refl

end-other : (k : ℕ) (ls : List Layout) → T (missing k ls) → eqb finishing k ≡ false
end-other k [] t = off (eqb finishing k) t
end-other k (l ∷ ls) t = end-other k ls (and_yes (not (eqb l.kind k)) _ t).1

pick_other : (c : Bool) (x y : Turn) (k : ℕ) → eqb x.kind k ≡ false → eqb y.kind k ≡ false → eqb (pick c x y).kind k ≡ false
pick_other true x y k e f = e
pick_other false x y k e f = f

pub first-other : (k : ℕ) (ls : List Layout) (cs : List ℕ) → T (missing k ls) → eqb (first_turn ls cs).kind k ≡ false
first-other k [] cs t = end-other k [] t
first-other k (l ∷ ls) [] t = end-other k (l ∷ ls) t
first-other k (l ∷ ls) (c ∷ cs) t =
    let u = and_yes (not (eqb l.kind k)) (missing k ls) t in
    pick_other (eqb c 0) (first_turn ls cs) (turn l.kind 1) k (first-other k ls cs u.1) (off (eqb l.kind k) u.0)

pub after-other : (k n j : ℕ) (ls : List Layout) (cs : List ℕ) → eqb j k ≡ false → T (missing k ls) → eqb (turn_after j n ls cs).kind k ≡ false
after-other k n j [] cs e t = end-other k [] t
after-other k n j (l ∷ ls) [] e t = end-other k (l ∷ ls) t
after-other k n j (l ∷ ls) (c ∷ cs) e t =
    let u = and_yes (not (eqb l.kind k)) (missing k ls) t in
    pick_other (eqb j l.kind) (pick (ltb n c) (turn j (n + 1)) (first_turn ls cs)) (turn_after j n ls cs) k
    (pick_other (ltb n c) (turn j (n + 1)) (first_turn ls cs) k e (first-other k ls cs u.1))
    (after-other k n j ls cs e u.1)

-- a turn behind this list
skip-blank : {l : Layout} {ls : List Layout} (es : List (Entry l)) (rest : Body ls) (x : Turn)
    → eqb x.kind l.kind ≡ false
    → BlankFrom x.kind x.position rest
    → BlankFrom x.kind x.position (more es rest)
skip-blank es rest x e k = rw e k

-- a turn in it
at-blank : {l : Layout} {ls : List Layout} (es : List (Entry l)) (rest : Body ls) (p : ℕ)
    → drop (p - 1) es ≡ replicate (length es - (p - 1)) unused
    → AllBlank rest
    → BlankFrom l.kind p (more es rest)
at-blank {l} es rest p d k = rw (eq-eqb l.kind l.kind refl) (d, k)

pub first-blank : {ls : List Layout} (b : Body ls) → T (distinct ls) → AllBlank b → BlankFrom (first_turn ls (lengths_of b)).kind (first_turn ls (lengths_of b)).position b
first-blank stop t k = tt
first-blank (more {l = l} {ls = ls} es rest) t k =
    let u = and_yes (missing l.kind ls) (distinct ls) t in
    go (eqb (length es) 0) (first-other l.kind ls (lengths_of rest) u.0) (first-blank rest u.1 k.1)
  where
    go : (c : Bool) → eqb (first_turn ls (lengths_of rest)).kind l.kind ≡ false → BlankFrom (first_turn ls (lengths_of rest)).kind (first_turn ls (lengths_of rest)).position rest
        → BlankFrom (pick c (first_turn ls (lengths_of rest)) (turn l.kind 1)).kind (pick c (first_turn ls (lengths_of rest)) (turn l.kind 1)).position (more es rest)
    go true e b = skip-blank es rest (first_turn ls (lengths_of rest)) e b
    go false e b = at-blank es rest 1 (rw sub-zero k.0) k.1

here-next : {l : Layout} {ls : List Layout} (x : Entry l) (es : List (Entry l)) (n : ℕ) (rest : Body ls) → T (distinct (l ∷ ls)) → AllBlank rest
    → BlankFrom (pick (ltb (suc (length es)) (length (es ++ (x ∷ replicate n unused)))) (turn l.kind (suc (length es) + 1)) (first_turn ls (lengths_of rest))).kind
    (pick (ltb (suc (length es)) (length (es ++ (x ∷ replicate n unused)))) (turn l.kind (suc (length es) + 1)) (first_turn ls (lengths_of rest))).position
    (more (es ++ (x ∷ replicate n unused)) rest)
here-next {l} {ls} x es zero rest t k =
    let u = and_yes (missing l.kind ls) (distinct ls) t in
    let e : length (es ++ (x ∷ [])) ≡ suc (length es) = length-append es (x ∷ []) ∙ omega arith in
    rw (le-ltb (suc (length es)) (length (es ++ (x ∷ []))) (omega arith))
    (skip-blank (es ++ (x ∷ [])) rest (first_turn ls (lengths_of rest)) (first-other l.kind ls (lengths_of rest) u.0) (first-blank rest u.1 k))
here-next {l} {ls} x es (suc n) rest t k =
    let us : List (Entry l) = replicate (suc n) unused in
    let c : length us ≡ suc n = length-replicate (suc n) unused in
    let e : length (es ++ (x ∷ us)) ≡ length es + suc (suc n) = length-append es (x ∷ us) ∙ omega arith in
    let d : suc (length es) + 1 - 1 ≡ length es + 1 = omega arith in
    let f : length (es ++ (x ∷ us)) - (length es + 1) ≡ suc n = omega arith in
    let g : drop (length es + 1) (es ++ (x ∷ us)) ≡ us = sym (drop-drop 1 (length es) (es ++ (x ∷ us))) ∙ ap (drop 1) (drop_at es (x ∷ us) (length es) refl) in
    rw (lt-ltb (suc (length es)) (length (es ++ (x ∷ us))) (omega arith)) (at-blank (es ++ (x ∷ us)) rest (suc (length es) + 1) (rw (d, f) g) k)

pub blank-next : {l : Layout} (p : ℕ) (x : Entry l) {ls : List Layout} (b b' : Body ls) → T (distinct ls) → Put p x ls b b'
    → BlankFrom (turn_after l.kind p ls (lengths_of b)).kind (turn_after l.kind p ls (lengths_of b)).position b'
blank-next {l} p x b b' t (here {rest = rest} es n e k q r) =
    let l₁ : length (es ++ (unused ∷ replicate n unused)) ≡ length (es ++ (x ∷ replicate n unused)) = length-append es
    (unused ∷ replicate n unused) ∙ sym (length-append es (x ∷ replicate n unused)) in
    rw (eq-eqb l.kind l.kind refl, e, q, r, l₁) (here-next x es n rest t k)
blank-next {l} p x b b' t (there {l' = l'} {ls = ks} {b = c} {b' = c'} es d u) =
    let w = and_yes (missing l'.kind ks) (distinct ks) t in
    rw d (skip-blank es c' (turn_after l.kind p ks (lengths_of c)) (after-other l'.kind p l.kind ks (lengths_of c) d w.0) (blank-next p x c c' w.1 u))

-- a position left unused
pub blank-leave : {ls : List Layout} (k p : ℕ) (b : Body ls) → T (distinct ls) → 1 ≤ p → p ≤ count_of ls (lengths_of b) k → BlankFrom k p b
    → BlankFrom (turn_after k p ls (lengths_of b)).kind (turn_after k p ls (lengths_of b)).position b
blank-leave k p stop t f u d = tt
blank-leave k p (more {l = l} {ls = ls} es rest) t f u d =
    let w = and_yes (missing l.kind ls) (distinct ls) t in
    go (eqb k l.kind) refl u d (λ a b. blank-leave k p rest w.1 f a b)
  where
    go : (c : Bool)
        → eqb k l.kind ≡ c
        → p ≤ pick c (length es) (count_of ls (lengths_of rest) k)
        → pick c ((drop (p - 1) es ≡ replicate (length es - (p - 1)) unused) × AllBlank rest) (BlankFrom k p rest)
        → (p ≤ count_of ls (lengths_of rest) k
        → BlankFrom k p rest
        → BlankFrom (turn_after k p ls (lengths_of rest)).kind (turn_after k p ls (lengths_of rest)).position rest)
        → BlankFrom (turn_after k p (l ∷ ls) (lengths_of (more es rest))).kind
        (turn_after k p (l ∷ ls) (lengths_of (more es rest))).position (more es rest)
    go true e a b r =
        let after : ℕ → Turn = λ j. turn_after j p (l ∷ ls) (lengths_of (more es rest)) in
        subst (λ (j : ℕ). BlankFrom (after j).kind (after j).position (more es rest)) (sym (eqb-true k l.kind e))
        (blank-next p unused (more es rest) (more es rest) t (put-none es p f a b.0 rest b.1))
    go false e a b r =
        rw e (skip-blank es rest (turn_after k p ls (lengths_of rest)) (after-other l.kind p k ls (lengths_of rest) e (and_yes (missing l.kind ls) (distinct ls) t).0) (r a b))
