-- 19 found from the heap records alone: one that shares a byte with a site before it or behind it. Assumes nothing.
use Rattle.std.specs.Prelude.{◌≡◌, refl, Bool, true, false, not, ◌&&◌, ◌||◌, List, [], ◌∷◌, ◌++◌, ℕ, ◌+◌, leb}
use Rattle.std.proofs.Common.{sym, ap, ap₂, ◌∙◌}
use Rattle.table.specs.Layout.{region}
use Rattle.table.specs.Rules.{apart}
use Rattle.table.specs.Closing.{Site, clashes, overlaps, span_of}

-- one of the sites shares a byte with the n bytes at o
abbrev pub hits : ℕ → ℕ → List Site → Bool
hits o n [] = false
hits o n (y ∷ ys) = not (apart (region o n) (span_of y)) || hits o n ys

abbrev pub hit_by : Site → List Site → Bool
hit_by x ys = hits x.off x.len ys

-- one of the heap records among ss, before which stand the sites pre
abbrev pub whole_hits : List Site → List Site → Bool
whole_hits pre [] = false
whole_hits pre (x ∷ ss) = (x.whole && (hit_by x pre || hit_by x ss)) || whole_hits (pre ++ (x ∷ [])) ss

-- a heap record of ss meets one of pre
abbrev meets : List Site → List Site → Bool
meets pre [] = false
meets pre (y ∷ ys) = (y.whole && hit_by y pre) || meets pre ys

or-one : (c : Bool) → (c || true) ≡ true
or-one true = refl
or-one false = refl

or-none : (c : Bool) → (c || false) ≡ c
or-none true = refl
or-none false = refl

pub hits-append : (o n : ℕ) (xs ys : List Site) → hits o n (xs ++ ys) ≡ (hits o n xs || hits o n ys)
hits-append o n [] ys = refl
hits-append o n (x ∷ xs) ys = ap (λ (c : Bool). not (apart (region o n) (span_of x)) || c) (hits-append o n xs ys) ∙ go (not (apart (region o n) (span_of x)))
  where
    go : (c : Bool) → (c || (hits o n xs || hits o n ys)) ≡ ((c || hits o n xs) || hits o n ys)
    go true = refl
    go false = refl

apart-turned : (x y : Site) → apart (span_of x) (span_of y) ≡ apart (span_of y) (span_of x)
apart-turned x y = go (leb (x.off + x.len) y.off) (leb (y.off + y.len) x.off)
  where
    go : (c d : Bool) → (c || d) ≡ (d || c)
    go true true = refl
    go true false = refl
    go false true = refl
    go false false = refl

meets-append : (pre xs ss : List Site) → meets (pre ++ xs) ss ≡ (meets pre ss || meets xs ss)
meets-append pre xs [] = refl
meets-append pre xs (y ∷ ys) =
    ap₂ (λ (c d : Bool). (y.whole && c) || d) (hits-append y.off y.len pre xs) (meets-append pre xs ys) ∙ go y.whole (hit_by y pre) (hit_by y xs) (meets pre ys) (meets xs ys)
  where
    go : (w h k m n : Bool) → ((w && (h || k)) || (m || n)) ≡ (((w && h) || m) || ((w && k) || n))
    go false h k m n = refl
    go true true k m n = refl
    go true false true m n = sym (or-one m)
    go true false false m n = refl

-- a site and those behind it: it is a heap record, or one of them is
clashes-are : (x : Site) (ss : List Site) → clashes x ss ≡ ((x.whole && hit_by x ss) || meets (x ∷ []) ss)
clashes-are x [] = go x.whole
  where
    go : (w : Bool) → false ≡ ((w && false) || false)
    go true = refl
    go false = refl
clashes-are x (y ∷ ys) =
    ap (λ (c : Bool). ((x.whole || y.whole) && not (apart (span_of x) (span_of y))) || c) (clashes-are x ys)
    ∙ go x.whole y.whole (apart (span_of x) (span_of y)) (hit_by x ys) (meets (x ∷ []) ys)
    ∙ ap (λ (c : Bool). (x.whole && (not (apart (span_of x) (span_of y)) || hit_by x ys)) || ((y.whole && (not c || false)) || meets (x ∷ []) ys)) (apart-turned x y)
  where
    go : (w v a h m : Bool) → (((w || v) && not a) || ((w && h) || m)) ≡ ((w && (not a || h)) || ((v && (not a || false)) || m))
    go true true true true m = refl
    go true true true false m = refl
    go true true false h m = refl
    go true false true true m = refl
    go true false true false m = refl
    go true false false h m = refl
    go false true true h m = refl
    go false true false h m = refl
    go false false a h m = refl

whole_from : (pre ss : List Site) → whole_hits pre ss ≡ (overlaps ss || meets pre ss)
whole_from pre [] = refl
whole_from pre (x ∷ ss) =
    ap (λ (c : Bool). (x.whole && (hit_by x pre || hit_by x ss)) || c)
    (whole_from (pre ++ (x ∷ [])) ss ∙ ap (λ (c : Bool). overlaps ss || c) (meets-append pre (x ∷ []) ss))
    ∙ go x.whole (hit_by x pre) (hit_by x ss) (overlaps ss) (meets pre ss) (meets (x ∷ []) ss)
    ∙ ap (λ (c : Bool). (c || overlaps ss) || ((x.whole && hit_by x pre) || meets pre ss)) (sym (clashes-are x ss))
  where
    none : (o m n : Bool) → (o || (m || n)) ≡ ((n || o) || m)
    none true m n = sym (ap (λ (c : Bool). c || m) (or-one n))
    none false true n = sym (or-one (n || false))
    none false false n = sym (or-none (n || false) ∙ or-none n)

    go : (w p h o m n : Bool) → ((w && (p || h)) || (o || (m || n))) ≡ ((((w && h) || n) || o) || ((w && p) || m))
    go false p h o m n = none o m n
    go true true h o m n = sym (or-one ((h || n) || o))
    go true false true o m n = refl
    go true false false o m n = none o m n

pub whole-hits : (ss : List Site) → whole_hits [] ss ≡ overlaps ss
whole-hits ss = whole_from [] ss ∙ ap (λ (c : Bool). overlaps ss || c) (none ss) ∙ or-none (overlaps ss)
  where
    none : (xs : List Site) → meets [] xs ≡ false
    none [] = refl
    none (y ∷ ys) = ap (λ (c : Bool). (y.whole && false) || c) (none ys) ∙ go y.whole
      where
        go : (w : Bool) → ((w && false) || false) ≡ false
        go true = refl
        go false = refl
