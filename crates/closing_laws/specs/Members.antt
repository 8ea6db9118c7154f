-- Being in a list, and one of two tests. Assumes nothing.
use Rattle.std.specs.Prelude.{◌≡◌, ◌⊎◌, Bool, true, false, not, ◌||◌, List, [], ◌∷◌, ◌++◌, T}
use Rattle.std.proofs.Common.{inl, inr}

abbrev pub In : {A : Type 0} → A → List A → Type 0
In x [] = ⊥
In x (y ∷ ys) = (x ≡ y) ⊎ In x ys

module _ {A : Type 0} where
  pub in_left : (x : A) (xs ys : List A) → In x xs → In x (xs ++ ys)
  in_left x [] ys h = absurd h
  in_left x (z ∷ zs) ys (inl e) = inl e
  in_left x (z ∷ zs) ys (inr h) = inr (in_left x zs ys h)

  pub in_right : (x : A) (xs ys : List A) → In x ys → In x (xs ++ ys)
  in_right x [] ys h = h
  in_right x (z ∷ zs) ys h = inr (in_right x zs ys h)

  pub in-append : (x : A) (xs ys : List A) → In x (xs ++ ys) → In x xs ⊎ In x ys
  in-append x [] ys h = inr h
  in-append x (z ∷ zs) ys (inl e) = inl (inl e)
  in-append x (z ∷ zs) ys (inr h) = go (in-append x zs ys h)
    where
      go : In x zs ⊎ In x ys → In x (z ∷ zs) ⊎ In x ys
      go (inl a) = inl (inr a)
      go (inr b) = inr b

  -- each of xs is in ys
  abbrev pub Sub : List A → List A → Type 0
  Sub xs ys = (x : A) → In x xs → In x ys

-- ---- one of two tests

pub or_left : (c d : Bool) → T c → T (c || d)
or_left true d t = tt
or_left false d t = absurd t

pub or_right : (c d : Bool) → T d → T (c || d)
or_right true d t = tt
or_right false d t = t

pub neither : (c d : Bool) → T (not c) → T (not d) → T (not (c || d))
neither true d s t = absurd s
neither false d s t = t
