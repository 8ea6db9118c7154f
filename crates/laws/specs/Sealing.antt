-- Finish: storing header minor, heap length, Length and checksum in a table laid out with zeros there gives the one form. Assumes nothing.
use Rattle.std.specs.Prelude.{◌≡◌, drop}
use Rattle.std.proofs.Math.Path.{refl, ap}
use Rattle.std.proofs.Common.{sym, ◌∙◌, lit≤}
use mathlib.Core.List.{List, [], ◌∷◌, ◌++◌}
use Prim.Native.Nat.{ℕ, ◌+◌, ◌-◌, ◌≤◌}
use native.Mathlib.Omega.{arith}
use Rattle.std.proofs.Math.ListN.{length, take, replicate}
use Rattle.table.specs.declared.State.{State}
use Rattle.table.specs.Bytes.{checksum, le, splice}
use Rattle.table.specs.Meaning.{Meaning, behind, driver_ref, form, form_length, head_back, head_front, heap_at, heap_len, laid_out, minor_of}
use Rattle.table.specs.Builder.{records_end, sealed}
use Rattle.laws.specs.Lawful.{Shaped}
use Rattle.laws.specs.ByteLaws.{Holds, drop-splice, holds-join, holds-left, holds-part, holds-right, holds-splice-above, holds-splice-below, length-splice, splice-here}
use Rattle.laws.specs.FormLaws.{back-part, front-part, length-driver_ref, length-laid_out}

module _ (m : Meaning) (w : Shaped m) where
  -- the header with Length n, checksum c, heap length k and minor r, and all that stands behind it
  record Pieces (t : List ℕ) (n c k r : ℕ) : Type 0 where
    front : Holds t 0 (head_front n)
    sum : Holds t 9 (c ∷ [])
    back : Holds t 10 (head_back m k r)
    rest : Holds t 64 (behind m)

  pieces-laid : (t : List ℕ) (n c k r : ℕ) → Pieces t n c k r → Holds t 0 (laid_out m n c k r)
  unfolding laid_out
  pieces-laid t n c k r p =
      holds-join p.front
      (rw (front-part m w n) (holds-join {xs = c ∷ []} p.sum (holds-join p.back (rw (back-part m w k r) p.rest))))

  laid-pieces : (t : List ℕ) (n c k r : ℕ) → Holds t 0 (laid_out m n c k r) → Pieces t n c k r
  unfolding laid_out
  laid-pieces t n c k r h =
      let h₉ : Holds t 9 ((c ∷ []) ++ (head_back m k r ++ behind m)) = rw (front-part m w n) at (holds-right t 0 (head_front n) _ h) in
      let g : Holds t 10 (head_back m k r ++ behind m) = holds-right t 9 (c ∷ []) _ h₉ in
      record {
        front = holds-left t 0 (head_front n) _ h;
        sum = holds-left t 9 (c ∷ []) _ h₉;
        back = holds-left t 10 (head_back m k r) _ g;
        rest = rw (back-part m w k r) at (holds-right t 10 (head_back m k r) (behind m) g);
      }

  -- a store of Length
  front-store : (t : List ℕ) (n c k r l : ℕ) → 160 ≤ length t → Pieces t n c k r → Pieces (splice t 4 (le 4 l)) l c k r
  unfolding head_front
  front-store t n c k r l z p =
      let s : List ℕ = 0x4E ∷ 0x42 ∷ 0x46 ∷ 0x54 ∷ [] in
      let ok : 4 + length (le 4 l) ≤ length t = omega arith in
      let one : Holds t 8 (1 ∷ []) = holds-right t 4 (le 4 n) (1 ∷ []) (holds-right t 0 s (le 4 n ++ (1 ∷ [])) p.front) in
      record {
        front =
            holds-join {xs = s} (holds-splice-below t 4 (le 4 l) ok 0 s (lit≤ tt) (holds-left t 0 s _ p.front))
            (holds-join {a = 4} {xs = le 4 l} (splice-here t 4 (le 4 l) ok) (holds-splice-above t 4 (le 4 l) ok 8 (1 ∷ []) (lit≤ tt) one));
        sum = holds-splice-above t 4 (le 4 l) ok 9 (c ∷ []) (lit≤ tt) p.sum;
        back = holds-splice-above t 4 (le 4 l) ok 10 (head_back m k r) (lit≤ tt) p.back;
        rest = holds-splice-above t 4 (le 4 l) ok 64 (behind m) (lit≤ tt) p.rest;
      }

  -- a store of the heap length
  back-store : (t : List ℕ) (n c k r l : ℕ) → 160 ≤ length t → Pieces t n c k r → Pieces (splice t 40 (le 4 l)) n c l r
  unfolding head_front head_back
  back-store t n c k r l z p =
      let ok : 40 + length (le 4 l) ≤ length t = omega arith in
      let h : List ℕ = m.oem in
      let a : List ℕ = le 4 (heap_at m) in
      let d : List ℕ = driver_ref m ++ (r ∷ replicate 13 0) in
      let p₁ : Holds t 36 (a ++ (le 4 k ++ d)) = rw w.sized at (holds-right t 10 h _ p.back) in
      let p₂ : Holds t 40 (le 4 k ++ d) = holds-right t 36 a _ p₁ in
      let p₃ : Holds t 44 d = holds-right t 40 (le 4 k) d p₂ in
      let e = w.sized in
      record {
        front = holds-splice-below t 40 (le 4 l) ok 0 (head_front n) (lit≤ tt) p.front;
        sum = holds-splice-below t 40 (le 4 l) ok 9 (c ∷ []) (lit≤ tt) p.sum;
        back =
            holds-join {xs = h} (holds-splice-below t 40 (le 4 l) ok 10 h (omega arith) (holds-left t 10 h _ p.back))
            (rw e
            (holds-join {a = 36} {xs = a} (holds-splice-below t 40 (le 4 l) ok 36 a (lit≤ tt) (holds-left t 36 a _ p₁))
            (holds-join {a = 40} {xs = le 4 l} (splice-here t 40 (le 4 l) ok) (holds-splice-above t 40 (le 4 l) ok 44 d (lit≤ tt) p₃))));
        rest = holds-splice-above t 40 (le 4 l) ok 64 (behind m) (lit≤ tt) p.rest;
      }

  -- a store of the header minor
  minor-store : (t : List ℕ) (n c k r x : ℕ) → 160 ≤ length t → Pieces t n c k r → Pieces (splice t 50 (x ∷ [])) n c k x
  unfolding head_front head_back
  minor-store t n c k r x z p =
      let ok : 50 + 1 ≤ length t = omega arith in
      let h : List ℕ = m.oem in
      let a : List ℕ = le 4 (heap_at m) in
      let d : List ℕ = driver_ref m in
      let o : List ℕ = replicate 13 0 in
      let ld : length d ≡ 6 = length-driver_ref m in
      let p₁ : Holds t 36 (a ++ (le 4 k ++ (d ++ (r ∷ o)))) = rw w.sized at (holds-right t 10 h _ p.back) in
      let p₂ : Holds t 40 (le 4 k ++ (d ++ (r ∷ o))) = holds-right t 36 a _ p₁ in
      let p₃ : Holds t 44 (d ++ (r ∷ o)) = holds-right t 40 (le 4 k) _ p₂ in
      let p₄ : Holds t 50 (r ∷ o) = rw ld at (holds-right t 44 d (r ∷ o) p₃) in
      let p₅ : Holds t 51 o = holds-right t 50 (r ∷ []) o p₄ in
      let e = w.sized in
      let tail : Holds (splice t 50 (x ∷ [])) 50 (x ∷ o) = holds-join {a = 50} {xs = x ∷ []} (splice-here t 50 (x ∷ []) ok) (holds-splice-above t 50 (x ∷ []) ok 51 o (lit≤ tt) p₅) in
      record {
        front = holds-splice-below t 50 (x ∷ []) ok 0 (head_front n) (lit≤ tt) p.front;
        sum = holds-splice-below t 50 (x ∷ []) ok 9 (c ∷ []) (lit≤ tt) p.sum;
        back =
            holds-join {xs = h} (holds-splice-below t 50 (x ∷ []) ok 10 h (omega arith) (holds-left t 10 h _ p.back))
            (rw e
            (holds-join {a = 36} {xs = a} (holds-splice-below t 50 (x ∷ []) ok 36 a (lit≤ tt) (holds-left t 36 a _ p₁))
            (holds-join {a = 40} {xs = le 4 k} (holds-splice-below t 50 (x ∷ []) ok 40 (le 4 k) (lit≤ tt) (holds-left t 40 (le 4 k) _ p₂))
            (holds-join {a = 44} {xs = d} (holds-splice-below t 50 (x ∷ []) ok 44 d (omega arith) (holds-left t 44 d _ p₃)) (rw ld tail)))));
        rest = holds-splice-above t 50 (x ∷ []) ok 64 (behind m) (lit≤ tt) p.rest;
      }

  -- a store of the checksum
  sum-store : (t : List ℕ) (n c k r x : ℕ) → 160 ≤ length t → Pieces t n c k r → Pieces (splice t 9 (x ∷ [])) n x k r
  unfolding head_front
  sum-store t n c k r x z p =
      let ok : 9 + 1 ≤ length t = omega arith in
      record {
        front = holds-splice-below t 9 (x ∷ []) ok 0 (head_front n) (lit≤ tt) p.front;
        sum = splice-here t 9 (x ∷ []) ok;
        back = holds-splice-above t 9 (x ∷ []) ok 10 (head_back m k r) (lit≤ tt) p.back;
        rest = holds-splice-above t 9 (x ∷ []) ok 64 (behind m) (lit≤ tt) p.rest;
      }

  took : (t : List ℕ) (n c k r : ℕ) → Pieces t n c k r → take (form_length m) t ≡ laid_out m n c k r
  took t n c k r p = ap (λ (i : ℕ). take i t) (sym (length-laid_out m w n c k r)) ∙ holds-part t 0 (laid_out m n c k r) (pieces-laid t n c k r p)

  long : 160 ≤ form_length m
  unfolding form_length heap_at
  long = omega arith

  -- the stores, for a state whose bytes used, records' end and header minor are the form's
  module _ (s : State) (b : List ℕ) (size : s.used ≡ form_length m) (from : records_end s ≡ heap_at m) (minor_is : s.minor ≡ minor_of m) (room : form_length m ≤ length b) where
    t₀ : List ℕ
    t₀ = splice b 50 (minor_of m ∷ [])

    t₁ : List ℕ
    t₁ = splice t₀ 40 (le 4 (heap_len m))

    t₂ : List ℕ
    t₂ = splice t₁ 4 (le 4 (form_length m))

    t₃ : List ℕ
    t₃ = splice t₂ 9 (0 ∷ [])

    long₀ : length t₀ ≡ length b
    unfolding t₀
    long₀ = length-splice b 50 (minor_of m ∷ []) (omega (arith, long))

    long₁ : length t₁ ≡ length t₀
    unfolding t₁
    long₁ = length-splice t₀ 40 (le 4 (heap_len m)) (omega (arith, long, long₀))

    long₂ : length t₂ ≡ length t₁
    unfolding t₂
    long₂ = length-splice t₁ 4 (le 4 (form_length m)) (omega (arith, long, long₀, long₁))

    long₃ : length t₃ ≡ length t₂
    unfolding t₃
    long₃ = length-splice t₂ 9 (0 ∷ []) (omega (arith, long, long₀, long₁, long₂))

    is-sealed : sealed s b ≡ splice t₃ 9 (checksum (take (form_length m) t₃) ∷ [])
    unfolding sealed t₀ t₁ t₂ t₃
    is-sealed =
        let n : form_length m ≡ heap_at m + heap_len m = unfold form_length in refl in
        let e : s.used - records_end s ≡ heap_len m = omega arith in
        λ i.
        let y : List ℕ = splice (splice (splice (splice b 50 (minor_is i ∷ [])) 40 (le 4 (e i))) 4 (le 4 (size i))) 9 (0 ∷ []) in
        splice y 9 (checksum (take (size i) y) ∷ [])

    pub sealed-form : Holds b 0 (laid_out m 0 0 0 0) → take (form_length m) (sealed s b) ≡ form m
    unfolding form
    sealed-form h =
        let n : ℕ = form_length m in
        let k : ℕ = heap_len m in
        let v : ℕ = minor_of m in
        let p₀ : Pieces t₀ 0 0 0 v = unfold t₀ in (minor-store b 0 0 0 0 v (omega (arith, long)) (laid-pieces b 0 0 0 0 h)) in
        let p₁ : Pieces t₁ 0 0 k v = unfold t₁ in (back-store t₀ 0 0 0 v k (omega (arith, long, long₀)) p₀) in
        let p₂ : Pieces t₂ n 0 k v = unfold t₂ in (front-store t₁ 0 0 k v n (omega (arith, long, long₀, long₁)) p₁) in
        let p₃ : Pieces t₃ n 0 k v = unfold t₃ in (sum-store t₂ n 0 k v 0 (omega (arith, long, long₀, long₁, long₂)) p₂) in
        let e : take n t₃ ≡ laid_out m n 0 k v = took t₃ n 0 k v p₃ in
        rw is-sealed (took _ _ _ _ _ (sum-store t₃ n 0 k v (checksum (take n t₃)) (omega (arith, long, long₀, long₁, long₂, long₃)) p₃) ∙ ap (λ (x : List ℕ). laid_out m n (checksum x) k v) e)

    pub sealed-tail : drop (form_length m) (sealed s b) ≡ drop (form_length m) b
    sealed-tail =
        let n : ℕ = form_length m in
        rw is-sealed
        (drop-splice t₃ 9 (checksum (take n t₃) ∷ []) (omega (arith, long, long₀, long₁, long₂, long₃)) n (omega (arith, long))
        ∙ unfold t₃ in (drop-splice t₂ 9 (0 ∷ []) (omega (arith, long, long₀, long₁, long₂)) n (omega (arith, long)))
        ∙ unfold t₂ in (drop-splice t₁ 4 (le 4 n) (omega (arith, long, long₀, long₁)) n (omega (arith, long)))
        ∙ unfold t₁ in (drop-splice t₀ 40 (le 4 (heap_len m)) (omega (arith, long, long₀)) n (omega (arith, long)))
        ∙ unfold t₀ in (drop-splice b 50 (minor_of m ∷ []) (omega (arith, long)) n (omega (arith, long))))
