-- The answers of the rewriter, one by one, and the checksum of the form. Assumes nothing.
use mathlib.Core.Path.{◌≡◌, refl, sym, ap, ap₂, ◌∙◌}
use mathlib.Core.Bool.{Bool}
use mathlib.Core.List.{List, [], ◌∷◌, ◌++◌, append_assoc}
use Prim.Native.Nat.{ℕ, ◌+◌}
use lib.ListN.{length, take, drop, length-append}
use lib.Seq.{take_at, drop_at, drop-drop, take-append_seam}
use lib.Dec.{leb}
use borrow.Author.Tests.{eq-eqb, ne_eqb}
use Rattle.table.specs.declared.Answer.{Answer}
use Rattle.table.specs.declared.Rewritten.{Rewritten}
use Rattle.table.specs.Bytes.{pick, splice, checksum}
use Rattle.table.specs.Rules.{first, test, first_fail}
use Rattle.table.specs.Meaning.{limit, Meaning, meaning, heap_len, form_length, head_front, head_back, behind, laid_out, form, minor_of}
use Rattle.table.specs.Numbers.{check}
use Rattle.table.specs.Rewriting.{rewrite_answer, rewrite, rewrite_bytes}
use Rattle.laws.specs.Fields.{Bytes}
use Rattle.laws.specs.FormLaws.{length-laid_out}
use Rattle.laws.specs.AcceptedMeaning.{lawful}
use Rattle.reader.specs.Accepted.{Accepted}
use Rattle.reader.proofs.AcceptedLaws.{checked}
pub use Rattle.bytes_room.proofs.RoomLaws.{room-passed}

-- ---- answers

module _ (t : List ℕ) (room : ℕ) (x : Answer) (e : check t ≡ x) where
  abbrev faults : Answer
  faults = first_fail (test (leb (form_length (meaning t)) limit) 17 0 0 ∷ test (leb (form_length (meaning t)) room) 14 0 0 ∷ [])

  -- what the reader refuses
  pub read-refused : (x.number ≡ 0 → ⊥) → rewrite_answer t room ≡ x
  unfolding rewrite_answer
  read-refused z = ap (λ (a : Answer). first a faults) e ∙ ap (λ (c : Bool). pick c faults x) (ne_eqb x.number 0 z)

  -- what it accepts
  pub read-passed : x.number ≡ 0 → rewrite_answer t room ≡ faults
  unfolding rewrite_answer
  read-passed z = ap (λ (a : Answer). first a faults) e ∙ ap (λ (c : Bool). pick c faults x) (eq-eqb x.number 0 z)

module _ (t out : List ℕ) (x : Answer) (e : rewrite_answer t (length out) ≡ x) where
  pub rewrite-refused : (x.number ≡ 0 → ⊥) → (record { answer = x; len = 0 } ≡ rewrite t (length out)) × (out ≡ rewrite_bytes t out)
  unfolding rewrite rewrite_bytes
  rewrite-refused z = (rw (e, ne_eqb x.number 0 z) refl, rw (e, ne_eqb x.number 0 z) refl)

  pub rewrite-done : x.number ≡ 0 → (record { answer = x; len = form_length (meaning t) } ≡ rewrite t (length out)) × (splice out 0 (form (meaning t)) ≡ rewrite_bytes t out)
  unfolding rewrite rewrite_bytes
  rewrite-done z = (rw (e, eq-eqb x.number 0 z) refl, rw (e, eq-eqb x.number 0 z) refl)

pub answer-is : (r : Rewritten) (x : Answer) (n : ℕ) → r.answer ≡ x → r.len ≡ n → r ≡ record { answer = x; len = n }
answer-is r x n p q = rw (sym p, sym q) refl

-- ---- the checksum

-- one byte of what was laid first
put_byte : (f r out : List ℕ) (x c : ℕ) → splice (splice out 0 (f ++ (x ∷ r))) (length f) (c ∷ []) ≡ splice out 0 (f ++ (c ∷ r))
put_byte f r out x c =
    let d : List ℕ = drop (0 + length (f ++ (x ∷ r))) out in
    let z : List ℕ = f ++ (x ∷ (r ++ d)) in
    let l : length (f ++ (x ∷ r)) ≡ length (f ++ (c ∷ r)) = length-append f (x ∷ r) ∙ sym (length-append f (c ∷ r)) in
    ap (λ (y : List ℕ). splice y (length f) (c ∷ [])) (append_assoc f (x ∷ r) d)
    ∙ ap₂ (λ (p q : List ℕ). p ++ (c ∷ q)) (take_at f (x ∷ (r ++ d)) (length f) refl) (sym (drop-drop 1 (length f) z) ∙ ap (drop 1) (drop_at f (x ∷ (r ++ d)) (length f) refl))
    ∙ sym (append_assoc f (c ∷ r) d)
    ∙ ap (λ (n : ℕ). (f ++ (c ∷ r)) ++ drop (0 + n) out) l

pub take-front : (xs out : List ℕ) (n : ℕ) → n ≡ length xs → take n (splice out 0 xs) ≡ xs
take-front xs out n e = ap (λ (i : ℕ). take i (splice out 0 xs)) e ∙ take-append_seam xs (drop (0 + length xs) out)

pub sealed : (m : Meaning) (out y z : List ℕ) (n k : ℕ) → n ≡ form_length m → k ≡ heap_len m → length (laid_out m n 0 k (minor_of m)) ≡ form_length m
    → y ≡ splice out 0 (laid_out m n 0 k (minor_of m)) → z ≡ splice y 9 (checksum (take n y) ∷ []) → z ≡ splice out 0 (form m)
unfolding form laid_out head_front
sealed m out y z n k en ek l ey ez =
    let c = ap checksum (ap (take n) ey ∙ take-front (laid_out m n 0 k (minor_of m)) out n (en ∙ sym l)) in
    ez ∙ ap₂ (λ (v : List ℕ) (b : ℕ). splice v 9 (b ∷ [])) ey c
    ∙ put_byte (head_front n) (head_back m k (minor_of m) ++ behind m) out 0 (checksum (laid_out m n 0 k (minor_of m)))
    ∙ ap₂ (λ (i j : ℕ). splice out 0 (laid_out m i (checksum (laid_out m i 0 j (minor_of m))) j (minor_of m))) en ek

pub laid-length : (t : List ℕ) → Bytes t → Accepted t → (n k : ℕ) → length (laid_out (meaning t) n 0 k (minor_of (meaning t))) ≡ form_length (meaning t)
laid-length t b ok n k = length-laid_out (meaning t) (lawful t b (checked t ok)).shapes n 0 k (minor_of (meaning t))
