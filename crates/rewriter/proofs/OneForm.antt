-- Demand 3 of what the code leaves: by its contract `rewrite` and `rewrite_bytes` are its answer and its bytes. Assumes nothing.
use mathlib.Core.Path.{◌≡◌, refl, sym, ap, ap₂, subst, ◌∙◌}
use mathlib.Core.Logic.{◌↔◌}
use mathlib.Core.Bool.{Bool, true, false}
use mathlib.Core.List.{List}
use Prim.Native.Nat.{ℕ, ◌≤◌}
use lib.ListN.{length, take}
use lib.Dec.{eqb}
use borrow.Author.Tests.{eqb-true, eqb-false, le-leb}
use Rattle.table.specs.declared.Answer.{Answer}
use Rattle.table.specs.declared.Rewritten.{Rewritten}
use Rattle.table.specs.Rules.{done}
use Rattle.table.specs.Meaning.{limit, meaning, form_length, form}
use Rattle.table.specs.Numbers.{check}
use Rattle.table.specs.Rewriting.{rewrite_answer, rewrite, rewrite_bytes}
use Rattle.laws.specs.FormLaws.{length-form}
use Rattle.laws.specs.AcceptedMeaning.{lawful}
use Rattle.laws.specs.Builds.{check-zero}
use Rattle.laws.specs.OneForm.{Bytes, Rewritable, form-accepted, form-keeps, same-form}
use Rattle.rewriter.proofs.AnswerLaws.{read-passed, read-refused, rewrite-done, room-passed, take-front}

-- the bytes that a call leaves of its own: as many as it reports
abbrev pub written : List ℕ → List ℕ → List ℕ
written t out = take (rewrite t (length out)).len (rewrite_bytes t out)

-- the call answers 0
abbrev pub Done : List ℕ → List ℕ → Type 0
Done t out = (rewrite_answer t (length out)).number ≡ 0

-- what a done call knows
pub done-facts : (t : List ℕ) (room : ℕ) → (rewrite_answer t room).number ≡ 0 → ((check t).number ≡ 0) × (form_length (meaning t) ≤ limit) × (form_length (meaning t) ≤ room)
unfolding limit
done-facts t room d = go (eqb (check t).number 0) refl where
  go : (c : Bool) → eqb (check t).number 0 ≡ c → ((check t).number ≡ 0) × (form_length (meaning t) ≤ limit) × (form_length (meaning t) ≤ room)
  go true e =
      let z = eqb-true (check t).number 0 e in
      let p = room-passed (form_length (meaning t)) room (sym (ap (λ (a : Answer). a.number) (read-passed t room (check t) refl z)) ∙ d) in
      (z, p.0, p.1)
  go false e =
      let z = eqb-false (check t).number 0 e in
      absurd (z (sym (ap (λ (a : Answer). a.number) (read-refused t room (check t) refl z)) ∙ d))

-- and that is enough
pub enough : (t : List ℕ) (room : ℕ) → check t ≡ done → form_length (meaning t) ≤ limit → form_length (meaning t) ≤ room → (rewrite_answer t room).number ≡ 0
enough t room e l r =
    ap (λ (a : Answer). a.number) (read-passed t room (check t) refl (ap (λ (a : Answer). a.number) e))
    ∙ rw (le-leb (form_length (meaning t)) limit l, le-leb (form_length (meaning t)) room r) refl

module _ (t out : List ℕ) (d : Done t out) where
  pub rewritable : Bytes t → Rewritable t
  rewritable b = let f = done-facts t (length out) d in record { is_bytes = b; is_accepted = check-zero t f.0; is_short = f.1 }

  left : length (form (meaning t)) ≡ form_length (meaning t) → written t out ≡ form (meaning t)
  left l =
      let e = rewrite-done t out (rewrite_answer t (length out)) refl d in
      ap₂ (λ (r : Rewritten) (x : List ℕ). take r.len x) (sym e.0) (sym e.1) ∙ take-front (form (meaning t)) out (form_length (meaning t)) (sym l)

  -- it leaves the form
  pub written_is : Bytes t → written t out ≡ form (meaning t)
  written_is b = left (length-form (meaning t) (lawful t b (rewritable b).is_accepted).shapes)

-- for any two inputs and outputs: what is left is equal byte for byte exactly when the meanings are equal
pub same-written : (t u out out' : List ℕ) → Bytes t → Bytes u → Done t out → Done u out' → (written t out ≡ written u out') ↔ (meaning t ≡ meaning u)
same-written t u out out' b c d e =
    let x = written_is t out d b in
    let y = written_is u out' e c in
    let s = same-form t u (rewritable t out d b) (rewritable u out' e c) in
    (λ q. s.0 (sym x ∙ q ∙ y), λ q. x ∙ s.1 q ∙ sym y)

-- rewriting what was left gives the same bytes, wherever they fit
pub written-again : (t out out' : List ℕ) → Bytes t → Done t out → form_length (meaning t) ≤ length out'
    → (check (written t out) ≡ done) × (meaning (written t out) ≡ meaning t) × (written (written t out) out' ≡ written t out)
written-again t out out' b d room =
    let r = rewritable t out d b in
    let w = written_is t out d b in
    let f = done-facts t (length out) d in
    let acc : check (written t out) ≡ done = ap check w ∙ form-accepted t r in
    let keep : meaning (written t out) ≡ meaning t = ap meaning w ∙ form-keeps t r in
    let short : form_length (meaning (written t out)) ≤ limit = subst (λ (n : ℕ). n ≤ limit) (sym (ap form_length keep)) f.1 in
    let fits : form_length (meaning (written t out)) ≤ length out' = subst (λ (n : ℕ). n ≤ length out') (sym (ap form_length keep)) room in
    let long : length (form (meaning (written t out))) ≡ form_length (meaning (written t out)) =
    ap (λ m. length (form m)) keep ∙ length-form (meaning t) (lawful t b r.is_accepted).shapes ∙ sym (ap form_length keep) in
    (acc, keep, left (written t out) out' (enough (written t out) (length out') acc short fits) long ∙ ap form keep ∙ sym w)
