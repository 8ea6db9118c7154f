-- What an answer of the rewriter tells: room, the form, and that equal forms are equal meanings. Assumes nothing.
use mathlib.Core.Path.{◌≡◌, refl, sym, ap, ap₂, subst, ◌∙◌}
use mathlib.Core.Bool.{Bool, true, false}
use mathlib.Core.Logic.{◌↔◌}
use mathlib.Core.List.{List}
use Prim.Native.Nat.{ℕ, ◌+◌, ◌≤◌}
use native.Mathlib.Omega.{arith}
use lib.ListN.{length, take, drop}
use lib.Seq.{length-take-le, take_at}
use lib.Dec.{eqb}
use borrow.Author.Tests.{eqb-true}
use Rattle.io.specs.Counts.{IsPrefixLen}
use Rattle.table.specs.declared.Answer.{Answer}
use Rattle.table.specs.declared.Rewritten.{Rewritten}
use Rattle.table.specs.Bytes.{pick, splice}
use Rattle.table.specs.Meaning.{meaning, form_length, form}
use Rattle.table.specs.Rewriting.{rewrite_answer, rewrite, rewrite_bytes}
use Rattle.laws.specs.AcceptedMeaning.{lawful}
use Rattle.laws.specs.FormLaws.{length-form}
use Rattle.laws.specs.Builds.{check-zero}
use Rattle.laws.specs.OneForm.{Bytes, Rewritable, same-form}
use Rattle.rewriter.proofs.OneForm.{done-facts}

abbrev pub number_of : Answer → ℕ
number_of a = a.number

-- ---- where done, the table is accepted, and its form keeps the limit and fits

pub rewritable : (t : List ℕ) (room : ℕ) → Bytes t → (rewrite_answer t room).number ≡ 0 → Rewritable t
rewritable t room b e =
    let d = done-facts t room e in
    record { is_bytes = b; is_accepted = check-zero t d.0; is_short = d.1 }

-- ---- the form by value

module _ (t out left : List ℕ) (r : Rewritten) (made : r ≡ rewrite t (length out)) (stored : left ≡ rewrite_bytes t out) (kept : length left ≡ length out) where
  pub made-answer : r.answer ≡ rewrite_answer t (length out)
  unfolding rewrite
  made-answer = ap (λ (x : Rewritten). x.answer) made

  made-len : r.len ≡ pick (eqb (rewrite_answer t (length out)).number 0) (form_length (meaning t)) 0
  unfolding rewrite
  made-len = ap (λ (x : Rewritten). x.len) made

  stored_is : left ≡ pick (eqb (rewrite_answer t (length out)).number 0) (splice out 0 (form (meaning t))) out
  unfolding rewrite_bytes
  stored_is = stored

  made-fits : r.len ≤ length out
  made-fits = go (eqb (rewrite_answer t (length out)).number 0) refl where
    go : (c : Bool) → eqb (rewrite_answer t (length out)).number 0 ≡ c → r.len ≤ length out
    go true p = omega (arith, made-len ∙ ap (λ (c : Bool). pick c (form_length (meaning t)) 0) p, (done-facts t (length out) (eqb-true (rewrite_answer t (length out)).number 0 p)).2)
    go false p = omega (arith, made-len ∙ ap (λ (c : Bool). pick c (form_length (meaning t)) 0) p)

  pub made-counts : IsPrefixLen r.len left
  made-counts =
      let l : r.len ≤ length left = subst (λ (n : ℕ). r.len ≤ n) (sym kept) made-fits in
      (l, sym (length-take-le r.len left l))

  pub made-form : Bytes t → r.answer.number ≡ 0 → take r.len left ≡ form (meaning t)
  made-form b z =
      let e : (rewrite_answer t (length out)).number ≡ 0 = sym (ap number_of made-answer) ∙ z in
      let c : eqb (rewrite_answer t (length out)).number 0 ≡ true = ap (λ (n : ℕ). eqb n 0) e in
      let w = rewritable t (length out) b e in
      let n : length (form (meaning t)) ≡ form_length (meaning t) = length-form (meaning t) (lawful t b w.is_accepted).shapes in
      ap₂ take (made-len ∙ ap (λ (d : Bool). pick d (form_length (meaning t)) 0) c) (stored_is ∙ ap (λ (d : Bool). pick d (splice out 0 (form (meaning t))) out) c)
      ∙ take_at (form (meaning t)) (drop (0 + length (form (meaning t))) out) (form_length (meaning t)) n

-- ---- two forms

pub same-tells : (t u x y : List ℕ) (s : Bool) → Rewritable t → Rewritable u → x ≡ form (meaning t) → y ≡ form (meaning u)
    → (s ≡ true → x ≡ y) → (x ≡ y → s ≡ true) → (s ≡ true) ↔ (meaning t ≡ meaning u)
same-tells t u x y s p q ex ey to from =
    (λ e. (same-form t u p q).0 (sym ex ∙ to e ∙ ey), λ e. from (ex ∙ (same-form t u p q).1 e ∙ sym ey))
