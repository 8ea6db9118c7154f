use Rattle.rewriter.proofs.FormLaws.{sizes-are, signature-here}
use Rattle.rewriter.proofs.AnswerLaws.{answer-is, read-refused, read-passed, rewrite-refused, rewrite-done, room-passed, take-front, laid-length, sealed}
use Rattle.reads_seats.proofs.ObjectLaws.{accepted}
use Rattle.laws.specs.Fields.{Bytes}
use Rattle.table.specs.Meaning.{limit, meaning, heap_len, minor_of, laid_out}
use Rattle.table.specs.Rules.{test, first_fail}
use Rattle.table.specs.Bytes.{part}
use Rattle.table.specs.declared.Answer.{Answer}
use lib.Dec.{leb}
use lib.ListN.{length, take}
use native.Mathlib.Omega.{arith}
use Prim.Native.Nat.{ℕ}
use mathlib.Core.List.{List, [], ◌∷◌}
use mathlib.Core.Path.{refl, sym, ap, ap₂, ◌∙◌}
use Rattle.rewriter.proofs.rewriting.rewrite.Goals as goal

pub returns-then-judged-ne0 : goal.returns-then-judged-ne0
returns-then-judged-ne0 c =
    let a = c.args in
    let q = c.check-judged in
    let r = c.refused.ensures in
    let e = rewrite-refused a.t.now a.out.now q.result
    (read-refused a.t.now (length a.out.now) q.result (sym q.ensures) c.if-judged-ne0.true)
    c.if-judged-ne0.true in
    (answer-is c.refused.result q.result 0 r.0 r.1 ∙ e.0, e.1)

pub form_length-size-requires : goal.form_length-size-requires
form_length-size-requires c =
    let a = c.args in
    let t = a.t.now in
    let q = c.check-judged in
    let z = c.if-judged-ne0.false in
    let ok = accepted t (sym (ap (λ (x : Answer). x.number) q.ensures) ∙ z) in
    ok

pub returns-then-room-ne0 : goal.returns-then-room-ne0
returns-then-room-ne0 c =
    let a = c.args in
    let t = a.t.now in
    let q = c.check-judged in
    let z = c.if-judged-ne0.false in
    let ok = accepted t (sym (ap (λ (x : Answer). x.number) q.ensures) ∙ z) in
    let g = c.form_length-size.ensures.0 in
    let o = c.room_fault-room in
    let r = c.refused-then-room-ne0.ensures in
    let f = o.ensures ∙ ap
    (λ (n : ℕ). first_fail (test (leb n limit) 17 0 0 ∷ test (leb n (length a.out.now)) 14 0 0 ∷ [])) g in
    let e = rewrite-refused t a.out.now o.result
    (read-passed t (length a.out.now) q.result (sym q.ensures) z ∙ sym f) c.if-room-ne0.true in
    (answer-is c.refused-then-room-ne0.result o.result 0 r.0 r.1 ∙ e.0, e.1)

pub heap_start-heap-requires : goal.heap_start-heap-requires
heap_start-heap-requires c =
    let a = c.args in
    let t = a.t.now in
    let q = c.check-judged in
    let z = c.if-judged-ne0.false in
    let ok = accepted t (sym (ap (λ (x : Answer). x.number) q.ensures) ∙ z) in
    ok

pub lay_form-signature-requires : goal.lay_form-signature-requires
lay_form-signature-requires c =
    let a = c.args in
    let t = a.t.now in
    let q = c.check-judged in
    let z = c.if-judged-ne0.false in
    let ok = accepted t (sym (ap (λ (x : Answer). x.number) q.ensures) ∙ z) in
    let g = c.form_length-size.ensures.0 in
    let o = c.room_fault-room in
    let p = room-passed _ _ (sym (ap (λ (x : Answer). x.number) o.ensures) ∙ c.if-room-ne0.false) in
    (ok, g, c.heap_start-heap.ensures.0, p.1)

pub seal-requires : goal.seal-requires
seal-requires c =
    let a = c.args in
    let t = a.t.now in
    let q = c.check-judged in
    let z = c.if-judged-ne0.false in
    let ok = accepted t (sym (ap (λ (x : Answer). x.number) q.ensures) ∙ z) in
    let g = c.form_length-size.ensures.0 in
    let o = c.room_fault-room in
    let b : Bytes t = λ i. omega (arith, c.type_inv.t i) in
    let m = meaning t in
    let n = c.form_length-size.result in
    let h = c.heap_start-heap in
    let y = c.lay_form-signature in
    let p = room-passed _ _ (sym (ap (λ (x : Answer). x.number) o.ensures) ∙ c.if-room-ne0.false) in
    let w = sizes-are t b ok n h.result g h.ensures.0 in
    let v = signature-here t b ok n (heap_len m) g refl y.result y.ensures.0 in
    let f = ap (take n) y.ensures.1 ∙ take-front (laid_out m n 0 (heap_len m) (minor_of m)) a.out.now n
    (g ∙ sym (laid-length t b ok n (heap_len m))) in record { lt_size = (omega (arith, w.0, w.1), omega (arith, p.1, y.auto.out), ok); signature_bound = (omega (arith, v.0, h.ensures.0), ap₂ (λ (x : List ℕ) (i : ℕ). part x i y.result) f h.ensures.0 ∙ v.1) }

pub returns : goal.returns
returns c =
    let a = c.args in
    let t = a.t.now in
    let q = c.check-judged in
    let z = c.if-judged-ne0.false in
    let ok = accepted t (sym (ap (λ (x : Answer). x.number) q.ensures) ∙ z) in
    let g = c.form_length-size.ensures.0 in
    let o = c.room_fault-room in
    let b : Bytes t = λ i. omega (arith, c.type_inv.t i) in
    let m = meaning t in
    let n = c.form_length-size.result in
    let f = o.ensures ∙ ap
    (λ (n : ℕ). first_fail (test (leb n limit) 17 0 0 ∷ test (leb n (length a.out.now)) 14 0 0 ∷ [])) g in
    let e = rewrite-done t a.out.now o.result
    (read-passed t (length a.out.now) q.result (sym q.ensures) z ∙ sym f)
    c.if-room-ne0.false in (
      ap (λ (i : ℕ). record { answer = o.result; len = i }) g ∙ e.0,
      sealed m a.out.now c.lay_form-signature.new.out c.seal.new.out n (heap_len m) g refl
          (laid-length t b ok n (heap_len m)) c.lay_form-signature.ensures.1 c.seal.ensures
          ∙ e.1,
    )
