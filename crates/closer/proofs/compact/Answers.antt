use mathlib.Core.Path.{◌≡◌, sym, ap, ◌∙◌}
use mathlib.Core.Bool.{not}
use mathlib.Core.List.{List}
use Prim.Native.Nat.{ℕ, ◌*◌, ◌≤◌}
use native.Mathlib.Omega.{arith}
use lib.ListN.{length}
use lib.Dec.{T}
use Rattle.table.specs.declared.Answer.{Answer}
use Rattle.table.specs.Numbers.{check, heap_in}
use Rattle.table.specs.Closing.{close_answer, map_of, marks, overlapped}
use Rattle.reader.specs.Accepted.{Accepted}
use Rattle.reads_seats.proofs.ObjectLaws.{accepted}
use Rattle.bytes_bits.specs.MapLaws.{length-map}
use Rattle.closing_laws.specs.Calls.{closes}
use Rattle.closer.proofs.Laws.{all_done, all-refused, by-check, by-fault}
use Rattle.closer.proofs.compact.Goals.{Else-fault-ne0}
use Rattle.closer.proofs.compact.Goals as goal

module _ (c : Else-fault-ne0) where
  abbrev t : List ℕ
  t = c.args.t.now

  abbrev room : ℕ
  room = length c.args.map.now

  -- the answer, where no test fails
  same_answer : c.closing_fault-fault.result ≡ close_answer t room
  same_answer =
      let e = c.check-judged.ensures in
      c.closing_fault-fault.ensures ∙ sym (by-fault t room (sym (ap (λ (a : Answer). a.number) e) ∙ c.if-judged-ne0.false))

  -- what is known then
  fine : Accepted t × ((heap_in t).len ≤ 8 * room) × T (not (overlapped t))
  fine = let x = closes t room (sym (ap (λ (a : Answer). a.number) same_answer) ∙ c.if-fault-ne0.false) in (record { good = x.accepted }, x.mapped, x.free)

pub returns-then-judged-ne0 : goal.returns-then-judged-ne0
returns-then-judged-ne0 c =
    let t = c.args.t.now in
    let m = c.args.map.now in
    let j = c.check-judged.ensures in
    let no : (check t).number ≡ 0 → ⊥ = λ z. c.if-judged-ne0.true (ap (λ (a : Answer). a.number) j ∙ z) in
    let e = by-check t (length m) no in
    let r = all-refused t m (λ z. no (sym (ap (λ (a : Answer). a.number) e) ∙ z)) in
    record { answer_value = (c.refused.ensures.0 ∙ j ∙ sym e, c.refused.ensures.1 ∙ r.0, omega (arith, c.refused.ensures.1)); t_after = (r.1, r.2) }

pub closing_fault-fault-requires : goal.closing_fault-fault-requires
closing_fault-fault-requires c =
    let t = c.args.t.now in
    accepted t (sym (ap (λ (a : Answer). a.number) c.check-judged.ensures) ∙ c.if-judged-ne0.false)

pub returns-then-fault-ne0 : goal.returns-then-fault-ne0
returns-then-fault-ne0 c =
    let t = c.args.t.now in
    let m = c.args.map.now in
    let f = c.closing_fault-fault.ensures in
    let e = by-fault t (length m) (sym (ap (λ (a : Answer). a.number) c.check-judged.ensures) ∙ c.if-judged-ne0.false) in
    let r = all-refused t m (λ z. c.if-fault-ne0.true (ap (λ (a : Answer). a.number) (f ∙ sym e) ∙ z)) in
    record {
      answer_value = (
        c.refused-then-fault-ne0.ensures.0 ∙ f ∙ sym e,
        c.refused-then-fault-ne0.ensures.1 ∙ r.0,
        omega (arith, c.refused-then-fault-ne0.ensures.1),
      );
      t_after = (r.1, r.2);
    }

pub mark_map-requires : goal.mark_map-requires
mark_map-requires c = let f = fine (goal.at.mark_map-requires c).Else-fault-ne0 in (f.0, f.1)

pub close_table-requires : goal.close_table-requires
close_table-requires c =
    let t = c.args.t.now in
    let f = fine (goal.at.close_table-requires c).Else-fault-ne0 in
    let e = c.mark_map.ensures in
    let l = ap length e ∙ length-map (marks t) 0 (length c.args.map.now) in
    (f.0, f.2, omega (arith, f.1, l), e ∙ ap (map_of (marks t) 0) (sym l))

pub returns : goal.returns
returns c =
    let t = c.args.t.now in
    let m = c.args.map.now in
    let e = same_answer (goal.at.returns c).Else-fault-ne0 in
    let d = all_done t m (sym (ap (λ (a : Answer). a.number) e) ∙ c.if-fault-ne0.false) in
    let k = c.close_table.ensures in
    record { answer_value = (e, k.0 ∙ d.0, k.1); t_after = (k.2 ∙ d.1, c.mark_map.ensures ∙ d.2) }
