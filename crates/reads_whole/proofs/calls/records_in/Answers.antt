use Rattle.reads_whole.proofs.ListLaws.{kind-there}
use Rattle.reads_whole.specs.Whole.{first_of, left_of, entries_of, number_of, kinds_to, least, records_answer, refused_records, records_in}
use Rattle.reads_whole.specs.declared.Records.{Records}
use Rattle.bytes_writer.proofs.StoreLaws.{splice-none}
use Rattle.table.specs.Bytes.{splice}
use borrow.Author.Tests.{le-leb, lt-leb, eq-eqb, ne_eqb}
use lib.Dec.{leb, eqb, lit≤}
use lib.ListN.{length, take}
use native.Mathlib.Omega.{arith}
use Prim.Native.Nat.{ℕ, ◌*◌, ◌/◌}
use mathlib.Core.Bool.{true, false}
use mathlib.Core.Path.{◌≡◌, refl, sym, ap, ◌∙◌}
use Rattle.reads_whole.proofs.calls.records_in.Goals as goal

pub returns-then-position-first_of : goal.returns-then-position-first_of
unfolding records_in records_answer
returns-then-position-first_of c =
    let a = c.args in
    let out = a.out.now in
    let before : leb (first_of a.kind) a.position ≡ false = lt-leb (first_of a.kind) a.position
    (omega (arith, c.first_of.ensures, c.if-position-first_of.true)) in record {
      value = (
        rw before (c.refused_records.ensures ∙ ap refused_records c.refuse.ensures),
        splice-none out 0
            ∙ ap (λ (r : Records). splice out 0
            (take (184 * r.written) (entries_of a.t.now a.kind a.position (kinds_to a.kind a.last))))
            (sym c.refused_records.ensures),
      );
      written_le_total = rw c.refused_records.ensures (lit≤ tt, lit≤ tt);
    }

pub returns-then-left_of-eq0 : goal.returns-then-left_of-eq0
unfolding records_in records_answer
returns-then-left_of-eq0 c =
    let a = c.args in
    let out = a.out.now in
    let at : leb (first_of a.kind) a.position ≡ true = le-leb (first_of a.kind) a.position
    (omega (arith, c.first_of.ensures, c.if-position-first_of.false)) in
    let none : eqb (left_of a.t.now a.kind a.position) 0 ≡ true = eq-eqb
    (left_of a.t.now a.kind a.position) 0
    (sym c.left_of.ensures.0 ∙ c.if-left_of-eq0.true) in record {
      value = (
        rw (at, none) (c.refused_records-then-left_of-eq0.ensures ∙ ap refused_records c.refuse-then-left_of-eq0.ensures),
        splice-none out 0
            ∙ ap (λ (r : Records). splice out 0
            (take (184 * r.written) (entries_of a.t.now a.kind a.position (kinds_to a.kind a.last))))
            (sym c.refused_records-then-left_of-eq0.ensures),
      );
      written_le_total = rw c.refused_records-then-left_of-eq0.ensures (lit≤ tt, lit≤ tt);
    }

pub kinds_to-kinds-requires : goal.kinds_to-kinds-requires
kinds_to-kinds-requires c = let a = c.args in
    kind-there a.t.now a.kind a.position (omega (arith, c.first_of.ensures, c.if-position-first_of.false)) (λ e. c.if-left_of-eq0.false (c.left_of.ensures.0 ∙ e))

pub returns : goal.returns
unfolding records_in records_answer
returns c =
    let a = c.args in
    let t = a.t.now in
    let k = a.kind in
    let n = a.position in
    let out = a.out.now in
    let kinds = c.kinds_to-kinds.ensures.0 in
    let told = c.put_kinds-told in
    let at : leb (first_of k) n ≡ true = le-leb (first_of k) n
    (omega (arith, c.first_of.ensures, c.if-position-first_of.false)) in
    let some : eqb (left_of t k n) 0 ≡ false = ne_eqb (left_of t k n) 0
    (λ e. c.if-left_of-eq0.false (c.left_of.ensures.0 ∙ e)) in
    let total : told.result.total ≡ number_of t k n (kinds_to k a.last) = told.ensures.total_value.0 ∙ ap (number_of t k n)
    kinds in
    let written : told.result.written ≡ least (number_of t k n (kinds_to k a.last)) (length out / 184) =
    told.ensures.total_value.1 ∙ ap (λ (m : ℕ). least m (length out / 184)) total in record {
      value = (
        rw (at, some, c.done.ensures, written, total) refl,
        told.ensures.out_after
            ∙ ap (λ (m : ℕ). splice out 0 (take (184 * told.result.written) (entries_of t k n m))) kinds,
      );
      written_le_total = (told.ensures.total_value.2, omega (arith, told.ensures.total_value.3, c.kinds_to-kinds.ensures.1));
    }
