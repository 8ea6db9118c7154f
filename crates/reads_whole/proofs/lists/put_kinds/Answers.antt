use Rattle.layout_images.proofs.Laws.{part-long}
use Rattle.reads_whole.proofs.ListLaws.{least-le, min-least, entries-more, number_more, tail-laid, kinds-turn}
use Rattle.reads_whole.specs.Whole.{rows, entry_at, first_of, entries_of, number_of, least}
use Rattle.bytes_writer.proofs.StoreLaws.{splice-none}
use borrow.Author.Tests.{le-leb}
use lib.ListN.{length, drop}
use native.Mathlib.Omega.{arith}
use native.Mathlib.Nat.{zero-add, sub-zero}
use Prim.Native.Nat.{ℕ, ◌+◌, ◌-◌, ◌*◌, ◌<◌}
use mathlib.Core.List.{◌++◌}
use mathlib.Core.Path.{◌≡◌, refl, sym, ap, ◌∙◌}
use Rattle.reads_whole.proofs.lists.put_kinds.Goals as goal

pub loop-init : goal.loop-init
unfolding least
loop-init c =
    let a = c.args in
    rw (sub-zero a.kinds) (refl, c.requires.3, rw (le-leb 0 a.room (omega arith)) refl, omega arith, omega arith, refl, omega arith, refl, zero-add _, splice-none a.out.now 0)

pub put_run-requires : goal.put_run-requires
put_run-requires c =
    let l = c.loop in
    let start = 184 * l.written in
    let fits = c.min-fits.ensures in (
      c.requires.0,
      omega (arith, part-long l.out start (length l.out - start) (omega (arith, l.invariant.3, l.invariant.5, c.requires.1)), fits, l.invariant.3, l.invariant.5, c.requires.1),
      omega (arith, l.invariant.1, c.left_of-left.ensures.1, fits),
    )

pub loop-preserved : goal.loop-preserved
loop-preserved c =
    let a = c.args in
    let t = a.t.now in
    let l = c.loop in
    let rest = a.kinds - l.counter in
    let taken : 0 < rest = omega (arith, c.loop-test.true) in
    let left = c.left_of-left in
    let fits = c.min-fits in
    let first = c.first_of-position in
    let whole = entries_of t a.first_kind a.first_position a.kinds in
    let later = entries_of t (l.kind + 1) (first_of (l.kind + 1)) (rest - 1) in
    let ahead : drop (184 * l.total) whole ≡ rows (entry_at t l.kind) l.position left.result ++ later =
    l.invariant.7 ∙ entries-more t l.kind l.position rest taken ∙ ap
    (λ (m : ℕ). rows (entry_at t l.kind) l.position m ++ later) (sym left.ensures.0) in
    let number = number_more t l.kind l.position rest taken in
    let next = ap (λ (p : ℕ). number_of t (l.kind + 1) p (rest - 1)) first.ensures.0 in
    let turn = kinds-turn t c.requires.0 l.kind l.position left.result later whole l.total l.written
    a.room fits.result l.invariant.2 (fits.ensures ∙ min-least left.result (a.room - l.written)) l.invariant.6 ahead in
    let e : a.kinds - (l.counter + 1) ≡ rest - 1 = omega arith in rw e (
      omega (arith, taken, l.invariant.0),
      omega (arith, first.ensures.1),
      turn.2,
      omega (arith, l.invariant.3, fits.ensures),
      omega (arith, taken, l.invariant.4, left.ensures.1),
      c.out-1.given.1 ∙ l.invariant.5,
      turn.0,
      turn.1 ∙ ap (λ (p : ℕ). entries_of t (l.kind + 1) p (rest - 1)) (sym first.ensures.0),
      omega (arith, number, next, l.invariant.8, left.ensures.0),
      turn.3 a.out.now l.out _ c.requires.1 l.invariant.9 (tail-laid l.out c.put_run.new.out
          (rows (entry_at t l.kind) l.position fits.result) (184 * l.written)
          (omega (arith, l.invariant.3, l.invariant.5, c.requires.1)) c.put_run.ensures),
    )

pub returns : goal.returns
unfolding number_of
returns c =
    let a = c.args in
    let t = a.t.now in
    let l = c.loop in
    let none : a.kinds - l.counter ≡ 0 = omega (arith, c.loop-test.false) in
    let no : number_of t l.kind l.position (a.kinds - l.counter) ≡ 0 = ap (number_of t l.kind l.position) none in
    record { total_value = (omega (arith, l.invariant.8, no), l.invariant.2, omega (arith, l.invariant.2, least-le l.total a.room), omega (arith, l.invariant.4)); out_after = l.invariant.9 }
