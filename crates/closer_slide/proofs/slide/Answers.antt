use mathlib.Core.Path.{◌≡◌, refl, sym, ap, ◌∙◌}
use Prim.Native.Nat.{ℕ, ◌-◌, ◌<◌}
use native.Mathlib.Omega.{arith}
use mathlib.Core.Bool.{not, ◌&&◌}
use mathlib.Core.List.{List}
use lib.ListN.{length, get_or, set}
use lib.Dec.{eqb}
use Rattle.table.specs.Bytes.{pick}
use Rattle.table.specs.Closing.{moved_of, one}
use Rattle.bytes_bits.specs.Bits.{bit_at, marked}
use Rattle.closing_laws.specs.SlideLaws.{slid_to, slid-start}
use Rattle.closer_slide.proofs.Laws.{bit-one, moved-next, ones-next, slid-turn}
use Rattle.table.proofs.Rules.{picks}
use Rattle.closer_slide.proofs.slide.Goals as goal

pub loop-n-init : goal.loop-n-init
loop-n-init c =
    let a = c.args in
    (sym (slid-start (marked a.map.now) a.heap.now), refl, refl, search picks, refl, search picks)

pub loop-n-preserved : goal.loop-n-preserved
loop-n-preserved c =
    let m : List ℕ = c.args.map.now in
    let xs : List ℕ = c.args.heap.now in
    let n : ℕ = c.loop-n.n in
    let inv = c.loop-n.invariant in
    let h : n < length xs = omega (arith, c.loop-n-test.true) in
    let b : c.bit-b.result ≡ bit_at m n = c.bit-b.ensures in
    let now : c.keep-moved.new.heap ≡ pick (marked m n) (set c.loop-n.heap c.loop-n.kept (get_or c.loop-n.heap n 0)) c.loop-n.heap = rw b at c.keep-moved.ensures.0 in
    let r : c.keep-moved.result ≡ one (marked m n && not (eqb c.loop-n.kept n)) = rw b at c.keep-moved.ensures.1 in (
      cc (now, inv.0, inv.2, slid-turn (marked m) xs n h),
      cc inv.1,
      omega (arith, inv.2, b, bit-one m n, ones-next (marked m) n),
      omega (arith, inv.3, b),
      omega (arith, inv.4, rw inv.2 at r, moved-next (marked m) n),
      omega (arith, inv.5, c.keep-moved.ensures.2),
    )

pub returns : goal.returns
returns c =
    let a = c.args in
    let m : List ℕ = a.map.now in
    let xs : List ℕ = a.heap.now in
    let inv = c.loop-n.invariant in
    let e : c.loop-n.n ≡ length xs = omega (arith, c.loop-n-test.false, c.loop-n.auto) in
    record { heap_after = inv.0 ∙ ap (λ (k : ℕ). slid_to (marked m) k xs) e; value = (inv.4 ∙ ap (moved_of (marked m)) e, omega (arith, inv.5, e), inv.1) }
