use mathlib.Core.Path.{ap, ap₂, ◌∙◌}
use mathlib.Core.List.{List}
use Prim.Native.Nat.{ℕ, ◌-◌}
use native.Mathlib.Omega.{arith}
use lib.ListN.{length, replicate}
use Rattle.table.specs.Bytes.{splice}
use Rattle.bytes_bits.specs.Bits.{marked}
use Rattle.closing_laws.specs.SlidLaws.{ones-upto}
use Rattle.closing_laws.specs.SlideLaws.{slid-zeroed, slid_to}
use Rattle.closer_slide.proofs.close_up.Goals as goal

pub overflow_sub-freed : goal.overflow_sub-freed
overflow_sub-freed c =
    omega (arith, c.requires.1, ones-upto (marked c.args.map.now) (length c.args.heap.now), c.slide-moved.ensures.value.2)

pub fill_zero-requires : goal.fill_zero-requires
fill_zero-requires c =
    omega (arith, c.requires.1, ones-upto (marked c.args.map.now) (length c.args.heap.now), c.slide-moved.ensures.value.2)

pub returns : goal.returns
returns c =
    let xs = c.args.heap.now in
    let f = marked c.args.map.now in
    let k = c.requires.1 in
    let e = c.slide-moved.ensures in record {
      heap_after = c.fill_zero.ensures
          ∙ ap (λ (ys : List ℕ). splice ys c.args.kept (replicate (length c.slide-moved.new.heap - c.args.kept) 0)) e.heap_after
          ∙ ap₂ (λ (m n : ℕ). splice (slid_to f (length xs) xs) n (replicate (m - n) 0)) e.value.2 k
          ∙ slid-zeroed f xs;
      value = (e.value.0, e.value.1);
    }
