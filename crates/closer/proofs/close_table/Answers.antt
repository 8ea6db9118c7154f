use mathlib.Core.Path.{◌≡◌, sym, ap, ap₂, ◌∙◌}
use mathlib.Core.List.{List}
use Prim.Native.Nat.{ℕ, ◌+◌, ◌-◌, ◌≤◌}
use native.Mathlib.Omega.{arith}
use lib.ListN.{length, take, drop}
use Rattle.table.specs.Bytes.{num}
use Rattle.table.specs.Numbers.{heap_in}
use Rattle.table.specs.Closing.{moved_of, ones, slid}
use Rattle.laws.specs.Fields.{Bytes}
use Rattle.layout_images.proofs.Laws.{part-long}
use Rattle.reader.proofs.AcceptedLaws.{checked, laid}
use Rattle.bytes_bits.specs.Bits.{bits_below, marked}
use Rattle.closer.proofs.Laws.{closed_of, heap-closed, heap-fits, kept-is, kept-ones, long-enough, moved-is, stored-long}
use Rattle.closer.proofs.close_table.Goals.{After-ones_below-kept, After-slice_known-1}
use Rattle.closer.proofs.close_table.Goals as goal

-- the table's items as they were
bytes : (c : After-slice_known-1) → Bytes c.args.t.now
bytes c i = omega (arith, c.type_inv.t i)

module _ (c : After-ones_below-kept) (is-bytes : Bytes c.args.t.now) where
  -- the table as it was, and as it is with its offsets stored
  abbrev t : List ℕ
  t = c.args.t.now

  abbrev u : List ℕ
  u = c.store_sites.new.t

  same-long : length u ≡ length t
  same-long = ap length c.store_sites.ensures ∙ stored-long t is-bytes (checked t c.requires.0) c.requires.1

  -- the heap lies in it
  heap-in : c.u32_at-start.result + c.u32_at-size.result ≤ length u
  unfolding heap_in
  heap-in = omega (arith, same-long, heap-fits t is-bytes (checked t c.requires.0) c.requires.1, c.u32_at-start.ensures.0, c.u32_at-size.ensures.0)

  -- what is lent of it
  lent-part : List ℕ
  lent-part = take (c.u32_at-start.result + c.u32_at-size.result - c.u32_at-start.result) (drop c.u32_at-start.result u)

  lent-long : length lent-part ≡ (heap_in t).len
  unfolding heap_in lent-part
  lent-long =
      let a = c.u32_at-start.result in
      let n = c.u32_at-size.result in
      let z : a + n - a ≡ n = omega arith in
      ap (λ (j : ℕ). length (take j (drop a u))) z ∙ part-long u a n heap-in ∙ c.u32_at-size.ensures.0

  part-kept : c.ones_below-kept.result ≡ ones (marked c.args.map.now) (length lent-part)
  unfolding heap_in
  part-kept =
      c.ones_below-kept.ensures
      ∙ ap₂ bits_below c.requires.3 c.u32_at-size.ensures.0
      ∙ kept-ones t (length c.args.map.now) c.requires.2
      ∙ ap₂ (λ (x : List ℕ) (j : ℕ). ones (marked x) j) (sym c.requires.3) (sym lent-long)

pub u32_at-length-requires : goal.u32_at-length-requires
u32_at-length-requires c = omega (arith, (laid c.args.t.now c.requires.0).lent)

pub u32_at-start-requires : goal.u32_at-start-requires
u32_at-start-requires c = omega (arith, (laid c.args.t.now c.requires.0).lent)

pub u32_at-size-requires : goal.u32_at-size-requires
u32_at-size-requires c = omega (arith, (laid c.args.t.now c.requires.0).lent)

pub ones_below-kept-requires : goal.ones_below-kept-requires
unfolding heap_in
ones_below-kept-requires c =
    let n = c.u32_at-size in
    (omega (arith, c.requires.2, n.ensures.0), omega (arith, n.ensures.1))

pub slice_bounds-close_up-end : goal.slice_bounds-close_up-end
slice_bounds-close_up-end c =
    let g = goal.at.slice_bounds-close_up-end c in
    omega (arith, heap-in g.After-ones_below-kept (bytes g.After-slice_known-1))

pub close_up-moved-requires : goal.close_up-moved-requires
unfolding lent-part
close_up-moved-requires c =
    let g = goal.at.close_up-moved-requires c in
    let d = g.After-ones_below-kept in
    let b = bytes g.After-slice_known-1 in
    (omega (arith, lent-long d b, c.requires.2), part-kept d b)

pub finish-requires : goal.finish-requires
finish-requires c =
    let g = goal.at.finish-requires c in
    let d = g.After-ones_below-kept in
    let b = bytes g.After-slice_known-1 in
    let n = c.u32_at-length.ensures.0 in (
      omega (arith, long-enough c.args.t.now b (checked c.args.t.now c.requires.0) c.requires.1, n),
      omega (arith, (laid c.args.t.now c.requires.0).sized, n, c.t-2-1.given.1, same-long d b),
    )

pub returns : goal.returns
unfolding heap_in lent-part
returns c =
    let g = goal.at.returns c in
    let d = g.After-ones_below-kept in
    let b = bytes g.After-slice_known-1 in
    let t = c.args.t.now in
    let m = c.args.map.now in
    let h = c.requires.2 in
    let y = c.close_up-moved in
    let n = c.u32_at-size.ensures in
    let a = c.u32_at-start.ensures.0 in
    let e = c.store_sites.ensures in
    let kept : c.ones_below-kept.result ≡ slid t (num t 40 4) = c.ones_below-kept.ensures ∙ ap₂ bits_below c.requires.3 n.0 ∙ kept-is t (length m) h in (
      y.ensures.value.0 ∙ ap₂ (λ (x : List ℕ) (j : ℕ). moved_of (marked x) j) c.requires.3 (lent-long d b) ∙ moved-is t (length m) h,
      omega (arith, y.ensures.value.1, lent-long d b, n.0, n.1),
      c.finish.ensures
          ∙ closed_of t _ _ _ c.u32_at-length.ensures.0 kept
          (heap-closed t c.store_sites.new.t y.new.heap m (length m) _ _ h c.requires.3 a n.0 e (heap-in d b) y.auto.heap y.ensures.heap_after),
    )
