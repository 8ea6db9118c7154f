use Rattle.reader_lists.proofs.Laws.{flags-stand, flag-within}
use Rattle.laws.specs.ListWalk.{flag_is}
use Rattle.table.specs.FixedLayouts.{layout_of}
use Rattle.table.specs.Bytes.{odd}
use lib.ListN.{get_or}
use Prim.Native.Nat.{ℕ}
use mathlib.Core.Path.{sym, ap, ◌∙◌}
use native.Mathlib.Nat.{zero-add}
use native.Mathlib.Omega.{arith}
use Rattle.reads_seats.proofs.seats.is_used.Goals as goal

pub bounds-bytes-flags : goal.bounds-bytes-flags
bounds-bytes-flags c = omega (arith, c.flags_at-flags.ensures, flag-within c.args.kind c.requires.0 c.requires.1, c.requires.2)

pub returns : goal.returns
returns c = let x = c.args.bytes.now in let l = layout_of c.args.kind in
    rw c.flags_at-flags.ensures (sym (flag_is l x 0 (flags-stand c.args.kind c.requires.0 c.requires.1) ∙ ap (λ (i : ℕ). odd (get_or x i 0)) (zero-add l.shape.flags.at)))
