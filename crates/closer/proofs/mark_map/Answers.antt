use mathlib.Core.Path.{◌≡◌, sym, ap, ◌∙◌}
use Prim.Native.Nat.{ℕ}
use native.Mathlib.Omega.{arith}
use lib.ListN.{length, replicate, length-replicate}
use Rattle.table.specs.Closing.{map_of, marks}
use Rattle.closer.proofs.Laws.{all-zero}
use Rattle.closer.proofs.mark_map.Goals as goal

pub mark_sites-requires : goal.mark_sites-requires
mark_sites-requires c =
    let m = c.args.map.now in
    let z : c.fill_zero.new.out ≡ replicate (length m) 0 = c.fill_zero.ensures ∙ all-zero m in
    let l : length c.fill_zero.new.out ≡ length m = ap length z ∙ length-replicate (length m) 0 in
    (c.requires.0, omega (arith, l, c.requires.1), z ∙ ap (λ (n : ℕ). replicate n 0) (sym l))

pub returns : goal.returns
returns c =
    let m = c.args.map.now in
    let l : length c.fill_zero.new.out ≡ length m = ap length (c.fill_zero.ensures ∙ all-zero m) ∙ length-replicate (length m) 0 in
    c.mark_sites.ensures ∙ ap (map_of (marks c.args.t.now) 0) l
