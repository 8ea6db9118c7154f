use Rattle.std.proofs.Common.{◌≡◌, ℕ, ◌+◌, ◌-◌, ◌%◌, List, length, take, drop, ap, ◌∙◌, arith, length-drop, take_all}
use native.Mathlib.Nat.{sub-zero}
use Rattle.table.specs.Bytes.{total}
use Rattle.reads_by_seat.proofs.SumLaws.{total-parts}
use Rattle.reads_by_seat.proofs.sums.sum_but.Goals as goal

pub returns : goal.returns
returns c =
    let a = c.args in
    let b = a.bytes.now in
    let end = a.at + a.len in
    let e : c.sum8-before.result ≡ total (take a.at b) % 256 =
    c.sum8-before.ensures ∙ ap (λ (m : ℕ). total (take m b) % 256) (sub-zero a.at) in
    let f : c.sum8-behind.result ≡ total (drop end b) % 256 =
    c.sum8-behind.ensures ∙ ap (λ (x : List ℕ). total x % 256) (take_all (length b - end) (drop end b) (rw length-drop (omega arith))) in
    omega (arith, e, f, total-parts b a.at a.len, c.wrapping_add_u8.ensures)
