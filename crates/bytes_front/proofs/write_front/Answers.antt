use mathlib.Core.Path.{◌≡◌, ap, ap₂, ◌∙◌}
use mathlib.Core.List.{List, ◌++◌}
use Prim.Native.Nat.{ℕ}
use native.Mathlib.Omega.{arith}
use lib.ListN.{length, take, drop, length-take, length-drop}
use lib.Seq.{length-take-le}
use Rattle.table.specs.Bytes.{splice}
use Rattle.laws.specs.ByteLaws.{length-splice}
use Rattle.bytes_writer.proofs.StoreLaws.{lent}
use Rattle.bytes_front.proofs.write_front.Goals as goal

pub returns : goal.returns
returns c =
    let a = c.args in
    let x = a.out.now in
    let p = c.write_header in
    let q = c.write_control in
    let nh : length p.new.part ≡ 64 = p.auto.part ∙ simp (length-take, length-drop) (omega (arith, c.requires)) in
    let y : List ℕ = take 0 x ++ (p.new.part ++ drop 64 (drop 0 x)) in
    let e : y ≡ splice x 0 p.new.part = lent x 0 64 p.new.part nh in
    let l : length y ≡ length x = ap length e ∙ length-splice x 0 p.new.part (omega (arith, nh, c.requires)) in
    let m : length (take 64 (drop 64 y)) ≡ 64 = length-take-le 64 (drop 64 y)
    (rw length-drop (omega (arith, l, c.requires))) in
    lent y 64 64 q.new.part (q.auto.part ∙ m)
    ∙ ap₂ (λ (z r : List ℕ). splice z 64 r) (e ∙ ap (splice x 0) p.ensures) q.ensures
