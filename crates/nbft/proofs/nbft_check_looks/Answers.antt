use mathlib.Core.Path.{ap₂, ◌∙◌}
use native.Mathlib.Omega.{arith}
use Rattle.laws.specs.Fields.{Bytes}
use Rattle.laws.specs.LookLaws.{looks-few}
use Rattle.laws.specs.Positions.{check-placed}
use Rattle.c_answers.specs.Packed.{packed_counted}
use Rattle.nbft.proofs.nbft_check_looks.Goals as goal

pub pack_counted-requires : goal.pack_counted-requires
pack_counted-requires c =
    let t = c.args.t.now in
    let b : Bytes t = λ i. omega (arith, c.type_inv.t i) in
    let e = c.check_looks-looked.ensures in
    (rw e.0 (check-placed t b), rw e.1 (looks-few t b))

pub returns : goal.returns
returns c = let e = c.check_looks-looked.ensures in c.pack_counted.ensures ∙ ap₂ packed_counted e.0 e.1
