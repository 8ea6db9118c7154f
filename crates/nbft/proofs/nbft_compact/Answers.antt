use Rattle.nbft.proofs.Laws.{close-placed}
use Rattle.c_answers.specs.Packed.{packed_counted}
use lib.ListN.{length}
use native.Mathlib.Omega.{arith}
use mathlib.Core.Path.{ap₂, ◌∙◌}
use Rattle.nbft.proofs.nbft_compact.Goals as goal

pub pack_counted-requires : goal.pack_counted-requires
pack_counted-requires c =
    let a = c.args in
    let e = c.compact-done.ensures.answer_value in
    (rw e.0 (close-placed a.t.now (λ i. omega (arith, c.slice_known-1.given i)) (length a.map.now)), e.2)

pub returns : goal.returns
returns c =
    let e = c.compact-done.ensures in
    record { value = c.pack_counted.ensures ∙ ap₂ packed_counted e.answer_value.0 e.answer_value.1; t_after = e.t_after }
