use Rattle.std.proofs.Common.{◌≡◌, ◌-◌, ◌+◌, ◌∙◌, arith}
use Rattle.std.proofs.lemmas.Grind.{common_steps}
use lib.ListN.{replicate}
use borrow.Rule.Slice.PartMut.{put_mid}
use Rattle.table.specs.Bytes.{splice}
use Rattle.bytes_bits.proofs.Laws.{whole-bytes}
use Rattle.bytes_bits.proofs.mark_bytes.Goals as goal

pub returns : goal.returns
returns c =
    let a = c.args in
    let laid : put_mid a.first (a.first + a.count - a.first) a.map.now c.fill.new.self ≡ splice a.map.now a.first (replicate a.count 255) = grind (arith, common_steps) in
    laid ∙ whole-bytes a.map.now (λ i. omega (arith, c.slice_known-1.given i)) a.first a.count c.requires
