use Rattle.std.proofs.Common.{◌≡◌, ◌+◌, true, sym, ap, ◌∙◌, not, take, refl, arith}
use Rattle.laws.specs.TextLaws.{no_zero}
use Rattle.bytes_text.proofs.Laws.{in_block, past-block, last_block}
use Rattle.bytes_text.proofs.zero_at_ends.Goals as goal

pub returns-then-has_zero : goal.returns-then-has_zero
returns-then-has_zero c =
    let a = c.args in
    c.if-has_zero.true ∙ in_block a.bytes.now 0 a.count (sym c.if-has_zero.true ∙ c.has_zero.ensures)

pub returns-else-has_zero : goal.returns-else-has_zero
returns-else-has_zero c =
    let a = c.args in
    let front : no_zero (take (0 + a.count) a.bytes.now) ≡ true = past-block 0 a.count a.bytes.now refl (sym c.if-has_zero.false ∙ c.has_zero.ensures) in
    c.has_zero-else-has_zero.ensures ∙ ap not (last_block a.bytes.now (0 + a.count) a.count front (omega (arith, c.requires.1)))
