use Rattle.std.proofs.Common.{ℕ, List, ◌++◌, sym, ap, ◌∙◌, not, append_assoc, arith}
use Rattle.std.specs.Slice.Iter.{chunks_exact_rest}
use Rattle.bytes_text.proofs.Laws.{past-seen, last-seen}
use Rattle.bytes_text.proofs.zero_by_blocks.Goals as goal

pub loop-block-preserved : goal.loop-block-preserved
loop-block-preserved c =
    let (size, (seen, all, none)) = c.loop-block.invariant in
    let block = c.in-Some.block.now in
    let step = c.in-Some.ensures.steps in (
      step.0 ∙ size,
      (
        seen ++ block,
        all ∙ ap (λ (r : List ℕ). seen ++ r) step.1.0 ∙ sym (append_assoc seen block (chunks_exact_rest c.next.new.self)),
        past-seen seen block none (sym c.if-has_zero.false ∙ c.has_zero-in-loop-block.ensures),
      ),
    )

pub returns : goal.returns
returns c =
    let (size, (seen, all, none)) = c.loop-block.invariant in
    c.has_zero-2.ensures ∙ ap not (last-seen c.args.bytes.now seen (chunks_exact_rest c.loop-block.block-iterator) 32 all none (omega (arith, size, c.in-None.ensures.steps.1.0)))
