use Rattle.std.proofs.Common.{◌≡◌, true, List, ℕ, ◌++◌}
use Rattle.std.specs.Slice.Iter.{chunks_exact_rest, chunks_exact_size}
use Rattle.laws.specs.TextLaws.{no_zero}
use Rattle.bytes_text.proofs.zero_by_blocks.Given as goal

-- the blocks that were looked at have no zero
abbrev pub invariant-loop-block : goal.invariant-loop-block
invariant-loop-block l =
    (chunks_exact_size l.block-iterator ≡ 32)
    × ((seen : List ℕ) × (l.bytes ≡ seen ++ chunks_exact_rest l.block-iterator) × (no_zero seen ≡ true))
