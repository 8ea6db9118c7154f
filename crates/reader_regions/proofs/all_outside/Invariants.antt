use Rattle.std.proofs.Common.{◌≡◌, ◌+◌, ◌≤◌, drop}
use Rattle.std.specs.Prelude.{All}
use Rattle.reader_spans.specs.Spans.{Ends}
use Rattle.reader_regions.specs.Regions.{outsides}
use Rattle.reader_regions.proofs.all_outside.Given as goal

abbrev pub invariant-loop-span : goal.invariant-loop-span
invariant-loop-span l =
    (l.count ≤ l.span-index)
    × (l.count + outsides l.lo l.hi (drop l.span-index l.spans) ≡ outsides l.lo l.hi l.spans)
    × All Ends (drop l.span-index l.spans)
