use Rattle.std.proofs.Common.{◌≡◌, ◌+◌, ◌*◌, ◌≤◌, drop}
use Rattle.std.specs.Prelude.{All}
use Rattle.reader_spans.specs.Spans.{Ends}
use Rattle.reader_regions.specs.Regions.{overlaps}
use Rattle.reader_regions.proofs.all_overlaps.Given as goal

abbrev pub invariant-loop-i : goal.invariant-loop-i
invariant-loop-i l =
    (l.count ≤ 6 * l.i)
    × (l.count + overlaps (drop l.i l.spans) ≡ overlaps l.spans)
    × All Ends (drop l.i l.spans)
