use Rattle.std.proofs.Common.{◌≡◌, ◌+◌, ◌≤◌, drop}
use Rattle.std.specs.Prelude.{All}
use Rattle.reader_spans.specs.Spans.{Ends}
use Rattle.reader_regions.specs.Regions.{overlaps_of}
use Rattle.reader_regions.proofs.overlaps_of.Given as goal

abbrev pub invariant-loop-other : goal.invariant-loop-other
invariant-loop-other l =
    (l.count ≤ l.other-index)
    × (l.count + overlaps_of l.one (drop l.other-index l.others) ≡ overlaps_of l.one l.others)
    × All Ends (drop l.other-index l.others)
