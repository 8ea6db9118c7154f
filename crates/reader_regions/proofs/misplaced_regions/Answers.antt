use Rattle.std.proofs.Common.{[], ◌∷◌, arith}
use Rattle.std.specs.Prelude.{All}
use Rattle.reader_spans.specs.Spans.{Ends}
use Rattle.reader_regions.specs.Regions.{misplaced}
use Rattle.reader_regions.proofs.Laws.{all-six}
use Rattle.reader_regions.proofs.misplaced_regions.Goals.{After-heap_span}
use Rattle.reader_regions.proofs.misplaced_regions.Goals as goal

-- the ends of all six regions are sums that don't wrap
all-end : (c : After-heap_span)
    → All Ends (c.host_span.result ∷ c.list_span.result ∷ c.list_span-2.result ∷ c.list_span-3.result ∷ c.list_span-4.result ∷ c.heap_span.result ∷ [])
all-end c =
    all-six c.host_span.result c.list_span.result c.list_span-2.result c.list_span-3.result c.list_span-4.result c.heap_span.result
    c.host_span.ensures.1 c.list_span.ensures.1 c.list_span-2.ensures.1 c.list_span-3.ensures.1 c.list_span-4.ensures.1 c.heap_span.ensures.1

pub all_outside-requires : goal.all_outside-requires
all_outside-requires c = all-end (goal.at.all_outside-requires c).After-heap_span

pub all_overlaps-requires : goal.all_overlaps-requires
all_overlaps-requires c = (all-end (goal.at.all_overlaps-requires c).After-heap_span, omega arith)

pub returns : goal.returns
unfolding misplaced
returns c =
    rw (
      c.all_outside.ensures.0,
      c.all_overlaps.ensures.0,
      c.host_span.ensures.0,
      c.list_span.ensures.0,
      c.list_span-2.ensures.0,
      c.list_span-3.ensures.0,
      c.list_span-4.ensures.0,
      c.heap_span.ensures.0,
    )
