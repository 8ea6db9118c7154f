-- The six regions of a table as spans, and how many faults they have between them. Definitions only.
use Rattle.std.specs.Prelude.{List, [], ◌∷◌, ℕ, ◌+◌, ◌*◌}
use Rattle.table.specs.declared.Region.{Region}
use Rattle.reader_head.specs.declared.Entry.{Entry}
use Rattle.reader_head.specs.declared.Head.{Head}
use Rattle.reader_spans.specs.declared.Span.{Span}
use Rattle.reader_spans.specs.Spans.{outside, overlap}

abbrev pub host_span : Region → Span
host_span r = record { present = 1; at = r.at; len = r.len }

unfoldable pub list_span : Entry → Span
list_span e = record { present = e.count; at = e.at; len = e.count * e.step }

abbrev pub heap_span : Region → Span
heap_span r = record { present = r.len; at = r.at; len = r.len }

abbrev pub spans_of : Head → List Span
spans_of h =
    host_span h.host
    ∷ list_span h.hfi ∷ list_span h.ssns ∷ list_span h.security ∷ list_span h.discovery
    ∷ heap_span h.heap ∷ []

abbrev pub outsides : ℕ → ℕ → List Span → ℕ
outsides lo hi [] = 0
outsides lo hi (s ∷ ss) = outside lo hi s + outsides lo hi ss

abbrev pub overlaps_of : Span → List Span → ℕ
overlaps_of x [] = 0
overlaps_of x (y ∷ ys) = overlap x y + overlaps_of x ys

abbrev pub overlaps : List Span → ℕ
overlaps [] = 0
overlaps (x ∷ xs) = overlaps_of x xs + overlaps xs

unfoldable pub misplaced : Head → ℕ
misplaced h = outsides (64 + h.csl) h.size (spans_of h) + overlaps (spans_of h)
