-- Spans, with faults counted: one that lies outside, two that overlap. Definitions only.
use Rattle.std.specs.Prelude.{◌&&◌, ℕ, ◌+◌, ◌<◌, leb, eqb}
use Rattle.table.specs.declared.Region.{Region}
use Rattle.table.specs.Bytes.{pick}
use Rattle.table.specs.Layout.{region}
use Rattle.table.specs.Rules.{apart}
use Rattle.reader_spans.specs.declared.Span.{Span}

-- no sum over it wraps
abbrev pub Ends : Span → Type 0
Ends s = s.at + s.len < 8589934592

unfoldable pub outside : ℕ → ℕ → Span → ℕ
outside lo hi s = pick (eqb s.present 0) 0 (pick (leb lo s.at && leb (s.at + s.len) hi) 0 1)

abbrev pub region_of : Span → Region
region_of s = region s.at s.len

unfoldable pub overlap : Span → Span → ℕ
overlap x y = pick (eqb x.present 0) 0 (pick (eqb y.present 0) 0 (pick (apart (region_of x) (region_of y)) 0 1))
