-- The driver signature. Definitions only.
use Rattle.std.specs.Prelude.{ℕ, true, List}
use Rattle.table.specs.Bytes.{part}
use Rattle.table.specs.FixedLayouts.{layout_of}
use Rattle.table.specs.Reads.{seat, whole_at}

abbrev pub driver_of : List ℕ → List ℕ
driver_of t = part t (whole_at t 44 (seat (layout_of 0) 0 true)).at (whole_at t 44 (seat (layout_of 0) 0 true)).len
