-- The first call, by what it is told: header bytes 10 to 35, counts and the driver signature. Definitions only.
use Rattle.std.specs.Prelude.{List, ℕ, ◌<◌}
use Rattle.table.specs.declared.State.{State}
use Rattle.table.specs.Layout.{Slots, nil, bytes}
use Rattle.table.specs.FixedLayouts.{header}
use Rattle.table.specs.Builder.{Outcome, begin}
use Rattle.bytes_front.specs.declared.Counts.{Counts}

unfoldable pub header_told : List ℕ → Slots header.refs
unfolding header
header_told signature = bytes signature nil

unfoldable pub begin_with : State → (buffer oem counts signature : List ℕ) → Outcome
begin_with s buffer oem counts signature = begin s buffer oem counts (header_told signature)

-- counts are bytes
abbrev pub SmallCounts : Counts → Type 0
SmallCounts c = (c.hfi < 256) × (c.ssns < 256) × (c.security < 256) × (c.discovery < 256)
