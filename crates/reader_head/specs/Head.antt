-- What header and control record say, as far as the tests look at it, and how wide its fields are. Definitions only.
use Rattle.std.specs.Prelude.{List, ℕ, ◌+◌, ◌<◌, get_or}
use Rattle.table.specs.declared.Region.{Region}
use Rattle.table.specs.Bytes.{num}
use Rattle.table.specs.Layout.{region, reference_at}
use Rattle.reader_head.specs.declared.Entry.{Entry}
use Rattle.reader_head.specs.declared.Head.{Head}

abbrev pub long_region : List ℕ → ℕ → Region
long_region t a = region (num t a 4) (num t (a + 4) 4)

abbrev pub entry_in : List ℕ → ℕ → Entry
entry_in t c = record { at = num t c 4; step = num t (c + 4) 2; version = get_or t (c + 6) 0; count = get_or t (c + 7) 0 }

unfoldable pub head_of : List ℕ → Head
head_of t = record {
  signature = num t 0 4;
  size = num t 4 4;
  major = get_or t 8 0;
  controlid = get_or t 64 0;
  controlmajor = get_or t 65 0;
  csl = num t 68 2;
  flags = get_or t 70 0;
  host = reference_at t 72;
  hostversion = get_or t 78 0;
  heap = long_region t 36;
  hfi = entry_in t 80;
  ssns = entry_in t 88;
  security = entry_in t 96;
  discovery = entry_in t 104;
}

-- ---- what the widths of the fields give: no sum over them wraps

abbrev pub NarrowRegion : Region → Type 0
NarrowRegion r = (r.at < 4294967296) × (r.len < 4294967296)

pub record NarrowEntry (e : Entry) : Type 0 where
  pub at : e.at < 4294967296
  pub step : e.step < 65536
  pub count : e.count < 256

pub record Narrow (h : Head) : Type 0 where
  pub csl : h.csl < 65536
  pub host : NarrowRegion h.host
  pub heap : NarrowRegion h.heap
  pub hfi : NarrowEntry h.hfi
  pub ssns : NarrowEntry h.ssns
  pub security : NarrowEntry h.security
  pub discovery : NarrowEntry h.discovery
