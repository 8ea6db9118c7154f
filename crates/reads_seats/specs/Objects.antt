-- The objects of an accepted table. Definitions only.
use Rattle.std.specs.Prelude.{List, ℕ, ◌-◌}
use Rattle.table.specs.declared.Place.{Place}
use Rattle.table.specs.Bytes.{part, pick}
use Rattle.table.specs.FixedLayouts.{layout_of}
use Rattle.table.specs.Reads.{content_at, seat_of, whole_at, place_at}
use Rattle.layout_fields.specs.Texts.{is_of_text}

-- the whole object, with the byte that ends it where it is text
unfoldable pub object_in : List ℕ → ℕ → ℕ → ℕ → List ℕ
object_in t k n q = part t (whole_at t q (seat_of t k n)).at (whole_at t q (seat_of t k n)).len

-- how much of m bytes is handed back: text without the byte that ends it
unfoldable pub handed_len : (k q m : ℕ) → ℕ
handed_len k q m = pick (is_of_text (content_at q (layout_of k).refs)) (m - 1) m

-- of a whole object, what is handed back
unfoldable pub handed_place : (k q : ℕ) → Place → Place
handed_place k q w = record { answer = w.answer; present = w.present; at = w.at; len = handed_len k q w.len }

unfoldable pub handed_in : List ℕ → ℕ → ℕ → ℕ → List ℕ
handed_in t k n q = part t (place_at t q (seat_of t k n)).at (place_at t q (seat_of t k n)).len
