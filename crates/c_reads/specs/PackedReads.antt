-- What reads give, as numbers for callers in C. Definitions only.
use Rattle.std.specs.Prelude.{ℕ}
use Rattle.table.specs.declared.Place.{Place}
use Rattle.reads_whole.specs.declared.Records.{Records}
use Rattle.c_answers.specs.Packed.{packed_pair}

-- an object's length, and its start, which is 0 exactly where it is absent (`place-told` in proofs/Laws.antt)
unfoldable pub packed_span : Place → ℕ
packed_span p = packed_pair p.answer p.len p.at

-- how many records were written, and how many there are
unfoldable pub packed_records : Records → ℕ
packed_records r = packed_pair r.answer r.written r.total
