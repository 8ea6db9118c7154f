-- Answers, with fields, places, lengths and counts, as numbers, for callers in C. Definitions only.
use Rattle.std.specs.Prelude.{List, ℕ, ◌+◌, ◌*◌, ◌^◌, eqb}
use Rattle.table.specs.declared.Answer.{Answer}
use Rattle.table.specs.declared.Field.{Field}
use Rattle.table.specs.declared.Place.{Place}
use Rattle.table.specs.declared.Rewritten.{Rewritten}
use Rattle.table.specs.Bytes.{pick}

-- 32 bits: the number in bits 0 to 7, the kind in bits 8 to 15, the position above
unfoldable pub packed : Answer → ℕ
packed a = a.number + 256 * a.kind + 65536 * a.position

-- 64 bits: the answer, in bit 32 whether the record is used, in bits 40 to 47 the field's length
unfoldable pub packed_field : Field → ℕ
packed_field f = packed f.answer + 2 ^ 32 * pick f.used 1 0 + 2 ^ 40 * f.len

-- what a read of a field leaves in the caller's 16 bytes: the field filled up with zeros; where refused, what was there
unfoldable pub value_after : Field → List ℕ → List ℕ
value_after f before = pick (eqb f.answer.number 0) f.bytes before

-- 64 bits: the answer, in bits 32 to 47 the object's length, in bit 48 whether it is present
unfoldable pub packed_place : Place → ℕ
packed_place p = packed p.answer + 2 ^ 32 * p.len + 2 ^ 48 * pick p.present 1 0

-- 64 bits: the answer, from bit 32 on the form's length
unfoldable pub packed_rewritten : Rewritten → ℕ
packed_rewritten r = packed r.answer + 2 ^ 32 * r.len

-- 64 bits: the answer, from bit 32 on a count: of heap bytes that moved, or of looks at records
unfoldable pub packed_counted : Answer → ℕ → ℕ
packed_counted a count = packed a + 2 ^ 32 * count

-- 64 bits: the answer, from bit 32 on one number, from bit 48 on another: an object's length and start, or how many records are written and are there
unfoldable pub packed_pair : Answer → (low high : ℕ) → ℕ
packed_pair a low high = packed a + 2 ^ 32 * low + 2 ^ 48 * high
