-- Nothing is lost in a packed number: equal numbers are of equal answers, and of equal lengths and counts. Assumes nothing.
use mathlib.Core.Path.{◌≡◌, refl}
use mathlib.Core.Bool.{Bool, true, false}
use Prim.Native.Nat.{ℕ, ◌+◌, ◌*◌, ◌^◌, ◌<◌}
use native.Mathlib.Omega.{arith}
use Rattle.table.specs.declared.Answer.{Answer}
use Rattle.table.specs.declared.Field.{Field}
use Rattle.table.specs.declared.Place.{Place}
use Rattle.table.specs.declared.Rewritten.{Rewritten}
use Rattle.table.specs.Bytes.{pick}
use Rattle.c_answers.specs.Packed.{packed, packed_field, packed_place, packed_rewritten, packed_counted, packed_pair}

-- numbers and kinds are bytes, and so is every position of a record
abbrev pub Small : Answer → Type 0
Small a = (a.number < 256) × (a.kind < 256) × (a.position < 256)

same_parts : (a b : Answer) → a.number ≡ b.number → a.kind ≡ b.kind → a.position ≡ b.position → a ≡ b
same_parts a b n k p = λ i. record { number = n i; kind = k i; position = p i }

-- what C has of an answer is all of it
pub packed-same : (a b : Answer) → Small a → Small b → packed a ≡ packed b → a ≡ b
unfolding packed
packed-same a b s t e = same_parts a b (omega (arith, s, t, e)) (omega (arith, s, t, e)) (omega (arith, s, t, e))

-- an answer takes 32 bits, so that what stands above it is not lost either
above : (a b : Answer) (m n : ℕ) → Small a → Small b → packed a + 2 ^ 32 * m ≡ packed b + 2 ^ 32 * n → (a ≡ b) × (m ≡ n)
unfolding packed
above a b m n s t e = (packed-same a b s t (omega (arith, s, t, e)), omega (arith, s, t, e))

-- of a rewrite: the answer and the length
pub rewritten-same : (r q : Rewritten) → Small r.answer → Small q.answer → packed_rewritten r ≡ packed_rewritten q → (r.answer ≡ q.answer) × (r.len ≡ q.len)
unfolding packed_rewritten
rewritten-same r q s t e = above r.answer q.answer r.len q.len s t e

-- of a closing: the answer, and how many bytes moved
pub counted_same : (a b : Answer) (m n : ℕ) → Small a → Small b → packed_counted a m ≡ packed_counted b n → (a ≡ b) × (m ≡ n)
unfolding packed_counted
counted_same a b m n s t e = above a b m n s t e

-- of an object's place, or of records: the answer and both numbers
pub pair_same : (a b : Answer) (m n p q : ℕ) → Small a → Small b → m < 65536 → p < 65536 → packed_pair a m n ≡ packed_pair b p q → (a ≡ b) × (m ≡ p) × (n ≡ q)
unfolding packed_pair
pair_same a b m n p q s t l k e =
    let h = above a b (m + 65536 * n) (p + 65536 * q) s t (omega (arith, e)) in
    (h.0, omega (arith, h.1, l, k), omega (arith, h.1, l, k))

-- one bit, and what stands eight bits above it
bits : (c d : Bool) (m n : ℕ) → pick c 1 0 + 256 * m ≡ pick d 1 0 + 256 * n → (c ≡ d) × (m ≡ n)
bits true true m n e = (refl, omega (arith, e))
bits true false m n e = absurd (omega (arith, e))
bits false true m n e = absurd (omega (arith, e))
bits false false m n e = (refl, omega (arith, e))

-- sixteen bits, and one above them
top_bit : (c d : Bool) (m n : ℕ) → m < 65536 → n < 65536 → m + 65536 * pick c 1 0 ≡ n + 65536 * pick d 1 0 → (c ≡ d) × (m ≡ n)
top_bit true true m n a b e = (refl, omega (arith, e))
top_bit true false m n a b e = absurd (omega (arith, e, a, b))
top_bit false true m n a b e = absurd (omega (arith, e, a, b))
top_bit false false m n a b e = (refl, omega (arith, e))

-- of an object's place: the answer, whether it is present, and the length
pub place_same : (p q : Place) → Small p.answer → Small q.answer → p.len < 65536 → q.len < 65536 → packed_place p ≡ packed_place q
    → (p.answer ≡ q.answer) × (p.present ≡ q.present) × (p.len ≡ q.len)
unfolding packed_place
place_same p q s t l m e =
    let h = above p.answer q.answer (p.len + 65536 * pick p.present 1 0) (q.len + 65536 * pick q.present 1 0) s t (omega (arith, e)) in
    let k = top_bit p.present q.present p.len q.len l m h.1 in
    (h.0, k.0, k.1)

-- of a field: the answer, whether its record is used, and the length
pub field-same : (f g : Field) → Small f.answer → Small g.answer → packed_field f ≡ packed_field g
    → (f.answer ≡ g.answer) × (f.used ≡ g.used) × (f.len ≡ g.len)
unfolding packed_field
field-same f g s t e =
    let h = above f.answer g.answer (pick f.used 1 0 + 256 * f.len) (pick g.used 1 0 + 256 * g.len) s t (omega (arith, e)) in
    let k = bits f.used g.used f.len g.len h.1 in
    (h.0, k.0, k.1)
