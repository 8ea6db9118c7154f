-- Rules 2 (docs/RULES.md), what a layout is: the lines of its figure, which bits of each byte count, where fields and references stand. Definitions only.
use Rattle.std.specs.Prelude.{Bool, true, false, not, ◌&&◌, List, [], ◌∷◌, ◌++◌, ℕ, zero, suc, ◌+◌, ◌-◌, ◌*◌, ◌/◌, ◌%◌, ◌^◌, length, get_or, replicate, leb, eqb}
use Prim.Native.String.{String}
use Rattle.table.specs.declared.Need.{Need}
use Rattle.table.specs.declared.Region.{Region}
use Rattle.table.specs.Bytes.{pick, part, num, bits, odd, every, once, same, Edit}

-- A byte's bits that count: those below the modulus n (256 all, 1 none); or modulo m₀ or m₁ as bit d (a power of two) of byte f is 0 or 1
pub data Keep : Type 0 where
  low : ℕ → Keep
  sel : (f d m₀ m₁ : ℕ) → Keep

abbrev pub mod_of : Keep → List ℕ → ℕ
mod_of (low n) w = n
mod_of (sel f d m₀ m₁) w = pick (eqb (get_or w f 0 % (2 * d) / d) 0) m₀ m₁

-- each byte of xs modulo what ks keeps of it; w is what the conditions look at
abbrev pub kept : List ℕ → List Keep → List ℕ → List ℕ
kept w [] xs = []
kept w (k ∷ ks) [] = 0 ∷ kept w ks []
kept w (k ∷ ks) (x ∷ xs) = x % mod_of k w ∷ kept w ks xs

-- a record's image: its fields, with reserved bytes and bits, ignored fields and references as zero
unfoldable pub image : List Keep → List ℕ → List ℕ
image ks x = kept x ks x

abbrev pub region : ℕ → ℕ → Region
region a n = record { at = a; len = n }

-- the reference that stands at place r: where what it names starts, and how long that is
abbrev pub reference_at : List ℕ → ℕ → Region
reference_at t r = region (num t r 4) (num t (r + 4) 2)

-- the bytes that it names
abbrev pub named_at : List ℕ → ℕ → List ℕ
named_at t r = part t (reference_at t r).at (reference_at t r).len

-- A stretch of a record: a field of so many bytes; one of which only the lowest bits count; one of which so many more count if a bit of another byte is set; one
-- that counts only if a bit of another byte is set; a reference; bytes of the frame, which are judged and laid out apart from the meaning; or reserved ones. Only
-- the first four are fields
pub data Stretch : Type 0 where
  field : (width : ℕ) → Stretch
  flags : (width count : ℕ) → Stretch
  flags_if : (width count byte bit further : ℕ) → Stretch
  only_if : (width byte bit : ℕ) → Stretch
  reference : Stretch
  frame : (width : ℕ) → Stretch
  reserved : (width : ℕ) → Stretch

-- the modulus of a byte of which the lowest b bits count
abbrev pub below : ℕ → ℕ
below b = pick (leb 8 b) 256 (2 ^ b)

-- of a field's n bytes, those of the lowest b bits
abbrev pub lowest : ℕ → ℕ → List Keep
lowest zero b = []
lowest (suc n) b = low (below b) ∷ lowest n (b - 8)

-- the lowest b bits, or the lowest c where bit d (a power of two) of byte f is set
abbrev pub lowest_if : ℕ → ℕ → ℕ → ℕ → ℕ → List Keep
lowest_if zero f d b c = []
lowest_if (suc n) f d b c = sel f d (below b) (below c) ∷ lowest_if n f d (b - 8) (c - 8)

-- which bits of a stretch's bytes count
abbrev pub counting : Stretch → List Keep
counting (field n) = replicate n (low 256)
counting (flags n b) = lowest n b
counting (flags_if n b f d m) = lowest_if n f (2 ^ d) b (b + m)
counting (only_if n f b) = replicate n (sel f (2 ^ b) 1 256)
counting reference = replicate 6 (low 1)
counting (frame n) = replicate n (low 1)
counting (reserved n) = replicate n (low 1)

-- the field that a stretch is whose first byte is a, if it is one
abbrev pub field_from : ℕ → Stretch → List Region
field_from a (field n) = region a n ∷ []
field_from a (flags n b) = region a n ∷ []
field_from a (flags_if n b f d m) = region a n ∷ []
field_from a (only_if n f b) = region a n ∷ []
field_from a reference = []
field_from a (frame n) = []
field_from a (reserved n) = []

-- A line of a figure: a stretch, its first byte and its name. That each line begins where the one before it ends is `figures-in-place`
pub record Line : Type 0 where
  pub first : ℕ
  pub name : String
  pub stretch : Stretch

abbrev pub at : ℕ → String → Stretch → Line
at a name s = record { first = a; name = name; stretch = s }

abbrev pub keep_of : List Line → List Keep
keep_of [] = []
keep_of (l ∷ ls) = counting l.stretch ++ keep_of ls

abbrev pub fields_of : List Line → List Region
fields_of [] = []
fields_of (l ∷ ls) = field_from l.first l.stretch ++ fields_of ls

-- A record's own bytes as they are written down: its lines, the bytes that have one right value (ID, version, type), its index and its flags (`nowhere`: none), and
-- the lowest bits of the two-bit fields among the flags
pub record Figure : Type 0 where
  pub lines : List Line
  pub fixed : List Edit
  pub index : Region
  pub flags : Region
  pub pairs : List ℕ

abbrev pub nowhere : Region
nowhere = region 0 0

-- The same as definitions use it: with which bits count, the fields, and of a heap record a further rule, of its owner's image and its own
pub record Shape : Type 0 where
  pub lines : List Line
  pub keep : List Keep
  pub fields : List Region
  pub fixed : List Edit
  pub index : Region
  pub flags : Region
  pub pairs : List ℕ
  pub further : List ℕ → List ℕ → Bool

-- no further rule
abbrev pub no_further : List ℕ → List ℕ → Bool
no_further owner img = true

abbrev pub shaped : Figure → Shape
shaped g = record {
  lines = g.lines;
  keep = keep_of g.lines;
  fields = fields_of g.lines;
  fixed = g.fixed;
  index = g.index;
  flags = g.flags;
  pairs = g.pairs;
  further = no_further;
}

-- the same with a further rule
abbrev pub asking : (List ℕ → List ℕ → Bool) → Shape → Shape
asking rule s = record {
  lines = s.lines;
  keep = s.keep;
  fields = s.fields;
  fixed = s.fixed;
  index = s.index;
  flags = s.flags;
  pairs = s.pairs;
  further = rule;
}

-- Where a record stands: its position (0 outside lists), and how many records of each kind there are
pub record Env : Type 0 where
  pub position : ℕ
  pub count : ℕ → ℕ

abbrev pub env : (ℕ → ℕ) → ℕ → Env
env count n = record { position = n; count = count }

abbrev pub is_valid : Shape → List ℕ → Bool
is_valid s img = odd (get_or img s.flags.at 0)

abbrev pub fixed_right : List Edit → List ℕ → Bool
fixed_right [] img = true
fixed_right (e ∷ es) img = same (part img e.at (length e.put)) e.put && fixed_right es img

-- no two-bit field is 3
abbrev pub pairs_right : Shape → List ℕ → Bool
pairs_right s img = every (λ lo. not (eqb (bits s.flags.at s.flags.len (lo + 1) lo img) 3)) s.pairs

-- ID, version and type, index and two-bit fields of a record's image
unfoldable pub is_right : Shape → Env → List ℕ → Bool
is_right s e img = fixed_right s.fixed img && (eqb (num img s.index.at s.index.len) e.position && pairs_right s img)

-- What a present object holds: any bytes, text, or positions in the list of HFIs
pub data Content : Type 0 where
  anything : Content
  text : Content
  positions : Content

-- exactly one zero byte, the last
abbrev pub is_text : List ℕ → Bool
is_text [] = false
is_text (b ∷ []) = eqb b 0
is_text (b ∷ c ∷ cs) = not (eqb b 0) && is_text (c ∷ cs)

-- at most n of them, none twice
abbrev pub are_positions : ℕ → List ℕ → Bool
are_positions n b = leb (length b) n && once b

-- what a content asks of the bytes of a present object: 0, or the number returned
abbrev pub rule_of : Content → Env → List ℕ → ℕ
rule_of anything e b = 0
rule_of text e b = pick (is_text b) 0 18
rule_of positions e b = pick (are_positions (e.count 3) b) 0 20

-- The references of a record kind, by ascending offset: to an object of plain bytes, or to a heap record with references of its own. `need img` says whether
-- the reference counts, by the record's image
pub data Refs : Type 0 where
  none : Refs
  plain : (p : ℕ) (need : List ℕ → Need) (content : Content) (rest : Refs) → Refs
  nest : (p : ℕ) (need : List ℕ → Need) (shape : Shape) (own rest : Refs) → Refs

abbrev pub offsets : Refs → List ℕ
offsets none = []
offsets (plain p need content rest) = p ∷ offsets rest
offsets (nest p need shape own rest) = p ∷ offsets rest

-- What the references of a kind give: the bytes of a plain object ([]: absent); of a heap record nothing, or its image and what its own references give
pub data Slots : Refs → Type 0 where
  nil : Slots none
  bytes : {p : ℕ} {need : List ℕ → Need} {content : Content} {rest : Refs} → List ℕ → Slots rest → Slots (plain p need content rest)
  gone : {p : ℕ} {need : List ℕ → Need} {shape : Shape} {own rest : Refs} → Slots rest → Slots (nest p need shape own rest)
  rec : {p : ℕ} {need : List ℕ → Need} {shape : Shape} {own rest : Refs} → List ℕ → Slots own → Slots rest → Slots (nest p need shape own rest)

-- the object at reference q, [] where it is absent or no plain object
unfoldable pub slot_at : {rs : Refs} → ℕ → Slots rs → List ℕ
slot_at q nil = []
slot_at q (bytes {p = p} x ss) = pick (eqb q p) x (slot_at q ss)
slot_at q (gone ss) = slot_at q ss
slot_at q (rec img own ss) = slot_at q ss

-- the image of the heap record at reference q, [] where there is none
unfoldable pub rec_at : {rs : Refs} → ℕ → Slots rs → List ℕ
rec_at q nil = []
rec_at q (bytes x ss) = rec_at q ss
rec_at q (gone ss) = rec_at q ss
rec_at q (rec {p = p} img own ss) = pick (eqb q p) img (rec_at q ss)

-- An index that a record holds: it names a position in the list of a kind
pub record Index : Type 0 where
  pub kind : ℕ
  pub position : ℕ

abbrev pub index : ℕ → ℕ → Index
index k n = record { kind = k; position = n }

-- an index in front of others, unless it is not to be resolved
abbrev pub unless : Bool → Index → List Index → List Index
unless true x xs = xs
unless false x xs = x ∷ xs

-- the indexes of kind k that bytes are
abbrev pub each : ℕ → List ℕ → List Index
each k [] = []
each k (n ∷ ns) = index k n ∷ each k ns

-- A record kind: its own bytes, its references, the indexes that are resolved, in order, and whether a used record asks for header minor 1
pub record Layout : Type 0 where
  pub kind : ℕ
  pub shape : Shape
  pub refs : Refs
  pub indexes : List ℕ → Slots refs → List Index
  pub newer : Slots refs → Bool

-- each index names a used position: `named k n` says that position n of kind k is used
abbrev pub names_used : (ℕ → ℕ → Bool) → List Index → Bool
names_used named xs = every (λ (x : Index). named x.kind x.position) xs

abbrev pub base_of : Layout → ℕ
base_of l = length l.shape.keep

-- A record of a list: unused, or its image and its objects
pub data Entry (l : Layout) : Type 0 where
  unused : Entry l
  used : List ℕ → Slots l.refs → Entry l

-- A list of entries for each of some kinds
pub data Body : List Layout → Type 0 where
  stop : Body []
  more : {l : Layout} {ls : List Layout} → List (Entry l) → Body ls → Body (l ∷ ls)
