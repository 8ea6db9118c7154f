-- Rules 8 (docs/RULES.md), the builder: each call's answer, state and bytes, for every state, buffer and told value. Definitions only.
use Rattle.std.specs.Prelude.{◌≡◌, Bool, true, false, ◌&&◌, ◌||◌, List, [], ◌∷◌, ◌++◌, ℕ, ◌+◌, ◌-◌, ◌*◌, ◌/◌, length, get_or, take, replicate, leb, ltb, eqb}
use Rattle.table.specs.declared.Need.{Need}
use Rattle.table.specs.declared.Need.TheVariants.{Ignored, Optional, Required}
use Rattle.table.specs.declared.Answer.{Answer}
use Rattle.table.specs.declared.State.{State}
use Rattle.table.specs.declared.Step.{Step}
use Rattle.table.specs.Bytes.{pick, le, checksum, splice, edit, apply}
use Rattle.table.specs.Layout.{image, Shape, Env, env, pairs_right, Content, anything, text, positions, Refs, Slots, nil, bytes, gone, rec, Layout, base_of, unused, Body, stop, more}
use Rattle.table.specs.FixedLayouts.{header, list_kinds}
use Rattle.table.specs.Objects.{under, size_of, heap_of, patched}
use Rattle.table.specs.Rules.{first, first_of, ruled, Test, test, first_fail}
use Rattle.table.specs.Meaning.{limit, Meaning, form_length, laid_out}
use Rattle.table.specs.Numbers.{check}

-- What a call does: the answer and the state it hands back, and the buffer as it leaves it
pub record Outcome : Type 0 where
  pub step : Step
  pub buffer : List ℕ

-- what the contract of a call says: it hands back the step of its outcome, and leaves its buffer
abbrev pub Gives : Outcome → Step → (buffer : List ℕ) → Type 0
Gives o step buffer = (step ≡ o.step) × (buffer ≡ o.buffer)

-- a refused call changes neither state nor buffer
abbrev pub outcome : Answer → State → State → List ℕ → List ℕ → Outcome
outcome a s s' b b' =
    pick (eqb a.number 0)
    (record { step = record { answer = a; state = s' }; buffer = b' })
    (record { step = record { answer = a; state = s }; buffer = b })

-- ---- states

abbrev pub empty : State
empty = record { turn = 0; position = 0; hfi = 0; ssns = 0; security = 0; discovery = 0; used = 0; minor = 0 }

abbrev pub same_state : State → State → Bool
same_state x y =
    eqb x.turn y.turn
    && (eqb x.position y.position
    && (eqb x.hfi y.hfi
    && (eqb x.ssns y.ssns
    && (eqb x.security y.security && (eqb x.discovery y.discovery && (eqb x.used y.used && eqb x.minor y.minor))))))

-- the turns behind the lists: to finish, and finished
abbrev pub finishing : ℕ
finishing = 7

abbrev pub finished : ℕ
finished = 8

abbrev pub counts : State → List ℕ
counts s = s.hfi ∷ s.ssns ∷ s.security ∷ s.discovery ∷ []

-- how many there are to be of a kind
abbrev pub count_of : List Layout → List ℕ → ℕ → ℕ
count_of [] cs k = 0
count_of (l ∷ ls) [] k = 0
count_of (l ∷ ls) (c ∷ cs) k = pick (eqb k l.kind) c (count_of ls cs k)

-- the first byte behind the lists, and of the list of kind k
abbrev pub end_of : ℕ → List Layout → List ℕ → ℕ
end_of a [] cs = a
end_of a (l ∷ ls) [] = a
end_of a (l ∷ ls) (c ∷ cs) = end_of (a + c * base_of l) ls cs

abbrev pub start_of : ℕ → List Layout → List ℕ → ℕ → ℕ
start_of a [] cs k = a
start_of a (l ∷ ls) [] k = a
start_of a (l ∷ ls) (c ∷ cs) k = pick (eqb k l.kind) a (start_of (a + c * base_of l) ls cs k)

unfoldable pub records_end : State → ℕ
records_end s = end_of 160 list_kinds (counts s)

-- where the record of kind l stands whose turn it is
unfoldable pub place_of : State → Layout → ℕ
place_of s l = pick (eqb l.kind 2) 128 (start_of 160 list_kinds (counts s) l.kind + (s.position - 1) * base_of l)

pub record Turn : Type 0 where
  pub kind : ℕ
  pub position : ℕ

abbrev pub turn : ℕ → ℕ → Turn
turn k n = record { kind = k; position = n }

-- the first position of the first nonempty list
abbrev pub first_turn : List Layout → List ℕ → Turn
first_turn [] cs = turn finishing 0
first_turn (l ∷ ls) [] = turn finishing 0
first_turn (l ∷ ls) (c ∷ cs) = pick (eqb c 0) (first_turn ls cs) (turn l.kind 1)

-- what comes behind position n of kind k
abbrev pub turn_after : ℕ → ℕ → List Layout → List ℕ → Turn
turn_after k n [] cs = turn finishing 0
turn_after k n (l ∷ ls) [] = turn finishing 0
turn_after k n (l ∷ ls) (c ∷ cs) = pick (eqb k l.kind) (pick (ltb n c) (turn k (n + 1)) (first_turn ls cs)) (turn_after k n ls cs)

abbrev pub next_turn : State → Turn
next_turn s = pick (eqb s.turn 2) (first_turn list_kinds (counts s)) (turn_after s.turn s.position list_kinds (counts s))

abbrev pub moved : State → Turn → ℕ → ℕ → State
moved s x n r = record {
  turn = x.kind;
  position = x.position;
  hfi = s.hfi;
  ssns = s.ssns;
  security = s.security;
  discovery = s.discovery;
  used = n;
  minor = r;
}

-- the state after a done call that wrote n bytes of objects and heap records; `newer` says that it asks for header minor 1
unfoldable pub next : State → ℕ → Bool → State
next s n newer = moved s (next_turn s) (s.used + n) (pick newer 1 s.minor)

-- ---- 15

-- in a list's turn the next position is one of the list's
abbrev pub in_list : State → Bool
in_list s = leb 1 s.position && leb s.position (count_of list_kinds (counts s) s.turn)

-- a possible begun state, waiting for a record of kind k or (7) for finish
unfoldable pub waits : State → ℕ → Bool
waits s k =
    eqb s.turn k
    && (pick (eqb k 2 || eqb k finishing) (eqb s.position 0) (in_list s)
    && (leb (records_end s) s.used && (leb s.used limit && leb s.minor 1)))

-- ---- what is told: the caller's bytes of a record in table layout, and its objects

-- the builder sets ID, version, type, own index and the valid bit; what is reserved or ignored is dropped
unfoldable pub told_image : Shape → ℕ → List ℕ → List ℕ
told_image s n x =
    let y = apply x (s.fixed ++ (edit s.index.at (le s.index.len n) ∷ [])) in
    image s.keep (splice y s.flags.at ((get_or y s.flags.at 0 / 2 * 2 + 1) ∷ []))

-- an object as it is kept: text is told without its terminator; empty text is absent
abbrev pub ended : Content → List ℕ → List ℕ
ended anything b = b
ended positions b = b
ended text [] = []
ended text (b ∷ bs) = (b ∷ bs) ++ (0 ∷ [])

-- what is ignored is dropped; text is ended
unfoldable pub told_slots : {rs : Refs} → ℕ → List ℕ → Slots rs → Slots rs
told_slots n img nil = nil
told_slots n img (bytes {need = need} {content = content} b ss) = bytes (under (need img) [] (ended content b)) (told_slots n img ss)
told_slots n img (gone ss) = gone (told_slots n img ss)
told_slots n img (rec {need = need} {shape = shape} x own ss) =
    let y = told_image shape n x in
    under (need img) (gone (told_slots n img ss)) (rec y (told_slots n y own) (told_slots n img ss))

-- an object under a need, [] if absent
abbrev pub fits_need : Need → List ℕ → Bool
fits_need Ignored [] = true
fits_need Ignored (b ∷ bs) = false
fits_need Optional bs = true
fits_need Required [] = false
fits_need Required (b ∷ bs) = true

abbrev pub may_lack : Need → Bool
may_lack n = fits_need n []

abbrev pub may_have : Need → Bool
may_have n = fits_need n (0 ∷ [])

-- an object's length has 16 bits
abbrev pub is_short : List ℕ → Bool
is_short b = leb (length b) 65535

-- the told objects, text ended, by field in the reader's order: 0, 11 or an object's further number
unfoldable pub slots_rule : {rs : Refs} → Env → List ℕ → Slots rs → ℕ
slots_rule e img nil = 0
slots_rule e img (bytes {need = need} {content = content} b ss) =
    first_of (first_of (pick (fits_need (need img) b && is_short b) 0 11) (ruled content e b)) (slots_rule e img ss)
slots_rule e img (gone {need = need} ss) = first_of (pick (may_lack (need img)) 0 11) (slots_rule e img ss)
slots_rule e img (rec {need = need} img' own ss) = first_of (first_of (pick (may_have (need img)) 0 11) (slots_rule e img' own)) (slots_rule e img ss)

-- the told heap records, each with its owner: their further rules hold; ID, version, index and valid bit are the builder's
unfoldable pub nests_right : {rs : Refs} → List ℕ → Slots rs → Bool
nests_right img nil = true
nests_right img (bytes b ss) = nests_right img ss
nests_right img (gone ss) = nests_right img ss
nests_right img (rec {shape = shape} img' own ss) = shape.further img img' && (nests_right img' own && nests_right img ss)

-- ---- the calls: the record and, behind the bytes used, its objects; an unused position writes none

-- 17 and 14: n bytes would then be used, of which the buffer has b
abbrev pub room_tests : ℕ → ℕ → List Test
room_tests n b = test (leb n limit) 17 0 0 ∷ test (leb n b) 14 0 0 ∷ []

abbrev pub env_of : State → Env
env_of s = env (count_of list_kinds (counts s)) s.position

-- 15, 10, 12, 11 (or an object's further number), 17, 14
unfoldable pub fill_answer : (l : Layout) → State → ℕ → List ℕ → Slots l.refs → Answer
fill_answer l s room img ss =
    let n = slots_rule (env_of s) img ss in
    first_fail
    (test (waits s l.kind) 15 0 0
    ∷ test (pairs_right l.shape img) 10 l.kind s.position
    ∷ test (nests_right img ss) 12 l.kind s.position
    ∷ test (eqb n 0) n l.kind s.position
    ∷ room_tests (s.used + size_of ss) room)

-- the record in its own part of the buffer, then its objects behind the bytes used
unfoldable pub placed : {rs : Refs} → List ℕ → ℕ → ℕ → List ℕ → Slots rs → List ℕ
placed b a u img ss = splice (splice b a (patched u img ss)) u (heap_of u ss)

-- the call for kind l (host, HFI, SSNS, security, discovery), told the record's bytes x and its objects
unfoldable pub fill : (l : Layout) → State → List ℕ → List ℕ → Slots l.refs → Outcome
fill l s b x told =
    let img = told_image l.shape s.position x in
    let ss = told_slots s.position img told in
    outcome (fill_answer l s (length b) img ss) s (next s (size_of ss) (l.newer ss)) b (placed b (place_of s l) s.used img ss)

-- a list position is left unused
unfoldable pub leave : State → List ℕ → Outcome
leave s b =
    let a = first_fail (test (waits s s.turn && leb 1 s.position) 15 0 0 ∷ test (leb s.used (length b)) 14 0 0 ∷ []) in
    outcome a s (next s 0 false) b b

abbrev pub all_unused : (ls : List Layout) → List ℕ → Body ls
all_unused [] cs = stop
all_unused (l ∷ ls) [] = more [] (all_unused ls [])
all_unused (l ∷ ls) (c ∷ cs) = more (replicate c unused) (all_unused ls cs)

-- what is told by begin alone: header bytes 10 to 35, driver signature, counts
unfoldable pub opened : List ℕ → List ℕ → Slots header.refs → Meaning
opened oem cs sig = record { oem = oem; driver = sig; owner = unused; lists = all_unused list_kinds cs }

-- the first state: the host's turn, behind the driver signature
abbrev pub begun : List ℕ → ℕ → State
begun cs n = record { turn = 2; position = 0; hfi = get_or cs 0 0; ssns = get_or cs 1 0; security = get_or cs 2 0; discovery = get_or cs 3 0; used = n; minor = 0 }

-- begin lays out the table of which nothing but that is told, with Length, checksum, heap length and header minor 0
unfoldable pub begin : State → List ℕ → List ℕ → List ℕ → Slots header.refs → Outcome
begin s b oem cs sig =
    let m = opened oem cs sig in
    let n = slots_rule (env (count_of list_kinds cs) 0) [] sig in
    let a = first_fail (test (same_state s empty) 15 0 0 ∷ test (eqb n 0) n 0 0 ∷ room_tests (form_length m) (length b)) in
    outcome a s (begun cs (form_length m)) b (splice b 0 (laid_out m 0 0 0 0))

-- the buffer with header minor, heap length, Length and checksum stored
unfoldable pub sealed : State → List ℕ → List ℕ
sealed s b =
    let y = splice (splice (splice (splice b 50 (s.minor ∷ [])) 40 (le 4 (s.used - records_end s))) 4 (le 4 s.used)) 9 (0 ∷ []) in
    splice y 9 (checksum (take s.used y) ∷ [])

-- 15, 14, then what the reader says of the finished bytes
unfoldable pub finish : State → List ℕ → Outcome
finish s b =
    let a = first
    (first_fail (test (waits s finishing) 15 0 0 ∷ test (leb s.used (length b)) 14 0 0 ∷ []))
    (check (take s.used (sealed s b))) in
    outcome a s (moved s (turn finished 0) s.used s.minor) b (sealed s b)
