-- Cases: what a check, a read, a rewrite, a closing or a call of the builder is given, and what it must give; whether the definitions compute just that. Assumes nothing.
use mathlib.Core.Bool.{Bool, true, false, not, ◌&&◌}
use mathlib.Core.List.{List, [], ◌∷◌}
use Prim.Native.Nat.{ℕ}
use lib.ListN.{length, replicate}
use lib.Dec.{eqb}
use Rattle.table.specs.declared.Answer.{Answer}
use Rattle.table.specs.declared.Image.{Image}
use Rattle.table.specs.declared.Field.{Field}
use Rattle.table.specs.declared.Place.{Place}
use Rattle.table.specs.declared.State.{State}
use Rattle.table.specs.Bytes.{pick, same, padded, Edit, apply}
use Rattle.table.specs.Layout.{image, is_right, slot_at, rec_at, nil, bytes, gone, rec}
use Rattle.table.specs.FixedLayouts.{header, control, host, info, extended, hfi_extended, hfi, ssns, security, discovery}
use Rattle.table.specs.Objects.{read_slots, read_entry, read_list, read_body, used_at, used_in, count_in, newer_entry, newer_list, newer_body, size_of, stores, patched, heap_of, size_entry, rec_entry, heap_entry, size_list, recs_list, heap_list, size_body, recs_body, heap_body, span_body, places_body}
use Rattle.table.specs.Rules.{answer, done, list_regions, long_enough, versioned, refs_rule, used_rule, entry_rule, list_rule, body_rule}
use Rattle.table.specs.Meaning.{limit, meaning, heap_at, heap_len, form_length, driver_ref, minor_of, head_front, head_back, control_bytes, behind, laid_out, form}
use Rattle.table.specs.Numbers.{heap_in, regions, tests, driver_rule, host_rule, records, check}
use Rattle.table.specs.Looks.{looks_used, looks_entry, looks_list, looks_body, looks_records, most_looks, looks}
use Rattle.table.specs.Reads.{seat_of, read_record, read_field, read_place, read_object}
use Rattle.table.specs.Rewriting.{rewrite_answer, rewrite, rewrite_bytes}
use Rattle.table.specs.Closing.{sites_of, sites_entry, sites_list, sites_body, sites, overlapped, marks, slid, moved, goes, stored, mended, closed_heap, closed, close_answer, close_moved, close_bytes, close_map}
use Rattle.table.specs.Builder.{Outcome, same_state, records_end, place_of, next, waits, told_image, told_slots, slots_rule, nests_right, fill_answer, placed, fill, leave, opened, begin, sealed, finish}

-- ---- check and form: a table's bytes, the answer that `check` must give, and the one form of an accepted table

pub record Case : Type 0 where
  pub table : List ℕ
  pub says : Answer
  -- the form, where the table is accepted
  pub becomes : List ℕ

abbrev pub refused : List ℕ → ℕ → ℕ → ℕ → Case
refused t n k i = record { table = t; says = answer n k i; becomes = [] }

abbrev pub taken : List ℕ → List ℕ → Case
taken t u = record { table = t; says = done; becomes = u }

-- n bytes, zero but for the edits
abbrev pub sheet : ℕ → List Edit → List ℕ
sheet n es = apply (replicate n 0) es

abbrev same_answer : Answer → Answer → Bool
same_answer x y = eqb x.number y.number && (eqb x.kind y.kind && eqb x.position y.position)

-- whether the definitions compute what the case says
unfoldable pub fine : Case → Bool
unfolding image is_right slot_at rec_at header host info extended hfi_extended hfi ssns security discovery read_slots read_entry read_list read_body used_at used_in count_in newer_entry newer_list newer_body size_of stores patched heap_of size_entry rec_entry heap_entry size_list recs_list heap_list size_body recs_body heap_body span_body places_body list_regions long_enough versioned refs_rule used_rule entry_rule list_rule body_rule limit meaning heap_at heap_len form_length driver_ref minor_of head_front head_back control_bytes behind laid_out form heap_in regions tests driver_rule host_rule records check
fine c =
    let rewritten = form (meaning c.table) in
    let formed = same rewritten c.becomes in
    same_answer (check c.table) c.says && pick (eqb c.says.number 0) formed true

abbrev pub all_fine : List Case → Bool
all_fine [] = true
all_fine (c ∷ cs) = fine c && all_fine cs

-- ---- looks at records: a table's bytes, the answer that `check` must give, and the looks that it takes

pub record Look : Type 0 where
  pub table : List ℕ
  pub says : Answer
  pub takes : ℕ

abbrev pub look : ℕ → ℕ → ℕ → ℕ → List ℕ → Look
look n k i m t = record { table = t; says = answer n k i; takes = m }

unfoldable pub looked : Look → Bool
unfolding image is_right slot_at header host info extended hfi_extended hfi ssns security discovery read_slots read_entry read_list read_body used_at used_in count_in
    list_regions long_enough versioned refs_rule used_rule entry_rule list_rule body_rule limit meaning heap_in regions tests driver_rule host_rule records check
    looks_used looks_entry looks_list looks_body looks_records looks
looked c = same_answer (check c.table) c.says && eqb (looks c.table) c.takes

abbrev pub all_looked : List Look → Bool
all_looked [] = true
all_looked (c ∷ cs) = looked c && all_looked cs

-- whether there are as many as the counts allow
abbrev pub reaches_most : Look → Bool
reaches_most c = eqb c.takes (most_looks c.table)

-- ---- reads

-- of a record, or of a field or an object by its first byte
pub data Read : Type 0 where
  whole : Read
  field : ℕ → Read
  object : ℕ → Read

pub record ReadCase : Type 0 where
  pub table : List ℕ
  pub kind : ℕ
  pub position : ℕ
  pub read : Read
  pub says : Answer
  -- whether the record is used, or the object present
  pub is : Bool
  -- where the object stands
  pub at : ℕ
  -- the bytes of the record, field or object, without those that fill it up
  pub gives : List ℕ

abbrev pub denied : List ℕ → ℕ → ℕ → Read → ℕ → ℕ → ℕ → ReadCase
denied t k n r m j i = record { table = t; kind = k; position = n; read = r; says = answer m j i; is = false; at = 0; gives = [] }

abbrev pub found : List ℕ → ℕ → ℕ → Read → Bool → ℕ → List ℕ → ReadCase
found t k n r x a b = record { table = t; kind = k; position = n; read = r; says = done; is = x; at = a; gives = b }

abbrev same_bool : Bool → Bool → Bool
same_bool x y = pick x y (not y)

abbrev is_image : ReadCase → Image → Bool
is_image c x =
    same_answer x.answer c.says
    && (same_bool x.used c.is && (eqb x.len (length c.gives) && same x.bytes (padded 128 c.gives)))

abbrev is_field : ReadCase → Field → Bool
is_field c x =
    same_answer x.answer c.says
    && (same_bool x.used c.is && (eqb x.len (length c.gives) && same x.bytes (padded 16 c.gives)))

abbrev is_place : ReadCase → Place → List ℕ → Bool
is_place c x b =
    same_answer x.answer c.says
    && (same_bool x.present c.is && (eqb x.at c.at && (eqb x.len (length c.gives) && same b c.gives)))

abbrev is_read : ReadCase → Read → Bool
is_read c whole = is_image c (read_record c.table c.kind c.position)
is_read c (field q) = is_field c (read_field c.table c.kind c.position q)
is_read c (object q) = is_place c (read_place c.table c.kind c.position q) (read_object c.table c.kind c.position q)

unfoldable pub fine_read : ReadCase → Bool
unfolding control seat_of read_record read_field read_place read_object image is_right slot_at rec_at header host info extended hfi_extended hfi ssns security discovery read_slots read_entry read_list read_body used_at used_in count_in list_regions long_enough versioned refs_rule used_rule entry_rule list_rule body_rule limit meaning heap_in regions tests driver_rule host_rule records check
fine_read c = is_read c c.read

abbrev pub all_fine_reads : List ReadCase → Bool
all_fine_reads [] = true
all_fine_reads (c ∷ cs) = fine_read c && all_fine_reads cs

-- ---- rewrites: the table and the output lent; the answer, the length, and the output after

pub record RewriteCase : Type 0 where
  pub table : List ℕ
  pub lent : List ℕ
  pub says : Answer
  pub size : ℕ
  pub leaves : List ℕ

abbrev pub unwritten : List ℕ → List ℕ → ℕ → ℕ → ℕ → RewriteCase
unwritten t b n k i = record { table = t; lent = b; says = answer n k i; size = 0; leaves = b }

abbrev pub written : List ℕ → List ℕ → ℕ → List ℕ → RewriteCase
written t b n b' = record { table = t; lent = b; says = done; size = n; leaves = b' }

unfoldable pub fine_rewrite : RewriteCase → Bool
unfolding rewrite_answer rewrite rewrite_bytes image is_right slot_at rec_at header host info extended hfi_extended hfi ssns security discovery read_slots read_entry read_list read_body used_at used_in count_in newer_entry newer_list newer_body size_of stores patched heap_of size_entry rec_entry heap_entry size_list recs_list heap_list size_body recs_body heap_body span_body places_body list_regions long_enough versioned refs_rule used_rule entry_rule list_rule body_rule limit meaning heap_at heap_len form_length driver_ref minor_of head_front head_back control_bytes behind laid_out form heap_in regions tests driver_rule host_rule records check
fine_rewrite c =
    let x = rewrite c.table (length c.lent) in
    same_answer x.answer c.says && (eqb x.len c.size && same (rewrite_bytes c.table c.lent) c.leaves)

abbrev pub all_fine_rewrites : List RewriteCase → Bool
all_fine_rewrites [] = true
all_fine_rewrites (c ∷ cs) = fine_rewrite c && all_fine_rewrites cs

-- ---- closing: the table and the map lent; the answer, the bytes moved, and the table and the map after

pub record CloseCase : Type 0 where
  pub table : List ℕ
  pub lent : List ℕ
  pub says : Answer
  pub moves : ℕ
  pub leaves : List ℕ
  pub marked : List ℕ

abbrev pub unclosed : List ℕ → List ℕ → ℕ → ℕ → ℕ → CloseCase
unclosed t b n k i = record { table = t; lent = b; says = answer n k i; moves = 0; leaves = t; marked = b }

abbrev pub shut : List ℕ → List ℕ → ℕ → List ℕ → List ℕ → CloseCase
shut t b n t' b' = record { table = t; lent = b; says = done; moves = n; leaves = t'; marked = b' }

unfoldable pub fine_close : CloseCase → Bool
unfolding sites_of sites_entry sites_list sites_body sites overlapped marks slid moved goes stored mended closed_heap closed close_answer close_moved close_bytes close_map image is_right slot_at rec_at header host info extended hfi_extended hfi ssns security discovery read_slots read_entry read_list read_body used_at used_in count_in list_regions long_enough versioned refs_rule used_rule entry_rule list_rule body_rule limit meaning heap_in regions tests driver_rule host_rule records check
fine_close c =
    let room = length c.lent in
    same_answer (close_answer c.table room) c.says
    && (eqb (close_moved c.table room) c.moves
    && (same (close_bytes c.table room) c.leaves && same (close_map c.table c.lent) c.marked))

abbrev pub all_fine_closes : List CloseCase → Bool
all_fine_closes [] = true
all_fine_closes (c ∷ cs) = fine_close c && all_fine_closes cs

-- ---- the builder: the state, the buffer and the call; the answer, the state and the buffer after

-- a record's bytes come first, then those of its heap record, then its objects by offset
pub data Call : Type 0 where
  beginning : (oem counts signature : List ℕ) → Call
  a_host : (x name : List ℕ) → Call
  -- with or without a record of kind 10, which is told in any case
  an_hfi : (x info host_name : List ℕ) (told : Bool) (extended iaid duid : List ℕ) → Call
  an_ssns : (x extended address service secondary name root_path : List ℕ) → Call
  a_security : (x algorithms protocols ciphers groups hashes keypath : List ℕ) → Call
  a_discovery : (x address name : List ℕ) → Call
  leaving : Call
  finishing : Call

unfoldable pub made : Call → State → List ℕ → Outcome
unfolding header host info extended hfi_extended hfi ssns security discovery
made (beginning oem cs sig) s b = begin s b oem cs (bytes sig nil)
made (a_host x o) s b = fill host s b x (bytes o nil)
made (an_hfi x y o told z o₁ o₂) s b = fill hfi s b x (rec y (bytes o (pick told (rec z (bytes o₁ (bytes o₂ nil)) nil) (gone nil))) nil)
made (an_ssns x y o₁ o₂ o₃ o₄ o₅) s b = fill ssns s b x (bytes o₁ (bytes o₂ (bytes o₃ (bytes o₄ (rec y (bytes o₅ nil) nil)))))
made (a_security x o₁ o₂ o₃ o₄ o₅ o₆) s b = fill security s b x (bytes o₁ (bytes o₂ (bytes o₃ (bytes o₄ (bytes o₅ (bytes o₆ nil))))))
made (a_discovery x o₁ o₂) s b = fill discovery s b x (bytes o₁ (bytes o₂ nil))
made leaving s b = leave s b
made finishing s b = finish s b

pub record BuildCase : Type 0 where
  pub before : State
  pub lent : List ℕ
  pub call : Call
  pub says : Answer
  pub after : State
  pub leaves : List ℕ

-- turn, position, the four counts, bytes used, header minor
abbrev pub state : ℕ → ℕ → ℕ → ℕ → ℕ → ℕ → ℕ → ℕ → State
state x n c₁ c₂ c₃ c₄ u r = record { turn = x; position = n; hfi = c₁; ssns = c₂; security = c₃; discovery = c₄; used = u; minor = r }

abbrev pub halted : State → List ℕ → Call → ℕ → ℕ → ℕ → BuildCase
halted s b x n k i = record { before = s; lent = b; call = x; says = answer n k i; after = s; leaves = b }

abbrev pub stepped : State → List ℕ → Call → State → List ℕ → BuildCase
stepped s b x s' b' = record { before = s; lent = b; call = x; says = done; after = s'; leaves = b' }

unfoldable pub fine_build : BuildCase → Bool
unfolding made records_end place_of next waits told_image told_slots slots_rule nests_right fill_answer placed fill leave opened begin sealed finish image is_right slot_at rec_at header host info extended hfi_extended hfi ssns security discovery read_slots read_entry read_list read_body used_at used_in count_in newer_entry newer_list newer_body size_of stores patched heap_of size_entry rec_entry heap_entry size_list recs_list heap_list size_body recs_body heap_body span_body places_body list_regions long_enough versioned refs_rule used_rule entry_rule list_rule body_rule limit meaning heap_at heap_len form_length driver_ref minor_of head_front head_back control_bytes behind laid_out form heap_in regions tests driver_rule host_rule records check
fine_build c =
    let x = made c.call c.before c.lent in
    same_answer x.step.answer c.says && (same_state x.step.state c.after && same x.buffer c.leaves)

abbrev pub all_fine_builds : List BuildCase → Bool
all_fine_builds [] = true
all_fine_builds (c ∷ cs) = fine_build c && all_fine_builds cs
