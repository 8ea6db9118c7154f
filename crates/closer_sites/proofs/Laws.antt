-- What the functions of a walk come to: the length of a heap record, the next record of a list, a reference by its number. Assumes nothing.
use mathlib.Core.Path.{◌≡◌, refl, ap, ◌∙◌}
use mathlib.Core.Bool.{true}
use mathlib.Core.List.{List, [], ◌∷◌}
use Prim.Native.Nat.{ℕ, zero, suc, ◌+◌, ◌-◌, ◌*◌, ◌≤◌, ◌<◌}
use native.Mathlib.Omega.{arith}
use native.Mathlib.Decide.{dec_le}
use lib.ListN.{length, get_or}
use lib.Seq.{take-length}
use lib.Dec.{eqb, eqb-suc-zero, ltb}
use borrow.Author.Tests.{le-ltb, lt-ltb}
use Rattle.table.specs.declared.Need.{Need}
use Rattle.table.specs.declared.Need.TheVariants.{Ignored, Optional, Required}
use Rattle.table.specs.Bytes.{num, pick}
use Rattle.table.specs.Layout.{Layout, base_of, offsets}
use Rattle.table.specs.FixedLayouts.{control, discovery, extended, header, hfi, hfi_extended, host, info, layout_of, no_kind, security, ssns}
use Rattle.table.specs.Objects.{under}
use Rattle.table.specs.Rules.{done}
use Rattle.table.specs.Reads as reads
use Rattle.table.specs.Reads.{list_seat, need_at}
use Rattle.laws.specs.Fields.{image_in}
use Rattle.laws.specs.RecordKinds.{by-record}
use Rattle.layout_kinds.specs.References.{object_refs}
use Rattle.reads_seats.proofs.ReferenceLaws.{offset-is, plain-each}
use Rattle.layout_images.proofs.Laws.{Other, by_kind, other-layout}
use Rattle.reader_frame.specs.Bounds.{LaidOut, ListIn}
use Rattle.reads_seats.specs.declared.seats.Seat.{Seat}
use Rattle.std.specs.Prelude.{Option, Some, None}
use Rattle.reads_seats.specs.Seats.{as_seat, heap_record, nest_at}
use Rattle.reads_seats.specs.Told.{inner_kind}
use Rattle.reads_seats.proofs.Laws.{heap-record-is, list-past, list-there}
use Rattle.closer_sites.specs.declared.Walk.{Walk}
use Rattle.closer_sites.specs.Walk.{entered, first_of, len_at, list_of, named, named_at, nothing, onward_of, record_of, ref_count, step, step_of, walk}

-- ---- a heap record's length

-- of a record that stands there n
abbrev pub len_of : Option Seat → ℕ → ℕ
len_of None n = 0
len_of (Some s) n = n

abbrev len_in : reads.Seat → ℕ → ℕ
len_in reads.nowhere n = 0
len_in (reads.seat l a u) n = n

same_len : (l : Layout) (s : Option Seat) (n : ℕ) → len_of s n ≡ len_in (as_seat l s) n
same_len l None n = refl
same_len l (Some s) n = refl

len-under : (l : Layout) (o n : ℕ) (need : Need) → len_in (under need reads.nowhere (pick (eqb n 0) reads.nowhere (reads.seat l o true))) n ≡ under need 0 n
len-under l o n Ignored = refl
len-under l o zero Optional = refl
len-under l o (suc n) Optional = rw (eqb-suc-zero n) refl
len-under l o zero Required = refl
len-under l o (suc n) Required = rw (eqb-suc-zero n) refl

pub held-len : (t : List ℕ) (k a : ℕ) → len_of (heap_record t k a) (num t (a + nest_at k + 4) 2) ≡ len_at t k a (nest_at k)
unfolding len_at image_in
held-len t k a =
    let l = layout_of (inner_kind k) in
    let n = num t (a + nest_at k + 4) 2 in
    same_len l (heap_record t k a) n
    ∙ ap (λ (s : reads.Seat). len_in s n) (heap-record-is t a k)
    ∙ len-under l (num t (a + nest_at k) 4) n (need_at (nest_at k) (layout_of k).refs (image_in (layout_of k) t a))

-- ---- an object's length

read-len : (n o : ℕ) → (pick (eqb n 0) (reads.no_place done) (record { answer = done; present = true; at = o; len = n })).len ≡ n
read-len zero o = refl
read-len (suc n) o = rw (eqb-suc-zero n) refl

place-len : (t : List ℕ) (r : ℕ) (need : Need) → (under need (reads.no_place done) (reads.ref_place t r)).len ≡ under need 0 (num t (r + 4) 2)
place-len t r Ignored = refl
place-len t r Optional = read-len (num t (r + 4) 2) (num t r 4)
place-len t r Required = read-len (num t (r + 4) 2) (num t r 4)

pub object-len : (t : List ℕ) (k a p : ℕ) → reads.has_plain p (layout_of k).refs ≡ true → (reads.whole_at t p (reads.seat (layout_of k) a true)).len ≡ len_at t k a p
unfolding len_at image_in
object-len t k a p h = rw h (place-len t (a + p) (need_at p (layout_of k).refs (image_in (layout_of k) t a)))

-- ---- a reference by its number

-- those to objects come first
pub plain_at : (k i : ℕ) → i < length (object_refs (layout_of k).refs) → reads.has_plain (get_or (offsets (layout_of k).refs) i 0) (layout_of k).refs ≡ true
plain_at k i h =
    let rs = offsets (layout_of k).refs in
    rw (offset-is k rs (length rs) i (take-length rs) h refl) (plain-each k i h)

-- behind the references to objects stands the one to a heap record
pub nest_last : (i k : ℕ) → length (object_refs (layout_of k).refs) ≤ i → i < ref_count k → get_or (offsets (layout_of k).refs) i 0 ≡ nest_at k
unfolding layout_of header control host hfi ssns security discovery info extended hfi_extended no_kind
nest_last i =
    by_kind (λ k. length (object_refs (layout_of k).refs) ≤ i → i < ref_count k → get_or (offsets (layout_of k).refs) i 0 ≡ nest_at k)
    (λ l m. absurd (omega arith))
    (λ l m. absurd (omega arith))
    (λ l m. absurd (omega arith))
    (λ l m. only (16 ∷ []) 0 i (omega arith))
    (λ l m. only (10 ∷ 16 ∷ 48 ∷ 54 ∷ 60 ∷ []) 4 i (omega arith))
    (λ l m. absurd (omega arith))
    (λ l m. absurd (omega arith))
    (λ l m. only (104 ∷ 110 ∷ []) 1 i (omega arith))
    (λ l m. absurd (omega arith))
    (λ l m. absurd (omega arith))
    (λ k o l m. absurd (none k o (rw (other-layout k o) at m)))
  where
    only : (ps : List ℕ) (n j : ℕ) → j ≡ n → get_or ps j 0 ≡ get_or ps n 0
    only ps n j e = ap (λ (x : ℕ). get_or ps x 0) e

    none : (k : ℕ) → Other k → i < length (offsets no_kind.refs) → ⊥
    none k o h = omega arith

module _ (t : List ℕ) (k a i p o n : ℕ) (e : p ≡ get_or (offsets (layout_of k).refs) i 0) (f : o ≡ num t (a + p) 4) (g : n ≡ len_at t k a p) where
  pub named-object : i < length (object_refs (layout_of k).refs) → named (a + p) o n 0 ≡ named_at t k a i
  unfolding named_at
  named-object h = rw (f, g, e, lt-ltb i (length (object_refs (layout_of k).refs)) h) refl

  pub named-held : length (object_refs (layout_of k).refs) ≤ i → named (a + p) o n (inner_kind k) ≡ named_at t k a i
  unfolding named_at
  named-held h = rw (f, g, e, le-ltb i (length (object_refs (layout_of k).refs)) h) refl

-- ---- steps

module _ (t : List ℕ) (w : Walk) where
  pub step-reference : w.next < ref_count w.kind → step_of t w ≡ step (named_at t w.kind w.at w.next) (onward_of w (named_at t w.kind w.at w.next))
  unfolding step_of
  step-reference h = rw (lt-ltb w.next (ref_count w.kind) h) refl

  pub step-record : ref_count w.kind ≤ w.next → step_of t w ≡ step nothing (record_of t w)
  unfolding step_of
  step-record h = rw (le-ltb w.next (ref_count w.kind) h) refl

-- ---- lists

pub list-in : (t : List ℕ) → LaidOut t → (k : ℕ) → 3 ≤ k → k < 7 → ListIn t (56 + 8 * k) (base_of (layout_of k))
unfolding layout_of hfi ssns security discovery
list-in t x k l m =
    by-record (λ k. 3 ≤ k → ListIn t (56 + 8 * k) (base_of (layout_of k))) (λ h. absurd (omega arith)) (λ h. x.hfi) (λ h. x.ssns) (λ h. x.security) (λ h. x.discovery) k
    (omega arith) (omega arith) l

-- the walk goes on at a seat, or to the list behind
abbrev pub seat_walk : Walk → Option Seat → Walk
seat_walk w None = walk (w.list + 1) 0 w.kind w.at w.next
seat_walk w (Some s) = walk w.list (w.position + 1) w.list s.at (first_of w.list s.used)

abbrev def_walk : Walk → reads.Seat → Walk
def_walk w reads.nowhere = walk (w.list + 1) 0 w.kind w.at w.next
def_walk w (reads.seat l a u) = walk w.list (w.position + 1) w.list a (first_of w.list u)

same-walk : (w : Walk) (l : Layout) (s : Option Seat) → seat_walk w s ≡ def_walk w (as_seat l s)
same-walk w l None = refl
same-walk w l (Some s) = refl

pub list-to : (t : List ℕ) (w : Walk) (s : Option Seat) → as_seat (layout_of w.list) s ≡ list_seat (layout_of w.list) t (56 + 8 * w.list) (w.position + 1) → seat_walk w s ≡ list_of t w
unfolding list_of
list-to t w s e = same-walk w l s ∙ ap (def_walk w) e ∙ go (dec_le (get_or t (c + 7) 0) n)
  where
    l : Layout
    l = layout_of w.list

    c : ℕ
    c = 56 + 8 * w.list

    n : ℕ
    n = w.position

    a : ℕ
    a = num t c 4 + n * num t (c + 4) 2

    there : Walk
    there = walk w.list (n + 1) w.list a (entered t w.list a)

    past : Walk
    past = walk (w.list + 1) 0 w.kind w.at w.next

    go : Dec (get_or t (c + 7) 0 ≤ n) → def_walk w (list_seat l t c (n + 1)) ≡ pick (ltb n (get_or t (c + 7) 0)) there past
    go (yes h) = ap (def_walk w) (list-past w.list t c (n + 1) (omega arith)) ∙ rw (le-ltb n (get_or t (c + 7) 0) h) refl
    go (no h) =
        let z : n + 1 - 1 ≡ n = omega arith in
        ap (def_walk w) (list-there w.list t c (n + 1) (omega arith) (omega arith)) ∙ rw (z, lt-ltb n (get_or t (c + 7) 0) (omega arith)) refl
