-- The first fault of several, over the stages of the check. Assumes nothing.
use mathlib.Core.Path.{◌≡◌, refl, sym, ap, ap₂, ◌∙◌}
use mathlib.Core.Bool.{Bool, true, false}
use mathlib.Core.List.{List}
use Prim.Native.Nat.{ℕ, zero, suc, ◌+◌, ◌%◌, ◌≤◌, ◌<◌}
use native.Mathlib.Omega.{arith}
use lib.ListN.{length, get_or, length-take, length-drop}
use lib.Dec.{eqb}
use borrow.Author.Tests.{eq-eqb, ne_eqb, eqb-true, eqb-false}
use Rattle.table.specs.declared.Region.{Region}
use Rattle.table.specs.declared.Answer.{Answer}
use Rattle.table.specs.Bytes.{pick, part, num, odd}
use Rattle.table.specs.Layout.{Layout, env, is_valid, region, used, unused}
use Rattle.table.specs.FixedLayouts.{layout_of, header, host, list_kinds}
use Rattle.table.specs.Objects.{read_body, read_entry, read_slots}
use Rattle.table.specs.Rules.{answer, done, first, first_fail, refs_rule, body_rule}
use Rattle.table.specs.Meaning.{meaning}
use Rattle.table.specs.Numbers.{heap_in, tests, driver_rule, host_rule, records, check}
use Rattle.table.specs.Looks.{behind, looks, looks_body, looks_entry, looks_records, up_to}
use Rattle.laws.specs.Fields.{image_in}
use Rattle.laws.specs.ListWalk.{valid_in, env_in, used_it, flag_is, record_rule, walk, walk_more, walk_none, walk-stop}
use Rattle.laws.specs.LookLaws.{looks-record, looks_record, looks_walk, up_more, up-stop}
use Rattle.reader_rules.specs.Rules.{IsHeap}
use Rattle.reader_indexes.specs.Indexes.{refs_fault}
use Rattle.reader_lists.specs.Lists.{used_fault, counts, list_from, list_fault, used_looks, from_looks, list_looks}
use Rattle.reader.specs.Stages.{numbered, host_fault, host_looks}
-- passed on to the crates above, which walk the same lists
pub use Rattle.reader_lists.proofs.Laws.{flag-within, flags-stand, next_start}

-- ---- the stages of the check

pub body_is : (t : List ℕ) (heap : Region)
    → first (list_fault 3 heap t 80) (first (list_fault 4 heap t 88) (first (list_fault 5 heap t 96) (first (list_fault 6 heap t 104) done)))
    ≡ body_rule (valid_in t) (counts t) heap t 80 (read_body list_kinds t 80)
unfolding list_fault list_from walk layout_of body_rule read_body
body_is t heap = refl

driver-is : (t : List ℕ) → numbered (refs_fault 0 (heap_in t) t 0 0) 0 ≡ driver_rule t (counts t)
unfolding refs_fault refs_rule layout_of env_in counts driver_rule header
driver-is t = refl

host-flag : (t : List ℕ) → is_valid host.shape (image_in host t (num t 72 4)) ≡ odd (get_or t (num t 72 4 + 1) 0)
unfolding host
host-flag t = flag_is host t (num t 72 4) tt

host-is : (t : List ℕ) → host_fault (heap_in t) t ≡ host_rule t (valid_in t) (counts t) (read_entry host t (num t 72 4))
unfolding host_fault used_fault used_it layout_of host_rule read_entry env_in counts image_in
host-is t =
    sym (go (is_valid host.shape (image_in host t (num t 72 4)))
    ∙ ap (λ (c : Bool). pick c (numbered (used_fault 2 (heap_in t) t (num t 72 4) 0) 2) (answer 10 2 0)) (host-flag t))
  where
    go : (c : Bool) → host_rule t (valid_in t) (counts t) (pick c (used (image_in host t (num t 72 4)) (read_slots t (num t 72 4) (image_in host t (num t 72 4)) host.refs)) unused)
        ≡ pick c (numbered (used_fault 2 (heap_in t) t (num t 72 4) 0) 2) (answer 10 2 0)
    go true = refl
    go false = refl

records-are : (t : List ℕ)
    → first (driver_rule t (counts t)) (first (host_rule t (valid_in t) (counts t) (read_entry host t (num t 72 4))) (body_rule (valid_in t) (counts t) (heap_in t) t 80 (read_body list_kinds t 80)))
    ≡ records t (meaning t)
unfolding records meaning valid_in counts
records-are t = refl

-- a list that gives 0 is done
walk-done : (l : Layout) (named : ℕ → ℕ → Bool) (count : ℕ → ℕ) (heap : Region) (t : List ℕ) (step n pos a : ℕ)
    → (walk l named count heap t step pos a n).number ≡ 0 → walk l named count heap t step pos a n ≡ done
walk-done l named count heap t step zero pos a z = walk_none l named count heap t step pos a
walk-done l named count heap t step (suc n) pos a z =
    go (eqb (record_rule l named heap (env count pos) t a) 0) refl (walk-done l named count heap t step n (suc pos) (a + step))
  where
    r : ℕ
    r = record_rule l named heap (env count pos) t a

    go : (c : Bool) → eqb r 0 ≡ c → ((walk l named count heap t step (suc pos) (a + step) n).number ≡ 0 → walk l named count heap t step (suc pos) (a + step) n ≡ done)
        → walk l named count heap t step pos a (suc n) ≡ done
    go true e rest =
        let w = walk_more l named count heap t step pos a n r refl (eqb-true r 0 e) in
        w ∙ rest (sym (ap (λ (x : Answer). x.number) w) ∙ z)
    go false e rest =
        let k = eqb-false r 0 e in
        absurd (k (sym (ap (λ (x : Answer). x.number) (walk-stop l named count heap t step pos a n r refl k)) ∙ z))

-- so that nothing is behind the last list
pub last-list : (k : ℕ) (heap : Region) (t : List ℕ) (c : ℕ) → list_fault k heap t c ≡ first (list_fault k heap t c) done
unfolding list_fault list_from
last-list k heap t c = go (eqb x.number 0) refl
  where
    x : Answer
    x = walk (layout_of k) (valid_in t) (counts t) heap t (num t (c + 4) 2) 1 (num t c 4) (get_or t (c + 7) 0)

    go : (b : Bool) → eqb x.number 0 ≡ b → x ≡ pick b done x
    go true e = walk-done (layout_of k) (valid_in t) (counts t) heap t (num t (c + 4) 2) (get_or t (c + 7) 0) 1 (num t c 4) (eqb-true x.number 0 e)
    go false e = refl

-- ---- their looks

pub body-looks : (t : List ℕ) (heap : Region)
    → up_to (list_looks 3 heap t 80) (list_fault 3 heap t 80).number
    (up_to (list_looks 4 heap t 88) (list_fault 4 heap t 88).number
    (up_to (list_looks 5 heap t 96) (list_fault 5 heap t 96).number (up_to (list_looks 6 heap t 104) (list_fault 6 heap t 104).number 0)))
    ≡ looks_body (valid_in t) (counts t) heap t 80 (read_body list_kinds t 80)
unfolding list_looks from_looks looks_walk list_fault list_from walk layout_of looks_body read_body
body-looks t heap = refl

-- the last list, whatever it answers
pub last-looks : (n l : ℕ) → up_to l n 0 ≡ l
last-looks n l = go (eqb n 0) where
  go : (c : Bool) → l + pick c 0 0 ≡ l
  go true = omega arith
  go false = omega arith

host-looks : (t : List ℕ) → host_looks (heap_in t) t ≡ looks_entry host (valid_in t) (heap_in t) (env_in t 0) t (num t 72 4) (read_entry host t (num t 72 4))
unfolding host_looks used_looks layout_of looks_record host
host-looks t = sym (looks-record host (valid_in t) (heap_in t) (env_in t 0) t (num t 72 4) tt)

records-look : (t : List ℕ)
    → behind (driver_rule t (counts t)).number
    (up_to (looks_entry host (valid_in t) (heap_in t) (env_in t 0) t (num t 72 4) (read_entry host t (num t 72 4)))
    (host_rule t (valid_in t) (counts t) (read_entry host t (num t 72 4))).number
    (looks_body (valid_in t) (counts t) (heap_in t) t 80 (read_body list_kinds t 80)))
    ≡ looks_records t (meaning t)
unfolding looks_records meaning valid_in counts env_in
records-look t = refl

pub parts-look : (t : List ℕ) (heap : Region) → heap ≡ heap_in t
    → behind (numbered (refs_fault 0 heap t 0 0) 0).number
    (up_to (host_looks heap t) (host_fault heap t).number (looks_body (valid_in t) (counts t) heap t 80 (read_body list_kinds t 80)))
    ≡ looks_records t (meaning t)
parts-look t heap e =
    let after : Region → ℕ = λ h. looks_body (valid_in t) (counts t) h t 80 (read_body list_kinds t 80) in
    ap (λ (h : Region). behind (numbered (refs_fault 0 h t 0 0) 0).number (up_to (host_looks h t) (host_fault h t).number (after h))) e
    ∙ ap₂ (λ (x y : Answer). behind x.number (up_to (host_looks (heap_in t) t) y.number (after (heap_in t)))) (driver-is t) (host-is t)
    ∙ ap (λ (n : ℕ). behind (driver_rule t (counts t)).number
    (up_to n (host_rule t (valid_in t) (counts t) (read_entry host t (num t 72 4))).number (after (heap_in t)))) (host-looks t)
    ∙ records-look t

pub looks-are : (t : List ℕ) → behind (first_fail (tests t)).number (looks_records t (meaning t)) ≡ looks t
unfolding looks
looks-are t = refl

-- ---- the first of two answers

pub answer-stop : {r x : Answer} (y : Answer) → r ≡ x → (r.number ≡ 0 → ⊥) → r ≡ first x y
answer-stop {r} {x} y e z = rw (← e) (sym (ap (λ (c : Bool). pick c y r) (ne_eqb r.number 0 z)))

pub answer-more : {r x s y : Answer} → r ≡ x → r.number ≡ 0 → s ≡ y → s ≡ first x y
answer-more {r} {x} {s} {y} e z f = rw (← e) (f ∙ sym (ap (λ (c : Bool). pick c y r) (eq-eqb r.number 0 z)))

-- the looks of a part that answered r, and of the rest
module _ {r x : Answer} {l m : ℕ} (e : r ≡ x) (f : l ≡ m) where
  pub look_stop : (rest : ℕ) → (r.number ≡ 0 → ⊥) → l ≡ up_to m x.number rest
  look_stop rest n = f ∙ sym (up-stop m x.number rest (λ z. n (ap (λ (y : Answer). y.number) e ∙ z)))

  pub look-more : {k rest : ℕ} → r.number ≡ 0 → k ≡ rest → l + k ≡ up_to m x.number rest
  look-more {k} {rest} z g = ap₂ ◌+◌ f g ∙ sym (up_more m x.number rest (sym (ap (λ (y : Answer). y.number) e) ∙ z))

-- ---- the host's valid bit, as code reads it

pub host-off : (heap : Region) (t : List ℕ) (a : ℕ) → a ≡ num t 72 4 → (get_or t (a + 1) 0 % 2 ≡ 1 → ⊥) → answer 10 2 0 ≡ host_fault heap t
unfolding host_fault
host-off heap t a e z = rw (← e, ne_eqb (get_or t (a + 1) 0 % 2) 1 z)

pub host-on : (heap : Region) (t : List ℕ) (a n : ℕ) → a ≡ num t 72 4 → get_or t (a + 1) 0 % 2 ≡ 1 → n ≡ used_fault 2 heap t a 0 → numbered n 2 ≡ host_fault heap t
unfolding host_fault
host-on heap t a n e z f = rw (← e, eq-eqb (get_or t (a + 1) 0 % 2) 1 z, f)

pub looks-off : (heap : Region) (t : List ℕ) (a : ℕ) → a ≡ num t 72 4 → (get_or t (a + 1) 0 % 2 ≡ 1 → ⊥) → 1 ≡ host_looks heap t
unfolding host_looks
looks-off heap t a e z = rw (← e, ne_eqb (get_or t (a + 1) 0 % 2) 1 z)

pub looks_on : (heap : Region) (t : List ℕ) (a n : ℕ) → a ≡ num t 72 4 → get_or t (a + 1) 0 % 2 ≡ 1 → n ≡ used_looks 2 heap t a 0 → n ≡ host_looks heap t
unfolding host_looks
looks_on heap t a n e z f = rw (← e, eq-eqb (get_or t (a + 1) 0 % 2) 1 z, f)

-- ---- the parts behind the tests

pub parts_are : (t : List ℕ) (heap : Region) → heap ≡ heap_in t
    → first (numbered (refs_fault 0 heap t 0 0) 0) (first (host_fault heap t) (body_rule (valid_in t) (counts t) heap t 80 (read_body list_kinds t 80))) ≡ records t (meaning t)
parts_are t heap e =
    ap (λ (h : Region). first (numbered (refs_fault 0 h t 0 0) 0) (first (host_fault h t) (body_rule (valid_in t) (counts t) h t 80 (read_body list_kinds t 80)))) e
    ∙ ap₂ (λ (x y : Answer). first x (first y (body_rule (valid_in t) (counts t) (heap_in t) t 80 (read_body list_kinds t 80)))) (driver-is t) (host-is t)
    ∙ records-are t

pub heap-at : (t : List ℕ) (from n : ℕ) → from ≡ num t 36 4 → n ≡ num t 40 4 → region from n ≡ heap_in t
unfolding heap_in
heap-at t from n e f = ap₂ region e f

pub heap-length : (t : List ℕ) (at len : ℕ) → (0 < len → at + len ≤ length t) → length (part t at len) ≡ len
heap-length t at zero h = refl
heap-length t at (suc n) h = let w = h (omega arith) in simp (length-take, length-drop) (omega arith)

pub is-heap : (t heap : List ℕ) (at len : ℕ) → heap ≡ part t at len → length heap ≡ len → at < 4294967296 → len < 4294967296 → IsHeap t heap at
is-heap t heap at len e n x y = record { is_part = rw n e; small = rw n (omega arith) }

pub check-is : (t : List ℕ) → first (first_fail (tests t)) (records t (meaning t)) ≡ check t
unfolding check
check-is t = refl
