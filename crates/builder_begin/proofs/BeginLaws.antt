-- The beginning of a build: its answers, and the table of which only that is told. Assumes nothing.
use mathlib.Core.Path.{◌≡◌, refl, sym, ap, ap₂, ◌∙◌}
use mathlib.Core.Bool.{true, false}
use mathlib.Core.List.{List, [], ◌∷◌, ◌++◌, append_assoc, append-nil}
use Prim.Native.Nat.{ℕ, zero, suc, ◌+◌, ◌-◌, ◌<◌}
use native.Mathlib.Omega.{arith}
use native.Mathlib.Nat.{add-zero}
use lib.ListN.{length, get_or, replicate, length-append, replicate-append-replicate}
use lib.Dec.{eqb, lit<}
use borrow.Author.Tests.{eq-eqb, ne_eqb}
use Rattle.table.specs.declared.Answer.{Answer}
use Rattle.table.specs.declared.State.{State}
use Rattle.table.specs.Bytes.{splice}
use Rattle.table.specs.Layout.{Env, env, slot_at, anything}
use Rattle.table.specs.FixedLayouts.{header, host, list_kinds}
use Rattle.table.specs.Objects.{size_of, size_entry, span_body, heap_of, rec_entry, heap_entry, recs_body, heap_body}
use Rattle.table.specs.Meaning.{Meaning, heap_at, heap_len, form_length, head_front, head_back, control_bytes, behind, laid_out}
use Rattle.table.specs.Rules.{answer, first_fail}
use Rattle.table.specs.Builder.{begin, begun, end_of, records_end, count_of, empty, opened, all_unused, room_tests, same_state, slots_rule, told_slots}
use Rattle.laws.specs.Blank.{AllBlank, lengths_of, fit-unused, blank-recs, blank-heap, blank-size}
use Rattle.laws.specs.Turns.{end_is}
use Rattle.bytes_front.specs.declared.Counts.{Counts}
use Rattle.bytes_front.specs.Front.{header_for, control_for}
use Rattle.bytes_writer.proofs.StoreLaws.{concat}
use Rattle.bytes_front.proofs.FrontLaws.{header_is, header-joined, header-long, control-is, control-joined, control-long}
use Rattle.builder_record.proofs.FillLaws.{faults-told}
use Rattle.laws.specs.RefWalk.{first-zero}
use Rattle.laws.specs.TextLaws.{told_fault}
use Rattle.table.specs.declared.Need.TheVariants.{Optional}
use Rattle.builder_begin.specs.Begins.{header_told, begin_with, SmallCounts}

-- ---- what is opened

module _ (oem : List ℕ) (c : Counts) (small : SmallCounts c) (signature : List ℕ) where
  abbrev cs : List ℕ
  cs = c.hfi ∷ c.ssns ∷ c.security ∷ c.discovery ∷ []

  abbrev m : Meaning
  m = opened oem cs (header_told signature)

  four-small : (i : ℕ) → get_or cs i 0 < 256
  four-small zero = small.0
  four-small (suc zero) = small.1
  four-small (suc (suc zero)) = small.2
  four-small (suc (suc (suc zero))) = small.3
  four-small (suc (suc (suc (suc i)))) = lit< tt

  counted : lengths_of (all_unused list_kinds cs) ≡ cs
  counted = (fit-unused (λ k. 0) list_kinds cs refl four-small).1

  blank : AllBlank (all_unused list_kinds cs)
  blank = (fit-unused (λ k. 0) list_kinds cs refl four-small).2

  ends : 160 + span_body (all_unused list_kinds cs) ≡ records_end (begun cs 0)
  unfolding records_end
  ends = sym (end_is 160 (all_unused list_kinds cs)) ∙ ap (end_of 160 list_kinds) counted

  heap-start : heap_at m ≡ records_end (begun cs 0)
  unfolding heap_at opened
  heap-start = ends

  pub opened-length : (h : ℕ) → h ≡ records_end (begun cs 0) → h + length signature ≡ form_length m
  unfolding form_length heap_len opened header_told header size_of size_entry
  opened-length h e = omega (arith, heap-start, blank-size (all_unused list_kinds cs) blank)

  header-opened : header_for 0 oem (heap_at m) 0 (length signature) 0 ≡ head_front 0 ++ (0 ∷ head_back m 0 0)
  unfolding opened header_told header slot_at
  header-opened = header_is m 0 0 0

  control-opened : control_for cs ≡ control_bytes m
  unfolding opened
  control-opened = ap control_for (sym counted) ∙ control-is m

  behind-opened : (h : ℕ) → h ≡ records_end (begun cs 0) → control_for cs ++ (replicate (h - 128) 0 ++ (signature ++ [])) ≡ behind m
  unfolding behind opened header_told header host rec_entry heap_of heap_entry
  behind-opened h e =
      let n : h - 128 ≡ 32 + span_body (all_unused list_kinds cs) = omega (arith, ends) in
      let z : List ℕ = signature ++ [] in
      let zeros : replicate {A = ℕ} (h - 128) 0 ≡ replicate 32 0 ++ replicate (span_body (all_unused list_kinds cs)) 0 =
      ap (λ (i : ℕ). replicate i 0) n ∙ sym (replicate-append-replicate {A = ℕ} 32 (span_body (all_unused list_kinds cs)) 0) in
      let w : ℕ = heap_at m + size_of m.driver + size_entry m.owner in
      let recs : replicate {A = ℕ} (span_body (all_unused list_kinds cs)) 0 ≡ recs_body w (all_unused list_kinds cs) = sym (blank-recs w (all_unused list_kinds cs) blank) in
      let tail : z ≡ z ++ heap_body w (all_unused list_kinds cs) = sym (ap (λ (x : List ℕ). z ++ x) (blank-heap w (all_unused list_kinds cs) blank) ∙ append-nil z) in
      ap₂ (λ (x y : List ℕ). x ++ y) control-opened
      (ap (λ (x : List ℕ). x ++ z) zeros ∙ append_assoc (replicate 32 0) (replicate (span_body (all_unused list_kinds cs)) 0) z
      ∙ ap (λ (x : List ℕ). replicate 32 0 ++ x) (ap₂ (λ (x y : List ℕ). x ++ y) recs tail))

  pub opened-laid : (h : ℕ) → h ≡ records_end (begun cs 0)
      → concat (header_for 0 oem h 0 (length signature) 0 ∷ control_for cs ∷ replicate (h - 128) 0 ∷ signature ∷ []) ≡ laid_out m 0 0 0 0
  unfolding laid_out
  opened-laid h e =
      ap₂ (λ (x y : List ℕ). x ++ y) (ap (λ (i : ℕ). header_for 0 oem i 0 (length signature) 0) (e ∙ sym heap-start) ∙ header-opened) (behind-opened h e)
      ∙ append_assoc (head_front 0) (0 ∷ head_back m 0 0) (behind m)

-- ---- answers

number_is : (e : Env) (signature : List ℕ) → slots_rule e [] (header_told signature) ≡ told_fault Optional anything signature
unfolding header_told header told_slots
number_is e signature = faults-told e [] (header_told signature) ∙ first-zero (told_fault Optional anything signature)

module _ (s : State) (b oem cs signature : List ℕ) where
  pub begin-again : same_state s empty ≡ false → (record { answer = answer 15 0 0; state = s } ≡ (begin_with s b oem cs signature).step) × (b ≡ (begin_with s b oem cs signature).buffer)
  unfolding begin_with begin
  begin-again e = (rw e refl, rw e refl)

  module _ (e : same_state s empty ≡ true) where
    module _ (q : ℕ) (p : q ≡ told_fault Optional anything signature) where
      number : slots_rule (env (count_of list_kinds cs) 0) [] (header_told signature) ≡ q
      number = number_is (env (count_of list_kinds cs) 0) signature ∙ sym p

      pub begin-faulty : (q ≡ 0 → ⊥) → (record { answer = answer q 0 0; state = s } ≡ (begin_with s b oem cs signature).step) × (b ≡ (begin_with s b oem cs signature).buffer)
      unfolding begin_with begin
      begin-faulty z = let f = ne_eqb q 0 z in (rw (e, number, f) (rw f refl), rw (e, number, f) (rw f refl))

    module _ (k : told_fault Optional anything signature ≡ 0) (n : ℕ) (f : n ≡ form_length (opened oem cs (header_told signature))) (a : Answer) (g : a ≡ first_fail (room_tests n (length b))) where
      none : slots_rule (env (count_of list_kinds cs) 0) [] (header_told signature) ≡ 0
      none = number_is (env (count_of list_kinds cs) 0) signature ∙ k

      pub begin-refused : (a.number ≡ 0 → ⊥) → (record { answer = a; state = s } ≡ (begin_with s b oem cs signature).step) × (b ≡ (begin_with s b oem cs signature).buffer)
      unfolding begin_with begin
      begin-refused z = let q = ne_eqb a.number 0 z in (rw (e, none, sym f, sym g, q) refl, rw (e, none, sym f, sym g, q) refl)

      pub begin-done : a.number ≡ 0
          → (record { answer = a; state = begun cs n } ≡ (begin_with s b oem cs signature).step) × (splice b 0 (laid_out (opened oem cs (header_told signature)) 0 0 0 0) ≡ (begin_with s b oem cs
          signature).buffer)
      unfolding begin_with begin
      begin-done z = let q = eq-eqb a.number 0 z in (rw (e, none, sym f, sym g, q) refl, rw (e, none, sym f, sym g, q) refl)

-- ---- lengths

pub header-length : (n : ℕ) (oem : List ℕ) (h k d v : ℕ) → length oem ≡ 26 → length (header_for n oem h k d v) ≡ 64
header-length n oem h k d v e = sym (ap length (header-joined n oem h k d v)) ∙ header-long n oem h k d v e

pub control-length : (h n s d : ℕ) → length (control_for (h ∷ n ∷ s ∷ d ∷ [])) ≡ 64
control-length h n s d = sym (ap length (control-joined h n s d)) ∙ control-long h n s d

pub four-long : (p q r s : List ℕ) → length (concat (p ∷ q ∷ r ∷ s ∷ [])) ≡ length p + (length q + (length r + length s))
four-long p q r s = simp (length-append, add-zero)
