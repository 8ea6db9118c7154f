-- The objects of the call. Assumes nothing.
use mathlib.Core.Path.{◌≡◌, refl, sym, ap}
use mathlib.Core.Bool.{true}
use mathlib.Core.List.{List, [], ◌∷◌}
use Prim.Native.Nat.{ℕ, ◌+◌, ◌≤◌}
use native.Mathlib.Omega.{arith}
use lib.ListN.{length}
use Rattle.table.specs.declared.Need.TheVariants.{Optional}
use Rattle.table.specs.declared.Answer.{Answer}
use Rattle.table.specs.declared.State.{State}
use Rattle.table.specs.Layout.{text}
use Rattle.table.specs.FixedLayouts.{layout_of, discovery}
use Rattle.table.specs.Objects.{size_of, heap_of, patched}
use Rattle.table.specs.Rules.{first_of, first_fail}
use Rattle.table.specs.Builder.{env_of, waits, ended, told_image, told_slots}
use Rattle.laws.specs.Fields.{image_in}
use Rattle.bytes_writer.proofs.StoreLaws.{concat}
use Rattle.builder_writers.specs.Written.{record_with}
use Rattle.builder_writers.proofs.WriterLaws.{record_is}
use Rattle.builder_told.specs.Marks.{marked}
use Rattle.builder_record.specs.Steps.{laid, judge_tests}
use Rattle.builder_record.proofs.JudgeLaws.{judge-passed}
use Rattle.builder_record.specs.Calls.{discovery_told, tell_discovery}
use Rattle.builder_record.proofs.FillLaws.{told_faults, unruled, discovery-free, fill-refused, fill_done, fault-short, first-none}
use Rattle.laws.specs.RefWalk.{first-zero}
use Rattle.laws.specs.TextLaws.{told_fault}

pub discovery-size : (address nqn : List ℕ) → length address + length nqn ≡ size_of (discovery_told address nqn)
unfolding discovery discovery_told size_of
discovery-size address nqn = omega arith

pub discovery-record : (b : List ℕ) (u : ℕ) (address nqn : List ℕ)
    → record_with discovery b u (length address ∷ length nqn ∷ []) (length address ∷ length nqn ∷ []) ≡ patched u (image_in discovery b 0) (discovery_told address nqn)
unfolding discovery discovery_told
discovery-record b u address nqn = record_is discovery b u _ _ (discovery_told address nqn) (refl, refl, refl, (refl, refl, refl, tt))

pub discovery-heap : (u : ℕ) (address nqn : List ℕ) → concat (address ∷ nqn ∷ []) ≡ heap_of u (discovery_told address nqn)
unfolding discovery discovery_told heap_of
discovery-heap u address nqn = refl

module _ (s : State) (buf x b address nqn : List ℕ) (a : Answer) (eb : b ≡ marked (layout_of 6).shape s.position x)
    (ea : a ≡ first_fail (judge_tests (layout_of 6) s (image_in (layout_of 6) b 0) 0 (first_of (told_fault Optional text address) (told_fault Optional text nqn)))) where
  discovery-fault : first_of (told_fault Optional text address) (told_fault Optional text nqn)
      ≡ told_faults (env_of s) (told_image discovery.shape s.position x) (discovery_told address nqn)
  unfolding discovery discovery_told
  discovery-fault = ap (first_of (told_fault Optional text address)) (sym (first-zero (told_fault Optional text nqn)))

  pub discovery-refused : (a.number ≡ 0 → ⊥) → (record { answer = a; state = s } ≡ (tell_discovery s buf x address nqn).step) × (buf ≡ (tell_discovery s buf x address nqn).buffer)
  unfolding tell_discovery layout_of
  discovery-refused z =
      fill-refused discovery s buf x b (discovery_told address nqn) 0
      (first_of (told_fault Optional text address) (told_fault Optional text nqn)) a eb ea (unruled discovery-free.0 _ _)
      discovery-fault z

  pub discovery-passed : a.number ≡ 0 → (waits s 6 ≡ true) × (length (ended text address) ≤ 65535) × (length (ended text nqn) ≤ 65535)
  unfolding layout_of discovery
  discovery-passed z =
      let p = judge-passed (layout_of 6) s (image_in (layout_of 6) b 0) 0 (first_of (told_fault Optional text address) (told_fault Optional text nqn)) a ea z in
      let q = first-none (told_fault Optional text address) (told_fault Optional text nqn) p.1 in
      (p.0, fault-short Optional text address q.0, fault-short Optional text nqn q.1)

  pub discovery-done : a.number ≡ 0 → laid discovery s buf b (discovery_told (ended text address) (ended text nqn)) ≡ tell_discovery s buf x address nqn
  unfolding tell_discovery layout_of discovery discovery_told told_slots
  discovery-done z =
      fill_done discovery s buf x b (discovery_told address nqn) 0
      (first_of (told_fault Optional text address) (told_fault Optional text nqn)) a eb ea (unruled discovery-free.0 _ _)
      discovery-fault z
