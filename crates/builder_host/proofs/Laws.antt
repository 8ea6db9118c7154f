-- The objects of the call. Assumes nothing.
use mathlib.Core.Path.{◌≡◌, refl, sym}
use mathlib.Core.Bool.{true}
use mathlib.Core.List.{List, [], ◌∷◌, append-nil}
use Prim.Native.Nat.{ℕ, ◌≤◌}
use native.Mathlib.Omega.{arith}
use lib.ListN.{length}
use Rattle.table.specs.declared.Need.TheVariants.{Required}
use Rattle.table.specs.declared.Answer.{Answer}
use Rattle.table.specs.declared.State.{State}
use Rattle.table.specs.Layout.{text}
use Rattle.table.specs.FixedLayouts.{layout_of, host}
use Rattle.table.specs.Objects.{size_of, heap_of, patched}
use Rattle.table.specs.Rules.{first_fail}
use Rattle.table.specs.Builder.{env_of, waits, ended, told_image, told_slots}
use Rattle.laws.specs.Fields.{image_in}
use Rattle.builder_writers.specs.Written.{record_with}
use Rattle.builder_writers.proofs.WriterLaws.{record_is}
use Rattle.builder_told.specs.Marks.{marked}
use Rattle.builder_record.specs.Steps.{laid, judge_tests}
use Rattle.builder_record.proofs.JudgeLaws.{judge-passed}
use Rattle.builder_record.specs.Calls.{host_told, tell_host}
use Rattle.builder_record.proofs.FillLaws.{told_faults, unruled, host-free, fill-refused, fill_done, fault-short}
use Rattle.laws.specs.RefWalk.{first-zero}
use Rattle.laws.specs.TextLaws.{told_fault}

pub host-size : (nqn : List ℕ) → length nqn ≡ size_of (host_told nqn)
unfolding host host_told size_of
host-size nqn = omega arith

pub host-record : (b : List ℕ) (u : ℕ) (nqn : List ℕ) → record_with host b u (length nqn ∷ []) (length nqn ∷ []) ≡ patched u (image_in host b 0) (host_told nqn)
unfolding host host_told
host-record b u nqn = record_is host b u _ _ (host_told nqn) (refl, refl, refl, tt)

pub host-heap : (u : ℕ) (nqn : List ℕ) → nqn ≡ heap_of u (host_told nqn)
unfolding host host_told heap_of
host-heap u nqn = sym (append-nil nqn)

module _ (s : State) (buf x b nqn : List ℕ) (a : Answer) (eb : b ≡ marked (layout_of 2).shape s.position x)
    (ea : a ≡ first_fail (judge_tests (layout_of 2) s (image_in (layout_of 2) b 0) 0 (told_fault Required text nqn))) where
  host-fault : told_fault Required text nqn ≡ told_faults (env_of s) (told_image host.shape s.position x) (host_told nqn)
  unfolding host host_told
  host-fault = sym (first-zero (told_fault Required text nqn))

  pub host-refused : (a.number ≡ 0 → ⊥) → (record { answer = a; state = s } ≡ (tell_host s buf x nqn).step) × (buf ≡ (tell_host s buf x nqn).buffer)
  unfolding tell_host layout_of
  host-refused z = fill-refused host s buf x b (host_told nqn) 0 (told_fault Required text nqn) a eb ea (unruled host-free.0 _ _) host-fault z

  pub host-passed : a.number ≡ 0 → (waits s 2 ≡ true) × (length (ended text nqn) ≤ 65535)
  unfolding layout_of host
  host-passed z =
      let p = judge-passed (layout_of 2) s (image_in (layout_of 2) b 0) 0 (told_fault Required text nqn) a ea z in
      (p.0, fault-short Required text nqn p.1)

  pub host-done : a.number ≡ 0 → laid host s buf b (host_told (ended text nqn)) ≡ tell_host s buf x nqn
  unfolding tell_host layout_of host host_told told_slots
  host-done z = fill_done host s buf x b (host_told nqn) 0 (told_fault Required text nqn) a eb ea (unruled host-free.0 _ _) host-fault z
