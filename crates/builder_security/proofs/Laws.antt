-- The objects of the call. Assumes nothing.
use mathlib.Core.Path.{◌≡◌, refl, ap, ◌∙◌}
use mathlib.Core.Bool.{true}
use mathlib.Core.List.{List, [], ◌∷◌}
use Prim.Native.Nat.{ℕ, ◌+◌, ◌≤◌}
use native.Mathlib.Omega.{arith}
use lib.ListN.{length}
use Rattle.table.specs.declared.Need.{Need}
use Rattle.table.specs.declared.Answer.{Answer}
use Rattle.table.specs.declared.State.{State}
use Rattle.table.specs.Layout.{anything}
use Rattle.table.specs.FixedLayouts.{layout_of, security}
use Rattle.table.specs.Objects.{under, size_of, heap_of, patched}
use Rattle.table.specs.Reads.{need_at}
use Rattle.table.specs.Rules.{first_of, first_fail}
use Rattle.table.specs.Builder.{env_of, waits, told_image, told_slots}
use Rattle.laws.specs.Fields.{image_in}
use Rattle.bytes_writer.proofs.StoreLaws.{concat}
use Rattle.builder_writers.specs.Written.{record_with}
use Rattle.builder_writers.proofs.WriterLaws.{record_is}
use Rattle.builder_told.specs.Marks.{marked}
use Rattle.builder_told.proofs.Laws.{image-is}
use Rattle.builder_record.specs.Steps.{laid, judge_tests}
use Rattle.builder_record.proofs.JudgeLaws.{judge-passed}
use Rattle.builder_security.specs.SecurityFaults.{security_fault}
use Rattle.builder_record.specs.Calls.{security_told, tell_security}
use Rattle.builder_record.proofs.FillLaws.{told_faults, unruled, security-free, fill-refused, fill_done, fault-short, first-none}
use Rattle.laws.specs.RefWalk.{first-zero}
use Rattle.laws.specs.TextLaws.{told_fault}

six-none : (x₁ x₂ x₃ x₄ x₅ x₆ : ℕ) → first_of x₁ (first_of x₂ (first_of x₃ (first_of x₄ (first_of x₅ x₆)))) ≡ 0
    → (x₁ ≡ 0) × (x₂ ≡ 0) × (x₃ ≡ 0) × (x₄ ≡ 0) × (x₅ ≡ 0) × (x₆ ≡ 0)
six-none x₁ x₂ x₃ x₄ x₅ x₆ e =
    let a₁ = first-none x₁ (first_of x₂ (first_of x₃ (first_of x₄ (first_of x₅ x₆)))) e in
    let a₂ = first-none x₂ (first_of x₃ (first_of x₄ (first_of x₅ x₆))) a₁.1 in
    let a₃ = first-none x₃ (first_of x₄ (first_of x₅ x₆)) a₂.1 in
    let a₄ = first-none x₄ (first_of x₅ x₆) a₃.1 in
    let a₅ = first-none x₅ x₆ a₄.1 in
    (a₁.0, a₂.0, a₃.0, a₄.0, a₅.0, a₅.1)

-- ---- a security record

module _ (p₁ p₂ p₃ p₄ p₅ p₆ : List ℕ) where
  pub security-size : length p₁ + length p₂ + length p₃ + length p₄ + length p₅ + length p₆ ≡ size_of (security_told p₁ p₂ p₃ p₄ p₅ p₆)
  unfolding security security_told size_of
  security-size = omega arith

  pub security-record : (b : List ℕ) (u : ℕ) → record_with security b u (length p₁ ∷ length p₂ ∷ length p₃ ∷ length p₄ ∷ length p₅ ∷ length p₆ ∷ []) (length p₁ ∷ length p₂ ∷ length p₃ ∷ length p₄
      ∷ length p₅ ∷ length p₆ ∷ [])
      ≡ patched u (image_in security b 0) (security_told p₁ p₂ p₃ p₄ p₅ p₆)
  unfolding security security_told
  security-record b u =
      record_is security b u _ _ (security_told p₁ p₂ p₃ p₄ p₅ p₆)
      (refl, refl, refl, (refl, refl, refl, (refl, refl, refl, (refl, refl, refl, (refl, refl, refl, (refl, refl, refl, tt))))))

  pub security-heap : (u : ℕ) → concat (p₁ ∷ p₂ ∷ p₃ ∷ p₄ ∷ p₅ ∷ p₆ ∷ []) ≡ heap_of u (security_told p₁ p₂ p₃ p₄ p₅ p₆)
  unfolding security security_told heap_of
  security-heap u = refl

-- the need of the reference at p of the security record in b
abbrev pub need_for : List ℕ → ℕ → Need
need_for b p = need_at p security.refs (image_in security b 0)

module _ (s : State) (buf x b o₁ o₂ o₃ o₄ o₅ o₆ : List ℕ) (a : Answer) (eb : b ≡ marked (layout_of 5).shape s.position x)
    (ea : a ≡ first_fail (judge_tests (layout_of 5) s (image_in (layout_of 5) b 0) 0 (security_fault (image_in security b 0) o₁ o₂ o₃ o₄ o₅ o₆)))
  where
    abbrev img₅ : List ℕ
    img₅ = told_image security.shape s.position x

    told₅ : image_in security b 0 ≡ img₅
    unfolding layout_of
    told₅ = image-is security s.position x b eb

    security-fault : security_fault (image_in security b 0) o₁ o₂ o₃ o₄ o₅ o₆ ≡ told_faults (env_of s) img₅ (security_told o₁ o₂ o₃ o₄ o₅ o₆)
    unfolding security security_told
    security-fault = ap (λ (y : List ℕ). security_fault y o₁ o₂ o₃ o₄ o₅ o₆) told₅ ∙ rw (first-zero (told_fault (need_at 36 security.refs img₅) anything o₆)) refl

    pub security-refused : (a.number ≡ 0 → ⊥) → (record { answer = a; state = s } ≡ (tell_security s buf x o₁ o₂ o₃ o₄ o₅ o₆).step) × (buf ≡ (tell_security s buf x o₁ o₂ o₃ o₄ o₅ o₆).buffer)
    unfolding tell_security layout_of
    security-refused z =
        fill-refused security s buf x b (security_told o₁ o₂ o₃ o₄ o₅ o₆) 0
        (security_fault (image_in security b 0) o₁ o₂ o₃ o₄ o₅ o₆) a eb ea (unruled security-free.0 _ _) security-fault
        z

    pub security-passed : a.number ≡ 0 → (waits s 5 ≡ true) × (length (under (need_for b 6) [] o₁) ≤ 65535) × (length (under (need_for b 12) [] o₂) ≤ 65535) × (length (under (need_for b 18) [] o₃)
        ≤ 65535) × (length (under (need_for b 24) [] o₄) ≤ 65535) × (length (under (need_for b 30) [] o₅) ≤ 65535) × (length (under (need_for b 36) [] o₆) ≤ 65535)
    unfolding layout_of security
    security-passed z =
        let p = judge-passed (layout_of 5) s (image_in (layout_of 5) b 0) 0 (security_fault (image_in security b 0) o₁ o₂ o₃ o₄ o₅ o₆) a ea z in
        let q = six-none (told_fault (need_for b 6) anything o₁) (told_fault (need_for b 12) anything o₂) (told_fault (need_for b 18) anything o₃) (told_fault (need_for b 24) anything o₄)
        (told_fault (need_for b 30) anything o₅)
        (told_fault (need_for b 36) anything o₆) p.1 in (
          p.0,
          fault-short (need_for b 6) anything o₁ q.0,
          fault-short (need_for b 12) anything o₂ q.1,
          fault-short (need_for b 18) anything o₃ q.2,
          fault-short (need_for b 24) anything o₄ q.3,
          fault-short (need_for b 30) anything o₅
              q.4,
          fault-short (need_for b 36) anything o₆ q.5,
        )

    pub security-done : a.number ≡ 0 → (k₁ k₂ k₃ k₄ k₅ k₆ : List ℕ)
        → k₁ ≡ under (need_for b 6) [] o₁ → k₂ ≡ under (need_for b 12) [] o₂ → k₃ ≡ under (need_for b 18) [] o₃ → k₄ ≡ under (need_for b 24) [] o₄ → k₅ ≡ under (need_for b 30) [] o₅ → k₆ ≡ under
        (need_for b 36) [] o₆
        → laid security s buf b (security_told k₁ k₂ k₃ k₄ k₅ k₆) ≡ tell_security s buf x o₁ o₂ o₃ o₄ o₅ o₆
    unfolding tell_security layout_of security security_told told_slots
    security-done z k₁ k₂ k₃ k₄ k₅ k₆ g₁ g₂ g₃ g₄ g₅ g₆ =
        let kept : (p : ℕ) (o : List ℕ) → under (need_for b p) [] o ≡ under (need_at p security.refs img₅) [] o =
        λ p o. ap (λ (y : List ℕ). under (need_at p security.refs y) [] o) told₅ in
        rw (g₁ ∙ kept 6 o₁, g₂ ∙ kept 12 o₂, g₃ ∙ kept 18 o₃, g₄ ∙ kept 24 o₄, g₅ ∙ kept 30 o₅, g₆ ∙ kept 36 o₆)
        (fill_done security s buf x b (security_told o₁ o₂ o₃ o₄ o₅ o₆) 0 (security_fault (image_in security b 0) o₁ o₂ o₃ o₄ o₅ o₆) a eb ea (unruled security-free.0 _ _) security-fault z)
