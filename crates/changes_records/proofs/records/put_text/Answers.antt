use Rattle.std.proofs.Common.{arith, ◌≡◌, ap, ap₂, ◌∙◌, List, ℕ, ◌+◌, ◌≤◌, length, take}
use Rattle.laws.specs.ByteLaws.{length-splice}
use Rattle.changes_records.proofs.TextLaws.{spliced-front}
use Rattle.changes_records.proofs.records.put_text.Goals as goal

pub returns : goal.returns
returns c =
    let a = c.args in
    let out : List ℕ = a.out.now in
    let told : List ℕ = a.text.now in
    let n = c.len.ensures in
    let e = rw c.as_bytes.ensures at c.copy_into.ensures in
    let h : a.at + length told ≤ length out = omega (arith, n, c.requires) in (
      ap (λ (m : ℕ). a.at + m) n.0,
      omega (arith, n),
      ap₂ take (ap (λ (m : ℕ). a.at + m) n.0) e ∙ spliced-front out a.at told h,
      ap length e ∙ length-splice out a.at told h,
    )
