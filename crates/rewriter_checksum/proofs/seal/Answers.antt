use Rattle.table.specs.Bytes.{splice, total, checksum}
use Rattle.std.proofs.Common.{◌≡◌, ℕ, ◌%◌, [], ◌∷◌, take, ap, ◌∙◌, arith, length-take-le}
use native.Mathlib.Nat.{sub-zero}
use Rattle.rewriter_checksum.proofs.seal.Goals as goal

pub form_sum-sum-requires : goal.form_sum-sum-requires
form_sum-sum-requires c =
    let a = c.args in
    let l = length-take-le a.size a.out.now c.requires.lt_size.1 in
    rw (sub-zero a.size) (c.requires.lt_size.2, omega (arith, l, c.requires.signature_bound.0), c.requires.signature_bound.1)

pub returns : goal.returns
returns c =
    let a = c.args in
    let e : c.form_sum-sum.result ≡ total (take a.size a.out.now) % 256 = c.form_sum-sum.ensures ∙ ap
    (λ (m : ℕ). total (take m a.out.now) % 256) (sub-zero a.size) in
    let f : c.wrapping_sub_u8.result ≡ checksum (take a.size a.out.now) =
    omega (arith, e, c.wrapping_sub_u8.ensures) in
    c.put_u8.ensures ∙ ap (λ (x : ℕ). splice a.out.now 9 (x ∷ [])) f
