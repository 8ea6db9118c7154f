use mathlib.Core.Path.{◌≡◌, refl, sym, ap, ap₂, ◌∙◌}
use mathlib.Core.List.{List, [], ◌∷◌}
use Prim.Native.Nat.{ℕ, ◌+◌, ◌≤◌}
use native.Mathlib.Omega.{arith}
use lib.ListN.{length}
use Rattle.table.specs.Bytes.{splice}
use Rattle.table.specs.Layout.{text}
use Rattle.table.specs.FixedLayouts.{info}
use Rattle.table.specs.Meaning.{limit}
use Rattle.table.specs.Builder.{ended}
use Rattle.builder_writers.specs.Written.{record_with}
use Rattle.bytes_writer.proofs.StoreLaws.{concat, chain-laid, splice-join}
use Rattle.builder_record.proofs.LayLaws.{part-size, part-stored, two-long}
use Rattle.builder_hfi.specs.HfiParts.{identity_part}
use Rattle.builder_hfi.proofs.Laws.{info-part}
use Rattle.builder_hfi.proofs.lay_info.Goals as goal

pub write_info-requires : goal.write_info-requires
unfolding info limit
write_info-requires c =
    let a = c.args in (
      (
        part-size a.out.now a.at 128 (omega (arith, c.requires.duid_bound.1)),
        c.requires.info_len.0,
        omega (arith, c.requires.duid_bound.0),
      ),
      omega (arith, c.requires.name_len_bound.0, c.ended_len-name_len.ensures),
      omega (arith, c.requires.duid_bound.0, c.identity_size-span.ensures.0),
    )

pub returns : goal.returns
unfolding info
returns c =
    let a = c.args in
    let b = a.out.now in
    let name = ended text a.name.now in
    let n = c.ended_len-name_len.result in
    let len_is = c.ended_len-name_len.ensures in
    let w = c.write_info in
    let k : a.at + 128 ≤ length b = omega (arith, c.requires.duid_bound.1) in
    let l : length w.new.part ≡ 128 = w.auto.part ∙ part-size b a.at 128 k in
    let p = concat (w.new.part ∷ name ∷ []) in
    let pl : length p ≡ 128 + length name = two-long w.new.part name ∙ ap (λ (m : ℕ). m + length name) l in
    let r : a.at + length p ≤ length b = omega (arith, pl, c.requires.duid_bound.1) in
    let z = chain-laid (w.new.part ∷ name ∷ []) b a.at c.lay_text.new.out r (
      _,
      a.at,
      part-stored b a.at 128 w.new.part w.new.part k w.auto.part refl,
      refl,
      (c.lay_text.new.out, a.at + 128, c.lay_text.ensures, ap (λ (m : ℕ). a.at + m) (sym l), refl),
    ) in
    let x : ℕ → List ℕ = λ i. identity_part a.extended.now (a.at + 128 + i) a.there a.iaid.now a.duid.now in
    let next : a.at + 128 + n ≡ a.at + length p = omega (arith, pl, len_is) in
    let info-is = w.ensures
    ∙ ap (λ (i : ℕ). record_with info a.info.now (a.at + 128) (i ∷ c.own_size-size.result ∷ []) (i ∷ c.identity_size-span.result ∷ [])) len_is in
    c.lay_identity.ensures
    ∙ ap (λ (i : ℕ). splice c.lay_text.new.out (a.at + 128 + n) (x i)) len_is
    ∙ ap₂ (λ (t : List ℕ) (m : ℕ). splice t m (x (length name))) z next
    ∙ splice-join b a.at p (x (length name)) r
    ∙ ap (splice b a.at)
    (info-part a.info.now a.at name a.there a.extended.now a.iaid.now a.duid.now w.new.part c.own_size-size.result c.identity_size-span.result
    c.own_size-size.ensures.0 c.identity_size-span.ensures.0 info-is)
