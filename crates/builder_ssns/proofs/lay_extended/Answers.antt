use Rattle.table.specs.Meaning.{limit}
use mathlib.Core.Path.{◌≡◌, refl, sym, ap, ◌∙◌}
use mathlib.Core.List.{[], ◌∷◌}
use Prim.Native.Nat.{ℕ, ◌+◌, ◌≤◌}
use native.Mathlib.Omega.{arith}
use lib.ListN.{length}
use Rattle.table.specs.Bytes.{splice}
use Rattle.table.specs.Layout.{text}
use Rattle.table.specs.Builder.{ended}
use Rattle.builder_writers.specs.Written.{record_with}
use Rattle.table.specs.FixedLayouts.{extended}
use Rattle.bytes_writer.proofs.StoreLaws.{chain-laid, splice-none}
use Rattle.builder_record.proofs.LayLaws.{part-size, part-stored, two-long}
use Rattle.builder_ssns.proofs.Laws.{extended_none, extended-some, extended-long}
use borrow.Author.Rules.{rules}
use Rattle.builder_ssns.proofs.lay_extended.Goals as goal

pub returns-then-size-eq0 : goal.returns-then-size-eq0
returns-then-size-eq0 c =
    let a = c.args in
    splice-none a.out.now a.at ∙ ap (splice a.out.now a.at) (sym (extended_none a.extended.now a.at a.size (ended text a.path.now) c.if-size-eq0.true))

pub overflow_add-end : goal.overflow_add-end
unfolding limit
overflow_add-end c = search rules

pub slice_bounds-write_extended-end : goal.slice_bounds-write_extended-end
slice_bounds-write_extended-end c =
    omega (arith, c.requires.3, extended-long c.args.size (ended text c.args.path.now) c.if-size-eq0.false)

pub write_extended-requires : goal.write_extended-requires
unfolding extended limit
write_extended-requires c =
    let a = c.args in
    let n = extended-long a.size (ended text a.path.now) c.if-size-eq0.false in (
      (part-size a.out.now a.at 18 (omega (arith, c.requires.3, n)), c.requires.0, omega (arith, c.requires.2)),
      omega (arith, c.requires.1, c.ended_len.ensures),
    )

pub lay_text-requires : goal.lay_text-requires
lay_text-requires c =
    let a = c.args in
    omega (arith, c.requires.3, extended-long a.size (ended text a.path.now) c.if-size-eq0.false, c.out-1.given.1)

pub returns : goal.returns
unfolding extended
returns c =
    let a = c.args in
    let w = c.write_extended in
    let path = ended text a.path.now in
    let n = extended-long a.size path c.if-size-eq0.false in
    let k : a.at + 18 ≤ length a.out.now = omega (arith, c.requires.3, n) in
    let l : length w.new.part ≡ 18 = w.auto.part ∙ part-size a.out.now a.at 18 k in
    let r = w.ensures ∙ ap (λ (m : ℕ). record_with extended a.extended.now (a.at + 18) (m ∷ []) (m ∷ [])) c.ended_len.ensures in
    chain-laid (w.new.part ∷ path ∷ []) a.out.now a.at c.lay_text.new.out
    (omega (arith, two-long w.new.part path, l, n, c.requires.3)) (
      _,
      a.at,
      part-stored a.out.now a.at 18 w.new.part w.new.part k w.auto.part refl,
      refl,
      (c.lay_text.new.out, a.at + 18, c.lay_text.ensures, ap (λ (m : ℕ). a.at + m) (sym l), refl),
    )
    ∙ ap (splice a.out.now a.at) (extended-some a.size path c.if-size-eq0.false a.extended.now a.at w.new.part r)
