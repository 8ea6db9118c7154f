use Rattle.table.specs.Meaning.{limit}
use mathlib.Core.Path.{◌≡◌, ap, ap₂, ◌∙◌}
use mathlib.Core.List.{List, [], ◌∷◌, ◌++◌}
use Prim.Native.Nat.{ℕ, ◌+◌}
use native.Mathlib.Omega.{arith}
use lib.ListN.{length, length-append}
use Rattle.table.specs.Bytes.{splice}
use Rattle.table.specs.Layout.{text}
use Rattle.table.specs.Builder.{ended}
use Rattle.bytes_writer.proofs.StoreLaws.{concat, splice-join}
use Rattle.builder_record.proofs.LayLaws.{six-long}
use Rattle.builder_ssns.specs.SsnsParts.{extended_part, named_part}
use Rattle.builder_ssns.proofs.Laws.{three-then}
use Rattle.builder_ssns.proofs.lay_named.Goals as goal

-- the first three objects
front_long : (p q r : List ℕ) → length (concat (p ∷ q ∷ r ∷ [] ∷ [] ∷ [] ∷ [])) ≡ length p + length q + length r
front_long p q r = six-long p q r [] [] [] ∙ omega arith

pub lay_pieces-requires : goal.lay_pieces-requires
lay_pieces-requires c =
    let a = c.args in
    omega (arith, c.requires.path_bound, front_long a.address.now a.service.now a.others.now)

pub overflow_add-at : goal.overflow_add-at
unfolding limit
overflow_add-at c = omega (arith, c.requires.path_bound)

pub overflow_add-at-2 : goal.overflow_add-at-2
unfolding limit
overflow_add-at-2 c = omega (arith, c.requires.path_bound)

pub overflow_add-at-3 : goal.overflow_add-at-3
unfolding limit
overflow_add-at-3 c = omega (arith, c.requires.path_bound)

pub lay_text-requires : goal.lay_text-requires
lay_text-requires c = omega (
  arith,
  c.requires.path_bound,
  c.lay_pieces.auto.out,
)

pub overflow_add-at-4 : goal.overflow_add-at-4
unfolding limit
overflow_add-at-4 c = omega (
  arith,
  c.requires.path_bound,
  c.ended_len.ensures,
)

pub lay_extended-requires : goal.lay_extended-requires
unfolding limit
lay_extended-requires c = (
  c.requires.extended_len.0,
  c.requires.extended_len.1,
  omega (arith, c.requires.path_bound, c.ended_len.ensures),
  omega (arith, c.requires.path_bound, c.ended_len.ensures, c.lay_text.auto.out, c.lay_pieces.auto.out),
)

pub returns : goal.returns
unfolding named_part
returns c =
    let a = c.args in
    let p = concat (a.address.now ∷ a.service.now ∷ a.others.now ∷ [] ∷ [] ∷ [] ∷ []) in
    let nqn = ended text a.nqn.now in
    let at = a.next + length a.address.now + length a.service.now + length a.others.now in
    let front = front_long a.address.now a.service.now a.others.now in
    let l : at ≡ a.next + length p = omega (arith, front) in
    let x : List ℕ = extended_part a.extended.now (at + length nqn) a.size (ended text a.path.now) in
    let both = length-append p nqn in
    let text-laid : c.lay_text.new.out ≡ splice a.out.now a.next (p ++ nqn) =
    c.lay_text.ensures ∙ ap₂ (λ (t : List ℕ) (m : ℕ). splice t m nqn) c.lay_pieces.ensures l
    ∙ splice-join a.out.now a.next p nqn (omega (arith, c.requires.path_bound, front)) in
    let m : at + c.ended_len.result ≡ a.next + length (p ++ nqn) = omega (arith, l, c.ended_len.ensures, both) in
    c.lay_extended.ensures
    ∙ ap (λ (i : ℕ). splice c.lay_text.new.out (at + c.ended_len.result) (extended_part a.extended.now (at + i) a.size (ended text a.path.now))) c.ended_len.ensures
    ∙ ap₂ (λ (t : List ℕ) (i : ℕ). splice t i x) text-laid m
    ∙ splice-join a.out.now a.next (p ++ nqn) x (omega (arith, c.requires.path_bound, front, both))
    ∙ ap (splice a.out.now a.next) (three-then a.address.now a.service.now a.others.now nqn x)
