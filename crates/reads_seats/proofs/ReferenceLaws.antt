-- The references of a kind by their number: those to objects come first, behind them that to a heap record. Assumes nothing.
use mathlib.Core.Path.{◌≡◌, refl, sym, ap, subst, ◌∙◌}
use mathlib.Core.Bool.{Bool, true, false}
use mathlib.Core.List.{List, ◌++◌}
use Prim.Native.Nat.{ℕ, zero, suc, ◌<◌}
use native.Mathlib.Omega.{arith}
use lib.ListN.{length, get_or, take, length-append, get_or-append}
use lib.Seq.{get_or-take}
use lib.Dec.{eqb}
use borrow.Author.Tests.{eq-eqb}
use Rattle.table.specs.Bytes.{pick}
use Rattle.table.specs.Layout.{Layout, Refs, none, plain, nest, offsets}
use Rattle.table.specs.FixedLayouts.{layout_of, header, control, host, hfi, ssns, security, discovery, info, extended, hfi_extended, no_kind}
use Rattle.table.specs.Reads.{has_plain}
use Rattle.layout_kinds.specs.References.{object_refs, held_refs}
use Rattle.layout_images.proofs.Laws.{by_kind, other-layout}

-- what holds of every kind, where it can be computed, and of none
module _ (P : Refs → Type 0) where
  of_refs : P (layout_of 0).refs → P (layout_of 1).refs → P (layout_of 2).refs → P (layout_of 3).refs → P (layout_of 4).refs → P (layout_of 5).refs → P (layout_of 6).refs
      → P (layout_of 7).refs → P (layout_of 9).refs → P (layout_of 10).refs → P no_kind.refs → (k : ℕ) → P (layout_of k).refs
  of_refs p0 p1 p2 p3 p4 p5 p6 p7 p9 p10 p =
      by_kind (λ k. P (layout_of k).refs) p0 p1 p2 p3 p4 p5 p6 p7 p9 p10 (λ k o. subst (λ (l : Layout). P l.refs) (sym (other-layout k o)) p)

pub refs-split : (k : ℕ) → offsets (layout_of k).refs ≡ object_refs (layout_of k).refs ++ held_refs (layout_of k).refs
unfolding layout_of header control host hfi ssns security discovery info extended hfi_extended no_kind
refs-split = of_refs (λ rs. offsets rs ≡ object_refs rs ++ held_refs rs) refl refl refl refl refl refl refl refl refl refl refl

-- each of them is plain, whatever the references
plain_of : (rs : Refs) (i : ℕ) → i < length (object_refs rs) → has_plain (get_or (object_refs rs) i 0) rs ≡ true
plain_of none i h = absurd (omega arith)
plain_of (plain p need content rest) zero h = rw (eq-eqb p p refl) refl
plain_of (plain p need content rest) (suc i) h = go (eqb (get_or (object_refs rest) i 0) p) (plain_of rest i (omega arith)) where
  go : (c : Bool) → has_plain (get_or (object_refs rest) i 0) rest ≡ true → pick c true (has_plain (get_or (object_refs rest) i 0) rest) ≡ true
  go true e = refl
  go false e = e
plain_of (nest p need shape own rest) i h = plain_of rest i h

pub plain-each : (k i : ℕ) → i < length (object_refs (layout_of k).refs) → has_plain (get_or (object_refs (layout_of k).refs) i 0) (layout_of k).refs ≡ true
plain-each k = plain_of (layout_of k).refs

-- a reference to an object, of the table of offsets
pub offset-is : (k : ℕ) (ps : List ℕ) (n i : ℕ) → take n ps ≡ offsets (layout_of k).refs → i < length (object_refs (layout_of k).refs) → n ≡ length (offsets (layout_of k).refs) → get_or ps i 0 ≡ get_or (object_refs (layout_of k).refs) i 0
offset-is k ps n i e h m =
    let l = ap length (refs-split k) ∙ length-append (object_refs (layout_of k).refs) (held_refs (layout_of k).refs) in
    sym (get_or-take n ps i 0 (omega (arith, l, m, h))) ∙ ap (λ (qs : List ℕ). get_or qs i 0) (e ∙ refs-split k) ∙ get_or-append (object_refs (layout_of k).refs) (held_refs (layout_of k).refs) 0 i h
