-- Fields and references lie in their record; what is unused reads as zeros. Assumes nothing.
use mathlib.Core.Path.{◌≡◌, refl, sym, ap, ◌∙◌}
use mathlib.Core.Bool.{Bool, true, false, ◌&&◌}
use mathlib.Core.List.{List, [], ◌∷◌, ◌++◌}
use Prim.Native.Nat.{ℕ, zero, suc, ◌+◌, ◌-◌, ◌≤◌}
use native.Mathlib.Omega.{arith}
use lib.ListN.{take, replicate, length-replicate, replicate-append-replicate}
use lib.Dec.{T, eqb, leb, leb→le}
use mir.Facts.{and_yes}
use borrow.Author.Tests.{eqb-true}
use Rattle.table.specs.declared.Region.{Region}
use Rattle.table.specs.Bytes.{pick, part, padded}
use Rattle.table.specs.Layout.{base_of}
use Rattle.table.specs.FixedLayouts.{layout_of, header, control, host, hfi, ssns, security, discovery, info, extended, hfi_extended, no_kind}
use Rattle.table.specs.Reads.{width_at}
use Rattle.laws.specs.ListWalk.{by_layout}
use Rattle.layout_images.proofs.Laws.{drop-zeros}

-- ---- fields

abbrev fields_in : ℕ → List Region → Bool
fields_in n [] = true
fields_in n (f ∷ fs) = (leb (f.at + f.len) n && leb f.len 16) && fields_in n fs

fields_in_lem : (k : ℕ) → T (fields_in (base_of (layout_of k)) (layout_of k).shape.fields)
unfolding header control host hfi ssns security discovery info extended hfi_extended no_kind
fields_in_lem = by_layout (λ l. T (fields_in (base_of l) l.shape.fields)) tt tt tt tt tt tt tt tt tt tt tt

width-in : (n q : ℕ) (fs : List Region) → T (fields_in n fs) → (width_at q fs ≡ 0 → ⊥) → (q + width_at q fs ≤ n) × (width_at q fs ≤ 16)
width-in n q [] t z = absurd (z refl)
width-in n q (f ∷ fs) t z =
    let u = and_yes (leb (f.at + f.len) n && leb f.len 16) (fields_in n fs) t in
    let v = and_yes (leb (f.at + f.len) n) (leb f.len 16) u.0 in
    go (eqb q f.at) refl (leb→le (f.at + f.len) n v.0) (leb→le f.len 16 v.1) (λ y. width-in n q fs u.1 y) z
  where
    go : (c : Bool) → eqb q f.at ≡ c → f.at + f.len ≤ n → f.len ≤ 16 → ((width_at q fs ≡ 0 → ⊥) → (q + width_at q fs ≤ n) × (width_at q fs ≤ 16))
        → (pick c f.len (width_at q fs) ≡ 0 → ⊥) → (q + pick c f.len (width_at q fs) ≤ n) × (pick c f.len (width_at q fs) ≤ 16)
    go true e a b r z = (omega (arith, eqb-true q f.at e), b)
    go false e a b r z = r z

pub width_fits : (k q : ℕ) → (width_at q (layout_of k).shape.fields ≡ 0 → ⊥) → (q + width_at q (layout_of k).shape.fields ≤ base_of (layout_of k)) × (width_at q (layout_of k).shape.fields ≤ 16)
width_fits k q z = width-in (base_of (layout_of k)) q (layout_of k).shape.fields (fields_in_lem k) z

-- ---- zeros

pub zeros-padded : (n m : ℕ) → n ≤ m → replicate m 0 ≡ padded m (replicate n 0)
zeros-padded n m h =
    let e : n + (m - n) ≡ m = omega arith in
    sym (ap (λ (k : ℕ). replicate n 0 ++ replicate (m - k) 0) (length-replicate n 0) ∙ replicate-append-replicate n (m - n) 0 ∙ ap (λ (k : ℕ). replicate k 0) e)

take-zeros : (n m : ℕ) → n ≤ m → take {A = ℕ} n (replicate m 0) ≡ replicate n 0
take-zeros zero m h = refl
take-zeros (suc n) zero h = absurd (omega arith)
take-zeros (suc n) (suc m) h = ap (λ (r : List ℕ). 0 ∷ r) (take-zeros n m (omega arith))

pub part-zeros : (m q n : ℕ) → q + n ≤ m → part (replicate m 0) q n ≡ replicate n 0
part-zeros m q n h = ap (take n) (drop-zeros q m) ∙ take-zeros n (m - q) (omega arith)
