-- Flags by the bytes that are read, and the two-bit fields of each kind. Assumes nothing.
use mathlib.Core.Path.{◌≡◌, refl, sym, ap, ◌∙◌}
use mathlib.Core.Bool.{Bool, true, false, ◌&&◌}
use mathlib.Core.List.{List, []}
use Prim.Native.Nat.{ℕ, ◌+◌, ◌*◌, ◌/◌, ◌%◌}
use native.Mathlib.Omega.{arith}
use lib.ListN.{get_or, drop}
use lib.Dec.{eqb}
use Rattle.table.specs.Bytes.{num, pick}
use Rattle.table.specs.Layout.{image, pairs_right}
use Rattle.table.specs.FixedLayouts.{header, control, host, hfi, ssns, security, discovery, info, extended, hfi_extended, no_kind, layout_of}
use Rattle.laws.specs.ByteLaws.{num-suc}
use Rattle.laws.specs.Fields.{Bytes, image_in, masked, whole, one_byte, two_bytes}
use Rattle.layout_flags.specs.Flags.{pair_right, security_pairs}

module _ (t : List ℕ) (a : ℕ) (b : Bytes t) where
  pub ssns-flags : num (image_in ssns t a) 3 2 ≡ get_or t (a + 3) 0 + 256 * (get_or t (a + 4) 0 % 2)
  unfolding image_in ssns
  ssns-flags =
      let x = image ssns.shape.keep (drop a t) in
      let e3 = whole ssns.shape.keep t a 3 tt refl (b (a + 3)) in
      let e4 = masked ssns.shape.keep t a 4 2 tt refl in
      omega (arith, two_bytes x 3, e3, e4)

  pub security-flags : num (image_in security t a) 2 2 ≡ get_or t (a + 2) 0 + 256 * (get_or t (a + 3) 0 % 16)
  unfolding image_in security
  security-flags =
      let x = image security.shape.keep (drop a t) in
      let e2 = whole security.shape.keep t a 2 tt refl (b (a + 2)) in
      let e3 = masked security.shape.keep t a 3 16 tt refl in
      omega (arith, two_bytes x 2, e2, e3)

pub security-secret : (t : List ℕ) (a : ℕ) → num (image_in security t a) 4 1 ≡ get_or t (a + 4) 0 % 2
unfolding image_in security
security-secret t a = one_byte (image security.shape.keep (drop a t)) 4 ∙ masked security.shape.keep t a 4 2 tt refl

pub identity-flags : (x : List ℕ) → num (image_in hfi_extended x 0) 4 4 ≡ get_or x 4 0 % 4
unfolding image_in hfi_extended
identity-flags x =
    let ks = hfi_extended.shape.keep in
    let y = image ks x in
    omega (
      arith,
      num-suc y 4 3,
      num-suc y 5 2,
      num-suc y 6 1,
      num-suc y 7 0,
      masked ks x 0 4 4 tt refl,
      masked ks x 0 5 1 tt refl,
      masked ks x 0 6 1 tt refl,
      masked ks x 0 7 1 tt refl,
    )

-- ---- the two-bit fields of the record at a, by kind

and-true : (b : Bool) → (b && true) ≡ b
and-true true = refl
and-true false = refl

pub host-pairs : (t : List ℕ) (a : ℕ) → pair_right (get_or t (a + 1) 0 % 32 / 8) ≡ pairs_right (layout_of 2).shape (image_in (layout_of 2) t a)
unfolding layout_of host image_in
host-pairs t a =
    let x = image host.shape.keep (drop a t) in
    let e : num x 1 1 ≡ get_or t (a + 1) 0 % 32 = one_byte x 1 ∙ masked host.shape.keep t a 1 32 tt refl in
    sym (and-true (pair_right (num x 1 1 / 8)) ∙ ap (λ (n : ℕ). pair_right (n / 8)) e)

pub ssns-pairs : (t : List ℕ) (a : ℕ) → pair_right (num (image_in ssns t a) 3 2 / 128) ≡ pairs_right (layout_of 4).shape (image_in (layout_of 4) t a)
unfolding layout_of ssns
ssns-pairs t a = sym (and-true (pair_right (num (image_in ssns t a) 3 2 / 128)))

pub security-pairs : (t : List ℕ) (a : ℕ) → security_pairs (num (image_in security t a) 2 2) ≡ pairs_right (layout_of 5).shape (image_in (layout_of 5) t a)
unfolding layout_of security security_pairs
security-pairs t a = refl

no_pairs_lem : (k : ℕ) → eqb k 2 ≡ false → eqb k 4 ≡ false → eqb k 5 ≡ false → (layout_of k).shape.pairs ≡ []
unfolding layout_of header control hfi discovery info extended hfi_extended no_kind
no_pairs_lem k e2 e4 e5 = rw (e2, e4, e5) (go (eqb k 0) (eqb k 1) (eqb k 3) (eqb k 6) (eqb k 7) (eqb k 9) (eqb k 10))
  where
    go : (b0 b1 b3 b6 b7 b9 b10 : Bool)
        → (pick b0 header (pick b1 control (pick b3 hfi (pick b6 discovery (pick b7 info (pick b9 extended (pick b10 hfi_extended no_kind))))))).shape.pairs ≡ []
    go true b1 b3 b6 b7 b9 b10 = refl
    go false true b3 b6 b7 b9 b10 = refl
    go false false true b6 b7 b9 b10 = refl
    go false false false true b7 b9 b10 = refl
    go false false false false true b9 b10 = refl
    go false false false false false true b10 = refl
    go false false false false false false true = refl
    go false false false false false false false = refl

pub pairs-none : (k : ℕ) (x : List ℕ) → eqb k 2 ≡ false → eqb k 4 ≡ false → eqb k 5 ≡ false → true ≡ pairs_right (layout_of k).shape x
pairs-none k x e2 e4 e5 = rw (no_pairs_lem k e2 e4 e5)
