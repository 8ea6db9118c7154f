-- Header and control record: the stores they are made of, and that they are what a meaning's form has there. Assumes nothing.
use mathlib.Core.Path.{◌≡◌, refl, ap, ap₂}
use mathlib.Core.Bool.{Bool, true, false}
use mathlib.Core.List.{List, [], ◌∷◌, ◌++◌, append_assoc}
use Prim.Native.Nat.{ℕ, ◌+◌, ◌*◌}
use native.Mathlib.Omega.{arith}
use borrow.Author.Tests.{ne_eqb}
use lib.ListN.{length, replicate, length-append}
use lib.Dec.{eqb}
use Rattle.table.specs.Bytes.{pick, le}
use Rattle.table.specs.Layout.{Layout, Entry, Body, stop, more, base_of, slot_at}
use Rattle.table.specs.FixedLayouts.{host, hfi, ssns, security, discovery}
use Rattle.table.specs.Objects.{entry8, places_body}
use Rattle.table.specs.Meaning.{Meaning, heap_at, driver_ref, head_front, head_back, control_bytes}
use Rattle.laws.specs.Blank.{lengths_of}
use Rattle.bytes_writer.specs.Stores.{ref_num}
use Rattle.bytes_front.specs.Front.{header_for, entry_for, places_for, control_for}
use Rattle.bytes_writer.proofs.StoreLaws.{concat}
use Rattle.bytes_writer.proofs.RecordLaws.{length-ref, ref-for}

-- ---- the header's stores

abbrev pub header_pieces : ℕ → List ℕ → ℕ → ℕ → ℕ → ℕ → List (List ℕ)
header_pieces n oem h k d v =
    (0x4E ∷ 0x42 ∷ 0x46 ∷ 0x54 ∷ []) ∷ le 4 n ∷ (1 ∷ []) ∷ (0 ∷ []) ∷ oem ∷ le 4 h ∷ le 4 k ∷ ref_num h d ∷ (v ∷ []) ∷ replicate 13 0 ∷ []

pub header-long : (n : ℕ) (oem : List ℕ) (h k d v : ℕ) → length oem ≡ 26 → length (concat (header_pieces n oem h k d v)) ≡ 64
header-long n oem h k d v e = simp (length-append, length-ref, e)

pub header-joined : (n : ℕ) (oem : List ℕ) (h k d v : ℕ) → concat (header_pieces n oem h k d v) ≡ header_for n oem h k d v
unfolding header_for head_front
header-joined n oem h k d v = refl

-- ---- the control record's stores

pub length-entry : (a b c : ℕ) → length (entry_for a b c) ≡ 8
length-entry a b c = go (eqb c 0)
  where
    go : (x : Bool) → length (pick x (le 4 0 ++ (le 2 0 ++ (1 ∷ 0 ∷ []))) (le 4 a ++ (le 2 b ++ (1 ∷ c ∷ [])))) ≡ 8
    go true = refl
    go false = refl

abbrev pub control_pieces : ℕ → ℕ → ℕ → ℕ → List (List ℕ)
control_pieces h n s d =
    (1 ∷ 1 ∷ 0 ∷ 0 ∷ 64 ∷ 0 ∷ 1 ∷ 0 ∷ [])
    ∷ (le 4 128 ++ (le 2 32 ++ (1 ∷ 0 ∷ [])))
    ∷ entry_for 160 32 h
    ∷ entry_for (160 + h * 32) 128 n
    ∷ entry_for (160 + h * 32 + n * 128) 64 s
    ∷ entry_for (160 + h * 32 + n * 128 + s * 64) 32 d
    ∷ replicate 16 0
    ∷ []

pub control-long : (h n s d : ℕ) → length (concat (control_pieces h n s d)) ≡ 64
control-long h n s d = simp (length-append, length-entry)

four : (w x y z r : List ℕ) → w ++ (x ++ (y ++ (z ++ r))) ≡ (w ++ (x ++ (y ++ (z ++ [])))) ++ r
four w x y z r = simp append_assoc

pub control-joined : (h n s d : ℕ) → concat (control_pieces h n s d) ≡ control_for (h ∷ n ∷ s ∷ d ∷ [])
unfolding control_for places_for host hfi ssns security discovery
control-joined h n s d =
    ap (λ (r : List ℕ). (1 ∷ 1 ∷ 0 ∷ 0 ∷ 64 ∷ 0 ∷ 1 ∷ 0 ∷ []) ++ ((le 4 128 ++ (le 2 32 ++ (1 ∷ 0 ∷ []))) ++ r))
    (four (entry_for 160 32 h) (entry_for (160 + h * 32) 128 n) (entry_for (160 + h * 32 + n * 128) 64 s) (entry_for (160 + h * 32 + n * 128 + s * 64) 32 d) (replicate 16 0))

-- ---- what a meaning's form has there

pub header_is : (m : Meaning) (n k v : ℕ) → header_for n m.oem (heap_at m) k (length (slot_at 44 m.driver)) v ≡ head_front n ++ (0 ∷ head_back m k v)
unfolding header_for head_back driver_ref
header_is m n k v =
    ap (λ (r : List ℕ). head_front n ++ (0 ∷ (m.oem ++ (le 4 (heap_at m) ++ (le 4 k ++ (r ++ (v ∷ replicate 13 0)))))))
    (ref-for (heap_at m) (slot_at 44 m.driver))

entry-is : (l : Layout) (a : ℕ) (es : List (Entry l)) → entry_for a (base_of l) (length es) ≡ entry8 {l = l} a es
entry-is l a [] = refl
entry-is l a (e ∷ es) = rw (ne_eqb (length (e ∷ es)) 0 (λ z. omega arith))

places-are : {ls : List Layout} (a : ℕ) (b : Body ls) → places_for a ls (lengths_of b) ≡ places_body a b
unfolding places_for places_body
places-are a stop = refl
places-are a (more {l = l} es rest) = ap₂ (λ (x y : List ℕ). x ++ y) (entry-is l a es) (places-are (a + length es * base_of l) rest)

pub control-is : (m : Meaning) → control_for (lengths_of m.lists) ≡ control_bytes m
unfolding control_for control_bytes
control-is m =
    ap (λ (r : List ℕ). (1 ∷ 1 ∷ 0 ∷ 0 ∷ []) ++ (le 2 64 ++ ((1 ∷ 0 ∷ []) ++ (le 4 128 ++ (le 2 (base_of host) ++ ((1 ∷ 0 ∷ []) ++ (r ++ replicate 16 0)))))))
    (places-are 160 m.lists)
