-- The one form of a meaning: its length, what stands where, and that its meaning is the one it was made of. Assumes nothing.
use Rattle.std.specs.Prelude.{◌≡◌, length, get_or, T}
use Rattle.std.proofs.Math.Path.{refl, ap}
use Rattle.std.proofs.Common.{sym, ◌∙◌, lit<}
use mathlib.Core.List.{List, [], ◌∷◌, ◌++◌, append-nil}
use Prim.Native.Nat.{ℕ, ◌+◌, ◌^◌, ◌≤◌, ◌<◌}
use native.Mathlib.Omega.{arith}
use Rattle.std.proofs.Math.ListN.{replicate, length-append}
use Rattle.table.specs.declared.Region.{Region}
use Rattle.table.specs.Bytes.{checksum, le, num, part, val}
use Rattle.table.specs.Layout.{Slots, bytes, env, nil, region, slot_at}
use Rattle.table.specs.FixedLayouts.{discovery, extended, header, hfi, host, info, list_kinds, security, ssns, hfi_extended}
use Rattle.table.specs.Objects.{count_in, heap_body, heap_entry, heap_of, places_body, rec_entry, recs_body, ref_for, size_body, size_entry, size_of, span_body, stores}
use Rattle.table.specs.Meaning.{Meaning, behind, control_bytes, driver_ref, form, form_length, head_back, head_front, heap_at, heap_len, laid_out, limit, meaning, minor_of}
use Rattle.table.specs.Numbers.{heap_in}
use Rattle.laws.specs.Lawful.{Shaped, all_ok}
use Rattle.laws.specs.ByteLaws.{Holds, held, holds-get_d, holds-left, holds-num, holds-part, holds-right}
use Rattle.laws.specs.StoreLaws.{AllHold}
use Rattle.laws.specs.SlotLaws.{length-heap, length-ref_for}
use Rattle.laws.specs.ListLaws.{OkLayout, length-heap_entry, length-rec_entry, ok-layout}
use Rattle.laws.specs.Standing.{Stands}
use Rattle.laws.specs.Laid.{Inside, laid-at, laid-entry}
use Rattle.laws.specs.BodyLaws.{Laid, laid-body, length-heap_body, length-places_body, length-recs_body}
use Rattle.laws.specs.Means.{means}

pub ok_header : OkLayout header
unfolding header
ok_header = ok-layout header tt

pub ok-host : OkLayout host
unfolding host
ok-host = ok-layout host tt

pub ok-lists : T (all_ok list_kinds)
unfolding hfi ssns security discovery info extended hfi_extended
ok-lists = tt

pub length-driver_ref : (m : Meaning) → length (driver_ref m) ≡ 6
unfolding driver_ref
length-driver_ref m = length-ref_for (heap_at m) (slot_at 44 m.driver)

module _ (m : Meaning) (w : Shaped m) where
  -- ---- lengths

  pub front-part : (n : ℕ) → length (head_front n) ≡ 9
  unfolding head_front
  front-part n = refl

  pub back-part : (k r : ℕ) → length (head_back m k r) ≡ 54
  unfolding head_back
  back-part k r = simp (length-append, w.sized, length-driver_ref m)

  pub control-part : length (control_bytes m) ≡ 64
  unfolding control_bytes
  control-part = omega (arith, length-append (places_body 160 m.lists) (replicate 16 0), length-places_body 160 m.lists)

  unfoldable pub h₀ : ℕ
  h₀ = heap_at m

  unfoldable pub h₁ : ℕ
  unfolding h₀
  h₁ = h₀ + size_of m.driver

  unfoldable pub h₂ : ℕ
  unfolding h₁
  h₂ = h₁ + size_entry m.owner

  pub owner-part : length (rec_entry h₁ m.owner) ≡ 32
  unfolding host
  owner-part = length-rec_entry host ok-host h₁ (env (count_in m.lists) 0) m.owner w.owned

  recs-part : length (recs_body h₂ m.lists) ≡ span_body m.lists
  recs-part = length-recs_body (count_in m.lists) h₂ m.lists ok-lists w.listed

  driver-part : length (heap_of h₀ m.driver) ≡ size_of m.driver
  driver-part = length-heap header.shape.keep 0 h₀ (env (count_in m.lists) 0) [] m.driver ok_header.refs_ok w.signed

  owner_heap-part : length (heap_entry h₁ m.owner) ≡ size_entry m.owner
  owner_heap-part = length-heap_entry host ok-host h₁ (env (count_in m.lists) 0) m.owner w.owned

  list_heap-part : length (heap_body h₂ m.lists) ≡ size_body m.lists
  list_heap-part = length-heap_body (count_in m.lists) h₂ m.lists ok-lists w.listed

  pub length-laid_out : (n c k r : ℕ) → length (laid_out m n c k r) ≡ form_length m
  unfolding laid_out behind form_length heap_at heap_len h₀ h₁ h₂
  length-laid_out n c k r =
      simp (length-append, front-part, back-part, control-part, owner-part, recs-part, driver-part, owner_heap-part, list_heap-part) (omega arith)

  -- the length formula
  pub length-form : length (form m) ≡ form_length m
  unfolding form
  length-form = length-laid_out (form_length m) (checksum (laid_out m (form_length m) 0 (heap_len m) (minor_of m))) (heap_len m) (minor_of m)

  -- what stands where
  pub record Parts (t : List ℕ) (n c k r : ℕ) : Type 0 where
    pub front : Holds t 0 (head_front n)
    pub sum : Holds t 9 (c ∷ [])
    pub back : Holds t 10 (head_back m k r)
    pub ctl : Holds t 64 (control_bytes m)
    pub owner : Holds t 128 (rec_entry h₁ m.owner)
    pub recs : Holds t 160 (recs_body h₂ m.lists)
    pub driver_heap : Holds t h₀ (heap_of h₀ m.driver)
    pub owner_heap : Holds t h₁ (heap_entry h₁ m.owner)
    pub list_heap : Holds t h₂ (heap_body h₂ m.lists)

  whole : (t : List ℕ) → Holds t 0 t
  whole t = held [] (sym (append-nil t))

  laid-parts : (t : List ℕ) (n c k r : ℕ) → Holds t 0 (laid_out m n c k r) → Parts t n c k r
  unfolding laid_out behind h₀ h₁ h₂ heap_at
  laid-parts t n c k r p₀ =
      let a : List ℕ = head_front n in
      let b : List ℕ = head_back m k r in
      let o : List ℕ = rec_entry h₁ m.owner in
      let d : List ℕ = recs_body h₂ m.lists in
      let e : List ℕ = heap_of h₀ m.driver in
      let f : List ℕ = heap_entry h₁ m.owner in
      let g : List ℕ = heap_body h₂ m.lists in
      let p₁ : Holds t 9 ((c ∷ []) ++ (b ++ (control_bytes m ++ (o ++ (d ++ (e ++ (f ++ g))))))) = rw (front-part n) at (holds-right t 0 a _ p₀) in
      let p₂ : Holds t 10 (b ++ (control_bytes m ++ (o ++ (d ++ (e ++ (f ++ g)))))) = holds-right t 9 (c ∷ []) _ p₁ in
      let p₃ : Holds t 64 (control_bytes m ++ (o ++ (d ++ (e ++ (f ++ g))))) = rw (back-part k r) at (holds-right t 10 b _ p₂) in
      let p₄ : Holds t 128 (o ++ (d ++ (e ++ (f ++ g)))) = rw control-part at (holds-right t 64 (control_bytes m) _ p₃) in
      let p₅ : Holds t 160 (d ++ (e ++ (f ++ g))) = rw owner-part at (holds-right t 128 o _ p₄) in
      let p₆ : Holds t h₀ (e ++ (f ++ g)) = rw recs-part at (holds-right t 160 d _ p₅) in
      let p₇ : Holds t h₁ (f ++ g) = rw driver-part at (holds-right t h₀ e _ p₆) in
      let p₈ : Holds t h₂ g = rw owner_heap-part at (holds-right t h₁ f _ p₇) in
      record {
        front = holds-left t 0 a _ p₀;
        sum = holds-left t 9 (c ∷ []) _ p₁;
        back = holds-left t 10 b _ p₂;
        ctl = holds-left t 64 (control_bytes m) _ p₃;
        owner = holds-left t 128 o _ p₄;
        recs = holds-left t 160 d _ p₅;
        driver_heap = holds-left t h₀ e _ p₆;
        owner_heap = holds-left t h₁ f g p₇;
        list_heap = p₈;
      }

  module _ (short : form_length m ≤ limit) where
    form-parts : Parts (form m) (form_length m) (checksum (laid_out m (form_length m) 0 (heap_len m) (minor_of m))) (heap_len m) (minor_of m)
    unfolding form
    form-parts = laid-parts (form m) _ _ _ _ (whole (form m))

    -- ---- the header's fields

    pub record Head (t : List ℕ) : Type 0 where
      pub sig : num t 0 4 ≡ 0x5446424E
      pub size : num t 4 4 ≡ form_length m
      pub major : get_or t 8 0 ≡ 1
      pub kept : part t 10 26 ≡ m.oem
      pub heap_from : num t 36 4 ≡ heap_at m
      pub heap_size : num t 40 4 ≡ heap_len m
      pub signature : Holds t 44 (driver_ref m)
      pub minor : get_or t 50 0 ≡ minor_of m

    pub small : form_length m < 256 ^ 4
    unfolding limit
    small = omega arith

    head-back : (t : List ℕ) (c : ℕ) → Parts t (form_length m) c (heap_len m) (minor_of m) → Head t
    unfolding head_front head_back form_length
    head-back t c p =
        let k = small in
        let s : List ℕ = 0x4E ∷ 0x42 ∷ 0x46 ∷ 0x54 ∷ [] in
        let r : List ℕ = driver_ref m in
        let z : List ℕ = minor_of m ∷ replicate 13 0 in
        let q₁ = holds-right t 0 s (le 4 (form_length m) ++ (1 ∷ [])) p.front in
        let q₂ : Holds t 36 (le 4 (heap_at m) ++ (le 4 (heap_len m) ++ (r ++ z))) = rw w.sized at (holds-right t 10 m.oem _ p.back) in
        let q₃ : Holds t 40 (le 4 (heap_len m) ++ (r ++ z)) = holds-right t 36 (le 4 (heap_at m)) _ q₂ in
        let q₄ : Holds t 44 (r ++ z) = holds-right t 40 (le 4 (heap_len m)) _ q₃ in
        let q₅ : Holds t 50 z = rw (length-driver_ref m) at (holds-right t 44 r z q₄) in
        record {
          sig = ap val (holds-part t 0 s (holds-left t 0 s _ p.front));
          size = holds-num t 4 4 (form_length m) k (holds-left t 4 (le 4 (form_length m)) _ q₁);
          major = holds-get_d t 0 (head_front (form_length m)) p.front 8 (lit< tt);
          kept = ap (λ (n : ℕ). part t 10 n) (sym w.sized) ∙ holds-part t 10 m.oem (holds-left t 10 m.oem _ p.back);
          heap_from = holds-num t 36 4 (heap_at m) (omega arith) (holds-left t 36 (le 4 (heap_at m)) _ q₂);
          heap_size = holds-num t 40 4 (heap_len m) (omega arith) (holds-left t 40 (le 4 (heap_len m)) _ q₃);
          signature = holds-left t 44 r z q₄;
          minor = holds-get_d t 50 z q₅ 0 (lit< tt);
        }

    pub form-head : Head (form m)
    form-head = head-back (form m) _ form-parts

    driver-stores : (t : List ℕ) (d : Slots header.refs) → Holds t 44 (ref_for h₀ (slot_at 44 d)) → AllHold t 0 (stores h₀ d)
    unfolding header slot_at stores
    driver-stores t (bytes b nil) h = (h, tt)

    stored-driver : AllHold (form m) 0 (stores h₀ m.driver)
    unfolding h₀ driver_ref
    stored-driver = driver-stores (form m) m.driver form-head.signature

    -- the control record's fixed fields
    pub record Fixed (t : List ℕ) : Type 0 where
      pub ident : get_or t 64 0 ≡ 1
      pub major : get_or t 65 0 ≡ 1
      pub csl : num t 68 2 ≡ 64
      pub valid : get_or t 70 0 ≡ 1
      pub owner_at : num t 72 4 ≡ 128
      pub owner_len : num t 76 2 ≡ 32
      pub owner_version : get_or t 78 0 ≡ 1
      pub places : Holds t 80 (places_body 160 m.lists)

    pub fixed_back : Fixed (form m)
    unfolding control_bytes host
    fixed_back =
        let h = form-parts.ctl in
        let p : List ℕ = places_body 160 m.lists in
        let h₇₂ = holds-right (form m) 64 ((1 ∷ 1 ∷ 0 ∷ 0 ∷ []) ++ (le 2 64 ++ (1 ∷ 0 ∷ []))) (le 4 128 ++ (le 2 32 ++ ((1 ∷ 0 ∷ []) ++ (p ++ replicate 16 0)))) h in
        let h₇₆ = holds-right (form m) 72 (le 4 128) (le 2 32 ++ ((1 ∷ 0 ∷ []) ++ (p ++ replicate 16 0))) h₇₂ in
        let h₈₀ = holds-right (form m) 76 (le 2 32 ++ (1 ∷ 0 ∷ [])) (p ++ replicate 16 0) h₇₆ in
        record {
          ident = holds-get_d (form m) 64 (control_bytes m) h 0 (omega (arith, control-part));
          major = holds-get_d (form m) 64 (control_bytes m) h 1 (omega (arith, control-part));
          csl = holds-num (form m) 68 2 64 (lit< tt) (holds-left (form m) 68 (le 2 64) _ (holds-right (form m) 64 (1 ∷ 1 ∷ 0 ∷ 0 ∷ []) _ h));
          valid = holds-get_d (form m) 64 (control_bytes m) h 6 (omega (arith, control-part));
          owner_at = holds-num (form m) 72 4 128 (lit< tt) (holds-left (form m) 72 (le 4 128) _ h₇₂);
          owner_len = holds-num (form m) 76 2 32 (lit< tt) (holds-left (form m) 76 (le 2 32) _ h₇₆);
          owner_version = holds-get_d (form m) 64 (control_bytes m) h 14 (omega (arith, control-part));
          places = holds-left (form m) 80 p (replicate 16 0) h₈₀;
        }

    pub laid : Laid (form m) 80 160 h₂ m.lists
    unfolding form_length heap_at heap_len h₀ h₁ h₂
    laid =
        let k = small in
        record { small = omega arith; small_heap = omega arith; places = fixed_back.places; recs = form-parts.recs; heap = form-parts.list_heap }

    -- ---- the meaning stands in the form

    heap-back : heap_in (form m) ≡ region (heap_at m) (heap_len m)
    unfolding heap_in
    heap-back = λ i. region (form-head.heap_from i) (form-head.heap_size i)

    heap : Region
    heap = region (heap_at m) (heap_len m)

    driver-inside : Inside heap h₀ (size_of m.driver)
    unfolding heap heap_at form_length heap_len h₀
    driver-inside = let k = small in record { small = omega arith; positive = omega arith; from = omega arith; upto = omega arith }

    owner-inside : Inside heap h₁ (size_entry m.owner)
    unfolding heap heap_at form_length heap_len h₀ h₁
    owner-inside = let k = small in record { small = omega arith; positive = omega arith; from = omega arith; upto = omega arith }

    lists-inside : Inside heap h₂ (size_body m.lists)
    unfolding heap heap_at form_length heap_len h₀ h₁ h₂
    lists-inside = let k = small in record { small = omega arith; positive = omega arith; from = omega arith; upto = omega arith }

    pub form-stands : Stands (form m) m
    unfolding heap
    form-stands =
        record {
          oem_at = form-head.kept;
          driver_at = rw heap-back (laid-at header.shape.keep 0 (form m) heap 0 h₀ (env (count_in m.lists) 0) []
              m.driver ok_header.refs_ok w.signed driver-inside stored-driver form-parts.driver_heap);
          owner_at = rw (heap-back, fixed_back.owner_at) (laid-entry host ok-host (form m) heap 128 h₁
              (env (count_in m.lists) 0) m.owner w.owned owner-inside form-parts.owner
              form-parts.owner_heap);
          lists_at = rw heap-back
              (laid-body (count_in m.lists) (form m) heap 80 160 h₂ m.lists ok-lists w.listed lists-inside laid);
        }

    -- the form says what it was made of
    pub round_trip : meaning (form m) ≡ m
    round_trip = means (form m) m w form-stands
