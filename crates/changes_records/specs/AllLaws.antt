-- What the reads tell of two tables, place by place, is what their meanings say differently. Assumes nothing.
use Rattle.std.specs.Prelude.{◌≡◌, ◌↔◌, Bool, drop, replicate}
use Rattle.std.proofs.Math.Path.{refl, ap, ap₂}
use Rattle.std.proofs.Common.{sym, ◌∙◌, ext_get_or}
use Rattle.std.proofs.Math.Bool.{true, false}
use mathlib.Core.List.{List, [], ◌∷◌, ◌++◌}
use Prim.Native.Nat.{ℕ, zero, suc, ◌+◌, ◌-◌, ◌≤◌, ◌<◌}
use native.Mathlib.Omega.{arith}
use Rattle.std.proofs.Math.ListN.{length, get_or, length-append, get_or-append}
use Rattle.std.proofs.Math.Dec.{leb}
use borrow.Author.Tests.{le-leb, lt-leb}
use Rattle.table.specs.Bytes.{padded, part, pick}
use Rattle.table.specs.Layout.{Layout, image, unused, used}
use Rattle.table.specs.FixedLayouts.{control, discovery, header, hfi, host, layout_of, security, ssns}
use Rattle.table.specs.Meaning.{meaning}
use Rattle.table.specs.Reads.{seat_of}
use Rattle.laws.specs.AcceptedMeaning.{lawful}
use Rattle.laws.specs.Fields.{Bytes}
use Rattle.laws.specs.ImageLaws.{length-image}
use Rattle.layout_images.proofs.Laws.{part-byte, part-long}
use Rattle.reads_seats.proofs.MeaningLaws.{image-front, told-all}
use Rattle.changes.proofs.SelfLaws.{none-exactly}
use Rattle.changes.specs.ChangeLaws.{head_at}
use Rattle.reader.specs.Accepted.{Accepted}
use Rattle.reader.proofs.AcceptedLaws.{checked}
use Rattle.reads_seats.specs.Told.{bytes_of, count_at, count_of, image_of, told, told_entry, told_list, told_slots}
use Rattle.changes.specs.Changes.{Line, body_lines, changes, count_lines, entry_lines, field_line, head_of, list_lines, named_lines, only_on, record_lines, used_on}
use Rattle.changes_records.specs.Told.{all_lines, list_lines_from, lists_from, longer, most_of, own_lines, pair_lines, position_lines, whole_lines}
use Rattle.changes_records.specs.ToldLaws.{discovery-told, header-told, hfi-told, host-told, security-told, ssns-told, told_lines}

longer-none : (c : ℕ) → longer c 0 ≡ c
longer-none zero = refl
longer-none (suc c) = refl

module _ (t u : List ℕ) where
  -- ---- a position that both have

  pair-told : (k n : ℕ) → (layout_of k).kind ≡ k → told_lines t u k n ≡ whole_lines t u k n
      → entry_lines n (told_entry (layout_of k) t k n) (told_entry (layout_of k) u k n) ≡ pair_lines t u k n
  unfolding entry_lines told_entry pair_lines
  pair-told k n e f = go (image_of t k n).used (image_of u k n).used
    where
      go : (a b : Bool)
          → entry_lines n {l = layout_of k}
          (pick a (used (bytes_of (image_of t k n)) (told_slots t k n (layout_of k).refs)) unused)
          (pick b (used (bytes_of (image_of u k n)) (told_slots u k n (layout_of k).refs)) unused)
          ≡ pick a (pick b (whole_lines t u k n) (used_on k n 1 ∷ [])) (pick b (used_on k n 2 ∷ []) [])
      go true true =
          ap (λ (i : ℕ). record_lines i n (layout_of k).shape (bytes_of (image_of t k n)) (bytes_of (image_of u k n))
          (named_lines i n (told_slots t k n (layout_of k).refs) (told_slots u k n (layout_of k).refs))) e ∙ f
      go true false = ap (λ (i : ℕ). used_on i n 1 ∷ []) e
      go false true = ap (λ (i : ℕ). used_on i n 2 ∷ []) e
      go false false = refl

  -- ---- a list

  module _ (k : ℕ) (e : (layout_of k).kind ≡ k) (f : (n : ℕ) → told_lines t u k n ≡ whole_lines t u k n) where
    list-told : (i c d : ℕ) → c ≡ count_of t k + 1 - i → d ≡ count_of u k + 1 - i
        → list_lines i (told_list (layout_of k) t k i c) (told_list (layout_of k) u k i d) ≡ list_lines_from t u k i (longer c d)
    unfolding list_lines told_list list_lines_from position_lines
    list-told i zero zero p q = refl
    list-told i zero (suc d) p q =
        let a : leb i (count_of t k) ≡ false = lt-leb i (count_of t k) (omega arith) in
        rw a (ap₂ (λ (j : ℕ) (xs : List Line). only_on j i 2 ∷ xs) e (list-told (suc i) zero d (omega arith) (omega arith)))
    list-told i (suc c) zero p q =
        let a : leb i (count_of t k) ≡ true = le-leb i (count_of t k) (omega arith) in
        let b : leb i (count_of u k) ≡ false = lt-leb i (count_of u k) (omega arith) in
        rw (a, b) (ap₂ (λ (j : ℕ) (xs : List Line). only_on j i 1 ∷ xs) e
        (list-told (suc i) c zero (omega arith) (omega arith) ∙ ap (list_lines_from t u k (suc i)) (longer-none c)))
    list-told i (suc c) (suc d) p q =
        let a : leb i (count_of t k) ≡ true = le-leb i (count_of t k) (omega arith) in
        let b : leb i (count_of u k) ≡ true = le-leb i (count_of u k) (omega arith) in
        rw (a, b) (ap₂ ◌++◌ (pair-told k i e (f i)) (list-told (suc i) c d (omega arith) (omega arith)))

    -- from its first position on
    list-whole : list_lines 1 (told_list (layout_of k) t k 1 (count_of t k)) (told_list (layout_of k) u k 1 (count_of u k)) ≡ list_lines_from t u k 1 (most_of t u k)
    list-whole = list-told 1 (count_of t k) (count_of u k) (omega arith) (omega arith)

  -- ---- the four lists

  lists-told : body_lines (told t).lists (told u).lists ≡ lists_from t u 3 4
  unfolding body_lines told lists_from layout_of hfi ssns security discovery count_of
  lists-told =
      ap₂ ◌++◌ (list-whole 3 refl (hfi-told t u))
      (ap₂ ◌++◌ (list-whole 4 refl (ssns-told t u))
      (ap₂ ◌++◌ (list-whole 5 refl (security-told t u)) (ap₂ ◌++◌ (list-whole 6 refl (discovery-told t u)) refl)))

-- ---- counts and header, by the bytes that are read of them

one_byte : (x : List ℕ) (q : ℕ) → q < length x → part x q 1 ≡ get_or x q 0 ∷ []
one_byte x q h =
    ext_get_or 0 (part x q 1) (get_or x q 0 ∷ []) (part-long x q 1 (omega arith))
    (λ i l.
    let z : i ≡ 0 = omega (arith, part-long x q 1 (omega arith)) in
    let e : q + 0 ≡ q = omega arith in
    rw z (part-byte x q 1 0 (omega arith) ∙ ap (λ (j : ℕ). get_or x j 0) e))

-- a part that another list has in the same places
part_same : (x y : List ℕ) (q w : ℕ) → q + w ≤ length x → q + w ≤ length y → ((i : ℕ) → q ≤ i → i < q + w → get_or x i 0 ≡ get_or y i 0) → part x q w ≡ part y q w
part_same x y q w a b h =
    ext_get_or 0 (part x q w) (part y q w) (part-long x q w a ∙ sym (part-long y q w b))
    (λ i l.
    let k : i < w = omega (arith, part-long x q w a) in
    part-byte x q w i k ∙ h (q + i) (omega arith) (omega arith) ∙ sym (part-byte y q w i k))

told-length : (l : Layout) (t : List ℕ) (k n m : ℕ) → length (told_list l t k n m) ≡ m
unfolding told_list
told-length l t k n zero = refl
told-length l t k n (suc m) = ap suc (told-length l t k (suc n) m)

module _ (t : List ℕ) where
  -- the control record's image, and a count in it
  control-front : bytes_of (image_of t 1 0) ≡ image control.shape.keep (drop 0 t)
  unfolding image_of seat_of
  control-front = image-front control t 0

  count-part : (q : ℕ) → q < 128 → part (bytes_of (image_of t 1 0)) q 1 ≡ count_at t q ∷ []
  unfolding image_of seat_of control
  count-part q h =
      let x = image control.shape.keep (drop 0 t) in
      let long : length x ≡ 128 = length-image control.shape.keep (drop 0 t) in
      ap (λ (b : List ℕ). part b q 1) control-front
      ∙ one_byte x q (omega (arith, long))
      ∙ ap (λ (b : ℕ). b ∷ []) (sym (get_or-append x (replicate (128 - length x) 0) 0 q (omega (arith, long))))

  -- the header's image, of which bytes 10 to 35 are what is told
  head_bytes : (i : ℕ) → 10 ≤ i → i < 36 → get_or (head_of (told t)) i 0 ≡ get_or (bytes_of (image_of t 0 0)) i 0
  unfolding told image_of seat_of header
  head_bytes i a b =
      let x = image header.shape.keep (drop 0 t) in
      let long : length x ≡ 64 = length-image header.shape.keep (drop 0 t) in
      let e : i ≡ 10 + (i - 10) = omega arith in
      ap (λ (j : ℕ). get_or (head_of (told t)) j 0) e
      ∙ head_at (told t) (i - 10)
      ∙ part-byte (padded 128 x) 10 26 (i - 10) (omega arith)
      ∙ ap (λ (j : ℕ). get_or (padded 128 x) j 0) (sym e)
      ∙ get_or-append x (replicate (128 - length x) 0) 0 i (omega (arith, long))
      ∙ ap (λ (y : List ℕ). get_or y i 0) (sym (image-front header t 0))

  head-part : (q w : ℕ) → 10 ≤ q → q + w ≤ 36 → part (head_of (told t)) q w ≡ part (bytes_of (image_of t 0 0)) q w
  unfolding told image_of seat_of header
  head-part q w a b =
      let x = image header.shape.keep (drop 0 t) in
      let long : length x ≡ 64 = length-image header.shape.keep (drop 0 t) in
      let oem : length (part (padded 128 x) 10 26) ≡ 26 = part-long (padded 128 x) 10 26 (omega (arith, length-append x (replicate (128 - length x) 0), long)) in
      let lx : length (head_of (told t)) ≡ 36 = omega (arith, oem, length-append (replicate 10 0) (part (padded 128 x) 10 26)) in
      let ly : length (bytes_of (image_of t 0 0)) ≡ 64 = ap length (image-front header t 0) ∙ long in
      part_same (head_of (told t)) (bytes_of (image_of t 0 0)) q w (omega (arith, lx)) (omega (arith, ly)) (λ i l m. head_bytes i (omega arith) (omega arith))

-- ---- all of it

module _ (t u : List ℕ) where
  -- a count's line, by the lists and by the control record
  count-line : (k q : ℕ) → q < 128
      → field_line 1 0 q (length (told_list (layout_of k) t k 1 (count_at t q)) ∷ []) (length (told_list (layout_of k) u k 1 (count_at u q)) ∷ [])
      ≡ field_line 1 0 q (part (bytes_of (image_of t 1 0)) q 1) (part (bytes_of (image_of u 1 0)) q 1)
  count-line k q h =
      ap₂ (field_line 1 0 q)
      (ap (λ (m : ℕ). m ∷ []) (told-length (layout_of k) t k 1 (count_at t q)) ∙ sym (count-part t q h))
      (ap (λ (m : ℕ). m ∷ []) (told-length (layout_of k) u k 1 (count_at u q)) ∙ sym (count-part u q h))

  counts-told : count_lines 87 (told t).lists (told u).lists ≡ own_lines t u 1 0
  unfolding count_lines told own_lines layout_of control hfi ssns security discovery
  counts-told =
      ap₂ ◌++◌ (count-line 3 87 (omega arith))
      (ap₂ ◌++◌ (count-line 4 95 (omega arith)) (ap₂ ◌++◌ (count-line 5 103 (omega arith)) (ap₂ ◌++◌ (count-line 6 111 (omega arith)) refl)))

  head-line : (q w : ℕ) → 10 ≤ q → q + w ≤ 36
      → field_line 0 0 q (part (head_of (told t)) q w) (part (head_of (told u)) q w)
      ≡ field_line 0 0 q (part (bytes_of (image_of t 0 0)) q w) (part (bytes_of (image_of u 0 0)) q w)
  head-line q w a b = ap₂ (field_line 0 0 q) (head-part t q w a b) (head-part u q w a b)

  head-told : record_lines 0 0 header.shape (head_of (told t)) (head_of (told u)) (named_lines 0 0 (told t).driver (told u).driver) ≡ told_lines t u 0 0
  unfolding layout_of header named_lines told_slots told
  head-told =
      ap₂ ◌++◌ (head-line 10 6 (omega arith) (omega arith))
      (ap₂ ◌++◌ (head-line 16 8 (omega arith) (omega arith))
      (ap₂ ◌++◌ (head-line 24 4 (omega arith) (omega arith))
      (ap₂ ◌++◌ (head-line 28 4 (omega arith) (omega arith)) (ap₂ ◌++◌ (head-line 32 4 (omega arith) (omega arith)) refl))))

  owner-told : entry_lines 0 (told t).owner (told u).owner ≡ pair_lines t u 2 0
  unfolding told layout_of host
  owner-told = pair-told t u 2 0 refl (host-told t u 0)

  -- what the reads tell of two tables, place by place
  lines-told : changes (told t) (told u) ≡ all_lines t u
  unfolding changes all_lines
  lines-told = ap₂ ◌++◌ counts-told (ap₂ ◌++◌ (head-told ∙ header-told t u 0) (ap₂ ◌++◌ owner-told (lists-told t u)))

-- of accepted tables: these are the lines of what they mean, and none exactly where they mean the same
module _ (t u : List ℕ) (b : Bytes t) (d : Bytes u) (ok : Accepted t) (ko : Accepted u) where
  pub lines-accepted : changes (meaning t) (meaning u) ≡ all_lines t u
  lines-accepted = ap₂ changes (sym (told-all t b ok)) (sym (told-all u d ko)) ∙ lines-told t u

  pub none-accepted : (all_lines t u ≡ []) ↔ (meaning t ≡ meaning u)
  none-accepted =
      let z = none-exactly (meaning t) (meaning u) (lawful t b (checked t ok)).shapes (lawful u d (checked u ko)).shapes in
      (λ h. z.0 (lines-accepted ∙ h), λ h. sym lines-accepted ∙ z.1 h)
