-- Indexes: which positions are used, by the lists' flags; what a record's indexes give, by the bytes that are read. Assumes nothing.
use mathlib.Core.Path.{◌≡◌, refl, sym, ap, ap₂, ◌∙◌}
use mathlib.Core.Bool.{Bool, true, false, ◌&&◌}
use mathlib.Core.List.{List, [], ◌∷◌}
use Prim.Native.Nat.{ℕ, suc, ◌+◌, ◌-◌, ◌*◌, ◌/◌, ◌%◌, ◌≤◌, ◌<◌}
use native.Mathlib.Nat.{suc-mul, mul-le-mul_right, le_trans, mod-eq_of_lt}
use native.Mathlib.Numerals.{add-one}
use native.Mathlib.Omega.{arith}
use lib.ListN.{length, get_or, drop, drop_of_length-le, length-take, length-drop}
use lib.Seq.{drop-cons, get_or-drop}
use lib.Dec.{eqb, lit<}
use borrow.Author.Tests.{eq-eqb, ne_eqb, eqb-true, eqb-false}
use Rattle.table.specs.declared.Region.{Region}
use Rattle.table.specs.declared.Need.TheVariants.{Optional}
use Rattle.table.specs.declared.Found.{Found}
use Rattle.table.specs.Bytes.{pick, part, num}
use Rattle.table.specs.Layout.{Index, Layout, each, image, index, named_at, positions, reference_at, region, slot_at, unless}
use Rattle.table.specs.FixedLayouts.{layout_of, header, control, host, hfi, ssns, security, discovery, info, extended, hfi_extended, no_kind}
use Rattle.table.specs.Objects.{read_slots, read_body, used_in}
use Rattle.table.specs.Rules.{ref_rule, reaches, ruled}
use Rattle.laws.specs.ImageLaws.{image-at}
use Rattle.laws.specs.IndexLaws.{after, after-after, found, found-assoc, found-more, found-stop, found-unless, found_by, first_found, one-look}
use Rattle.laws.specs.LookLaws.{ssns-list}
use Rattle.laws.specs.Sound.{first-of}
use Rattle.laws.specs.Fields.{Bytes, image_in, whole, two_bytes}
use Rattle.laws.specs.ListWalk.{valid_in, env_in, flagged, flagged-is}
use Rattle.reader_frame.specs.Bounds.{ListIn}
use Rattle.reader_references.specs.References.{part_in}
use Rattle.reader_rules.specs.Rules.{IsHeap}
use Rattle.reader_rules.proofs.HeapLaws.{object-part}
use Rattle.reader_indexes.specs.Indexes.{indexes_in, names_found, security_index, refs_fault, RefsPass}

-- ---- lists

-- the next record lies in the list
pub stride : (i n s : ℕ) → i < n → i * s + s ≤ n * s
stride i n s h = rw (← suc-mul i s) (mul-le-mul_right s h)

pub list-less : (t : List ℕ) (c b d : ℕ) → ListIn t c b → d ≤ b → ListIn t c d
list-less t c b d p h = record { long = λ z. le_trans h (p.long z); within = λ z. p.within z }

-- the entry x of a list at c, whose records have their flags at byte f
pub entry-in : (t : List ℕ) (x c b f d : ℕ) → x ≡ c → f ≡ d → d + 1 ≤ b → c + 8 ≤ length t → ListIn t c b → (x + 8 ≤ length t) × ListIn t x (f + 1)
entry-in t x c b f d e g h l i = rw (e, g) (l, list-less t c b (d + 1) i h)

-- ---- which positions are used

module _ (t : List ℕ) (n : ℕ) where
  pub valid-3 : flagged t (num t 80 4) (num t 84 2) (get_or t 87 0) 2 n ≡ valid_in t 3 n
  unfolding valid_in used_in read_body hfi
  valid-3 = sym (flagged-is hfi t (num t 80 4) (num t 84 2) (get_or t 87 0) n tt)

  pub valid-4 : flagged t (num t 88 4) (num t 92 2) (get_or t 95 0) 3 n ≡ valid_in t 4 n
  unfolding valid_in used_in read_body hfi ssns
  valid-4 = sym (flagged-is ssns t (num t 88 4) (num t 92 2) (get_or t 95 0) n tt)

  pub valid-5 : flagged t (num t 96 4) (num t 100 2) (get_or t 103 0) 2 n ≡ valid_in t 5 n
  unfolding valid_in used_in read_body hfi ssns security
  valid-5 = sym (flagged-is security t (num t 96 4) (num t 100 2) (get_or t 103 0) n tt)

  pub valid-6 : flagged t (num t 104 4) (num t 108 2) (get_or t 111 0) 1 n ≡ valid_in t 6 n
  unfolding valid_in used_in read_body hfi ssns security discovery
  valid-6 = sym (flagged-is discovery t (num t 104 4) (num t 108 2) (get_or t 111 0) n tt)

-- ---- several indexes

-- by the bytes that stand there
discovery-is : (t : List ℕ) (a : ℕ) → Bytes t → index 3 (get_or t (a + 3) 0) ∷ unless (eqb (get_or t (a + 4) 0) 0) (index 5 (get_or t (a + 4) 0)) [] ≡ indexes_in 6 t a
unfolding indexes_in layout_of discovery image_in
discovery-is t a b =
    sym (ap₂ (λ (x y : ℕ). index 3 x ∷ unless (eqb y 0) (index 5 y) [])
    (whole discovery.shape.keep t a 3 tt refl (b (a + 3))) (whole discovery.shape.keep t a 4 tt refl (b (a + 4))))

pub discovery-names : (t : List ℕ) (a : ℕ) → Bytes t
    → first_found (found_by (valid_in t) (index 3 (get_or t (a + 3) 0) ∷ [])) (found_by (valid_in t) (unless (eqb (get_or t (a + 4) 0) 0) (index 5 (get_or t (a + 4) 0)) []))
    ≡ names_found 6 t a
unfolding names_found
discovery-names t a b =
    let y = get_or t (a + 4) 0 in
    sym (found-unless (valid_in t) false (index 3 (get_or t (a + 3) 0)) (unless (eqb y 0) (index 5 y) []))
    ∙ ap (found_by (valid_in t)) (discovery-is t a b)

-- the security index, under flag 2, is the table's byte
index_on : (t : List ℕ) (a : ℕ) → Bytes t → eqb (num (image_in ssns t a) 3 2 / 4 % 2) 0 ≡ false → get_or (image_in ssns t a) 45 0 ≡ get_or t (a + 45) 0
unfolding image_in ssns
index_on t a b e =
    let ks = ssns.shape.keep in
    let x = image ks (drop a t) in
    let z = eqb-false (num x 3 2 / 4 % 2) 0 e in
    let f : get_or x 3 0 ≡ get_or t (a + 3) 0 = whole ks t a 3 tt refl (b (a + 3)) in
    let g : get_or (drop a t) 3 0 ≡ get_or t (a + 3) 0 = get_or-drop a t 3 0 in
    let k : get_or (drop a t) 3 0 % (2 * 4) / 4 ≡ 0 → ⊥ = λ w. z (omega (arith, two_bytes x 3)) in
    image-at ks (drop a t) 45 (lit< tt)
    ∙ ap (λ (c : Bool). get_or (drop a t) 45 0 % pick c 1 256) (ne_eqb (get_or (drop a t) 3 0 % (2 * 4) / 4) 0 k)
    ∙ ap (λ (y : ℕ). y % 256) (get_or-drop a t 45 0)
    ∙ mod-eq_of_lt (b (a + 45))

pub security-off : (t : List ℕ) (a : ℕ) → num (image_in ssns t a) 3 2 / 4 % 2 ≡ 0 → found 0 0 ≡ found_by (valid_in t) (security_index t a)
unfolding security_index
security-off t a e = rw (eq-eqb (num (image_in ssns t a) 3 2 / 4 % 2) 0 e)

pub security-on : (t : List ℕ) (a : ℕ) → Bytes t → (num (image_in ssns t a) 3 2 / 4 % 2 ≡ 0 → ⊥) → found_by (valid_in t) (index 5 (get_or t (a + 45) 0) ∷ []) ≡ found_by (valid_in t) (security_index t a)
unfolding security_index
security-on t a b z =
    let e = ne_eqb (num (image_in ssns t a) 3 2 / 4 % 2) 0 z in
    rw (e, index_on t a b e)

-- ---- the secondary list

slot-48 : (t : List ℕ) (a : ℕ) (img : List ℕ) → slot_at 48 (read_slots t a img ssns.refs) ≡ named_at t (a + 48)
unfolding slot_at read_slots ssns
slot-48 t a img = refl

-- the indexes by the values that stand there
ssns-are : (t : List ℕ) (a d p : ℕ) (x : List ℕ) → get_or (image_in ssns t a) 8 0 ≡ d → get_or (image_in ssns t a) 46 0 ≡ p → slot_at 48 (read_slots t a (image_in ssns t a) ssns.refs) ≡ x
    → unless (eqb d 0) (index 6 d) (unless (eqb (num (image_in ssns t a) 3 2 / 4 % 2) 0) (index 5 (get_or (image_in ssns t a) 45 0)) (index 3 p ∷ each 3 x))
    ≡ ssns.indexes (image_in ssns t a) (read_slots t a (image_in ssns t a) ssns.refs)
ssns-are t a d p x e f g = rw (← e, ← f, ← g) (unfold ssns in refl)

-- what is found of the indexes of the SSNS record at a, by the table's bytes
module _ (t : List ℕ) (a : ℕ) where
  abbrev pub discovery_found : Found
  discovery_found = found_by (valid_in t) (unless (eqb (get_or t (a + 8) 0) 0) (index 6 (get_or t (a + 8) 0)) [])

  abbrev pub security_found : Found
  security_found = found_by (valid_in t) (security_index t a)

  abbrev pub primary_found : Found
  primary_found = found_by (valid_in t) (index 3 (get_or t (a + 46) 0) ∷ [])

  abbrev pub rest_found : Found
  rest_found = found_by (valid_in t) (each 3 (named_at t (a + 48)))

pub ssns-names : (t : List ℕ) (a : ℕ) → Bytes t
    → first_found (first_found (first_found (discovery_found t a) (security_found t a)) (primary_found t a)) (rest_found t a) ≡ names_found 4 t a
unfolding names_found indexes_in layout_of security_index
ssns-names t a b =
    let v = valid_in t in
    let e8 : get_or (image_in ssns t a) 8 0 ≡ get_or t (a + 8) 0 = unfold image_in ssns in (whole ssns.shape.keep t a 8 tt refl (b (a + 8))) in
    let e46 : get_or (image_in ssns t a) 46 0 ≡ get_or t (a + 46) 0 = unfold image_in ssns in (whole ssns.shape.keep t a 46 tt refl (b (a + 46))) in
    let own : List Index = index 3 (get_or t (a + 46) 0) ∷ each 3 (named_at t (a + 48)) in
    let c5 = eqb (num (image_in ssns t a) 3 2 / 4 % 2) 0 in
    let i5 = index 5 (get_or (image_in ssns t a) 45 0) in
    let i6 = index 6 (get_or t (a + 8) 0) in
    let c6 = eqb (get_or t (a + 8) 0) 0 in
    let f6 = found_by v (unless c6 i6 []) in
    let f5 = found_by v (unless c5 i5 []) in
    found-assoc (first_found f6 f5) (found_by v (index 3 (get_or t (a + 46) 0) ∷ [])) (found_by v (each 3 (named_at t (a + 48))))
    ∙ ap (first_found (first_found f6 f5)) (sym (found-unless v false (index 3 (get_or t (a + 46) 0)) (each 3 (named_at t (a + 48)))))
    ∙ found-assoc f6 f5 (found_by v own)
    ∙ ap (first_found f6) (sym (found-unless v c5 i5 own))
    ∙ sym (found-unless v c6 i6 (unless c5 i5 own))
    ∙ ap (found_by v) (ssns-are t a _ _ _ e8 e46 (slot-48 t a (image_in ssns t a)))

-- ---- the bytes of the secondary list, one by one: i of them have been looked at

module _ (v : ℕ → ℕ → Bool) (x : List ℕ) (i : ℕ) where
  abbrev left : ℕ → Found
  left n = found_by v (each 3 (drop n x))

  abbrev first : Found
  first = found_by v (index 3 (get_or x i 0) ∷ [])

  turn : i < length x → left i ≡ first_found first (left (i + 1))
  turn h = ap (λ (l : List ℕ). found_by v (each 3 l)) (drop-cons x i 0 h) ∙ found-unless v false (index 3 (get_or x i 0)) (each 3 (drop (suc i) x))
      ∙ ap (λ (n : ℕ). first_found first (left n)) (sym (add-one i))

  module _ (r : Found) (e : r ≡ first) (h : i < length x) where
    pub list-stop : (r.number ≡ 0 → ⊥) → after i r ≡ after i (left i)
    list-stop n = ap (after i) (found-stop e (left (i + 1)) n ∙ sym (turn h))

    pub list-more : r.number ≡ 0 → after (i + 1) (left (i + 1)) ≡ after i (left i)
    list-more z =
        ap (λ (n : ℕ). after n (left (i + 1))) (ap (λ (n : ℕ). i + n) (sym (ap (λ (f : Found). f.looks) e ∙ one-look v (index 3 (get_or x i 0)))))
        ∙ after-after i r.looks (left (i + 1))
        ∙ ap (after i) (found-more e (left (i + 1)) z refl ∙ sym (turn h))

  pub list-none : length x ≤ i → found 0 i ≡ after i (left i)
  list-none h = rw (drop_of_length-le x h) (ap (found 0) (omega arith))

-- its reference, as the record's references have passed
secondary-passed : (heap : Region) (t : List ℕ) (a pos : ℕ) → RefsPass 4 heap t a pos → ref_rule heap Optional (reference_at t (a + 48)).at (reference_at t (a + 48)).len ≡ 0
unfolding refs_fault layout_of
secondary-passed heap t a pos p =
    (first-of (ref_rule heap Optional (reference_at t (a + 48)).at (reference_at t (a + 48)).len) (ruled positions (env_in t pos) (named_at t (a + 48)))
    (ssns-list heap (env_in t pos) t a (image_in ssns t a) p.passed)).0

-- so that what it names is just the part of the heap that is handed on
passed-part : (t heap : List ℕ) (from : ℕ) → IsHeap t heap from → (off len : ℕ) → ref_rule (region from (length heap)) Optional off len ≡ 0 → part_in heap from off len ≡ part t off len
unfolding part_in
passed-part t heap from h off len z = go (reaches (region from (length heap)) off len) refl z
  where
    empty : (b c : Bool) → eqb len 0 ≡ c → ◌≡◌ {A = ℕ} (pick (b && c) 0 11) 0 → len ≡ 0
    empty b true e f = eqb-true len 0 e
    empty true false e f = absurd (omega arith)
    empty false false e f = absurd (omega arith)

    go : (c : Bool) → reaches (region from (length heap)) off len ≡ c → ◌≡◌ {A = ℕ} (pick (eqb off 0 && eqb len 0) 0 (pick c 0 11)) 0
        → pick c (part heap (off - from) len) [] ≡ part t off len
    go true e f = object-part t heap from h off len e
    go false e f = rw (empty (eqb off 0) (eqb len 0) refl f)

pub secondary-part : (t heap : List ℕ) (from a pos : ℕ) → IsHeap t heap from → RefsPass 4 (region from (length heap)) t a pos
    → part_in heap from (reference_at t (a + 48)).at (reference_at t (a + 48)).len ≡ named_at t (a + 48)
secondary-part t heap from a pos h p =
    passed-part t heap from h (reference_at t (a + 48)).at (reference_at t (a + 48)).len (secondary-passed (region from (length heap)) t a pos p)

-- and no longer than the heap
pub part-short : (heap : List ℕ) (from off len : ℕ) → length (part_in heap from off len) ≤ length heap
unfolding part_in
part-short heap from off len = go (reaches (region from (length heap)) off len) where
  go : (c : Bool) → length (pick c (part heap (off - from) len) []) ≤ length heap
  go true = simp (length-take, length-drop) (omega arith)
  go false = omega arith

-- ---- kinds without indexes

abbrev names_of : List ℕ → ℕ → Layout → Found
names_of t a l = found_by (valid_in t) (l.indexes (image_in l t a) (read_slots t a (image_in l t a) l.refs))

-- the layout of another kind than SSNS and discovery
abbrev others : (b0 b1 b2 b3 b5 b7 b9 b10 : Bool) → Layout
others b0 b1 b2 b3 b5 b7 b9 b10 = pick b0 header (pick b1 control (pick b2 host (pick b3 hfi (pick b5 security (pick b7 info (pick b9 extended (pick b10 hfi_extended no_kind)))))))

other-layout : (k : ℕ) → (k ≡ 4 → ⊥) → (k ≡ 6 → ⊥) → others (eqb k 0) (eqb k 1) (eqb k 2) (eqb k 3) (eqb k 5) (eqb k 7) (eqb k 9) (eqb k 10) ≡ layout_of k
unfolding layout_of
other-layout k x y = rw (ne_eqb k 4 x, ne_eqb k 6 y)

pub no_names : (t : List ℕ) (a k : ℕ) → (k ≡ 4 → ⊥) → (k ≡ 6 → ⊥) → found 0 0 ≡ names_found k t a
unfolding names_found indexes_in header control host hfi security info extended hfi_extended no_kind
no_names t a k x y = go (eqb k 0) (eqb k 1) (eqb k 2) (eqb k 3) (eqb k 5) (eqb k 7) (eqb k 9) (eqb k 10) ∙ ap (names_of t a) (other-layout k x y)
  where
    go : (b0 b1 b2 b3 b5 b7 b9 b10 : Bool) → found 0 0 ≡ names_of t a (others b0 b1 b2 b3 b5 b7 b9 b10)
    go true b1 b2 b3 b5 b7 b9 b10 = refl
    go false true b2 b3 b5 b7 b9 b10 = refl
    go false false true b3 b5 b7 b9 b10 = refl
    go false false false true b5 b7 b9 b10 = refl
    go false false false false true b7 b9 b10 = refl
    go false false false false false true b9 b10 = refl
    go false false false false false false true b10 = refl
    go false false false false false false false true = refl
    go false false false false false false false false = refl
