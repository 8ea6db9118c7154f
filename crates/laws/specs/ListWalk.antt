-- A list by positions, as code walks it: the valid bit in the table, a turn of the walk, which positions are used, and a law over all kinds. Assumes nothing.
use Rattle.std.specs.Prelude.{◌≡◌, refl, Bool, true, false, not, ◌&&◌, List, [], ◌∷◌, ℕ, zero, suc, ◌+◌, ◌-◌, ◌*◌, ◌%◌, ◌≤◌, ◌<◌, length, get_or, drop, T, leb, ltb, eqb}
use Rattle.std.proofs.Common.{sym, ap, ap₂, ◌∙◌, not-suc-le-zero, le_of_suc-le-suc, arith, get_or-drop, eqb→eq, ltb→lt, leb→le, lit≤, eq-eqb, ne_eqb}
use Rattle.std.proofs.Math.Nat.{mod-mod_of_dvd, dvd_of_mod-eq-zero}
use Rattle.std.proofs.Math.Dec.{leb-suc-suc, leb-suc-zero, leb-zero}
use Rattle.std.proofs.Math.Facts.{and_yes}
use Rattle.table.specs.declared.Answer.{Answer}
use Rattle.table.specs.declared.Region.{Region}
use Rattle.table.specs.Bytes.{odd, pick}
use Rattle.table.specs.Layout.{Entry, Env, Keep, Layout, base_of, env, image, is_valid, low, mod_of, offsets, unused, used}
use Rattle.table.specs.FixedLayouts.{control, discovery, extended, header, hfi, host, info, layout_of, list_kinds, no_kind, security, ssns, hfi_extended}
use Rattle.table.specs.Objects.{count_in, is_used, read_body, read_entry, read_list, read_slots, used_at, used_in}
use Rattle.table.specs.Rules.{answer, done, entry_rule, list_rule, used_rule}
use Rattle.laws.specs.ImageLaws.{even-low, image-at, is_even}
use Rattle.laws.specs.Fields.{image_in}
use Rattle.laws.specs.RefWalk.{distinct_refs, fitting}

-- what a table says of the whole: which positions are used, how many records there are, and where a record stands
unfoldable pub valid_in : List ℕ → ℕ → ℕ → Bool
valid_in t = used_in (read_body list_kinds t 80)

unfoldable pub env_in : List ℕ → ℕ → Env
env_in t pos = env (count_in (read_body list_kinds t 80)) pos

pub env-position : (t : List ℕ) (pos : ℕ) → (env_in t pos).position ≡ pos
unfolding env_in
env-position t pos = refl

-- ---- the valid bit: its flags' modulus is even

raw-flag : (l : Layout) (t : List ℕ) (a : ℕ) → T (ltb l.shape.flags.at (base_of l)) → T (eqb (mod_of (get_or l.shape.keep l.shape.flags.at (low 1)) (drop a t) % 2) 0)
    → is_valid l.shape (image_in l t a) ≡ odd (get_or t (a + l.shape.flags.at) 0)
unfolding image_in
raw-flag l t a k u =
    ap (λ (z : ℕ). eqb (z % 2) 1) (image-at l.shape.keep (drop a t) l.shape.flags.at (ltb→lt _ _ k))
    ∙ ap (λ (z : ℕ). eqb z 1) (mod-mod_of_dvd 2 (get_or (drop a t) l.shape.flags.at 0)
    (dvd_of_mod-eq-zero 2 (eqb→eq (mod_of (get_or l.shape.keep l.shape.flags.at (low 1)) (drop a t) % 2) 0 u)))
    ∙ ap (λ (z : ℕ). eqb (z % 2) 1) (get_or-drop a t l.shape.flags.at 0)

-- the layouts whose valid bit stands so: one computed test
abbrev pub flag_ok : Layout → Bool
flag_ok l = ltb l.shape.flags.at (base_of l) && is_even (get_or l.shape.keep l.shape.flags.at (low 1))

pub flag_is : (l : Layout) (t : List ℕ) (a : ℕ) → T (flag_ok l) → is_valid l.shape (image_in l t a) ≡ odd (get_or t (a + l.shape.flags.at) 0)
flag_is l t a o =
    let u = and_yes (ltb l.shape.flags.at (base_of l)) _ o in
    let k : Keep = get_or l.shape.keep l.shape.flags.at (low 1) in
    raw-flag l t a u.0 (even-low k (drop a t) u.1)

-- ---- a record

unfoldable pub used_it : Layout → (ℕ → ℕ → Bool) → Region → Env → List ℕ → ℕ → ℕ
used_it l named heap e t a = used_rule l named heap e t a (image_in l t a) (read_slots t a (image_in l t a) l.refs)

unfoldable pub record_rule : Layout → (ℕ → ℕ → Bool) → Region → Env → List ℕ → ℕ → ℕ
record_rule l named heap e t a = entry_rule l named heap e t a (read_entry l t a)

pub record_is : (l : Layout) (named : ℕ → ℕ → Bool) (heap : Region) (e : Env) (t : List ℕ) (a : ℕ) → T (flag_ok l)
    → record_rule l named heap e t a ≡ pick (odd (get_or t (a + l.shape.flags.at) 0)) (used_it l named heap e t a) 0
unfolding record_rule used_it entry_rule read_entry image_in
record_is l named heap e t a o =
    go (is_valid l.shape (image_in l t a)) ∙ ap (λ (c : Bool). pick c (used_it l named heap e t a) 0) (flag_is l t a o)
  where
    go : (c : Bool) → entry_rule l named heap e t a (pick c (used (image l.shape.keep (drop a t)) (read_slots t a (image l.shape.keep (drop a t)) l.refs)) unused)
        ≡ pick c (used_it l named heap e t a) 0
    go true = refl
    go false = refl

-- ---- a list: n records from a on, the first of them at position pos

unfoldable pub walk : Layout → (ℕ → ℕ → Bool) → (ℕ → ℕ) → Region → List ℕ → ℕ → ℕ → ℕ → ℕ → Answer
walk l named count heap t step pos a n = list_rule l named count heap pos t a step (read_list l t a step n)

-- a turn: n is what the record at a gives
module _ (l : Layout) (named : ℕ → ℕ → Bool) (count : ℕ → ℕ) (heap : Region) (t : List ℕ) (step pos a m n : ℕ) (e : n ≡ record_rule l named heap (env count pos) t a) where
  turn_is_lem : walk l named count heap t step pos a (suc m) ≡ pick (eqb n 0) (walk l named count heap t step (suc pos) (a + step) m) (answer n l.kind pos)
  unfolding walk list_rule read_list record_rule
  turn_is_lem = rw e

  pub walk-stop : (n ≡ 0 → ⊥) → walk l named count heap t step pos a (suc m) ≡ answer n l.kind pos
  walk-stop z = turn_is_lem ∙ ap (λ (c : Bool). pick c (walk l named count heap t step (suc pos) (a + step) m) (answer n l.kind pos)) (ne_eqb n 0 z)

  pub walk_more : n ≡ 0 → walk l named count heap t step pos a (suc m) ≡ walk l named count heap t step (suc pos) (a + step) m
  walk_more z = turn_is_lem ∙ ap (λ (c : Bool). pick c (walk l named count heap t step (suc pos) (a + step) m) (answer n l.kind pos)) (eq-eqb n 0 z)

pub walk_none : (l : Layout) (named : ℕ → ℕ → Bool) (count : ℕ → ℕ) (heap : Region) (t : List ℕ) (step pos a : ℕ) → walk l named count heap t step pos a 0 ≡ done
unfolding walk list_rule read_list
walk_none l named count heap t step pos a = refl

-- ---- whether a position is used

used-entry : (l : Layout) (t : List ℕ) (a : ℕ) → is_used (read_entry l t a) ≡ is_valid l.shape (image_in l t a)
unfolding read_entry image_in
used-entry l t a = go (is_valid l.shape (image l.shape.keep (drop a t)))
  where
    go : (c : Bool) → is_used {l = l} (pick c (used (image l.shape.keep (drop a t)) (read_slots t a (image l.shape.keep (drop a t)) l.refs)) unused) ≡ c
    go true = refl
    go false = refl

-- position i + 1 of a list that is walked by its step is used where it is one, and its valid bit is set
used-at : (l : Layout) (t : List ℕ) (n a step i : ℕ) → used_at (read_list l t a step n) (suc i) ≡ (ltb i n && is_used (read_entry l t (a + i * step)))
unfolding used_at read_list
used-at l t zero a step i = rw (leb-suc-zero i) refl
used-at l t (suc n) a step zero = ap (λ (m : ℕ). is_used (read_entry l t m)) (omega arith) ∙ sym (ap (λ (c : Bool). c && is_used (read_entry l t (a + 0 * step))) (leb-suc-suc 0 n ∙ leb-zero n))
used-at l t (suc n) a step (suc i) =
    used-at l t n (a + step) step i
    ∙ ap₂ (λ (c : Bool) (m : ℕ). c && is_used (read_entry l t m)) (sym (leb-suc-suc (suc i) n)) (omega arith)

-- position n of a list of records at a, by the byte of its flags
unfoldable pub flagged : List ℕ → ℕ → ℕ → ℕ → ℕ → ℕ → Bool
flagged t a step count flag n = not (eqb n 0) && (leb n count && odd (get_or t (a + (n - 1) * step + flag) 0))

pub flagged-is : (l : Layout) (t : List ℕ) (a step count n : ℕ) → T (flag_ok l) → used_at (read_list l t a step count) n ≡ flagged t a step count l.shape.flags.at n
unfolding flagged used_at
flagged-is l t a step count zero o = go (read_list l t a step count) where
  go : (es : List (Entry l)) → used_at es 0 ≡ false
  go [] = refl
  go (x ∷ xs) = refl
flagged-is l t a step count (suc i) o =
    used-at l t count a step i
    ∙ ap (λ (c : Bool). leb (suc i) count && c) (used-entry l t (a + i * step) ∙ flag_is l t (a + i * step) o)
    ∙ ap (λ (k : ℕ). leb (suc i) count && odd (get_or t (a + k * step + l.shape.flags.at) 0)) (sym z)
    ∙ sym (ap (λ (c : Bool). not c && (leb (suc i) count && odd (get_or t (a + (suc i - 1) * step + l.shape.flags.at) 0))) (ne_eqb (suc i) 0 (λ y. omega arith)))
  where
    z : suc i - 1 ≡ i
    z = omega arith

-- ---- a law over the kinds

pick_all : (P : Layout → Type 0) (c : Bool) (x y : Layout) → P x → P y → P (pick c x y)
pick_all P true x y p q = p
pick_all P false x y p q = q

pub by_layout : (P : Layout → Type 0) → P header → P control → P host → P hfi → P ssns → P security → P discovery → P info → P extended → P hfi_extended → P no_kind → (k : ℕ) → P (layout_of k)
unfolding layout_of
by_layout P p0 p1 p2 p3 p4 p5 p6 p7 p9 p10 p k =
    pick_all P (eqb k 0) _ _ p0
    (pick_all P (eqb k 1) _ _ p1
    (pick_all P (eqb k 2) _ _ p2
    (pick_all P (eqb k 3) _ _ p3
    (pick_all P (eqb k 4) _ _ p4 (pick_all P (eqb k 5) _ _ p5 (pick_all P (eqb k 6) _ _ p6 (pick_all P (eqb k 7) _ _ p7 (pick_all P (eqb k 9) _ _ p9 (pick_all P (eqb k 10) _ _ p10 p)))))))))

pub kinds-distinct : (k : ℕ) → T (distinct_refs (layout_of k).refs)
unfolding header control host hfi ssns security discovery info extended hfi_extended no_kind
kinds-distinct = by_layout (λ l. T (distinct_refs l.refs)) tt tt tt tt tt tt tt tt tt tt tt

-- each reference lies in the record
fit_at : (n : ℕ) (qs : List ℕ) → T (fitting n qs) → (i : ℕ) → i < length qs → get_or qs i 0 + 6 ≤ n
fit_at n [] f i h = absurd (not-suc-le-zero h)
fit_at n (q ∷ qs) f zero h = leb→le (q + 6) n (and_yes (leb (q + 6) n) (fitting n qs) f).0
fit_at n (q ∷ qs) f (suc i) h = fit_at n qs (and_yes (leb (q + 6) n) (fitting n qs) f).1 i (le_of_suc-le-suc h)

kinds-fit : (k : ℕ) → T (fitting (base_of (layout_of k)) (offsets (layout_of k).refs))
unfolding header control host hfi ssns security discovery info extended hfi_extended no_kind
kinds-fit = by_layout (λ l. T (fitting (base_of l) (offsets l.refs))) tt tt tt tt tt tt tt tt tt tt tt

pub refs-within : (k i : ℕ) → i < length (offsets (layout_of k).refs) → get_or (offsets (layout_of k).refs) i 0 + 6 ≤ base_of (layout_of k)
refs-within k i h = fit_at (base_of (layout_of k)) (offsets (layout_of k).refs) (kinds-fit k) i h

-- no record is longer than 128 bytes
pub base-small : (k : ℕ) → base_of (layout_of k) ≤ 128
unfolding header control host hfi ssns security discovery info extended hfi_extended no_kind
base-small = by_layout (λ l. base_of l ≤ 128) (lit≤ tt) (lit≤ tt) (lit≤ tt) (lit≤ tt) (lit≤ tt) (lit≤ tt) (lit≤ tt) (lit≤ tt) (lit≤ tt) (lit≤ tt) (lit≤ tt)
