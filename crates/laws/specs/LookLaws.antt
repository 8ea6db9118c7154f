-- Looks at records are bounded by the counts, on any bytes. Assumes nothing.
use Rattle.std.specs.Prelude.{◌≡◌, refl, Bool, true, false, ◌&&◌, List, [], ◌∷◌, ℕ, zero, suc, ◌+◌, ◌*◌, ◌≤◌, ◌<◌, length, get_or, drop, T, leb, eqb}
use Rattle.std.proofs.Common.{ap, ◌∙◌, subst, mul-le-mul_right, arith, leb→le, eqb→eq, lit<, eq-eqb, ne_eqb}
use Rattle.std.proofs.Math.Facts.{and_yes}
use Rattle.table.specs.declared.Region.{Region}
use Rattle.table.specs.declared.Need.TheVariants.{Optional, Required}
use Rattle.table.specs.Bytes.{bits, num, odd, once, pick}
use Rattle.table.specs.Layout.{Entry, Env, Index, Layout, Slots, anything, are_positions, each, env, image, index, is_right, is_valid, named_at, positions, reference_at, slot_at, unless, unused, used}
use Rattle.table.specs.FixedLayouts.{discovery, hfi, host, list_kinds, security, ssns}
use Rattle.table.specs.Objects.{count_in, read_body, read_entry, read_list, read_slots, used_in}
use Rattle.table.specs.Rules.{entry_rule, first_fail, first_of, list_rule, plain_rule, ref_rule, refs_rule, ruled}
use Rattle.table.specs.Meaning.{meaning}
use Rattle.table.specs.Numbers.{driver_rule, heap_in, host_rule, tests}
use Rattle.table.specs.Looks.{behind, looks, looks_body, looks_entry, looks_list, looks_records, looks_used, most_looks, resolved, up_to}
use Rattle.laws.specs.Sound.{first-of, length-read_list, pick-of}
use Rattle.laws.specs.Fields.{Bytes, image_in}
use Rattle.laws.specs.ListWalk.{env_in, flag_is, flag_ok, record_rule}

pick-most : (c : Bool) (x k : ℕ) → x ≤ k → pick c x 0 ≤ k
pick-most true x k h = h
pick-most false x k h = omega arith

resolved-most : (named : ℕ → ℕ → Bool) (xs : List Index) → resolved named xs ≤ length xs
resolved-most named [] = omega arith
resolved-most named (x ∷ xs) =
    let h = pick-most (named x.kind x.position) (resolved named xs) (length xs) (resolved-most named xs) in
    omega arith

-- ---- a record, a list

-- where its references pass, the record at a has at most k indexes
abbrev Most : (l : Layout) → Region → Env → List ℕ → ℕ → ℕ → Type 0
Most l heap e t a k =
    let img = image l.shape.keep (drop a t) in
    refs_rule heap e t a img l.refs ≡ 0 → length (l.indexes img (read_slots t a img l.refs)) ≤ k

used-most : (l : Layout) (named : ℕ → ℕ → Bool) (heap : Region) (e : Env) (t : List ℕ) (a k : ℕ) (img : List ℕ) (ss : Slots l.refs)
    → (refs_rule heap e t a img l.refs ≡ 0 → length (l.indexes img ss) ≤ k) → looks_used l named heap e t a img ss ≤ 1 + k
unfolding looks_used
used-most l named heap e t a k img ss h =
    go (is_right l.shape e img) (eqb (refs_rule heap e t a img l.refs) 0) refl
  where
    go : (c d : Bool) → eqb (refs_rule heap e t a img l.refs) 0 ≡ d → 1 + pick (c && d) (resolved named (l.indexes img ss)) 0 ≤ 1 + k
    go false d p = omega arith
    go true false p = omega arith
    go true true p = omega (arith, resolved-most named (l.indexes img ss), h (eqb→eq (refs_rule heap e t a img l.refs) 0 (rw p tt)))

entry-most : (l : Layout) (named : ℕ → ℕ → Bool) (heap : Region) (e : Env) (t : List ℕ) (a k : ℕ) → Most l heap e t a k → looks_entry l named heap e t a (read_entry l t a) ≤ 1 + k
unfolding looks_entry read_entry
entry-most l named heap e t a k h = go (is_valid l.shape (image l.shape.keep (drop a t)))
  where
    go : (c : Bool) → looks_entry l named heap e t a (pick c (used (image l.shape.keep (drop a t)) (read_slots t a (image l.shape.keep (drop a t)) l.refs)) unused) ≤ 1 + k
    go true = used-most l named heap e t a k (image l.shape.keep (drop a t)) (read_slots t a (image l.shape.keep (drop a t)) l.refs) h
    go false = omega arith

list-most : (l : Layout) (named : ℕ → ℕ → Bool) (count : ℕ → ℕ) (heap : Region) (t : List ℕ) (k : ℕ) → ((pos a : ℕ) → Most l heap (env count pos) t a k)
    → (n pos a step : ℕ) → looks_list l named count heap pos t a step (read_list l t a step n) ≤ n * (1 + k)
unfolding looks_list read_list
list-most l named count heap t k h zero pos a step = omega arith
list-most l named count heap t k h (suc n) pos a step =
    let x = entry-most l named heap (env count pos) t a k (h pos a) in
    let y = pick-most (eqb (entry_rule l named heap (env count pos) t a (read_entry l t a)) 0) _ (n * (1 + k)) (list-most l named count heap t k h n (suc pos) (a + step) step) in
    omega arith

-- ---- the kinds

each-length : (k : ℕ) (ns : List ℕ) → length (each k ns) ≡ length ns
each-length k [] = refl
each-length k (n ∷ ns) = ap suc (each-length k ns)

unless-most : (c : Bool) (x : Index) (xs : List Index) → length (unless c x xs) ≤ 1 + length xs
unless-most true x xs = omega arith
unless-most false x xs = omega arith

host-most : (heap : Region) (e : Env) (t : List ℕ) (a : ℕ) → Most host heap e t a 0
unfolding host
host-most heap e t a r = omega arith

hfi-most : (heap : Region) (e : Env) (t : List ℕ) (a : ℕ) → Most hfi heap e t a 0
unfolding hfi
hfi-most heap e t a r = omega arith

security-most : (heap : Region) (e : Env) (t : List ℕ) (a : ℕ) → Most security heap e t a 0
unfolding security
security-most heap e t a r = omega arith

discovery-most : (heap : Region) (e : Env) (t : List ℕ) (a : ℕ) → Most discovery heap e t a 2
unfolding discovery
discovery-most heap e t a r =
    let img : List ℕ = image discovery.shape.keep (drop a t) in
    omega (arith, unless-most (eqb (get_or img 4 0) 0) (index 5 (get_or img 4 0)) [])

-- a list that passes has no more bytes than there are HFIs
positions-most : (e : Env) (b : List ℕ) → ruled positions e b ≡ 0 → length b ≤ e.count 3
positions-most e [] r = omega arith
positions-most e (b ∷ bs) r =
    let most = leb (length (b ∷ bs)) (e.count 3) in
    leb→le (length (b ∷ bs)) (e.count 3) (and_yes most (once (b ∷ bs)) (pick-of (are_positions (e.count 3) (b ∷ bs)) 20 (lit< tt) r)).0

third : (x y z w : ℕ) → first_of x (first_of y (first_of z w)) ≡ 0 → z ≡ 0
third x y z w e = (first-of z w (first-of y (first_of z w) (first-of x (first_of y (first_of z w)) e).1).1).0

-- where an SSNS record's references pass, so does its list
pub ssns-list : (heap : Region) (e : Env) (t : List ℕ) (a : ℕ) (img : List ℕ) → refs_rule heap e t a img ssns.refs ≡ 0 → plain_rule heap Optional positions e t (a + 48) ≡ 0
unfolding ssns refs_rule
ssns-list heap e t a img r = third (plain_rule heap Required anything e t (a + 10)) (plain_rule heap Required anything e t (a + 16)) (plain_rule heap Optional positions e t (a + 48)) _ r

list-ruled : (heap : Region) (e : Env) (t : List ℕ) (r : ℕ) → plain_rule heap Optional positions e t r ≡ 0 → ruled positions e (named_at t r) ≡ 0
list-ruled heap e t r z = (first-of (ref_rule heap Optional (reference_at t r).at (reference_at t r).len) (ruled positions e (named_at t r)) z).1

ssns-most : (heap : Region) (e : Env) (t : List ℕ) (a : ℕ) → Most ssns heap e t a (3 + e.count 3)
unfolding ssns read_slots slot_at
ssns-most heap e t a r =
    let img : List ℕ = image ssns.shape.keep (drop a t) in
    let b : List ℕ = named_at t (a + 48) in
    let m : length b ≤ e.count 3 = positions-most e b (list-ruled heap e t (a + 48) (ssns-list heap e t a img r)) in
    let own : List Index = index 3 (get_or img 46 0) ∷ each 3 b in
    let u = unless-most (eqb (bits 3 2 2 2 img) 0) (index 5 (get_or img 45 0)) own in
    let v = unless-most (eqb (get_or img 8 0) 0) (index 6 (get_or img 8 0)) (unless (eqb (bits 3 2 2 2 img) 0) (index 5 (get_or img 45 0)) own) in
    omega (arith, m, each-length 3 b, u, v)

-- ---- the table

counted : (t : List ℕ) → count_in (read_body list_kinds t 80) 3 ≡ get_or t 87 0
unfolding count_in read_body hfi
counted t = length-read_list t hfi (get_or t 87 0) (num t 80 4) (num t 84 2)

-- the number of HFIs is the one stated, unused ones too
pub hfi-count : (t : List ℕ) (pos : ℕ) → (env_in t pos).count 3 ≡ get_or t 87 0
unfolding env_in
hfi-count t pos = counted t

-- one list in front of others
body-step : (l : Layout) (ls : List Layout) (named : ℕ → ℕ → Bool) (count : ℕ → ℕ) (heap : Region) (t : List ℕ) (c k n : ℕ) → ((pos a : ℕ) → Most l heap (env count pos) t a k)
    → looks_body named count heap t (c + 8) (read_body ls t (c + 8)) ≤ n → looks_body named count heap t c (read_body (l ∷ ls) t c) ≤ get_or t (c + 7) 0 * (1 + k) + n
unfolding looks_body read_body
body-step l ls named count heap t c k n h r =
    let es : List (Entry l) = read_list l t (num t c 4) (num t (c + 4) 2) (get_or t (c + 7) 0) in
    let x = list-most l named count heap t k h (get_or t (c + 7) 0) 1 (num t c 4) (num t (c + 4) 2) in
    let y = pick-most (eqb (list_rule l named count heap 1 t (num t c 4) (num t (c + 4) 2) es).number 0) (looks_body named count heap t (c + 8) (read_body ls t (c + 8))) n r in
    omega (arith, x, y)

body-none : (named : ℕ → ℕ → Bool) (count : ℕ → ℕ) (heap : Region) (t : List ℕ) (c : ℕ) → looks_body named count heap t c (read_body [] t c) ≤ 0
unfolding looks_body read_body
body-none named count heap t c = omega arith

body-most : (named : ℕ → ℕ → Bool) (count : ℕ → ℕ) (heap : Region) (t : List ℕ)
    → looks_body named count heap t 80 (read_body list_kinds t 80) ≤ get_or t 87 0 + get_or t 95 0 * (4 + count 3) + get_or t 103 0 + 3 * get_or t 111 0
body-most named count heap t =
    let d = body-step discovery [] named count heap t 104 2 0 (λ pos a. discovery-most heap (env count pos) t a) (body-none named count heap t 112) in
    let c = body-step security (discovery ∷ []) named count heap t 96 0 _ (λ pos a. security-most heap (env count pos) t a) d in
    let s = body-step ssns (security ∷ discovery ∷ []) named count heap t 88 (3 + count 3) _ (λ pos a. ssns-most heap (env count pos) t a) c in
    let i = body-step hfi (ssns ∷ security ∷ discovery ∷ []) named count heap t 80 0 _ (λ pos a. hfi-most heap (env count pos) t a) s in
    omega (arith, i)

-- on any bytes the looks are at most 1 + H + S * (4 + H) + C + 3 * D, by the stated counts
pub looks-bound : (t : List ℕ) → looks t ≤ most_looks t
unfolding looks looks_records meaning
looks-bound t =
    pick-most (eqb (first_fail (tests t)).number 0) _ _
    (pick-most (eqb (driver_rule t count).number 0) _ _ both)
  where
    named : ℕ → ℕ → Bool
    named = used_in (read_body list_kinds t 80)

    count : ℕ → ℕ
    count = count_in (read_body list_kinds t 80)

    body : ℕ
    body = looks_body named count (heap_in t) t 80 (read_body list_kinds t 80)

    lists : body ≤ get_or t 87 0 + get_or t 95 0 * (4 + get_or t 87 0) + get_or t 103 0 + 3 * get_or t 111 0
    lists = subst (λ (n : ℕ). body ≤ get_or t 87 0 + get_or t 95 0 * (4 + n) + get_or t 103 0 + 3 * get_or t 111 0) (counted t) (body-most named count (heap_in t) t)

    own : looks_entry host named (heap_in t) (env count 0) t (num t 72 4) (read_entry host t (num t 72 4)) ≤ 1 + 0
    own = entry-most host named (heap_in t) (env count 0) t (num t 72 4) 0 (host-most (heap_in t) (env count 0) t (num t 72 4))

    both : up_to (looks_entry host named (heap_in t) (env count 0) t (num t 72 4) (read_entry host t (num t 72 4)))
        (host_rule t named count (read_entry host t (num t 72 4))).number body ≤ most_looks t
    both =
        let x = pick-most (eqb (host_rule t named count (read_entry host t (num t 72 4))).number 0) _ _ lists in
        omega (arith, x, own)

-- so that they are few: counts are bytes
pub looks-few : (t : List ℕ) → Bytes t → looks t < 4294967296
looks-few t b =
    let most = mul-le-mul_right (4 + get_or t 87 0) (small (b 95)) in
    omega (arith, looks-bound t, most, b 87, b 103, b 111)
  where
    small : {n : ℕ} → n < 256 → n ≤ 255
    small h = omega arith

-- ---- none before the first record

-- behind a test that fails, and behind one that passes
pub behind-stop : (n rest : ℕ) → (n ≡ 0 → ⊥) → behind n rest ≡ 0
behind-stop n rest h = ap (λ (c : Bool). pick c rest 0) (ne_eqb n 0 h)

pub behind_more : (n rest : ℕ) → n ≡ 0 → behind n rest ≡ rest
behind_more n rest e = ap (λ (c : Bool). pick c rest 0) (eq-eqb n 0 e)

-- refused by 1 to 9
pub looks-early : (t : List ℕ) → ((first_fail (tests t)).number ≡ 0 → ⊥) → looks t ≡ 0
unfolding looks
looks-early t h = behind-stop (first_fail (tests t)).number (looks_records t (meaning t)) h

-- refused by the driver signature
pub looks-unsigned : (t : List ℕ) → ((driver_rule t (count_in (meaning t).lists)).number ≡ 0 → ⊥) → looks t ≡ 0
unfolding looks looks_records
looks-unsigned t h = ap (λ (n : ℕ). pick (eqb (first_fail (tests t)).number 0) n 0) (behind-stop (driver_rule t (count_in (meaning t).lists)).number _ h) ∙ same-zero (eqb (first_fail (tests t)).number 0)
  where
    same-zero : (c : Bool) → ◌≡◌ {A = ℕ} (pick c 0 0) 0
    same-zero true = refl
    same-zero false = refl

-- ---- as code walks: a record, and n records from a on, the first of them at position pos

unfoldable pub looks_it : Layout → (ℕ → ℕ → Bool) → Region → Env → List ℕ → ℕ → ℕ
looks_it l named heap e t a = looks_used l named heap e t a (image_in l t a) (read_slots t a (image_in l t a) l.refs)

unfoldable pub looks_record : Layout → (ℕ → ℕ → Bool) → Region → Env → List ℕ → ℕ → ℕ
looks_record l named heap e t a = looks_entry l named heap e t a (read_entry l t a)

pub looks-record : (l : Layout) (named : ℕ → ℕ → Bool) (heap : Region) (e : Env) (t : List ℕ) (a : ℕ) → T (flag_ok l)
    → looks_record l named heap e t a ≡ pick (odd (get_or t (a + l.shape.flags.at) 0)) (looks_it l named heap e t a) 1
unfolding looks_record looks_it looks_entry read_entry image_in
looks-record l named heap e t a o =
    go (is_valid l.shape (image_in l t a)) ∙ ap (λ (c : Bool). pick c (looks_it l named heap e t a) 1) (flag_is l t a o)
  where
    go : (c : Bool) → looks_entry l named heap e t a (pick c (used (image l.shape.keep (drop a t)) (read_slots t a (image l.shape.keep (drop a t)) l.refs)) unused)
        ≡ pick c (looks_it l named heap e t a) 1
    go true = refl
    go false = refl

unfoldable pub looks_walk : Layout → (ℕ → ℕ → Bool) → (ℕ → ℕ) → Region → List ℕ → ℕ → ℕ → ℕ → ℕ → ℕ
looks_walk l named count heap t step pos a n = looks_list l named count heap pos t a step (read_list l t a step n)

-- a turn: n is what the record at a gives
pub looks-turn : (l : Layout) (named : ℕ → ℕ → Bool) (count : ℕ → ℕ) (heap : Region) (t : List ℕ) (step pos a m n : ℕ) → n ≡ record_rule l named heap (env count pos) t a
    → looks_walk l named count heap t step pos a (suc m) ≡ up_to (looks_record l named heap (env count pos) t a) n (looks_walk l named count heap t step (suc pos) (a + step) m)
unfolding looks_walk looks_list read_list record_rule looks_record
looks-turn l named count heap t step pos a m n e = rw e

pub looks-none : (l : Layout) (named : ℕ → ℕ → Bool) (count : ℕ → ℕ) (heap : Region) (t : List ℕ) (step pos a : ℕ) → looks_walk l named count heap t step pos a 0 ≡ 0
unfolding looks_walk looks_list read_list
looks-none l named count heap t step pos a = refl

-- the same with the looks of the test
pub up-stop : (own n rest : ℕ) → (n ≡ 0 → ⊥) → up_to own n rest ≡ own
up-stop own n rest h = omega (arith, behind-stop n rest h)

pub up_more : (own n rest : ℕ) → n ≡ 0 → up_to own n rest ≡ own + rest
up_more own n rest e = ap (λ (k : ℕ). own + k) (behind_more n rest e)
