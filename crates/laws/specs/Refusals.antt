-- Demand 2, last sentence: the builder and the rewriter refuse for the numbered causes alone; each number is given exactly when its cause is the first that holds (`Refuses`).
-- Assumes nothing.
use Rattle.std.specs.Prelude.{◌≡◌, refl, Bool, true, false, ◌&&◌, ◌||◌, List, [], ◌∷◌, ℕ, zero, suc, ◌+◌, ◌≤◌, length, take, drop, T, leb, eqb}
use Rattle.std.proofs.Common.{arith, leb→le, le-leb}
use Rattle.std.proofs.lemmas.List.{length-replicate}
use Rattle.std.proofs.Math.Dec.{eqb-suc-zero}
use Rattle.std.proofs.Math.Facts.{and_yes, yes_and}
use Rattle.table.specs.declared.Answer.{Answer}
use Rattle.table.specs.declared.Region.{Region}
use Rattle.table.specs.declared.Need.{Need}
use Rattle.table.specs.declared.Need.TheVariants.{Ignored, Optional, Required}
use Rattle.table.specs.declared.State.{State}
use Rattle.table.specs.Bytes.{num, pick}
use Rattle.table.specs.Layout.{are_positions, Body, Content, Entry, Env, Layout, Refs, Slots, anything, bytes, env, gone, image, is_right, is_text, more, named_at, nest, nil, none, names_used}
use Rattle.table.specs.Layout.{pairs_right, plain, rec, stop, positions, text, unused, used}
use Rattle.table.specs.FixedLayouts.{discovery, header, hfi, host, list_kinds, security, ssns}
use Rattle.table.specs.Objects.{count_in, size_of, under, used_in}
use Rattle.table.specs.Rules.{Test, answer, body_rule, done, entry_rule, first, first_fail, first_of, is_sound, list_rule, reaches, ref_rule, refs_rule, ruled, used_rule}
use Rattle.table.specs.Meaning.{Meaning, form_length, heap_at, limit, meaning}
use Rattle.table.specs.Numbers.{check, driver_rule, heap_in, host_rule, records, tests}
use Rattle.table.specs.Rewriting.{rewrite_answer}
use Rattle.table.specs.Builder.{Outcome, all_unused, begin, begun, count_of, empty, env_of, fill, fill_answer, finish, finished, finishing, fits_need, is_short, leave, may_have, may_lack, moved, nests_right, opened, outcome, records_end, same_state, sealed, slots_rule, told_image, told_slots, turn, waits}
use Rattle.laws.specs.Turns.{end_is}
use Rattle.laws.specs.Runs.{Call, does, finishes, leaves, opens, tells_discovery, tells_hfi, tells_host, tells_security, tells_ssns}
use Rattle.laws.specs.TestLaws.{Refuses, fails-first, found, number-pick, one_of, refuses, unless}

-- ---- the numbers of objects and of the reader

-- r is 0 or one of ns
pub record ZeroOr (ns : List ℕ) (r : ℕ) : Type 0 where
  pub either : T (one_of r ns || eqb r 0)

-- what `distinct` asks where only this one of the numbers is not written
alone : {ns : List ℕ} {r : ℕ} → ZeroOr ns r → T ((one_of r ns || eqb r 0) && true)
alone {ns} {r} t = yes_and (one_of r ns || eqb r 0) true t.either tt

nothing : {ns : List ℕ} → ZeroOr ns 0
nothing {ns} = record { either = go (one_of 0 ns) }
  where
    go : (c : Bool) → T (c || true)
    go true = tt
    go false = tt

is : {ns : List ℕ} (r : ℕ) → T (one_of r ns || eqb r 0) → ZeroOr ns r
is r t = record { either = t }

either-of : {ns : List ℕ} (c : Bool) {x y : ℕ} → ZeroOr ns x → ZeroOr ns y → ZeroOr ns (pick c x y)
either-of true t u = t
either-of false t u = u

first-of : {ns : List ℕ} {x y : ℕ} → ZeroOr ns x → ZeroOr ns y → ZeroOr ns (first_of x y)
first-of {ns} {x} {y} t u = either-of (eqb x 0) u t

under-need : {ns : List ℕ} (n : Need) {x : ℕ} → ZeroOr ns x → ZeroOr ns (under n 0 x)
under-need Ignored t = nothing
under-need Optional t = t
under-need Required t = t

-- what a content asks for: 18 of text, 20 of positions
asked : {ns : List ℕ} → T (one_of 18 ns || eqb 18 0) → T (one_of 20 ns || eqb 20 0) → (content : Content) (e : Env) (b : List ℕ) → ZeroOr ns (ruled content e b)
asked t u content e [] = nothing
asked t u anything e (b ∷ bs) = nothing
asked t u text e (b ∷ bs) = either-of (is_text (b ∷ bs)) nothing (is 18 t)
asked t u positions e (b ∷ bs) = either-of (are_positions (e.count 3) (b ∷ bs)) nothing (is 20 u)

either-answer : {ns : List ℕ} (c : Bool) (x y : Answer) → ZeroOr ns x.number → ZeroOr ns y.number → ZeroOr ns (pick c x y).number
either-answer true x y t u = t
either-answer false x y t u = u

first-answer : {ns : List ℕ} (x y : Answer) → ZeroOr ns x.number → ZeroOr ns y.number → ZeroOr ns (first x y).number
first-answer x y t u = either-answer (eqb x.number 0) y x u t

-- what a told object can be refused with
abbrev pub object_numbers : List ℕ
object_numbers = 11 ∷ 18 ∷ 20 ∷ []

slots-number : {rs : Refs} (e : Env) (img : List ℕ) (ss : Slots rs) → ZeroOr object_numbers (slots_rule e img ss)
unfolding slots_rule
slots-number e img nil = nothing
slots-number e img (bytes {need = need} {content = content} b ss) =
    first-of (first-of (either-of (fits_need (need img) b && is_short b) nothing (is 11 tt)) (asked tt tt content e b)) (slots-number e img ss)
slots-number e img (gone {need = need} ss) = first-of (either-of (may_lack (need img)) nothing (is 11 tt)) (slots-number e img ss)
slots-number e img (rec {need = need} img' own ss) =
    first-of (first-of (either-of (may_have (need img)) nothing (is 11 tt)) (slots-number e img' own)) (slots-number e img ss)

-- what the reader can refuse with
abbrev pub reader_numbers : List ℕ
reader_numbers = 1 ∷ 2 ∷ 3 ∷ 4 ∷ 5 ∷ 6 ∷ 7 ∷ 8 ∷ 9 ∷ 10 ∷ 11 ∷ 12 ∷ 13 ∷ 18 ∷ 20 ∷ []

abbrev FromReader : ℕ → Type 0
FromReader r = ZeroOr reader_numbers r

ref-number : (heap : Region) (n : Need) (off len : ℕ) → FromReader (ref_rule heap n off len)
ref-number heap Ignored off len = nothing
ref-number heap Optional off len = either-of (eqb off 0 && eqb len 0) nothing (either-of (reaches heap off len) nothing (is 11 tt))
ref-number heap Required off len = either-of (reaches heap off len) nothing (is 11 tt)

refs-number : (heap : Region) (e : Env) (t : List ℕ) (a : ℕ) (img : List ℕ) (rs : Refs) → FromReader (refs_rule heap e t a img rs)
unfolding refs_rule
refs-number heap e t a img none = nothing
refs-number heap e t a img (plain p need content rest) =
    first-of (first-of (ref-number heap (need img) (num t (a + p) 4) (num t (a + p + 4) 2)) (under-need (need img) (asked tt tt content e (named_at t (a + p)))))
    (refs-number heap e t a img rest)
refs-number heap e t a img (nest p need shape own rest) =
    first-of
    (first-of (ref-number heap (need img) (num t (a + p) 4) (num t (a + p + 4) 2))
    (under-need (need img)
    (either-of (eqb (num t (a + p + 4) 2) 0) nothing
    (first-of
    (either-of (leb (length shape.keep) (num t (a + p + 4) 2) && is_sound shape e img (image shape.keep (drop (num t (a + p) 4) t))) nothing (is 12 tt))
    (refs-number heap e t (num t (a + p) 4) (image shape.keep (drop (num t (a + p) 4) t)) own)))))
    (refs-number heap e t a img rest)

used-number : (l : Layout) (named : ℕ → ℕ → Bool) (heap : Region) (e : Env) (t : List ℕ) (a : ℕ) (img : List ℕ) (ss : Slots l.refs) → FromReader (used_rule l named heap e t a img ss)
unfolding used_rule
used-number l named heap e t a img ss =
    first-of (either-of (is_right l.shape e img) nothing (is 10 tt)) (first-of (refs-number heap e t a img l.refs) (either-of (names_used named (l.indexes img ss)) nothing (is 13 tt)))

list-number : (l : Layout) (named : ℕ → ℕ → Bool) (count : ℕ → ℕ) (heap : Region) (pos : ℕ) (t : List ℕ) (a step : ℕ) (es : List (Entry l))
    → FromReader (list_rule l named count heap pos t a step es).number
unfolding list_rule entry_rule
list-number l named count heap pos t a step [] = nothing
list-number l named count heap pos t a step (unused ∷ es) = list-number l named count heap (suc pos) t (a + step) step es
list-number l named count heap pos t a step (used img ss ∷ es) =
    let n = used_rule l named heap (env count pos) t a img ss in
    either-answer (eqb n 0) (list_rule l named count heap (suc pos) t (a + step) step es) (answer n l.kind pos)
    (list-number l named count heap (suc pos) t (a + step) step es) (used-number l named heap (env count pos) t a img ss)

body-number : {ls : List Layout} (named : ℕ → ℕ → Bool) (count : ℕ → ℕ) (heap : Region) (t : List ℕ) (c : ℕ) (b : Body ls) → FromReader (body_rule named count heap t c b).number
unfolding body_rule
body-number named count heap t c stop = nothing
body-number named count heap t c (more {l = l} es rest) =
    first-answer (list_rule l named count heap 1 t (num t c 4) (num t (c + 4) 2) es) (body_rule named count heap t (c + 8) rest)
    (list-number l named count heap 1 t (num t c 4) (num t (c + 4) 2) es) (body-number named count heap t (c + 8) rest)

host-number : (t : List ℕ) (named : ℕ → ℕ → Bool) (count : ℕ → ℕ) (e : Entry host) → FromReader (host_rule t named count e).number
unfolding host_rule
host-number t named count unused = is 10 tt
host-number t named count (used img ss) =
    let n = used_rule host named (heap_in t) (env count 0) t (num t 72 4) img ss in
    either-answer (eqb n 0) done (answer n 2 0) nothing (used-number host named (heap_in t) (env count 0) t (num t 72 4) img ss)

driver-number : (t : List ℕ) (count : ℕ → ℕ) → FromReader (driver_rule t count).number
unfolding driver_rule
driver-number t count =
    let n = refs_rule (heap_in t) (env count 0) t 0 [] header.refs in
    either-answer (eqb n 0) done (answer n 0 0) nothing (refs-number (heap_in t) (env count 0) t 0 [] header.refs)

abbrev all_of : List ℕ → List Test → Bool
all_of ns [] = true
all_of ns (x ∷ xs) = (one_of x.gives.number ns || eqb x.gives.number 0) && all_of ns xs

tests-number : {ns : List ℕ} (xs : List Test) → T (all_of ns xs) → ZeroOr ns (first_fail xs).number
tests-number [] t = nothing
tests-number {ns} (x ∷ xs) t =
    let u = and_yes (one_of x.gives.number ns || eqb x.gives.number 0) (all_of ns xs) t in
    either-answer x.holds (first_fail xs) x.gives (tests-number xs u.1) (is x.gives.number u.0)

pub check-below : (t : List ℕ) → ZeroOr reader_numbers (check t).number
unfolding check records tests
check-below t =
    let m : Meaning = meaning t in
    let named : ℕ → ℕ → Bool = used_in m.lists in
    let count : ℕ → ℕ = count_in m.lists in
    first-answer (first_fail (tests t)) _ (tests-number (tests t) tt)
    (first-answer (driver_rule t count) _ (driver-number t count)
    (first-answer (host_rule t named count m.owner) _ (host-number t named count m.owner) (body-number named count (heap_in t) t 80 m.lists)))

-- ---- the calls of the builder

-- refused or done, the answer handed back is the one found
pub outcome-answer : (a : Answer) (s s' : State) (b b' : List ℕ) → (outcome a s s' b b').step.answer ≡ a
outcome-answer a s s' b b' = go (eqb a.number 0)
  where
    go : (c : Bool) → (pick {X = Outcome} c (record { step = record { answer = a; state = s' }; buffer = b' }) (record { step = record { answer = a; state = s }; buffer = b })).step.answer ≡ a
    go true = refl
    go false = refl

-- host, HFI, SSNS, security and discovery
pub fill-refuses : (l : Layout) (s : State) (b x : List ℕ) (told : Slots l.refs)
    → let img = told_image l.shape s.position x in let ss = told_slots s.position img told in
    Refuses (fill l s b x told).step.answer.number
    (unless 15 (waits s l.kind)
    ∷ unless 10 (pairs_right l.shape img)
    ∷ unless 12 (nests_right img ss)
    ∷ found object_numbers (slots_rule (env_of s) img ss)
    ∷ unless 17 (leb (s.used + size_of ss) limit)
    ∷ unless 14 (leb (s.used + size_of ss) (length b))
    ∷ [])
unfolding fill fill_answer
fill-refuses l s b x told =
    let img : List ℕ = told_image l.shape s.position x in
    rw (outcome-answer _ s _ b _)
    (fails-first _ ((0, 0) ∷ (l.kind, s.position) ∷ (l.kind, s.position) ∷ (l.kind, s.position) ∷ []) (alone (slots-number (env_of s) img (told_slots s.position img told))))

-- begin has no two-bit fields
pub begin-refuses : (s : State) (b oem cs : List ℕ) (sig : Slots header.refs) → let n = form_length (opened oem cs sig) in
    Refuses (begin s b oem cs sig).step.answer.number
    (unless 15 (same_state s empty)
    ∷ found object_numbers (slots_rule (env (count_of list_kinds cs) 0) [] sig)
    ∷ unless 17 (leb n limit)
    ∷ unless 14 (leb n (length b))
    ∷ [])
unfolding begin
begin-refuses s b oem cs sig = rw (outcome-answer _ s _ b _) (fails-first _ [] (alone (slots-number (env (count_of list_kinds cs) 0) [] sig)))

-- an unused position has neither fields nor objects
pub leave-refuses : (s : State) (b : List ℕ)
    → Refuses (leave s b).step.answer.number (unless 15 (waits s s.turn && leb 1 s.position) ∷ unless 14 (leb s.used (length b)) ∷ [])
unfolding leave
leave-refuses s b = rw (outcome-answer _ s _ b _) (fails-first _ [] tt)

-- finish: last what the reader says of the finished bytes
pub finish-refuses : (s : State) (b : List ℕ)
    → Refuses (finish s b).step.answer.number
    (unless 15 (waits s finishing) ∷ unless 14 (leb s.used (length b)) ∷ found reader_numbers (check (take s.used (sealed s b))).number ∷ [])
unfolding finish
finish-refuses s b =
    rw (outcome-answer _ s _ b _)
    (refuses _ _ (go (waits s finishing) (leb s.used (length b)) (check (take s.used (sealed s b)))) (alone (check-below (take s.used (sealed s b)))))
  where
    itself : (n : ℕ) → n ≡ first_of n 0
    itself zero = refl
    itself (suc n) = rw (eqb-suc-zero n) refl

    go : (c d : Bool) (x : Answer) → (first (pick c (pick d done (answer 14 0 0)) (answer 15 0 0)) x).number ≡ pick c (pick d (first_of x.number 0) 14) 15
    go false d x = refl
    go true false x = refl
    go true true x = itself x.number

-- ---- the rewriter: the reader's number, then 17, then 14

pub rewrite-refuses : (t : List ℕ) (space : ℕ) → let n = form_length (meaning t) in
    Refuses (rewrite_answer t space).number (found reader_numbers (check t).number ∷ unless 17 (leb n limit) ∷ unless 14 (leb n space) ∷ [])
unfolding rewrite_answer
rewrite-refuses t space = simp number-pick (refuses _ _ refl (alone (check-below t)))

-- ---- the states that begin and finish return

-- the table that begin opens has its heap behind its records
opened-behind : (oem : List ℕ) (h n c d : ℕ) (sig : Slots header.refs) (u : ℕ) → let cs = h ∷ n ∷ c ∷ d ∷ [] in records_end (begun cs u) ≤ form_length (opened oem cs sig)
unfolding records_end form_length heap_at opened
opened-behind oem h n c d sig u =
    let f = simp length-replicate at (end_is 160 (all_unused list_kinds (h ∷ n ∷ c ∷ d ∷ []))) in
    omega (arith, f)

-- The state that a done begin returns is one that its next call, the host's, takes
pub begin-waits : (s : State) (b oem : List ℕ) (h n c d : ℕ) (sig : Slots header.refs) → let o = begin s b oem (h ∷ n ∷ c ∷ d ∷ []) sig in
    o.step.answer.number ≡ 0 → waits o.step.state 2 ≡ true
unfolding begin waits
begin-waits s b oem h n c d sig e =
    let m : ℕ = form_length (opened oem (h ∷ n ∷ c ∷ d ∷ []) sig) in
    let t = (and_yes (same_state s empty) _ (((begin-refuses s b oem (h ∷ n ∷ c ∷ d ∷ []) sig).exactly 0).0 e)).1 in
    let u = (and_yes (leb m limit) _ (and_yes (eqb (slots_rule (env (count_of list_kinds (h ∷ n ∷ c ∷ d ∷ [])) 0) [] sig) 0) _ t).1).0 in
    let z = rw (outcome-answer _ s _ b _) at e in
    rw (z, le-leb (records_end (begun (h ∷ n ∷ c ∷ d ∷ []) m)) m (opened-behind oem h n c d sig m), le-leb m limit (leb→le m limit u)) refl

-- no call is in turn behind finish
late : (s : State) (c : Call) (b : List ℕ) → (does c (moved s (turn finished 0) s.used s.minor) b).step.answer ≡ answer 15 0 0
unfolding begin fill fill_answer leave finish waits host hfi ssns security discovery
late s (opens oem h n c d signature) b = refl
late s (tells_host x told) b = refl
late s (tells_hfi x told) b = refl
late s (tells_ssns x told) b = refl
late s (tells_security x told) b = refl
late s (tells_discovery x told) b = refl
late s leaves b = refl
late s finishes b = refl

-- The state that a done finish returns takes no call: each is 15, whatever it is told, in whatever buffer
pub finished-refuses : (s : State) (b : List ℕ) → (finish s b).step.answer.number ≡ 0
    → (c : Call) (b' : List ℕ) → (does c (finish s b).step.state b').step.answer ≡ answer 15 0 0
unfolding finish
finished-refuses s b e c b' = let z = rw (outcome-answer _ s _ b _) at e in rw z (late s c b')
