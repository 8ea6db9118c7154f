-- The position that an answer of the check names is a list's, and a list's count is one byte: it is below 256. Assumes nothing.
use Rattle.std.specs.Prelude.{Bool, true, false, ◌&&◌, List, [], ◌∷◌, ℕ, suc, ◌+◌, ◌≤◌, ◌<◌, length, get_or, T, eqb}
use Rattle.std.proofs.Common.{arith, lit<, eqb→eq}
use Rattle.std.proofs.Math.Facts.{and_yes}
use Rattle.table.specs.declared.Answer.{Answer}
use Rattle.table.specs.declared.Region.{Region}
use Rattle.table.specs.Bytes.{num, pick}
use Rattle.table.specs.Layout.{Layout, Entry, env, unused, used}
use Rattle.table.specs.FixedLayouts.{header, host, list_kinds}
use Rattle.table.specs.Objects.{count_in, read_body, read_list, used_in}
use Rattle.table.specs.Rules.{Test, answer, body_rule, done, entry_rule, first, first_fail, list_rule, refs_rule, used_rule}
use Rattle.table.specs.Meaning.{meaning}
use Rattle.table.specs.Numbers.{check, driver_rule, host_rule, heap_in, records, tests}
use Rattle.laws.specs.Fields.{Bytes}
use Rattle.laws.specs.Sound.{length-read_list}

abbrev pub Placed : Answer → Type 0
Placed r = r.position < 256

pub one_of : (c : Bool) (x y : Answer) → Placed x → Placed y → Placed (pick c x y)
one_of true x y p q = p
one_of false x y p q = q

both : (x y : Answer) → Placed x → Placed y → Placed (first x y)
both x y p q = one_of (eqb x.number 0) y x q p

-- the tests name no position: one computed test
abbrev at_top : List Test → Bool
at_top [] = true
at_top (x ∷ xs) = eqb x.gives.position 0 && at_top xs

tests-placed : (ts : List Test) → T (at_top ts) → Placed (first_fail ts)
tests-placed [] h = lit< tt
tests-placed (x ∷ xs) h =
    let u = and_yes (eqb x.gives.position 0) (at_top xs) h in
    let z = eqb→eq x.gives.position 0 u.0 in
    one_of x.holds (first_fail xs) x.gives (tests-placed xs u.1) (omega arith)

numbered-placed : (n k : ℕ) → Placed (pick (eqb n 0) done (answer n k 0))
numbered-placed n k = one_of (eqb n 0) done (answer n k 0) (lit< tt) (lit< tt)

driver-placed : (t : List ℕ) (count : ℕ → ℕ) → Placed (driver_rule t count)
unfolding driver_rule
driver-placed t count = numbered-placed (refs_rule (heap_in t) (env count 0) t 0 [] header.refs) 0

host-placed : (t : List ℕ) (named : ℕ → ℕ → Bool) (count : ℕ → ℕ) (x : Entry host) → Placed (host_rule t named count x)
unfolding host_rule
host-placed t named count unused = lit< tt
host-placed t named count (used img ss) = numbered-placed (used_rule host named (heap_in t) (env count 0) t (num t 72 4) img ss) 2

list-placed : (l : Layout) (named : ℕ → ℕ → Bool) (count : ℕ → ℕ) (heap : Region) (t : List ℕ) (step pos a : ℕ) (es : List (Entry l)) → pos + length es ≤ 256
    → Placed (list_rule l named count heap pos t a step es)
unfolding list_rule
list-placed l named count heap t step pos a [] h = lit< tt
list-placed l named count heap t step pos a (x ∷ xs) h =
    one_of (eqb (entry_rule l named heap (env count pos) t a x) 0) _ (answer (entry_rule l named heap (env count pos) t a x) l.kind pos)
    (list-placed l named count heap t step (suc pos) (a + step) xs (omega arith)) (omega arith)

body-placed : (ls : List Layout) (named : ℕ → ℕ → Bool) (count : ℕ → ℕ) (heap : Region) (t : List ℕ) (c : ℕ) → Bytes t → Placed (body_rule named count heap t c (read_body ls t c))
unfolding body_rule read_body
body-placed [] named count heap t c b = lit< tt
body-placed (l ∷ ls) named count heap t c b =
    let es = read_list l t (num t c 4) (num t (c + 4) 2) (get_or t (c + 7) 0) in
    both (list_rule l named count heap 1 t (num t c 4) (num t (c + 4) 2) es) (body_rule named count heap t (c + 8) (read_body ls t (c + 8)))
    (list-placed l named count heap t (num t (c + 4) 2) 1 (num t c 4) es (omega (arith, length-read_list t l (get_or t (c + 7) 0) (num t c 4) (num t (c + 4) 2), b (c + 7))))
    (body-placed ls named count heap t (c + 8) b)

pub check-placed : (t : List ℕ) → Bytes t → (check t).position < 256
unfolding check records tests meaning
check-placed t b =
    let m = meaning t in
    let named : ℕ → ℕ → Bool = used_in m.lists in
    let count : ℕ → ℕ = count_in m.lists in
    let body = body_rule named count (heap_in t) t 80 m.lists in
    let owner = host_rule t named count m.owner in
    both (first_fail (tests t)) (first (driver_rule t count) (first owner body)) (tests-placed (tests t) tt)
    (both (driver_rule t count) (first owner body) (driver-placed t count)
    (both owner body (host-placed t named count m.owner) (body-placed list_kinds named count (heap_in t) t 80 b)))
