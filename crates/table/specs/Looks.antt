-- Rules 14 (docs/RULES.md), looks at records: one for each record visited, heap records apart, one for each index resolved, up to the answer. Definitions only.
use Rattle.std.specs.Prelude.{Bool, ◌&&◌, List, [], ◌∷◌, ℕ, suc, ◌+◌, ◌*◌, get_or, eqb}
use Rattle.table.specs.declared.Region.{Region}
use Rattle.table.specs.Bytes.{pick, num}
use Rattle.table.specs.Layout.{reference_at, Env, env, is_right, Slots, Index, Layout, Entry, unused, used, Body, stop, more}
use Rattle.table.specs.FixedLayouts.{host}
use Rattle.table.specs.Objects.{used_in, count_in}
use Rattle.table.specs.Rules.{first_fail, refs_rule, entry_rule, list_rule}
use Rattle.table.specs.Meaning.{Meaning, meaning}
use Rattle.table.specs.Numbers.{heap_in, tests, driver_rule, host_rule}

-- the looks behind a test that answers n: there are none unless n is 0
abbrev pub behind : ℕ → ℕ → ℕ
behind n rest = pick (eqb n 0) rest 0

-- with those of the test
abbrev pub up_to : ℕ → ℕ → ℕ → ℕ
up_to own n rest = own + behind n rest

-- the indexes up to the first that names no used position, that one too
abbrev pub resolved : (ℕ → ℕ → Bool) → List Index → ℕ
resolved named [] = 0
resolved named (x ∷ xs) = let rest = resolved named xs in 1 + pick (named x.kind x.position) rest 0

-- a used record: itself, and behind its fields and references its indexes
unfoldable pub looks_used : (l : Layout) → (ℕ → ℕ → Bool) → Region → Env → List ℕ → ℕ → List ℕ → Slots l.refs → ℕ
looks_used l named heap e t a img ss =
    1 + pick (is_right l.shape e img && eqb (refs_rule heap e t a img l.refs) 0) (resolved named (l.indexes img ss)) 0

unfoldable pub looks_entry : (l : Layout) → (ℕ → ℕ → Bool) → Region → Env → List ℕ → ℕ → Entry l → ℕ
looks_entry l named heap e t a unused = 1
looks_entry l named heap e t a (used img ss) = looks_used l named heap e t a img ss

unfoldable pub looks_list : (l : Layout) → (ℕ → ℕ → Bool) → (ℕ → ℕ) → Region → ℕ → List ℕ → ℕ → ℕ → List (Entry l) → ℕ
looks_list l named count heap pos t a step [] = 0
looks_list l named count heap pos t a step (x ∷ xs) =
    let rest = looks_list l named count heap (suc pos) t (a + step) step xs in
    up_to (looks_entry l named heap (env count pos) t a x) (entry_rule l named heap (env count pos) t a x) rest

unfoldable pub looks_body : {ls : List Layout} → (ℕ → ℕ → Bool) → (ℕ → ℕ) → Region → List ℕ → ℕ → Body ls → ℕ
looks_body named count heap t c stop = 0
looks_body named count heap t c (more {l = l} es rest) =
    let after = looks_body named count heap t (c + 8) rest in
    up_to (looks_list l named count heap 1 t (num t c 4) (num t (c + 4) 2) es) (list_rule l named count heap 1 t (num t c 4) (num t (c + 4) 2) es).number after

-- host and lists, behind the driver signature, which is no record
unfoldable pub looks_records : List ℕ → Meaning → ℕ
looks_records t m =
    let named = used_in m.lists in
    let count = count_in m.lists in
    let lists = looks_body named count (heap_in t) t 80 m.lists in
    let owner = looks_entry host named (heap_in t) (env count 0) t (reference_at t 72).at m.owner in
    behind (driver_rule t count).number (up_to owner (host_rule t named count m.owner).number lists)

-- as many as the counts of the four lists allow, which is shown to hold on any bytes (`looks-bound` in the crate laws)
abbrev pub most_looks : List ℕ → ℕ
most_looks t =
    let hfis = get_or t 87 0 in
    1 + hfis + get_or t 95 0 * (4 + hfis) + get_or t 103 0 + 3 * get_or t 111 0

-- none where one of tests 1 to 9 answers
unfoldable pub looks : List ℕ → ℕ
looks t = behind (first_fail (tests t)).number (looks_records t (meaning t))
