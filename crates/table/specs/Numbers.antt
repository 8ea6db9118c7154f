-- Rules 4 (docs/RULES.md), 0 to 13, 18 and 20: the tests 1 to 9 in order, then driver signature, host and records by position; the first fault answers. Definitions only.
use Rattle.std.specs.Prelude.{Bool, not, ◌&&◌, List, [], ◌∷◌, ℕ, ◌+◌, ◌%◌, length, get_or, take, leb, eqb}
use Rattle.table.specs.declared.Answer.{Answer}
use Rattle.table.specs.declared.Region.{Region}
use Rattle.table.specs.Bytes.{pick, num, odd, total}
use Rattle.table.specs.Layout.{region, reference_at, env, base_of, Entry, unused, used}
use Rattle.table.specs.FixedLayouts.{header, host, list_kinds}
use Rattle.table.specs.Objects.{used_in, count_in}
use Rattle.table.specs.Rules.{answer, done, first, Test, test, first_fail, inside, apart_each, cons_if, list_regions, long_enough, versioned, refs_rule, used_rule, body_rule}
use Rattle.table.specs.Meaning.{limit, Meaning, meaning}

unfoldable pub heap_in : List ℕ → Region
heap_in t = region (num t 36 4) (num t 40 4)

-- the host, the nonempty lists, and the heap when its length is not zero
unfoldable pub regions : List ℕ → List Region
regions t = reference_at t 72 ∷ list_regions list_kinds t 80 (cons_if (not (eqb (num t 40 4) 0)) (region (num t 36 4) (num t 40 4)) [])

unfoldable pub tests : List ℕ → List Test
tests t =
    let size = num t 4 4 in
    let csl = num t 68 2 in
    test (leb 160 (length t)) 1 0 0
    ∷ test (eqb (num t 0 4) 0x5446424E) 2 0 0
    ∷ test (leb 160 size && leb size (length t)) 3 0 0
    ∷ test (leb size limit) 4 0 0
    ∷ test (eqb (total (take size t) % 256) 0) 5 0 0
    ∷ test (eqb (get_or t 8 0) 1) 6 0 0
    ∷ test (eqb (get_or t 64 0) 1 && (eqb (get_or t 65 0) 1 && (leb 64 csl && (leb (64 + csl) size && odd (get_or t 70 0))))) 7 1 0
    ∷ test (leb (base_of host) (reference_at t 72).len && (long_enough list_kinds t 80 && (inside (64 + csl) size (regions t) && apart_each (regions t)))) 8 1 0
    ∷ test (eqb (get_or t 78 0) 1 && versioned list_kinds t 80) 9 1 0
    ∷ []

unfoldable pub driver_rule : List ℕ → (ℕ → ℕ) → Answer
driver_rule t count =
    let n = refs_rule (heap_in t) (env count 0) t 0 [] header.refs in
    pick (eqb n 0) done (answer n 0 0)

unfoldable pub host_rule : List ℕ → (ℕ → ℕ → Bool) → (ℕ → ℕ) → Entry host → Answer
host_rule t named count unused = answer 10 2 0
host_rule t named count (used img ss) =
    let n = used_rule host named (heap_in t) (env count 0) t (reference_at t 72).at img ss in
    pick (eqb n 0) done (answer n 2 0)

unfoldable pub records : List ℕ → Meaning → Answer
records t m =
    let named = used_in m.lists in
    let count = count_in m.lists in
    first (driver_rule t count) (first (host_rule t named count m.owner) (body_rule named count (heap_in t) t 80 m.lists))

unfoldable pub check : List ℕ → Answer
check t = first (first_fail (tests t)) (records t (meaning t))
