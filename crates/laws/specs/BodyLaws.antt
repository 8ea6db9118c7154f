-- The lists of a table that are laid out stand there, and their regions are in order. Assumes nothing.
use Rattle.std.specs.Prelude.{◌≡◌, refl, Bool, true, false, not, ◌&&◌, ◌||◌, List, [], ◌∷◌, ◌++◌, ℕ, ◌+◌, ◌*◌, ◌^◌, ◌≤◌, ◌<◌, length, get_or, T, leb, eqb}
use Rattle.std.proofs.Common.{ap₂, ◌∙◌, subst, arith, length-append, lit<}
use Rattle.std.proofs.Math.Facts.{and_yes, yes_and, yes_leb, no_eqb}
use Rattle.table.specs.declared.Region.{Region}
use Rattle.table.specs.Bytes.{le, num}
use Rattle.table.specs.Layout.{Body, Entry, Layout, base_of, more, region, stop}
use Rattle.table.specs.Objects.{entry8, heap_body, heap_list, places_body, recs_body, recs_list, size_body, size_list, span_body}
use Rattle.table.specs.Rules.{apart, apart_all, apart_each, cons_if, inside, list_regions, long_enough, versioned}
use Rattle.laws.specs.Lawful.{FitBody, FitList, all_ok, ok_layout}
use Rattle.laws.specs.ByteLaws.{Holds, holds-get_d, holds-left, holds-num, holds-right}
use Rattle.laws.specs.ListLaws.{OkLayout, length-heap_list, length-recs_list, ok-layout}
use Rattle.laws.specs.Standing.{BodyAt, ListAt}
use Rattle.laws.specs.Laid.{Inside, laid-list}

-- ---- a list's entry in the control record

pub record Place (t : List ℕ) (c x y n : ℕ) : Type 0 where
  pub off : num t c 4 ≡ x
  pub step : num t (c + 4) 2 ≡ y
  pub version : get_or t (c + 6) 0 ≡ 1
  pub count : get_or t (c + 7) 0 ≡ n

pub place : (t : List ℕ) (c x y n : ℕ) → x < 256 ^ 4 → y < 65536 → Holds t c (le 4 x ++ (le 2 y ++ (1 ∷ n ∷ []))) → Place t c x y n
place t c x y n k l h = record {
  off = holds-num t c 4 x k (holds-left t c (le 4 x) (le 2 y ++ (1 ∷ n ∷ [])) h);
  step = holds-num t (c + 4) 2 y l (holds-left t (c + 4) (le 2 y) (1 ∷ n ∷ []) (holds-right t c (le 4 x) (le 2 y ++ (1 ∷ n ∷ [])) h));
  version = holds-get_d t c (le 4 x ++ (le 2 y ++ (1 ∷ n ∷ []))) h 6 (lit< tt);
  count = holds-get_d t c (le 4 x ++ (le 2 y ++ (1 ∷ n ∷ []))) h 7 (lit< tt);
}

-- an empty list has neither place nor record length
abbrev pub off_of : {l : Layout} → ℕ → List (Entry l) → ℕ
off_of a [] = 0
off_of a (e ∷ es) = a

abbrev pub step_of : {l : Layout} → List (Entry l) → ℕ
step_of {l} [] = 0
step_of {l} (e ∷ es) = base_of l

place-list : {l : Layout} (t : List ℕ) (c a : ℕ) (es : List (Entry l)) → a < 256 ^ 4 → base_of l < 65536 → Holds t c (entry8 a es) → Place t c (off_of a es) (step_of es) (length es)
place-list t c a [] k o h = place t c 0 0 0 (lit< tt) (lit< tt) h
place-list {l} t c a (e ∷ es) k o h = place t c a (base_of l) (length (e ∷ es)) k o h

length-entry8 : {l : Layout} (a : ℕ) (es : List (Entry l)) → length (entry8 a es) ≡ 8
length-entry8 a [] = refl
length-entry8 a (e ∷ es) = refl

-- ---- taking a body apart

pub length-recs_body : {ls : List Layout} (count : ℕ → ℕ) (h : ℕ) (b : Body ls) → T (all_ok ls) → FitBody count b → length (recs_body h b) ≡ span_body b
unfolding recs_body span_body
length-recs_body count h stop t f = refl
length-recs_body count h (more {l = l} {ls = ls} es rest) t f =
    let u = and_yes (ok_layout l) (all_ok ls) t in
    length-append (recs_list h es) (recs_body (h + size_list es) rest)
    ∙ ap₂ ◌+◌ (length-recs_list l (ok-layout l u.0) count h 1 es f.0) (length-recs_body count (h + size_list es) rest u.1 f.2)

pub length-heap_body : {ls : List Layout} (count : ℕ → ℕ) (h : ℕ) (b : Body ls) → T (all_ok ls) → FitBody count b → length (heap_body h b) ≡ size_body b
unfolding heap_body size_body
length-heap_body count h stop t f = refl
length-heap_body count h (more {l = l} {ls = ls} es rest) t f =
    let u = and_yes (ok_layout l) (all_ok ls) t in
    length-append (heap_list h es) (heap_body (h + size_list es) rest)
    ∙ ap₂ ◌+◌ (length-heap_list l (ok-layout l u.0) count h 1 es f.0) (length-heap_body count (h + size_list es) rest u.1 f.2)

pub length-places_body : {ls : List Layout} (a : ℕ) (b : Body ls) → length (places_body a b) ≡ 8 * length ls
unfolding places_body
length-places_body a stop = refl
length-places_body a (more {l = l} {ls = ls} es rest) =
    length-append (entry8 a es) (places_body (a + length es * base_of l) rest)
    ∙ ap₂ ◌+◌ (length-entry8 a es) (length-places_body (a + length es * base_of l) rest)
    ∙ omega arith

-- where the lists stand in a table
pub record Laid {ls : List Layout} (t : List ℕ) (c a h : ℕ) (b : Body ls) : Type 0 where
  pub small : a + span_body b < 256 ^ 4
  pub small_heap : h + size_body b < 256 ^ 4
  pub places : Holds t c (places_body a b)
  pub recs : Holds t a (recs_body h b)
  pub heap : Holds t h (heap_body h b)

pub record LaidList {l : Layout} (t : List ℕ) (c a h : ℕ) (es : List (Entry l)) : Type 0 where
  pub at : Place t c (off_of a es) (step_of es) (length es)
  pub small_heap : h + size_list es < 256 ^ 4
  pub recs : Holds t a (recs_list h es)
  pub heap : Holds t h (heap_list h es)

laid_one : {l : Layout} {ls : List Layout} (t : List ℕ) (c a h : ℕ) (es : List (Entry l)) (rest : Body ls) → T (all_ok (l ∷ ls)) → Laid t c a h (more es rest) → LaidList t c a h es
unfolding places_body recs_body heap_body span_body size_body
laid_one {l} {ls} t c a h es rest k d =
    let o = ok-layout l (and_yes (ok_layout l) (all_ok ls) k).0 in
    let s₁ = d.small in
    let s₂ = d.small_heap in
    record {
      at = place-list t c a es (omega arith) o.short (holds-left t c (entry8 a es) (places_body (a + length es * base_of l) rest) d.places);
      small_heap = omega arith;
      recs = holds-left t a (recs_list h es) (recs_body (h + size_list es) rest) d.recs;
      heap = holds-left t h (heap_list h es) (heap_body (h + size_list es) rest) d.heap;
    }

laid-rest : {l : Layout} {ls : List Layout} (count : ℕ → ℕ) (t : List ℕ) (c a h : ℕ) (es : List (Entry l)) (rest : Body ls) → T (all_ok (l ∷ ls)) → FitList count 1 es
    → Laid t c a h (more es rest) → Laid t (c + 8) (a + length es * base_of l) (h + size_list es) rest
unfolding places_body recs_body heap_body span_body size_body
laid-rest {l} {ls} count t c a h es rest k f d =
    let o = ok-layout l (and_yes (ok_layout l) (all_ok ls) k).0 in
    let s₁ = d.small in
    let s₂ = d.small_heap in
    record {
      small = omega arith;
      small_heap = omega arith;
      places = rw (length-entry8 a es) at (holds-right t c (entry8 a es) (places_body (a + length es * base_of l) rest) d.places);
      recs = rw (length-recs_list l o count h 1 es f) at (holds-right t a (recs_list h es) (recs_body (h + size_list es) rest) d.recs);
      heap = rw (length-heap_list l o count h 1 es f) at (holds-right t h (heap_list h es) (heap_body (h + size_list es) rest) d.heap);
    }

-- ---- the lists stand

list_at : {l : Layout} (count : ℕ → ℕ) (t : List ℕ) (hp : Region) (c a h : ℕ) (es : List (Entry l)) → OkLayout l → FitList count 1 es → Inside hp h (size_list es) → LaidList t c a h es
    → ListAt t hp (num t c 4) (num t (c + 4) 2) es
list_at {l} count t hp c a h [] o f i d = tt
list_at {l} count t hp c a h (e ∷ es) o f i d = rw (d.at.off, d.at.step) (laid-list l o t hp count a h 1 (e ∷ es) f i d.recs d.heap)

pub laid-body : {ls : List Layout} (count : ℕ → ℕ) (t : List ℕ) (hp : Region) (c a h : ℕ) (b : Body ls) → T (all_ok ls) → FitBody count b → Inside hp h (size_body b) → Laid t c a h b → BodyAt t hp c b
unfolding size_body
laid-body count t hp c a h stop k f i d = tt
laid-body count t hp c a h (more {l = l} {ls = ls} es rest) k f i d =
    let u = and_yes (ok_layout l) (all_ok ls) k in
    let x = laid_one t c a h es rest k d in (
      x.at.count,
      list_at count t hp c a h es (ok-layout l u.0) f.0 (omega arith) x,
      laid-body count t hp (c + 8) (a + length es * base_of l) (h + size_list es) rest u.1 f.2 (omega arith) (laid-rest count t c a h es rest k f.0 d),
    )

-- ---- regions

-- regions one after the other, from lo to hi
abbrev pub Chain : ℕ → ℕ → List Region → Type 0
Chain lo hi [] = lo ≤ hi
Chain lo hi (r ∷ rs) = (lo ≤ r.at) × Chain (r.at + r.len) hi rs

chain-end : (lo hi : ℕ) (rs : List Region) → Chain lo hi rs → lo ≤ hi
chain-end lo hi [] k = k
chain-end lo hi (r ∷ rs) k = omega (arith, chain-end (r.at + r.len) hi rs k.1)

pub chain-inside : (from lo hi : ℕ) (rs : List Region) → from ≤ lo → Chain lo hi rs → T (inside from hi rs)
chain-inside from lo hi [] l k = tt
chain-inside from lo hi (r ∷ rs) l k =
    yes_and (leb from r.at && leb (r.at + r.len) hi) _
    (yes_and (leb from r.at) _ (yes_leb {a = from} {b = r.at} (omega arith)) (yes_leb (chain-end (r.at + r.len) hi rs k.1)))
    (chain-inside from (r.at + r.len) hi rs (omega arith) k.1)

or_left : (x y : Bool) → T x → T (x || y)
or_left true y t = tt
or_left false y t = absurd t

chain-after : (x : Region) (lo hi : ℕ) (rs : List Region) → x.at + x.len ≤ lo → Chain lo hi rs → T (apart_all x rs)
chain-after x lo hi [] l k = tt
chain-after x lo hi (r ∷ rs) l k =
    yes_and (apart x r) _ (or_left (leb (x.at + x.len) r.at) _ (yes_leb {a = x.at + x.len} {b = r.at} (omega arith)))
    (chain-after x (r.at + r.len) hi rs (omega arith) k.1)

pub chain-apart : (lo hi : ℕ) (rs : List Region) → Chain lo hi rs → T (apart_each rs)
chain-apart lo hi [] k = tt
chain-apart lo hi (r ∷ rs) k =
    yes_and (apart_all r rs) _ (chain-after r (r.at + r.len) hi rs (omega arith) k.1) (chain-apart (r.at + r.len) hi rs k.1)

chain-cons : (lo hi : ℕ) (c : Bool) (x : Region) (rs : List Region) → T c → lo ≤ x.at → Chain (x.at + x.len) hi rs → Chain lo hi (cons_if c x rs)
chain-cons lo hi true x rs t l k = (l, k)
chain-cons lo hi false x rs t l k = absurd t

laid-chain : {l : Layout} (t : List ℕ) (c a h hi : ℕ) (es : List (Entry l)) (rs : List Region) → LaidList t c a h es → Chain (a + length es * base_of l) hi rs
    → Chain a hi (cons_if (not (eqb (get_or t (c + 7) 0) 0)) (region (num t c 4) (get_or t (c + 7) 0 * num t (c + 4) 2)) rs)
laid-chain {l} t c a h hi [] rs d k = rw d.at.count (subst (λ (n : ℕ). Chain n hi rs) (omega arith) k)
laid-chain {l} t c a h hi (e ∷ es) rs d k =
    rw (d.at.count, d.at.off, d.at.step)
    (chain-cons a hi (not (eqb (length (e ∷ es)) 0)) (region a (length (e ∷ es) * base_of l)) rs (no_eqb {a = length (e ∷ es)} {b = 0} (omega arith)) (omega arith) k)

pub body-chain : {ls : List Layout} (count : ℕ → ℕ) (t : List ℕ) (c a h hi : ℕ) (b : Body ls) (rs : List Region) → T (all_ok ls) → FitBody count b → Laid t c a h b
    → Chain (a + span_body b) hi rs → Chain a hi (list_regions ls t c rs)
unfolding list_regions span_body
body-chain count t c a h hi stop rs k f d w = subst (λ (n : ℕ). Chain n hi rs) (omega arith) w
body-chain count t c a h hi (more {l = l} {ls = ls} es rest) rs k f d w =
    let u = and_yes (ok_layout l) (all_ok ls) k in
    laid-chain t c a h hi es (list_regions ls t (c + 8) rs) (laid_one t c a h es rest k d)
    (body-chain count t (c + 8) (a + length es * base_of l) (h + size_list es) hi rest rs u.1 f.2 (laid-rest count t c a h es rest k f.0 d)
    (subst (λ (n : ℕ). Chain n hi rs) (omega arith) w))

long-one : {l : Layout} (t : List ℕ) (c a h : ℕ) (es : List (Entry l)) → LaidList t c a h es → T (eqb (get_or t (c + 7) 0) 0 || leb (base_of l) (num t (c + 4) 2))
long-one {l} t c a h [] d = rw d.at.count tt
long-one {l} t c a h (e ∷ es) d = or_right (eqb (get_or t (c + 7) 0) 0) _ (rw d.at.step (yes_leb {a = base_of l} {b = base_of l} (omega arith)))
  where
    or_right : (x y : Bool) → T y → T (x || y)
    or_right true y t = tt
    or_right false y t = t

version-one : (x : Bool) (n : ℕ) → n ≡ 1 → T (x || eqb n 1)
version-one true n e = tt
version-one false n e = rw e tt

pub body-long : {ls : List Layout} (count : ℕ → ℕ) (t : List ℕ) (c a h : ℕ) (b : Body ls) → T (all_ok ls) → FitBody count b → Laid t c a h b → T (long_enough ls t c) × T (versioned ls t c)
unfolding long_enough versioned
body-long count t c a h stop k f d = (tt, tt)
body-long count t c a h (more {l = l} {ls = ls} es rest) k f d =
    let u = and_yes (ok_layout l) (all_ok ls) k in
    let x = laid_one t c a h es rest k d in
    let r = body-long count t (c + 8) (a + length es * base_of l) (h + size_list es) rest u.1 f.2 (laid-rest count t c a h es rest k f.0 d) in (
      yes_and (eqb (get_or t (c + 7) 0) 0 || leb (base_of l) (num t (c + 4) 2)) _ (long-one t c a h es x) r.0,
      yes_and (eqb (get_or t (c + 7) 0) 0 || eqb (get_or t (c + 6) 0) 1) _ (version-one (eqb (get_or t (c + 7) 0) 0) (get_or t (c + 6) 0) x.at.version) r.1,
    )
