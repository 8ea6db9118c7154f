-- The meaning of a table stands in the closed table, if its sites are fenced off from each other. Assumes nothing.
use Rattle.std.specs.Prelude.{◌≡◌, ◌⊎◌, length, drop, T}
use Rattle.std.proofs.Math.Path.{refl, ap}
use Rattle.std.proofs.Common.{sym, ap₂, ◌∙◌, add-zero, length-drop, ext_get_or, get_or-drop, get_or-take, length-take-le}
use Rattle.std.proofs.Math.Logic.{inl, inr}
use Rattle.std.proofs.Math.Bool.{false}
use mathlib.Core.List.{List, [], ◌∷◌, ◌++◌}
use Prim.Native.Nat.{ℕ, zero, suc, ◌+◌, ◌-◌, ◌*◌, ◌^◌, ◌≤◌, ◌<◌}
use native.Mathlib.Omega.{arith}
use Rattle.std.proofs.Math.ListN.{get_or}
use Rattle.table.specs.Bytes.{num, part}
use Rattle.table.specs.Layout.{Body, Entry, Env, Layout, base_of, env, image, is_valid, more, stop, unused, used}
use Rattle.table.specs.FixedLayouts.{header, host, list_kinds}
use Rattle.table.specs.Objects.{count_in}
use Rattle.table.specs.Meaning.{Meaning}
use Rattle.table.specs.Numbers.{heap_in}
use Rattle.laws.specs.Lawful.{FitBody, FitEntry, FitList, Shaped, all_ok, ok_layout}
use Rattle.laws.specs.ByteLaws.{holds-get_d, holds-num, num-suc, pick_yes}
use Rattle.laws.specs.ListLaws.{OkLayout, ok-layout}
use Rattle.laws.specs.FormLaws.{ok_header, ok-host, ok-lists}
use Rattle.laws.specs.Standing.{BodyAt, EntryAt, ListAt, Stands}
use Rattle.std.proofs.Math.Facts.{and_yes}
use Rattle.table.specs.Closing.{Site, closed, goes, sites, sites_body, sites_entry, sites_list, sites_of, slid, stored, marks, ones}
use Rattle.closing_laws.specs.Members.{In, Sub, in_left, in_right}
use Rattle.closing_laws.specs.SlidLaws.{ones-more, ones-upto}
use Rattle.closing_laws.specs.MoveLaws.{Carried, Moves, move_at}
use Rattle.closing_laws.specs.ClosedBytes.{Roomy, closed-length, closed-outside, holds-bytes, length-closed}
use Rattle.closing_laws.specs.Carrying.{Aligned, Sound, is_carried, is-looked, site-byte, site-slides, stays}

-- two lists with the same bytes somewhere have the same number there
pub num-same : (t u : List ℕ) (a n : ℕ) → ((j : ℕ) → j < n → get_or u (a + j) 0 ≡ get_or t (a + j) 0) → num u a n ≡ num t a n
num-same t u a zero f = refl
num-same t u a (suc n) f =
    num-suc u a n
    ∙ ap₂ (λ (x y : ℕ). x + 256 * y) (ap (λ (x : ℕ). get_or u x 0) (sym (add-zero a)) ∙ f 0 (omega arith) ∙ ap (λ (x : ℕ). get_or t x 0) (add-zero a))
    (num-same t u (a + 1) n (λ j h. ap (λ (x : ℕ). get_or u x 0) (omega arith) ∙ f (suc j) (omega arith) ∙ ap (λ (x : ℕ). get_or t x 0) (omega arith)))
    ∙ sym (num-suc t a n)

-- a record outside the heap: where it is, and that no site stands in it but its own references
pub record Outside (t : List ℕ) (l : Layout) (a : ℕ) : Type 0 where
  pub high : 128 ≤ a
  pub room : a + base_of l ≤ length t
  pub apart : (a + base_of l ≤ (heap_in t).at) ⊎ ((heap_in t).at + (heap_in t).len ≤ a)
  pub own : (s : Site) → In s (sites t) → Aligned a (base_of l) l.refs s

abbrev pub OutsideList : List ℕ → Layout → ℕ → ℕ → ℕ → Type 0
OutsideList t l a step zero = Unit {0}
OutsideList t l a step (suc n) = Outside t l a × OutsideList t l (a + step) step n

abbrev pub OutsideBody : List ℕ → List Layout → ℕ → Type 0
OutsideBody t [] c = Unit {0}
OutsideBody t (l ∷ ls) c = OutsideList t l (num t c 4) (num t (c + 4) 2) (get_or t (c + 7) 0) × OutsideBody t ls (c + 8)

pub record Fenced (t : List ℕ) : Type 0 where
  pub roomy : Roomy t
  pub behind : 128 ≤ (heap_in t).at
  pub small : (heap_in t).len < 256 ^ 4
  pub sound : (s : Site) → In s (sites t) → Sound t s
  pub head : (s : Site) → In s (sites t) → (s.at ≡ 44) ⊎ (128 ≤ s.at)
  pub inside : (x : Site) → In x (sites t) → (s : Site) → In s (sites t) → Aligned x.off x.len x.own s
  pub owner : Outside t host (num t 72 4)
  pub lists : OutsideBody t list_kinds 80

module _ (t : List ℕ) (g : Fenced t) where
  -- ---- the head

  pub front : (i : ℕ) → (i < 9) ⊎ (10 ≤ i) → (i < 40) ⊎ (48 ≤ i) → i < 128 → get_or (closed t) i 0 ≡ get_or t i 0
  front i a b c =
      let w = g.behind in
      closed-outside t g.roomy i a (go b) (inl (omega arith)) ∙ stays t g.roomy g.sound i (λ s m. away s b (g.head s m))
    where
      go : (i < 40) ⊎ (48 ≤ i) → (i < 40) ⊎ (44 ≤ i)
      go (inl h) = inl h
      go (inr h) = inr (omega arith)

      away : (s : Site) → (i < 40) ⊎ (48 ≤ i) → (s.at ≡ 44) ⊎ (128 ≤ s.at) → (i < s.at) ⊎ (s.at + 4 ≤ i)
      away s (inl h) (inl e) = inl (omega arith)
      away s (inr h) (inl e) = inr (omega arith)
      away s h (inr e) = inl (omega arith)

  pub heap-at : (heap_in (closed t)).at ≡ (heap_in t).at
  unfolding heap_in
  heap-at = num-same t (closed t) 36 4 (λ j h. front (36 + j) (inr (omega arith)) (inl (omega arith)) (omega arith))

  pub slid-small : slid t (heap_in t).len ≤ (heap_in t).len
  unfolding slid
  slid-small = ones-upto (marks t) (heap_in t).len

  pub num-len : num (closed t) 40 4 ≡ slid t (heap_in t).len
  num-len = let h = g.small in holds-num (closed t) 40 4 (slid t (heap_in t).len) (omega (arith, slid-small)) (closed-length t g.roomy)

  len_is : (x : List ℕ) → (heap_in x).len ≡ num x 40 4
  unfolding heap_in
  len_is x = refl

  pub heap_len_lem : (heap_in (closed t)).len ≡ slid t (heap_in t).len
  heap_len_lem = len_is (closed t) ∙ num-len

  -- ---- the sites

  ends : (s : Site) → In s (sites t) → slid t (s.off - (heap_in t).at) + s.len ≤ slid t (heap_in t).len
  unfolding slid
  ends s i =
      let x = g.sound s i in
      let f = x.from in
      let h = x.upto in
      let o : ℕ = s.off - (heap_in t).at in
      let e : ones (marks t) (o + s.len) ≡ ones (marks t) o + s.len = site-slides t g.roomy g.sound s i s.len (omega arith) in
      let k : ones (marks t) (o + s.len) ≤ ones (marks t) (o + s.len + ((heap_in t).len - (o + s.len))) = ones-more (marks t) (o + s.len) ((heap_in t).len - (o + s.len)) in
      let c : o + s.len + ((heap_in t).len - (o + s.len)) ≡ (heap_in t).len = omega arith in
      omega (arith, rw c at k)

  low-slid : (n : ℕ) → slid t n ≤ n
  unfolding slid
  low-slid n = ones-upto (marks t) n

  fits : (s : Site) → In s (sites t) → goes t s.off + s.len ≤ length t
  unfolding goes
  fits s i = omega (arith, ends s i, slid-small, g.roomy.fits)

  pub moves : (s : Site) → In s (sites t) → Moves t (closed t) (heap_in t) (heap_in (closed t)) (sites t) s
  unfolding goes
  moves s i =
      let x = g.sound s i in
      let f = x.from in
      let w = g.behind in
      record {
        small = omega (arith, x.small, low-slid (s.off - (heap_in t).at));
        positive = omega arith;
        from = omega (arith, heap-at);
        upto = omega (arith, heap-at, heap_len_lem, ends s i);
        object = λ e b n h. holds-bytes (closed t) (goes t s.off) b
            (omega (arith, length-closed t g.roomy, fits s i)) (λ j k. site-byte t g.roomy g.sound s i j
            (omega arith) ∙ stays t g.roomy g.sound (s.off + j)
            (λ y m. clear e j (omega arith) y (g.inside s i y m)) ∙ holds-get_d t s.off b h j k);
        inner = λ e shape on l. is_carried t g.roomy g.sound 0 s.off (goes t s.off) s.len shape.keep
            s.own on.refs l (fits s i) (λ j z k. site-byte t g.roomy g.sound s i j k) (g.inside s i);
        looks = λ e shape on l. is-looked t g.roomy g.sound 0 s.off (goes t s.off) s.len shape.keep
            s.own on.refs l (fits s i) (λ j z k. site-byte t g.roomy g.sound s i j k) (g.inside s i) refl
            on.keeps;
      }
    where
      clear : s.whole ≡ false → (j : ℕ) → j < s.len → (y : Site) → Aligned s.off s.len s.own y → (s.off + j < y.at) ⊎ (y.at + 4 ≤ s.off + j)
      clear e j k y (inl h) = inr (omega arith)
      clear e j k y (inr (inl h)) = inl (omega arith)
      clear e j k y (inr (inr h)) = absurd (rw ((g.sound s i).bare e) at h.1)

  -- ---- records outside the heap

  module _ (l : Layout) (o : OkLayout l) (a : ℕ) (out : Outside t l a) where
    out-bytes : (j : ℕ) → 0 ≤ j → j < base_of l → get_or (closed t) (a + j) 0 ≡ get_or (stored t) (a + j) 0
    out-bytes j z h = closed-outside t g.roomy (a + j) (inr (omega (arith, out.high))) (inr (omega (arith, out.high))) (go out.apart)
      where
        go : (a + base_of l ≤ (heap_in t).at) ⊎ ((heap_in t).at + (heap_in t).len ≤ a) → (a + j < (heap_in t).at) ⊎ ((heap_in t).at + (heap_in t).len ≤ a + j)
        go (inl e) = inl (omega arith)
        go (inr e) = inr (omega arith)

    pub same-image : image l.shape.keep (drop a (closed t)) ≡ image l.shape.keep (drop a t)
    same-image = is-looked t g.roomy g.sound 0 a a (base_of l) l.shape.keep l.refs o.refs_ok (omega arith) out.room out-bytes out.own refl o.keeps

    pub same-refs : Carried t (closed t) (heap_in t) (heap_in (closed t)) (sites t) a a l.refs
    same-refs = is_carried t g.roomy g.sound 0 a a (base_of l) l.shape.keep l.refs o.refs_ok (omega arith) out.room out-bytes out.own

    pub move-entry : (v : Env) (e : Entry l) → FitEntry v e → Sub (sites_entry l t a) (sites t) → EntryAt t (heap_in t) a e → EntryAt (closed t) (heap_in (closed t)) a e
    unfolding sites_entry
    move-entry v unused f sub s = rw same-image s
    move-entry v (used img ss) f sub s =
        let e : image l.shape.keep (drop a t) ≡ img = s.0 in
        let k : sites_entry l t a ≡ sites_of t a img l.refs = pick_yes
        (is_valid l.shape (image l.shape.keep (drop a t))) _ _ (rw e f.valid) ∙ ap
        (λ (x : List ℕ). sites_of t a x l.refs) e in (
          same-image ∙ e,
          move_at t (closed t) (heap_in t) (heap_in (closed t)) (sites t) moves l.shape.keep 0 a a v img ss
              o.refs_ok same-refs (λ y i. sub y (rw k i)) f.objects s.1,
        )

  move-list : (l : Layout) → OkLayout l → (count : ℕ → ℕ) (a step pos : ℕ) (es : List (Entry l)) → OutsideList t l a step (length es) → FitList count pos es
      → Sub (sites_list l t a step (length es)) (sites t) → ListAt t (heap_in t) a step es → ListAt (closed t) (heap_in (closed t)) a step es
  unfolding sites_list
  move-list l o count a step pos [] out f sub s = tt
  move-list l o count a step pos (e ∷ es) out f sub s = (
    move-entry l o a out.0 (env count pos) e f.0 (λ y i. sub y (in_left y (sites_entry l t a) (sites_list l t (a + step) step (length es)) i)) s.0,
    move-list l o count (a + step) step (suc pos) es out.1 f.1 (λ y i. sub y (in_right y (sites_entry l t a) (sites_list l t (a + step) step (length es)) i)) s.1,
  )

  move-body : {ls : List Layout} → T (all_ok ls) → (count : ℕ → ℕ) (c : ℕ) (b : Body ls) → 48 ≤ c → c + length ls * 8 ≤ 128 → OutsideBody t ls c → FitBody count b → Sub (sites_body ls t c) (sites t)
      → BodyAt t (heap_in t) c b → BodyAt (closed t) (heap_in (closed t)) c b
  unfolding sites_body
  move-body o count c stop lo hi out f sub s = tt
  move-body o count c (more {l = l} {ls = ls} es rest) lo hi out f sub s =
      let u = and_yes (ok_layout l) (all_ok ls) o in
      let e₀ : get_or (closed t) (c + 7) 0 ≡ get_or t (c + 7) 0 = front (c + 7) (inr (omega arith)) (inr (omega arith)) (omega arith) in
      let e₁ : num (closed t) c 4 ≡ num t c 4 = num-same t (closed t) c 4 (λ j h. front (c + j) (inr (omega arith)) (inr (omega arith)) (omega arith)) in
      let e₂ : num (closed t) (c + 4) 2 ≡ num t (c + 4) 2 = num-same t (closed t) (c + 4) 2 (λ j h. front (c + 4 + j) (inr (omega arith)) (inr (omega arith)) (omega arith)) in
      let n : List Site = sites_list l t (num t c 4) (num t (c + 4) 2) (get_or t (c + 7) 0) in
      let m : Sub (sites_list l t (num t c 4) (num t (c + 4) 2) (length es)) (sites t) = λ y i. sub y (in_left y n (sites_body ls t (c + 8)) (rw s.0 i)) in (
        e₀ ∙ s.0,
        rw (e₁, e₂) (move-list l (ok-layout l u.0) count (num t c 4) (num t (c + 4) 2) 1 es (rw s.0 at out.0) f.0 m s.1),
        move-body {ls = ls} u.1 count (c + 8) rest (omega arith) (omega arith) out.1 f.2 (λ y i. sub y (in_right y n (sites_body ls t (c + 8)) i)) s.2,
      )

  -- ---- the whole

  part-oem : part (closed t) 10 26 ≡ part t 10 26
  part-oem =
      let w = g.roomy.long in
      let n : length (part (closed t) 10 26) ≡ 26 = length-take-le 26 (drop 10 (closed t))
      (simp length-drop (omega (arith, length-closed t g.roomy))) in
      let n' : length (part t 10 26) ≡ 26 = length-take-le 26 (drop 10 t) (simp length-drop (omega arith)) in
      ext_get_or 0 (part (closed t) 10 26) (part t 10 26) (n ∙ sym n') (λ j h. let h' : j < 26 = rw n at h in get_or-take 26
      (drop 10 (closed t)) j 0 h' ∙ get_or-drop 10 (closed t) j 0 ∙ front (10 + j) (inr (omega arith)) (inl (omega arith))
      (omega arith) ∙ sym (get_or-drop 10 t j 0) ∙ sym (get_or-take 26 (drop 10 t) j 0 h'))

  pub head-refs : Carried t (closed t) (heap_in t) (heap_in (closed t)) (sites t) 0 0 header.refs
  unfolding header
  head-refs =
      let w = g.behind in
      is_carried t g.roomy g.sound 44 0 0 64 header.shape.keep header.refs tt (omega arith) (omega (arith, g.roomy.long))
      (λ j a b. closed-outside t g.roomy (0 + j) (inr (omega arith)) (inr (omega arith)) (inl (omega arith)))
      (λ s m. go s (g.head s m))
    where
      go : (s : Site) → (s.at ≡ 44) ⊎ (128 ≤ s.at) → Aligned 0 64 header.refs s
      go s (inl e) = inr (inr (44, inl refl, e))
      go s (inr e) = inr (inl (omega arith))

  pub closed-stands : (m : Meaning) → Shaped m → Stands t m → Stands (closed t) m
  unfolding sites
  closed-stands m w s =
      let count = count_in m.lists in
      let e : num (closed t) 72 4 ≡ num t 72 4 = num-same t (closed t) 72 4
      (λ j h. front (72 + j) (inr (omega arith)) (inr (omega arith)) (omega arith)) in
      let x₁ : List Site = sites_of t 0 [] header.refs in
      let x₂ : List Site = sites_entry host t (num t 72 4) in
      let x₃ : List Site = sites_body list_kinds t 80 in
      record {
        oem_at = part-oem ∙ s.oem_at;
        driver_at = move_at t (closed t) (heap_in t) (heap_in (closed t)) (sites t) moves header.shape.keep 0 0 0
            (env count 0) [] m.driver ok_header.refs_ok head-refs (λ y i. in_left y x₁ (x₂ ++ x₃) i) w.signed
            s.driver_at;
        owner_at = rw e (move-entry host ok-host (num t 72 4) g.owner (env count 0) m.owner w.owned
            (λ y i. in_right y x₁ (x₂ ++ x₃) (in_left y x₂ x₃ i)) s.owner_at);
        lists_at = move-body ok-lists count 80 m.lists (omega arith) (omega arith) g.lists w.listed
            (λ y i. in_right y x₁ (x₂ ++ x₃) (in_right y x₂ x₃ i)) s.lists_at;
      }
