-- A walk over the sites of a table, a reference at a time, and the sites that are still to come. Definitions only.
use Rattle.std.specs.Prelude.{Bool, not, List, [], ◌∷◌, ◌++◌, ℕ, zero, suc, ◌+◌, ◌-◌, ◌*◌, ◌≤◌, ◌<◌, length, get_or, drop, eqb, ltb}
use Rattle.table.specs.Bytes.{num, pick}
use Rattle.table.specs.Layout.{Refs, base_of, is_valid, nest, none, offsets, plain}
use Rattle.table.specs.FixedLayouts.{host, layout_of, list_kinds}
use Rattle.table.specs.Objects.{under}
use Rattle.table.specs.Reads.{need_at}
use Rattle.table.specs.Closing.{Site, site, sites_body, sites_entry, sites_list, sites_of}
use Rattle.laws.specs.Fields.{image_in}
use Rattle.layout_kinds.specs.References.{object_refs}
use Rattle.reads_seats.specs.Told.{inner_kind}
use Rattle.closer_sites.specs.declared.Walk.{Walk}
use Rattle.closer_sites.specs.declared.Named.{Named}
use Rattle.closer_sites.specs.declared.Stepped.{Stepped}

abbrev pub walk : ℕ → ℕ → ℕ → ℕ → ℕ → Walk
walk l n k a i = record { list = l; position = n; kind = k; at = a; next = i }

abbrev pub begun : Walk
begun = walk 2 0 0 0 0

abbrev pub ref_count : ℕ → ℕ
ref_count k = length (offsets (layout_of k).refs)

-- a record that has references to come lies in n bytes
pub record Walkable (n : ℕ) (w : Walk) : Type 0 where
  pub least : 2 ≤ w.list
  pub most : w.position ≤ 255
  pub within : w.next < ref_count w.kind → w.at + base_of (layout_of w.kind) ≤ n

-- ---- one reference

-- how much the reference at p of the record of kind k at a names
unfoldable pub len_at : List ℕ → ℕ → ℕ → ℕ → ℕ
len_at t k a p = under (need_at p (layout_of k).refs (image_in (layout_of k) t a)) 0 (num t (a + p + 4) 2)

abbrev pub named : ℕ → ℕ → ℕ → ℕ → Named
named r o n k = record { at = r; off = o; len = n; kind = k }

abbrev pub nothing : Named
nothing = named 0 0 0 0

-- reference i; those to objects come first, and behind them the one to a heap record
unfoldable pub named_at : List ℕ → ℕ → ℕ → ℕ → Named
named_at t k a i =
    let p = get_or (offsets (layout_of k).refs) i 0 in
    named (a + p) (num t (a + p) 4) (len_at t k a p) (pick (ltb i (length (object_refs (layout_of k).refs))) 0 (inner_kind k))

unfoldable pub onward_of : Walk → Named → Walk
onward_of w x =
    let next = walk w.list w.position w.kind w.at (w.next + 1) in
    pick (eqb x.len 0) next (pick (eqb x.kind 0) next (walk w.list w.position x.kind x.off 0))

-- ---- one record

abbrev pub first_of : ℕ → Bool → ℕ
first_of k used = pick used 0 (ref_count k)

-- the first reference to look at of the record of kind k at a
abbrev pub entered : List ℕ → ℕ → ℕ → ℕ
entered t k a = first_of k (is_valid (layout_of k).shape (image_in (layout_of k) t a))

unfoldable pub host_of : List ℕ → Walk
host_of t = let a = num t 72 4 in walk 3 0 2 a (entered t 2 a)

unfoldable pub list_of : List ℕ → Walk → Walk
list_of t w =
    let c = 56 + 8 * w.list in
    let a = num t c 4 + w.position * num t (c + 4) 2 in
    pick (ltb w.position (get_or t (c + 7) 0)) (walk w.list (w.position + 1) w.list a (entered t w.list a)) (walk (w.list + 1) 0 w.kind w.at w.next)

unfoldable pub record_of : List ℕ → Walk → Walk
record_of t w = pick (eqb w.list 2) (host_of t) (list_of t w)

abbrev pub step : Named → Walk → Stepped
step x w = record { named = x; walk = w }

unfoldable pub step_of : List ℕ → Walk → Stepped
step_of t w =
    let x = named_at t w.kind w.at w.next in
    pick (ltb w.next (ref_count w.kind)) (step x (onward_of w x)) (step nothing (record_of t w))

-- ---- what is still to come

-- the references behind the first i
abbrev pub behind : ℕ → Refs → Refs
behind zero rs = rs
behind (suc i) none = none
behind (suc i) (plain p need content rest) = behind i rest
behind (suc i) (nest p need shape own rest) = behind i rest

-- from reference i of the record of kind k at a on
unfoldable pub sites_from : List ℕ → ℕ → ℕ → ℕ → List Site
sites_from t k a i = sites_of t a (image_in (layout_of k) t a) (behind i (layout_of k).refs)

-- from record n of list k on, and those of the lists behind it
unfoldable pub records_from : List ℕ → ℕ → ℕ → List Site
records_from t k n =
    let c = 56 + 8 * k in
    let s = num t (c + 4) 2 in
    pick (eqb k 2) (sites_entry host t (num t 72 4) ++ sites_body list_kinds t 80)
    (pick (ltb k 7) (sites_list (layout_of k) t (num t c 4 + n * s) s (get_or t (c + 7) 0 - n) ++ sites_body (drop (k - 2) list_kinds) t (c + 8)) [])

unfoldable pub rest_of : List ℕ → Walk → List Site
rest_of t w = sites_from t w.kind w.at w.next ++ records_from t w.list w.position

-- what is found as a site
abbrev pub site_of : Named → List Site
site_of x = pick (eqb x.len 0) [] (site x.at x.off x.len (not (eqb x.kind 0)) (pick (eqb x.kind 0) none (layout_of x.kind).refs) ∷ [])

-- what the next n steps find
unfoldable pub sites_within : List ℕ → Walk → ℕ → List Site
sites_within t w zero = []
sites_within t w (suc n) = pick (eqb w.list 7) [] (site_of (step_of t w).named ++ sites_within t (step_of t w).walk n)
