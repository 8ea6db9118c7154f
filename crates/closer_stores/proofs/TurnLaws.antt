-- A walk that stores as it goes: what each turn keeps, what its store may count on, and that all offsets are stored at the end. Assumes nothing.
use mathlib.Core.Path.{◌≡◌, refl, sym, ap, ap₂, subst, ◌∙◌}
use mathlib.Core.Logic.{inl}
use mathlib.Core.Bool.{Bool, true, false, not}
use mathlib.Core.List.{List, [], ◌++◌, append-nil}
use Prim.Native.Nat.{ℕ, zero, suc, ◌+◌, ◌-◌, ◌*◌, ◌≤◌, ◌<◌}
use native.Mathlib.Omega.{arith}
use lib.ListN.{length}
use lib.Dec.{T, eqb}
use borrow.Author.Tests.{eqb-false, eqb-true}
use Rattle.table.specs.Bytes.{apply, le, num, pick, splice}
use Rattle.table.specs.Numbers.{heap_in}
use Rattle.table.specs.Closing.{Site, goes, map_of, marks, offsets_of, overlapped, sites, slid, stored}
use Rattle.laws.specs.Fields.{Bytes}
use Rattle.bytes_bits.specs.Bits.{bits_below}
use Rattle.bytes_bits.specs.MapLaws.{map_below}
use Rattle.closing_laws.specs.Members.{In}
use Rattle.closing_laws.specs.Fencing.{fenced}
use Rattle.reader_frame.specs.Bounds.{LaidOut}
use Rattle.reader.specs.Accepted.{Accepted}
use Rattle.closer_sites.specs.declared.Walk.{Walk}
use Rattle.closer_sites.specs.declared.Named.{Named}
use Rattle.closer_sites.specs.Walk.{Walkable, begun, rest_of, site_of, step_of}
use Rattle.closer_sites.specs.Going.{Going, left}
use Rattle.closer_sites.proofs.WalkLaws.{going-first, going_on, left_less, rest_end, rest-first, rest-step}
use Rattle.closer_stores.proofs.StoreLaws.{
  Alike,
  Clear,
  all-stored,
  clear_first,
  clear_next,
  found_in,
  laid-still,
  length-still,
  one-site,
  rest-on,
  same-named,
  same-walk,
  site_in,
  stored-found,
  stored-none,
  walkable-still,
}

-- no more bits than places
pub below-upto : (m : List ℕ) (n : ℕ) → bits_below m n ≤ n
below-upto m zero = omega arith
below-upto m (suc n) = omega (arith, below-upto m n)

-- the table u is t with the offsets of the sites stored that the walk has passed
pub record Turn (t u : List ℕ) (w : Walk) : Type 0 where
  pub pre : List Site
  pub all : sites t ≡ pre ++ rest_of t w
  pub going : Going t w
  pub clear : Clear t w
  pub now : u ≡ apply t (offsets_of t pre)

-- what a store of what was found leaves
abbrev pub put : List ℕ → List ℕ → ℕ → Named → List ℕ
put u map start x = pick (eqb x.len 0) u (splice u x.at (le 4 (start + bits_below map (x.off - start))))

-- where something goes, by the map of the marks
goes_map : (t map : List ℕ) (n : ℕ) → map ≡ map_of (marks t) 0 (length map) → n - num t 36 4 ≤ 8 * length map → num t 36 4 + bits_below map (n - num t 36 4) ≡ goes t n
unfolding goes slid heap_in
goes_map t map n e h =
    let o : ℕ = n - num t 36 4 in
    ap (λ (k : ℕ). num t 36 4 + k) (ap (λ (m : List ℕ). bits_below m o) e ∙ map_below (marks t) (length map) o h)

heap-at : (t : List ℕ) → (heap_in t).at ≡ num t 36 4
unfolding heap_in
heap-at t = refl

module _ (t : List ℕ) (ok : Accepted t) (b : Bytes t) (nov : T (not (overlapped t))) where
  pub turn-first : Turn t t begun
  turn-first = record { pre = []; all = sym (rest-first t); going = going-first t ok; clear = clear_first t b ok.good nov; now = refl }

  module _ (u : List ℕ) (w : Walk) (x : Turn t u w) where
    pub turn-length : length u ≡ length t
    turn-length = ap length x.now ∙ length-still t b ok.good nov x.pre (rest_of t w) x.all

    -- all sites are passed at the end
    pub turn_end : w.list ≡ 7 → u ≡ stored t
    turn_end e =
        let p : sites t ≡ x.pre = x.all ∙ ap (λ (r : List Site). x.pre ++ r) (rest_end t w x.going e) ∙ append-nil x.pre in
        x.now ∙ ap (λ (ss : List Site). apply t (offsets_of t ss)) (sym p) ∙ all-stored t

    -- the end is not passed
    pub turn-open : (w.list ≡ 7 → ⊥) → w.list < 7
    turn-open n = omega (arith, n, x.going.upto)

    module _ (hi : w.list < 7) where
      -- what the next step asks for
      pub turn_step : LaidOut u × Walkable (length u) w
      turn_step =
          subst (λ (v : List ℕ). LaidOut v × Walkable (length v) w) (sym x.now)
          (laid-still t b ok.good nov x.pre (rest_of t w) x.all, walkable-still t b ok.good nov (rest-step t) x.pre w x.all x.going hi x.clear)

      -- it finds what it would find in t
      alike : Alike (step_of u w).named (step_of t w).named
      alike =
          subst (λ (v : List ℕ). Alike (step_of v w).named (step_of t w).named) (sym x.now)
          (same-named t b ok.good nov (rest-step t) x.pre w x.all x.going hi x.clear)

      walk_same : (step_of u w).walk ≡ (step_of t w).walk
      walk_same = ap (λ (v : List ℕ). (step_of v w).walk) x.now ∙ same-walk t b ok.good nov (rest-step t) x.pre w x.all x.going hi x.clear

      pub turn-less : left (step_of u w).walk < left w
      turn-less = rw walk_same (left_less t w x.going hi)

      next-in : ((step_of t w).named.len ≡ 0 → ⊥) → In (site_in (step_of t w).named) (sites t)
      next-in c =
          found_in t b ok.good nov (rest-step t) x.pre w x.all x.going hi x.clear (site_in (step_of t w).named)
          (rw (one-site (step_of t w).named c) (inl refl))

      -- what is found stands in the table, and names heap bytes
      pub turn-found : let y = (step_of u w).named in
          0 < y.len → (num t 36 4 ≤ y.off) × (y.off - num t 36 4 ≤ (heap_in t).len) × (y.off < 4294967296) × (y.at + 4 ≤ length u)
      turn-found h =
          let c : (step_of t w).named.len ≡ 0 → ⊥ = λ e. omega (arith, alike.len) in
          let g = fenced t b ok.good nov in
          let s = g.sound (site_in (step_of t w).named) (next-in c) in
          let r = g.roomy.rooms (site_in (step_of t w).named) (next-in c) in
          let o = alike.off c in
          (omega (arith, o, s.from, heap-at t), omega (arith, o, s.from, s.upto, heap-at t), omega (arith, o, s.small), omega (arith, alike.at, r, turn-length))

      module _ (map : List ℕ) (fit : (heap_in t).len ≤ 8 * length map) (is : map ≡ map_of (marks t) 0 (length map)) where
        put_next : put u map (num t 36 4) (step_of u w).named ≡ apply t (offsets_of t (x.pre ++ site_of (step_of t w).named))
        put_next = go (eqb y.len 0) refl
          where
            y : Named
            y = (step_of u w).named

            z : Named
            z = (step_of t w).named

            to : List ℕ
            to = apply t (offsets_of t (x.pre ++ site_of z))

            there : (z.len ≡ 0 → ⊥) → num t 36 4 + bits_below map (y.off - num t 36 4) ≡ goes t z.off
            there c = goes_map t map y.off is (omega (arith, (turn-found (omega (arith, alike.len, c))).1)) ∙ ap (goes t) (alike.off c)

            go : (d : Bool) → eqb y.len 0 ≡ d → pick d u (splice u y.at (le 4 (num t 36 4 + bits_below map (y.off - num t 36 4)))) ≡ to
            go true e = x.now ∙ stored-none t x.pre z (sym alike.len ∙ eqb-true y.len 0 e)
            go false e =
                let c : z.len ≡ 0 → ⊥ = λ f. eqb-false y.len 0 e (alike.len ∙ f) in
                ap₂ (λ (v : List ℕ) (a : ℕ). splice v a (le 4 (num t 36 4 + bits_below map (y.off - num t 36 4)))) x.now alike.at
                ∙ ap (λ (n : ℕ). splice (apply t (offsets_of t x.pre)) z.at (le 4 n)) (there c)
                ∙ stored-found t x.pre z c

        pub turn-next : (v : List ℕ) → v ≡ put u map (num t 36 4) (step_of u w).named → Turn t v (step_of u w).walk
        turn-next v e =
            rw walk_same
            (record {
              pre = x.pre ++ site_of (step_of t w).named;
              all = rest-on t b ok.good nov (rest-step t) x.pre w x.all x.going hi x.clear;
              going = going_on t ok b w x.going hi;
              clear = clear_next t b ok.good nov (rest-step t) x.pre w x.all x.going hi x.clear;
              now = e ∙ put_next;
            })
