-- The builder's states as the code tests them: whether one is in place and waits for a kind, and which comes next. Assumes nothing.
use mathlib.Core.Path.{◌≡◌, refl, sym, ap, ◌∙◌, subst}
use mathlib.Core.Bool.{Bool, true, false, not, ◌&&◌, ◌||◌}
use mathlib.Core.List.{List, [], ◌∷◌}
use Prim.Native.Nat.{ℕ, ◌+◌, ◌-◌, ◌*◌, ◌≤◌, ◌<◌}
use native.Mathlib.Omega.{arith}
use lib.Ieee.Bits.{is_true}
use lib.Dec.{T, lit≤, leb, ltb, eqb, leb→le, eqb→eq}
use borrow.Author.Tests.{ne_eqb, eq-eqb, le-leb, lt-leb, lt-ltb, le-ltb, eqb-false, ltb-true, ltb-false}
use mir.Facts.{and_yes}
use Rattle.table.specs.declared.State.{State}
use Rattle.table.specs.Bytes.{pick}
use Rattle.table.specs.Layout.{Layout, base_of}
use Rattle.table.specs.FixedLayouts.{host, hfi, ssns, security, discovery, list_kinds}
use Rattle.table.specs.Meaning.{limit}
use Rattle.table.specs.Builder.{Turn, counts, count_of, start_of, records_end, place_of, turn, first_turn, turn_after, next, moved, finishing, in_list, waits}
use Rattle.builder_state.specs.Turns.{in_place, later_of, later_turn}

-- a number that is no list's kind
pub none : (s : State) (k : ℕ) → (k ≡ 3 → ⊥) → (k ≡ 4 → ⊥) → (k ≡ 5 → ⊥) → (k ≡ 6 → ⊥) → count_of list_kinds (counts s) k ≡ 0
unfolding hfi ssns security discovery
none s k a b c d = rw (ne_eqb k 3 a, ne_eqb k 4 b, ne_eqb k 5 c, ne_eqb k 6 d) refl

-- ---- waiting

pub in-list-is : (s : State) (n : ℕ) → n ≡ count_of list_kinds (counts s) s.turn → 1 ≤ s.position → leb s.position n ≡ in_list s
in-list-is s n e p = ap (leb s.position) e ∙ ap (λ (b : Bool). b && leb s.position (count_of list_kinds (counts s) s.turn)) (sym (le-leb 1 s.position p))

-- what a state that waits says of its position
pub in-list-upto : (s : State) → in_list s ≡ true → s.position ≤ count_of list_kinds (counts s) s.turn
in-list-upto s e =
    leb→le s.position (count_of list_kinds (counts s) s.turn) (and_yes (leb 1 s.position) (leb s.position (count_of list_kinds (counts s) s.turn)) (rw e tt)).1

-- the bytes used lie behind the records and within the limit, and the minor is one that a record can ask for
abbrev bounded : State → Bool
bounded s = leb (records_end s) s.used && (leb s.used limit && leb s.minor 1)

pub waits-in-place : (s : State) (k : ℕ) → waits s k ≡ true → in_place s k ≡ true
unfolding waits
waits-in-place s k w =
    let u = and_yes (eqb s.turn k) (in_place s k && bounded s) (rw w tt) in
    is_true (in_place s k) (and_yes (in_place s k) (bounded s) u.1).0

pub false-true {ℓ} : {X : Type ℓ} (b : Bool) → false ≡ b → b ≡ true → X
false-true b e f = absurd (subst (λ (x : Bool). T (not x)) (e ∙ f) tt)

pub not-in-place : (s : State) (k : ℕ) (p : Bool) → s.turn ≡ k → p ≡ in_place s k → p ≡ false → false ≡ waits s k
unfolding waits
not-in-place s k p q e f = rw (eq-eqb s.turn k q, sym e, f) refl

pub too-low : (s : State) (k n : ℕ) (p : Bool) → s.turn ≡ k → p ≡ in_place s k → p ≡ true → n ≡ records_end s → s.used < n → false ≡ waits s k
unfolding waits
too-low s k n p q e f g l = rw (eq-eqb s.turn k q, sym e, f, sym g, lt-leb n s.used l) refl

pub too-high : (s : State) (k n : ℕ) (p : Bool) → s.turn ≡ k → p ≡ in_place s k → p ≡ true → n ≡ records_end s → n ≤ s.used → 65536 < s.used → false ≡ waits s k
unfolding waits limit
too-high s k n p q e f g l h = rw (eq-eqb s.turn k q, sym e, f, sym g, le-leb n s.used l, lt-leb s.used 65536 h) refl

pub waits-for : (s : State) (k n : ℕ) (p : Bool) → s.turn ≡ k → p ≡ in_place s k → p ≡ true → n ≡ records_end s → n ≤ s.used → s.used ≤ 65536 → leb s.minor 1 ≡ waits s k
unfolding waits limit
waits-for s k n p q e f g l h = rw (eq-eqb s.turn k q, sym e, f, sym g, le-leb n s.used l, le-leb s.used 65536 h) refl

-- ---- the state behind

after-inside : (ls : List Layout) (cs : List ℕ) (k n : ℕ) → n < count_of ls cs k → turn_after k n ls cs ≡ turn k (n + 1)
after-inside [] cs k n l = absurd (omega arith)
after-inside (x ∷ ls) [] k n l = absurd (omega arith)
after-inside (x ∷ ls) (c ∷ cs) k n l = go (eqb k x.kind) l (after-inside ls cs k n)
  where
    go : (b : Bool)
        → n < pick b c (count_of ls cs k)
        → (n < count_of ls cs k → turn_after k n ls cs ≡ turn k (n + 1))
        → pick b (pick (ltb n c) (turn k (n + 1)) (first_turn ls cs)) (turn_after k n ls cs) ≡ turn k (n + 1)
    go true h f = rw (lt-ltb n c h) refl
    go false h f = f h

finish-has-none : (s : State) → count_of list_kinds (counts s) 7 ≡ 0
unfolding hfi ssns security discovery
finish-has-none s = refl

host-has-none : (s : State) → count_of list_kinds (counts s) 2 ≡ 0
unfolding hfi ssns security discovery
host-has-none s = refl

pub next-inside : (s : State) (n c : ℕ) (newer : Bool) → c ≡ count_of list_kinds (counts s) s.turn → s.position < c
    → moved s (turn s.turn (s.position + 1)) (s.used + n) (pick newer 1 s.minor) ≡ next s n newer
unfolding next
next-inside s n c newer e l =
    let h : eqb s.turn 2 ≡ false = ne_eqb s.turn 2 (λ q. omega (arith, e ∙ ap (count_of list_kinds (counts s)) q ∙ host-has-none s)) in
    rw (h, after-inside list_kinds (counts s) s.turn s.position (omega arith)) refl

later-is : (k p h n c d : ℕ) → count_of list_kinds (h ∷ n ∷ c ∷ d ∷ []) k ≤ p
    → pick (eqb k 2) (first_turn list_kinds (h ∷ n ∷ c ∷ d ∷ [])) (turn_after k p list_kinds (h ∷ n ∷ c ∷ d ∷ [])) ≡ later_of k h n c d
unfolding hfi ssns security discovery
later-is k p h n c d l = two (eqb k 2) refl
  where
    six : (b : Bool) → eqb k 6 ≡ b → eqb k 2 ≡ false → eqb k 3 ≡ false → eqb k 4 ≡ false → eqb k 5 ≡ false
        → pick (eqb k 2) (first_turn list_kinds (h ∷ n ∷ c ∷ d ∷ [])) (turn_after k p list_kinds (h ∷ n ∷ c ∷ d ∷ [])) ≡ later_of k h n c d
    six true e e₂ e₃ e₄ e₅ = let l₁ : d ≤ p = rw (e₃, e₄, e₅, e) at l in rw (e₂, e₃, e₄, e₅, e, le-ltb p d l₁) refl
    six false e e₂ e₃ e₄ e₅ = rw (e₂, e₃, e₄, e₅, e) refl

    five : (b : Bool) → eqb k 5 ≡ b → eqb k 2 ≡ false → eqb k 3 ≡ false → eqb k 4 ≡ false
        → pick (eqb k 2) (first_turn list_kinds (h ∷ n ∷ c ∷ d ∷ [])) (turn_after k p list_kinds (h ∷ n ∷ c ∷ d ∷ [])) ≡ later_of k h n c d
    five true e e₂ e₃ e₄ = let l₁ : c ≤ p = rw (e₃, e₄, e) at l in rw (e₂, e₃, e₄, e, le-ltb p c l₁) refl
    five false e e₂ e₃ e₄ = six (eqb k 6) refl e₂ e₃ e₄ e

    four : (b : Bool) → eqb k 4 ≡ b → eqb k 2 ≡ false → eqb k 3 ≡ false
        → pick (eqb k 2) (first_turn list_kinds (h ∷ n ∷ c ∷ d ∷ [])) (turn_after k p list_kinds (h ∷ n ∷ c ∷ d ∷ [])) ≡ later_of k h n c d
    four true e e₂ e₃ = let l₁ : n ≤ p = rw (e₃, e) at l in rw (e₂, e₃, e, le-ltb p n l₁) refl
    four false e e₂ e₃ = five (eqb k 5) refl e₂ e₃ e

    three : (b : Bool) → eqb k 3 ≡ b → eqb k 2 ≡ false
        → pick (eqb k 2) (first_turn list_kinds (h ∷ n ∷ c ∷ d ∷ [])) (turn_after k p list_kinds (h ∷ n ∷ c ∷ d ∷ [])) ≡ later_of k h n c d
    three true e e₂ = let l₁ : h ≤ p = rw e at l in rw (e₂, e, le-ltb p h l₁) refl
    three false e e₂ = four (eqb k 4) refl e₂ e

    two : (b : Bool) → eqb k 2 ≡ b
        → pick (eqb k 2) (first_turn list_kinds (h ∷ n ∷ c ∷ d ∷ [])) (turn_after k p list_kinds (h ∷ n ∷ c ∷ d ∷ [])) ≡ later_of k h n c d
    two true e = rw e refl
    two false e = three (eqb k 3) refl e

pub next-later : (s : State) (n c : ℕ) (newer : Bool) → c ≡ count_of list_kinds (counts s) s.turn → c ≤ s.position
    → moved s (later_turn s) (s.used + n) (pick newer 1 s.minor) ≡ next s n newer
unfolding next later_turn
next-later s n c newer e l =
    ap (λ x. moved s x (s.used + n) (pick newer 1 s.minor)) (sym (later-is s.turn s.position s.hfi s.ssns s.security s.discovery (omega arith)))

-- ---- where records stand

-- what a waiting list says of its position
pub in-its-list : (s : State) (k : ℕ) → (eqb k 2 || eqb k finishing) ≡ false → waits s k ≡ true → (1 ≤ s.position) × (s.position ≤ count_of list_kinds (counts s) k)
unfolding waits
in-its-list s k e w =
    let u = and_yes (eqb s.turn k) (in_place s k && bounded s) (rw w tt) in
    let q : s.turn ≡ k = eqb→eq s.turn k u.0 in
    let v : T (in_list s) = rw e at (and_yes (in_place s k) (bounded s) u.1).0 in
    let x = and_yes (leb 1 s.position) (leb s.position (count_of list_kinds (counts s) s.turn)) v in
    (leb→le 1 s.position x.0, leb→le s.position (count_of list_kinds (counts s) k) (rw q at x.1))

module _ (s : State) where
  pub host-place : (128 ≡ place_of s host) × (128 + base_of host ≤ records_end s)
  unfolding place_of host records_end hfi ssns security discovery
  host-place = (refl, omega arith)

  pub hfi-place : waits s 3 ≡ true
      → (start_of 160 list_kinds (counts s) 3 + (s.position - 1) * 32 ≡ place_of s hfi)
      × (start_of 160 list_kinds (counts s) 3 + (s.position - 1) * 32 + base_of hfi ≤ records_end s)
  unfolding place_of records_end hfi ssns security discovery
  hfi-place w = let p = in-its-list s 3 refl w in (refl, omega (arith, p))

  pub ssns-place : waits s 4 ≡ true
      → (start_of 160 list_kinds (counts s) 4 + (s.position - 1) * 128 ≡ place_of s ssns)
      × (start_of 160 list_kinds (counts s) 4 + (s.position - 1) * 128 + base_of ssns ≤ records_end s)
  unfolding place_of records_end hfi ssns security discovery
  ssns-place w = let p = in-its-list s 4 refl w in (refl, omega (arith, p))

  pub security-place : waits s 5 ≡ true
      → (start_of 160 list_kinds (counts s) 5 + (s.position - 1) * 64 ≡ place_of s security)
      × (start_of 160 list_kinds (counts s) 5 + (s.position - 1) * 64 + base_of security ≤ records_end s)
  unfolding place_of records_end hfi ssns security discovery
  security-place w = let p = in-its-list s 5 refl w in (refl, omega (arith, p))

  pub discovery-place : waits s 6 ≡ true
      → (start_of 160 list_kinds (counts s) 6 + (s.position - 1) * 32 ≡ place_of s discovery)
      × (start_of 160 list_kinds (counts s) 6 + (s.position - 1) * 32 + base_of discovery ≤ records_end s)
  unfolding place_of records_end hfi ssns security discovery
  discovery-place w = let p = in-its-list s 6 refl w in (refl, omega (arith, p))

pub list-kind : (k : ℕ) → k ≤ 6 → (k ≡ 2 → ⊥) → (eqb k 2 || eqb k finishing) ≡ false
list-kind k l n = rw (ne_eqb k 2 n, ne_eqb k 7 (λ e. omega arith)) refl

-- the limit's number
pub in-limit : (n : ℕ) → n ≤ 65536 → n ≤ limit
unfolding limit
in-limit n h = h

-- the bytes used of a state that waits, and its minor
state-bounds : (s : State) (k : ℕ) → waits s k ≡ true → (records_end s ≤ s.used) × (s.used ≤ 65536) × (s.minor ≤ 1)
unfolding waits limit
state-bounds s k w =
    let u = (and_yes (in_place s k) (bounded s) (and_yes (eqb s.turn k) (in_place s k && bounded s) (rw w tt)).1).1 in
    let v = and_yes (leb (records_end s) s.used) (leb s.used 65536 && leb s.minor 1) u in
    let x = and_yes (leb s.used 65536) (leb s.minor 1) v.1 in
    (leb→le (records_end s) s.used v.0, leb→le s.used 65536 x.0, leb→le s.minor 1 x.1)

pub used-bounds : (s : State) (k : ℕ) → waits s k ≡ true → (records_end s ≤ s.used) × (s.used ≤ 65536)
used-bounds s k w = let b = state-bounds s k w in (b.0, b.1)

pub minor-bound : (s : State) (k : ℕ) → waits s k ≡ true → s.minor ≤ 1
minor-bound s k w = (state-bounds s k w).2

-- ---- a state that a done call returns waits for its next call

-- a turn that a state with these counts can wait for
abbrev ready : List ℕ → ℕ → ℕ → Bool
ready cs k p = pick (eqb k 2 || eqb k finishing) (eqb p 0) (leb 1 p && leb p (count_of list_kinds cs k))

first-ready : (h n c d h' n' c' d' : ℕ) → h' ≤ h → n' ≤ n → c' ≤ c → d' ≤ d → let t = first_turn list_kinds (h' ∷ n' ∷ c' ∷ d' ∷ []) in ready (h ∷ n ∷ c ∷ d ∷ []) t.kind t.position ≡ true
unfolding hfi ssns security discovery
first-ready h n c d h' n' c' d' kh kn kc kd = go (eqb h' 0) (eqb n' 0) (eqb c' 0) (eqb d' 0) refl refl refl refl
  where
    some : (x y : ℕ) → eqb x 0 ≡ false → x ≤ y → leb 1 y ≡ true
    some x y e k = le-leb 1 y (omega (arith, eqb-false x 0 e))

    go : (a b e f : Bool) → eqb h' 0 ≡ a → eqb n' 0 ≡ b → eqb c' 0 ≡ e → eqb d' 0 ≡ f
        → let t = first_turn list_kinds (h' ∷ n' ∷ c' ∷ d' ∷ []) in ready (h ∷ n ∷ c ∷ d ∷ []) t.kind t.position ≡ true
    go false b e f p q r s = rw (p, some h' h p kh) refl
    go true false e f p q r s = rw (p, q, some n' n q kn) refl
    go true true false f p q r s = rw (p, q, r, some c' c r kc) refl
    go true true true false p q r s = rw (p, q, r, s, some d' d s kd) refl
    go true true true true p q r s = rw (p, q, r, s) refl

later-ready : (k h n c d : ℕ) → let t = later_of k h n c d in ready (h ∷ n ∷ c ∷ d ∷ []) t.kind t.position ≡ true
later-ready k h n c d = go (eqb k 2) (eqb k 3) (eqb k 4) (eqb k 5)
  where
    go : (a b e f : Bool)
        → let t = pick a (first_turn list_kinds (h ∷ n ∷ c ∷ d ∷ []))
        (pick b (first_turn list_kinds (0 ∷ n ∷ c ∷ d ∷ [])) (pick e (first_turn list_kinds (0 ∷ 0 ∷ c ∷ d ∷ [])) (pick f (first_turn list_kinds (0 ∷ 0 ∷ 0 ∷ d ∷ [])) (turn finishing 0)))) in
        ready (h ∷ n ∷ c ∷ d ∷ []) t.kind t.position ≡ true
    go true b e f = first-ready h n c d h n c d (omega arith) (omega arith) (omega arith) (omega arith)
    go false true e f = first-ready h n c d 0 n c d (omega arith) (omega arith) (omega arith) (omega arith)
    go false false true f = first-ready h n c d 0 0 c d (omega arith) (omega arith) (omega arith) (omega arith)
    go false false false true = first-ready h n c d 0 0 0 d (omega arith) (omega arith) (omega arith) (omega arith)
    go false false false false = refl

-- what waits is any state in place with bytes used between the records' end and the limit
waits-by : (s : State) (x : Turn) (u v : ℕ) → ready (counts s) x.kind x.position ≡ true → records_end s ≤ u → u ≤ 65536 → v ≤ 1 → waits (moved s x u v) x.kind ≡ true
unfolding waits limit records_end
waits-by s x u v r l h o = rw (eq-eqb x.kind x.kind refl, r, le-leb (records_end s) u l, le-leb u 65536 h, le-leb v 1 o) refl

pub next-waits : (s : State) (k n : ℕ) (newer : Bool) → waits s k ≡ true → s.used + n ≤ 65536 → waits (next s n newer) (next s n newer).turn ≡ true
next-waits s k n newer w l = go (ltb s.position c) refl
  where
    v : ℕ
    v = pick newer 1 s.minor

    one : (b : Bool) → pick b 1 s.minor ≤ 1
    one true = lit≤ tt
    one false = minor-bound s k w

    c : ℕ
    c = count_of list_kinds (counts s) s.turn

    low : records_end s ≤ s.used + n
    low = omega (arith, (used-bounds s k w).0)

    go : (b : Bool) → ltb s.position c ≡ b → waits (next s n newer) (next s n newer).turn ≡ true
    go true e =
        let p : s.position < c = ltb-true s.position c e in
        let x : Turn = turn s.turn (s.position + 1) in
        let two : eqb s.turn 2 ≡ false = ne_eqb s.turn 2 (λ q. omega (arith, p, ap (count_of list_kinds (counts s)) q ∙ host-has-none s)) in
        let seven : eqb s.turn 7 ≡ false = ne_eqb s.turn 7 (λ q. omega (arith, p, ap (count_of list_kinds (counts s)) q ∙ finish-has-none s)) in
        let r : ready (counts s) s.turn (s.position + 1) ≡ true = rw (two, seven, le-leb 1 (s.position + 1) (omega arith), le-leb (s.position + 1) c (omega arith)) refl in
        subst (λ (y : State). waits y y.turn ≡ true) (next-inside s n c newer refl p) (waits-by s x (s.used + n) v r low l (one newer))
    go false e =
        let p : c ≤ s.position = ltb-false s.position c e in
        subst (λ (y : State). waits y y.turn ≡ true) (next-later s n c newer refl p)
        (waits-by s (later_turn s) (s.used + n) v (unfold later_turn in (later-ready s.turn s.hfi s.ssns s.security s.discovery)) low l (one newer))
