-- A call that is told a record is its tests, then room and bytes: over any kind. Assumes nothing.
use mathlib.Core.Path.{◌≡◌, refl, sym, ap, ap₂, ◌∙◌, subst}
use mathlib.Core.Bool.{Bool, true, false, ◌&&◌}
use mathlib.Core.List.{List, [], ◌∷◌}
use Prim.Native.Nat.{ℕ, ◌+◌, ◌≤◌}
use native.Mathlib.Omega.{arith}
use lib.ListN.{length}
use lib.Dec.{T, eqb}
use borrow.Author.Tests.{eq-eqb, ne_eqb, eqb-true, leb-true}
use Rattle.table.specs.declared.Need.{Need}
use Rattle.table.specs.declared.Need.TheVariants.{Ignored, Optional, Required}
use Rattle.table.specs.declared.Answer.{Answer}
use Rattle.table.specs.declared.State.{State}
use Rattle.table.specs.Bytes.{pick}
use Rattle.table.specs.Layout.{Layout, Content, anything, positions, text, Env, env, Refs, none, plain, nest, Slots, nil, bytes, gone, rec, pairs_right}
use Rattle.table.specs.FixedLayouts.{host, ssns, security, discovery, extended}
use Rattle.table.specs.Objects.{size_of, under}
use Rattle.table.specs.Rules.{Test, test, answer, first_fail, first_of, ruled}
use Rattle.table.specs.Builder.{Outcome, outcome, ended, env_of, fill, fill_answer, fits_need, is_short, may_lack, nests_right, next, place_of, placed, room_tests, slots_rule, told_image, told_slots, waits}
use Rattle.laws.specs.Fields.{image_in}
use Rattle.laws.specs.RefWalk.{first-zero}
use Rattle.laws.specs.TextLaws.{told_fault, told_in, told-fault}
use Rattle.builder_told.specs.Marks.{marked}
use Rattle.builder_told.proofs.Laws.{image-is}
use Rattle.builder_record.specs.Steps.{laid, judge_tests}

-- ---- the objects

-- the first fault by field, of what is told: a dropped heap record has none
abbrev pub told_faults : {rs : Refs} → Env → List ℕ → Slots rs → ℕ
told_faults e img nil = 0
told_faults e img (bytes {need = need} {content = content} b ss) = first_of (told_in e (need img) content b) (told_faults e img ss)
told_faults e img (gone {need = need} ss) = first_of (pick (may_lack (need img)) 0 11) (told_faults e img ss)
told_faults e img (rec {need = need} {shape = shape} x own ss) = first_of (under (need img) 0 (told_faults e (told_image shape e.position x) own)) (told_faults e img ss)

-- it is that of the objects as they are kept
pub faults-told : {rs : Refs} (e : Env) (img : List ℕ) (ss : Slots rs) → slots_rule e img (told_slots e.position img ss) ≡ told_faults e img ss
unfolding slots_rule told_slots
faults-told e img nil = refl
faults-told e img (bytes {need = need} {content = content} b ss) = ap₂ first_of (told-fault e (need img) content b) (faults-told e img ss)
faults-told e img (gone {need = need} ss) = ap (first_of (pick (may_lack (need img)) 0 11)) (faults-told e img ss)
faults-told e img (rec {p = p} {need = need} {shape = shape} x own ss) =
    go (need img) refl (faults-told e (told_image shape e.position x) own) (faults-told e img ss)
  where
    n : ℕ
    n = e.position

    y : List ℕ
    y = told_image shape n x

    -- under the need m
    go : (m : Need) → need img ≡ m → slots_rule e y (told_slots n y own) ≡ told_faults e y own → slots_rule e img (told_slots n img ss) ≡ told_faults e img ss
        → slots_rule e img
        (under m (gone {p = p} {need = need} {shape = shape} (told_slots n img ss)) (rec {p = p} {need = need} {shape = shape} y (told_slots n y own) (told_slots n img ss)))
        ≡ first_of (under m 0 (told_faults e y own)) (told_faults e img ss)
    go Ignored q i r = rw q r
    go Optional q i r = rw q (ap₂ first_of i r)
    go Required q i r = rw q (ap₂ first_of i r)

-- ---- the tests, in two halves

-- a number that is 0 does not differ from 0
unlike : (n : ℕ) → eqb n 0 ≡ false → n ≡ 0 → ⊥
unlike n q e = subst T (sym (eq-eqb n 0 e) ∙ q) tt

-- the rule of the builder's own is 12 where the further rules of heap records (v) do not all hold
abbrev Halves : (w p v c : Bool) (n k i : ℕ) → List Test → Type 0
Halves w p v c n k i rs =
    let own : ℕ = pick v 0 12 in
    let j = first_fail (test w 15 0 0 ∷ test p 10 k i ∷ test (eqb own 0) own k i ∷ test c n k i ∷ []) in
    let all = first_fail (test w 15 0 0 ∷ test p 10 k i ∷ test v 12 k i ∷ test c n k i ∷ rs) in
    (j.number ≡ 0 → all ≡ first_fail rs) × ((j.number ≡ 0 → ⊥) → all ≡ j)

halves : (w p v : Bool) (n k i : ℕ) (rs : List Test) → Halves w p v (eqb n 0) n k i rs
halves w p v n k i rs = go w p v (eqb n 0) refl
  where
    go : (w p v c : Bool) → eqb n 0 ≡ c → Halves w p v c n k i rs
    go true true true true q = (λ e. refl, λ z. absurd (z refl))
    go true true true false q = (λ e. absurd (unlike n q e), λ z. refl)
    go true true false c q = (λ e. absurd (omega arith), λ z. refl)
    go true false v c q = (λ e. absurd (omega arith), λ z. refl)
    go false p v c q = (λ e. absurd (omega arith), λ z. refl)

-- references of which no heap record has a further rule
abbrev pub Unruled : Refs → Type 0
Unruled none = Unit {0}
Unruled (plain p need content rest) = Unruled rest
Unruled (nest p need shape own rest) = ((owner img : List ℕ) → shape.further owner img ≡ true) × Unruled own × Unruled rest

unruled-right : {rs : Refs} → Unruled rs → (img : List ℕ) (ss : Slots rs) → nests_right img ss ≡ true
unfolding nests_right
unruled-right u img nil = refl
unruled-right u img (bytes b ss) = unruled-right u img ss
unruled-right u img (gone ss) = unruled-right u.2 img ss
unruled-right u img (rec img' own ss) = rw (u.0 img img', unruled-right u.1 img' own) (unruled-right u.2 img ss)

pub unruled : {rs : Refs} → Unruled rs → (img : List ℕ) (ss : Slots rs) → ◌≡◌ {A = ℕ} 0 (pick (nests_right img ss) 0 12)
unruled u img ss = rw (unruled-right u img ss) refl

-- a kind of which no heap record has a further rule, and which asks for no header minor
abbrev pub Free : Layout → Type 0
Free l = Unruled l.refs × ((ss : Slots l.refs) → false ≡ l.newer ss)

pub host-free : Free host
unfolding host
host-free = (tt, λ ss. refl)

pub ssns-free : Free ssns
unfolding ssns extended
ssns-free = ((λ owner img. refl, tt, tt), λ ss. refl)

pub security-free : Free security
unfolding security
security-free = (tt, λ ss. refl)

pub discovery-free : Free discovery
unfolding discovery
discovery-free = (tt, λ ss. refl)

module _ (l : Layout) (s : State) (buf x b : List ℕ) (objects : Slots l.refs) (own n : ℕ) (a : Answer) (eb : b ≡ marked l.shape s.position x)
    (ea : a ≡ first_fail (judge_tests l s (image_in l b 0) own n)) where
  abbrev img : List ℕ
  img = told_image l.shape s.position x

  abbrev kept : Slots l.refs
  kept = told_slots s.position img objects

  img-is : image_in l b 0 ≡ img
  img-is = image-is l s.position x b eb

  module _ (eo : own ≡ pick (nests_right img kept) 0 12) (en : n ≡ told_faults (env_of s) img objects) where
    answer-is : a ≡ first_fail (judge_tests l s img (pick (nests_right img kept) 0 12) n)
    answer-is = ea ∙ ap₂ (λ (y : List ℕ) (o : ℕ). first_fail (judge_tests l s y o n)) img-is eo

    number : slots_rule (env_of s) img kept ≡ n
    number = faults-told (env_of s) img objects ∙ sym en

    rests : List Test
    rests = room_tests (s.used + size_of kept) (length buf)

    -- all tests, of which the number of the objects is m
    abbrev tested : ℕ → Answer
    tested m =
        first_fail
        (test (waits s l.kind) 15 0 0
        ∷ test (pairs_right l.shape img) 10 l.kind s.position
        ∷ test (nests_right img kept) 12 l.kind s.position
        ∷ test (eqb m 0) m l.kind s.position
        ∷ rests)

    answers : fill_answer l s (length buf) img kept ≡ tested n
    unfolding fill_answer rests
    answers = ap tested number

    pub fill-refused : (a.number ≡ 0 → ⊥) → (record { answer = a; state = s } ≡ (fill l s buf x objects).step) × (buf ≡ (fill l s buf x objects).buffer)
    unfolding fill
    fill-refused z =
        let h = halves (waits s l.kind) (pairs_right l.shape img) (nests_right img kept) n l.kind s.position rests in
        let e : fill_answer l s (length buf) img kept ≡ a = answers ∙ h.1 (λ q. z (ap (λ (y : Answer). y.number) answer-is ∙ q)) ∙ sym answer-is in
        (rw (e, ne_eqb a.number 0 z) refl, rw (e, ne_eqb a.number 0 z) refl)

    -- room and bytes are left to do
    pub fill_done : a.number ≡ 0 → laid l s buf b kept ≡ fill l s buf x objects
    unfolding fill laid rests
    fill_done z =
        let h = halves (waits s l.kind) (pairs_right l.shape img) (nests_right img kept) n l.kind s.position rests in
        let e : fill_answer l s (length buf) img kept ≡ first_fail rests = answers ∙ h.0 (sym (ap (λ (y : Answer). y.number) answer-is) ∙ z) in
        let done : List ℕ → Answer → Outcome = λ y r. outcome r s (next s (size_of kept) (l.newer kept)) buf (placed buf (place_of s l) s.used y kept) in
        ap₂ done img-is (sym e)

-- ---- what no fault says

pub first-none : (x y : ℕ) → first_of x y ≡ 0 → (x ≡ 0) × (y ≡ 0)
first-none x y e = go (eqb x 0) refl e
  where
    go : (c : Bool) → eqb x 0 ≡ c → pick c y x ≡ 0 → (x ≡ 0) × (y ≡ 0)
    go true q z = (eqb-true x 0 q, z)
    go false q z = absurd (unlike x q z)

-- an object without a fault, in a build of no records
kept-short : (n : Need) (c : Content) (o : List ℕ) → told_in (env (λ i. 0) 0) n c o ≡ 0 → length (under n [] (ended c o)) ≤ 65535
kept-short n c o e =
    let k = under n [] (ended c o) in
    let none = env (λ i. 0) 0 in
    go (fits_need n k) (is_short k) refl (first-none (pick (fits_need n k && is_short k) 0 11) (ruled c none k) (told-fault none n c o ∙ e)).0
  where
    go : (f d : Bool) → is_short (under n [] (ended c o)) ≡ d → ◌≡◌ {A = ℕ} (pick (f && d) 0 11) 0 → length (under n [] (ended c o)) ≤ 65535
    go true true q z = leb-true (length (under n [] (ended c o))) 65535 q
    go true false q z = absurd (omega arith)
    go false d q z = absurd (omega arith)

-- but for the number that they alone can have, positions are any bytes
as-anything : (n : Need) (o : List ℕ) → told_fault n positions o ≡ told_fault n anything o
as-anything Ignored o = refl
as-anything Optional o = refl
as-anything Required [] = refl
as-anything Required (x ∷ o) = refl

pub fault-short : (n : Need) (c : Content) (o : List ℕ) → told_fault n c o ≡ 0 → length (under n [] (ended c o)) ≤ 65535
fault-short n anything o e = kept-short n anything o e
fault-short n text o e = kept-short n text o e
fault-short n positions o e = kept-short n anything o (sym (as-anything n o) ∙ e)

-- a heap record that may be there, whose only object has the fault f
pub nested-fault : (f : ℕ) → f ≡ first_of (first_of f 0) 0
nested-fault f = sym (first-zero (first_of f 0) ∙ first-zero f)
