-- The objects of the call. Assumes nothing.
use mathlib.Core.Path.{◌≡◌, refl, sym, ap, ap₂, ◌∙◌}
use mathlib.Core.Bool.{Bool, true, false}
use mathlib.Core.List.{List, [], ◌∷◌, ◌++◌, append_assoc, append-nil}
use Prim.Native.Nat.{ℕ, ◌+◌, ◌/◌, ◌%◌, ◌≤◌}
use native.Mathlib.Omega.{arith}
use lib.ListN.{length}
use lib.Dec.{eqb, lit<}
use borrow.Author.Tests.{eq-eqb, ne_eqb}
use Rattle.table.specs.declared.Need.{Need}
use Rattle.table.specs.declared.Need.TheVariants.{Ignored, Optional, Required}
use Rattle.table.specs.declared.Answer.{Answer}
use Rattle.table.specs.declared.State.{State}
use Rattle.table.specs.Bytes.{pick, num, bits}
use Rattle.table.specs.Layout.{Slots, nil, bytes, gone, rec, anything, text, positions, are_positions}
use Rattle.table.specs.FixedLayouts.{layout_of, hfi, ssns, extended}
use Rattle.table.specs.Objects.{under, size_of, heap_of, patched}
use Rattle.table.specs.Rules.{first_of, first_fail}
use Rattle.table.specs.Builder.{env_of, waits, ended, told_image, told_slots}
use Rattle.laws.specs.Fields.{image_in}
use Rattle.bytes_writer.proofs.StoreLaws.{concat}
use Rattle.builder_writers.specs.Written.{record_with}
use Rattle.builder_writers.proofs.WriterLaws.{record_is}
use Rattle.builder_told.specs.Marks.{marked}
use Rattle.builder_told.proofs.Laws.{image-is}
use Rattle.builder_record.specs.Steps.{laid, judge_tests}
use Rattle.builder_record.proofs.JudgeLaws.{judge-passed}
use Rattle.builder_record.specs.Calls.{path_told, ssns_told, tell_ssns}
use Rattle.builder_ssns.specs.SsnsParts.{own_need, others_fault, ssns_fault, ssns_slots, extended_size, extended_part, named_part, laid_ssns}
use Rattle.builder_record.proofs.FillLaws.{nested-fault, told_faults, unruled, ssns-free, fill-refused, fill_done, first-none, fault-short}
use Rattle.laws.specs.TextLaws.{told_fault}

-- ---- the extended info, in c, and its object

pub extended_none : (c : List ℕ) (a m : ℕ) (path : List ℕ) → m ≡ 0 → extended_part c a m path ≡ []
unfolding extended_part
extended_none c a m path e = rw (eq-eqb m 0 e) refl

module _ (m : ℕ) (path : List ℕ) (there : m ≡ 0 → ⊥) where
  pub extended-some : (c : List ℕ) (a : ℕ) (r : List ℕ) → r ≡ record_with extended c (a + 18) (length path ∷ []) (length path ∷ []) → concat (r ∷ path ∷ []) ≡ extended_part c a m path
  unfolding extended extended_part
  extended-some c a r e = rw (e, ne_eqb m 0 there) refl

  pub extended-long : extended_size m path ≡ 18 + length path
  unfolding extended extended_size
  extended-long = rw (ne_eqb m 0 there) refl

-- it takes no more than is counted
pub extended-room : (need : Need) (m : ℕ) (own : List ℕ) → m ≡ under need 0 18 → extended_size m own ≤ m + length own
unfolding extended extended_size
extended-room Ignored m own e = rw e (omega arith)
extended-room Optional m own e = rw e (omega arith)
extended-room Required m own e = rw e (omega arith)

-- three objects, then the text, then the rest
pub three-then : (p q r s x : List ℕ) → (concat (p ∷ q ∷ r ∷ [] ∷ [] ∷ [] ∷ []) ++ s) ++ x ≡ concat (p ∷ q ∷ r ∷ s ∷ x ∷ [])
three-then p q r s x = simp (append_assoc, append-nil)

-- text that is dropped is not ended
pub ended-under : (n : Need) (o : List ℕ) → ended text (under n [] o) ≡ under n [] (ended text o)
ended-under Ignored o = refl
ended-under Optional o = refl
ended-under Required o = refl

-- ---- an SSNS record, in b, and its extended info, in c

module _ (b c address service others nqn path : List ℕ) (u : ℕ) where
  abbrev img : List ℕ
  img = image_in ssns b 0

  abbrev inner : List ℕ
  inner = image_in extended c 0

  -- flag 4
  abbrev off : Bool
  off = eqb (bits 3 2 4 4 img) 0

  abbrev front : ℕ
  front = length address + length service + length others + length nqn

  -- what is named where flag 4 is f
  under₄ : Bool → Slots ssns.refs
  unfolding ssns
  under₄ f = bytes address (bytes service (bytes others (bytes nqn (under (pick f Ignored Required) (gone nil) (rec inner (path_told path) nil)))))

  abbrev pub Laid : Slots ssns.refs → (m : ℕ) (own : List ℕ) → Type 0
  Laid ss m own = (front + m + length own ≡ size_of ss)
      × (record_with ssns b u (length address ∷ length service ∷ length others ∷ length nqn ∷ m ∷ []) (length address ∷ length service ∷ length others ∷ length nqn ∷ (m + length own) ∷ [])
      ≡ patched u img ss)
      × (named_part u address service others nqn m c own ≡ heap_of u ss)

  not_there : Laid (under₄ true) 0 []
  unfolding ssns under₄ size_of heap_of named_part extended_part
  not_there = (
    omega arith,
    record_is ssns b u _ _ (under₄ true) (refl, refl, refl, (refl, refl, refl, (refl, refl, refl, (refl, refl, refl, (refl, refl, refl, tt))))),
    refl,
  )

  there : Laid (under₄ false) 18 path
  unfolding ssns extended path_told under₄ size_of heap_of named_part extended_part
  there = (
    omega arith,
    record_is ssns b u _ _ (under₄ false) (refl, refl, refl, (refl, refl, refl, (refl, refl, refl, (refl, refl, refl, (refl, refl, lit< tt, omega arith, tt))))),
    ap (λ (y : List ℕ). address ++ (service ++ (others ++ (nqn ++ ((y ++ (path ++ [])) ++ [])))))
        (record_is extended c (u + length address + length service + length others + length nqn + 18) _ _ (path_told path) (refl, refl, refl, tt)),
  )

  pub ssns-laid : (need : Need) (m : ℕ) (own : List ℕ) → need ≡ own_need img → m ≡ under need 0 18 → own ≡ under need [] path
      → Laid (ssns_slots img address service others nqn inner path) m own
  unfolding ssns_slots under₄ own_need
  ssns-laid need m own e em eo = go off refl
    where
      go : (f : Bool) → off ≡ f → Laid (under₄ f) m own
      go true q =
          let n₀ : need ≡ Ignored = e ∙ ap (λ (g : Bool). pick g Ignored Optional) q in
          let m₀ : m ≡ 0 = em ∙ ap (λ (n : Need). under n 0 18) n₀ in
          let o₀ : own ≡ [] = eo ∙ ap (λ (n : Need). under n [] path) n₀ in
          rw (m₀, o₀) not_there
      go false q =
          let n₀ : need ≡ Optional = e ∙ ap (λ (g : Bool). pick g Ignored Optional) q in
          let m₀ : m ≡ 18 = em ∙ ap (λ (n : Need). under n 0 18) n₀ in
          let o₀ : own ≡ path = eo ∙ ap (λ (n : Need). under n [] path) n₀ in
          rw (m₀, o₀) there

-- what is told of it: c is the extended info as the builder has it

module _ (s : State) (buf x b address service others nqn e c path : List ℕ) (a : Answer) (eb : b ≡ marked (layout_of 4).shape s.position x)
    (ec : c ≡ marked (layout_of 9).shape s.position e)
    (ea : a ≡ first_fail (judge_tests (layout_of 4) s (image_in (layout_of 4) b 0) 0 (ssns_fault (image_in ssns b 0) s.hfi address service others nqn path)))
  where
    abbrev img₄ : List ℕ
    img₄ = told_image ssns.shape s.position x

    abbrev img₉ : List ℕ
    img₉ = told_image extended.shape s.position e

    told₄ : image_in ssns b 0 ≡ img₄
    unfolding layout_of
    told₄ = image-is ssns s.position x b eb

    told₉ : image_in extended c 0 ≡ img₉
    unfolding layout_of
    told₉ = image-is extended s.position e c ec

    last-fault : (f : Bool) → eqb (bits 3 2 4 4 img₄) 0 ≡ f → told_fault (own_need img₄) text path
        ≡ first_of (under (pick f Ignored Required) 0 (told_faults (env_of s) img₉ (path_told path))) 0
    unfolding own_need extended path_told
    last-fault true q = ap (λ (g : Bool). told_fault (pick g Ignored Optional) text path) q
    last-fault false q = ap (λ (g : Bool). told_fault (pick g Ignored Optional) text path) q ∙ nested-fault (told_fault Optional text path)

    abbrev fault₄ : List ℕ → ℕ
    fault₄ img = ssns_fault img s.hfi address service others nqn path

    ssns-fault : fault₄ (image_in ssns b 0) ≡ told_faults (env_of s) img₄ (ssns_told address service others nqn e path)
    unfolding hfi ssns extended ssns_told path_told
    ssns-fault =
        ap fault₄ told₄
        ∙ ap (λ (f : ℕ). first_of (told_fault Required anything address) (first_of (told_fault Required anything service) (first_of (others_fault s.hfi others) (first_of (told_fault
        Required text nqn) f))))
        (last-fault (eqb (bits 3 2 4 4 img₄) 0) refl)

    pub ssns-refused : (a.number ≡ 0 → ⊥)
        → (record { answer = a; state = s } ≡ (tell_ssns s buf x address service others nqn e path).step) × (buf ≡ (tell_ssns s buf x address service others nqn e path).buffer)
    unfolding tell_ssns layout_of
    ssns-refused z = fill-refused ssns s buf x b (ssns_told address service others nqn e path) 0 (fault₄ (image_in ssns b 0)) a eb ea (unruled ssns-free.0 _ _) ssns-fault z

    pub ssns-passed : a.number ≡ 0 → (waits s 4 ≡ true) × (length address ≤ 65535) × (length service ≤ 65535) × (length others ≤ 65535) × (length (ended text nqn) ≤ 65535)
        × (length (under (own_need (image_in ssns b 0)) [] (ended text path)) ≤ 65535)
    unfolding layout_of ssns
    ssns-passed z =
        let f₁ : ℕ = told_fault Required anything address in
        let f₂ : ℕ = told_fault Required anything service in
        let f₃ : ℕ = others_fault s.hfi others in
        let f₄ : ℕ = told_fault Required text nqn in
        let f₅ : ℕ = told_fault (own_need (image_in ssns b 0)) text path in
        let p = judge-passed (layout_of 4) s (image_in (layout_of 4) b 0) 0 (fault₄ (image_in ssns b 0)) a ea z in
        let a₁ = first-none f₁ (first_of f₂ (first_of f₃ (first_of f₄ f₅))) p.1 in
        let a₂ = first-none f₂ (first_of f₃ (first_of f₄ f₅)) a₁.1 in
        let a₃ = first-none f₃ (first_of f₄ f₅) a₂.1 in
        let a₄ = first-none f₄ f₅ a₃.1 in
        let a₅ = first-none (told_fault Optional positions others) (pick (are_positions s.hfi others) 0 20) a₃.0 in (
          p.0,
          fault-short Required anything address a₁.0,
          fault-short Required anything service a₂.0,
          fault-short Optional positions others a₅.0,
          fault-short Required text nqn a₄.0,
          fault-short (own_need (image_in ssns b 0)) text path a₄.1,
        )

    pub ssns-done : a.number ≡ 0 → laid_ssns s buf b c address service others (ended text nqn) (ended text path) ≡ tell_ssns s buf x address service others nqn e path
    unfolding laid_ssns ssns_slots tell_ssns layout_of ssns extended ssns_told path_told told_slots
    ssns-done z =
        ap₂ (λ (img own : List ℕ). laid ssns s buf b (ssns_slots img address service others (ended text nqn) own (ended text path))) told₄ told₉
        ∙ fill_done ssns s buf x b (ssns_told address service others nqn e path) 0 (fault₄ (image_in ssns b 0)) a eb ea (unruled ssns-free.0 _ _) ssns-fault z

pub not_own : (img : List ℕ) (f : ℕ) → f ≡ num img 3 2 → f / 16 % 2 ≡ 0 → Ignored ≡ own_need img
unfolding own_need
not_own img f e z = rw (eq-eqb (bits 3 2 4 4 img) 0 (ap (λ (n : ℕ). n / 16 % 2) (sym e) ∙ z)) refl

pub is-own : (img : List ℕ) (f : ℕ) → f ≡ num img 3 2 → (f / 16 % 2 ≡ 0 → ⊥) → Optional ≡ own_need img
unfolding own_need
is-own img f e z = rw (ne_eqb (bits 3 2 4 4 img) 0 (λ q. z (ap (λ (n : ℕ). n / 16 % 2) e ∙ q))) refl
