-- The heap records and objects of the call. Assumes nothing.
use mathlib.Core.Path.{◌≡◌, refl, sym, ap, ap₂, ◌∙◌}
use mathlib.Core.Bool.{Bool, true, false, ◌&&◌, ◌||◌}
use mathlib.Core.List.{List, [], ◌∷◌, ◌++◌, append_assoc, append-nil}
use Prim.Native.Nat.{ℕ, ◌+◌, ◌/◌, ◌%◌, ◌≤◌}
use native.Mathlib.Omega.{arith}
use native.Mathlib.Nat.{add-zero}
use lib.ListN.{length, get_or, length-append}
use lib.Dec.{eqb, lit<}
use borrow.Author.Tests.{eq-eqb, ne_eqb, eqb-true}
use Rattle.table.specs.declared.Need.{Need}
use Rattle.table.specs.declared.Need.TheVariants.{Optional}
use Rattle.table.specs.declared.Answer.{Answer}
use Rattle.table.specs.declared.State.{State}
use Rattle.table.specs.Bytes.{pick, num}
use Rattle.table.specs.Layout.{Slots, rec_at, base_of, anything, text}
use Rattle.table.specs.FixedLayouts.{layout_of, when_set, info_rule, identity_rule, hfi, info, hfi_extended}
use Rattle.table.specs.Objects.{under, size_of, heap_of, patched}
use Rattle.table.specs.Rules.{first_of, first_fail}
use Rattle.table.specs.Builder.{env_of, ended, waits, told_image, told_slots, nests_right}
use Rattle.laws.specs.Fields.{Bytes, image_in, masked-if, whole, one_byte}
use Rattle.laws.specs.RefWalk.{first-zero}
use Rattle.bytes_writer.proofs.StoreLaws.{concat}
use Rattle.builder_writers.specs.Written.{record_with}
use Rattle.builder_writers.proofs.WriterLaws.{record_is}
use Rattle.builder_told.specs.Marks.{marked}
use Rattle.laws.specs.TextLaws.{told_fault}
use Rattle.builder_told.proofs.Laws.{image-is}
use Rattle.builder_record.specs.Steps.{laid, judge_tests}
use Rattle.builder_record.specs.Calls.{identity_told, info_told, hfi_told, tell_hfi}
use Rattle.builder_record.proofs.JudgeLaws.{judge-passed}
use Rattle.builder_record.proofs.FillLaws.{told_faults, fill-refused, fill_done, first-none, fault-short}
use Rattle.builder_hfi.specs.HfiParts.{own_need, own_fault, hfi_fault, hfi_slots, identity_size, identity_part, info_part, laid_hfi}

-- ---- bytes of the transport info, in x

pub version-is : (x : List ℕ) → Bytes x → get_or (image_in info x 0) 3 0 ≡ get_or x 3 0
unfolding image_in info
version-is x b = whole info.shape.keep x 0 3 tt refl (b 3)

pub origin-is : (x : List ℕ) → Bytes x → get_or (image_in info x 0) 19 0 ≡ get_or x 19 0
unfolding image_in info
origin-is x b = whole info.shape.keep x 0 19 tt refl (b 19)

-- flag 3 counts if bit 1 of the version is set
flags-are : (x : List ℕ) → num (image_in info x 0) 6 1 ≡ get_or x 6 0 % pick (eqb (get_or x 3 0 % 4 / 2) 0) 8 16
unfolding image_in info
flags-are x = one_byte (image_in info x 0) 6 ∙ masked-if info.shape.keep x 0 6 3 2 8 16 tt refl

-- the rule of the transport info as the code tests it: version, flags, origin
abbrev pub info_tests : ℕ → ℕ → ℕ → ℕ
info_tests v f o = pick (eqb v 1) 0 (pick (eqb v 2) (pick (eqb (f / 8 % 2) 0) 0 (pick (eqb (f / 4 % 2) 0) (pick (eqb o 0) 0 12) 12)) 12)

flagged : (a b c : Bool) → pick {X = ℕ} a 0 (pick b (pick c 0 12) 12) ≡ pick (a || (b && c)) 0 12
flagged true b c = refl
flagged false true c = refl
flagged false false c = refl

-- n are the flags that count
module _ (v f o n : ℕ) (e : n ≡ f % pick (eqb (v % 4 / 2) 0) 8 16) where
  abbrev Tested : Type 0
  Tested = info_tests v f o ≡ pick ((eqb v 1 || eqb v 2) && (eqb (n / 8 % 2) 0 || (eqb (n / 4 % 2) 0 && eqb o 0))) 0 12

  counted : (w : ℕ) → v ≡ w → n ≡ f % pick (eqb (w % 4 / 2) 0) 8 16
  counted w q = e ∙ ap (λ (m : ℕ). f % pick (eqb (m % 4 / 2) 0) 8 16) q

  second : (z : Bool) → eqb v 2 ≡ z → eqb v 1 ≡ false → Tested
  second true q q₁ =
      let m : n ≡ f % 16 = counted 2 (eqb-true v 2 q) in
      let n₈ : n / 8 % 2 ≡ f / 8 % 2 = omega (arith, m) in
      let n₄ : n / 4 % 2 ≡ f / 4 % 2 = omega (arith, m) in
      rw (q₁, q, n₈, n₄) (flagged (eqb (f / 8 % 2) 0) (eqb (f / 4 % 2) 0) (eqb o 0))
  second false q q₁ = rw (q₁, q) refl

  first : (z : Bool) → eqb v 1 ≡ z → Tested
  first true q = let m : n ≡ f % 8 = counted 1 (eqb-true v 1 q) in rw (q, eq-eqb (n / 8 % 2) 0 (omega (arith, m))) refl
  first false q = second (eqb v 2) refl q

  tests-are : Tested
  tests-are = first (eqb v 1) refl

pub info-fault-is : (x : List ℕ) → Bytes x → info_tests (get_or x 3 0) (get_or x 6 0) (get_or x 19 0) ≡ pick (info_rule [] (image_in info x 0)) 0 12
info-fault-is x b =
    rw (version-is x b, origin-is x b) (tests-are (get_or x 3 0) (get_or x 6 0) (get_or x 19 0) (num (image_in info x 0) 6 1) (flags-are x))

-- ---- the client identifier, by the image e of the HFI extended info, f its flags, o the origin

module _ (y e : List ℕ) (f o : ℕ) (ef : f ≡ num e 4 4) (eo : o ≡ get_or y 19 0) where
  pub no-identifier : f / 2 % 2 ≡ 0 → ◌≡◌ {A = ℕ} 0 (pick (identity_rule y e) 0 12)
  no-identifier z = rw (eq-eqb (num e 4 4 / 2 % 2) 0 (ap (λ (n : ℕ). n / 2 % 2) (sym ef) ∙ z)) refl

  module _ (some : f / 2 % 2 ≡ 0 → ⊥) where
    set : eqb (num e 4 4 / 2 % 2) 0 ≡ false
    set = ne_eqb (num e 4 4 / 2 % 2) 0 (λ q. some (ap (λ (n : ℕ). n / 2 % 2) ef ∙ q))

    pub from-dhcp : o ≡ 3 → ◌≡◌ {A = ℕ} 0 (pick (identity_rule y e) 0 12)
    from-dhcp z = rw (set, eq-eqb (get_or y 19 0) 3 (sym eo ∙ z)) refl

    pub from-elsewhere : (o ≡ 3 → ⊥) → ◌≡◌ {A = ℕ} 12 (pick (identity_rule y e) 0 12)
    from-elsewhere z = rw (set, ne_eqb (get_or y 19 0) 3 (λ q. z (eo ∙ q))) refl

-- ---- the rules of the heap records, of which y and e are images

both : (a b : Bool) → first_of (pick a 0 12) (pick b 0 12) ≡ pick (a && ((b && (true && true)) && true)) 0 12
both true true = refl
both true false = refl
both false b = refl

alone : (a : Bool) → first_of (pick a 0 12) 0 ≡ pick (a && (true && true)) 0 12
alone true = refl
alone false = refl

own-rules : (img y name e iaid duid : List ℕ) (there : Bool) → own_fault y there e ≡ pick (nests_right img (hfi_told y name there e iaid duid)) 0 12
unfolding own_fault nests_right hfi_told info_told identity_told hfi info hfi_extended
own-rules img y name e iaid duid true = both (info_rule [] y) (identity_rule y e)
own-rules img y name e iaid duid false = alone (info_rule [] y)

-- ---- the HFI extended info, in c, and its objects

pub three-long : (p q r : List ℕ) → length (concat (p ∷ q ∷ r ∷ [])) ≡ length p + (length q + length r)
three-long p q r = simp (length-append, add-zero)

pub identity-none : (c : List ℕ) (at : ℕ) (there : Bool) (iaid duid : List ℕ) → there ≡ false → identity_part c at there iaid duid ≡ []
unfolding identity_part
identity-none c at there iaid duid e = rw e refl

module _ (there : Bool) (iaid duid : List ℕ) (t : there ≡ true) where
  pub identity-some : (c : List ℕ) (at : ℕ) (r : List ℕ) → r ≡ record_with hfi_extended c (at + 20) (length iaid ∷ length duid ∷ []) (length iaid ∷ length duid ∷ [])
      → concat (r ∷ iaid ∷ duid ∷ []) ≡ identity_part c at there iaid duid
  unfolding hfi_extended identity_part
  identity-some c at r e = rw (e, t) refl

  pub identity-long : identity_size there iaid duid ≡ 20 + (length iaid + length duid)
  unfolding hfi_extended identity_size
  identity-long = rw t refl

pub identity-size-is : (there : Bool) (iaid duid : List ℕ) (m : ℕ) → m ≡ pick there 20 0 → m + (length iaid + length duid) ≡ identity_size there iaid duid
unfolding hfi_extended identity_size
identity-size-is there iaid duid m e = ap (λ (n : ℕ). n + (length iaid + length duid)) e

-- the transport info, in i, of which w is the record as it stands in the heap
pub info-part : (i : List ℕ) (at : ℕ) (name : List ℕ) (there : Bool) (c iaid duid w : List ℕ) (m n : ℕ) → m ≡ pick there 20 0 → n ≡ identity_size there iaid duid
    → w ≡ record_with info i (at + 128) (length name ∷ m ∷ []) (length name ∷ n ∷ [])
    → concat (w ∷ name ∷ []) ++ identity_part c (at + 128 + length name) there iaid duid ≡ info_part i at name there c iaid duid
unfolding info hfi_extended info_part
info-part i at name there c iaid duid w m n em en e =
    let x : List ℕ = identity_part c (at + 128 + length name) there iaid duid in
    let flat : concat (w ∷ name ∷ []) ++ x ≡ w ++ (name ++ (x ++ [])) = simp (append_assoc, append-nil) in
    flat
    ∙ ap (λ (r : List ℕ). r ++ (name ++ (x ++ [])))
    (e ∙ ap₂ (λ (y z : ℕ). record_with info i (at + 128) (length name ∷ y ∷ []) (length name ∷ z ∷ [])) em en)

-- ---- what the HFI names, laid out: b, i and c are the bytes of HFI, transport info and HFI extended info, u the bytes used

module _ (b i name c : List ℕ) (u : ℕ) where
  abbrev own : List ℕ
  own = image_in info i 0

  abbrev extended : List ℕ
  extended = image_in hfi_extended c 0

  -- m bytes are those of the HFI extended info and its objects
  abbrev pub Laid : Slots hfi.refs → (there : Bool) (m : ℕ) (iaid duid : List ℕ) → Type 0
  Laid ss there m iaid duid =
      (128 + (length name + m) ≡ size_of ss)
      × (record_with hfi b u (base_of info ∷ []) ((base_of info + (length name + m)) ∷ []) ≡ patched u (image_in hfi b 0) ss)
      × (info_part i u name there c iaid duid ≡ heap_of u ss)

  with-identity : (iaid duid : List ℕ) → Laid (hfi_told own name true extended iaid duid) true (20 + (length iaid + length duid)) iaid duid
  unfolding hfi info hfi_extended hfi_told info_told identity_told size_of heap_of info_part identity_part identity_size
  with-identity iaid duid =
      let h : ℕ = u + 128 + length name + 20 in
      let e₇ = record_is info i (u + 128) (length name ∷ 20 ∷ [])
      (length name ∷ (20 + (length iaid + length duid)) ∷ []) (info_told name true extended iaid duid)
      (refl, refl, refl, (refl, refl, lit< tt, omega arith, tt)) in
      let e₁₀ = record_is hfi_extended c h (length iaid ∷ length duid ∷ []) (length iaid ∷ length duid ∷ [])
      (identity_told iaid duid) (refl, refl, refl, (refl, refl, refl, tt)) in (
        omega arith,
        record_is hfi b u _ _ (hfi_told own name true extended iaid duid) (refl, refl, lit< tt, omega arith, tt),
        ap₂ (λ (r w : List ℕ). r ++ (name ++ ((w ++ (iaid ++ (duid ++ []))) ++ []))) e₇ e₁₀
            ∙ sym (append-nil (patched (u + 128) own (info_told name true extended iaid duid)
            ++ (name ++ ((patched h extended (identity_told iaid duid) ++ (iaid ++ (duid ++ []))) ++ [])))),
      )

  without-identity : Laid (hfi_told own name false extended [] []) false 0 [] []
  unfolding hfi info hfi_extended hfi_told info_told identity_told size_of heap_of info_part identity_part identity_size
  without-identity =
      let e₇ = record_is info i (u + 128) (length name ∷ 0 ∷ []) (length name ∷ 0 ∷ []) (info_told name false extended [] []) (refl, refl, refl, (refl, refl, refl, tt)) in (
        omega arith,
        record_is hfi b u _ _ (hfi_told own name false extended [] []) (refl, refl, lit< tt, omega arith, tt),
        ap (λ (r : List ℕ). r ++ (name ++ [])) e₇ ∙ sym (append-nil (patched (u + 128) own (info_told name false extended [] []) ++ (name ++ []))),
      )

  pub hfi-laid : (there : Bool) (need : Need) (iaid duid p q : List ℕ) (m : ℕ) → need ≡ own_need there extended → p ≡ under need [] iaid → q ≡ under need [] duid → m ≡ identity_size there p q
      → Laid (hfi_slots own name there extended iaid duid) there m p q
  unfolding hfi_slots own_need identity_size hfi_extended
  hfi-laid true need iaid duid p q m n e f g =
      let e₁ : p ≡ under (when_set 4 4 1 1 extended) [] iaid = e ∙ ap (λ (x : Need). under x [] iaid) n in
      let f₁ : q ≡ under (when_set 4 4 1 1 extended) [] duid = f ∙ ap (λ (x : Need). under x [] duid) n in
      rw (g, e₁, f₁) (with-identity (under (when_set 4 4 1 1 extended) [] iaid) (under (when_set 4 4 1 1 extended) [] duid))
  hfi-laid false need iaid duid p q m n e f g =
      let e₁ : p ≡ [] = e ∙ ap (λ (x : Need). under x [] iaid) n in
      let f₁ : q ≡ [] = f ∙ ap (λ (x : Need). under x [] duid) n in
      rw (g, e₁, f₁) without-identity

-- an info of version 2 asks for header minor 1
pub newer-is : (y name e iaid duid : List ℕ) (there : Bool) → eqb (get_or y 3 0) 2 ≡ hfi.newer (hfi_slots y name there e iaid duid)
unfolding hfi hfi_slots hfi_told rec_at
newer-is y name e iaid duid there = refl

-- ---- the call: i and e are told, c and d the same as the builder has them

module _ (s : State) (buf x b i c name : List ℕ) (told : Bool) (e d iaid duid : List ℕ) (own objects : ℕ) (a : Answer)
    (eb : b ≡ marked (layout_of 3).shape s.position x) (ec : c ≡ marked (layout_of 7).shape s.position i) (ed : d ≡ marked (layout_of 10).shape s.position e)
    (there : Bool) (et : there ≡ (told && eqb (get_or (image_in info c 0) 3 0) 2))
    (eo : own ≡ own_fault (image_in info c 0) there (image_in hfi_extended d 0))
    (en : objects ≡ hfi_fault name (own_need there (image_in hfi_extended d 0)) iaid duid)
    (ea : a ≡ first_fail (judge_tests (layout_of 3) s (image_in (layout_of 3) b 0) own objects)) where
  abbrev img₃ : List ℕ
  img₃ = told_image hfi.shape s.position x

  abbrev img₇ : List ℕ
  img₇ = told_image info.shape s.position i

  abbrev img₁₀ : List ℕ
  img₁₀ = told_image hfi_extended.shape s.position e

  told₇ : image_in info c 0 ≡ img₇
  unfolding layout_of
  told₇ = image-is info s.position i c ec

  told₁₀ : image_in hfi_extended d 0 ≡ img₁₀
  unfolding layout_of
  told₁₀ = image-is hfi_extended s.position e d ed

  there-is : there ≡ (told && eqb (get_or img₇ 3 0) 2)
  there-is = et ∙ ap (λ (y : List ℕ). told && eqb (get_or y 3 0) 2) told₇

  -- what is left of what is told
  abbrev left : Bool → Slots hfi.refs
  left t = hfi_slots img₇ (ended text name) t img₁₀ iaid duid

  left_by : (t v : Bool) → eqb (get_or img₇ 3 0) 2 ≡ v → told_slots s.position img₃ (hfi_told i name t e iaid duid) ≡ left (t && v)
  unfolding hfi info hfi_extended hfi_slots hfi_told info_told identity_told told_slots own_need
  left_by true true q = rw q refl
  left_by true false q = rw q refl
  left_by false v q = refl

  left_is : told_slots s.position img₃ (hfi_told i name told e iaid duid) ≡ left there
  left_is = left_by told (eqb (get_or img₇ 3 0) 2) refl ∙ ap left (sym there-is)

  fault-is : (t v : Bool) → eqb (get_or img₇ 3 0) 2 ≡ v → hfi_fault name (own_need (t && v) img₁₀) iaid duid ≡ told_faults (env_of s) img₃ (hfi_told i name t e iaid duid)
  unfolding hfi info hfi_extended hfi_told info_told identity_told own_need
  fault-is true true q =
      let f₁ : ℕ = told_fault Optional text name in
      let f₂ : ℕ = told_fault (when_set 4 4 1 1 img₁₀) anything iaid in
      let f₃ : ℕ = told_fault (when_set 4 4 1 1 img₁₀) anything duid in
      rw q (sym (first-zero (first_of f₁ (first_of (first_of f₂ (first_of f₃ 0)) 0)) ∙ ap (first_of f₁) (first-zero (first_of f₂ (first_of f₃ 0)) ∙ ap (first_of f₂) (first-zero f₃))))
  fault-is true false q = rw q (sym (first-zero (first_of (told_fault Optional text name) 0)))
  fault-is false true q = rw q (sym (first-zero (first_of (told_fault Optional text name) 0)))
  fault-is false false q = rw q (sym (first-zero (first_of (told_fault Optional text name) 0)))

  kept₃ : Slots hfi.refs
  kept₃ = told_slots s.position img₃ (hfi_told i name told e iaid duid)

  own_is : own ≡ pick (nests_right img₃ kept₃) 0 12
  unfolding kept₃ hfi_slots
  own_is =
      eo ∙ ap₂ (λ (y z : List ℕ). own_fault y there z) told₇ told₁₀
      ∙ own-rules img₃ img₇ (ended text name) img₁₀ (under (own_need there img₁₀) [] iaid) (under (own_need there img₁₀) [] duid) there
      ∙ ap (λ (ss : Slots hfi.refs). pick (nests_right img₃ ss) 0 12) (sym left_is)

  objects-are : objects ≡ told_faults (env_of s) img₃ (hfi_told i name told e iaid duid)
  objects-are =
      en ∙ ap₂ (λ (t : Bool) (y : List ℕ). hfi_fault name (own_need t y) iaid duid) there-is told₁₀
      ∙ fault-is told (eqb (get_or img₇ 3 0) 2) refl

  pub hfi-refused : (a.number ≡ 0 → ⊥)
      → (record { answer = a; state = s } ≡ (tell_hfi s buf x i name told e iaid duid).step) × (buf ≡ (tell_hfi s buf x i name told e iaid duid).buffer)
  unfolding tell_hfi layout_of kept₃
  hfi-refused z = fill-refused hfi s buf x b (hfi_told i name told e iaid duid) own objects a eb ea own_is objects-are z

  pub hfi-passed : a.number ≡ 0
      → (waits s 3 ≡ true) × (length (ended text name) ≤ 65535)
      × (length (under (own_need there (image_in hfi_extended d 0)) [] iaid) ≤ 65535)
      × (length (under (own_need there (image_in hfi_extended d 0)) [] duid) ≤ 65535)
  unfolding layout_of hfi
  hfi-passed z =
      let n : Need = own_need there (image_in hfi_extended d 0) in
      let p = judge-passed (layout_of 3) s (image_in (layout_of 3) b 0) own objects a ea z in
      let a₁ = first-none (told_fault Optional text name) (first_of (told_fault n anything iaid) (told_fault n anything duid)) (sym en ∙ p.1) in
      let a₂ = first-none (told_fault n anything iaid) (told_fault n anything duid) a₁.1 in
      (p.0, fault-short Optional text name a₁.0, fault-short n anything iaid a₂.0, fault-short n anything duid a₂.1)

  pub hfi-done : a.number ≡ 0 → laid_hfi s buf b c (ended text name) there d iaid duid ≡ tell_hfi s buf x i name told e iaid duid
  unfolding laid_hfi tell_hfi layout_of kept₃
  hfi-done z =
      ap₂ (λ (y w : List ℕ). laid hfi s buf b (hfi_slots y (ended text name) there w iaid duid)) told₇ told₁₀
      ∙ ap (laid hfi s buf b) (sym left_is)
      ∙ fill_done hfi s buf x b (hfi_told i name told e iaid duid) own objects a eb ea own_is objects-are z
