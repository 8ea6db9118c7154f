-- Demand 3: for accepted tables whose forms keep the limit, equal forms and equal meanings are the same thing; a form is accepted, keeps the meaning, and is its
-- own form. And the length of the form, and its header minor. Assumes nothing.
use Rattle.std.specs.Prelude.{◌≡◌, refl, ◌↔◌, Bool, true, false, ◌||◌, List, [], ◌∷◌, ℕ, ◌+◌, ◌*◌, ◌≤◌, ◌<◌, length, get_or, T, eqb}
use Rattle.std.proofs.Common.{sym, ap, ap₂, ◌∙◌, arith}
use Rattle.table.specs.Bytes.{pick}
use Rattle.table.specs.Layout.{Body, Entry, Layout, Slots, gone, more, nil, rec, rec_at, stop, unused, used}
use Rattle.table.specs.FixedLayouts.{control, discovery, extended, header, hfi, host, info, list_kinds, security, ssns, hfi_extended}
use Rattle.table.specs.Objects.{count_in, newer_body, newer_entry, newer_list, span_body}
use Rattle.table.specs.Rules.{done}
use Rattle.table.specs.Meaning.{Meaning, form, form_length, heap_at, heap_len, limit, meaning, minor_of}
use Rattle.table.specs.Numbers.{check}
use Rattle.laws.specs.Lawful.{Shaped, all_ok}
use Rattle.laws.specs.FormLaws.{form-head, length-form, round_trip}
use Rattle.laws.specs.FormAccepted.{accepted}
use Rattle.laws.specs.AcceptedMeaning.{lawful}

-- every kind's layout is in order: one computed test
pub kinds-in-order : T (all_ok (header ∷ control ∷ host ∷ hfi ∷ ssns ∷ security ∷ discovery ∷ info ∷ extended ∷ hfi_extended ∷ []))
unfolding header control host hfi ssns security discovery info extended hfi_extended
kinds-in-order = tt

span-lists : (b : Body list_kinds) → span_body b ≡ 32 * count_in b 3 + 128 * count_in b 4 + 64 * count_in b 5 + 32 * count_in b 6
unfolding span_body count_in hfi ssns security discovery
span-lists (more hs (more ns (more ss (more ds stop)))) = omega arith

-- the length formula of Rules 6.3 (docs/RULES.md): the last summand is the length of all objects and heap records
pub length-formula : (m : Meaning) → Shaped m
    → length (form m) ≡ 160 + 32 * count_in m.lists 3 + 128 * count_in m.lists 4 + 64 * count_in m.lists 5 + 32 * count_in m.lists 6 + heap_len m
unfolding form_length heap_at
length-formula m w = length-form m w ∙ omega (arith, span-lists m.lists)

-- ---- the header minor

-- an HFI whose info has version 2
unfoldable pub is_version2 : Entry hfi → Bool
unfolding hfi
is_version2 unused = false
is_version2 (used img (gone nil)) = false
is_version2 (used img (rec x own nil)) = eqb (get_or x 3 0) 2

abbrev pub some_version2 : List (Entry hfi) → Bool
some_version2 [] = false
some_version2 (e ∷ es) = is_version2 e || some_version2 es

abbrev pub hfis_of : Body list_kinds → List (Entry hfi)
hfis_of (more hs rest) = hs

newer-is : (e : Entry hfi) → newer_entry e ≡ is_version2 e
unfolding hfi newer_entry is_version2 rec_at
newer-is unused = refl
newer-is (used img (gone nil)) = refl
newer-is (used img (rec x own nil)) = refl

newer-list : (es : List (Entry hfi)) → newer_list es ≡ some_version2 es
unfolding newer_list
newer-list [] = refl
newer-list (e ∷ es) = ap₂ ◌||◌ (newer-is e) (newer-list es)

-- no other kind asks for it
never : (l : Layout) → ((ss : Slots l.refs) → l.newer ss ≡ false) → (es : List (Entry l)) → newer_list es ≡ false
unfolding newer_list newer_entry
never l n [] = refl
never l n (unused ∷ es) = never l n es
never l n (used img ss ∷ es) = ap₂ ◌||◌ (n ss) (never l n es)

newer-lists : (b : Body list_kinds) → newer_body b ≡ some_version2 (hfis_of b)
unfolding newer_body ssns security discovery
newer-lists (more hs (more ns (more cs (more ds stop)))) =
    ap₂ ◌||◌ (newer-list hs) (ap₂ ◌||◌ (never ssns (λ ss. refl) ns) (ap₂ ◌||◌ (never security (λ ss. refl) cs) (ap₂ ◌||◌ (never discovery (λ ss. refl) ds) refl)))
    ∙ or-false (some_version2 hs)
  where
    or-false : (c : Bool) → (c || false) ≡ c
    or-false true = refl
    or-false false = refl

-- byte 50 of a form is 1 where some info has version 2, and else 0
pub form-minor : (m : Meaning) → Shaped m → form_length m ≤ limit → get_or (form m) 50 0 ≡ pick (some_version2 (hfis_of m.lists)) 1 0
unfolding minor_of
form-minor m w short = (form-head m w short).minor ∙ ap (λ (c : Bool). pick {X = ℕ} c 1 0) (newer-lists m.lists)

-- a list of bytes
abbrev pub Bytes : List ℕ → Type 0
Bytes t = (i : ℕ) → get_or t i 0 < 256

-- an accepted table whose form keeps the limit
pub record Rewritable (t : List ℕ) : Type 0 where
  pub is_bytes : Bytes t
  pub is_accepted : check t ≡ done
  pub is_short : form_length (meaning t) ≤ limit

module _ (t : List ℕ) (r : Rewritable t) where
  -- its form is accepted
  pub form-accepted : check (form (meaning t)) ≡ done
  form-accepted = accepted (meaning t) (lawful t r.is_bytes r.is_accepted) r.is_short

  -- keeps the meaning
  pub form-keeps : meaning (form (meaning t)) ≡ meaning t
  form-keeps = round_trip (meaning t) (lawful t r.is_bytes r.is_accepted).shapes r.is_short

  -- and rewrites to itself
  pub form-once : form (meaning (form (meaning t))) ≡ form (meaning t)
  form-once = ap form form-keeps

-- equal forms are equal meanings
pub same-form : (t u : List ℕ) → Rewritable t → Rewritable u → (form (meaning t) ≡ form (meaning u)) ↔ (meaning t ≡ meaning u)
same-form t u r s = (λ e. sym (form-keeps t r) ∙ ap meaning e ∙ form-keeps u s, λ e. ap form e)
