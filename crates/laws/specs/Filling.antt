-- A build in progress: the buffer holds the table of what was told so far, the rest unused; every done call keeps that. Assumes nothing.
use Rattle.std.specs.Prelude.{◌≡◌, Bool, true, not, ◌||◌, get_or, drop, replicate, leb}
use Rattle.std.proofs.Math.Path.{refl, ap}
use Rattle.std.proofs.Common.{sym, ◌∙◌, subst, length-append, drop-drop, leb→le, eqb→eq, lit<}
use Rattle.std.proofs.Math.Bool.{false}
use mathlib.Core.List.{List, [], ◌∷◌, ◌++◌, append_assoc, append-nil}
use Prim.Native.Nat.{ℕ, zero, suc, ◌+◌, ◌-◌, ◌*◌, ◌^◌, ◌≤◌, ◌<◌}
use native.Mathlib.Omega.{arith}
use Rattle.std.proofs.Math.ListN.{length}
use Rattle.std.proofs.lemmas.List.{length-replicate}
use Rattle.std.proofs.Math.Dec.{T, eqb}
use Rattle.std.proofs.Math.Facts.{and_yes, yes_and}
use Rattle.table.specs.declared.State.{State}
use Rattle.table.specs.Bytes.{pick, splice}
use Rattle.table.specs.Layout.{Body, Entry, Env, Layout, Refs, Slots, anything, base_of, bytes, env, nil, pairs_right, unused}
use Rattle.table.specs.FixedLayouts.{discovery, header, hfi, host, list_kinds, security, ssns}
use Rattle.table.specs.Objects.{count_in, heap_body, heap_entry, heap_of, newer_body, newer_entry, patched, rec_entry, size_body, size_entry, size_of, span_body}
use Rattle.table.specs.Rules.{first_of, ruled, test}
use Rattle.table.specs.Meaning.{Meaning, behind, control_bytes, driver_ref, form_length, head_back, head_front, heap_at, heap_len, laid_out, limit, minor_of}
use Rattle.table.specs.Builder.{
  begun,
  count_of,
  counts,
  env_of,
  fill_answer,
  finished,
  finishing,
  first_turn,
  in_list,
  is_short,
  moved,
  nests_right,
  next,
  opened,
  place_of,
  placed,
  room_tests,
  slots_rule,
  start_of,
  told_image,
  told_slots,
  turn_after,
  waits,
}
use Rattle.laws.specs.Lawful.{Fit, FitBody, FitEntry, FitUsed, Shaped}
use Rattle.laws.specs.ByteLaws.{Holds, drop-splice, holds-join, holds-left, holds-right, holds-splice-above, holds-splice-below, length-splice, splice-here}
use Rattle.laws.specs.ListLaws.{OkLayout, length-heap_entry, length-rec_entry}
use Rattle.laws.specs.TestLaws.{all_pass, self-numbered}
use Rattle.laws.specs.FormLaws.{back-part, control-part, front-part, h₀, h₁, h₂, length-laid_out, ok-host, ok-lists, owner-part, small}
use Rattle.laws.specs.Sound.{first-of, pick-of}
use Rattle.laws.specs.ToldLaws.{byte_pow, ok_marks, ok_told, told_fit, told_fixed, told-right, told-valid}
use Rattle.laws.specs.Blank.{AllBlank, BlankFrom, Effect, Put, blank-heap, blank-newer, blank-recs, blank-size, effect, fit-unused, lengths_of}
use Rattle.laws.specs.Turns.{after-other, blank-next, count-is, first-blank, first-other, fit-body-put, missing}
use Rattle.laws.specs.Runs.{Sized, entry_of, with_lists, with_owner}

-- ---- a record and its objects, stored

-- R stored over the zeros zs, H behind all
placed-holds : (b X zs Y R H : List ℕ) (a u : ℕ) → a ≡ length X → u ≡ length (X ++ (zs ++ Y)) → length R ≡ length zs → u + length H ≤ length b
    → Holds b 0 (X ++ (zs ++ Y)) → Holds (splice (splice b a R) u H) 0 (X ++ (R ++ (Y ++ H)))
placed-holds b X zs Y R H a u ea eu er room h =
    let n : length (X ++ (zs ++ Y)) ≡ length X + (length zs + length Y) = length-append X (zs ++ Y) ∙ ap (λ (i : ℕ). length X + i) (length-append zs Y) in
    let hX : Holds b 0 X = holds-left b 0 X (zs ++ Y) h in
    let hY : Holds b (a + length R) Y = subst (λ (i : ℕ). Holds b i Y) (omega arith) (holds-right b (0 + length X) zs Y (holds-right b 0 X (zs ++ Y) h)) in
    let b₁ : List ℕ = splice b a R in
    let r₁ : a + length R ≤ length b = omega arith in
    let l₁ : length b₁ ≡ length b = length-splice b a R r₁ in
    let r₂ : u + length H ≤ length b₁ = omega arith in
    let gX : Holds (splice b₁ u H) 0 X = holds-splice-below b₁ u H r₂ 0 X (omega arith) (holds-splice-below b a R r₁ 0 X (omega arith) hX) in
    let gR : Holds (splice b₁ u H) a R = holds-splice-below b₁ u H r₂ a R (omega arith) (splice-here b a R r₁) in
    let gY : Holds (splice b₁ u H) (a + length R) Y = holds-splice-below b₁ u H r₂ (a + length R) Y (omega arith) (holds-splice-above b a R r₁ (a + length R) Y (omega arith) hY) in
    let gH : Holds (splice b₁ u H) (a + length R + length Y) H = subst (λ (i : ℕ). Holds (splice b₁ u H) i H) (omega arith) (splice-here b₁ u H r₂) in
    let e : 0 + length X ≡ a = omega arith in
    holds-join gX (rw e (holds-join gR (holds-join gY gH)))

-- the bytes behind stay as they were
placed-tail : (b R H : List ℕ) (a u q : ℕ) → a + length R ≤ u → u + length H ≤ length b → u + length H ≤ q → drop q (splice (splice b a R) u H) ≡ drop q b
placed-tail b R H a u q i j k =
    let l₁ : length (splice b a R) ≡ length b = length-splice b a R (omega arith) in
    drop-splice (splice b a R) u H (omega arith) q k ∙ drop-splice b a R (omega arith) q (omega arith)

drop-further : (x y : List ℕ) (n m : ℕ) → n ≤ m → drop n x ≡ drop n y → drop m x ≡ drop m y
drop-further x y n m k e =
    let q : ℕ = m - n in
    let f : n + q ≡ m = omega arith in
    ap (λ (i : ℕ). drop i x) (sym f) ∙ sym (drop-drop q n x) ∙ ap (drop q) e ∙ drop-drop q n y ∙ ap (λ (i : ℕ). drop i y) f

-- ---- the invariant

-- nothing is told from the turn on
abbrev pub Untold : State → Meaning → Type 0
Untold s m = pick (eqb s.turn 2) ((m.owner ≡ unused) × AllBlank m.lists) (BlankFrom s.turn s.position m.lists)

pub record Open (buf : List ℕ) (s : State) (b : List ℕ) (m : Meaning) : Type 0 where
  pub shaped : Shaped m
  pub counted : lengths_of m.lists ≡ counts s
  pub size : s.used ≡ form_length m
  pub short : form_length m ≤ limit
  pub room : form_length m ≤ length b
  pub laid : Holds b 0 (laid_out m 0 0 0 0)
  pub tail : drop (form_length m) b ≡ drop (form_length m) buf
  pub started : eqb s.turn 0 ≡ false
  pub unfinished : eqb s.turn finished ≡ false
  pub untold : Untold s m
  pub minor_is : s.minor ≡ minor_of m

-- ---- begin

header-fit : (e : Env) (sig : Slots header.refs) → slots_rule e [] sig ≡ 0 → Fit e [] sig
unfolding header slots_rule
header-fit e (bytes b nil) r =
    let u = first-of (first_of (pick (is_short b) 0 11) (ruled anything e b)) 0 r in
    let v = first-of (pick (is_short b) 0 11) (ruled anything e b) u.0 in
    let k : length b ≤ 65535 = leb→le (length b) 65535 (pick-of (is_short b) 11 (lit< tt) v.0) in
    (record { need = tt; lawful = rw v.1 tt; short = omega arith }, tt)

four-small : (h n c d : ℕ) → h < 256 → n < 256 → c < 256 → d < 256 → (i : ℕ) → get_or (h ∷ n ∷ c ∷ d ∷ []) i 0 < 256
four-small h n c d p q r s zero = p
four-small h n c d p q r s (suc zero) = q
four-small h n c d p q r s (suc (suc zero)) = r
four-small h n c d p q r s (suc (suc (suc zero))) = s
four-small h n c d p q r s (suc (suc (suc (suc i)))) = lit< tt

-- the header minor of lists of which nothing is told, and of lists with one more record
minor-blank : (m : Meaning) → AllBlank m.lists → minor_of m ≡ 0
unfolding minor_of
minor-blank m k = ap (λ (c : Bool). pick {X = ℕ} c 1 0) (blank-newer m.lists k)

pick-or : (c d : Bool) → pick {X = ℕ} c 1 (pick d 1 0) ≡ pick (c || d) 1 0
pick-or true d = refl
pick-or false d = refl

pub begin-open : (buf oem : List ℕ) (h n c d : ℕ) (sig : Slots header.refs) → length oem ≡ 26 → h < 256 → n < 256 → c < 256 → d < 256
    → let cs = h ∷ n ∷ c ∷ d ∷ [] in let m = opened oem cs sig in
    slots_rule (env (count_of list_kinds cs) 0) [] sig ≡ 0 → form_length m ≤ limit → form_length m ≤ length buf
    → Open buf (begun cs (form_length m)) (splice buf 0 (laid_out m 0 0 0 0)) m
unfolding opened
begin-open buf oem h n c d sig lo ph pn pc pd r short room =
    let cs : List ℕ = h ∷ n ∷ c ∷ d ∷ [] in
    let m : Meaning = opened oem cs sig in
    let f = fit-unused (count_in m.lists) list_kinds cs refl (four-small h n c d ph pn pc pd) in
    let same : (k : ℕ) → count_of list_kinds cs k ≡ count_in m.lists k = λ k. ap (λ (x : List ℕ). count_of list_kinds x k) (sym f.1) ∙ count-is m.lists k in
    let g : count_of list_kinds cs ≡ count_in m.lists = λ i k. same k i in
    let w : Shaped m = record { sized = lo; signed = header-fit (env (count_in m.lists) 0) sig (subst (λ (count : ℕ → ℕ). slots_rule (env count 0) [] sig ≡ 0) g r); owned = tt; listed = f.0 } in
    let len : length (laid_out m 0 0 0 0) ≡ form_length m = length-laid_out m w 0 0 0 0 in
    let fits : 0 + length (laid_out m 0 0 0 0) ≤ length buf = omega arith in
    record {
      shaped = w;
      counted = f.1;
      size = refl;
      short = short;
      room = omega (arith, length-splice buf 0 (laid_out m 0 0 0 0) fits);
      laid = splice-here buf 0 (laid_out m 0 0 0 0) fits;
      tail = drop-splice buf 0 (laid_out m 0 0 0 0) fits (form_length m) (omega arith);
      started = refl;
      unfinished = refl;
      untold = (refl, f.2);
      minor_is = sym (minor-blank m f.2);
    }

-- ---- a record of a list

pub counts_same : (s : State) (m : Meaning) → lengths_of m.lists ≡ counts s → count_of list_kinds (counts s) ≡ count_in m.lists
counts_same s m e = λ i k. (ap (λ (x : List ℕ). count_of list_kinds x k) (sym e) ∙ count-is m.lists k) i

module _ (m : Meaning) (w : Shaped m) (b' : Body list_kinds) (l : Layout) (p : ℕ) (x : Entry l) (f : Effect p x m.lists b' 160 (h₂ m w)) where
  heap-same : heap_at (with_lists m b') ≡ heap_at m
  unfolding heap_at
  heap-same = ap (λ (i : ℕ). 160 + i) f.span

  back-same : head_back (with_lists m b') 0 0 ≡ head_back m 0 0
  unfolding head_back driver_ref
  back-same = rw heap-same

  control-same : control_bytes (with_lists m b') ≡ control_bytes m
  unfolding control_bytes
  control-same = rw f.places

  -- the header minor with x told
  minor-put : (n : ℕ) → n ≡ minor_of m → pick (newer_entry x) 1 n ≡ minor_of (with_lists m b')
  unfolding minor_of
  minor-put n e = ap (λ (j : ℕ). pick (newer_entry x) 1 j) e ∙ pick-or (newer_entry x) (newer_body m.lists) ∙ ap (λ (c : Bool). pick {X = ℕ} c 1 0) (sym f.newer)

  lists_length : form_length (with_lists m b') ≡ form_length m + size_entry x
  unfolding form_length heap_len
  lists_length = rw (heap-same, f.size) (omega arith)

  -- where the objects of x stand
  top : h₂ m w + size_body m.lists ≡ form_length m
  unfolding form_length heap_len h₀ h₁ h₂
  top = omega arith

  before : List ℕ
  before = head_front 0 ++ (0 ∷ (head_back m 0 0 ++ (control_bytes m ++ (rec_entry (h₁ m w) m.owner ++ f.front))))

  beyond : List ℕ
  beyond = f.back ++ (heap_of (h₀ m w) m.driver ++ (heap_entry (h₁ m w) m.owner ++ heap_body (h₂ m w) m.lists))

  was-laid : laid_out m 0 0 0 0 ≡ before ++ (replicate (base_of l) 0 ++ beyond)
  unfolding laid_out behind before beyond h₀ h₁ h₂
  was-laid = rw f.was (simp append_assoc)

  is-laid : laid_out (with_lists m b') 0 0 0 0 ≡ before ++ (rec_entry (form_length m) x ++ (beyond ++ heap_entry (form_length m) x))
  unfolding laid_out behind before beyond h₀ h₁ h₂
  is-laid = rw (back-same, control-same, heap-same, f.becomes, f.heap, top) (simp append_assoc)

  before-length : length before ≡ 160 + length f.front
  unfolding before
  before-length = simp (length-append, front-part m w, back-part m w, control-part m w, owner-part m w) (omega arith)

-- ---- what a passed call knows

pub record Passed (l : Layout) (s : State) (space : ℕ) (img : List ℕ) (ss : Slots l.refs) : Type 0 where
  pub turn_is : T (waits s l.kind)
  pub pairs_are : T (pairs_right l.shape img)
  pub nests_are : T (nests_right img ss)
  pub slots_are : slots_rule (env_of s) img ss ≡ 0
  pub fits : s.used + size_of ss ≤ limit
  pub lent : s.used + size_of ss ≤ space

pub fill-passed : (l : Layout) (s : State) (space : ℕ) (img : List ℕ) (ss : Slots l.refs) → (fill_answer l s space img ss).number ≡ 0 → Passed l s space img ss
unfolding fill_answer
fill-passed l s space img ss e =
    let n : ℕ = slots_rule (env_of s) img ss in
    let p = all_pass
    (test (waits s l.kind) 15 0 0 ∷ test (pairs_right l.shape img) 10 l.kind s.position ∷ test (nests_right img ss) 12 l.kind s.position
    ∷ test (eqb n 0) n l.kind s.position ∷ room_tests (s.used + size_of ss) space)
    (yes_and (not (eqb n 0) || eqb n 0) true (self-numbered n) tt) e in
    record {
      turn_is = p.0;
      pairs_are = p.1.0;
      nests_are = p.1.1.0;
      slots_are = eqb→eq n 0 p.1.1.1.0;
      fits = leb→le (s.used + size_of ss) limit p.1.1.1.1.0;
      lent = leb→le (s.used + size_of ss) space p.1.1.1.1.1.0;
    }

-- a kind whose records can be told
pub record OkKind (l : Layout) : Type 0 where
  pub layout : OkLayout l
  pub marks_of : (n : ℕ) → T (ok_marks l.shape n)
  pub told_of : (n : ℕ) → T (ok_told n l.refs)

-- a told record fits
entry-fits : (l : Layout) → OkKind l → (s : State) (space : ℕ) (x : List ℕ) (told : Slots l.refs) → Sized l x told → s.position < 256 → s.position < 256 ^ l.shape.index.len
    → let img = told_image l.shape s.position x in Passed l s space img (told_slots s.position img told) → FitEntry (env_of s) (entry_of l s x told)
entry-fits l k s space x told z small fits p =
    let n : ℕ = s.position in
    let img : List ℕ = told_image l.shape n x in
    record {
      fixed = told_fixed l.shape n x (k.marks_of n) z.0;
      valid = told-valid l.shape n x (k.marks_of n) z.0;
      right = told-right l.shape n x (k.marks_of n) z.0 (env_of s) refl fits p.pairs_are;
      objects = told_fit (env_of s) small img told (k.told_of n) z.1 p.nests_are p.slots_are;
    }

-- ---- a done call for a list's record

pub record InList (s : State) (k : ℕ) : Type 0 where
  pub turn_is : s.turn ≡ k
  pub from : 1 ≤ s.position
  pub upto : s.position ≤ count_of list_kinds (counts s) k

-- k is a list's kind: neither the host's turn nor finish's
pub in_list_lem : (s : State) (k : ℕ) → (eqb k 2 || eqb k finishing) ≡ false → T (waits s k) → InList s k
unfolding waits
in_list_lem s k e t =
    let u = and_yes (eqb s.turn k) _ t in
    let q : s.turn ≡ k = eqb→eq s.turn k u.0 in
    let v : T (in_list s) = rw e at (and_yes (pick (eqb k 2 || eqb k finishing) (eqb s.position 0) (in_list s)) _ u.1).0 in
    let w = and_yes (leb 1 s.position) _ v in
    record { turn_is = q; from = leb→le 1 s.position w.0; upto = leb→le s.position (count_of list_kinds (counts s) k) (rw q at w.1) }

-- after a list's record the turn is another list's, or finish
module _ (s : State) (k : ℕ) (q : s.turn ≡ k) (not_host : eqb k 2 ≡ false) where
  pub next-after : (n : ℕ) (c : Bool) → next s n c ≡ moved s (turn_after k s.position list_kinds (counts s)) (s.used + n) (pick c 1 s.minor)
  unfolding next
  next-after n c = rw (q, not_host)

-- the turn behind position p of kind k is a later one, from which on nothing is told
abbrev pub AfterOk : ℕ → ℕ → Body list_kinds → List ℕ → Type 0
AfterOk k p b cs =
    let t = turn_after k p list_kinds cs in
    (eqb t.kind 0 ≡ false) × (eqb t.kind finished ≡ false) × (eqb t.kind 2 ≡ false) × BlankFrom t.kind t.position b

module _ (buf : List ℕ) (s : State) (b : List ℕ) (m : Meaning) (o : Open buf s b m) (l : Layout) (ok : OkLayout l) (x : Entry l) (b' : Body list_kinds)
    (i : InList s l.kind) (put : Put s.position x list_kinds m.lists b') where
  pub effects : Effect s.position x m.lists b' 160 (h₂ m o.shaped)
  effects = effect (count_in m.lists) s.position x m.lists b' 160 (h₂ m o.shaped) ok ok-lists o.shaped.listed put

  same_count : count_in m.lists ≡ count_in b'
  same_count = λ j k. (sym (count-is m.lists k) ∙ ap (λ (c : List ℕ). count_of list_kinds c k) (sym effects.lengths) ∙ count-is b' k) j

  list-shaped : FitEntry (env (count_in m.lists) s.position) x → Shaped (with_lists m b')
  list-shaped g = record {
    sized = o.shaped.sized;
    signed = subst (λ (c : ℕ → ℕ). Fit (env c 0) [] m.driver) same_count o.shaped.signed;
    owned = subst (λ (c : ℕ → ℕ). FitEntry (env c 0) m.owner) same_count o.shaped.owned;
    listed = subst (λ (c : ℕ → ℕ). FitBody c b') same_count (fit-body-put (count_in m.lists) s.position x m.lists b' o.shaped.listed g put);
  }

  -- where the record stands
  list-place : eqb l.kind 2 ≡ false → place_of s l ≡ 160 + length effects.front
  unfolding place_of
  list-place e = rw e (subst (λ (cs : List ℕ). start_of 160 list_kinds cs l.kind + (s.position - 1) * base_of l ≡ 160 + length effects.front) o.counted (sym effects.place))

  after-ok : eqb l.kind 2 ≡ false → eqb l.kind 0 ≡ false → eqb l.kind finished ≡ false → AfterOk l.kind s.position b' (lengths_of m.lists)
  unfolding hfi ssns security discovery
  after-ok e₂ e₀ e₈ =
      let cs : List ℕ = lengths_of m.lists in
      let other : (j : ℕ) → eqb l.kind j ≡ false → T (missing j list_kinds) → eqb (turn_after l.kind s.position list_kinds cs).kind j ≡ false =
      λ j d h. after-other j s.position l.kind list_kinds cs d h in
      (other 0 e₀ tt, other finished e₈ tt, other 2 e₂ tt, blank-next s.position x m.lists b' tt put)

  later : (n : ℕ) (c : Bool) → eqb l.kind 2 ≡ false → eqb l.kind 0 ≡ false → eqb l.kind finished ≡ false
      → (eqb (next s n c).turn 0 ≡ false) × (eqb (next s n c).turn finished ≡ false) × Untold (next s n c) (with_lists m b')
  later n c e₂ e₀ e₈ =
      let a = subst (AfterOk l.kind s.position b') o.counted (after-ok e₂ e₀ e₈) in
      rw (next-after s l.kind i.turn_is e₂ n c) (a.0, a.1, rw a.2 a.3)

-- the kinds of the lists: no turn of another sort
pub record ListKind (l : Layout) : Type 0 where
  pub kind_ok : OkKind l
  pub not_host : eqb l.kind 2 ≡ false
  pub not_empty : eqb l.kind 0 ≡ false
  pub not_finished : eqb l.kind finished ≡ false
  pub in_lists : (eqb l.kind 2 || eqb l.kind finishing) ≡ false
  pub indexed : 1 ≤ l.shape.index.len

-- the same place, and the same bytes used, by other names
place-open : {rs : Refs} (buf b : List ℕ) (s : State) (m : Meaning) (img : List ℕ) (ss : Slots rs) (a a' u u' : ℕ)
    → a ≡ a'
    → u ≡ u'
    → Open buf s (placed b a' u' img ss) m
    → Open buf s (placed b a u img ss) m
place-open buf b s m img ss a a' u u' p q h = rw (p, q) h

pub next-counts : (s : State) (n : ℕ) (c : Bool) → (counts (next s n c) ≡ counts s) × ((next s n c).used ≡ s.used + n) × ((next s n c).minor ≡ pick c 1 s.minor)
unfolding next
next-counts s n c = (refl, refl, refl)

-- a told record of a list
pub list_open : (buf : List ℕ) (s : State) (b : List ℕ) (m : Meaning) (o : Open buf s b m) (l : Layout) (k : ListKind l) (x : List ℕ) (told : Slots l.refs) (b' : Body list_kinds)
    → Sized l x told → let img = told_image l.shape s.position x in let ss = told_slots s.position img told in
    Passed l s (length b) img ss → s.position < 256 → Put s.position (entry_of l s x told) list_kinds m.lists b'
    → Open buf (next s (size_of ss) (l.newer ss)) (placed b (place_of s l) s.used img ss) (with_lists m b')
unfolding placed size_entry rec_entry heap_entry newer_entry
list_open buf s b m o l k x told b' z p byte put =
    let img : List ℕ = told_image l.shape s.position x in
    let ss : Slots l.refs = told_slots s.position img told in
    let w : Shaped m = o.shaped in
    let u : ℕ = form_length m in
    let i : InList s l.kind = in_list_lem s l.kind k.in_lists p.turn_is in
    let ok : OkLayout l = k.kind_ok.layout in
    let g : FitUsed l (env_of s) img ss = entry-fits l k.kind_ok s (length b) x told z byte (byte_pow s.position l.shape.index.len byte k.indexed) p in
    let g' : FitEntry (env (count_in m.lists) s.position) (entry_of l s x told) = subst (λ (c : ℕ → ℕ). FitEntry (env c s.position) (entry_of l s x told)) (counts_same s m o.counted) g in
    let f = effects buf s b m o l ok (entry_of l s x told) b' i put in
    let R : List ℕ = patched u img ss in
    let H : List ℕ = heap_of u ss in
    let lR : length R ≡ base_of l = length-rec_entry l ok u (env_of s) (entry_of l s x told) g in
    let lH : length H ≡ size_of ss = length-heap_entry l ok u (env_of s) (entry_of l s x told) g in
    let X : List ℕ = before m w b' l s.position (entry_of l s x told) f in
    let Y : List ℕ = beyond m w b' l s.position (entry_of l s x told) f in
    let zs : List ℕ = replicate (base_of l) 0 in
    let lz : length {A = ℕ} (replicate (base_of l) 0) ≡ base_of l = length-replicate (base_of l) 0 in
    let e₁ : laid_out m 0 0 0 0 ≡ X ++ (zs ++ Y) = was-laid m w b' l s.position (entry_of l s x told) f in
    let e₂ : laid_out (with_lists m b') 0 0 0 0 ≡ X ++ (R ++ (Y ++ H)) = is-laid m w b' l s.position (entry_of l s x told) f in
    let a : place_of s l ≡ length X = list-place buf s b m o l ok (entry_of l s x told) b' i put k.not_host ∙ sym (before-length m w b' l s.position (entry_of l s x told) f) in
    let n : length (X ++ (zs ++ Y)) ≡ u = ap length (sym e₁) ∙ length-laid_out m w 0 0 0 0 in
    let n' : length (X ++ (zs ++ Y)) ≡ length X + (length zs + length Y) = length-append X (zs ++ Y) ∙ ap (λ (j : ℕ). length X + j) (length-append zs Y) in
    let q : s.used ≡ u = o.size in
    let t : form_length (with_lists m b') ≡ u + size_of ss = lists_length m w b' l s.position (entry_of l s x told) f in
    let fit = p.fits in
    let lent = p.lent in
    let lt = later buf s b m o l ok (entry_of l s x told) b' i put (size_of ss) (l.newer ss) k.not_host k.not_empty k.not_finished in
    let l₁ : length (splice b (length X) R) ≡ length b = length-splice b (length X) R (omega arith) in
    let l₂ : length (splice (splice b (length X) R) u H) ≡ length (splice b (length X) R) = length-splice (splice b (length X) R) u H (omega arith) in
    place-open buf b (next s (size_of ss) (l.newer ss)) (with_lists m b') img ss (place_of s l) (length X) s.used u a q (
    record {
      shaped = list-shaped buf s b m o l ok (entry_of l s x told) b' i put g';
      counted = f.lengths ∙ o.counted ∙ sym (next-counts s (size_of ss) (l.newer ss)).0;
      size = (next-counts s (size_of ss) (l.newer ss)).1 ∙ omega arith;
      short = omega arith;
      room = omega arith;
      laid = rw e₂ (placed-holds b X zs Y R H (length X) u refl (sym n) (lR ∙ sym lz) (omega arith) (rw e₁ at o.laid));
      tail = rw t (placed-tail b R H (length X) u (u + size_of ss) (omega arith) (omega arith) (omega arith) ∙ drop-further b buf u (u + size_of ss) (omega arith) o.tail);
      started = lt.0;
      unfinished = lt.1;
      untold = lt.2;
      minor_is = (next-counts s (size_of ss) (l.newer ss)).2 ∙ minor-put m w b' l s.position (entry_of l s x told) f s.minor o.minor_is;
    })

-- ---- the host's record

-- a meaning of whose lists nothing is told
module _ (m : Meaning) (w : Shaped m) (blank : AllBlank m.lists) where
  host_before : List ℕ
  host_before = head_front 0 ++ (0 ∷ (head_back m 0 0 ++ control_bytes m))

  host_beyond : List ℕ
  host_beyond = replicate (span_body m.lists) 0 ++ heap_of (heap_at m) m.driver

  -- where the host's objects stand
  host_heap : ℕ
  host_heap = heap_at m + size_of m.driver

  host-back : (e : Entry host) → head_back (with_owner m e) 0 0 ≡ head_back m 0 0
  unfolding head_back driver_ref heap_at
  host-back e = refl

  host-control : (e : Entry host) → control_bytes (with_owner m e) ≡ control_bytes m
  unfolding control_bytes
  host-control e = refl

  host-from : (e : Entry host) → heap_at (with_owner m e) ≡ heap_at m
  unfolding heap_at
  host-from e = refl

  host-laid : (e : Entry host) → laid_out (with_owner m e) 0 0 0 0 ≡ host_before ++ (rec_entry host_heap e ++ (host_beyond ++ heap_entry host_heap e))
  unfolding laid_out behind host_before host_beyond host_heap
  host-laid e =
      let h : ℕ = heap_at m + size_of m.driver + size_entry e in
      rw (host-back e, host-control e, host-from e, blank-recs h m.lists blank, blank-heap h m.lists blank) (simp (append-nil, append_assoc))

  host-length : (e : Entry host) → form_length (with_owner m e) ≡ host_heap + size_entry e
  unfolding form_length heap_len host_heap
  host-length e = rw (host-from e, blank-size m.lists blank) (omega arith)

  host-before : length host_before ≡ 128
  unfolding host_before
  host-before = simp (length-append, front-part m w, back-part m w, control-part m w) (omega arith)

at-host : (s : State) → T (waits s 2) → (s.turn ≡ 2) × (s.position ≡ 0)
unfolding waits
at-host s t =
    let u = and_yes (eqb s.turn 2) _ t in
    (eqb→eq s.turn 2 u.0, eqb→eq s.position 0 (and_yes (eqb s.position 0) _ u.1).0)

-- behind the host comes the first position of the first nonempty list, from which on nothing is told
abbrev FirstOk : Body list_kinds → List ℕ → Type 0
FirstOk b cs =
    let t = first_turn list_kinds cs in
    (eqb t.kind 0 ≡ false) × (eqb t.kind finished ≡ false) × (eqb t.kind 2 ≡ false) × BlankFrom t.kind t.position b

first-ok : (b : Body list_kinds) → AllBlank b → FirstOk b (lengths_of b)
unfolding hfi ssns security discovery
first-ok b k = (
  first-other 0 list_kinds (lengths_of b) tt,
  first-other finished list_kinds (lengths_of b) tt,
  first-other 2 list_kinds (lengths_of b) tt,
  first-blank b tt k,
)

next-first : (s : State) (n : ℕ) (c : Bool) → s.turn ≡ 2 → next s n c ≡ moved s (first_turn list_kinds (counts s)) (s.used + n) (pick c 1 s.minor)
unfolding next
next-first s n c q = rw q

host-place : (s : State) → place_of s host ≡ 128
unfolding place_of host
host-place s = refl

host-minor : (m : Meaning) (e : Entry host) (ss : Slots host.refs) (n : ℕ) → n ≡ minor_of m → pick (host.newer ss) 1 n ≡ minor_of (with_owner m e)
unfolding host minor_of
host-minor m e ss n q = q

host-index : (n : ℕ) → n ≡ 0 → n < 256 ^ host.shape.index.len
unfolding host
host-index n e = rw e (lit< tt)

-- the host told: before it the host is unused and the lists are blank, so that the form grows by the host's record and objects alone
pub host-open : (buf : List ℕ) (s : State) (b : List ℕ) (m : Meaning) (o : Open buf s b m) (k : OkKind host) (x : List ℕ) (told : Slots host.refs) → Sized host x told → T (waits s 2)
    → let img = told_image host.shape s.position x in let ss = told_slots s.position img told in
    Passed host s (length b) img ss → Open buf (next s (size_of ss) (host.newer ss)) (placed b (place_of s host) s.used img ss) (with_owner m (entry_of host s x told))
unfolding placed size_entry rec_entry heap_entry
host-open buf s b m o k x told z t p =
    let img : List ℕ = told_image host.shape s.position x in
    let ss : Slots host.refs = told_slots s.position img told in
    let w : Shaped m = o.shaped in
    let at = at-host s t in
    let un : (m.owner ≡ unused) × AllBlank m.lists = rw at.0 at o.untold in
    let bl : AllBlank m.lists = un.1 in
    let same : m ≡ with_owner m unused = λ i.
    record { oem = m.oem; driver = m.driver; owner = un.0 i; lists = m.lists } in
    let pos : s.position ≡ 0 = at.1 in
    let g : FitUsed host (env_of s) img ss = entry-fits host k s (length b) x told z (omega arith)
    (host-index s.position pos) p in
    let g' : FitEntry (env (count_in m.lists) 0) (entry_of host s x told) = subst
    (λ (c : ℕ → ℕ). FitEntry (env c 0) (entry_of host s x told)) (counts_same s m o.counted)
    (subst (λ (n : ℕ). FitEntry (env (count_of list_kinds (counts s)) n) (entry_of host s x told)) pos g) in
    let u : ℕ = form_length m in
    let top : host_heap m w bl ≡ u = omega (arith, ap form_length same, host-length m w bl unused) in
    let q : s.used ≡ host_heap m w bl = o.size ∙ sym top in
    let h : ℕ = host_heap m w bl in
    let R : List ℕ = patched h img ss in
    let H : List ℕ = heap_of h ss in
    let lR : length R ≡ base_of host = length-rec_entry host ok-host h (env_of s) (entry_of host s x told) g in
    let lH : length H ≡ size_of ss = length-heap_entry host ok-host h (env_of s) (entry_of host s x told) g in
    let X : List ℕ = host_before m w bl in
    let Y : List ℕ = host_beyond m w bl in
    let zs : List ℕ = replicate (base_of host) 0 in
    let lz : length {A = ℕ} (replicate (base_of host) 0) ≡ base_of host = length-replicate (base_of host) 0 in
    let e₁ : laid_out m 0 0 0 0 ≡ X ++ (zs ++ Y) = ap (λ (v : Meaning). laid_out v 0 0 0 0) same ∙ host-laid m w bl unused
    ∙ ap (λ (v : List ℕ). X ++ (zs ++ v)) (append-nil Y) in
    let e₂ : laid_out (with_owner m (entry_of host s x told)) 0 0 0 0 ≡ X ++ (R ++ (Y ++ H)) = host-laid m w bl
    (entry_of host s x told) in
    let a : place_of s host ≡ length X = host-place s ∙ sym (host-before m w bl) in
    let n : length (X ++ (zs ++ Y)) ≡ u = ap length (sym e₁) ∙ length-laid_out m w 0 0 0 0 in
    let n' : length (X ++ (zs ++ Y)) ≡ length X + (length zs + length Y) = length-append X (zs ++ Y) ∙ ap
    (λ (j : ℕ). length X + j) (length-append zs Y) in
    let len : form_length (with_owner m (entry_of host s x told)) ≡ h + size_of ss = host-length m w bl
    (entry_of host s x told) in
    let fit = p.fits in
    let lent = p.lent in
    let f = subst (FirstOk m.lists) o.counted (first-ok m.lists bl) in
    let nx = next-first s (size_of ss) (host.newer ss) at.0 in
    let l₁ : length (splice b (length X) R) ≡ length b = length-splice b (length X) R (omega arith) in
    let l₂ : length (splice (splice b (length X) R) h H) ≡ length (splice b (length X) R) = length-splice
    (splice b (length X) R) h H (omega arith) in
    place-open buf b (next s (size_of ss) (host.newer ss)) (with_owner m (entry_of host s x told)) img ss (place_of s host) (length X)
    s.used h a q (record {
      shaped = record { sized = w.sized; signed = w.signed; owned = g'; listed = w.listed };
      counted = o.counted ∙ sym (next-counts s (size_of ss) (host.newer ss)).0;
      size = (next-counts s (size_of ss) (host.newer ss)).1 ∙ omega arith;
      short = omega arith;
      room = omega arith;
      laid = rw e₂
          (placed-holds b X zs Y R H (length X) h refl (omega arith) (lR ∙ sym lz) (omega arith) (rw e₁ at o.laid));
      tail = rw len (placed-tail b R H (length X) h (h + size_of ss) (omega arith) (omega arith) (omega arith)
          ∙ drop-further b buf u (h + size_of ss) (omega arith) o.tail);
      started = rw nx f.0;
      unfinished = rw nx f.1;
      untold = rw nx (rw f.2 f.3);
      minor_is = (next-counts s (size_of ss) (host.newer ss)).2 ∙ host-minor m (entry_of host s x told) ss s.minor o.minor_is;
    })
