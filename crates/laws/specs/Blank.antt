-- Lists of which nothing is told yet from some position on, and what one more told record changes in them. Assumes nothing.
use Rattle.std.specs.Prelude.{◌≡◌, Bool, ◌||◌, ℕ, zero, suc, ◌+◌, ◌-◌, ◌*◌, ◌<◌, length, get_or, drop, replicate, T, eqb}
use Rattle.std.proofs.Math.Path.{refl, sym, ap}
use Rattle.std.proofs.Common.{ap₂, ◌∙◌, subst, add-zero, zero-mul, length-append}
use Rattle.std.proofs.Math.Bool.{true, false}
use mathlib.Core.List.{List, [], ◌∷◌, ◌++◌, append_assoc, append-nil}
use native.Mathlib.Omega.{arith}
use Rattle.std.proofs.lemmas.List.{length-replicate, replicate-append-replicate}
use Rattle.std.proofs.Math.Dec.{eqb_refl}
use Rattle.std.proofs.Math.Facts.{and_yes}
use Rattle.table.specs.Bytes.{le, pick}
use Rattle.table.specs.Layout.{Body, Entry, Layout, base_of, env, more, stop, unused}
use Rattle.table.specs.Objects.{entry8, heap_body, heap_entry, heap_list, newer_body, newer_entry, newer_list, places_body, rec_entry, recs_body, recs_list, size_body, size_entry, size_list, span_body}
use Rattle.table.specs.Builder.{all_unused, start_of}
use Rattle.laws.specs.Lawful.{FitBody, FitEntry, FitList, all_ok, ok_layout}
use Rattle.laws.specs.ByteLaws.{pick_yes}
use Rattle.laws.specs.ListLaws.{OkLayout, length-recs_list, ok-layout}

-- ---- definitions

abbrev pub lengths_of : {ls : List Layout} → Body ls → List ℕ
lengths_of stop = []
lengths_of (more es rest) = length es ∷ lengths_of rest

abbrev pub AllBlank : {ls : List Layout} → Body ls → Type 0
AllBlank stop = Unit {0}
AllBlank (more es rest) = (es ≡ replicate (length es) unused) × AllBlank rest

-- nothing is told of the lists from position p of kind k on
abbrev pub BlankFrom : {ls : List Layout} → ℕ → ℕ → Body ls → Type 0
BlankFrom k p stop = Unit {0}
BlankFrom k p (more {l = l} es rest) = pick (eqb k l.kind) ((drop (p - 1) es ≡ replicate (length es - (p - 1)) unused) × AllBlank rest) (BlankFrom k p rest)

-- b' is b with x at position p, which was the first untold one
pub data Put {l : Layout} (p : ℕ) (x : Entry l) : (ls : List Layout) → Body ls → Body ls → Type 0 where
  here : {ls : List Layout} {rest : Body ls} {now then : List (Entry l)} (es : List (Entry l)) (n : ℕ) → p ≡ suc (length es) → AllBlank rest
      → now ≡ es ++ (unused ∷ replicate n unused) → then ≡ es ++ (x ∷ replicate n unused) → Put p x (l ∷ ls) (more now rest) (more then rest)
  there : {l' : Layout} {ls : List Layout} {b b' : Body ls} (es : List (Entry l')) → eqb l.kind l'.kind ≡ false → Put p x ls b b' → Put p x (l' ∷ ls) (more es b) (more es b')

-- ---- blank lists

recs-blank : (l : Layout) (h n : ℕ) → recs_list {l = l} h (replicate n unused) ≡ replicate (n * base_of l) 0
unfolding recs_list rec_entry size_entry
recs-blank l h zero = rw (zero-mul (base_of l))
recs-blank l h (suc n) =
    let e : base_of l + n * base_of l ≡ suc n * base_of l = omega arith in
    ap (λ (r : List ℕ). replicate (base_of l) 0 ++ r) (recs-blank l (h + 0) n)
    ∙ replicate-append-replicate (base_of l) (n * base_of l) 0
    ∙ ap (λ (k : ℕ). replicate k 0) e

heap-blank : (l : Layout) (h n : ℕ) → heap_list {l = l} h (replicate n unused) ≡ []
unfolding heap_list heap_entry size_entry
heap-blank l h zero = refl
heap-blank l h (suc n) = heap-blank l (h + 0) n

size-blank : (l : Layout) (n : ℕ) → size_list {l = l} (replicate n unused) ≡ 0
unfolding size_list size_entry
size-blank l zero = refl
size-blank l (suc n) = rw (size-blank l n)

pub blank-recs : {ls : List Layout} (h : ℕ) (b : Body ls) → AllBlank b → recs_body h b ≡ replicate (span_body b) 0
unfolding recs_body span_body
blank-recs h stop k = refl
blank-recs h (more {l = l} es rest) k =
    ap₂ (λ (x y : List ℕ). x ++ y) (ap (recs_list h) k.0 ∙ recs-blank l h (length es)) (blank-recs (h + size_list es) rest k.1)
    ∙ replicate-append-replicate (length es * base_of l) (span_body rest) 0

pub blank-heap : {ls : List Layout} (h : ℕ) (b : Body ls) → AllBlank b → heap_body h b ≡ []
unfolding heap_body
blank-heap h stop k = refl
blank-heap h (more {l = l} es rest) k =
    ap₂ (λ (x y : List ℕ). x ++ y) (ap (heap_list h) k.0 ∙ heap-blank l h (length es)) (blank-heap (h + size_list es) rest k.1)

pub blank-size : {ls : List Layout} (b : Body ls) → AllBlank b → size_body b ≡ 0
unfolding size_body
blank-size stop k = refl
blank-size (more {l = l} es rest) k = ap₂ ◌+◌ (ap size_list k.0 ∙ size-blank l (length es)) (blank-size rest k.1)

new-blank : (l : Layout) (n : ℕ) → newer_list {l = l} (replicate n unused) ≡ false
unfolding newer_list newer_entry
new-blank l zero = refl
new-blank l (suc n) = new-blank l n

pub blank-newer : {ls : List Layout} (b : Body ls) → AllBlank b → newer_body b ≡ false
unfolding newer_body
blank-newer stop k = refl
blank-newer (more {l = l} es rest) k = ap₂ ◌||◌ (ap newer_list k.0 ∙ new-blank l (length es)) (blank-newer rest k.1)

fit-blank : (l : Layout) (count : ℕ → ℕ) (pos n : ℕ) → FitList {l = l} count pos (replicate n unused)
fit-blank l count pos zero = tt
fit-blank l count pos (suc n) = (tt, fit-blank l count (suc pos) n)

-- ---- lists side by side

module _ {l : Layout} where
  size-split : (es xs : List (Entry l)) → size_list (es ++ xs) ≡ size_list es + size_list xs
  unfolding size_list
  size-split [] xs = omega arith
  size-split (e ∷ es) xs = ap (λ (n : ℕ). size_entry e + n) (size-split es xs) ∙ omega arith

  recs-split : (h : ℕ) (es xs : List (Entry l)) → recs_list h (es ++ xs) ≡ recs_list h es ++ recs_list (h + size_list es) xs
  unfolding recs_list size_list
  recs-split h [] xs = ap (λ (n : ℕ). recs_list n xs) (omega arith)
  recs-split h (e ∷ es) xs =
      ap (λ (r : List ℕ). rec_entry h e ++ r) (recs-split (h + size_entry e) es xs)
      ∙ sym (append_assoc (rec_entry h e) (recs_list (h + size_entry e) es) (recs_list (h + size_entry e + size_list es) xs))
      ∙ ap (λ (n : ℕ). (rec_entry h e ++ recs_list (h + size_entry e) es) ++ recs_list n xs) (omega arith)

  heap-split : (h : ℕ) (es xs : List (Entry l)) → heap_list h (es ++ xs) ≡ heap_list h es ++ heap_list (h + size_list es) xs
  unfolding heap_list size_list
  heap-split h [] xs = ap (λ (n : ℕ). heap_list n xs) (omega arith)
  heap-split h (e ∷ es) xs =
      ap (λ (r : List ℕ). heap_entry h e ++ r) (heap-split (h + size_entry e) es xs)
      ∙ sym (append_assoc (heap_entry h e) (heap_list (h + size_entry e) es) (heap_list (h + size_entry e + size_list es) xs))
      ∙ ap (λ (n : ℕ). (heap_entry h e ++ heap_list (h + size_entry e) es) ++ heap_list n xs) (omega arith)

  new_split : (es xs : List (Entry l)) → newer_list (es ++ xs) ≡ (newer_list es || newer_list xs)
  unfolding newer_list
  new_split [] xs = refl
  new_split (e ∷ es) xs = ap (λ (c : Bool). newer_entry e || c) (new_split es xs) ∙ or_assoc (newer_entry e) (newer_list es) (newer_list xs)
    where
      or_assoc : (a b c : Bool) → (a || (b || c)) ≡ ((a || b) || c)
      or_assoc true b c = refl
      or_assoc false b c = refl

  pub fit-left : (count : ℕ → ℕ) (pos : ℕ) (es xs : List (Entry l)) → FitList count pos (es ++ xs) → FitList count pos es
  fit-left count pos [] xs f = tt
  fit-left count pos (e ∷ es) xs f = (f.0, fit-left count (suc pos) es xs f.1)

  pub fit-put : (count : ℕ → ℕ) (pos : ℕ) (es : List (Entry l)) (x : Entry l) (n : ℕ)
      → FitList count pos es
      → FitEntry (env count (pos + length es)) x
      → FitList count pos (es ++ (x ∷ replicate n unused))
  fit-put count pos [] x n f g = (subst (λ (i : ℕ). FitEntry (env count i) x) (add-zero pos) g, fit-blank l count (suc pos) n)
  fit-put count pos (e ∷ es) x n f g = (f.0, fit-put count (suc pos) es x n f.1 (subst (λ (i : ℕ). FitEntry (env count i) x) (omega arith) g))

pub fit-unused : (count : ℕ → ℕ) (ls : List Layout) (cs : List ℕ)
    → length cs ≡ length ls
    → ((i : ℕ) → get_or cs i 0 < 256)
    → FitBody count (all_unused ls cs) × (lengths_of (all_unused ls cs) ≡ cs) × AllBlank (all_unused ls cs)
fit-unused count [] [] e k = (tt, refl, tt)
fit-unused count [] (c ∷ cs) e k = absurd (omega arith)
fit-unused count (l ∷ ls) [] e k = absurd (omega arith)
fit-unused count (l ∷ ls) (c ∷ cs) e k =
    let r = fit-unused count ls cs (omega arith) (λ i. k (suc i)) in
    let n : length {A = Entry l} (replicate c unused) ≡ c = length-replicate c unused in
    let z : c < 256 = k 0 in
    ((fit-blank l count 1 c, rw n z, r.0), ap₂ ◌∷◌ n r.1, (ap (λ (i : ℕ). replicate i unused) (sym n), r.2))

-- ---- what one more told record changes

-- h is where the objects of the lists begin, a where their records do
pub record Effect {l : Layout} (p : ℕ) (x : Entry l) {ls : List Layout} (b b' : Body ls) (a h : ℕ) : Type 0 where
  -- the record bytes in front and behind
  pub front : List ℕ
  pub back : List ℕ
  pub was : recs_body h b ≡ front ++ (replicate (base_of l) 0 ++ back)
  pub becomes : recs_body h b' ≡ front ++ (rec_entry (h + size_body b) x ++ back)
  pub place : a + length front ≡ start_of a ls (lengths_of b) l.kind + (p - 1) * base_of l
  pub heap : heap_body h b' ≡ heap_body h b ++ heap_entry (h + size_body b) x
  pub size : size_body b' ≡ size_body b + size_entry x
  pub span : span_body b' ≡ span_body b
  pub lengths : lengths_of b' ≡ lengths_of b
  pub places : places_body a b' ≡ places_body a b
  pub newer : newer_body b' ≡ (newer_entry x || newer_body b)

entry8-same : {l : Layout} (a : ℕ) (es xs : List (Entry l)) (x y : Entry l) → entry8 a (es ++ (x ∷ xs)) ≡ entry8 a (es ++ (y ∷ xs))
entry8-same a [] xs x y = refl
entry8-same {l} a (e ∷ es) xs x y =
    ap (λ (n : ℕ). le 4 a ++ (le 2 (base_of l) ++ (1 ∷ suc n ∷ []))) (length-append es (x ∷ xs) ∙ sym (length-append es (y ∷ xs)))

or-move : (a c u r : Bool) → ((a || (c || u)) || r) ≡ (c || ((a || u) || r))
or-move true true u r = refl
or-move true false u r = refl
or-move false true u r = refl
or-move false false u r = refl

or_swap : (a c r : Bool) → (a || (c || r)) ≡ (c || (a || r))
or_swap true true r = refl
or_swap true false r = refl
or_swap false c r = refl

-- the first untold position of this list: what stands before it stays, so that record, place and heap grow by the entry told
here-effect : {l : Layout} {ls : List Layout} (count : ℕ → ℕ) (x : Entry l) (es : List (Entry l)) (n : ℕ) (rest : Body ls) (a h : ℕ) → OkLayout l → FitList count 1 es → AllBlank rest
    → Effect (suc (length es)) x (more (es ++ (unused ∷ replicate n unused)) rest) (more (es ++ (x ∷ replicate n unused)) rest) a h
unfolding recs_body heap_body size_body span_body places_body recs_list heap_list size_list rec_entry size_entry heap_entry newer_body newer_list newer_entry
here-effect {l} {ls} count x es n rest a h o f k =
    let us : List (Entry l) = replicate n unused in
    let z : List ℕ = replicate (n * base_of l) 0 ++ replicate (span_body rest) 0 in
    let h₁ : ℕ = h + size_list es in
    let su : size_list us ≡ 0 = size-blank l n in
    let sr : size_body rest ≡ 0 = blank-size rest k in
    let s₀ : size_list (es ++ (unused ∷ us)) ≡ size_list es = size-split es (unused ∷ us) ∙ omega arith in
    let s₁ : size_list (es ++ (x ∷ us)) ≡ size_list es + size_entry x = size-split es (x ∷ us) ∙ omega arith in
    let e₁ : h + (size_list (es ++ (unused ∷ us)) + size_body rest) ≡ h₁ = omega arith in
    let one : suc (length es) - 1 ≡ length es = omega arith in
    let ln : length (es ++ (x ∷ us)) ≡ length (es ++ (unused ∷ us)) = length-append es (x ∷ us) ∙ sym
    (length-append es (unused ∷ us)) in
    record {
      front = recs_list h es;
      back = z;
      was = rw (
        recs-split h es (unused ∷ us),
        recs-blank l (h₁ + 0) n,
        blank-recs (h + size_list (es ++ (unused ∷ us))) rest k,
      ) (simp append_assoc);
      becomes = rw (
        e₁,
        recs-split h es (x ∷ us),
        recs-blank l (h₁ + size_entry x) n,
        blank-recs (h + size_list (es ++ (x ∷ us))) rest k,
      ) (simp append_assoc);
      place = rw (
        pick_yes (eqb l.kind l.kind) a
            (start_of (a + length (es ++ (unused ∷ us)) * base_of l) ls (lengths_of rest) l.kind)
            (eqb_refl l.kind),
        length-recs_list l o count h 1 es f,
        one,
      );
      heap = rw (
        e₁,
        heap-split h es (x ∷ us),
        heap-split h es (unused ∷ us),
        heap-blank l (h₁ + size_entry x) n,
        heap-blank l (h₁ + 0) n,
        blank-heap (h + size_list (es ++ (x ∷ us))) rest k,
        blank-heap (h + size_list (es ++ (unused ∷ us))) rest k,
      ) (simp append-nil);
      size = omega arith;
      span = ap (λ (i : ℕ). i * base_of l + span_body rest) ln;
      lengths = ap (λ (i : ℕ). i ∷ lengths_of rest) ln;
      places = ap₂ (λ (u : List ℕ) (i : ℕ). u ++ places_body (a + i * base_of l) rest) (entry8-same a es us x unused) ln;
      newer = rw (new_split es (x ∷ us), new_split es (unused ∷ us)) (or-move (newer_list es) (newer_entry x) (newer_list us) (newer_body rest));
    }

there-effect : {l l' : Layout} {ls : List Layout} (count : ℕ → ℕ) (p : ℕ) (x : Entry l) (es : List (Entry l')) (b b' : Body ls) (a h : ℕ) → OkLayout l' → FitList count 1 es
    → eqb l.kind l'.kind ≡ false → Effect p x b b' (a + length es * base_of l') (h + size_list es) → Effect p x (more es b) (more es b') a h
unfolding recs_body heap_body size_body span_body places_body newer_body
there-effect {l} {l'} {ls} count p x es b b' a h o f d c =
    let h₁ : ℕ = h + size_list es in
    let a₁ : ℕ = a + length es * base_of l' in
    let len : length (recs_list h es) ≡ length es * base_of l' = length-recs_list l' o count h 1 es f in
    let e₁ : h + (size_list es + size_body b) ≡ h₁ + size_body b = omega arith in
    let e₂ : a + (length es * base_of l' + length c.front) ≡ a₁ + length c.front = omega arith in
    record {
      front = recs_list h es ++ c.front;
      back = c.back;
      was = ap (λ (r : List ℕ). recs_list h es ++ r) c.was ∙ sym (append_assoc (recs_list h es) c.front (replicate (base_of l) 0 ++ c.back));
      becomes =
          rw e₁ (ap (λ (r : List ℕ). recs_list h es ++ r) c.becomes ∙ sym (append_assoc (recs_list h es) c.front (rec_entry (h₁ + size_body b) x ++ c.back)));
      place = rw (length-append (recs_list h es) c.front, len, e₂, d) c.place;
      heap = rw e₁ (ap (λ (r : List ℕ). heap_list h es ++ r) c.heap ∙ sym (append_assoc (heap_list h es) (heap_body h₁ b) (heap_entry (h₁ + size_body b) x)));
      size = omega (arith, c.size);
      span = ap (λ (i : ℕ). length es * base_of l' + i) c.span;
      lengths = ap (λ (r : List ℕ). length es ∷ r) c.lengths;
      places = ap (λ (r : List ℕ). entry8 a es ++ r) c.places;
      newer = ap (λ (r : Bool). newer_list es || r) c.newer ∙ or_swap (newer_list es) (newer_entry x) (newer_body b);
    }

pub effect : {l : Layout} (count : ℕ → ℕ) (p : ℕ) (x : Entry l) {ls : List Layout} (b b' : Body ls) (a h : ℕ) → OkLayout l → T (all_ok ls) → FitBody count b → Put p x ls b b' → Effect p x b b' a h
effect count p x b b' a h o t f (here {rest = rest} es n e k q r) =
    rw (e, q, r) (here-effect count x es n rest a h o (fit-left count 1 es (unused ∷ replicate n unused) (rw q at f.0)) k)
effect count p x b b' a h o t f (there {l' = l'} {ls = ks} {b = c} {b' = c'} es d u) =
    let w = and_yes (ok_layout l') (all_ok ks) t in
    there-effect count p x es c c' a h (ok-layout l' w.0) f.0 d (effect count p x c c' (a + length es * base_of l') (h + size_list es) o w.1 f.2 u)
