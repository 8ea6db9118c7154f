-- What the reads tell of a record is what the definition says of it: fields and objects first, then the heap record behind them. Assumes nothing.
use Rattle.std.specs.Prelude.{◌≡◌, Bool, not, ◌&&◌, T, leb}
use Rattle.std.proofs.Math.Path.{refl, sym, ap}
use Rattle.std.proofs.Common.{ap₂, ◌∙◌, arith, eqb→eq, eq-eqb, eqb-true, leb-false, leb-true, ne_eqb}
use Rattle.std.proofs.Math.Bool.{true, false}
use mathlib.Core.List.{List, [], ◌∷◌, ◌++◌, append_assoc, append-nil}
use Prim.Native.Nat.{ℕ, zero, suc, ◌+◌, ◌-◌, ◌≤◌, ◌<◌}
use Rattle.std.proofs.Math.ListN.{length}
use Rattle.std.proofs.Math.Dec.{eqb}
use Rattle.std.proofs.Math.Facts.{and_yes}
use Rattle.table.specs.declared.Region.{Region}
use Rattle.table.specs.Bytes.{pick}
use Rattle.table.specs.Layout.{Refs, Shape, nest, none, plain}
use Rattle.table.specs.FixedLayouts.{discovery, extended, header, hfi, hfi_extended, host, info, layout_of, security, ssns}
use Rattle.table.specs.Reads.{has_plain, width_at}
use Rattle.reads_seats.specs.Objects.{object_in}
use Rattle.reads_seats.specs.Told.{bytes_of, depth, image_of, inner_kind, told_slots}
use Rattle.changes.specs.Changes.{Line, each, id_of, named_lines, object_line, offset_lines, only_on, record_lines}
use Rattle.changes.specs.ChangeLaws.{each-nothing}
use Rattle.changes_records.specs.Told.{held_lines, own_lines, whole_lines}

-- ---- the reference to a heap record stands last

-- what stands at that reference: the lines of the heap record, whose own references are rs
abbrev nest_lines : List ℕ → List ℕ → ℕ → ℕ → Shape → Refs → List Line
nest_lines t u i n s own =
    let x = image_of t i n in
    let y = image_of u i n in
    let k = id_of s.fixed in
    pick (eqb x.answer.number 0)
    (pick (eqb y.answer.number 0)
    (record_lines k n s (bytes_of x) (bytes_of y) (named_lines k n (told_slots t i n own) (told_slots u i n own)))
    (only_on k n 1 ∷ []))
    (pick (eqb y.answer.number 0) (only_on k n 2 ∷ []) [])

-- the same of references of which only the last names a heap record
abbrev last_lines : List ℕ → List ℕ → ℕ → ℕ → Refs → ℕ → List Line
last_lines t u k n none q = []
last_lines t u k n (plain p need content rest) q = last_lines t u k n rest q
last_lines t u k n (nest p need s own rest) q = pick (eqb q p) (nest_lines t u (inner_kind k) n s own) []

abbrev is_last : Refs → Bool
is_last none = true
is_last (plain p need content rest) = is_last rest
is_last (nest p need s own none) = true
is_last (nest p need s own (plain q n c r)) = false
is_last (nest p need s own (nest q n c o r)) = false

pick_same : {X : Type 0} (c : Bool) (x : X) → pick c x x ≡ x
pick_same true x = refl
pick_same false x = refl

module _ (t u : List ℕ) (k n : ℕ) where
  nest-named : (p : ℕ) (need : List ℕ → _) (s : Shape) (own : Refs) (q : ℕ)
      → named_lines k n (told_slots t k n (nest p need s own none)) (told_slots u k n (nest p need s own none)) q
      ≡ pick (eqb q p) (nest_lines t u (inner_kind k) n s own) []
  unfolding named_lines told_slots
  nest-named p need s own q = go (eqb (image_of t (inner_kind k) n).answer.number 0) (eqb (image_of u (inner_kind k) n).answer.number 0)
    where
      go : (a b : Bool)
          → named_lines k n {rs = nest p need s own none}
          (pick a (Rattle.table.specs.Layout.rec (bytes_of (image_of t (inner_kind k) n)) (told_slots t (inner_kind k) n own) Rattle.table.specs.Layout.nil)
          (Rattle.table.specs.Layout.gone Rattle.table.specs.Layout.nil))
          (pick b (Rattle.table.specs.Layout.rec (bytes_of (image_of u (inner_kind k) n)) (told_slots u (inner_kind k) n own) Rattle.table.specs.Layout.nil)
          (Rattle.table.specs.Layout.gone Rattle.table.specs.Layout.nil))
          q
          ≡ pick (eqb q p)
          (pick a
          (pick b
          (record_lines (id_of s.fixed) n s (bytes_of (image_of t (inner_kind k) n)) (bytes_of (image_of u (inner_kind k) n))
          (named_lines (id_of s.fixed) n (told_slots t (inner_kind k) n own) (told_slots u (inner_kind k) n own)))
          (only_on (id_of s.fixed) n 1 ∷ []))
          (pick b (only_on (id_of s.fixed) n 2 ∷ []) [])) []
      go true true = refl
      go true false = refl
      go false true = refl
      go false false = sym (pick_same (eqb q p) [])

  -- an object where a reference to one stands, and else the heap record
  named-is : (rs : Refs) → T (is_last rs) → (q : ℕ)
      → named_lines k n (told_slots t k n rs) (told_slots u k n rs) q ≡ pick (has_plain q rs) (object_line k n q (object_in t k n q) (object_in u k n q)) (last_lines t u k n rs q)
  unfolding named_lines told_slots
  named-is none l q = refl
  named-is (plain p need content rest) l q = go (eqb q p) refl (named-is rest l q)
    where
      go : (c : Bool) → eqb q p ≡ c
          → named_lines k n (told_slots t k n rest) (told_slots u k n rest) q ≡ pick (has_plain q rest) (object_line k n q (object_in t k n q) (object_in u k n q)) (last_lines t u k n rest q)
          → pick c (object_line k n q (object_in t k n p) (object_in u k n p)) (named_lines k n (told_slots t k n rest) (told_slots u k n rest) q)
          ≡ pick (pick c true (has_plain q rest)) (object_line k n q (object_in t k n q) (object_in u k n q)) (last_lines t u k n rest q)
      go true d e = let z : p ≡ q = sym (eqb-true q p d) in ap (λ (r : ℕ). object_line k n q (object_in t k n r) (object_in u k n r)) z
      go false d e = e
  named-is (nest p need s own none) l q = nest-named p need s own q
  named-is (nest p need s own (plain q' n' c r)) l q = absurd l
  named-is (nest p need s own (nest q' n' c o r)) l q = absurd l

-- ---- the lines of a record: those of its last reference stand behind all others

-- m offsets from q on begin no field and hold no reference to an object
abbrev bare : List Region → Refs → ℕ → ℕ → Bool
bare fs rs q zero = true
bare fs rs q (suc m) = (eqb (width_at q fs) 0 && not (has_plain q rs)) && bare fs rs (suc q) m

no_plain_lem : (c : Bool) → T (not c) → c ≡ false
no_plain_lem true h = absurd h
no_plain_lem false h = refl

bare-at : (fs : List Region) (rs : Refs) (q m : ℕ) → T (bare fs rs q m) → (j : ℕ) → q ≤ j → j < q + m → (width_at j fs ≡ 0) × (has_plain j rs ≡ false)
bare-at fs rs q zero t j l h = absurd (omega arith)
bare-at fs rs q (suc m) t j l h =
    let u = and_yes (eqb (width_at q fs) 0 && not (has_plain q rs)) (bare fs rs (suc q) m) t in
    let v = and_yes (eqb (width_at q fs) 0) (not (has_plain q rs)) u.0 in
    go (leb (suc q) j) refl (λ k. bare-at fs rs (suc q) m u.1 j k (omega arith)) (eqb→eq (width_at q fs) 0 v.0, no_plain_lem (has_plain q rs) v.1)
  where
    go : (c : Bool) → leb (suc q) j ≡ c → (suc q ≤ j → (width_at j fs ≡ 0) × (has_plain j rs ≡ false)) → (width_at q fs ≡ 0) × (has_plain q rs ≡ false)
        → (width_at j fs ≡ 0) × (has_plain j rs ≡ false)
    go true d on here = on (leb-true (suc q) j d)
    go false d on here = let z : j ≡ q = omega (arith, leb-false (suc q) j d) in rw z here

each_same : (f g : ℕ → List Line) (q m : ℕ) → ((j : ℕ) → f j ≡ g j) → each f q m ≡ each g q m
each_same f g q zero h = refl
each_same f g q (suc m) h = ap₂ ◌++◌ (h q) (each_same f g (suc q) m h)

-- g and f are the same before p; f has the lines held at p; and none has any behind it
each_last : (f g : ℕ → List Line) (held : List Line) (p i m : ℕ) → i ≤ p → p < i + m → ((j : ℕ) → j < p → f j ≡ g j) → f p ≡ held
    → ((j : ℕ) → p < j → j < i + m → f j ≡ []) → ((j : ℕ) → p ≤ j → j < i + m → g j ≡ []) → each f i m ≡ each g i m ++ held
each_last f g held p i zero a b before here behind none-behind = absurd (omega arith)
each_last f g held p i (suc m) a b before here behind none-behind =
    go (leb (suc i) p) refl
    (λ k. each_last f g held p (suc i) m k (omega arith) before here (λ j l h. behind j l (omega arith)) (λ j l h. none-behind j l (omega arith)))
  where
    go : (c : Bool) → leb (suc i) p ≡ c → (suc i ≤ p → each f (suc i) m ≡ each g (suc i) m ++ held) → f i ++ each f (suc i) m ≡ (g i ++ each g (suc i) m) ++ held
    go true d on =
        let l = leb-true (suc i) p d in
        ap₂ ◌++◌ (before i (omega (arith, l))) (on l) ∙ sym (append_assoc (g i) (each g (suc i) m) held)
    go false d on =
        let z : i ≡ p = omega (arith, leb-false (suc i) p d) in
        let e : f i ≡ held = ap f z ∙ here in
        let s : each f (suc i) m ≡ [] = each-nothing f (suc i) m (λ j l h. behind j (omega (arith, z)) (omega arith)) in
        let r : g i ++ each g (suc i) m ≡ [] = ap₂ ◌++◌ (none-behind i (omega (arith, z)) (omega arith)) (each-nothing g (suc i) m (λ j l h. none-behind j (omega (arith, z)) (omega arith))) in
        ap₂ ◌++◌ e s ∙ append-nil held ∙ sym (ap (λ (xs : List Line). xs ++ held) r)

-- ---- a record as the reads tell it

module _ (t u : List ℕ) (k n : ℕ) where
  -- all lines of the records of kind k and position n
  abbrev pub told_lines : List Line
  told_lines =
      record_lines k n (layout_of k).shape (bytes_of (image_of t k n)) (bytes_of (image_of u k n))
      (named_lines k n (told_slots t k n (layout_of k).refs) (told_slots u k n (layout_of k).refs))

  abbrev offset-of : (ℕ → List Line) → ℕ → List Line
  offset-of = offset_lines k n (layout_of k).shape.fields (bytes_of (image_of t k n)) (bytes_of (image_of u k n))

  -- what is named at q, as the lines of an object and those of the last reference
  offset-is : T (is_last (layout_of k).refs) → (q : ℕ)
      → offset-of (named_lines k n (told_slots t k n (layout_of k).refs) (told_slots u k n (layout_of k).refs)) q
      ≡ offset-of (λ r. pick (has_plain r (layout_of k).refs) (object_line k n r (object_in t k n r) (object_in u k n r)) (last_lines t u k n (layout_of k).refs r)) q
  offset-is l q = ap (λ (a : List Line). offset-of (λ r. a) q) (named-is t u k n (layout_of k).refs l q)

  -- of a kind whose references name objects alone
  flat-told : T (is_last (layout_of k).refs) → ((q : ℕ) → last_lines t u k n (layout_of k).refs q ≡ []) → told_lines ≡ own_lines t u k n
  unfolding own_lines
  flat-told l h =
      each_same _ _ 0 (length (layout_of k).shape.keep)
      (λ q. offset-is l q
      ∙ ap (λ (a : List Line). offset-of (λ r. pick (has_plain r (layout_of k).refs) (object_line k n r (object_in t k n r) (object_in u k n r)) a) q) (h q))

  -- of one whose last reference, at p, names a heap record
  nest-told : (p : ℕ) (held : List Line) → T (is_last (layout_of k).refs) → ((q : ℕ) → last_lines t u k n (layout_of k).refs q ≡ pick (eqb q p) held [])
      → p < length (layout_of k).shape.keep
      → T (bare (layout_of k).shape.fields (layout_of k).refs p (length (layout_of k).shape.keep - p)) → told_lines ≡ own_lines t u k n ++ held
  unfolding own_lines
  nest-told p held l h b z =
      let fs = (layout_of k).shape.fields in
      let rs = (layout_of k).refs in
      let c = length (layout_of k).shape.keep in
      let seen : ℕ → List Line → List Line = λ q a. offset-of (λ r. pick (has_plain r rs) (object_line k n r (object_in t k n r) (object_in u k n r)) a) q in
      let is : (q : ℕ) → offset-of (named_lines k n (told_slots t k n rs) (told_slots u k n rs)) q ≡ seen q (pick (eqb q p) held []) =
      λ q. offset-is l q ∙ ap (seen q) (h q) in
      let free : (q : ℕ) → p ≤ q → q < c → (a : List Line) → seen q a ≡ a =
      λ q m e a. let y = bare-at fs rs p (c - p) z q m (omega arith) in rw (y.0, y.1) refl in
      each_last _ _ held p 0 c (omega arith) (omega arith)
      (λ q m. is q ∙ ap (λ (d : Bool). seen q (pick d held [])) (ne_eqb q p (λ e. omega (arith, e, m))))
      (is p ∙ ap (λ (d : Bool). seen p (pick d held [])) (eq-eqb p p refl) ∙ free p (omega arith) b held)
      (λ q m e. is q ∙ ap (λ (d : Bool). seen q (pick d held [])) (ne_eqb q p (λ i. omega (arith, i, m))) ∙ free q (omega arith) (omega arith) [])
      (λ q m e. free q m (omega arith) [])

-- ---- kind by kind, the deepest first

module _ (t u : List ℕ) (n : ℕ) where
  -- the heap record of kind i, where what it holds is known
  nest-held : (k i d : ℕ) → inner_kind k ≡ i → id_of (layout_of i).shape.fixed ≡ i → told_lines t u i n ≡ own_lines t u i n ++ held_lines t u d i n
      → nest_lines t u (inner_kind k) n (layout_of i).shape (layout_of i).refs ≡ held_lines t u (suc d) k n
  unfolding held_lines
  nest-held k i d e f g =
      let x = image_of t i n in
      let y = image_of u i n in
      rw (e, f)
      (ap (λ (a : List Line). pick (eqb x.answer.number 0) (pick (eqb y.answer.number 0) a (only_on i n 1 ∷ [])) (pick (eqb y.answer.number 0) (only_on i n 2 ∷ []) [])) g)

  -- kinds without a heap record
  own-told : (k : ℕ) → depth k ≡ 0 → told_lines t u k n ≡ own_lines t u k n → told_lines t u k n ≡ whole_lines t u k n
  unfolding whole_lines held_lines
  own-told k e f = rw e (f ∙ sym (append-nil (own_lines t u k n)))

  pub header-told : told_lines t u 0 n ≡ whole_lines t u 0 n
  unfolding layout_of header
  header-told = own-told 0 refl (flat-told t u 0 n tt (λ q. refl))

  pub host-told : told_lines t u 2 n ≡ whole_lines t u 2 n
  unfolding layout_of host
  host-told = own-told 2 refl (flat-told t u 2 n tt (λ q. refl))

  pub security-told : told_lines t u 5 n ≡ whole_lines t u 5 n
  unfolding layout_of security
  security-told = own-told 5 refl (flat-told t u 5 n tt (λ q. refl))

  pub discovery-told : told_lines t u 6 n ≡ whole_lines t u 6 n
  unfolding layout_of discovery
  discovery-told = own-told 6 refl (flat-told t u 6 n tt (λ q. refl))

  identity-told : told_lines t u 10 n ≡ own_lines t u 10 n ++ held_lines t u 0 10 n
  unfolding layout_of hfi_extended held_lines
  identity-told = flat-told t u 10 n tt (λ q. refl) ∙ sym (append-nil (own_lines t u 10 n))

  extended-told : told_lines t u 9 n ≡ own_lines t u 9 n ++ held_lines t u 0 9 n
  unfolding layout_of extended held_lines
  extended-told = flat-told t u 9 n tt (λ q. refl) ∙ sym (append-nil (own_lines t u 9 n))

  info-told : told_lines t u 7 n ≡ own_lines t u 7 n ++ held_lines t u 1 7 n
  unfolding layout_of info hfi_extended
  info-told =
      nest-told t u 7 n 110 (nest_lines t u 10 n hfi_extended.shape hfi_extended.refs) tt (λ q. refl) (omega arith) tt
      ∙ ap (λ (a : List Line). own_lines t u 7 n ++ a) (nest-held 7 10 0 refl refl identity-told)

  pub hfi-told : told_lines t u 3 n ≡ whole_lines t u 3 n
  unfolding layout_of hfi info hfi_extended whole_lines
  hfi-told =
      nest-told t u 3 n 16 (nest_lines t u 7 n info.shape info.refs) tt (λ q. refl) (omega arith) tt
      ∙ ap (λ (a : List Line). own_lines t u 3 n ++ a) (nest-held 3 7 1 refl refl info-told)

  pub ssns-told : told_lines t u 4 n ≡ whole_lines t u 4 n
  unfolding layout_of ssns extended whole_lines
  ssns-told =
      nest-told t u 4 n 60 (nest_lines t u 9 n extended.shape extended.refs) tt (λ q. refl) (omega arith) tt
      ∙ ap (λ (a : List Line). own_lines t u 4 n ++ a) (nest-held 4 9 0 refl refl extended-told)
