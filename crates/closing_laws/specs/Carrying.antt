-- In the closed table each site names the place to which its bytes slide, and they stand there. Assumes nothing.
use Rattle.std.specs.Prelude.{◌≡◌, refl, ◌⊎◌, false, ◌&&◌, List, [], ◌∷◌, length, take, drop, T, leb, ltb}
use Rattle.std.proofs.Common.{sym, ◌∙◌, inl, inr, length-take, length-drop, get_or-append-add, get_or-drop, get_or-take, eqb→eq, leb→le, lit<}
use Rattle.std.proofs.Math.Path.{ap}
use Prim.Native.Nat.{ℕ, ◌+◌, ◌-◌, ◌^◌, ◌%◌, ◌≤◌, ◌<◌}
use Rattle.std.proofs.Math.Nat.{mod-one}
use native.Mathlib.Omega.{arith}
use Rattle.std.proofs.Math.Decide.{dec_le}
use Rattle.std.proofs.Math.ListN.{get_or, get_or-append}
use Rattle.std.proofs.Math.Facts.{and_yes, yes_and, yes_leb, yes_ltb}
use Rattle.table.specs.Bytes.{le, num}
use Rattle.table.specs.Layout.{Keep, Refs, image, low, nest, none, offsets, plain, sel}
use Rattle.table.specs.Objects.{ref6}
use Rattle.table.specs.Numbers.{heap_in}
use Rattle.laws.specs.Lawful.{all_keep, is_none, ok_keep, ok_refs, top_of}
use Rattle.laws.specs.ByteLaws.{Holds, holds-get_d}
use Rattle.laws.specs.ImageLaws.{all-at, image-same}
use Rattle.laws.specs.StoreLaws.{dead}
use Rattle.laws.specs.SlotLaws.{nest-next, ok-inside, plain-next}
use Rattle.table.specs.Closing.{Site, closed, covers, goes, marks, sites, slid, stored}
use Rattle.closing_laws.specs.Members.{In, or_left, or_right}
use Rattle.closing_laws.specs.SlidLaws.{ones-stretch}
use Rattle.closing_laws.specs.MoveLaws.{Carried, ref-len, ref-off}
use Rattle.closing_laws.specs.ClosedBytes.{Roomy, closed-inside, holds-bytes, length-closed, stores-away, stores-here}

-- ---- the references of a layout in order

pub record OkAt (q p : ℕ) (ks : List Keep) : Type 0 where
  pub from : q ≤ p
  pub upto : p + 6 ≤ length ks
  pub none : T (dead ks p 6)

pub ok_at : (q : ℕ) (ks : List Keep) (rs : Refs) (p : ℕ) → T (ok_refs q ks rs) → In p (offsets rs) → OkAt q p ks
ok_at q ks none p o i = absurd i
ok_at q ks (plain p₁ need content rest) p o (inl e) =
    let u = and_yes (leb q p₁) (dead ks p₁ 6) (and_yes (leb q p₁ && dead ks p₁ 6) _ o).0 in
    rw e (record { from = leb→le q p₁ u.0; upto = ok-inside q p₁ ks rest (plain-next q p₁ ks need content rest o); none = u.1 })
ok_at q ks (plain p₁ need content rest) p o (inr i) =
    let u = and_yes (leb q p₁) (dead ks p₁ 6) (and_yes (leb q p₁ && dead ks p₁ 6) _ o).0 in
    let r = ok_at (p₁ + 6) ks rest p (plain-next q p₁ ks need content rest o) i in
    record { from = omega (arith, leb→le q p₁ u.0, r.from); upto = r.upto; none = r.none }
ok_at q ks (nest p₁ need shape own rest) p o (inl e) =
    let u = and_yes (leb q p₁) (dead ks p₁ 6) (and_yes (leb q p₁ && dead ks p₁ 6) _ (and_yes ((leb q p₁ && dead ks p₁ 6) && ok_refs (p₁ + 6) ks rest) _ o).0).0 in
    rw e (record { from = leb→le q p₁ u.0; upto = ok-inside q p₁ ks rest (nest-next q p₁ ks need shape own rest o); none = u.1 })
ok_at q ks (nest p₁ need shape own rest) p o (inr i) =
    let u = and_yes (leb q p₁) (dead ks p₁ 6) (and_yes (leb q p₁ && dead ks p₁ 6) _ (and_yes ((leb q p₁ && dead ks p₁ 6) && ok_refs (p₁ + 6) ks rest) _ o).0).0 in
    let r = ok_at (p₁ + 6) ks rest p (nest-next q p₁ ks need shape own rest o) i in
    record { from = omega (arith, leb→le q p₁ u.0, r.from); upto = r.upto; none = r.none }

-- two of them are one, or apart
abbrev pub Six : ℕ → ℕ → Type 0
Six p r = (p ≡ r) ⊎ ((p + 6 ≤ r) ⊎ (r + 6 ≤ p))

pub ok-six : (q : ℕ) (ks : List Keep) (rs : Refs) (p r : ℕ) → T (ok_refs q ks rs) → In p (offsets rs) → In r (offsets rs) → Six p r
ok-six q ks none p r o i j = absurd i
ok-six q ks (plain p₁ need content rest) p r o (inl e) (inl f) = inl (e ∙ sym f)
ok-six q ks (plain p₁ need content rest) p r o (inl e) (inr j) = inr (inl (omega (arith, (ok_at (p₁ + 6) ks rest r (plain-next q p₁ ks need content rest o) j).from)))
ok-six q ks (plain p₁ need content rest) p r o (inr i) (inl f) = inr (inr (omega (arith, (ok_at (p₁ + 6) ks rest p (plain-next q p₁ ks need content rest o) i).from)))
ok-six q ks (plain p₁ need content rest) p r o (inr i) (inr j) = ok-six (p₁ + 6) ks rest p r (plain-next q p₁ ks need content rest o) i j
ok-six q ks (nest p₁ need shape own rest) p r o (inl e) (inl f) = inl (e ∙ sym f)
ok-six q ks (nest p₁ need shape own rest) p r o (inl e) (inr j) = inr (inl (omega (arith, (ok_at (p₁ + 6) ks rest r (nest-next q p₁ ks need shape own rest o) j).from)))
ok-six q ks (nest p₁ need shape own rest) p r o (inr i) (inl f) = inr (inr (omega (arith, (ok_at (p₁ + 6) ks rest p (nest-next q p₁ ks need shape own rest o) i).from)))
ok-six q ks (nest p₁ need shape own rest) p r o (inr i) (inr j) = ok-six (p₁ + 6) ks rest p r (nest-next q p₁ ks need shape own rest o) i j

-- a byte of a reference does not count
none-one : (k : Keep) → T (is_none k) → top_of k ≡ 1
none-one (low n) t = eqb→eq n 1 t
none-one (sel f d m₀ m₁) t = absurd t

pub dead-at : (ks : List Keep) (p j : ℕ) → p + 6 ≤ length ks → T (dead ks p 6) → p ≤ j → j < p + 6 → top_of (get_or ks j (low 1)) ≡ 1
dead-at ks p j l d a b =
    let i : ℕ = j - p in
    let e : get_or (take 6 (drop p ks)) i (low 1) ≡ get_or ks j (low 1) =
    get_or-take 6 (drop p ks) i (low 1) (omega arith) ∙ get_or-drop p ks i (low 1) ∙ ap (λ (m : ℕ). get_or ks m (low 1)) (omega arith) in
    none-one (get_or ks j (low 1)) (rw e at (all-at is_none (take 6 (drop p ks)) d i (simp (length-take, length-drop) (omega arith))))

-- ---- sites and bytes

-- what is known of a site: it names heap bytes
pub record Sound (t : List ℕ) (s : Site) : Type 0 where
  pub small : s.off < 256 ^ 4
  pub nonzero : 0 < s.len
  pub short : s.len < 65536
  pub from : (heap_in t).at ≤ s.off
  pub upto : s.off + s.len ≤ (heap_in t).at + (heap_in t).len
  pub ref : Holds t s.at (ref6 s.off s.len)
  pub bare : s.whole ≡ false → s.own ≡ none

-- a site stands apart from the n bytes at a, or is one of the references there
abbrev pub Aligned : ℕ → ℕ → Refs → Site → Type 0
Aligned a n rs s = (s.at + 4 ≤ a) ⊎ ((a + n ≤ s.at) ⊎ ((p : ℕ) × In p (offsets rs) × (s.at ≡ a + p)))

-- byte i is apart from the offset of s
abbrev pub Away : ℕ → Site → Type 0
Away i s = (i < s.at) ⊎ (s.at + 4 ≤ i)

pub away? : (ss : List Site) (i : ℕ) → ((s : Site) → In s ss → Away i s) ⊎ ((s : Site) × In s ss × (s.at ≤ i) × (i < s.at + 4))
away? [] i = inl (λ s h. absurd h)
away? (x ∷ xs) i = go (dec_le x.at i) (dec_le (x.at + 4) i) (away? xs i)
  where
    cons : Away i x → ((s : Site) → In s xs → Away i s) → (s : Site) → In s (x ∷ xs) → Away i s
    cons a f s (inl e) = rw e a
    cons a f s (inr h) = f s h

    go : Dec (x.at ≤ i) → Dec (x.at + 4 ≤ i) → ((s : Site) → In s xs → Away i s) ⊎ ((s : Site) × In s xs × (s.at ≤ i) × (i < s.at + 4))
        → ((s : Site) → In s (x ∷ xs) → Away i s) ⊎ ((s : Site) × In s (x ∷ xs) × (s.at ≤ i) × (i < s.at + 4))
    go d e (inr y) = inr (y.0, inr y.1, y.2, y.3)
    go (no d) e (inl f) = inl (cons (inl (omega arith)) f)
    go (yes d) (yes e) (inl f) = inl (cons (inr e) f)
    go (yes d) (no e) (inl f) = inr (x, inl refl, d, omega arith)

pub covered : (ss : List Site) (s : Site) (n : ℕ) → In s ss → s.off ≤ n → n < s.off + s.len → T (covers ss n)
covered [] s n i a b = absurd i
covered (x ∷ xs) s n (inl e) a b =
    or_left (leb x.off n && ltb n (x.off + x.len)) (covers xs n) (rw e at (yes_and (leb s.off n) (ltb n (s.off + s.len)) (yes_leb a) (yes_ltb b)))
covered (x ∷ xs) s n (inr i) a b = or_right (leb x.off n && ltb n (x.off + x.len)) (covers xs n) (covered xs s n i a b)

-- a reference's length, whatever its offset
ref-tail : (x y n j : ℕ) → 4 ≤ j → get_or (ref6 x n) j 0 ≡ get_or (ref6 y n) j 0
ref-tail x y n j h =
    let e : j ≡ 4 + (j - 4) = omega arith in
    ap (λ (i : ℕ). get_or (ref6 x n) i 0) e ∙ get_or-append-add (le 4 x) (le 2 n) (j - 4) 0 ∙ sym (get_or-append-add (le 4 y) (le 2 n) (j - 4) 0) ∙ ap (λ (i : ℕ). get_or (ref6 y n) i 0) (sym e)

module _ (t : List ℕ) (ok : Roomy t) (sound : (s : Site) → In s (sites t) → Sound t s) where
  marked : (s : Site) → In s (sites t) → (j : ℕ) → j < s.len → T (marks t (s.off - (heap_in t).at + j))
  unfolding marks
  marked s i j h =
      let x = sound s i in
      let f = x.from in
      let e : (heap_in t).at + (s.off - (heap_in t).at + j) ≡ s.off + j = omega arith in
      rw e (covered (sites t) s (s.off + j) i (omega arith) (omega arith))

  -- inside a site a place slides as its first byte does
  pub site-slides : (s : Site) → In s (sites t) → (j : ℕ) → j ≤ s.len → slid t (s.off - (heap_in t).at + j) ≡ slid t (s.off - (heap_in t).at) + j
  unfolding slid
  site-slides s i j h = ones-stretch (marks t) (s.off - (heap_in t).at) j (λ m k. marked s i m (omega arith))

  -- and each of its bytes stands there
  pub site-byte : (s : Site) → In s (sites t) → (j : ℕ) → j < s.len → get_or (closed t) (goes t s.off + j) 0 ≡ get_or (stored t) (s.off + j) 0
  unfolding goes
  site-byte s i j h =
      let x = sound s i in
      let f = x.from in
      let g = x.upto in
      let m : ℕ = s.off - (heap_in t).at + j in
      let e : (heap_in t).at + slid t (s.off - (heap_in t).at) + j ≡ (heap_in t).at + slid t m = omega (arith, site-slides s i j (omega arith)) in
      let e' : (heap_in t).at + m ≡ s.off + j = omega arith in
      ap (λ (n : ℕ). get_or (closed t) n 0) e ∙ closed-inside t ok m (omega arith) (marked s i j h) ∙ ap (λ (n : ℕ). get_or (stored t) n 0) e'

  pub stays : (i : ℕ) → ((s : Site) → In s (sites t) → Away i s) → get_or (stored t) i 0 ≡ get_or t i 0
  unfolding stored
  stays i a = stores-away t t (sites t) i ok.rooms a

  turned : (x : Site) → In x (sites t) → ((s : Site) → In s (sites t) → ((s.at ≡ x.at) × (s.off ≡ x.off)) ⊎ ((x.at + 4 ≤ s.at) ⊎ (s.at + 4 ≤ x.at)))
      → (j : ℕ) → j < 4 → get_or (stored t) (x.at + j) 0 ≡ get_or (le 4 (goes t x.off)) j 0
  unfolding stored
  turned x i a j h = stores-here t t (sites t) x i ok.rooms a j h

  -- two sites at one place name one thing
  same-off : (s x : Site) → In s (sites t) → In x (sites t) → s.at ≡ x.at → s.off ≡ x.off
  same-off s x i j e =
      let a = sound s i in
      let b = sound x j in
      sym (ref-off t s.at s.off s.len a.small a.ref) ∙ ap (λ (r : ℕ). num t r 4) e ∙ ref-off t x.at x.off x.len b.small b.ref

  -- a stretch of n bytes at a, which stands at b from byte lo on, with the references rs
  module _ (lo a b n : ℕ) (ks : List Keep) (rs : Refs) (o : T (ok_refs lo ks rs)) (k : length ks ≤ n) (room : b + n ≤ length t)
      (bytes : (j : ℕ) → lo ≤ j → j < n → get_or (closed t) (b + j) 0 ≡ get_or (stored t) (a + j) 0)
      (aligned : (s : Site) → In s (sites t) → Aligned a n rs s) where
    -- the six bytes at p, but for the offset of a site that stands there, are apart from all sites' offsets
    apart_of : (p j : ℕ) → In p (offsets rs) → j < 6 → (s : Site) → In s (sites t) → ((s.at ≡ a + p) → 4 ≤ j) → Away (a + (p + j)) s
    apart_of p j i h s m f = go (aligned s m)
      where
        w : OkAt lo p ks
        w = ok_at lo ks rs p o i

        six : (r : ℕ) → Six p r → s.at ≡ a + r → Away (a + (p + j)) s
        six r (inl e) g = let z = f (g ∙ ap (λ (x : ℕ). a + x) (sym e)) in inr (omega arith)
        six r (inr (inl e)) g = inl (omega arith)
        six r (inr (inr e)) g = inr (omega arith)

        go : Aligned a n rs s → Away (a + (p + j)) s
        go (inl e) = inr (omega arith)
        go (inr (inl e)) = inl (omega (arith, w.upto))
        go (inr (inr e)) = six e.0 (ok-six lo ks rs p e.0 o i e.1) e.2

    new-byte : (p j : ℕ) → In p (offsets rs) → j < 6 → get_or (closed t) (b + p + j) 0 ≡ get_or (stored t) (a + (p + j)) 0
    new-byte p j i h =
        let w = ok_at lo ks rs p o i in
        ap (λ (x : ℕ). get_or (closed t) x 0) (omega arith) ∙ bytes (p + j) (omega (arith, w.from)) (omega (arith, w.upto))

    pub is_carried : Carried t (closed t) (heap_in t) (heap_in (closed t)) (sites t) a b rs
    is_carried =
        record {
          absent = λ p i h. let w = ok_at lo ks rs p o i in holds-bytes (closed t) (b + p) (ref6 0 0)
              (omega (arith, length-closed t ok, w.upto)) (λ j l. new-byte p j i l ∙ stays (a + (p + j))
              (λ s m. apart_of p j i l s m (λ e. absurd (absent-not p h s m e))) ∙ ap (λ (x : ℕ). get_or t x 0)
              (omega arith) ∙ holds-get_d t (a + p) (ref6 0 0) h j l);
          present = λ p i s m e. let w = ok_at lo ks rs p o i in holds-bytes (closed t) (b + p)
              (ref6 (goes t s.off) s.len) (omega (arith, length-closed t ok, w.upto))
              (λ j l. new-byte p j i l ∙ one_byte p i s m e j l (dec_le 4 j));
        }
      where
        absent-not : (p : ℕ) → Holds t (a + p) (ref6 0 0) → (s : Site) → In s (sites t) → (s.at ≡ a + p) → ⊥
        absent-not p h s m e =
            let x = sound s m in
            let z : s.len ≡ 0 = sym (ref-len t s.at s.off s.len x.short x.ref) ∙ ap (λ (r : ℕ). num t (r + 4) 2) e ∙ ref-len t (a + p) 0 0 (lit< tt) h in
            omega (arith, x.nonzero)

        one_byte : (p : ℕ) → In p (offsets rs) → (s : Site) → In s (sites t) → (s.at ≡ a + p) → (j : ℕ) → j < 6 → Dec (4 ≤ j)
            → get_or (stored t) (a + (p + j)) 0 ≡ get_or (ref6 (goes t s.off) s.len) j 0
        one_byte p i s m e j l (yes d) =
            let x = sound s m in
            stays (a + (p + j)) (λ y w. apart_of p j i l y w (λ z. d))
            ∙ ap (λ (z : ℕ). get_or t z 0) (omega arith)
            ∙ holds-get_d t s.at (ref6 s.off s.len) x.ref j l
            ∙ ref-tail s.off (goes t s.off) s.len j d
        one_byte p i s m e j l (no d) =
            ap (λ (z : ℕ). get_or (stored t) z 0) (omega arith)
            ∙ turned s m (λ y w. alike p i s m e y w (aligned y w)) j (omega arith)
            ∙ sym (get_or-append (le 4 (goes t s.off)) (le 2 s.len) 0 j (omega arith))
          where
            alike : (p : ℕ) → In p (offsets rs) → (s : Site) → In s (sites t) → (s.at ≡ a + p) → (y : Site) → In y (sites t) → Aligned a n rs y
                → ((y.at ≡ s.at) × (y.off ≡ s.off)) ⊎ ((s.at + 4 ≤ y.at) ⊎ (y.at + 4 ≤ s.at))
            alike p i s m e y w (inl c) = inr (inr (omega arith))
            alike p i s m e y w (inr (inl c)) = let v = ok_at lo ks rs p o i in inr (inl (omega (arith, v.upto)))
            alike p i s m e y w (inr (inr c)) = six (ok-six lo ks rs p c.0 o i c.1) c.2
              where
                six : Six p c.0 → y.at ≡ a + c.0 → ((y.at ≡ s.at) × (y.off ≡ s.off)) ⊎ ((s.at + 4 ≤ y.at) ⊎ (y.at + 4 ≤ s.at))
                six (inl f) g = let z : y.at ≡ s.at = omega arith in inl (z, same-off y s w m z)
                six (inr (inl f)) g = inr (inl (omega arith))
                six (inr (inr f)) g = inr (inr (omega arith))

    -- and its image is the same
    pub is-looked : lo ≡ 0 → T (all_keep (ok_keep ks) ks) → image ks (drop b (closed t)) ≡ image ks (drop a t)
    is-looked z q =
        image-same ks (drop b (closed t)) (drop a t) q
        (λ j h.
        ap (λ (x : ℕ). x % top_of (get_or ks j (low 1))) (get_or-drop b (closed t) j 0 ∙ bytes j (omega arith) (omega arith))
        ∙ one j h (away? (sites t) (a + j))
        ∙ ap (λ (x : ℕ). x % top_of (get_or ks j (low 1))) (sym (get_or-drop a t j 0)))
      where
        one : (j : ℕ) → j < length ks → ((s : Site) → In s (sites t) → Away (a + j) s) ⊎ ((s : Site) × In s (sites t) × (s.at ≤ a + j) × (a + j < s.at + 4))
            → get_or (stored t) (a + j) 0 % top_of (get_or ks j (low 1)) ≡ get_or t (a + j) 0 % top_of (get_or ks j (low 1))
        one j h (inl f) = ap (λ (x : ℕ). x % top_of (get_or ks j (low 1))) (stays (a + j) f)
        one j h (inr y) = go (aligned y.0 y.1)
          where
            go : Aligned a n rs y.0 → get_or (stored t) (a + j) 0 % top_of (get_or ks j (low 1)) ≡ get_or t (a + j) 0 % top_of (get_or ks j (low 1))
            go (inl e) = absurd (omega (arith, y.3))
            go (inr (inl e)) = absurd (omega (arith, y.2))
            go (inr (inr e)) =
                let w = ok_at lo ks rs e.0 o e.1 in
                let d = dead-at ks e.0 j w.upto w.none (omega (arith, y.2, y.3, e.2)) (omega (arith, y.2, y.3, e.2)) in
                rw d (mod-one (get_or (stored t) (a + j) 0) ∙ sym (mod-one (get_or t (a + j) 0)))
