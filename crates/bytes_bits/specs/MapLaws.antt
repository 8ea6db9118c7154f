-- A map that holds marks: its bits are the marks, its ones below a place their number there, and setting a bit marks one more. Assumes nothing.
use Rattle.std.specs.Prelude.{◌≡◌, refl, Bool, true, false, ◌&&◌, ◌||◌, List, ◌∷◌, ℕ, zero, suc, ◌+◌, ◌*◌, ◌/◌, ◌%◌, ◌^◌, ◌≤◌, ◌<◌, length, get_or, set, replicate, eqb, leb, ltb}
use Rattle.std.proofs.Common.{sym, ap, ◌∙◌, add-zero, arith, length-set, ext_get_or, get_or-set_other, get_or-set_same, eqb→eq, leb→le, ltb→lt, eq-eqb, le-leb, le-ltb, lt-ltb, ne_eqb}
use Rattle.std.proofs.Math.Decide.{dec_le}
use Rattle.std.proofs.Math.Facts.{eqb_no}
use Rattle.std.proofs.lemmas.Bool.{lt-leb}
use Rattle.table.specs.Bytes.{pick}
use Rattle.table.specs.Closing.{bits_of, map_of, one, ones}
use Rattle.bytes_bits.specs.Bits.{bit_at, bits_below, with_bit, with_bits}

-- what holds of each bit of a byte
pub by-eight : (P : ℕ → Type 0) → P 0 → P 1 → P 2 → P 3 → P 4 → P 5 → P 6 → P 7 → (k : ℕ) → k < 8 → P k
by-eight P a b c d e f g h zero l = a
by-eight P a b c d e f g h (suc zero) l = b
by-eight P a b c d e f g h (suc (suc zero)) l = c
by-eight P a b c d e f g h (suc (suc (suc zero))) l = d
by-eight P a b c d e f g h (suc (suc (suc (suc zero)))) l = e
by-eight P a b c d e f g h (suc (suc (suc (suc (suc zero))))) l = f
by-eight P a b c d e f g h (suc (suc (suc (suc (suc (suc zero)))))) l = g
by-eight P a b c d e f g h (suc (suc (suc (suc (suc (suc (suc zero))))))) l = h
by-eight P a b c d e f g h (suc (suc (suc (suc (suc (suc (suc (suc n)))))))) l = absurd (omega arith)

one-upto : (c : Bool) → one c ≤ 1
one-upto true = omega arith
one-upto false = omega arith

-- ---- a byte of marks

module _ (f : ℕ → Bool) (a : ℕ) where
  bits_at : (j : ℕ) → j < 8 → bits_of f a / 2 ^ j % 2 ≡ one (f (a + j))
  bits_at j h =
      let u0 = one-upto (f a) in
      let u1 = one-upto (f (a + 1)) in
      let u2 = one-upto (f (a + 2)) in
      let u3 = one-upto (f (a + 3)) in
      let u4 = one-upto (f (a + 4)) in
      let u5 = one-upto (f (a + 5)) in
      let u6 = one-upto (f (a + 6)) in
      let u7 = one-upto (f (a + 7)) in
      let z : one (f (a + 0)) ≡ one (f a) = ap (λ (n : ℕ). one (f n)) (add-zero a) in
      by-eight (λ k. bits_of f a / 2 ^ k % 2 ≡ one (f (a + k))) (omega arith) (omega arith) (omega arith) (omega arith) (omega arith) (omega arith) (omega arith) (omega arith) j h

  -- where the marks of g are those of f and further ones d
  bits-sum : (g : ℕ → Bool) (d : ℕ → ℕ) → ((k : ℕ) → k < 8 → one (g (a + k)) ≡ one (f (a + k)) + d k)
      → bits_of g a ≡ bits_of f a + (d 0 + 2 * (d 1 + 2 * (d 2 + 2 * (d 3 + 2 * (d 4 + 2 * (d 5 + 2 * (d 6 + 2 * d 7)))))))
  bits-sum g d h =
      let e0 : one (g a) ≡ one (f a) + d 0 = ap (λ (n : ℕ). one (g n)) (sym (add-zero a)) ∙ h 0 (omega arith) ∙ ap (λ (n : ℕ). one (f n) + d 0) (add-zero a) in
      let e1 = h 1 (omega arith) in
      let e2 = h 2 (omega arith) in
      let e3 = h 3 (omega arith) in
      let e4 = h 4 (omega arith) in
      let e5 = h 5 (omega arith) in
      let e6 = h 6 (omega arith) in
      let e7 = h 7 (omega arith) in
      omega arith

  bits-same : (g : ℕ → Bool) → ((k : ℕ) → k < 8 → g (a + k) ≡ f (a + k)) → bits_of g a ≡ bits_of f a
  bits-same g h = bits-sum g (λ k. 0) (λ k l. ap one (h k l) ∙ omega arith) ∙ omega arith

  -- one mark more
  bits-more : (g : ℕ → Bool) (j : ℕ) → j < 8 → ((k : ℕ) → k < 8 → one (g (a + k)) ≡ one (f (a + k)) + one (eqb k j)) → bits_of g a ≡ bits_of f a + 2 ^ j
  bits-more g =
      by-eight (λ j. ((k : ℕ) → k < 8 → one (g (a + k)) ≡ one (f (a + k)) + one (eqb k j)) → bits_of g a ≡ bits_of f a + 2 ^ j)
      (bits-sum g (λ k. one (eqb k 0))) (bits-sum g (λ k. one (eqb k 1))) (bits-sum g (λ k. one (eqb k 2))) (bits-sum g (λ k. one (eqb k 3)))
      (bits-sum g (λ k. one (eqb k 4))) (bits-sum g (λ k. one (eqb k 5))) (bits-sum g (λ k. one (eqb k 6))) (bits-sum g (λ k. one (eqb k 7)))

-- ---- the bytes of a map

pub length-map : (f : ℕ → Bool) (i m : ℕ) → length (map_of f i m) ≡ m
length-map f i zero = refl
length-map f i (suc m) = ap suc (length-map f (suc i) m)

map-from : (f : ℕ → Bool) (i m k : ℕ) → k < m → get_or (map_of f i m) k 0 ≡ bits_of f (8 * (i + k))
map-from f i zero k h = absurd (omega arith)
map-from f i (suc m) zero h = ap (λ (n : ℕ). bits_of f (8 * n)) (sym (add-zero i))
map-from f i (suc m) (suc k) h =
    let e : suc i + k ≡ i + suc k = omega arith in
    map-from f (suc i) m k (omega arith) ∙ ap (λ (n : ℕ). bits_of f (8 * n)) e

map_at : (f : ℕ → Bool) (m k : ℕ) → k < m → get_or (map_of f 0 m) k 0 ≡ bits_of f (8 * k)
map_at f m k h =
    let e : 8 * (0 + k) ≡ 8 * k = omega arith in
    map-from f 0 m k h ∙ ap (bits_of f) e

pub map_same : (f g : ℕ → Bool) (m : ℕ) → ((k : ℕ) → k < 8 * m → g k ≡ f k) → map_of g 0 m ≡ map_of f 0 m
map_same f g m h =
    ext_get_or 0 (map_of g 0 m) (map_of f 0 m) (length-map g 0 m ∙ sym (length-map f 0 m))
    (λ i k.
    let l : i < m = omega (arith, length-map g 0 m) in
    map_at g m i l ∙ bits-same f (8 * i) g (λ j z. h (8 * i + j) (omega arith)) ∙ sym (map_at f m i l))

-- a map of zeros holds no mark
pub map-zeros : (i m : ℕ) → map_of (λ n. false) i m ≡ replicate m 0
map-zeros i zero = refl
map-zeros i (suc m) = ap (λ (xs : List ℕ). 0 ∷ xs) (map-zeros (suc i) m)

-- ---- its bits

pub map-bits : (f : ℕ → Bool) (m n : ℕ) → n < 8 * m → bit_at (map_of f 0 m) n ≡ one (f n)
map-bits f m n h =
    let d : 8 * (n / 8) + n % 8 ≡ n = omega arith in
    ap (λ (x : ℕ). x / 2 ^ (n % 8) % 2) (map_at f m (n / 8) (omega arith)) ∙ bits_at f (8 * (n / 8)) (n % 8) (omega arith) ∙ ap (λ (x : ℕ). one (f x)) d

pub map_below : (f : ℕ → Bool) (m n : ℕ) → n ≤ 8 * m → bits_below (map_of f 0 m) n ≡ ones f n
map_below f m zero h = refl
map_below f m (suc n) h = omega (arith, map_below f m n (omega arith), map-bits f m n (omega arith))

-- ---- setting a bit

-- the marks of f, and n
abbrev pub also : (ℕ → Bool) → ℕ → ℕ → Bool
also f n k = f k || eqb k n

or_no : (x : Bool) → (x || false) ≡ x
or_no true = refl
or_no false = refl

module _ (f : ℕ → Bool) (n : ℕ) where
  also-old : f n ≡ true → (k : ℕ) → also f n k ≡ f k
  also-old e k = go (eqb k n) refl
    where
      go : (c : Bool) → eqb k n ≡ c → (f k || c) ≡ f k
      go true d = let z : k ≡ n = eqb→eq k n (rw d tt) in rw (z, e) refl
      go false d = or_no (f k)

  also-new : f n ≡ false → (k : ℕ) → one (also f n k) ≡ one (f k) + one (eqb k n)
  also-new e k = go (eqb k n) refl
    where
      go : (c : Bool) → eqb k n ≡ c → one (f k || c) ≡ one (f k) + one c
      go true d = let z : k ≡ n = eqb→eq k n (rw d tt) in rw (z, e) refl
      go false d = rw (or_no (f k)) (omega arith)

same_test : (a k n j : ℕ) → n ≡ a + j → eqb (a + k) n ≡ eqb k j
same_test a k n j e = go (eqb k j) refl
  where
    go : (c : Bool) → eqb k j ≡ c → eqb (a + k) n ≡ c
    go true d = let z : k ≡ j = eqb→eq k j (rw d tt) in eq-eqb (a + k) n (omega arith)
    go false d = ne_eqb (a + k) n (λ z. eqb_no {a = k} {b = j} (rw d tt) (omega arith))

pub length-mark : (m : List ℕ) (n : ℕ) → length (with_bit m n) ≡ length m
unfolding with_bit
length-mark m n = go (eqb (bit_at m n) 0)
  where
    go : (c : Bool) → length (pick c (set m (n / 8) (get_or m (n / 8) 0 + 2 ^ (n % 8))) m) ≡ length m
    go true = length-set m (n / 8) (get_or m (n / 8) 0 + 2 ^ (n % 8))
    go false = refl

-- setting bit n marks n
pub map-mark : (f : ℕ → Bool) (m n : ℕ) → n < 8 * m → with_bit (map_of f 0 m) n ≡ map_of (also f n) 0 m
unfolding with_bit
map-mark f m n h = go (f n) refl
  where
    go : (c : Bool) → f n ≡ c → pick (eqb (bit_at (map_of f 0 m) n) 0) (set (map_of f 0 m) (n / 8) (get_or (map_of f 0 m) (n / 8) 0 + 2 ^ (n % 8))) (map_of f 0 m) ≡ map_of (also f n) 0 m
    go true e =
        let z : bit_at (map_of f 0 m) n ≡ 1 = map-bits f m n h ∙ ap one e in
        rw z (sym (map_same f (also f n) m (λ k l. also-old f n e k)))
    go false e =
        let z : bit_at (map_of f 0 m) n ≡ 0 = map-bits f m n h ∙ ap one e in
        rw z
        (ext_get_or 0 (set (map_of f 0 m) (n / 8) (get_or (map_of f 0 m) (n / 8) 0 + 2 ^ (n % 8))) (map_of (also f n) 0 m)
        (length-set (map_of f 0 m) (n / 8) (get_or (map_of f 0 m) (n / 8) 0 + 2 ^ (n % 8)) ∙ length-map f 0 m ∙ sym (length-map (also f n) 0 m))
        (λ i k. byte e i (omega (arith, length-set (map_of f 0 m) (n / 8) (get_or (map_of f 0 m) (n / 8) 0 + 2 ^ (n % 8)), length-map f 0 m)) (eqb i (n / 8)) refl))
      where
        byte : f n ≡ false → (i : ℕ) → i < m → (c : Bool) → eqb i (n / 8) ≡ c
            → get_or (set (map_of f 0 m) (n / 8) (get_or (map_of f 0 m) (n / 8) 0 + 2 ^ (n % 8))) i 0 ≡ get_or (map_of (also f n) 0 m) i 0
        byte e i l true d =
            let z : i ≡ n / 8 = eqb→eq i (n / 8) (rw d tt) in
            let s : n ≡ 8 * (n / 8) + n % 8 = omega arith in
            rw z
            (get_or-set_same (map_of f 0 m) (n / 8) (get_or (map_of f 0 m) (n / 8) 0 + 2 ^ (n % 8)) 0 (omega (arith, length-map f 0 m))
            ∙ ap (λ (y : ℕ). y + 2 ^ (n % 8)) (map_at f m (n / 8) (omega arith))
            ∙ sym (bits-more f (8 * (n / 8)) (also f n) (n % 8) (omega arith)
            (λ k q. also-new f n e (8 * (n / 8) + k) ∙ ap (λ (c : Bool). one (f (8 * (n / 8) + k)) + one c) (same_test (8 * (n / 8)) k n (n % 8) s)))
            ∙ sym (map_at (also f n) m (n / 8) (omega arith)))
        byte e i l false d =
            let z : (i ≡ n / 8) → ⊥ = eqb_no {a = i} {b = n / 8} (rw d tt) in
            get_or-set_other (map_of f 0 m) (n / 8) i (get_or (map_of f 0 m) (n / 8) 0 + 2 ^ (n % 8)) 0 z
            ∙ map_at f m i l
            ∙ sym (bits-same f (8 * i) (also f n) (λ k q. ap (λ (c : Bool). f (8 * i + k) || c) (ne_eqb (8 * i + k) n (λ y. z (omega arith))) ∙ or_no (f (8 * i + k))))
            ∙ sym (map_at (also f n) m i l)

-- the marks of f, and the n from a on
abbrev pub also_all : (ℕ → Bool) → ℕ → ℕ → ℕ → Bool
also_all f a n k = f k || (leb a k && ltb k (a + n))

all_none : (f : ℕ → Bool) (a k : ℕ) → also_all f a 0 k ≡ f k
all_none f a k = go (leb a k) refl (ltb k (a + 0)) refl
  where
    go : (c : Bool) → leb a k ≡ c → (d : Bool) → ltb k (a + 0) ≡ d → (f k || (c && d)) ≡ f k
    go true p true q =
        let x : a ≤ k = leb→le a k (rw p tt) in
        let y : k < a + 0 = ltb→lt k (a + 0) (rw q tt) in
        absurd (omega arith)
    go true p false q = or_no (f k)
    go false p d q = or_no (f k)

all_more : (f : ℕ → Bool) (a n k : ℕ) → also (also_all f a n) (a + n) k ≡ also_all f a (suc n) k
all_more f a n k = go (dec_le a k) (dec_le (a + n) k) (dec_le (a + suc n) k)
  where
    -- the tests as they come out
    told : (c d e g : Bool) → leb a k ≡ c → ltb k (a + n) ≡ d → eqb k (a + n) ≡ e → ltb k (a + suc n) ≡ g → ((f k || (c && d)) || e) ≡ (f k || (c && g))
        → also (also_all f a n) (a + n) k ≡ also_all f a (suc n) k
    told c d e g p q r s h = rw (p, q, r, s) h

    go : Dec (a ≤ k) → Dec (a + n ≤ k) → Dec (a + suc n ≤ k) → also (also_all f a n) (a + n) k ≡ also_all f a (suc n) k
    go (no d) y z =
        told false true false true (lt-leb a k (omega arith)) (lt-ltb k (a + n) (omega arith))
        (ne_eqb k (a + n) (λ w. omega arith)) (lt-ltb k (a + suc n) (omega arith)) (or_no (f k || false))
    go (yes d) (no e) z = told true true false true (le-leb a k d) (lt-ltb k (a + n) (omega arith)) (ne_eqb k (a + n) (λ w. omega arith)) (lt-ltb k (a + suc n) (omega arith)) (or_no (f k || true))
    go (yes d) (yes e) (no g) =
        told true false true true (le-leb a k d) (le-ltb k (a + n) e) (eq-eqb k (a + n) (omega arith))
        (lt-ltb k (a + suc n) (omega arith)) (ap (λ (c : Bool). c || true) (or_no (f k)))
    go (yes d) (yes e) (yes g) = told true false false false (le-leb a k d) (le-ltb k (a + n) e) (ne_eqb k (a + n) (λ w. omega arith)) (le-ltb k (a + suc n) g) (or_no (f k || false))

-- setting n bits marks n
pub map-mark-all : (f : ℕ → Bool) (m a n : ℕ) → a + n ≤ 8 * m → with_bits (map_of f 0 m) a n ≡ map_of (also_all f a n) 0 m
map-mark-all f m a zero h = sym (map_same f (also_all f a 0) m (λ k l. all_none f a k))
map-mark-all f m a (suc n) h =
    ap (λ (x : List ℕ). with_bit x (a + n)) (map-mark-all f m a n (omega arith))
    ∙ map-mark (also_all f a n) m (a + n) (omega arith)
    ∙ sym (map_same (also (also_all f a n) (a + n)) (also_all f a (suc n)) m (λ k l. sym (all_more f a n k)))
