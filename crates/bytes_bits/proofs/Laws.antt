-- Bits of a byte, bits below a place, and bits that are set, eight at a time. Assumes nothing.
use mathlib.Core.Path.{◌≡◌, refl, sym, ap, ap₂, ◌∙◌}
use mathlib.Core.Bool.{Bool, true, false}
use mathlib.Core.List.{List, [], ◌∷◌, append_assoc}
use Prim.Native.Nat.{ℕ, zero, suc, ◌+◌, ◌*◌, ◌/◌, ◌%◌, ◌^◌, ◌≤◌, ◌<◌}
use native.Mathlib.Nat.{add-suc, add-zero, mod-eq_of_lt, mod-lt}
use native.Mathlib.Numerals.{add-one}
use native.Mathlib.Omega.{arith}
use lib.ListN.{length, get_or, take, drop, set, replicate, length-set, length-replicate}
use lib.Seq.{paste, paste-zero, get_or-set_other, get_or-set_same, set-get_or, set-set}
use lib.Dec.{eqb, eqb→eq, lit<}
use lib.Count.{ones, ones_cat}
use lib.Pow.{mod-pow-add, pow_pos}
use mir.Facts.{eqb_no}
use Rattle.std.proofs.lemmas.List.{take-replicate}
use Rattle.std.proofs.lemmas.List.Edits.{fill_from_more}
use Rattle.table.specs.Bytes.{pick, splice}
use Rattle.bytes_bits.specs.Bits.{bit_at, bits_below, with_bit, with_bits}
use Rattle.bytes_bits.specs.MapLaws.{by-eight}

-- the code's powers of two
pub power-is : (k : ℕ) → k < 8 → get_or (1 ∷ 2 ∷ 4 ∷ 8 ∷ 16 ∷ 32 ∷ 64 ∷ 128 ∷ []) k 0 ≡ 2 ^ k
power-is = by-eight (λ k. get_or (1 ∷ 2 ∷ 4 ∷ 8 ∷ 16 ∷ 32 ∷ 64 ∷ 128 ∷ []) k 0 ≡ 2 ^ k) refl refl refl refl refl refl refl refl

-- a byte without a bit has room for it
pub room : (k : ℕ) → k < 8 → (x : ℕ) → x < 256 → x / 2 ^ k % 2 ≡ 0 → x + 2 ^ k < 256
room =
    by-eight (λ k. (x : ℕ) → x < 256 → x / 2 ^ k % 2 ≡ 0 → x + 2 ^ k < 256) (λ x h e. omega arith) (λ x h e. omega arith) (λ x h e. omega arith)
    (λ x h e. omega arith) (λ x h e. omega arith) (λ x h e. omega arith) (λ x h e. omega arith) (λ x h e. omega arith)

ones_bit : (b : ℕ) → b < 2 → ones b ≡ b
unfolding ones lib.Count.ones_in
ones_bit zero h = refl
ones_bit (suc zero) h = refl
ones_bit (suc (suc n)) h = absurd (omega arith)

-- the ones among the lowest bits: one bit more
ones-more : (x j : ℕ) → ones (x % 2 ^ suc j) ≡ ones (x % 2 ^ j) + x / 2 ^ j % 2
ones-more x j =
    let e : suc j ≡ 1 + j = omega arith in
    let s : ones (x % 2 ^ (1 + j)) ≡ ones (x / 2 ^ j % 2) + ones (x % 2 ^ j) =
    ap ones (mod-pow-add x 1 j) ∙ ones_cat j (x / 2 ^ j % 2) (x % 2 ^ j) (mod-lt x (pow_pos j)) in
    ap (λ (n : ℕ). ones (x % 2 ^ n)) e ∙ omega (arith, s, ones_bit (x / 2 ^ j % 2) (omega arith))

module _ (m : List ℕ) (i : ℕ) where
  bit-of : (j : ℕ) → j < 8 → bit_at m (8 * i + j) ≡ get_or m i 0 / 2 ^ j % 2
  bit-of j h =
      let a : (8 * i + j) / 8 ≡ i = omega arith in
      let b : (8 * i + j) % 8 ≡ j = omega arith in
      ap₂ (λ (x y : ℕ). get_or m x 0 / 2 ^ y % 2) a b

  -- the lowest bits of a byte
  pub below_rest : (j : ℕ) → j ≤ 8 → bits_below m (8 * i + j) ≡ bits_below m (8 * i) + ones (get_or m i 0 % 2 ^ j)
  below_rest zero h =
      let e : 8 * i + 0 ≡ 8 * i = omega arith in
      let z : get_or m i 0 % 1 ≡ 0 = omega arith in
      ap (bits_below m) e ∙ omega (arith, ap ones z, ones_bit 0 (lit< tt))
  below_rest (suc j) h =
      let e : 8 * i + suc j ≡ suc (8 * i + j) = omega arith in
      ap (bits_below m) e ∙ omega (arith, below_rest j (omega arith), bit-of j (omega arith), ones-more (get_or m i 0) j)

  -- a whole byte
  pub below-byte : get_or m i 0 < 256 → bits_below m (8 * (i + 1)) ≡ bits_below m (8 * i) + ones (get_or m i 0)
  below-byte h =
      let e : 8 * (i + 1) ≡ 8 * i + 8 = omega arith in
      ap (bits_below m) e ∙ below_rest 8 (omega arith) ∙ ap (λ (x : ℕ). bits_below m (8 * i) + ones x) (mod-eq_of_lt h)

-- ---- setting bits

bits-add : (m : List ℕ) (a x y : ℕ) → with_bits m a (x + y) ≡ with_bits (with_bits m a x) (a + x) y
bits-add m a x zero = ap (with_bits m a) (add-zero x)
bits-add m a x (suc y) =
    let e : a + (x + y) ≡ a + x + y = omega arith in
    ap (with_bits m a) (add-suc x y) ∙ ap₂ with_bit (bits-add m a x y) e

-- x bits, then the y behind them
pub bits-then : (m₀ : List ℕ) (a x b y n : ℕ) {m m' : List ℕ} → b ≡ a + x → n ≡ x + y → m ≡ with_bits m₀ a x → m' ≡ with_bits m b y → m' ≡ with_bits m₀ a n
bits-then m₀ a x b y n d e p q = q ∙ ap₂ (λ (l : List ℕ) (k : ℕ). with_bits l k y) p d ∙ sym (bits-add m₀ a x y) ∙ ap (with_bits m₀ a) (sym e)

-- a byte with bit k besides: its lowest bits were set below k, and are now set up to k
byte_more : (k : ℕ) → k < 8 → (x y : ℕ) → x < 256 → x % 2 ^ k + 1 ≡ 2 ^ k → y + 2 ^ k * (x / 2 ^ k % 2) ≡ x + 2 ^ k → (y < 256) × (y % 2 ^ suc k + 1 ≡ 2 ^ suc k)
byte_more =
    by-eight (λ k. (x y : ℕ) → x < 256 → x % 2 ^ k + 1 ≡ 2 ^ k → y + 2 ^ k * (x / 2 ^ k % 2) ≡ x + 2 ^ k → (y < 256) × (y % 2 ^ suc k + 1 ≡ 2 ^ suc k))
    (λ x y h e d. omega arith) (λ x y h e d. omega arith) (λ x y h e d. omega arith) (λ x y h e d. omega arith)
    (λ x y h e d. omega arith) (λ x y h e d. omega arith) (λ x y h e d. omega arith) (λ x y h e d. omega arith)

-- a bit b of worth p is added where it was 0
bit_added : (x p b : ℕ) → b < 2 → pick (eqb b 0) (x + p) x + p * b ≡ x + p
bit_added x p zero h = omega arith
bit_added x p (suc zero) h = omega arith
bit_added x p (suc (suc b)) h = absurd (omega arith)

module _ (m : List ℕ) (i : ℕ) (l : i < length m) where
  -- setting a bit of byte i, which is v
  mark-at : (v k : ℕ) → k < 8 → with_bit (set m i v) (8 * i + k) ≡ set m i (pick (eqb (v / 2 ^ k % 2) 0) (v + 2 ^ k) v)
  unfolding with_bit
  mark-at v k h =
      let a : (8 * i + k) / 8 ≡ i = omega arith in
      let b : (8 * i + k) % 8 ≡ k = omega arith in
      rw (a, b, get_or-set_same m i v 0 l) (go (eqb (v / 2 ^ k % 2) 0))
    where
      go : (c : Bool) → pick c (set (set m i v) i (v + 2 ^ k)) (set m i v) ≡ set m i (pick c (v + 2 ^ k) v)
      go true = set-set m i v (v + 2 ^ k)
      go false = refl

  -- setting the lowest k bits of byte i leaves a byte that has them
  lowest : get_or m i 0 < 256 → (k : ℕ) → k ≤ 8 → (v : ℕ) × (with_bits m (8 * i) k ≡ set m i v) × (v < 256) × (v % 2 ^ k + 1 ≡ 2 ^ k)
  lowest b zero h = (get_or m i 0, sym (set-get_or m i 0), b, omega arith)
  lowest b (suc k) h =
      let (v, laid, small, full) = lowest b k (omega arith) in
      let w : ℕ = pick (eqb (v / 2 ^ k % 2) 0) (v + 2 ^ k) v in
      let z = byte_more k (omega arith) v w small full (bit_added v (2 ^ k) (v / 2 ^ k % 2) (omega arith)) in
      (w, ap (λ (x : List ℕ). with_bit x (8 * i + k)) laid ∙ mark-at v k (omega arith), z.0, z.1)

  -- a whole byte
  pub byte-set : get_or m i 0 < 256 → set m i 255 ≡ with_bits m (8 * i) 8
  byte-set b =
      let (v, laid, small, full) = lowest b 8 (omega arith) in
      let e : 255 ≡ v = omega arith in
      ap (set m i) e ∙ sym laid

  -- a map stays one of bytes
  still-bytes : ((j : ℕ) → get_or m j 0 < 256) → (j : ℕ) → get_or (set m i 255) j 0 < 256
  still-bytes b j = go (eqb j i) refl
    where
      go : (c : Bool) → eqb j i ≡ c → get_or (set m i 255) j 0 < 256
      go true d = let z : j ≡ i = eqb→eq j i (rw d tt) in rw (z, get_or-set_same m i 255 0 l) (lit< tt)
      go false d = rw (get_or-set_other m i j 255 0 (eqb_no {a = j} {b = i} (rw d tt))) (b j)

-- whole bytes, each of which is set
module _ (m : List ℕ) (bytes : (j : ℕ) → get_or m j 0 < 256) (first : ℕ) where
  abbrev pub full : ℕ → List ℕ
  full n = paste m first (replicate n 255) n

  pub record Full (n : ℕ) : Type 0 where
    pub laid : full n ≡ with_bits m (8 * first) (8 * n)
    pub small : (j : ℕ) → get_or (full n) j 0 < 256
    pub long : length (full n) ≡ length m

  each-full : (n : ℕ) → first + n ≤ length m → Full n
  each-full zero h =
      let e : m ≡ paste m first [] 0 = paste-zero m first [] in
      record { laid = sym e; small = λ j. rw (← e) (bytes j); long = ap length (sym e) }
  each-full (suc n) h =
      let f = each-full n (omega arith) in
      let l : first + n < length (full n) = omega (arith, f.long) in
      let e : set (full n) (first + n) 255 ≡ full (suc n) = fill_from_more m first n 255 (omega arith) ∙ ap full (add-one n) in
      record {
        laid = bits-then m (8 * first) (8 * n) (8 * (first + n)) 8 (8 * suc n) (omega arith) (omega arith) f.laid
            (sym e ∙ byte-set (full n) (first + n) l (f.small (first + n)));
        small = λ j. rw (← e) (still-bytes (full n) (first + n) l f.small j);
        long = sym (ap length e) ∙ length-set (full n) (first + n) 255 ∙ f.long;
      }

  pub whole-bytes : (n : ℕ) → first + n ≤ length m → splice m first (replicate n 255) ≡ with_bits m (8 * first) (8 * n)
  whole-bytes n h =
      let e : take {A = ℕ} n (replicate n 255) ≡ replicate n 255 = take-replicate n n 255 (omega arith) in
      let d : splice m first (replicate n 255) ≡ full n = rw (e, length-replicate {A = ℕ} n 255) (sym (append_assoc (take first m) (replicate n 255) (drop (first + n) m))) in
      d ∙ (each-full n h).laid
