-- Laws of what is laid: records and heap side by side, a list's and any run's. Assumes nothing.
use mathlib.Core.Path.{◌≡◌, refl, sym, ap, ap₂, ◌∙◌}
use mathlib.Core.List.{List, [], ◌∷◌, ◌++◌}
use Prim.Native.Nat.{ℕ, zero, suc, ◌+◌, ◌-◌, ◌*◌, ◌≤◌, ◌<◌}
use native.Mathlib.Nat.{zero-mul}
use native.Mathlib.Omega.{arith}
use lib.ListN.{length, length-append}
use Rattle.table.specs.Bytes.{splice}
use Rattle.table.specs.Layout.{Entry, base_of}
use Rattle.table.specs.FixedLayouts.{layout_of}
use Rattle.table.specs.Objects.{size_entry, size_list, rec_entry, recs_list, heap_entry, heap_list}
use Rattle.laws.specs.ByteLaws.{length-splice}
use Rattle.bytes_writer.proofs.StoreLaws.{splice-join, splice-none, splice-swap}
use Rattle.reader.specs.Accepted.{Accepted}
use Rattle.reads_seats.specs.Told.{told_entry, told_list, count_of}
use Rattle.rewriter_sizes.specs.Parts.{list_of, list_from}
use Rattle.rewriter_sizes.proofs.PartLaws.{list-more, list_done}
use Rattle.rewriter_sizes.proofs.LengthLaws.{record-bytes, heap-bytes}
use Rattle.rewriter_objects.specs.Laid.{laid}

-- a record with what it names, then more of both behind
laid-join : (t : List ℕ) (a : ℕ) (r r' : List ℕ) (h : ℕ) (g g' : List ℕ) → a + length r + length r' ≤ h → h + length g + length g' ≤ length t
    → laid (laid t a r h g) (a + length r) r' (h + length g) g' ≡ laid t a (r ++ r') h (g ++ g')
laid-join t a r r' h g g' below room =
    let x : List ℕ = splice t a r in
    let l : length x ≡ length t = length-splice t a r (omega arith) in
    let w : List ℕ = splice x (a + length r) r' in
    let m : length w ≡ length x = length-splice x (a + length r) r' (omega (arith, l)) in
    ap (λ (y : List ℕ). splice y (h + length g) g') (splice-swap x (a + length r) r' h g below (omega (arith, l)))
    ∙ splice-join w h g g' (omega (arith, l, m))
    ∙ ap (λ (y : List ℕ). splice y h (g ++ g')) (splice-join t a r r' (omega arith))

pub one_less : (n p b : ℕ) → 0 < p → p ≤ n → (n - (p - 1)) * b ≡ b + (n - p) * b
one_less n p b g h =
    let e : n - (p - 1) ≡ suc (n - p) = omega arith in
    ap (λ (j : ℕ). j * b) e ∙ omega arith

module _ (t : List ℕ) (ok : Accepted t) (k : ℕ) where
  -- how long m records are from position n on, and what they name
  recs-long : (m n h : ℕ) → length (recs_list h (told_list (layout_of k) t k n m)) ≡ m * base_of (layout_of k)
  unfolding recs_list told_list
  recs-long zero n h = sym (zero-mul (base_of (layout_of k)))
  recs-long (suc m) n h =
      let x = told_entry (layout_of k) t k n in
      length-append (rec_entry h x) (recs_list (h + size_entry x) (told_list (layout_of k) t k (suc n) m))
      ∙ ap₂ ◌+◌ (record-bytes t ok k n h) (recs-long m (suc n) (h + size_entry x))
      ∙ omega arith

  heaps-long : (m n h : ℕ) → length (heap_list h (told_list (layout_of k) t k n m)) ≡ size_list (told_list (layout_of k) t k n m)
  unfolding heap_list size_list told_list
  heaps-long zero n h = refl
  heaps-long (suc m) n h =
      let x = told_entry (layout_of k) t k n in
      length-append (heap_entry h x) (heap_list (h + size_entry x) (told_list (layout_of k) t k (suc n) m))
      ∙ ap₂ ◌+◌ (heap-bytes t ok k n h) (heaps-long m (suc n) (h + size_entry x))

  -- the whole list
  pub list-recs : (h : ℕ) → length (recs_list h (list_of t k)) ≡ count_of t k * base_of (layout_of k)
  unfolding list_of
  list-recs h = recs-long (count_of t k) 1 h

  pub list-heaps : (h : ℕ) → length (heap_list h (list_of t k)) ≡ size_list (list_of t k)
  unfolding list_of
  list-heaps h = heaps-long (count_of t k) 1 h

  -- a turn of the walk: y is what the record of position p left of x
  pub list-turn : (x y : List ℕ) (n p d h : ℕ) → 0 < p → p ≤ n → d + (n - (p - 1)) * base_of (layout_of k) ≤ h → h + size_list (list_from t k n (p - 1)) ≤ length x
      → y ≡ laid x d (rec_entry h (told_entry (layout_of k) t k p)) h (heap_entry h (told_entry (layout_of k) t k p))
      → (u : ℕ) → u ≡ h + size_entry (told_entry (layout_of k) t k p)
      → laid y (d + base_of (layout_of k)) (recs_list u (list_from t k n p)) u (heap_list u (list_from t k n p))
      ≡ laid x d (recs_list h (list_from t k n (p - 1))) h (heap_list h (list_from t k n (p - 1)))
  unfolding recs_list heap_list size_list
  list-turn x y n p d h first last below room e u q =
      let w : Entry (layout_of k) = told_entry (layout_of k) t k p in
      let es : List (Entry (layout_of k)) = list_from t k n p in
      let s : list_from t k n (p - 1) ≡ w ∷ es = list-more t k p n first last in
      let z : size_list (list_from t k n (p - 1)) ≡ size_entry w + size_list es = ap (λ (v : List (Entry (layout_of k))). size_list v) s in
      let rb = record-bytes t ok k p h in
      let hb = heap-bytes t ok k p h in
      let rl : length (recs_list u es) ≡ (n - p) * base_of (layout_of k) = recs-long (n - p) (p + 1) u in
      let hl : length (heap_list u es) ≡ size_list es = heaps-long (n - p) (p + 1) u in
      let prod = one_less n p (base_of (layout_of k)) first last in
      ap₂ (λ (b v : ℕ). laid y (d + b) (recs_list u es) v (heap_list u es)) (sym rb) (q ∙ ap (λ (j : ℕ). h + j) (sym hb))
      ∙ ap (λ (v : List ℕ). laid v (d + length (rec_entry h w)) (recs_list u es) (h + length (heap_entry h w)) (heap_list u es)) e
      ∙ laid-join x d (rec_entry h w) (recs_list u es) h (heap_entry h w) (heap_list u es) (omega (arith, rb, rl, prod)) (omega (arith, hb, hl, z))
      ∙ ap (λ (j : ℕ). laid x d (rec_entry h w ++ recs_list j es) h (heap_entry h w ++ heap_list j es)) q
      ∙ sym (ap (λ (v : List (Entry (layout_of k))). laid x d (recs_list h v) h (heap_list h v)) s)

  pub list-ended : (x : List ℕ) (n i d h : ℕ) → n ≤ i → laid x d (recs_list h (list_from t k n i)) h (heap_list h (list_from t k n i)) ≡ x
  unfolding recs_list heap_list
  list-ended x n i d h e =
      ap (λ (v : List (Entry (layout_of k))). laid x d (recs_list h v) h (heap_list h v)) (list_done t k i n e)
      ∙ sym (splice-none x d ∙ splice-none (splice x d []) h)

-- ---- a run of records, each with what it names, behind one another

-- bytes among the records, and bytes in the heap
pub record Piece : Type 0 where
  pub rec : List ℕ
  pub heap : List ℕ

abbrev pub piece : List ℕ → List ℕ → Piece
piece r g = record { rec = r; heap = g }

abbrev pub recs_of : List Piece → List ℕ
recs_of [] = []
recs_of (p ∷ ps) = p.rec ++ recs_of ps

abbrev pub heaps_of : List Piece → List ℕ
heaps_of [] = []
heaps_of (p ∷ ps) = p.heap ++ heaps_of ps

-- x is before them, z behind them
abbrev pub Run : List ℕ → ℕ → ℕ → List Piece → List ℕ → Type 0
Run x a h [] z = z ≡ x
Run x a h (p ∷ ps) z = (y : List ℕ) × (y ≡ laid x a p.rec h p.heap) × Run y (a + length p.rec) (h + length p.heap) ps z

pub run-laid : (ps : List Piece) (x : List ℕ) (a h : ℕ) (z : List ℕ) → a + length (recs_of ps) ≤ h → h + length (heaps_of ps) ≤ length x → Run x a h ps z → z ≡ laid x a (recs_of ps) h (heaps_of ps)
run-laid [] x a h z below room e = e ∙ splice-none x a ∙ splice-none (splice x a []) h
run-laid (p ∷ ps) x a h z below room (y, e, r) =
    let m = length-append p.rec (recs_of ps) in
    let n = length-append p.heap (heaps_of ps) in
    let lx : length (splice x a p.rec) ≡ length x = length-splice x a p.rec (omega arith) in
    let ly : length y ≡ length x = ap length e ∙ length-splice (splice x a p.rec) h p.heap (omega (arith, lx)) ∙ lx in
    run-laid ps y (a + length p.rec) (h + length p.heap) z (omega arith) (omega arith) r
    ∙ ap (λ (v : List ℕ). laid v (a + length p.rec) (recs_of ps) (h + length p.heap) (heaps_of ps)) e
    ∙ laid-join x a p.rec (recs_of ps) h p.heap (heaps_of ps) (omega arith) (omega arith)

-- a link of a run, by the numbers that code has
pub link : (y x : List ℕ) (a a' h h' h'' : ℕ) (r g : ℕ → List ℕ) → a ≡ a' → h ≡ h' → h ≡ h'' → y ≡ laid x a (r h) h (g h) → y ≡ laid x a' (r h') h'' (g h')
link y x a a' h h' h'' r g p q q' e = e ∙ ap₂ (λ (b w : ℕ). laid x b (r h) w (g h)) p q' ∙ ap (λ (v : ℕ). laid x a' (r v) h'' (g v)) q
