-- Laws of stores by table. Assumes nothing.
use mathlib.Core.Path.{◌≡◌, refl, sym, ap, ◌∙◌}
use mathlib.Core.Bool.{Bool, true, false}
use mathlib.Core.List.{List, [], ◌∷◌, ◌++◌, append-nil}
use Prim.Native.Nat.{ℕ, suc, ◌+◌, ◌-◌, ◌≤◌, ◌<◌}
use native.Mathlib.Omega.{arith}
use lib.ListN.{length, get_or, drop}
use lib.Seq.{drop-length}
use lib.Dec.{eqb}
use Rattle.table.specs.Bytes.{pick, splice, Edit, edit, apply}
use borrow.Author.Tests.{ne_eqb}
use native.Mathlib.Nat.{add-zero}
use Rattle.table.specs.Layout.{Refs, Slots, nil, bytes, gone, rec}
use Rattle.table.specs.Objects.{size_of, stores, patched, ref6, ref_for}
use Rattle.bytes_writer.specs.Stores.{ref_num, stores_from}

-- a turn of the loop over the references
stores-more : (x ps ns ws : List ℕ) (h i n : ℕ) → i < n
    → apply x (stores_from ps ns ws h i (n - i)) ≡ apply (splice x (get_or ps i 0) (ref_num h (get_or ns i 0))) (stores_from ps ns ws (h + get_or ws i 0) (i + 1) (n - (i + 1)))
unfolding stores_from
stores-more x ps ns ws h i n k =
    ap (λ (m : ℕ). apply x (stores_from ps ns ws h i m)) e
  where
    e : n - i ≡ suc (n - (i + 1))
    e = omega arith

pub stores-done : (x ps ns ws : List ℕ) (h i n : ℕ) → n ≤ i → apply x (stores_from ps ns ws h i (n - i)) ≡ x
unfolding stores_from
stores-done x ps ns ws h i n k =
    ap (λ (m : ℕ). apply x (stores_from ps ns ws h i m)) e
  where
    e : n - i ≡ 0
    e = omega arith

-- a splice of the whole
pub splice_all : (t bs : List ℕ) → length bs ≡ length t → splice t 0 bs ≡ bs
splice_all t bs e =
    ap (λ (m : ℕ). bs ++ drop m t) z ∙ ap (λ (y : List ℕ). bs ++ y) (drop-length t) ∙ append-nil bs
  where
    z : 0 + length bs ≡ length t
    z = omega arith

-- the same, as a loop's turn has it: y is what the store left
pub stores-turn : (x y ps ns ws : List ℕ) (h i n : ℕ) → i < n → y ≡ splice x (get_or ps i 0) (ref_num h (get_or ns i 0))
    → apply y (stores_from ps ns ws (h + get_or ws i 0) (i + 1) (n - (i + 1))) ≡ apply x (stores_from ps ns ws h i (n - i))
stores-turn x y ps ns ws h i n k e =
    ap (λ (z : List ℕ). apply z (stores_from ps ns ws (h + get_or ws i 0) (i + 1) (n - (i + 1)))) e ∙ sym (stores-more x ps ns ws h i n k)

-- ---- the table says what the slots are: any kind, any depth

-- numbers i, i + 1, .. of the table are a kind's offsets, and the lengths and spans of these objects
abbrev pub Told : {rs : Refs} → Slots rs → List ℕ → List ℕ → List ℕ → ℕ → Type 0
Told nil ps ns ws i = Unit {0}
Told (bytes {p = p} b ss) ps ns ws i = (get_or ps i 0 ≡ p) × (get_or ns i 0 ≡ length b) × (get_or ws i 0 ≡ length b) × Told ss ps ns ws (i + 1)
Told (gone {p = p} ss) ps ns ws i = (get_or ps i 0 ≡ p) × (get_or ns i 0 ≡ 0) × (get_or ws i 0 ≡ 0) × Told ss ps ns ws (i + 1)
Told (rec {p = p} {shape = shape} img own ss) ps ns ws i =
    (get_or ps i 0 ≡ p) × (get_or ns i 0 ≡ length shape.keep) × (0 < length shape.keep) × (get_or ws i 0 ≡ length shape.keep + size_of own) × Told ss ps ns ws (i + 1)

abbrev pub many : {rs : Refs} → Slots rs → ℕ
many nil = 0
many (bytes b ss) = suc (many ss)
many (gone ss) = suc (many ss)
many (rec img own ss) = suc (many ss)

pub ref-num : (h n : ℕ) → 0 < n → ref_num h n ≡ ref6 h n
ref-num h n k = rw (ne_eqb n 0 (λ e. omega arith))

pub ref-for : (h : ℕ) (b : List ℕ) → ref_num h (length b) ≡ ref_for h b
ref-for h [] = refl
ref-for h (x ∷ b) = ref-num h (length (x ∷ b)) (omega arith)

one : (ps ns ws : List ℕ) (h i k p n w : ℕ) (r : List ℕ) → get_or ps i 0 ≡ p → get_or ns i 0 ≡ n → get_or ws i 0 ≡ w → ref_num h n ≡ r
    → edit p r ∷ stores_from ps ns ws (h + w) (i + 1) k ≡ stores_from ps ns ws h i (suc k)
unfolding stores_from
one ps ns ws h i k p n w r e₁ e₂ e₃ e₄ = rw (e₁, e₂, e₃, e₄)

stores-told : {rs : Refs} (ss : Slots rs) (ps ns ws : List ℕ) (h i : ℕ) → Told ss ps ns ws i → stores h ss ≡ stores_from ps ns ws h i (many ss)
unfolding stores stores_from
stores-told nil ps ns ws h i t = refl
stores-told (bytes {p = p} b ss) ps ns ws h i t =
    ap (λ (es : List Edit). edit p (ref_for h b) ∷ es) (stores-told ss ps ns ws (h + length b) (i + 1) t.3)
    ∙ one ps ns ws h i (many ss) p (length b) (length b) (ref_for h b) t.0 t.1 t.2 (ref-for h b)
stores-told (gone {p = p} ss) ps ns ws h i t =
    ap (λ (es : List Edit). edit p (ref6 0 0) ∷ es) (ap (λ (m : ℕ). stores m ss) (sym (add-zero h)) ∙ stores-told ss ps ns ws (h + 0) (i + 1) t.3)
    ∙ one ps ns ws h i (many ss) p 0 0 (ref6 0 0) t.0 t.1 t.2 refl
stores-told (rec {p = p} {shape = shape} img own ss) ps ns ws h i t =
    ap (λ (es : List Edit). edit p (ref6 h (length shape.keep)) ∷ es) (stores-told ss ps ns ws (h + (length shape.keep + size_of own)) (i + 1) t.4)
    ∙ one ps ns ws h i (many ss) p (length shape.keep) (length shape.keep + size_of own) (ref6 h (length shape.keep)) t.0 t.1 t.3 (ref-num h (length shape.keep) t.2)

-- what the generic writer leaves is the record of the form
pub written : {rs : Refs} (ss : Slots rs) (ps ns ws x : List ℕ) (h : ℕ) → Told ss ps ns ws 0 → apply x (stores_from ps ns ws h 0 (many ss)) ≡ patched h x ss
unfolding patched
written ss ps ns ws x h t = ap (apply x) (sym (stores-told ss ps ns ws h 0 t))

pub length-ref : (h n : ℕ) → length (ref_num h n) ≡ 6
length-ref h n = go (eqb n 0)
  where
    go : (c : Bool) → length (pick c (ref6 0 0) (ref6 h n)) ≡ 6
    go true = refl
    go false = refl
