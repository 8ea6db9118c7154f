-- A record by its kind's table of offsets, and as the definitions have it. Assumes nothing.
use mathlib.Core.Path.{◌≡◌, refl, sym, ap, ap₂, ◌∙◌}
use mathlib.Core.List.{List, [], ◌∷◌}
use Prim.Native.Nat.{ℕ, zero, suc, ◌≤◌}
use native.Mathlib.Omega.{arith}
use lib.ListN.{length, get_or}
use Rattle.table.specs.Bytes.{apply}
use Rattle.table.specs.Layout.{Layout, Refs, Slots, nil, bytes, gone, rec, base_of, offsets}
use Rattle.table.specs.FixedLayouts.{layout_of}
use Rattle.table.specs.Objects.{patched}
use Rattle.laws.specs.Fields.{image_in}
use Rattle.laws.specs.ListWalk.{refs-within}
use Rattle.bytes_writer.specs.Stores.{stores_from, Room}
use Rattle.bytes_writer.proofs.RecordLaws.{Told, many, written}
use Rattle.builder_writers.specs.Written.{Narrow, record_with}

-- ---- the table of offsets

pub refs-room : (k : ℕ) (ps ws : List ℕ) (size : ℕ) → ps ≡ offsets (layout_of k).refs → length ps ≤ 6 → Narrow ws → size ≡ base_of (layout_of k) → Room (length ps) ps ws size
refs-room k ps ws size e f short q = record {
  few = f;
  room = λ i j. rw (e, q) (refs-within k i (omega (arith, ap length e)));
  short = λ i j. short i;
}

pub same-record : (l : Layout) (b : List ℕ) (h : ℕ) (ns ns' ws ws' : List ℕ) → ns ≡ ns' → ws ≡ ws' → record_with l b h ns ws ≡ record_with l b h ns' ws'
same-record l b h ns ns' ws ws' e f = ap₂ (record_with l b h) e f

pub six-narrow : (ws : List ℕ) (a b c d e f : ℕ) → ws ≡ a ∷ b ∷ c ∷ d ∷ e ∷ f ∷ [] → a ≤ 131072 → b ≤ 131072 → c ≤ 131072 → d ≤ 131072 → e ≤ 131072 → f ≤ 131072 → Narrow ws
six-narrow ws a b c d e f q ka kb kc kd ke kf i = rw q (go i) where
  go : (i : ℕ) → get_or (a ∷ b ∷ c ∷ d ∷ e ∷ f ∷ []) i 0 ≤ 131072
  go zero = ka
  go (suc zero) = kb
  go (suc (suc zero)) = kc
  go (suc (suc (suc zero))) = kd
  go (suc (suc (suc (suc zero)))) = ke
  go (suc (suc (suc (suc (suc zero))))) = kf
  go (suc (suc (suc (suc (suc (suc i)))))) = omega arith

-- ---- the record of the form

many_is : {rs : Refs} (ss : Slots rs) → many ss ≡ length (offsets rs)
many_is nil = refl
many_is (bytes b ss) = ap suc (many_is ss)
many_is (gone ss) = ap suc (many_is ss)
many_is (rec img own ss) = ap suc (many_is ss)

-- lengths and spans are those of these objects
pub record_is : (l : Layout) (b : List ℕ) (h : ℕ) (ns ws : List ℕ) (ss : Slots l.refs) → Told ss (offsets l.refs) ns ws 0 → record_with l b h ns ws ≡ patched h (image_in l b 0) ss
unfolding record_with
record_is l b h ns ws ss t =
    ap (λ (m : ℕ). apply (image_in l b 0) (stores_from (offsets l.refs) ns ws h 0 m)) (sym (many_is ss)) ∙ written ss (offsets l.refs) ns ws (image_in l b 0) h t
