-- Entries and lists of entries that are laid out: lengths, and what their images are. Assumes nothing.
use Rattle.std.specs.Prelude.{◌≡◌, ◌&&◌, length, get_or, drop, replicate, T, ltb}
use Rattle.std.proofs.Math.Path.{refl, sym, ap₂}
use Rattle.std.proofs.Common.{ap, ◌∙◌, zero-mul, get_or-drop, ltb→lt}
use mathlib.Core.List.{List, [], ◌∷◌}
use Prim.Native.Nat.{ℕ, suc, ◌+◌, ◌*◌, ◌%◌, ◌<◌}
use Rattle.std.proofs.Math.Nat.{zero-mod}
use native.Mathlib.Omega.{arith}
use Rattle.std.proofs.Math.ListN.{length-append, length-replicate}
use Rattle.std.proofs.lemmas.List.{get_or-replicate}
use Rattle.std.proofs.Math.Facts.{and_yes}
use Rattle.table.specs.Layout.{Entry, Env, Layout, Slots, base_of, env, image, low, mod_of, unused, used}
use Rattle.table.specs.Objects.{heap_entry, heap_list, patched, rec_entry, recs_list, size_entry, size_list}
use Rattle.laws.specs.Lawful.{FitEntry, FitList, FitUsed, all_keep, ok_keep, ok_layout, ok_refs}
use Rattle.laws.specs.ByteLaws.{Holds, holds-get_d}
use Rattle.laws.specs.ImageLaws.{image-at}
use Rattle.laws.specs.SlotLaws.{image-held, image-patched, length-fixed, length-heap, length-patched}

pub record OkLayout (l : Layout) : Type 0 where
  pub keeps : T (all_keep (ok_keep l.shape.keep) l.shape.keep)
  pub refs_ok : T (ok_refs 0 l.shape.keep l.refs)
  pub short : base_of l < 65536
  pub flag : l.shape.flags.at < base_of l

pub ok-layout : (l : Layout) → T (ok_layout l) → OkLayout l
ok-layout l t =
    let u = and_yes (all_keep (ok_keep l.shape.keep) l.shape.keep && ok_refs 0 l.shape.keep l.refs) _ t in
    let v = and_yes (all_keep (ok_keep l.shape.keep) l.shape.keep) _ u.0 in
    let w = and_yes (ltb (base_of l) 65536) _ u.1 in
    record { keeps = v.0; refs_ok = v.1; short = ltb→lt (base_of l) 65536 w.0; flag = ltb→lt l.shape.flags.at (base_of l) w.1 }

module _ (l : Layout) (o : OkLayout l) where
  pub length-rec_entry : (h : ℕ) (v : Env) (e : Entry l) → FitEntry v e → length (rec_entry h e) ≡ base_of l
  unfolding rec_entry
  length-rec_entry h v unused f = length-replicate (base_of l) 0
  length-rec_entry h v (used img ss) f = length-patched l.shape.keep h img ss o.refs_ok (length-fixed l.shape.keep img f.fixed)

  pub length-heap_entry : (h : ℕ) (v : Env) (e : Entry l) → FitEntry v e → length (heap_entry h e) ≡ size_entry e
  unfolding heap_entry size_entry
  length-heap_entry h v unused f = refl
  length-heap_entry h v (used img ss) f = length-heap l.shape.keep 0 h v img ss o.refs_ok f.objects

  -- the image of a used record
  pub image-entry : (t : List ℕ) (a h : ℕ) (v : Env) (img : List ℕ) (ss : Slots l.refs) → FitUsed l v img ss → Holds t a (patched h img ss) → image l.shape.keep (drop a t) ≡ img
  image-entry t a h v img ss f g =
      let n : length img ≡ length l.shape.keep = length-fixed l.shape.keep img f.fixed in
      image-held l.shape.keep t a (patched h img ss) o.keeps (length-patched l.shape.keep h img ss o.refs_ok n) g
      ∙ image-patched l.shape.keep h img ss o.refs_ok n o.keeps
      ∙ f.fixed

  -- the flags of an unused record
  pub zero_flag : (t : List ℕ) (a : ℕ) → Holds t a (replicate (base_of l) 0) → get_or (image l.shape.keep (drop a t)) l.shape.flags.at 0 ≡ 0
  zero_flag t a g =
      image-at l.shape.keep (drop a t) l.shape.flags.at o.flag
      ∙ ap (λ (z : ℕ). z % mod_of (get_or l.shape.keep l.shape.flags.at (low 1)) (drop a t))
      (get_or-drop a t l.shape.flags.at 0
      ∙ holds-get_d t a (replicate (base_of l) 0) g l.shape.flags.at (rw length-replicate o.flag)
      ∙ get_or-replicate (base_of l) l.shape.flags.at 0 0 o.flag)
      ∙ zero-mod (mod_of (get_or l.shape.keep l.shape.flags.at (low 1)) (drop a t))

  pub length-recs_list : (count : ℕ → ℕ) (h pos : ℕ) (es : List (Entry l)) → FitList count pos es → length (recs_list h es) ≡ length es * base_of l
  unfolding recs_list
  length-recs_list count h pos [] f = sym (zero-mul (base_of l))
  length-recs_list count h pos (e ∷ es) f =
      length-append (rec_entry h e) (recs_list (h + size_entry e) es)
      ∙ ap₂ ◌+◌ (length-rec_entry h (env count pos) e f.0) (length-recs_list count (h + size_entry e) (suc pos) es f.1)
      ∙ omega arith

  pub length-heap_list : (count : ℕ → ℕ) (h pos : ℕ) (es : List (Entry l)) → FitList count pos es → length (heap_list h es) ≡ size_list es
  unfolding heap_list size_list
  length-heap_list count h pos [] f = refl
  length-heap_list count h pos (e ∷ es) f =
      length-append (heap_entry h e) (heap_list (h + size_entry e) es)
      ∙ ap₂ ◌+◌ (length-heap_entry h (env count pos) e f.0) (length-heap_list count (h + size_entry e) (suc pos) es f.1)
