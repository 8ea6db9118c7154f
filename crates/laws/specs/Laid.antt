-- Records that are laid out with their objects one after the other in the heap stand there. Assumes nothing.
use Rattle.std.specs.Prelude.{◌≡◌, length, drop, T}
use Rattle.std.proofs.Common.{◌∙◌, zero-lt-suc, arith, length-append}
use mathlib.Core.List.{List, [], ◌∷◌, ◌++◌}
use Prim.Native.Nat.{ℕ, suc, ◌+◌, ◌^◌, ◌≤◌, ◌<◌}
use Rattle.table.specs.declared.Region.{Region}
use Rattle.table.specs.declared.Need.{Need}
use Rattle.table.specs.declared.Need.TheVariants.{Ignored, Optional, Required}
use Rattle.table.specs.Layout.{Entry, Env, Keep, Layout, Refs, Shape, Slots, base_of, bytes, env, gone, image, nil, rec, unused, used}
use Rattle.table.specs.Objects.{heap_entry, heap_list, heap_of, patched, rec_entry, recs_list, ref_for, size_entry, size_list, size_of, stores, under}
use Rattle.laws.specs.Lawful.{Fit, FitEntry, FitList, ok_refs}
use Rattle.laws.specs.ByteLaws.{Holds, holds-left, holds-right}
use Rattle.laws.specs.StoreLaws.{AllHold}
use Rattle.laws.specs.SlotLaws.{OkNest, image-held, image-patched, length-fixed, length-heap, length-patched, nest-next, nest-own, patched-holds, plain-next}
use Rattle.laws.specs.ListLaws.{OkLayout, image-entry, length-heap_entry, length-rec_entry, zero_flag}
use Rattle.laws.specs.Standing.{At, EntryAt, ListAt, PlainAt}

-- n bytes from h on lie in the heap, which starts behind place 0
pub record Inside (heap : Region) (h n : ℕ) : Type 0 where
  pub small : h + n < 256 ^ 4
  pub positive : 0 < heap.at
  pub from : heap.at ≤ h
  pub upto : h + n ≤ heap.at + heap.len

plain_at : (t : List ℕ) (heap : Region) (r h : ℕ) (b : List ℕ) → length b < 65536 → Inside heap h (length b) → Holds t r (ref_for h b) → Holds t h b → PlainAt t heap r b
plain_at t heap r h [] k i g d = g
plain_at t heap r h (b ∷ bs) k i g d =
    (h, record { small = omega arith; positive = omega arith; nonzero = zero-lt-suc (length bs); short = k; from = i.from; upto = i.upto; ref = g }, d)

-- what is known where a heap record stands at h, its own objects behind it, and further bytes after those
record NestAt {own : Refs} (t : List ℕ) (h : ℕ) (shape : Shape) (img : List ℕ) (os : Slots own) (after : List ℕ) : Type 0 where
  imaged : image shape.keep (drop h t) ≡ img
  holds : AllHold t h (stores (h + length shape.keep) os)
  behind : Holds t (h + length shape.keep) (heap_of (h + length shape.keep) os)
  next : Holds t (h + (length shape.keep + size_of os)) after

nest-at : {own : Refs} (t : List ℕ) (h : ℕ) (v : Env) (shape : Shape) (img : List ℕ) (os : Slots own) (after : List ℕ) → OkNest shape own → image shape.keep img ≡ img → Fit v img os
    → Holds t h ((patched (h + length shape.keep) img os ++ heap_of (h + length shape.keep) os) ++ after) → NestAt t h shape img os after
nest-at t h v shape img os after o e f g =
    let h₁ : ℕ = h + length shape.keep in
    let bs : List ℕ = patched h₁ img os in
    let hs : List ℕ = heap_of h₁ os in
    let l : length img ≡ length shape.keep = length-fixed shape.keep img e in
    let lb : length bs ≡ length shape.keep = length-patched shape.keep h₁ img os o.refs l in
    let lh : length hs ≡ size_of os = length-heap shape.keep 0 h₁ v img os o.refs f in
    let both : Holds t h (bs ++ hs) = holds-left t h (bs ++ hs) after g in
    let here : Holds t h bs = holds-left t h bs hs both in
    record {
      imaged = image-held shape.keep t h bs o.keeps lb here ∙ image-patched shape.keep h₁ img os o.refs l o.keeps ∙ e;
      holds = patched-holds shape.keep h₁ img os o.refs l t h here;
      behind = rw lb at (holds-right t h bs hs both);
      next = simp (length-append, lb, lh) at (holds-right t h (bs ++ hs) after g);
    }

under-any : {A : Type 0} (n : Need) → A → under n (Unit {0}) A
under-any Ignored a = tt
under-any Optional a = a
under-any Required a = a

-- objects that are laid out from h on stand there
pub laid-at : {rs : Refs} (ks : List Keep) (q : ℕ) (t : List ℕ) (heap : Region) (a h : ℕ) (v : Env) (img : List ℕ) (ss : Slots rs)
    → T (ok_refs q ks rs) → Fit v img ss → Inside heap h (size_of ss) → AllHold t a (stores h ss) → Holds t h (heap_of h ss) → At t heap a img ss
unfolding stores heap_of size_of
laid-at ks q t heap a h v img nil o f i s g = tt
laid-at ks q t heap a h v img (bytes {p = p} {need = need} {content = content} {rest = rest} b ss) o f i s g = (
  under-any (need img) (plain_at t heap (a + p) h b f.0.short (omega arith) s.0 (holds-left t h b (heap_of (h + length b) ss) g)),
  laid-at ks (p + 6) t heap a (h + length b) v img ss (plain-next q p ks need content rest o) f.1 (omega arith) s.1 (holds-right t h b (heap_of (h + length b) ss) g),
)
laid-at ks q t heap a h v img (gone {p = p} {need = need} {shape = shape} {own = own} {rest = rest} ss) o f i s g =
    (under-any (need img) s.0, laid-at ks (p + 6) t heap a h v img ss (nest-next q p ks need shape own rest o) f.1 i s.1 g)
laid-at ks q t heap a h v img (rec {p = p} {need = need} {shape = shape} {own = own} {rest = rest} img' own' ss) o f i s g =
    let o' = nest-own q p ks need shape own rest o in
    let k = o'.some in
    let h₂ : ℕ = h + (length shape.keep + size_of own') in
    let u = nest-at t h v shape img' own' (heap_of h₂ ss) o' f.0.fixed f.1 g in (
      (
        h,
        length shape.keep,
        record { small = omega arith; positive = omega arith; nonzero = k; short = o'.short; from = i.from; upto = omega arith; ref = s.0 },
        omega arith,
        u.imaged,
        laid-at shape.keep 0 t heap h (h + length shape.keep) v img' own' o'.refs f.1 (omega arith) u.holds u.behind,
      ),
      laid-at ks (p + 6) t heap a h₂ v img ss (nest-next q p ks need shape own rest o) f.2 (omega arith) s.1 u.next,
    )

module _ (l : Layout) (o : OkLayout l) (t : List ℕ) (heap : Region) where
  pub laid-entry : (a h : ℕ) (v : Env) (e : Entry l) → FitEntry v e → Inside heap h (size_entry e) → Holds t a (rec_entry h e) → Holds t h (heap_entry h e) → EntryAt t heap a e
  unfolding rec_entry heap_entry size_entry
  laid-entry a h v unused f i g d = rw (zero_flag l o t a g) tt
  laid-entry a h v (used img ss) f i g d = (
    image-entry l o t a h v img ss f g,
    laid-at l.shape.keep 0 t heap a h v img ss o.refs_ok f.objects i
        (patched-holds l.shape.keep h img ss o.refs_ok (length-fixed l.shape.keep img f.fixed) t a g) d,
  )

  pub laid-list : (count : ℕ → ℕ) (a h pos : ℕ) (es : List (Entry l))
      → FitList count pos es
      → Inside heap h (size_list es)
      → Holds t a (recs_list h es)
      → Holds t h (heap_list h es)
      → ListAt t heap a (base_of l) es
  unfolding recs_list heap_list size_list
  laid-list count a h pos [] f i g d = tt
  laid-list count a h pos (e ∷ es) f i g d =
      let h' : ℕ = h + size_entry e in (
        laid-entry a h (env count pos) e f.0 (omega arith) (holds-left t a (rec_entry h e) (recs_list h' es) g) (holds-left t h (heap_entry h e) (heap_list h' es) d),
        laid-list count (a + base_of l) h' (suc pos) es f.1 (omega arith)
            (rw (length-rec_entry l o h (env count pos) e f.0) at (holds-right t a (rec_entry h e) (recs_list h' es) g))
            (rw (length-heap_entry l o h (env count pos) e f.0) at (holds-right t h (heap_entry h e) (heap_list h' es) d)),
      )
