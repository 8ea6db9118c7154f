-- Objects that are laid out read back as they were. Assumes nothing.
use Rattle.std.specs.Prelude.{◌≡◌, refl, Bool, ◌&&◌, List, [], ◌∷◌, ℕ, ◌+◌, ◌%◌, ◌≤◌, ◌<◌, length, get_or, drop, T, leb, ltb}
use Rattle.std.proofs.Common.{sym, ap, ◌∙◌, arith, length-append, get_or-drop, leb→le, ltb→lt}
use Rattle.std.proofs.Math.Facts.{and_yes}
use Rattle.table.specs.declared.Need.{Need}
use Rattle.table.specs.Layout.{Content, Env, Keep, Refs, Shape, Slots, bytes, gone, image, low, nest, nil, none, plain, rec}
use Rattle.table.specs.Objects.{heap_of, patched, ref6, ref_for, size_of, stores}
use Rattle.laws.specs.Lawful.{Fit, all_keep, ok_keep, ok_refs, top_of}
use Rattle.laws.specs.ByteLaws.{Holds, holds-get_d}
use Rattle.laws.specs.ImageLaws.{image-same, length-image}
use Rattle.laws.specs.StoreLaws.{AllHold, OkEdits, apply-holds, dead, image-apply, length-apply}

pub length-ref_for : (h : ℕ) (b : List ℕ) → length (ref_for h b) ≡ 6
length-ref_for h [] = refl
length-ref_for h (b ∷ bs) = refl

-- ---- the test of the references, taken apart

-- one reference, from q on, stored as r
ok-store : (q p : ℕ) (ks : List Keep) (r : List ℕ) (rest : Bool) → length r ≡ 6 → T ((leb q p && dead ks p 6) && rest) → (q ≤ p) × T (dead ks p (length r)) × T rest
ok-store q p ks r rest e t =
    let u = and_yes (leb q p && dead ks p 6) rest t in
    let v = and_yes (leb q p) (dead ks p 6) u.0 in
    (leb→le q p v.0, rw e v.1, u.1)

-- a heap record's own layout
pub record OkNest (shape : Shape) (own : Refs) : Type 0 where
  pub keeps : T (all_keep (ok_keep shape.keep) shape.keep)
  pub refs : T (ok_refs 0 shape.keep own)
  pub short : length shape.keep < 65536
  pub some : 0 < length shape.keep

nest-head : (q p : ℕ) (ks : List Keep) (need : List ℕ → Need) (shape : Shape) (own rest : Refs)
    → T (ok_refs q ks (nest p need shape own rest)) → T ((leb q p && dead ks p 6) && ok_refs (p + 6) ks rest)
nest-head q p ks need shape own rest t = (and_yes ((leb q p && dead ks p 6) && ok_refs (p + 6) ks rest) _ t).0

pub nest-own : (q p : ℕ) (ks : List Keep) (need : List ℕ → Need) (shape : Shape) (own rest : Refs)
    → T (ok_refs q ks (nest p need shape own rest)) → OkNest shape own
nest-own q p ks need shape own rest t =
    let w = and_yes (all_keep (ok_keep shape.keep) shape.keep && ok_refs 0 shape.keep own) _ (and_yes ((leb q p && dead ks p 6) && ok_refs (p + 6) ks rest) _ t).1 in
    let a = and_yes (all_keep (ok_keep shape.keep) shape.keep) _ w.0 in
    let b = and_yes (ltb (length shape.keep) 65536) _ w.1 in
    record { keeps = a.0; refs = a.1; short = ltb→lt (length shape.keep) 65536 b.0; some = ltb→lt 0 (length shape.keep) b.1 }

pub plain-next : (q p : ℕ) (ks : List Keep) (need : List ℕ → Need) (content : Content) (rest : Refs) → T (ok_refs q ks (plain p need content rest)) → T (ok_refs (p + 6) ks rest)
plain-next q p ks need content rest t = (and_yes (leb q p && dead ks p 6) _ t).1

pub nest-next : (q p : ℕ) (ks : List Keep) (need : List ℕ → Need) (shape : Shape) (own rest : Refs)
    → T (ok_refs q ks (nest p need shape own rest)) → T (ok_refs (p + 6) ks rest)
nest-next q p ks need shape own rest t = (and_yes (leb q p && dead ks p 6) _ (nest-head q p ks need shape own rest t)).1

-- the stores of a record's references are apart, inside, and into bytes that do not count
stores-ok : {rs : Refs} (q h : ℕ) (ks : List Keep) (ss : Slots rs) → T (ok_refs q ks rs) → OkEdits q ks (stores h ss)
unfolding stores
stores-ok q h ks nil t = leb→le q (length ks) t
stores-ok q h ks (bytes {p = p} {rest = rest} b ss) t =
    let o = ok-store q p ks (ref_for h b) (ok_refs (p + 6) ks rest) (length-ref_for h b) t in
    (o.0, o.1, rw length-ref_for (stores-ok (p + 6) (h + length b) ks ss o.2))
stores-ok q h ks (gone {p = p} {need = need} {shape = shape} {own = own} {rest = rest} ss) t =
    let o = ok-store q p ks (ref6 0 0) (ok_refs (p + 6) ks rest) refl (nest-head q p ks need shape own rest t) in
    (o.0, o.1, stores-ok (p + 6) h ks ss o.2)
stores-ok q h ks (rec {p = p} {need = need} {shape = shape} {own = own} {rest = rest} img own' ss) t =
    let o = ok-store q p ks (ref6 h (length shape.keep)) (ok_refs (p + 6) ks rest) refl (nest-head q p ks need shape own rest t) in
    (o.0, o.1, stores-ok (p + 6) (h + (length shape.keep + size_of own')) ks ss o.2)

-- ---- a patched record: its length, its image, what a table that has it holds

module _ {rs : Refs} (ks : List Keep) (h : ℕ) (x : List ℕ) (ss : Slots rs) (t : T (ok_refs 0 ks rs)) (l : length x ≡ length ks) where
  pub length-patched : length (patched h x ss) ≡ length ks
  unfolding patched
  length-patched = length-apply ks 0 (stores h ss) x (stores-ok 0 h ks ss t) l

  pub image-patched : T (all_keep (ok_keep ks) ks) → image ks (patched h x ss) ≡ image ks x
  unfolding patched
  image-patched u = image-apply ks 0 (stores h ss) x u (stores-ok 0 h ks ss t) l

  pub patched-holds : (tab : List ℕ) (a : ℕ) → Holds tab a (patched h x ss) → AllHold tab a (stores h ss)
  unfolding patched
  patched-holds tab a k = apply-holds ks 0 (stores h ss) x tab a (stores-ok 0 h ks ss t) l k

-- the image of bytes that a table holds
pub image-held : (ks : List Keep) (tab : List ℕ) (a : ℕ) (x : List ℕ) → T (all_keep (ok_keep ks) ks) → length x ≡ length ks → Holds tab a x → image ks (drop a tab) ≡ image ks x
image-held ks tab a x t l h =
    image-same ks (drop a tab) x t λ j k. ap (λ (z : ℕ). z % top_of (get_or ks j (low 1))) (get_or-drop a tab j 0 ∙ holds-get_d tab a x h j (omega arith))

-- an image that is one has its layout's length
pub length-fixed : (ks : List Keep) (img : List ℕ) → image ks img ≡ img → length img ≡ length ks
length-fixed ks img e = ap length (sym e) ∙ length-image ks img

-- ---- how long the heap is

pub length-heap : {rs : Refs} (ks : List Keep) (q h : ℕ) (e : Env) (img : List ℕ) (ss : Slots rs) → T (ok_refs q ks rs) → Fit e img ss → length (heap_of h ss) ≡ size_of ss
unfolding heap_of size_of
length-heap ks q h e img nil t f = refl
length-heap ks q h e img (bytes {p = p} {need = need} {content = content} {rest = rest} b ss) t f =
    length-append b (heap_of (h + length b) ss) ∙ ap (λ (n : ℕ). length b + n) (length-heap ks (p + 6) (h + length b) e img ss (plain-next q p ks need content rest t) f.1)
length-heap ks q h e img (gone {p = p} {need = need} {shape = shape} {own = own} {rest = rest} ss) t f =
    length-heap ks (p + 6) h e img ss (nest-next q p ks need shape own rest t) f.1
length-heap ks q h e img (rec {p = p} {need = need} {shape = shape} {own = own} {rest = rest} img' own' ss) t f =
    let o = nest-own q p ks need shape own rest t in
    let h₁ : ℕ = h + length shape.keep in
    let a = length-patched shape.keep h₁ img' own' o.refs (length-fixed shape.keep img' f.0.fixed) in
    let b = length-heap shape.keep 0 h₁ e img' own' o.refs f.1 in
    let c = length-heap ks (p + 6) (h + (length shape.keep + size_of own')) e img ss (nest-next q p ks need shape own rest t) f.2 in
    simp length-append (simp (a, b, c))

-- the first reference lies inside
pub ok-inside : (q p : ℕ) (ks : List Keep) (rest : Refs) → T (ok_refs (p + 6) ks rest) → p + 6 ≤ length ks
ok-inside q p ks none t = leb→le (p + 6) (length ks) t
ok-inside q p ks (plain p' need content rest) t =
    let u = and_yes (leb (p + 6) p' && dead ks p' 6) (ok_refs (p' + 6) ks rest) t in
    let l : p + 6 ≤ p' = leb→le (p + 6) p' (and_yes (leb (p + 6) p') (dead ks p' 6) u.0).0 in
    omega (arith, ok-inside q p' ks rest u.1)
ok-inside q p ks (nest p' need shape own rest) t =
    let u = and_yes (leb (p + 6) p' && dead ks p' 6) (ok_refs (p' + 6) ks rest) (nest-head (p + 6) p' ks need shape own rest t) in
    let l : p + 6 ≤ p' = leb→le (p + 6) p' (and_yes (leb (p + 6) p') (dead ks p' 6) u.0).0 in
    omega (arith, ok-inside q p' ks rest u.1)
