-- Texts of an accepted table, as the object call hands them back: of any kind, position and reference. Assumes nothing.
use Rattle.std.specs.Prelude.{◌≡◌, Bool, true, false, ◌&&◌, List, [], ◌∷◌, ◌++◌, ℕ, ◌+◌, ◌-◌, ◌*◌, ◌≤◌, ◌<◌, get_or, drop, T, leb, eqb}
use Rattle.std.proofs.Math.Path.{refl, sym, ap}
use Rattle.std.proofs.Common.{◌∙◌, subst, arith, leb→le}
use Rattle.std.proofs.Math.Facts.{and_yes}
use Rattle.table.specs.declared.Answer.{Answer}
use Rattle.table.specs.declared.Need.{Need}
use Rattle.table.specs.declared.Need.TheVariants.{Ignored, Optional, Required}
use Rattle.table.specs.declared.Place.{Place}
use Rattle.table.specs.Bytes.{num, part, pick}
use Rattle.table.specs.Layout.{Content, Env, Layout, anything, env, image, is_valid, positions, text}
use Rattle.table.specs.FixedLayouts.{control, discovery, header, hfi, layout_of, list_kinds, security, ssns}
use Rattle.table.specs.Objects.{count_in, read_body, under}
use Rattle.table.specs.Rules.{answer, done, refs_rule}
use Rattle.table.specs.Numbers.{check, heap_in}
use Rattle.table.specs.Reads.{Seat, content_at, handed, has_plain, heap_seat, list_seat, need_at, no_place, nowhere, place_at, read_object, read_place, seat, seat_of, whole_at}
use Rattle.laws.specs.AcceptedMeaning.{ListPasses, discovery-passes, signature-passes, heap-in, hfi-passes, host-passes, list-refs, security-passes, ssns-passes}
use Rattle.laws.specs.RefWalk.{distinct_refs, plain-alone}
use Rattle.laws.specs.ListWalk.{kinds-distinct}
use Rattle.laws.specs.TextLaws.{absent-slot, no_zero, text-read, whole-read}
use Rattle.laws.specs.Said.{Nests, extended_of, identity_of, info_of, nests_in}
use Rattle.laws.specs.SaidReads.{inner-passes}

-- ---- definitions

-- the whole object at the reference q of a record, as the table has it
abbrev pub whole_object : List ℕ → ℕ → ℕ → ℕ → List ℕ
whole_object t k n q = part t (whole_at t q (seat_of t k n)).at (whole_at t q (seat_of t k n)).len

-- what was handed back, ended again if it is a text that is present
abbrev pub again : Content → Bool → List ℕ → List ℕ
again anything present b = b
again positions present b = b
again text false b = []
again text true b = b ++ (0 ∷ [])

-- A seat of kind l in a table: the references of its record pass, if it has one that is used
data Sits (t : List ℕ) (l : Layout) : Seat → Type 0 where
  absent : Sits t l nowhere
  idle : (a : ℕ) → Sits t l (seat l a false)
  busy : (a : ℕ) (e : Env) → refs_rule (heap_in t) e t a (image l.shape.keep (drop a t)) l.refs ≡ 0 → Sits t l (seat l a true)

-- ---- seats

either : {t : List ℕ} (c : Bool) {l l' : Layout} {s s' : Seat} → Sits t l s → Sits t l' s' → Sits t (pick c l l') (pick c s s')
either true x y = x
either false x y = y

only : {t : List ℕ} (c : Bool) {l : Layout} {s : Seat} → Sits t l s → Sits t l (pick c s nowhere)
only true x = x
only false x = absent

heap-sits : (t : List ℕ) {p : ℕ} {l h : Layout} {s : Seat} → Nests p h l.refs → Sits t l s → Sits t h (heap_seat h p t s)
heap-sits t w absent = absent
heap-sits t w (idle a) = absent
heap-sits t {p} {l} {h} w (busy a e z) = go (need_at p l.refs (image l.shape.keep (drop a t))) refl (eqb (num t (a + p + 4) 2) 0) refl
  where
    go : (m : Need) → need_at p l.refs (image l.shape.keep (drop a t)) ≡ m → (c : Bool) → eqb (num t (a + p + 4) 2) 0 ≡ c
        → Sits t h (under m nowhere (pick c nowhere (seat h (num t (a + p) 4) true)))
    go Ignored g c f = absent
    go Optional g true f = absent
    go Required g true f = absent
    go Optional g false f = busy (num t (a + p) 4) e (inner-passes w (heap_in t) e t a (image l.shape.keep (drop a t)) z (rw g tt) f)
    go Required g false f = busy (num t (a + p) 4) e (inner-passes w (heap_in t) e t a (image l.shape.keep (drop a t)) z (rw g tt) f)

module _ (t : List ℕ) (b : (i : ℕ) → get_or t i 0 < 256) (ok : check t ≡ done) where
  list-sits : (l : Layout) (c : ℕ) → ListPasses t b ok l c → (n : ℕ) → Sits t l (list_seat l t c n)
  list-sits l c p n = go (leb 1 n && leb n (get_or t (c + 7) 0)) refl (is_valid l.shape (image l.shape.keep (drop a t))) refl
    where
      a : ℕ
      a = num t c 4 + (n - 1) * num t (c + 4) 2

      go : (d : Bool) → (leb 1 n && leb n (get_or t (c + 7) 0)) ≡ d → (on : Bool) → is_valid l.shape (image l.shape.keep (drop a t)) ≡ on → Sits t l (pick d (seat l a on) nowhere)
      go false e on f = absent
      go true e false f = idle a
      go true e true f =
          let w = and_yes (leb 1 n) (leb n (get_or t (c + 7) 0)) (rw e tt) in
          let lo : 1 ≤ n = leb→le 1 n w.0 in
          let hi : n ≤ get_or t (c + 7) 0 = leb→le n (get_or t (c + 7) 0) w.1 in
          busy a (env p.counts (1 + (n - 1))) (list-refs t b ok l c p (n - 1) (omega arith) (rw f tt))

  control-sits : Sits t control (seat control 0 true)
  unfolding control refs_rule
  control-sits = busy 0 (env (λ k. 0) 0) refl

  header-sits : Sits t header (seat header 0 true)
  unfolding header refs_rule
  header-sits = busy 0 (env (count_in (read_body list_kinds t 80)) 0) (signature-passes t b ok)

  seat-sits : (k n : ℕ) → Sits t (layout_of k) (seat_of t k n)
  unfolding layout_of seat_of
  seat-sits k n =
      let hfis = list-sits hfi 80 (hfi-passes t b ok) n in
      let ssnss = list-sits ssns 88 (ssns-passes t b ok) n in
      let infos = heap-sits t (nests_in info_of) hfis in
      either (eqb k 0) (only (eqb n 0) header-sits)
      (either (eqb k 1) (only (eqb n 0) control-sits)
      (either (eqb k 2) (only (eqb n 0) (busy (num t 72 4) (env (count_in (read_body list_kinds t 80)) 0) (host-passes t b ok)))
      (either (eqb k 3) hfis
      (either (eqb k 4) ssnss
      (either (eqb k 5) (list-sits security 96 (security-passes t b ok) n)
      (either (eqb k 6) (list-sits discovery 104 (discovery-passes t b ok) n)
      (either (eqb k 7) infos
      (either (eqb k 9) (heap-sits t (nests_in extended_of) ssnss)
      (either (eqb k 10) (heap-sits t (nests_in identity_of) infos) absent)))))))))

  -- ---- what is handed back

  record Handed (l : Layout) (q : ℕ) (s : Seat) : Type 0 where
    whole : part t (whole_at t q s).at (whole_at t q s).len ≡ again (content_at q l.refs) (place_at t q s).present (part t (place_at t q s).at (place_at t q s).len)
    clean : content_at q l.refs ≡ text → T (place_at t q s).present → T (no_zero (part t (place_at t q s).at (place_at t q s).len))

  module _ (l : Layout) (q : ℕ) where
    -- where nothing is, nothing is handed back
    nothing : (r : Answer) (s : Seat) → whole_at t q s ≡ no_place r → place_at t q s ≡ handed (content_at q l.refs) (no_place r) → Handed l q s
    nothing r s e f = record {
      whole = ap bytes_of e ∙ sym (none (content_at q l.refs)).0 ∙ sym (ap (λ (x : Place). again (content_at q l.refs) x.present (bytes_of x)) f);
      clean = λ c y. absurd ((none (content_at q l.refs)).1 (subst (λ (x : Place). T x.present) f y));
    }
      where
        bytes_of : Place → List ℕ
        bytes_of x = part t x.at x.len

        none : (c : Content) → let x = handed c (no_place r) in (again c x.present (bytes_of x) ≡ []) × (T x.present → ⊥)
        none anything = (refl, λ y. y)
        none positions = (refl, λ y. y)
        none text = (refl, λ y. y)

    handed-back : T (distinct_refs l.refs) → (s : Seat) → Sits t l s → Handed l q s
    handed-back f s absent = nothing (answer 16 0 0) nowhere refl (none-handed (content_at q l.refs))
      where
        none-handed : (c : Content) → no_place (answer 16 0 0) ≡ handed c (no_place (answer 16 0 0))
        none-handed anything = refl
        none-handed positions = refl
        none-handed text = refl
    handed-back f s (idle a) = go (has_plain q l.refs) refl
      where
        go : (c : Bool) → has_plain q l.refs ≡ c → Handed l q (seat l a false)
        go true h = let e : whole_at t q (seat l a false) ≡ no_place done = rw h refl in nothing done (seat l a false) e (ap (handed (content_at q l.refs)) e)
        go false h = let e : whole_at t q (seat l a false) ≡ no_place (answer 16 0 0) = rw h refl in nothing (answer 16 0 0) (seat l a false) e (ap (handed (content_at q l.refs)) e)
    handed-back f s (busy a v z) = go (has_plain q l.refs) refl
      where
        whole : Place
        whole = whole_at t q (seat l a true)

        given : Place
        given = place_at t q (seat l a true)

        bytes_of : Place → List ℕ
        bytes_of x = part t x.at x.len

        ended : T (has_plain q l.refs) → (c : Content) → content_at q l.refs ≡ c → (d : Bool) → given.present ≡ d → bytes_of whole ≡ again c d (bytes_of given)
        ended h anything e d g = ap (λ (c : Content). bytes_of (handed c whole)) (sym e)
        ended h positions e d g = ap (λ (c : Content). bytes_of (handed c whole)) (sym e)
        ended h text e true g = let n = plain-alone q l.refs f h in whole-read t l a q h n ∙ sym (text-read t l a q h n (heap_in t) v (heap-in t b ok) z e (rw g tt)).1
        ended h text e false g = let n = plain-alone q l.refs f h in whole-read t l a q h n ∙ absent-slot t l a q h n (heap_in t) v (heap-in t b ok) z (rw g tt)

        go : (c : Bool) → has_plain q l.refs ≡ c → Handed l q (seat l a true)
        go true h = let k : T (has_plain q l.refs) = rw h tt in record {
          whole = ended k (content_at q l.refs) refl given.present refl;
          clean = λ c y. (text-read t l a q k (plain-alone q l.refs f k) (heap_in t) v (heap-in t b ok) z c y).0;
        }
        go false h = let e : whole_at t q (seat l a true) ≡ no_place (answer 16 0 0) = rw h refl in nothing (answer 16 0 0) (seat l a true) e (ap (handed (content_at q l.refs)) e)

  -- ---- what the object call reads

  module _ (k n q : ℕ) where
    back : Handed (layout_of k) q (seat_of t k n)
    back = handed-back (layout_of k) q (kinds-distinct k) (seat_of t k n) (seat-sits k n)

    placed : read_place t k n q ≡ place_at t q (seat_of t k n)
    unfolding read_place
    placed = ap (λ (a : Answer). pick (eqb a.number 0) (place_at t q (seat_of t k n)) (no_place a)) ok

    object-is : read_object t k n q ≡ part t (place_at t q (seat_of t k n)).at (place_at t q (seat_of t k n)).len
    unfolding read_object
    object-is = ap (λ (x : Place). part t x.at x.len) placed

    -- ended again it is the whole object
    pub read_again : whole_object t k n q ≡ again (content_at q (layout_of k).refs) (read_place t k n q).present (read_object t k n q)
    unfolding read_object
    read_again = back.whole ∙ sym (ap (λ (x : Place). again (content_at q (layout_of k).refs) x.present (part t x.at x.len)) placed)

    -- a present text that is read has no zero byte, and with one behind it is the object
    pub read-text : content_at q (layout_of k).refs ≡ text → T (read_place t k n q).present → T (no_zero (read_object t k n q)) × (read_object t k n q ++ (0 ∷ []) ≡ whole_object t k n q)
    read-text c y = (
      subst (λ (x : List ℕ). T (no_zero x)) (sym object-is) (back.clean c (subst (λ (x : Place). T x.present) placed y)),
      sym (read_again ∙ ended_is (content_at q (layout_of k).refs) c (read_place t k n q).present y),
    )
      where
        ended_is : (x : Content) → x ≡ text → (d : Bool) → T d → again x d (read_object t k n q) ≡ read_object t k n q ++ (0 ∷ [])
        ended_is x e true y = ap (λ (z : Content). again z true (read_object t k n q)) e
        ended_is x e false y = absurd y
