-- The meaning of an accepted table obeys the rules of meanings (`lawful`), and stands in the table (`stands`). Assumes nothing.
use Rattle.std.specs.Prelude.{◌≡◌, Bool, not, ◌&&◌, get_or, drop, eqb}
use Rattle.std.proofs.Math.Path.{refl, subst}
use Rattle.std.proofs.Math.Bool.{true, false}
use mathlib.Core.List.{List, [], ◌∷◌}
use Prim.Native.Nat.{ℕ, zero, suc, ◌+◌, ◌*◌, ◌≤◌, ◌<◌}
use native.Mathlib.Omega.{arith}
use Rattle.std.proofs.Math.ListN.{length, length-drop}
use Rattle.std.proofs.Math.Seq.{length-take-le}
use Rattle.std.proofs.Math.Dec.{T, leb, leb→le, eqb-suc-zero}
use Rattle.std.proofs.Math.Facts.{and_yes}
use Rattle.table.specs.declared.Region.{Region}
use Rattle.table.specs.Bytes.{num, pick}
use Rattle.table.specs.Layout.{Entry, Env, Layout, Slots, env, image, is_right, is_valid, region, unused, used, names_used}
use Rattle.table.specs.FixedLayouts.{discovery, header, hfi, host, list_kinds, security, ssns}
use Rattle.table.specs.Objects.{count_in, is_used, read_body, read_entry, read_list, read_slots, used_in}
use Rattle.table.specs.Rules.{answer, body_rule, cons_if, done, entry_rule, first, first_fail, first_of, inside, list_regions, list_rule, long_enough, refs_rule, used_rule}
use Rattle.table.specs.Meaning.{meaning}
use Rattle.table.specs.Numbers.{check, driver_rule, heap_in, host_rule, records, regions, tests}
use Rattle.laws.specs.Lawful.{Lawful}
use Rattle.laws.specs.Standing.{Stands}
use Rattle.laws.specs.TestLaws.{AllPass, all_pass}
use Rattle.laws.specs.FormLaws.{ok_header, ok-host, ok-lists}
use Rattle.laws.specs.Sound.{answer-of, body-fit, entry-fit, first-both, first-of, list-zero, refs-fit}
use Rattle.laws.specs.Found.{body-found, entry_found, refs-found}

-- the heap's region is the last
tail-inside : (ls : List Layout) (t : List ℕ) (c lo hi : ℕ) (rs : List Region) → T (inside lo hi (list_regions ls t c rs)) → T (inside lo hi rs)
unfolding list_regions
tail-inside [] t c lo hi rs k = k
tail-inside (l ∷ ls) t c lo hi rs k = tail-inside ls t (c + 8) lo hi rs (go (not (eqb (get_or t (c + 7) 0) 0)) k)
  where
    r : Region
    r = region (num t c 4) (get_or t (c + 7) 0 * num t (c + 4) 2)

    go : (d : Bool) → T (inside lo hi (cons_if d r (list_regions ls t (c + 8) rs))) → T (inside lo hi (list_regions ls t (c + 8) rs))
    go true u = (and_yes (leb lo r.at && leb (r.at + r.len) hi) _ u).1
    go false u = u

last-inside : (lo hi n : ℕ) (r : Region) → T (inside lo hi (cons_if (not (eqb n 0)) r [])) → 0 < n → r.at + r.len ≤ hi
last-inside lo hi zero r k z = absurd (omega arith)
last-inside lo hi (suc n) r k z =
    let u : T (inside lo hi (r ∷ [])) = rw (eqb-suc-zero n) at k in
    leb→le (r.at + r.len) hi (and_yes (leb lo r.at) _ (and_yes (leb lo r.at && leb (r.at + r.len) hi) _ u).0).1

module _ (t : List ℕ) (b : (i : ℕ) → get_or t i 0 < 256) (ok : check t ≡ done) where
  heap : Region
  heap = heap_in t

  passed : AllPass (tests t)
  unfolding check
  passed = all_pass (tests t) (unfold tests in tt) (first-both t b (first_fail (tests t)) (records t (meaning t)) ok).0

  -- what the tests say of the heap
  bounded : 0 < heap.len → heap.at + heap.len ≤ length t
  unfolding tests heap heap_in regions host
  bounded z =
      let p = passed in
      let size : num t 4 4 ≤ length t = leb→le (num t 4 4) (length t) (and_yes (leb 160 (num t 4 4)) _ p.1.1.0).1 in
      let ins = (and_yes (inside (64 + num t 68 2) (num t 4 4) (regions t)) _ (and_yes (long_enough list_kinds t 80) _ (and_yes (leb 32 (num t 76 2)) _ p.1.1.1.1.1.1.1.0).1).1).0 in
      let lists = (and_yes (leb (64 + num t 68 2) (num t 72 4) && leb (num t 72 4 + num t 76 2) (num t 4 4)) _ ins).1 in
      let last = tail-inside list_kinds t 80 (64 + num t 68 2) (num t 4 4) _ lists in
      omega (arith, last-inside (64 + num t 68 2) (num t 4 4) (num t 40 4) heap last z)

  valid : ℕ → ℕ → Bool
  valid = used_in (read_body list_kinds t 80)

  count : ℕ → ℕ
  count = count_in (read_body list_kinds t 80)

  records-done : records t (meaning t) ≡ done
  unfolding check
  records-done = (first-both t b (first_fail (tests t)) (records t (meaning t)) ok).1

  signed-done : (refs_rule heap (env count 0) t 0 [] header.refs ≡ 0)
      × (first (host_rule t valid count (read_entry host t (num t 72 4)))
      (body_rule valid count heap t 80 (read_body list_kinds t 80))
      ≡ done)
  unfolding records driver_rule meaning heap valid count
  signed-done =
      let u = first-both t b _ _ records-done in
      (answer-number (refs_rule heap (env count 0) t 0 [] header.refs) u.0, u.1)
    where
      answer-number : (n : ℕ) → (pick (eqb n 0) done (answer n 0 0)).number ≡ 0 → n ≡ 0
      answer-number zero e = refl
      answer-number (suc n) e = rw (eqb-suc-zero n) at e

  host-used : (e : Entry host) → (host_rule t valid count e).number ≡ 0 → T (is_used e) × (entry_rule host valid heap (env count 0) t (num t 72 4) e ≡ 0)
  unfolding host_rule entry_rule heap
  host-used unused e = absurd (omega arith)
  host-used (used img ss) e = (tt, go (used_rule host valid heap (env count 0) t (num t 72 4) img ss) e)
    where
      go : (n : ℕ) → (pick (eqb n 0) done (answer n 2 0)).number ≡ 0 → n ≡ 0
      go zero e = refl
      go (suc n) e = rw (eqb-suc-zero n) at e

  -- the heap lies in the table unless it is empty
  pub heap-in : 0 < (heap_in t).len → (heap_in t).at + (heap_in t).len ≤ length t
  unfolding heap
  heap-in = bounded

  -- the references of a used record that passes
  pub used-refs : (l : Layout) (named : ℕ → ℕ → Bool) (h : Region) (v : Env) (a : ℕ) → T (is_used (read_entry l t a)) → entry_rule l named h v t a (read_entry l t a) ≡ 0
      → refs_rule h v t a (image l.shape.keep (drop a t)) l.refs ≡ 0
  unfolding entry_rule read_entry used_rule
  used-refs l named h v a u e = go (is_valid l.shape img) u e
    where
      img : List ℕ
      img = image l.shape.keep (drop a t)

      ss : Slots l.refs
      ss = read_slots t a (image l.shape.keep (drop a t)) l.refs

      go : (c : Bool) → T (is_used {l = l} (pick c (used img ss) unused)) → entry_rule l named h v t a (pick c (used img ss) unused) ≡ 0
          → refs_rule h v t a (image l.shape.keep (drop a t)) l.refs ≡ 0
      go true y z =
          let w = first-of (pick (is_right l.shape v img) 0 10) (first_of (refs_rule h v t a img l.refs) (pick (names_used named (l.indexes img ss)) 0 13)) z in
          (first-of (refs_rule h v t a img l.refs) (pick (names_used named (l.indexes img ss)) 0 13) w.1).0
      go false y z = absurd y

  -- position pos + i of a list that passes, `step` bytes behind the last
  list-entry : (l : Layout) (named : ℕ → ℕ → Bool) (count : ℕ → ℕ) (h : Region) (n pos a step i : ℕ) → i < n → list_rule l named count h pos t a step (read_list l t a step n) ≡ done
      → entry_rule l named h (env count (pos + i)) t (a + i * step) (read_entry l t (a + i * step)) ≡ 0
  unfolding list_rule read_list
  list-entry l named count h zero pos a step i k e = absurd (omega arith)
  list-entry l named count h (suc n) pos a step zero k e =
      let p : pos ≡ pos + 0 = omega arith in
      let x : a ≡ a + 0 * step = omega arith in
      subst (λ (y : ℕ). entry_rule l named h (env count (pos + 0)) t y (read_entry l t y) ≡ 0) x
      (subst (λ (j : ℕ). entry_rule l named h (env count j) t a (read_entry l t a) ≡ 0) p (answer-of (entry_rule l named h (env count pos) t a (read_entry l t a)) l.kind pos _ e).0)
  list-entry l named count h (suc n) pos a step (suc i) k e =
      let p : suc pos + i ≡ pos + suc i = omega arith in
      let x : a + step + i * step ≡ a + suc i * step = omega arith in
      subst (λ (y : ℕ). entry_rule l named h (env count (pos + suc i)) t y (read_entry l t y) ≡ 0) x
      (subst (λ (j : ℕ). entry_rule l named h (env count j) t (a + step + i * step) (read_entry l t (a + step + i * step)) ≡ 0) p
      (list-entry l named count h n (suc pos) (a + step) step i (omega arith) (answer-of (entry_rule l named h (env count pos) t a (read_entry l t a)) l.kind pos _ e).1))

  -- the list of kind l whose entry in the control record is at c passes
  pub record ListPasses (l : Layout) (c : ℕ) : Type 0 where
    pub names : ℕ → ℕ → Bool
    pub counts : ℕ → ℕ
    pub passes : list_rule l names counts (heap_in t) 1 t (num t c 4) (num t (c + 4) 2) (read_list l t (num t c 4) (num t (c + 4) 2) (get_or t (c + 7) 0)) ≡ done

  pub list-refs : (l : Layout) (c : ℕ) (p : ListPasses l c) (i : ℕ) → i < get_or t (c + 7) 0 → let a = num t c 4 + i * num t (c + 4) 2 in
      T (is_valid l.shape (image l.shape.keep (drop a t))) → refs_rule (heap_in t) (env p.counts (1 + i)) t a (image l.shape.keep (drop a t)) l.refs ≡ 0
  unfolding read_entry
  list-refs l c p i k v =
      let a : ℕ = num t c 4 + i * num t (c + 4) 2 in
      let x : List ℕ = image l.shape.keep (drop a t) in
      used-refs l p.names (heap_in t) (env p.counts (1 + i)) a (go (is_valid l.shape x) x (read_slots t a x l.refs) v)
      (list-entry l p.names p.counts (heap_in t) (get_or t (c + 7) 0) 1 (num t c 4) (num t (c + 4) 2) i k p.passes)
    where
      go : (d : Bool) (x : List ℕ) (ss : Slots l.refs) → T d → T (is_used {l = l} (pick d (used x ss) unused))
      go true x ss v = tt
      go false x ss v = absurd v

  -- of lists that pass the first, and the others
  body-first : (l : Layout) (ls : List Layout) (c : ℕ) (named : ℕ → ℕ → Bool) (count : ℕ → ℕ) → body_rule named count (heap_in t) t c (read_body (l ∷ ls) t c) ≡ done
      → ListPasses l c × (body_rule named count (heap_in t) t (c + 8) (read_body ls t (c + 8)) ≡ done)
  unfolding body_rule read_body
  body-first l ls c named count e =
      let es : List (Entry l) = read_list l t (num t c 4) (num t (c + 4) 2) (get_or t (c + 7) 0) in
      let x = first-both t b (list_rule l named count (heap_in t) 1 t (num t c 4) (num t (c + 4) 2) es) _ e in
      (record { names = named; counts = count; passes = list-zero t b l named count (heap_in t) 1 (num t c 4) (num t (c + 4) 2) es x.0 }, x.1)

  pub host-passes : refs_rule (heap_in t) (env (count_in (read_body list_kinds t 80)) 0) t (num t 72 4) (image host.shape.keep (drop (num t 72 4) t)) host.refs ≡ 0
  unfolding heap valid count
  host-passes =
      let h = first-both t b (host_rule t valid count (read_entry host t (num t 72 4))) _ signed-done.1 in
      let u = host-used (read_entry host t (num t 72 4)) h.0 in
      used-refs host valid heap (env count 0) (num t 72 4) u.0 u.1

  pub signature-passes : refs_rule (heap_in t) (env (count_in (read_body list_kinds t 80)) 0) t 0 (image header.shape.keep (drop 0 t)) header.refs ≡ 0
  unfolding header refs_rule heap count
  signature-passes = signed-done.0

  -- the lists of the four kinds
  lists-done : body_rule valid count (heap_in t) t 80 (read_body list_kinds t 80) ≡ done
  unfolding heap
  lists-done = (first-both t b (host_rule t valid count (read_entry host t (num t 72 4))) _ signed-done.1).1

  pub hfi-passes : ListPasses hfi 80
  hfi-passes = (body-first hfi (ssns ∷ security ∷ discovery ∷ []) 80 valid count lists-done).0

  behind-hfi : body_rule valid count (heap_in t) t 88 (read_body (ssns ∷ security ∷ discovery ∷ []) t 88) ≡ done
  behind-hfi = (body-first hfi (ssns ∷ security ∷ discovery ∷ []) 80 valid count lists-done).1

  pub ssns-passes : ListPasses ssns 88
  ssns-passes = (body-first ssns (security ∷ discovery ∷ []) 88 valid count behind-hfi).0

  behind-ssns : body_rule valid count (heap_in t) t 96 (read_body (security ∷ discovery ∷ []) t 96) ≡ done
  behind-ssns = (body-first ssns (security ∷ discovery ∷ []) 88 valid count behind-hfi).1

  pub security-passes : ListPasses security 96
  security-passes = (body-first security (discovery ∷ []) 96 valid count behind-ssns).0

  pub discovery-passes : ListPasses discovery 104
  discovery-passes = (body-first discovery [] 104 valid count (body-first security (discovery ∷ []) 96 valid count behind-ssns).1).0

  -- the meaning of an accepted table obeys the rules of meanings
  pub lawful : Lawful (meaning t)
  unfolding meaning heap valid count tests
  lawful =
      let h = first-both t b (host_rule t valid count (read_entry host t (num t 72 4))) _ signed-done.1 in
      let u = host-used (read_entry host t (num t 72 4)) h.0 in
      let x = entry-fit t b host ok-host valid heap bounded (env count 0) (num t 72 4) u.1 in
      let y = body-fit t b list_kinds ok-lists valid count heap bounded 80 h.1 in
      record {
        shapes = record {
          sized = length-take-le 26 (drop 10 t) (simp length-drop (omega (arith, leb→le 160 (length t) passed.0)));
          signed = refs-fit t b heap bounded header.shape.keep 0 0 (env count 0) [] header.refs ok_header.refs_ok signed-done.0;
          owned = x.0;
          listed = y.0;
        };
        present = u.0;
        owned_names = x.1;
        named = y.1;
      }

  -- and stands in it
  pub stands : Stands t (meaning t)
  unfolding header host meaning heap valid count tests regions
  stands =
      let p = passed in
      let size : num t 4 4 ≤ length t = leb→le (num t 4 4) (length t) (and_yes (leb 160 (num t 4 4)) _ p.1.1.0).1 in
      let low : 160 ≤ length t = leb→le 160 (length t) p.0 in
      let v₁ = and_yes (leb 32 (num t 76 2)) _ p.1.1.1.1.1.1.1.0 in
      let v₂ = and_yes (long_enough list_kinds t 80) _ v₁.1 in
      let ins = (and_yes (inside (64 + num t 68 2) (num t 4 4) (regions t)) _ v₂.1).0 in
      let lists = and_yes (leb (64 + num t 68 2) (num t 72 4) && leb (num t 72 4 + num t 76 2) (num t 4 4)) _ ins in
      let own : num t 72 4 + num t 76 2 ≤ num t 4 4 = leb→le (num t 72 4 + num t 76 2) (num t 4 4) (and_yes (leb (64 + num t 68 2) (num t 72 4)) _ lists.0).1 in
      let long : 32 ≤ num t 76 2 = leb→le 32 (num t 76 2) v₁.0 in
      let h = first-both t b (host_rule t valid count (read_entry host t (num t 72 4))) _ signed-done.1 in
      let u = host-used (read_entry host t (num t 72 4)) h.0 in
      record {
        oem_at = refl;
        driver_at = refs-found t b heap bounded header.shape.keep 0 0 (env count 0) [] header.refs ok_header.refs_ok (omega arith) signed-done.0;
        owner_at = entry_found t b host ok-host valid heap bounded (env count 0) (num t 72 4) (omega arith) u.1;
        lists_at = body-found t b list_kinds ok-lists valid count heap bounded 80 (64 + num t 68 2) (num t 4 4) _ size v₂.0 lists.1 h.1;
      }
