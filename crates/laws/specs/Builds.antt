-- Demand 2, the builder's half: a run of calls from the empty state that has finished leaves the one form of what was told, accepted, with that meaning.
-- Assumes nothing.
use Rattle.std.specs.Prelude.{◌≡◌, Bool, true, not, ◌&&◌, ◌||◌, length, take, drop, leb}
use Rattle.std.proofs.Math.Path.{refl, sym, subst}
use Rattle.std.proofs.Common.{ap, ◌∙◌, arith, leb→le, eqb→eq, lit<}
use Rattle.std.proofs.Math.Bool.{false}
use mathlib.Core.List.{List, [], ◌∷◌}
use Prim.Native.Nat.{ℕ, zero, suc, ◌+◌, ◌≤◌, ◌<◌}
use Rattle.std.proofs.Math.Dec.{T, eqb, eqb-suc-zero}
use Rattle.std.proofs.Math.Facts.{and_yes, yes_and, yes_eqb}
use Rattle.table.specs.declared.Answer.{Answer}
use Rattle.table.specs.declared.Region.{Region}
use Rattle.table.specs.declared.State.{State}
use Rattle.table.specs.Bytes.{num, pick, splice}
use Rattle.table.specs.Layout.{Body, Entry, Layout, Slots, env, more, stop}
use Rattle.table.specs.FixedLayouts.{discovery, extended, header, hfi, host, info, list_kinds, security, ssns, hfi_extended}
use Rattle.table.specs.Objects.{count_in, size_of, span_body, used_in}
use Rattle.table.specs.Rules.{Test, body_rule, done, first, first_fail, list_rule, test}
use Rattle.table.specs.Meaning.{Meaning, form, form_length, heap_at, laid_out, limit, meaning}
use Rattle.table.specs.Numbers.{check, driver_rule, heap_in, host_rule, records, tests}
use Rattle.table.specs.Builder.{Outcome, begin, begun, count_of, counts, empty, end_of, fill, fill_answer, finish, finished, finishing, in_list, leave, moved, next, opened, outcome, place_of, placed, records_end, room_tests, same_state, sealed, slots_rule, told_image, told_slots, turn, turn_after, waits}
use Rattle.laws.specs.Lawful.{FitBody, Shaped, ok_layout}
use Rattle.laws.specs.ListLaws.{ok-layout}
use Rattle.laws.specs.TestLaws.{AllPass, all_pass, self-numbered}
use Rattle.laws.specs.FormLaws.{round_trip}
use Rattle.laws.specs.ToldLaws.{ok_marks, ok_told}
use Rattle.laws.specs.Blank.{BlankFrom, Put, lengths_of, there}
use Rattle.laws.specs.Turns.{after-other, blank-leave, end_is, missing, put-here, off}
use Rattle.laws.specs.Runs.{AllProper, Build, Call, Proper, Sized, after, does, entry_of, finishes, leaves, opens, run, set_discovery, set_hfi, set_security, set_ssns, tells, tells_discovery, tells_hfi, tells_host, tells_security, tells_ssns, with_lists, with_owner}
use Rattle.laws.specs.Filling.{AfterOk, InList, ListKind, OkKind, Open, Passed, begin-open, counts_same, fill-passed, host-open, in_list_lem, list_open, next-after, next-counts}
use Rattle.laws.specs.Sealing.{sealed-form, sealed-tail}
use Rattle.laws.specs.Kept.{Kept, kept_same, kept-through, put-kept, same_body, unused-not}

-- ---- the kinds that can be told: one computed test

abbrev tellable : Layout → ℕ → Bool
tellable l n = ok_layout l && (ok_marks l.shape n && ok_told n l.refs)

abbrev tellable_in_list : Layout → ℕ → Bool
tellable_in_list l n =
    tellable l n
    && (leb 1 l.shape.index.len
    && ((not (eqb l.kind 2) && not (eqb l.kind 0)) && (not (eqb l.kind finished) && not (eqb l.kind 2 || eqb l.kind finishing))))

ok-kind : (l : Layout) → ((n : ℕ) → T (tellable l n)) → OkKind l
ok-kind l t = record {
  layout = ok-layout l (and_yes (ok_layout l) _ (t 0)).0;
  marks_of = λ n. (and_yes (ok_marks l.shape n) (ok_told n l.refs) (and_yes (ok_layout l) _ (t n)).1).0;
  told_of = λ n. (and_yes (ok_marks l.shape n) (ok_told n l.refs) (and_yes (ok_layout l) _ (t n)).1).1;
}

list-kind : (l : Layout) → ((n : ℕ) → T (tellable_in_list l n)) → ListKind l
list-kind l t =
    let u = and_yes (leb 1 l.shape.index.len) _ (and_yes (tellable l 0) _ (t 0)).1 in
    let v = and_yes (not (eqb l.kind 2) && not (eqb l.kind 0)) _ u.1 in
    let x = and_yes (not (eqb l.kind 2)) (not (eqb l.kind 0)) v.0 in
    let y = and_yes (not (eqb l.kind finished)) (not (eqb l.kind 2 || eqb l.kind finishing)) v.1 in
    record {
      kind_ok = ok-kind l (λ n. (and_yes (tellable l n) _ (t n)).0);
      not_host = off (eqb l.kind 2) x.0;
      not_empty = off (eqb l.kind 0) x.1;
      not_finished = off (eqb l.kind finished) y.0;
      in_lists = off (eqb l.kind 2 || eqb l.kind finishing) y.1;
      indexed = leb→le 1 l.shape.index.len u.0;
    }

host-kind : OkKind host
unfolding host
host-kind = ok-kind host (λ n. tt)

pub hfi-kind : ListKind hfi
unfolding hfi info hfi_extended
hfi-kind = list-kind hfi (λ n. tt)

pub ssns-kind : ListKind ssns
unfolding ssns extended hfi_extended
ssns-kind = list-kind ssns (λ n. tt)

pub security-kind : ListKind security
unfolding security
security-kind = list-kind security (λ n. tt)

pub discovery-kind : ListKind discovery
unfolding discovery
discovery-kind = list-kind discovery (λ n. tt)

-- ---- the first untold position of each list

put-hfi : (b : Body list_kinds) (p : ℕ) (x : Entry hfi) → 1 ≤ p → p ≤ count_in b 3 → BlankFrom 3 p b → Put p x list_kinds b (set_hfi p x b)
unfolding hfi ssns security discovery count_in
put-hfi (more hs rest) p x f u d = put-here hs p f u d.0 x rest d.1

put-ssns : (b : Body list_kinds) (p : ℕ) (x : Entry ssns) → 1 ≤ p → p ≤ count_in b 4 → BlankFrom 4 p b → Put p x list_kinds b (set_ssns p x b)
unfolding hfi ssns security discovery count_in
put-ssns (more hs (more ns rest)) p x f u d = there hs refl (put-here ns p f u d.0 x rest d.1)

put-security : (b : Body list_kinds) (p : ℕ) (x : Entry security) → 1 ≤ p → p ≤ count_in b 5 → BlankFrom 5 p b → Put p x list_kinds b (set_security p x b)
unfolding hfi ssns security discovery count_in
put-security (more hs (more ns (more cs rest))) p x f u d = there hs refl (there ns refl (put-here cs p f u d.0 x rest d.1))

put-discovery : (b : Body list_kinds) (p : ℕ) (x : Entry discovery) → 1 ≤ p → p ≤ count_in b 6 → BlankFrom 6 p b → Put p x list_kinds b (set_discovery p x b)
unfolding hfi ssns security discovery count_in
put-discovery (more hs (more ns (more cs (more ds rest)))) p x f u d = there hs refl (there ns refl (there cs refl (put-here ds p f u d.0 x rest d.1)))

count_small : {ls : List Layout} (count : ℕ → ℕ) (b : Body ls) (k : ℕ) → FitBody count b → count_in b k < 256
unfolding count_in
count_small count stop k f = lit< tt
count_small count (more {l = l} es rest) k f = go (eqb k l.kind) (count_small count rest k f.2)
  where
    go : (c : Bool) → count_in rest k < 256 → pick c (length es) (count_in rest k) < 256
    go true r = f.1
    go false r = r

-- ---- one done call

or_left : (c d : Bool) → (c || d) ≡ false → c ≡ false
or_left true d q = q
or_left false d q = refl

-- a turn that waits at a position waits for a list's record
list-turn : (s : State) → T (waits s s.turn) → 1 ≤ s.position → (eqb s.turn 2 || eqb s.turn finishing) ≡ false
unfolding waits
list-turn s t f =
    go (eqb s.turn 2 || eqb s.turn finishing)
    (and_yes (pick (eqb s.turn 2 || eqb s.turn finishing) (eqb s.position 0) (in_list s)) _ (and_yes (eqb s.turn s.turn) _ t).1).0
  where
    go : (c : Bool) → T (pick c (eqb s.position 0) (in_list s)) → c ≡ false
    go true u = absurd (omega (arith, eqb→eq s.position 0 u))
    go false u = refl

module _ (buf : List ℕ) (s : State) (b : List ℕ) (m : Meaning) (o : Open buf s b m) where
  -- what the turn of a list's kind gives
  record Turned (k : ℕ) : Type 0 where
    inside : InList s k
    blank : BlankFrom k s.position m.lists
    counted : s.position ≤ count_in m.lists k
    small : s.position < 256

  turned : (k : ℕ) → (eqb k 2 || eqb k finishing) ≡ false → eqb k 2 ≡ false → T (waits s k) → Turned k
  turned k e e₂ t =
      let i : InList s k = in_list_lem s k e t in
      let bl : BlankFrom k s.position m.lists = rw (i.turn_is, e₂) at o.untold in
      let c : count_of list_kinds (counts s) k ≡ count_in m.lists k = ap (λ (f : ℕ → ℕ). f k) (counts_same s m o.counted) in
      let up = i.upto in
      let sm = count_small (count_in m.lists) m.lists k o.shaped.listed in
      record { inside = i; blank = bl; counted = omega arith; small = omega arith }

  -- a position left unused
  leave-open : T (waits s s.turn) → 1 ≤ s.position → Open buf (next s 0 false) b m
  unfolding hfi ssns security discovery
  leave-open t f =
      let k : ℕ = s.turn in
      let e : (eqb k 2 || eqb k finishing) ≡ false = list-turn s t f in
      let e₂ : eqb k 2 ≡ false = or_left (eqb k 2) (eqb k finishing) e in
      let r = turned k e e₂ t in
      let cs : List ℕ = lengths_of m.lists in
      let other : (j : ℕ) → eqb k j ≡ false → T (missing j list_kinds) → eqb
      (turn_after k s.position list_kinds cs).kind j ≡ false = λ j d h. after-other j s.position k list_kinds cs d
      h in
      let up : s.position ≤ count_of list_kinds cs k = subst (λ (c : List ℕ). s.position ≤ count_of list_kinds c k)
      (sym o.counted) r.inside.upto in
      let a = subst (AfterOk k s.position m.lists) o.counted (
        other 0 o.started tt,
        other finished o.unfinished tt,
        other 2 e₂ tt,
        blank-leave k s.position m.lists tt f up r.blank,
      ) in
      let nx = next-after s k refl e₂ 0 false in
      record {
        shaped = o.shaped;
        counted = o.counted ∙ sym (next-counts s 0 false).0;
        size = (next-counts s 0 false).1 ∙ omega (arith, o.size);
        short = o.short;
        room = o.room;
        laid = o.laid;
        tail = o.tail;
        started = rw nx a.0;
        unfinished = rw nx a.1;
        untold = rw nx (rw a.2 a.3);
        minor_is = (next-counts s 0 false).2 ∙ o.minor_is;
      }

  ends : records_end s ≡ heap_at m
  unfolding records_end heap_at
  ends = subst (λ (c : List ℕ). end_of 160 list_kinds c ≡ 160 + span_body m.lists) o.counted (end_is 160 m.lists)

-- ---- the answer 0 is `done`

first-right : (x y : Answer) → (first x y).number ≡ 0 → (x.number ≡ 0) × (first x y ≡ y)
first-right x y e = go x.number refl e
  where
    go : (n : ℕ) → x.number ≡ n → (pick (eqb n 0) y x).number ≡ 0 → (x.number ≡ 0) × (pick (eqb x.number 0) y x ≡ y)
    go zero p q = (p, rw p)
    go (suc n) p q = absurd (omega (arith, p, rw (eqb-suc-zero n) at q))

body-zero : {ls : List Layout} (named : ℕ → ℕ → Bool) (count : ℕ → ℕ) (heap : Region) (t : List ℕ) (c : ℕ) (b : Body ls)
    → (body_rule named count heap t c b).number ≡ 0
    → body_rule named count heap t c b ≡ done
unfolding body_rule
body-zero named count heap t c stop e = refl
body-zero named count heap t c (more {l = l} es rest) e =
    let u = first-right (list_rule l named count heap 1 t (num t c 4) (num t (c + 4) 2) es) (body_rule named count heap t (c + 8) rest) e in
    u.1 ∙ body-zero named count heap t (c + 8) rest (ap (λ (a : Answer). a.number) (sym u.1) ∙ e)

pub check-zero : (t : List ℕ) → (check t).number ≡ 0 → check t ≡ done
unfolding check records
check-zero t e =
    let m : Meaning = meaning t in
    let named : ℕ → ℕ → Bool = used_in m.lists in
    let count : ℕ → ℕ = count_in m.lists in
    let number : (a c : Answer) → a ≡ c → a.number ≡ 0 → c.number ≡ 0 = λ a c p q. ap (λ (z : Answer). z.number) (sym p) ∙ q in
    let B : Answer = body_rule named count (heap_in t) t 80 m.lists in
    let u = first-right (first_fail (tests t)) (first (driver_rule t count) (first (host_rule t named count m.owner) B)) e in
    let e₁ = number _ _ u.1 e in
    let v = first-right (driver_rule t count) (first (host_rule t named count m.owner) B) e₁ in
    let e₂ = number _ _ v.1 e₁ in
    let w = first-right (host_rule t named count m.owner) B e₂ in
    u.1 ∙ v.1 ∙ w.1 ∙ body-zero named count (heap_in t) t 80 m.lists (number _ _ w.1 e₂)

-- ---- how far a run has come

pub record Closed (buf : List ℕ) (s : State) (b : List ℕ) (m : Meaning) : Type 0 where
  pub turn_is : s.turn ≡ finished
  pub position_is : s.position ≡ 0
  -- the finished table is the one form of what was told, accepted, with that meaning; what stands behind it is as it was
  pub is_form : take s.used b ≡ form m
  pub is_accepted : check (form m) ≡ done
  pub means : meaning (form m) ≡ m
  pub behind : drop s.used b ≡ drop s.used buf

pub data Progress (buf : List ℕ) (x : Build) : Type 0 where
  fresh : x.state ≡ empty → x.buffer ≡ buf → Progress buf x
  going : Open buf x.state x.buffer x.told → Progress buf x
  over : Closed buf x.state x.buffer x.told → Progress buf x

-- ---- finish

finish-closed : (buf : List ℕ) (s : State) (b : List ℕ) (m : Meaning)
    → Open buf s b m
    → (check (take s.used (sealed s b))).number ≡ 0
    → Closed buf (moved s (turn finished 0) s.used s.minor) (sealed s b) m
finish-closed buf s b m o e =
    let w : Shaped m = o.shaped in
    let f : take s.used (sealed s b) ≡ form m = ap (λ (n : ℕ). take n (sealed s b)) o.size ∙ sealed-form m w s b o.size (ends buf s b m o) o.minor_is o.room o.laid in
    let d : drop s.used (sealed s b) ≡ drop s.used buf =
    ap (λ (n : ℕ). drop n (sealed s b)) o.size ∙ sealed-tail m w s b o.size (ends buf s b m o) o.minor_is o.room ∙ o.tail ∙ ap (λ (n : ℕ). drop n buf) (sym o.size) in
    record {
      turn_is = refl;
      position_is = refl;
      is_form = f;
      is_accepted = check-zero (form m) (rw f at e);
      means = round_trip m w o.short;
      behind = d;
    }

-- ---- any call

-- from x on y is as far or farther; what x was told, once begun, y was told too
pub record Goes (buf : List ℕ) (x y : Build) : Type 0 where
  pub progress : Progress buf y
  pub begun_yet : eqb x.state.turn 0 ≡ false → eqb y.state.turn 0 ≡ false
  pub kept_all : eqb x.state.turn 0 ≡ false → Kept x.told y.told

goes_on : (buf : List ℕ) (x : Build) → Progress buf x → Goes buf x x
goes_on buf x p = record { progress = p; begun_yet = λ e. e; kept_all = λ e. kept_same x.told }

-- what a call that is an `outcome` leaves: as it was where refused, what the call makes where done
settle : (buf : List ℕ) (x : Build) (c : Call) (a : Answer) (s' : State) (b' : List ℕ) → does c x.state x.buffer ≡ outcome a x.state s' x.buffer b' → Progress buf x
    → (a.number ≡ 0 → Goes buf x (record { state = s'; buffer = b'; told = tells c x.state x.told })) → Goes buf x (after x c)
unfolding after
settle buf x c a s' b' e p f = rw e (go (eqb a.number 0) refl)
  where
    left : Bool → Outcome
    left d = pick d (record { step = record { answer = a; state = s' }; buffer = b' }) (record { step = record { answer = a; state = x.state }; buffer = x.buffer })

    go : (d : Bool) → eqb a.number 0 ≡ d
        → Goes buf x (record { state = (left d).step.state; buffer = (left d).buffer; told = pick (eqb (left d).step.answer.number 0) (tells c x.state x.told) x.told })
    go true q = rw q (f (eqb→eq a.number 0 (rw q tt)))
    go false q = rw q (goes_on buf x p)

turn_is_lem : (s : State) (k : ℕ) → T (waits s k) → s.turn ≡ k
unfolding waits
turn_is_lem s k t = eqb→eq s.turn k (and_yes (eqb s.turn k) _ t).0

clash : (k n : ℕ) → k ≡ n → eqb k n ≡ false → ⊥
clash k n p e = rw e at (yes_eqb {a = k} {b = n} p)

turn-of : {s s' : State} → s ≡ s' → s.turn ≡ s'.turn
turn-of e = ap (λ (z : State). z.turn) e

host-turn : (s : State) → T (waits s host.kind) → T (waits s 2)
unfolding host
host-turn s t = t

-- a done call for a record is in turn; one for a record of a list has a position of the list's
pub turn-told : (l : Layout) (s : State) (room : ℕ) (img : List ℕ) (ss : Slots l.refs) → (fill_answer l s room img ss).number ≡ 0 → T (waits s l.kind) × (s.turn ≡ l.kind)
turn-told l s room img ss e = let t = (fill-passed l s room img ss e).turn_is in (t, turn_is_lem s l.kind t)

pub position-told : (buf : List ℕ) (x : Build) → Progress buf x → (l : Layout) → ListKind l → T (waits x.state l.kind)
    → (1 ≤ x.state.position) × (x.state.position ≤ count_in x.told.lists l.kind)
position-told buf x (fresh q r) l k t = absurd (clash l.kind 0 (sym (turn_is_lem x.state l.kind t) ∙ turn-of q) k.not_empty)
position-told buf x (over q) l k t = absurd (clash l.kind finished (sym (turn_is_lem x.state l.kind t) ∙ q.turn_is) k.not_finished)
position-told buf x (going o) l k t = let r = turned buf x.state x.buffer x.told o l.kind k.in_lists k.not_host t in (r.inside.from, r.counted)

-- a call for a record of a list
list-step : (buf : List ℕ) (x : Build) (c : Call) (l : Layout) → ListKind l → (y : List ℕ) (told : Slots l.refs) (b' : Body list_kinds) → Sized l y told
    → does c x.state x.buffer ≡ fill l x.state x.buffer y told → tells c x.state x.told ≡ with_lists x.told b'
    → (1 ≤ x.state.position → x.state.position ≤ count_in x.told.lists l.kind → BlankFrom l.kind x.state.position x.told.lists
    → Put x.state.position (entry_of l x.state y told) list_kinds x.told.lists b')
    → Progress buf x → Goes buf x (after x c)
unfolding fill
list-step buf x c l k y told b' z d t put p =
    settle buf x c (fill_answer l s (length b) img ss) (next s (size_of ss) (l.newer ss)) (placed b (place_of s l) s.used img ss) d p
    (λ e. rw t (go p (fill-passed l s (length b) img ss e)))
  where
    s : State
    s = x.state

    b : List ℕ
    b = x.buffer

    img : List ℕ
    img = told_image l.shape s.position y

    ss : Slots l.refs
    ss = told_slots s.position img told

    go : Progress buf x → Passed l s (length b) img ss
        → Goes buf x (record { state = next s (size_of ss) (l.newer ss); buffer = placed b (place_of s l) s.used img ss; told = with_lists x.told b' })
    go (fresh q r) P = absurd (clash l.kind 0 (sym (turn_is_lem s l.kind P.turn_is) ∙ turn-of q) k.not_empty)
    go (over q) P = absurd (clash l.kind finished (sym (turn_is_lem s l.kind P.turn_is) ∙ q.turn_is) k.not_finished)
    go (going o) P =
        let r = turned buf s b x.told o l.kind k.in_lists k.not_host P.turn_is in
        let u = put r.inside.from r.counted r.blank in
        let w = list_open buf s b x.told o l k y told b' z P r.small u in
        record {
          progress = going w;
          begun_yet = λ e. w.started;
          kept_all = λ e. record { owner_kept = λ i j f. f; lists_kept = put-kept s.position (entry_of l s y told) x.told.lists b' u };
        }

host-step : (buf : List ℕ) (x : Build) (y : List ℕ) (told : Slots host.refs) → Sized host y told → Progress buf x → Goes buf x (after x (tells_host y told))
unfolding fill
host-step buf x y told z p =
    settle buf x (tells_host y told) (fill_answer host s (length b) img ss) (next s (size_of ss) (host.newer ss)) (placed b (place_of s host) s.used img ss) refl p
    (λ e. go p (fill-passed host s (length b) img ss e))
  where
    s : State
    s = x.state

    b : List ℕ
    b = x.buffer

    img : List ℕ
    img = told_image host.shape s.position y

    ss : Slots host.refs
    ss = told_slots s.position img told

    go : Progress buf x
        → Passed host s (length b) img ss
        → Goes buf x (record {
          state = next s (size_of ss) (host.newer ss);
          buffer = placed b (place_of s host) s.used img ss;
          told = with_owner x.told (entry_of host s y told);
        })
    go (fresh q r) P = absurd (clash 2 0 (sym (turn_is_lem s 2 (host-turn s P.turn_is)) ∙ turn-of q) refl)
    go (over q) P = absurd (clash 2 finished (sym (turn_is_lem s 2 (host-turn s P.turn_is)) ∙ q.turn_is) refl)
    go (going o) P =
        let w = host-open buf s b x.told o host-kind y told z (host-turn s P.turn_is) P in
        let u = rw (turn_is_lem s 2 (host-turn s P.turn_is)) at o.untold in
        record {
          progress = going w;
          begun_yet = λ e. w.started;
          kept_all = λ e. record { owner_kept = λ i j f. absurd (unused-not (sym u.0 ∙ f)); lists_kept = same_body x.told.lists };
        }

begin-step : (buf : List ℕ) (x : Build) (oem : List ℕ) (h n c d : ℕ) (sig : Slots header.refs) → Proper (opens oem h n c d sig) → Progress buf x → Goes buf x (after x (opens oem h n c d sig))
unfolding begin
begin-step buf x oem h n c d sig z p =
    settle buf x (opens oem h n c d sig) (first_fail ts) (begun cs (form_length m)) (splice x.buffer 0 (laid_out m 0 0 0 0)) refl p
    (λ e. go p (all_pass ts (yes_and (not (eqb r 0) || eqb r 0) true (self-numbered r) tt) e))
  where
    cs : List ℕ
    cs = h ∷ n ∷ c ∷ d ∷ []

    m : Meaning
    m = opened oem cs sig

    r : ℕ
    r = slots_rule (env (count_of list_kinds cs) 0) [] sig

    ts : List Test
    ts = test (same_state x.state empty) 15 0 0 ∷ test (eqb r 0) r 0 0 ∷ room_tests (form_length m) (length x.buffer)

    go : Progress buf x → AllPass ts → Goes buf x (record { state = begun cs (form_length m); buffer = splice x.buffer 0 (laid_out m 0 0 0 0); told = m })
    go (fresh q w) P =
        let room : form_length m ≤ length buf = rw w at (leb→le (form_length m) (length x.buffer) P.1.1.1.0) in
        record {
          progress =
              rw w (going (begin-open buf oem h n c d sig z.0 z.1 z.2 z.3 z.4 (eqb→eq r 0 P.1.0) (leb→le (form_length m) limit P.1.1.0) room));
          begun_yet = λ e. refl;
          kept_all = λ e. absurd (clash x.state.turn 0 (turn-of q) e);
        }
    go (going o) P = absurd (clash x.state.turn 0 (eqb→eq x.state.turn 0 (and_yes (eqb x.state.turn 0) _ P.0).0) o.started)
    go (over q) P = absurd (clash finished 0 (sym q.turn_is ∙ eqb→eq x.state.turn 0 (and_yes (eqb x.state.turn 0) _ P.0).0) refl)

leave-step : (buf : List ℕ) (x : Build) → Progress buf x → Goes buf x (after x leaves)
unfolding leave
leave-step buf x p =
    settle buf x leaves (first_fail ts) (next s 0 false) x.buffer refl p (λ e. go p (all_pass ts tt e))
  where
    s : State
    s = x.state

    ts : List Test
    ts = test (waits s s.turn && leb 1 s.position) 15 0 0 ∷ test (leb s.used (length x.buffer)) 14 0 0 ∷ []

    from : AllPass ts → 1 ≤ s.position
    from P = leb→le 1 s.position (and_yes (waits s s.turn) (leb 1 s.position) P.0).1

    go : Progress buf x → AllPass ts → Goes buf x (record { state = next s 0 false; buffer = x.buffer; told = x.told })
    go (fresh q w) P = absurd (omega (arith, from P, ap (λ (z : State). z.position) q))
    go (over q) P = absurd (omega (arith, from P, q.position_is))
    go (going o) P =
        let w = leave-open buf s x.buffer x.told o (and_yes (waits s s.turn) (leb 1 s.position) P.0).0 (from P) in
        record { progress = going w; begun_yet = λ e. w.started; kept_all = λ e. kept_same x.told }

finish-step : (buf : List ℕ) (x : Build) → Progress buf x → Goes buf x (after x finishes)
unfolding finish
finish-step buf x p =
    settle buf x finishes (first (first_fail ts) (check t)) (moved s (turn finished 0) s.used s.minor) (sealed s x.buffer) refl p
    (λ e. let u = first-right (first_fail ts) (check t) e in go p (all_pass ts tt u.0) (ap (λ (a : Answer). a.number) (sym u.1) ∙ e))
  where
    s : State
    s = x.state

    t : List ℕ
    t = take s.used (sealed s x.buffer)

    ts : List Test
    ts = test (waits s finishing) 15 0 0 ∷ test (leb s.used (length x.buffer)) 14 0 0 ∷ []

    go : Progress buf x → AllPass ts → (check t).number ≡ 0 → Goes buf x (record { state = moved s (turn finished 0) s.used s.minor; buffer = sealed s x.buffer; told = x.told })
    go (fresh q w) P e = absurd (clash finishing 0 (sym (turn_is_lem s finishing P.0) ∙ turn-of q) refl)
    go (over q) P e = absurd (clash finishing finished (sym (turn_is_lem s finishing P.0) ∙ q.turn_is) refl)
    go (going o) P e = record { progress = over (finish-closed buf s x.buffer x.told o e); begun_yet = λ f. refl; kept_all = λ f. kept_same x.told }

-- every call keeps the progress, and what was told
pub step : (buf : List ℕ) (x : Build) (c : Call) → Proper c → Progress buf x → Goes buf x (after x c)
unfolding hfi ssns security discovery
step buf x (opens oem h n c d sig) z p = begin-step buf x oem h n c d sig z p
step buf x (tells_host y told) z p = host-step buf x y told z p
step buf x (tells_hfi y told) z p =
    list-step buf x (tells_hfi y told) hfi hfi-kind y told _ z refl refl (put-hfi x.told.lists x.state.position (entry_of hfi x.state y told)) p
step buf x (tells_ssns y told) z p =
    list-step buf x (tells_ssns y told) ssns ssns-kind y told _ z refl refl (put-ssns x.told.lists x.state.position (entry_of ssns x.state y told)) p
step buf x (tells_security y told) z p =
    list-step buf x (tells_security y told) security security-kind y told _ z refl refl (put-security x.told.lists x.state.position (entry_of security x.state y told)) p
step buf x (tells_discovery y told) z p =
    list-step buf x (tells_discovery y told) discovery discovery-kind y told _ z refl refl (put-discovery x.told.lists x.state.position (entry_of discovery x.state y told)) p
step buf x leaves z p = leave-step buf x p
step buf x finishes z p = finish-step buf x p

pub steps : (buf : List ℕ) (x : Build) (cs : List Call) → AllProper cs → Progress buf x → Goes buf x (run x cs)
unfolding run
steps buf x [] z p = goes_on buf x p
steps buf x (c ∷ cs) z p =
    let s = step buf x c z.0 p in
    let r = steps buf (after x c) cs z.1 s.progress in
    record {
      progress = r.progress;
      begun_yet = λ e. r.begun_yet (s.begun_yet e);
      kept_all = λ e. kept-through x.told (after x c).told (run x cs').told (s.kept_all e) (r.kept_all (s.begun_yet e));
    }
  where
    cs' : List Call
    cs' = c ∷ cs

pub closed : (buf : List ℕ) (x : Build) → Progress buf x → x.state.turn ≡ finished → Closed buf x.state x.buffer x.told
closed buf x (fresh q r) e = absurd (clash finished 0 (sym e ∙ turn-of q) refl)
closed buf x (going o) e = absurd (clash x.state.turn finished e o.unfinished)
closed buf x (over q) e = q

-- a run from the empty state that has finished has left the one form of what was told, accepted, with that meaning
pub built : (buf : List ℕ) (m : Meaning) (cs : List Call) → AllProper cs → let x = run (record { state = empty; buffer = buf; told = m }) cs in
    x.state.turn ≡ finished → Closed buf x.state x.buffer x.told
built buf m cs z e =
    let x : Build = record { state = empty; buffer = buf; told = m } in
    closed buf (run x cs) (steps buf x cs z (fresh refl refl)).progress e
