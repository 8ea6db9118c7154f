-- What a done call told is read of the finished table: by the object call, every object of the record and of its heap records, text as it was told. Assumes nothing.
use Rattle.std.specs.Prelude.{◌≡◌, refl, false, get_or, take, T, eqb}
use Rattle.std.proofs.Common.{sym, ◌∙◌, subst, arith, get_or-set_same, eqb→eq, lit<}
use Rattle.std.proofs.Math.Path.{ap}
use mathlib.Core.List.{List, [], ◌∷◌}
use Prim.Native.Nat.{ℕ, zero, suc, ◌-◌, ◌≤◌, ◌<◌}
use Rattle.std.proofs.Math.Facts.{and_yes}
use Rattle.table.specs.declared.Answer.{Answer}
use Rattle.table.specs.declared.State.{State}
use Rattle.table.specs.Bytes.{pick}
use Rattle.table.specs.Layout.{Body, Entry, Layout, Slots, more, slot_at, unused}
use Rattle.table.specs.FixedLayouts.{discovery, extended, hfi, host, info, list_kinds, security, ssns}
use Rattle.table.specs.Objects.{count_in, under}
use Rattle.table.specs.Meaning.{Meaning, meaning}
use Rattle.table.specs.Numbers.{check}
use Rattle.table.specs.Reads.{has_plain, need_at, read_object}
use Rattle.table.specs.Builder.{empty, fill, finished, may_have, told_image, told_slots, waits}
use Rattle.laws.specs.Refusals.{outcome-answer}
use Rattle.laws.specs.Runs.{AllProper, Build, Call, Proper, after, does, entry_of, run, set_discovery, set_hfi, set_security, set_ssns, tells}
use Rattle.laws.specs.Runs.{tells_discovery, tells_hfi, tells_host, tells_security, tells_ssns}
use Rattle.laws.specs.Kept.{Kept, KeptBody, KeptList}
use Rattle.laws.specs.Builds.{Closed, Progress, closed, discovery-kind, fresh, hfi-kind, position-told, security-kind, ssns-kind, step, steps, turn-told}
use Rattle.laws.specs.Said.{Inner, Reads, Says, Tells, TellsOf, discoveries_of, discovery_call, extended_of, held_at, hfi_call, hfis_of, holding, host_call, info_of, is_there, nests_in, of_discovery, of_hfi, of_host, of_inner, of_security, of_ssns, securities_of, security_call, ssns_call, ssns_of}
use Rattle.laws.specs.SaidReads.{tells-inner, told-reads}

-- ---- a finished build

take-bytes : (n : ℕ) (xs : List ℕ) → ((i : ℕ) → get_or xs i 0 < 256) → (i : ℕ) → get_or (take n xs) i 0 < 256
take-bytes zero xs f i = lit< tt
take-bytes (suc n) [] f i = lit< tt
take-bytes (suc n) (x ∷ xs) f zero = f 0
take-bytes (suc n) (x ∷ xs) f (suc i) = take-bytes n xs (λ j. f (suc j)) i

-- the object call reads of it what was told
pub closed-reads : (buf : List ℕ) (s : State) (b : List ℕ) (m : Meaning) → Closed buf s b m → ((i : ℕ) → get_or b i 0 < 256)
    → (k n : ℕ) (l : Layout) (x : List ℕ) (told : Slots l.refs) → Tells m k n l x told → (q : ℕ) → T (has_plain q l.refs)
    → let y = under (need_at q l.refs (told_image l.shape n x)) [] (slot_at q told) in Reads (take s.used b) k n q y (is_there y)
closed-reads buf s b m c f k n l x told r q h =
    told-reads (take s.used b) (take-bytes s.used b f) (ap check c.is_form ∙ c.is_accepted) x told
    (subst (λ (w : Meaning). Tells w k n l x told) (sym (ap meaning c.is_form ∙ c.means)) r) q h

-- ---- what was told stays told

hfis-kept : (b c : Body list_kinds) → KeptBody b c → KeptList (hfis_of b) (hfis_of c)
hfis-kept (more hs r) (more hs' r') k = k.0

ssns-kept : (b c : Body list_kinds) → KeptBody b c → KeptList (ssns_of b) (ssns_of c)
ssns-kept (more hs (more ns r)) (more hs' (more ns' r')) k = k.1.0

securities-kept : (b c : Body list_kinds) → KeptBody b c → KeptList (securities_of b) (securities_of c)
securities-kept (more hs (more ns (more cs r))) (more hs' (more ns' (more cs' r'))) k = k.1.1.0

discoveries-kept : (b c : Body list_kinds) → KeptBody b c → KeptList (discoveries_of b) (discoveries_of c)
discoveries-kept (more hs (more ns (more cs (more ds r)))) (more hs' (more ns' (more cs' (more ds' r')))) k = k.1.1.1.0

said-kept : (m m' : Meaning) {k n : ℕ} {l : Layout} {img : List ℕ} {ss : Slots l.refs} → Kept m m' → Says m k n l img ss → Says m' k n l img ss
said-kept m m' f (of_host {img = img} {ss = ss} e) = of_host (f.owner_kept img ss e)
said-kept m m' f (of_hfi {i = i} {img = img} {ss = ss} e) = of_hfi (hfis-kept m.lists m'.lists f.lists_kept i img ss e)
said-kept m m' f (of_ssns {i = i} {img = img} {ss = ss} e) = of_ssns (ssns-kept m.lists m'.lists f.lists_kept i img ss e)
said-kept m m' f (of_security {i = i} {img = img} {ss = ss} e) = of_security (securities-kept m.lists m'.lists f.lists_kept i img ss e)
said-kept m m' f (of_discovery {i = i} {img = img} {ss = ss} e) = of_discovery (discoveries-kept m.lists m'.lists f.lists_kept i img ss e)
said-kept m m' f (of_inner i r e) = of_inner i (said-kept m m' f r) e

-- ---- what a done call tells

-- a record at a position of its list
put-hfi : (b : Body list_kinds) (p : ℕ) (x : Entry hfi) → (1 ≤ p) × (p ≤ count_in b hfi.kind) → get_or (hfis_of (set_hfi p x b)) (p - 1) unused ≡ x
unfolding hfi ssns security discovery count_in
put-hfi (more hs r) p x f = get_or-set_same hs (p - 1) x unused (omega (arith, f.0, f.1))

put-ssns : (b : Body list_kinds) (p : ℕ) (x : Entry ssns) → (1 ≤ p) × (p ≤ count_in b ssns.kind) → get_or (ssns_of (set_ssns p x b)) (p - 1) unused ≡ x
unfolding hfi ssns security discovery count_in
put-ssns (more hs (more ns r)) p x f = get_or-set_same ns (p - 1) x unused (omega (arith, f.0, f.1))

put-security : (b : Body list_kinds) (p : ℕ) (x : Entry security) → (1 ≤ p) × (p ≤ count_in b security.kind) → get_or (securities_of (set_security p x b)) (p - 1) unused ≡ x
unfolding hfi ssns security discovery count_in
put-security (more hs (more ns (more cs r))) p x f = get_or-set_same cs (p - 1) x unused (omega (arith, f.0, f.1))

put-discovery : (b : Body list_kinds) (p : ℕ) (x : Entry discovery) → (1 ≤ p) × (p ≤ count_in b discovery.kind) → get_or (discoveries_of (set_discovery p x b)) (p - 1) unused ≡ x
unfolding hfi ssns security discovery count_in
put-discovery (more hs (more ns (more cs (more ds r)))) p x f = get_or-set_same ds (p - 1) x unused (omega (arith, f.0, f.1))

-- the call is that for its kind, which is none of a build that has not begun
call-fills : (s : State) (b : List ℕ) {c : Call} {k : ℕ} {l : Layout} {x : List ℕ} {told : Slots l.refs} → TellsOf c k l x told → (does c s b ≡ fill l s b x told) × (eqb l.kind 0 ≡ false)
unfolding host hfi ssns security discovery
call-fills s b host_call = (refl, refl)
call-fills s b hfi_call = (refl, refl)
call-fills s b ssns_call = (refl, refl)
call-fills s b security_call = (refl, refl)
call-fills s b discovery_call = (refl, refl)

-- a host has position 0, the first record of a list 1
host-position : (s : State) → T (waits s host.kind) → s.position ≡ 0
unfolding waits host
host-position s t = eqb→eq s.position 0 (and_yes (eqb s.position 0) _ (and_yes (eqb s.turn 2) _ t).1).0

at_position : {m : Meaning} {k : ℕ} {l : Layout} {img : List ℕ} {ss : Slots l.refs} (n : ℕ) → 1 ≤ n → Says m k (suc (n - 1)) l img ss → Says m k n l img ss
at_position {m} {k} {l} {img} {ss} n f r = let e : suc (n - 1) ≡ n = omega arith in subst (λ (i : ℕ). Says m k i l img ss) e r

-- what a done call has told, by what it does
module _ (x : Build) (c : Call) (e : (does c x.state x.buffer).step.answer.number ≡ 0) where
  told-after : (after x c).told ≡ tells c x.state x.told
  unfolding after
  told-after = ap (λ (n : ℕ). pick (eqb n 0) (tells c x.state x.told) x.told) e

  in-turn : {k : ℕ} {l : Layout} {y : List ℕ} {told : Slots l.refs} → TellsOf c k l y told → T (waits x.state l.kind) × (x.state.turn ≡ l.kind)
  unfolding fill
  in-turn {k} {l} {y} {told} r =
      let s : State = x.state in
      let img : List ℕ = told_image l.shape s.position y in
      let ss : Slots l.refs = told_slots s.position img told in
      turn-told l s _ img ss (ap (λ (a : Answer). a.number) (sym (outcome-answer _ s _ x.buffer _)) ∙ ap (λ (o : _). o.step.answer.number) (sym (call-fills s x.buffer r).0) ∙ e)

  begun-after : {k : ℕ} {l : Layout} {y : List ℕ} {told : Slots l.refs} → TellsOf c k l y told → eqb x.state.turn 0 ≡ false
  begun-after r = ap (λ (n : ℕ). eqb n 0) (in-turn r).1 ∙ (call-fills x.state x.buffer r).1

-- the record that it told
call-tells : (buf : List ℕ) (x : Build) → Progress buf x → {c : Call} {k : ℕ} {l : Layout} {y : List ℕ} {told : Slots l.refs} → TellsOf c k l y told
    → (does c x.state x.buffer).step.answer.number ≡ 0 → Tells (after x c).told k x.state.position l y told
call-tells buf x p (host_call {x = y} {told = told}) e =
    let c : Call = tells_host y told in
    let n : ℕ = x.state.position in
    let img : List ℕ = told_image host.shape n y in
    subst (λ (i : ℕ). Says (after x c).told 2 i host img (told_slots n img told)) (sym (host-position x.state (in-turn x c e host_call).0))
    (of_host (ap (λ (m : Meaning). m.owner) (told-after x c e)))
call-tells buf x p (hfi_call {x = y} {told = told}) e =
    let c : Call = tells_hfi y told in
    let n : ℕ = x.state.position in
    let f = position-told buf x p hfi hfi-kind (in-turn x c e hfi_call).0 in
    at_position n f.0
    (of_hfi (ap (λ (m : Meaning). get_or (hfis_of m.lists) (n - 1) unused) (told-after x c e) ∙ put-hfi x.told.lists n (entry_of hfi x.state y told) f))
call-tells buf x p (ssns_call {x = y} {told = told}) e =
    let c : Call = tells_ssns y told in
    let n : ℕ = x.state.position in
    let f = position-told buf x p ssns ssns-kind (in-turn x c e ssns_call).0 in
    at_position n f.0
    (of_ssns (ap (λ (m : Meaning). get_or (ssns_of m.lists) (n - 1) unused) (told-after x c e) ∙ put-ssns x.told.lists n (entry_of ssns x.state y told) f))
call-tells buf x p (security_call {x = y} {told = told}) e =
    let c : Call = tells_security y told in
    let n : ℕ = x.state.position in
    let f = position-told buf x p security security-kind (in-turn x c e security_call).0 in
    at_position n f.0
    (of_security (ap (λ (m : Meaning). get_or (securities_of m.lists) (n - 1) unused) (told-after x c e) ∙ put-security x.told.lists n (entry_of security x.state y told) f))
call-tells buf x p (discovery_call {x = y} {told = told}) e =
    let c : Call = tells_discovery y told in
    let n : ℕ = x.state.position in
    let f = position-told buf x p discovery discovery-kind (in-turn x c e discovery_call).0 in
    at_position n f.0
    (of_discovery (ap (λ (m : Meaning). get_or (discoveries_of m.lists) (n - 1) unused) (told-after x c e) ∙ put-discovery x.told.lists n (entry_of discovery x.state y told) f))

-- ---- the whole: a run from the empty state, in it a done call that tells a record, and at its end a finished table

module _ (buf : List ℕ) (m : Meaning) (cs : List Call) (c : Call) (ds : List Call) (p : AllProper cs) (pc : Proper c) (pd : AllProper ds) where
  abbrev before : Build
  before = run (record { state = empty; buffer = buf; told = m }) cs

  abbrev ending : Build
  ending = run (after before c) ds

  abbrev table : List ℕ
  table = take ending.state.used ending.buffer

  module _ (is_done : (does c before.state before.buffer).step.answer.number ≡ 0) (is_finished : ending.state.turn ≡ finished) (are_bytes : (i : ℕ) → get_or ending.buffer i 0 < 256) where
    came : Progress buf before
    came = (steps buf (record { state = empty; buffer = buf; told = m }) cs p (fresh refl refl)).progress

    -- what the call told is told in the end
    pub call-told : {k : ℕ} {l : Layout} {x : List ℕ} {told : Slots l.refs} → TellsOf c k l x told → Tells ending.told k before.state.position l x told
    call-told r =
        let s = step buf before c pc came in
        let e = steps buf (after before c) ds pd s.progress in
        said-kept (after before c).told ending.told (e.kept_all (s.begun_yet (begun-after before c is_done r))) (call-tells buf before came r is_done)

    -- and what is told in the end is read: of a record, of its heap record, and of that one's
    pub ending-reads : (k n : ℕ) (l : Layout) (x : List ℕ) (told : Slots l.refs) → Tells ending.told k n l x told → (q : ℕ) → T (has_plain q l.refs)
        → let y = under (need_at q l.refs (told_image l.shape n x)) [] (slot_at q told) in Reads table k n q y (is_there y)
    ending-reads k n l x told r q h =
        let s = step buf before c pc came in
        let e = steps buf (after before c) ds pd s.progress in
        closed-reads buf ending.state ending.buffer ending.told (closed buf ending e.progress is_finished) are_bytes k n l x told r q h

    -- so the object call reads of the finished table what the call told: an object that its record's fields ask for, and none where it was told empty or is ignored
    pub call-reads : (k : ℕ) (l : Layout) (x : List ℕ) (told : Slots l.refs) → TellsOf c k l x told → (q : ℕ) → T (has_plain q l.refs)
        → let n = before.state.position in let y = under (need_at q l.refs (told_image l.shape n x)) [] (slot_at q told) in Reads table k n q y (is_there y)
    call-reads k l x told r q h = ending-reads k before.state.position l x told (call-told r) q h

    -- and what it told of the record's heap record, where that is not ignored
    pub inner-reads : (k p k' : ℕ) (l h : Layout) (x : List ℕ) (told : Slots l.refs) → TellsOf c k l x told → (i : Inner k l p h k') (z : List ℕ) (own : Slots h.refs)
        → held_at (nests_in i) told ≡ holding z own → T (may_have (need_at p l.refs (told_image l.shape before.state.position x)))
        → (q : ℕ) → T (has_plain q h.refs)
        → let n = before.state.position in let y = under (need_at q h.refs (told_image h.shape n z)) [] (slot_at q own) in Reads table k' n q y (is_there y)
    inner-reads k p k' l h x told r i z own e f q g = ending-reads k' before.state.position h z own (tells-inner ending.told x told (call-told r) i z own e f) q g

    -- ---- so each of the six texts comes back as it was told

    abbrev n : ℕ
    n = before.state.position

    pub host-name : (x : List ℕ) (told : Slots host.refs) → TellsOf c 2 host x told → read_object table 2 n 18 ≡ slot_at 18 told
    unfolding host
    host-name x told r = (call-reads 2 host x told r 18 tt).bytes_are

    pub subsystem-name : (x : List ℕ) (told : Slots ssns.refs) → TellsOf c 4 ssns x told → read_object table 4 n 54 ≡ slot_at 54 told
    unfolding ssns
    subsystem-name x told r = (call-reads 4 ssns x told r 54 tt).bytes_are

    pub controller-address : (x : List ℕ) (told : Slots discovery.refs) → TellsOf c 6 discovery x told → read_object table 6 n 6 ≡ slot_at 6 told
    unfolding discovery
    controller-address x told r = (call-reads 6 discovery x told r 6 tt).bytes_are

    pub controller-name : (x : List ℕ) (told : Slots discovery.refs) → TellsOf c 6 discovery x told → read_object table 6 n 12 ≡ slot_at 12 told
    unfolding discovery
    controller-name x told r = (call-reads 6 discovery x told r 12 tt).bytes_are

    pub info-name : (x : List ℕ) (told : Slots hfi.refs) → TellsOf c 3 hfi x told → (z : List ℕ) (own : Slots info.refs) → held_at (nests_in info_of) told ≡ holding z own
        → read_object table 7 n 104 ≡ slot_at 104 own
    unfolding hfi info
    info-name x told r z own e = (inner-reads 3 16 7 hfi info x told r info_of z own e tt 104 tt).bytes_are

    -- where the flag asks for the extended info
    pub root-path : (x : List ℕ) (told : Slots ssns.refs) → TellsOf c 4 ssns x told → (z : List ℕ) (own : Slots extended.refs) → held_at (nests_in extended_of) told ≡ holding z own
        → T (may_have (need_at 60 ssns.refs (told_image ssns.shape n x))) → read_object table 9 n 12 ≡ slot_at 12 own
    unfolding extended
    root-path x told r z own e f = (inner-reads 4 60 9 ssns extended x told r extended_of z own e f 12 tt).bytes_are
