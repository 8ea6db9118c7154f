-- The builder's calls for C: the positions that their answers name are below 256. Assumes nothing.
use mathlib.Core.Path.{◌≡◌, refl}
use mathlib.Core.Bool.{Bool, true, false, ◌&&◌, ◌||◌}
use mathlib.Core.List.{List, [], ◌∷◌, ◌++◌}
use Prim.Native.Nat.{ℕ, zero, suc, ◌+◌, ◌-◌, ◌/◌, ◌≤◌, ◌<◌}
use native.Mathlib.Omega.{arith}
use lib.ListN.{length, take, drop}
use lib.Dec.{eqb, leb, lit<}
use borrow.Author.Tests.{eqb-true}
use Rattle.table.specs.declared.Answer.{Answer}
use Rattle.table.specs.declared.State.{State}
use Rattle.table.specs.Bytes.{pick, le, splice, checksum}
use Rattle.table.specs.Layout.{Layout, Slots, env, pairs_right}
use Rattle.table.specs.FixedLayouts.{host, hfi, ssns, security, discovery, list_kinds}
use Rattle.table.specs.Objects.{size_of}
use Rattle.table.specs.Rules.{Test, test, first, first_fail}
use Rattle.table.specs.Meaning.{form_length, laid_out}
use Rattle.table.specs.Numbers.{check}
use Rattle.table.specs.Builder.{
  Outcome,
  outcome,
  counts,
  count_of,
  in_list,
  waits,
  finishing,
  same_state,
  empty,
  room_tests,
  env_of,
  told_image,
  told_slots,
  slots_rule,
  nests_right,
  fill_answer,
  fill,
  next,
  placed,
  place_of,
  leave,
  begin,
  begun,
  opened,
  finish,
  finished,
  sealed,
  records_end,
  moved,
  turn,
}
use Rattle.laws.specs.Fields.{Bytes}
use Rattle.laws.specs.Positions.{Placed, one_of, check-placed}
use Rattle.builder_state.proofs.Laws.{waits-in-place, in-list-upto, minor-bound}
use Rattle.builder_record.specs.Calls.{host_told, hfi_told, ssns_told, security_told, discovery_told, tell_host, tell_hfi, tell_ssns, tell_security, tell_discovery}
use Rattle.builder_begin.specs.Begins.{header_told, begin_with}
use Rattle.c_states.specs.States.{SmallState}

abbrev AllPlaced : List Test → Type 0
AllPlaced [] = Unit {0}
AllPlaced (x ∷ xs) = Placed x.gives × AllPlaced xs

fails-placed : (ts : List Test) → AllPlaced ts → Placed (first_fail ts)
fails-placed [] h = lit< tt
fails-placed (x ∷ xs) h = one_of x.holds (first_fail xs) x.gives (fails-placed xs h.1) h.0

-- done or refused, an outcome has the answer that it is made of
answered : (a : Answer) (s s' : State) (b b' : List ℕ) → Placed a → Placed (outcome a s s' b b').step.answer
answered a s s' b b' p = go (eqb a.number 0) where
  go : (c : Bool) → Placed (pick {X = Outcome} c (record { step = record { answer = a; state = s' }; buffer = b' }) (record { step = record { answer = a; state = s }; buffer = b })).step.answer
  go true = p
  go false = p

small_of : (c : Bool) (x y : ℕ) → x < 256 → y < 256 → pick c x y < 256
small_of true x y p q = p
small_of false x y p q = q

count_small : (s : State) → SmallState s → (k : ℕ) → count_of list_kinds (counts s) k < 256
unfolding hfi ssns security discovery
count_small s m k =
    small_of (eqb k 3) s.hfi _ m.0 (small_of (eqb k 4) s.ssns _ m.1 (small_of (eqb k 5) s.security _ m.2 (small_of (eqb k 6) s.discovery 0 m.3 (lit< tt))))

waits-small : (s : State) → SmallState s → (k : ℕ) → waits s k ≡ true → s.position < 256
waits-small s m k w = go (eqb k 2 || eqb k finishing) (waits-in-place s k w) where
  go : (c : Bool) → pick c (eqb s.position 0) (in_list s) ≡ true → s.position < 256
  go true e = omega (arith, eqb-true s.position 0 e)
  go false e = omega (arith, in-list-upto s e, count_small s m s.turn)

fill-placed : (l : Layout) (s : State) (b x : List ℕ) (told : Slots l.refs) → SmallState s → Placed (fill l s b x told).step.answer
unfolding fill fill_answer
fill-placed l s b x told m =
    answered (fill_answer l s (length b) img ss) s (next s (size_of ss) (l.newer ss)) b (placed b (place_of s l) s.used img ss) (go (waits s l.kind) refl)
  where
    img : List ℕ
    img = told_image l.shape s.position x

    ss : Slots l.refs
    ss = told_slots s.position img told

    n : ℕ
    n = slots_rule (env_of s) img ss

    rest : List Test
    rest =
        test (pairs_right l.shape img) 10 l.kind s.position
        ∷ test (nests_right img ss) 12 l.kind s.position
        ∷ test (eqb n 0) n l.kind s.position
        ∷ room_tests (s.used + size_of ss) (length b)

    go : (c : Bool) → waits s l.kind ≡ c → Placed (first_fail (test c 15 0 0 ∷ rest))
    go true e = let p = waits-small s m l.kind e in fails-placed rest (p, (p, (p, (lit< tt, (lit< tt, tt)))))
    go false e = lit< tt

module _ (s : State) (m : SmallState s) (b x : List ℕ) where
  pub host-placed : (nqn : List ℕ) → (tell_host s b x nqn).step.answer.position < 256
  unfolding tell_host
  host-placed nqn = fill-placed host s b x (host_told nqn) m

  pub hfi-placed : (i name : List ℕ) (told : Bool) (e iaid duid : List ℕ) → (tell_hfi s b x i name told e iaid duid).step.answer.position < 256
  unfolding tell_hfi
  hfi-placed i name told e iaid duid = fill-placed hfi s b x (hfi_told i name told e iaid duid) m

  pub ssns-placed : (address service others nqn e path : List ℕ) → (tell_ssns s b x address service others nqn e path).step.answer.position < 256
  unfolding tell_ssns
  ssns-placed address service others nqn e path = fill-placed ssns s b x (ssns_told address service others nqn e path) m

  pub security-placed : (o₁ o₂ o₃ o₄ o₅ o₆ : List ℕ) → (tell_security s b x o₁ o₂ o₃ o₄ o₅ o₆).step.answer.position < 256
  unfolding tell_security
  security-placed o₁ o₂ o₃ o₄ o₅ o₆ = fill-placed security s b x (security_told o₁ o₂ o₃ o₄ o₅ o₆) m

  pub discovery-placed : (address nqn : List ℕ) → (tell_discovery s b x address nqn).step.answer.position < 256
  unfolding tell_discovery
  discovery-placed address nqn = fill-placed discovery s b x (discovery_told address nqn) m

pub leave-placed : (s : State) (b : List ℕ) → (leave s b).step.answer.position < 256
unfolding leave
leave-placed s b =
    let ts : List Test = test (waits s s.turn && leb 1 s.position) 15 0 0 ∷ test (leb s.used (length b)) 14 0 0 ∷ [] in
    answered (first_fail ts) s (next s 0 false) b b (fails-placed ts (lit< tt, (lit< tt, tt)))

pub begin-placed : (s : State) (b oem cs signature : List ℕ) → (begin_with s b oem cs signature).step.answer.position < 256
unfolding begin_with begin
begin-placed s b oem cs signature =
    let m = opened oem cs (header_told signature) in
    let n = slots_rule (env (count_of list_kinds cs) 0) [] (header_told signature) in
    let ts : List Test = test (same_state s empty) 15 0 0 ∷ test (eqb n 0) n 0 0 ∷ room_tests (form_length m) (length b) in
    answered (first_fail ts) s (begun cs (form_length m)) b (splice b 0 (laid_out m 0 0 0 0)) (fails-placed ts (lit< tt, (lit< tt, (lit< tt, (lit< tt, tt)))))

-- ---- the finished bytes are bytes

bytes-append : (x y : List ℕ) → Bytes x → Bytes y → Bytes (x ++ y)
bytes-append [] y p q i = q i
bytes-append (a ∷ x) y p q zero = p 0
bytes-append (a ∷ x) y p q (suc i) = bytes-append x y (λ j. p (suc j)) q i

bytes_take : (n : ℕ) (x : List ℕ) → Bytes x → Bytes (take n x)
bytes_take zero x p i = lit< tt
bytes_take (suc n) [] p i = lit< tt
bytes_take (suc n) (a ∷ x) p zero = p 0
bytes_take (suc n) (a ∷ x) p (suc i) = bytes_take n x (λ j. p (suc j)) i

bytes_drop : (n : ℕ) (x : List ℕ) → Bytes x → Bytes (drop n x)
bytes_drop zero x p i = p i
bytes_drop (suc n) [] p i = lit< tt
bytes_drop (suc n) (a ∷ x) p i = bytes_drop n x (λ j. p (suc j)) i

bytes-splice : (t : List ℕ) (a : ℕ) (x : List ℕ) → Bytes t → Bytes x → Bytes (splice t a x)
bytes-splice t a x p q = bytes-append (take a t) _ (bytes_take a t p) (bytes-append x _ q (bytes_drop (a + length x) t p))

bytes_le : (n x : ℕ) → Bytes (le n x)
bytes_le zero x i = lit< tt
bytes_le (suc n) x zero = omega arith
bytes_le (suc n) x (suc i) = bytes_le n (x / 256) i

bytes_one : (x : ℕ) → x < 256 → Bytes (x ∷ [])
bytes_one x p zero = p
bytes_one x p (suc i) = lit< tt

bytes-sealed : (s : State) (b : List ℕ) → s.minor ≤ 1 → Bytes b → Bytes (sealed s b)
unfolding sealed
bytes-sealed s b o p =
    let minor : List ℕ = splice b 50 (s.minor ∷ []) in
    let heap : List ℕ = splice minor 40 (le 4 (s.used - records_end s)) in
    let total : List ℕ = splice heap 4 (le 4 s.used) in
    let y : List ℕ = splice total 9 (0 ∷ []) in
    let sum : ℕ = checksum (take s.used y) in
    let mp : Bytes minor = bytes-splice b 50 (s.minor ∷ []) p (bytes_one s.minor (omega arith)) in
    let hp : Bytes heap = bytes-splice minor 40 (le 4 (s.used - records_end s)) mp (bytes_le 4 (s.used - records_end s)) in
    let tp : Bytes total = bytes-splice heap 4 (le 4 s.used) hp (bytes_le 4 s.used) in
    let yp : Bytes y = bytes-splice total 9 (0 ∷ []) tp (bytes_one 0 (lit< tt)) in
    bytes-splice y 9 (sum ∷ []) yp (bytes_one sum (omega arith))

pub finish-placed : (s : State) (b : List ℕ) → Bytes b → (finish s b).step.answer.position < 256
unfolding finish
finish-placed s b p =
    answered (first (first_fail (tests (waits s finishing))) (check t)) s (moved s (turn finished 0) s.used s.minor) b (sealed s b) (go (waits s finishing) refl)
  where
    tests : Bool → List Test
    tests w = test w 15 0 0 ∷ test (leb s.used (length b)) 14 0 0 ∷ []

    t : List ℕ
    t = take s.used (sealed s b)

    -- the reader is asked only of the bytes of a state that waits, whose minor is a byte
    go : (w : Bool) → waits s finishing ≡ w → Placed (first (first_fail (tests w)) (check t))
    go true e =
        one_of (eqb (first_fail (tests true)).number 0) (check t) (first_fail (tests true))
        (check-placed t (bytes_take s.used (sealed s b) (bytes-sealed s b (minor-bound s finishing e) p)))
        (fails-placed (tests true) (lit< tt, (lit< tt, tt)))
    go false e = lit< tt
