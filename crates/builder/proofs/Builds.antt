-- Demand 2 of what the code leaves: by their contracts the calls are these outcomes, each given the state and the buffer that the last one left. Assumes nothing.
use mathlib.Core.Path.{◌≡◌, refl, sym, ap, ◌∙◌, subst}
use mathlib.Core.Bool.{Bool, true, false}
use mathlib.Core.List.{List, [], ◌∷◌}
use Prim.Native.Nat.{ℕ, ◌+◌, ◌≤◌, ◌<◌}
use lib.ListN.{length}
use lib.Dec.{eqb}
use Rattle.table.specs.declared.State.{State}
use Rattle.table.specs.Bytes.{pick}
use Rattle.table.specs.Layout.{base_of}
use Rattle.table.specs.FixedLayouts.{host, hfi, ssns, security, discovery, info, extended, hfi_extended}
use Rattle.table.specs.Rules.{answer}
use Rattle.table.specs.Meaning.{Meaning}
use Rattle.table.specs.Builder.{Outcome, empty, finish, finished, leave, next, waits}
use Rattle.laws.specs.Runs.{AllProper, Build, Call, Proper, after, does, finishes, leaves, opens, run, tells, tells_discovery, tells_hfi, tells_host, tells_security, tells_ssns}
use Rattle.laws.specs.Builds.{Closed, built}
use Rattle.laws.specs.Refusals.{begin-waits, finished-refuses}
use Rattle.builder_state.proofs.Laws.{next-waits}
use Rattle.builder_record.specs.Calls.{host_told, tell_host, identity_told, info_told, hfi_told, tell_hfi, path_told, ssns_told, tell_ssns, security_told, tell_security, discovery_told, tell_discovery}
use Rattle.builder_begin.specs.Begins.{header_told, begin_with}

-- what a caller hands to each of the calls
pub data Handed : Type 0 where
  to_begin : (oem : List ℕ) (h n c d : ℕ) (signature : List ℕ) → Handed
  to_host : (x nqn : List ℕ) → Handed
  to_hfi : (x i name : List ℕ) (told : Bool) (e iaid duid : List ℕ) → Handed
  to_ssns : (x address service others nqn e path : List ℕ) → Handed
  to_security : (x o₁ o₂ o₃ o₄ o₅ o₆ : List ℕ) → Handed
  to_discovery : (x address nqn : List ℕ) → Handed
  to_leave : Handed
  to_finish : Handed

-- what the code's contracts say of it
abbrev pub leaves_of : Handed → State → List ℕ → Outcome
leaves_of (to_begin oem h n c d signature) s b = begin_with s b oem (h ∷ n ∷ c ∷ d ∷ []) signature
leaves_of (to_host x nqn) s b = tell_host s b x nqn
leaves_of (to_hfi x i name told e iaid duid) s b = tell_hfi s b x i name told e iaid duid
leaves_of (to_ssns x address service others nqn e path) s b = tell_ssns s b x address service others nqn e path
leaves_of (to_security x o₁ o₂ o₃ o₄ o₅ o₆) s b = tell_security s b x o₁ o₂ o₃ o₄ o₅ o₆
leaves_of (to_discovery x address nqn) s b = tell_discovery s b x address nqn
leaves_of to_leave s b = leave s b
leaves_of to_finish s b = finish s b

-- arrays have their sizes, counts are bytes
abbrev pub Typed : Handed → Type 0
Typed (to_begin oem h n c d signature) = (length oem ≡ 26) × (h < 256) × (n < 256) × (c < 256) × (d < 256)
Typed (to_host x nqn) = length x ≡ base_of host
Typed (to_hfi x i name told e iaid duid) = (length x ≡ base_of hfi) × (length i ≡ base_of info) × (length e ≡ base_of hfi_extended)
Typed (to_ssns x address service others nqn e path) = (length x ≡ base_of ssns) × (length e ≡ base_of extended)
Typed (to_security x o₁ o₂ o₃ o₄ o₅ o₆) = length x ≡ base_of security
Typed (to_discovery x address nqn) = length x ≡ base_of discovery
Typed to_leave = Unit {0}
Typed to_finish = Unit {0}

abbrev pub call_of : Handed → Call
call_of (to_begin oem h n c d signature) = opens oem h n c d (header_told signature)
call_of (to_host x nqn) = tells_host x (host_told nqn)
call_of (to_hfi x i name told e iaid duid) = tells_hfi x (hfi_told i name told e iaid duid)
call_of (to_ssns x address service others nqn e path) = tells_ssns x (ssns_told address service others nqn e path)
call_of (to_security x o₁ o₂ o₃ o₄ o₅ o₆) = tells_security x (security_told o₁ o₂ o₃ o₄ o₅ o₆)
call_of (to_discovery x address nqn) = tells_discovery x (discovery_told address nqn)
call_of to_leave = leaves
call_of to_finish = finishes

same-call : (t : Handed) (s : State) (b : List ℕ) → leaves_of t s b ≡ does (call_of t) s b
unfolding begin_with tell_host tell_hfi tell_ssns tell_security tell_discovery
same-call (to_begin oem h n c d signature) s b = refl
same-call (to_host x nqn) s b = refl
same-call (to_hfi x i name told e iaid duid) s b = refl
same-call (to_ssns x address service others nqn e path) s b = refl
same-call (to_security x o₁ o₂ o₃ o₄ o₅ o₆) s b = refl
same-call (to_discovery x address nqn) s b = refl
same-call to_leave s b = refl
same-call to_finish s b = refl

proper : (t : Handed) → Typed t → Proper (call_of t)
unfolding host hfi ssns security discovery info extended hfi_extended host_told identity_told info_told hfi_told path_told ssns_told security_told discovery_told
proper (to_begin oem h n c d signature) z = z
proper (to_host x nqn) z = (z, tt)
proper (to_hfi x i name true e iaid duid) z = (z.0, (z.1, (z.2, tt, tt), tt))
proper (to_hfi x i name false e iaid duid) z = (z.0, (z.1, tt, tt))
proper (to_ssns x address service others nqn e path) z = (z.0, (z.1, tt, tt))
proper (to_security x o₁ o₂ o₃ o₄ o₅ o₆) z = (z, tt)
proper (to_discovery x address nqn) z = (z, tt)
proper to_leave z = tt
proper to_finish z = tt

-- a run of calls: state and buffer as the code leaves them, and what the done ones told
abbrev pub after_call : Build → Handed → Build
after_call x t =
    let o = leaves_of t x.state x.buffer in
    record { state = o.step.state; buffer = o.buffer; told = pick (eqb o.step.answer.number 0) (tells (call_of t) x.state x.told) x.told }

unfoldable pub run_calls : Build → List Handed → Build
run_calls x [] = x
run_calls x (t ∷ ts) = run_calls (after_call x t) ts

abbrev pub AllTyped : List Handed → Type 0
AllTyped [] = Unit {0}
AllTyped (t ∷ ts) = Typed t × AllTyped ts

calls_of : List Handed → List Call
calls_of [] = []
calls_of (t ∷ ts) = call_of t ∷ calls_of ts

all-proper : (ts : List Handed) → AllTyped ts → AllProper (calls_of ts)
unfolding calls_of
all-proper [] z = tt
all-proper (t ∷ ts) z = (proper t z.0, all-proper ts z.1)

same_step : (x : Build) (t : Handed) → after_call x t ≡ after x (call_of t)
unfolding after
same_step x t =
    ap (λ (o : Outcome). record {
      state = o.step.state;
      buffer = o.buffer;
      told = pick (eqb o.step.answer.number 0) (tells (call_of t) x.state x.told) x.told;
    }) (same-call t x.state x.buffer)

same-run : (x : Build) (ts : List Handed) → run_calls x ts ≡ run x (calls_of ts)
unfolding run_calls run calls_of
same-run x [] = refl
same-run x (t ∷ ts) = ap (λ (y : Build). run_calls y ts) (same_step x t) ∙ same-run (after x (call_of t)) ts

-- begun from the empty state, in a buffer that nobody else wrote to: a run that ends in a done finish has left the one form of what was told, accepted, with that meaning
pub built-by-calls : (buf : List ℕ) (m : Meaning) (ts : List Handed) → AllTyped ts → let x = run_calls (record { state = empty; buffer = buf; told = m }) ts in
    x.state.turn ≡ finished → Closed buf x.state x.buffer x.told
built-by-calls buf m ts z e =
    let r = same-run (record { state = empty; buffer = buf; told = m }) ts in
    subst (λ (x : Build). Closed buf x.state x.buffer x.told) (sym r) (built buf m (calls_of ts) (all-proper ts z) (sym (ap (λ (x : Build). x.state.turn) r) ∙ e))

-- the state that a done begin returns is one that its next call, the host's, takes
pub begin-taken : (s : State) (b oem : List ℕ) (h n c d : ℕ) (signature : List ℕ) → let o = leaves_of (to_begin oem h n c d signature) s b in
    o.step.answer.number ≡ 0 → waits o.step.state 2 ≡ true
unfolding begin_with
begin-taken s b oem h n c d signature = begin-waits s b oem h n c d (header_told signature)

-- the state that a done call for a record, or for an unused position, returns is one that its next call takes
pub next-taken : (s : State) (k n : ℕ) (newer : Bool) → waits s k ≡ true → s.used + n ≤ 65536 → waits (next s n newer) (next s n newer).turn ≡ true
next-taken = next-waits

-- the state that a done finish returns is one that no call takes: each is 15, whatever is handed to it
pub finish-taken : (s : State) (b : List ℕ) → (leaves_of to_finish s b).step.answer.number ≡ 0
    → (t : Handed) (b' : List ℕ) → (leaves_of t (leaves_of to_finish s b).step.state b').step.answer ≡ answer 15 0 0
finish-taken s b e t b' = ap (λ (o : Outcome). o.step.answer) (same-call t (finish s b).step.state b') ∙ finished-refuses s b e (call_of t) b'
