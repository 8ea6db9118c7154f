-- Runs of the builder: calls in any order, each given the state and the buffer that the last one left, and what the done ones have told. Definitions only.
use Rattle.std.specs.Prelude.{◌≡◌, List, [], ◌∷◌, ℕ, ◌-◌, ◌<◌, length, set, eqb}
use Rattle.table.specs.declared.State.{State}
use Rattle.table.specs.Bytes.{pick}
use Rattle.table.specs.Layout.{Body, Entry, Layout, Slots, base_of, more, used}
use Rattle.table.specs.FixedLayouts.{discovery, header, hfi, host, list_kinds, security, ssns}
use Rattle.table.specs.Meaning.{Meaning}
use Rattle.table.specs.Builder.{Outcome, begin, fill, finish, leave, opened, told_image, told_slots}
use Rattle.laws.specs.ToldLaws.{SizedSlots}

-- A call with what it is told
pub data Call : Type 0 where
  opens : (oem : List ℕ) (h n c d : ℕ) (signature : Slots header.refs) → Call
  tells_host : List ℕ → Slots host.refs → Call
  tells_hfi : List ℕ → Slots hfi.refs → Call
  tells_ssns : List ℕ → Slots ssns.refs → Call
  tells_security : List ℕ → Slots security.refs → Call
  tells_discovery : List ℕ → Slots discovery.refs → Call
  leaves : Call
  finishes : Call

-- a record's bytes come in an array of its kind's size, counts are bytes
abbrev pub Sized : (l : Layout) → List ℕ → Slots l.refs → Type 0
Sized l x told = (length x ≡ base_of l) × SizedSlots told

abbrev pub Proper : Call → Type 0
Proper (opens oem h n c d signature) = (length oem ≡ 26) × (h < 256) × (n < 256) × (c < 256) × (d < 256)
Proper (tells_host x told) = Sized host x told
Proper (tells_hfi x told) = Sized hfi x told
Proper (tells_ssns x told) = Sized ssns x told
Proper (tells_security x told) = Sized security x told
Proper (tells_discovery x told) = Sized discovery x told
Proper leaves = Unit {0}
Proper finishes = Unit {0}

-- what the builder does
abbrev pub does : Call → State → List ℕ → Outcome
does (opens oem h n c d signature) s b = begin s b oem (h ∷ n ∷ c ∷ d ∷ []) signature
does (tells_host x told) s b = fill host s b x told
does (tells_hfi x told) s b = fill hfi s b x told
does (tells_ssns x told) s b = fill ssns s b x told
does (tells_security x told) s b = fill security s b x told
does (tells_discovery x told) s b = fill discovery s b x told
does leaves s b = leave s b
does finishes s b = finish s b

-- ---- what a done call tells

-- a record as told: own index, ID, version, type and valid bit set, what is reserved or ignored dropped
abbrev pub entry_of : (l : Layout) → State → List ℕ → Slots l.refs → Entry l
entry_of l s x told = let img = told_image l.shape s.position x in used img (told_slots s.position img told)

abbrev pub with_lists : Meaning → Body list_kinds → Meaning
with_lists m b = record { oem = m.oem; driver = m.driver; owner = m.owner; lists = b }

abbrev pub with_owner : Meaning → Entry host → Meaning
with_owner m e = record { oem = m.oem; driver = m.driver; owner = e; lists = m.lists }

-- position p of one of the lists
abbrev pub set_hfi : ℕ → Entry hfi → Body list_kinds → Body list_kinds
set_hfi p e (more hs rest) = more (set hs (p - 1) e) rest

abbrev pub set_ssns : ℕ → Entry ssns → Body list_kinds → Body list_kinds
set_ssns p e (more hs (more ns rest)) = more hs (more (set ns (p - 1) e) rest)

abbrev pub set_security : ℕ → Entry security → Body list_kinds → Body list_kinds
set_security p e (more hs (more ns (more cs rest))) = more hs (more ns (more (set cs (p - 1) e) rest))

abbrev pub set_discovery : ℕ → Entry discovery → Body list_kinds → Body list_kinds
set_discovery p e (more hs (more ns (more cs (more ds rest)))) = more hs (more ns (more cs (more (set ds (p - 1) e) rest)))

-- m is what was told before: begin tells of unused records only
abbrev pub tells : Call → State → Meaning → Meaning
tells (opens oem h n c d signature) s m = opened oem (h ∷ n ∷ c ∷ d ∷ []) signature
tells (tells_host x told) s m = with_owner m (entry_of host s x told)
tells (tells_hfi x told) s m = with_lists m (set_hfi s.position (entry_of hfi s x told) m.lists)
tells (tells_ssns x told) s m = with_lists m (set_ssns s.position (entry_of ssns s x told) m.lists)
tells (tells_security x told) s m = with_lists m (set_security s.position (entry_of security s x told) m.lists)
tells (tells_discovery x told) s m = with_lists m (set_discovery s.position (entry_of discovery s x told) m.lists)
tells leaves s m = m
tells finishes s m = m

-- ---- a build in progress

pub record Build : Type 0 where
  pub state : State
  pub buffer : List ℕ
  pub told : Meaning

-- one more call: a refused one tells nothing
unfoldable pub after : Build → Call → Build
after x c =
    let o = does c x.state x.buffer in
    record {
      state = o.step.state;
      buffer = o.buffer;
      told = pick (eqb o.step.answer.number 0) (tells c x.state x.told) x.told;
    }

unfoldable pub run : Build → List Call → Build
run x [] = x
run x (c ∷ cs) = run (after x c) cs

abbrev pub AllProper : List Call → Type 0
AllProper [] = Unit {0}
AllProper (c ∷ cs) = Proper c × AllProper cs
