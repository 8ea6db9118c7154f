-- What a meaning says of a record by its kind and position, heap records included, and what the object call reads of it. Definitions only.
use Rattle.std.specs.Prelude.{◌≡◌, refl, Bool, true, false, List, [], ◌∷◌, ℕ, suc, get_or, eqb}
use Rattle.table.specs.declared.Need.{Need}
use Rattle.table.specs.Layout.{Body, Content, Entry, Layout, Refs, Slots, bytes, gone, more, nest, plain, rec, unused, used}
use Rattle.table.specs.FixedLayouts.{discovery, extended, hfi, hfi_extended, host, info, list_kinds, security, ssns}
use Rattle.table.specs.Rules.{done}
use Rattle.table.specs.Meaning.{Meaning}
use Rattle.table.specs.Reads.{read_object, read_place}
use Rattle.table.specs.Builder.{told_image, told_slots}
use Rattle.laws.specs.Runs.{Call, tells_discovery, tells_hfi, tells_host, tells_security, tells_ssns}

-- ---- heap records

-- Of some references the one at p is to a heap record of kind h; those before it are to plain objects
pub data Nests (p : ℕ) (h : Layout) : Refs → Type 0 where
  here : {need : List ℕ → Need} {rest : Refs} → Nests p h (nest p need h.shape h.refs rest)
  past : {p' : ℕ} {need : List ℕ → Need} {content : Content} {rest : Refs} → eqb p p' ≡ false → Nests p h rest → Nests p h (plain p' need content rest)

-- What stands there: nothing, or a record with its objects
pub data Held (h : Layout) : Type 0 where
  lacking : Held h
  holding : List ℕ → Slots h.refs → Held h

unfoldable pub held_at : {p : ℕ} {h : Layout} {rs : Refs} → Nests p h rs → Slots rs → Held h
held_at here (gone ss) = lacking
held_at here (rec x own ss) = holding x own
held_at (past e w) (bytes b ss) = held_at w ss

-- a heap record as it is told at position n, as it is kept
unfoldable pub told_held : {h : Layout} → ℕ → Held h → Held h
told_held n lacking = lacking
told_held {h} n (holding x own) = let y = told_image h.shape n x in holding y (told_slots n y own)

-- Which kinds have one: the record of kind k and layout l at its reference p one of kind k' and layout h
pub data Inner : (k : ℕ) (l : Layout) (p : ℕ) (h : Layout) (k' : ℕ) → Type 0 where
  info_of : Inner 3 hfi 16 info 7
  extended_of : Inner 4 ssns 60 extended 9
  identity_of : Inner 7 info 110 hfi_extended 10

unfoldable pub nests_in : {k p k' : ℕ} {l h : Layout} → Inner k l p h k' → Nests p h l.refs
unfolding hfi ssns info
nests_in info_of = here
nests_in extended_of = past refl (past refl (past refl (past refl here)))
nests_in identity_of = past refl here

-- ---- records

abbrev pub hfis_of : Body list_kinds → List (Entry hfi)
hfis_of (more hs rest) = hs

abbrev pub ssns_of : Body list_kinds → List (Entry ssns)
ssns_of (more hs (more ns rest)) = ns

abbrev pub securities_of : Body list_kinds → List (Entry security)
securities_of (more hs (more ns (more cs rest))) = cs

abbrev pub discoveries_of : Body list_kinds → List (Entry discovery)
discoveries_of (more hs (more ns (more cs (more ds rest)))) = ds

-- m says that the record of kind k at position n is used: its layout, its image and its objects. A heap record has its owner's position
pub data Says (m : Meaning) : (k n : ℕ) (l : Layout) → List ℕ → Slots l.refs → Type 0 where
  of_host : {img : List ℕ} {ss : Slots host.refs} → m.owner ≡ used img ss → Says m 2 0 host img ss
  of_hfi : {i : ℕ} {img : List ℕ} {ss : Slots hfi.refs} → get_or (hfis_of m.lists) i unused ≡ used img ss → Says m 3 (suc i) hfi img ss
  of_ssns : {i : ℕ} {img : List ℕ} {ss : Slots ssns.refs} → get_or (ssns_of m.lists) i unused ≡ used img ss → Says m 4 (suc i) ssns img ss
  of_security : {i : ℕ} {img : List ℕ} {ss : Slots security.refs} → get_or (securities_of m.lists) i unused ≡ used img ss → Says m 5 (suc i) security img ss
  of_discovery : {i : ℕ} {img : List ℕ} {ss : Slots discovery.refs} → get_or (discoveries_of m.lists) i unused ≡ used img ss → Says m 6 (suc i) discovery img ss
  of_inner : {k n p k' : ℕ} {l h : Layout} {img x : List ℕ} {ss : Slots l.refs} {own : Slots h.refs} (i : Inner k l p h k') → Says m k n l img ss
      → held_at (nests_in i) ss ≡ holding x own → Says m k' n h x own

-- the same in the words of the caller, who told the record's bytes x and its objects: text without its terminator
abbrev pub Tells : Meaning → (k n : ℕ) (l : Layout) → List ℕ → Slots l.refs → Type 0
Tells m k n l x told = let img = told_image l.shape n x in Says m k n l img (told_slots n img told)

-- ---- what is read

abbrev pub is_there : List ℕ → Bool
is_there [] = false
is_there (b ∷ bs) = true

-- the object call answers done, hands back these bytes, and says whether the object is present
pub record Reads (t : List ℕ) (k n q : ℕ) (object : List ℕ) (there : Bool) : Type 0 where
  pub answered : (read_place t k n q).answer ≡ done
  pub bytes_are : read_object t k n q ≡ object
  pub present_is : (read_place t k n q).present ≡ there

-- ---- calls

-- A call that tells a record: its kind and layout, the bytes told and the objects
pub data TellsOf : Call → ℕ → (l : Layout) → List ℕ → Slots l.refs → Type 0 where
  host_call : {x : List ℕ} {told : Slots host.refs} → TellsOf (tells_host x told) 2 host x told
  hfi_call : {x : List ℕ} {told : Slots hfi.refs} → TellsOf (tells_hfi x told) 3 hfi x told
  ssns_call : {x : List ℕ} {told : Slots ssns.refs} → TellsOf (tells_ssns x told) 4 ssns x told
  security_call : {x : List ℕ} {told : Slots security.refs} → TellsOf (tells_security x told) 5 security x told
  discovery_call : {x : List ℕ} {told : Slots discovery.refs} → TellsOf (tells_discovery x told) 6 discovery x told
