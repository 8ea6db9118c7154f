-- The calls that are told a record, by what they are told: its bytes, and its objects in the order of its references. Definitions only.
use Rattle.std.specs.Prelude.{Bool, List, ℕ}
use Rattle.table.specs.declared.State.{State}
use Rattle.table.specs.Bytes.{pick}
use Rattle.table.specs.Layout.{Slots, nil, bytes, gone, rec}
use Rattle.table.specs.FixedLayouts.{host, hfi, ssns, security, discovery, info, extended, hfi_extended}
use Rattle.table.specs.Builder.{Outcome, fill}

unfoldable pub host_told : List ℕ → Slots host.refs
unfolding host
host_told nqn = bytes nqn nil

unfoldable pub tell_host : State → (buffer told nqn : List ℕ) → Outcome
tell_host s buffer told nqn = fill host s buffer told (host_told nqn)

-- the objects of the HFI extended info
unfoldable pub identity_told : (iaid duid : List ℕ) → Slots hfi_extended.refs
unfolding hfi_extended
identity_told iaid duid = bytes iaid (bytes duid nil)

-- what the transport info names: the host name, and its HFI extended info where one is told
unfoldable pub info_told : (name : List ℕ) (told : Bool) (extended iaid duid : List ℕ) → Slots info.refs
unfolding info
info_told name told extended iaid duid = bytes name (pick told (rec extended (identity_told iaid duid) nil) (gone nil))

-- own is the transport info
unfoldable pub hfi_told : (own name : List ℕ) (told : Bool) (extended iaid duid : List ℕ) → Slots hfi.refs
unfolding hfi
hfi_told own name told extended iaid duid = rec own (info_told name told extended iaid duid) nil

unfoldable pub tell_hfi : State → (buffer x own name : List ℕ) (told : Bool) (extended iaid duid : List ℕ) → Outcome
tell_hfi s buffer x own name told extended iaid duid = fill hfi s buffer x (hfi_told own name told extended iaid duid)

-- the object of the extended info
unfoldable pub path_told : List ℕ → Slots extended.refs
unfolding extended
path_told path = bytes path nil

-- own is the extended info, whose object is the DHCP root path
unfoldable pub ssns_told : (address service others nqn own path : List ℕ) → Slots ssns.refs
unfolding ssns extended
ssns_told address service others nqn own path = bytes address (bytes service (bytes others (bytes nqn (rec own (path_told path) nil))))

unfoldable pub tell_ssns : State → (buffer told address service others nqn own path : List ℕ) → Outcome
tell_ssns s buffer told address service others nqn own path = fill ssns s buffer told (ssns_told address service others nqn own path)

unfoldable pub security_told : (algorithms protocols ciphers groups hashes keypath : List ℕ) → Slots security.refs
unfolding security
security_told algorithms protocols ciphers groups hashes keypath = bytes algorithms (bytes protocols (bytes ciphers (bytes groups (bytes hashes (bytes keypath nil)))))

unfoldable pub tell_security : State → (buffer told algorithms protocols ciphers groups hashes keypath : List ℕ) → Outcome
tell_security s buffer told algorithms protocols ciphers groups hashes keypath = fill security s buffer told (security_told algorithms protocols ciphers groups hashes keypath)

unfoldable pub discovery_told : (address nqn : List ℕ) → Slots discovery.refs
unfolding discovery
discovery_told address nqn = bytes address (bytes nqn nil)

unfoldable pub tell_discovery : State → (buffer told address nqn : List ℕ) → Outcome
tell_discovery s buffer told address nqn = fill discovery s buffer told (discovery_told address nqn)
