-- When a reference counts, by the image of its record. Assumes nothing.
use mathlib.Core.Path.{◌≡◌, refl}
use mathlib.Core.Bool.{false}
use mathlib.Core.List.{List}
use Prim.Native.Nat.{ℕ}
use lib.Dec.{eqb}
use Rattle.table.specs.Bytes.{num}
use Rattle.table.specs.FixedLayouts.{ssns, security, info, hfi_extended}
use Rattle.table.specs.Reads.{need_at}
use Rattle.layout_needs.specs.Needs.{when_set, plain_need, ssns_need, security_need, identity_need}

pub security-need : (img : List ℕ) (q : ℕ) → security_need (num img 2 2) (num img 4 1) q ≡ need_at q security.refs img
unfolding security_need when_set security
security-need img q = refl

pub ssns-need : (img : List ℕ) (q : ℕ) → ssns_need (num img 3 2) q ≡ need_at q ssns.refs img
unfolding ssns_need when_set ssns
ssns-need img q = refl

pub identity-need : (img : List ℕ) (q : ℕ) → identity_need (num img 4 4) q ≡ need_at q hfi_extended.refs img
unfolding identity_need when_set hfi_extended
identity-need img q = refl

-- an info's objects: all but the one reference that names a record
pub info-need : (img : List ℕ) (q : ℕ) → eqb q 110 ≡ false → plain_need 7 q ≡ need_at q info.refs img
unfolding plain_need info
info-need img q e = rw e refl
