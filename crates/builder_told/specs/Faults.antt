-- The fault of a told object under the need for it. Definitions only.
use Rattle.std.specs.Prelude.{ℕ, eqb}
use Rattle.table.specs.declared.Need.{Need}
use Rattle.table.specs.declared.Need.TheVariants.{Ignored, Optional, Required}
use Rattle.table.specs.Bytes.{pick}

-- of its length, and the fault of its bytes by themselves
abbrev pub fault_under : Need → (len fault : ℕ) → ℕ
fault_under Ignored len fault = 0
fault_under Optional len fault = fault
fault_under Required len fault = pick (eqb len 0) 11 fault
