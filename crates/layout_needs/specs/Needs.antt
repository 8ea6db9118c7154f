-- When a reference counts, by the numbers that code reads from its record. Definitions only.
use Rattle.std.specs.Prelude.{ℕ, ◌/◌, ◌%◌, eqb}
use Rattle.table.specs.declared.Need.{Need}
use Rattle.table.specs.declared.Need.TheVariants.{Ignored, Optional, Required}
use Rattle.table.specs.Bytes.{pick}

unfoldable pub when_set : ℕ → Need
when_set n = pick (eqb n 0) Ignored Required

unfoldable pub ssns_need : ℕ → ℕ → Need
ssns_need flags q =
    pick (eqb q 10) Required (pick (eqb q 16) Required (pick (eqb q 48) Optional (pick (eqb q 54) Required (pick (eqb q 60) (when_set (flags / 16 % 2)) Ignored))))

unfoldable pub security_need : ℕ → ℕ → ℕ → Need
security_need flags secret q =
    pick (eqb q 6) (when_set (flags / 128 % 4))
    (pick (eqb q 12) (when_set (flags / 8 % 4))
    (pick (eqb q 18) (when_set (flags / 512 % 2))
    (pick (eqb q 24) (when_set (flags / 1024 % 2))
    (pick (eqb q 30) (when_set (flags / 2048 % 2))
    (pick (eqb q 36) (when_set (secret / 1 % 2)) Ignored)))))

-- IAID and DUID, which count under the client identifier flag
unfoldable pub identity_need : ℕ → ℕ → Need
identity_need flags q = pick (eqb q 8) (when_set (flags / 2 % 2)) (pick (eqb q 14) (when_set (flags / 2 % 2)) Ignored)

-- kinds whose references to objects count whatever their fields say
unfoldable pub plain_need : ℕ → ℕ → Need
plain_need k q =
    pick (eqb k 2) (pick (eqb q 18) Required Ignored)
    (pick (eqb k 6) (pick (eqb q 6) Optional (pick (eqb q 12) Optional Ignored))
    (pick (eqb k 0) (pick (eqb q 44) Optional Ignored)
    (pick (eqb k 7) (pick (eqb q 104) Optional Ignored) (pick (eqb k 9) (pick (eqb q 12) Optional Ignored) Ignored))))
