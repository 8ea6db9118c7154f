-- A table that the check accepts: what inner calls ask of a table. Callers use its laws, in proofs/AcceptedLaws.antt, and never its text. Definitions only.
use Rattle.std.specs.Prelude.{◌≡◌, List, ℕ}
use Rattle.table.specs.Rules.{done}
use Rattle.table.specs.Numbers.{check}

pub record Accepted (t : List ℕ) : Type 0 where
  pub good : check t ≡ done
