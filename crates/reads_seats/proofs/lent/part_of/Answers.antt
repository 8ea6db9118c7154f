use native.Mathlib.Omega.{arith}
use native.Mathlib.Nat.{add-sub_cancel_left, add-sub_cancel}
use borrow.Author.Rules.{rules}
use Rattle.reads_seats.proofs.lent.part_of.Goals as goal

pub returns : goal.returns
returns c = (search (add-sub_cancel_left, add-sub_cancel), search rules, omega arith)
