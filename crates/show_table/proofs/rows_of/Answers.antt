use mathlib.Core.Path.{refl}
use Rattle.show_table.specs.Shown.{end_of, first_of, lines_of}
use Rattle.table.proofs.Rules.{picks}
use Rattle.show_table.proofs.rows_of.Goals as goal

pub returns-in-0 : goal.returns-in-0
unfolding end_of first_of lines_of
returns-in-0 c = (rw c.in-0.is refl, rw c.in-0.is refl)

pub returns-in-1 : goal.returns-in-1
unfolding end_of first_of lines_of
returns-in-1 c = (rw c.in-1.is refl, rw c.in-1.is refl)

pub returns-in-2 : goal.returns-in-2
unfolding end_of first_of lines_of
returns-in-2 c = (rw c.in-2.is refl, rw c.in-2.is refl)

pub returns-in-3 : goal.returns-in-3
unfolding end_of first_of lines_of
returns-in-3 c = (rw c.in-3.is refl, rw c.in-3.is refl)

pub returns-in-4 : goal.returns-in-4
unfolding end_of first_of lines_of
returns-in-4 c = (rw c.in-4.is refl, rw c.in-4.is refl)

pub returns-in-5 : goal.returns-in-5
unfolding end_of first_of lines_of
returns-in-5 c = (rw c.in-5.is refl, rw c.in-5.is refl)

pub returns-in-6 : goal.returns-in-6
unfolding end_of first_of lines_of
returns-in-6 c = (rw c.in-6.is refl, rw c.in-6.is refl)

pub returns-in_default : goal.returns-in_default
unfolding end_of first_of lines_of
returns-in_default c = (search picks, search picks)
