use Rattle.table.specs.Meaning.{limit}
use Rattle.text.specs.Numerals.{digits_of, numeral}
use Rattle.text_answers.specs.Words.{meaning_of}
use native.Mathlib.Omega.{arith}
use lib.Dec.{lit≤}
use Rattle.text.proofs.Laws.{longer-by}
use borrow.Author.Tests.{ne_eqb}
use Rattle.text_answers.proofs.put_meaning.Goals as goal

pub returns-in-0 : goal.returns-in-0
unfolding meaning_of
returns-in-0 c = (longer-by _ _ 69 c.append.ensures (lit≤ tt), rw c.in-0.is c.append.ensures)

pub returns-in-1 : goal.returns-in-1
unfolding meaning_of
returns-in-1 c = (longer-by _ _ 69 c.append-in-1.ensures (lit≤ tt), rw c.in-1.is c.append-in-1.ensures)

pub returns-in-2 : goal.returns-in-2
unfolding meaning_of
returns-in-2 c = (longer-by _ _ 69 c.append-in-2.ensures (lit≤ tt), rw c.in-2.is c.append-in-2.ensures)

pub returns-in-3 : goal.returns-in-3
unfolding meaning_of
returns-in-3 c = (longer-by _ _ 69 c.append-in-3.ensures (lit≤ tt), rw c.in-3.is c.append-in-3.ensures)

pub returns-in-4 : goal.returns-in-4
unfolding meaning_of limit numeral digits_of
returns-in-4 c = (omega (arith, c.put_limit.ensures.0), rw c.in-4.is c.put_limit.ensures.1)

pub returns-in-5 : goal.returns-in-5
unfolding meaning_of
returns-in-5 c = (longer-by _ _ 69 c.append-in-5.ensures (lit≤ tt), rw c.in-5.is c.append-in-5.ensures)

pub returns-in-6 : goal.returns-in-6
unfolding meaning_of
returns-in-6 c = (longer-by _ _ 69 c.append-in-6.ensures (lit≤ tt), rw c.in-6.is c.append-in-6.ensures)

pub returns-in-7 : goal.returns-in-7
unfolding meaning_of
returns-in-7 c = (longer-by _ _ 69 c.append-in-7.ensures (lit≤ tt), rw c.in-7.is c.append-in-7.ensures)

pub returns-in-8 : goal.returns-in-8
unfolding meaning_of
returns-in-8 c = (longer-by _ _ 69 c.append-in-8.ensures (lit≤ tt), rw c.in-8.is c.append-in-8.ensures)

pub returns-in-9 : goal.returns-in-9
unfolding meaning_of
returns-in-9 c = (longer-by _ _ 69 c.append-in-9.ensures (lit≤ tt), rw c.in-9.is c.append-in-9.ensures)

pub returns-in-10 : goal.returns-in-10
unfolding meaning_of
returns-in-10 c = (longer-by _ _ 69 c.append-in-10.ensures (lit≤ tt), rw c.in-10.is c.append-in-10.ensures)

pub returns-in-11 : goal.returns-in-11
unfolding meaning_of
returns-in-11 c = (longer-by _ _ 69 c.append-in-11.ensures (lit≤ tt), rw c.in-11.is c.append-in-11.ensures)

pub returns-in-12 : goal.returns-in-12
unfolding meaning_of
returns-in-12 c = (longer-by _ _ 69 c.append-in-12.ensures (lit≤ tt), rw c.in-12.is c.append-in-12.ensures)

pub returns-in-13 : goal.returns-in-13
unfolding meaning_of
returns-in-13 c = (longer-by _ _ 69 c.append-in-13.ensures (lit≤ tt), rw c.in-13.is c.append-in-13.ensures)

pub returns-in-14 : goal.returns-in-14
unfolding meaning_of
returns-in-14 c = (longer-by _ _ 69 c.append-in-14.ensures (lit≤ tt), rw c.in-14.is c.append-in-14.ensures)

pub returns-in-15 : goal.returns-in-15
unfolding meaning_of
returns-in-15 c = (longer-by _ _ 69 c.append-in-15.ensures (lit≤ tt), rw c.in-15.is c.append-in-15.ensures)

pub returns-in-16 : goal.returns-in-16
unfolding meaning_of
returns-in-16 c = (longer-by _ _ 69 c.append-in-16.ensures (lit≤ tt), rw c.in-16.is c.append-in-16.ensures)

pub returns-in-17 : goal.returns-in-17
unfolding meaning_of limit numeral digits_of
returns-in-17 c = (omega (arith, c.put_limit-in-17.ensures.0), rw c.in-17.is c.put_limit-in-17.ensures.1)

pub returns-in-18 : goal.returns-in-18
unfolding meaning_of
returns-in-18 c = (longer-by _ _ 69 c.append-in-18.ensures (lit≤ tt), rw c.in-18.is c.append-in-18.ensures)

pub returns-in-19 : goal.returns-in-19
unfolding meaning_of
returns-in-19 c = (longer-by _ _ 69 c.append-in-19.ensures (lit≤ tt), rw c.in-19.is c.append-in-19.ensures)

pub returns-in-20 : goal.returns-in-20
unfolding meaning_of
returns-in-20 c = (longer-by _ _ 69 c.append-in-20.ensures (lit≤ tt), rw c.in-20.is c.append-in-20.ensures)

pub returns-in_default : goal.returns-in_default
unfolding meaning_of
returns-in_default c = (longer-by _ _ 69 c.append-in_default.ensures (lit≤ tt), search (ne_eqb, c.append-in_default.ensures))
