use Rattle.text_answers.specs.Words.{kind_of}
use native.Mathlib.Omega.{arith}
use lib.Dec.{lit≤}
use Rattle.text.proofs.Laws.{longer-by}
use Rattle.text.proofs.Rules.{picks}
use Rattle.text_answers.proofs.put_kind.Goals as goal

pub returns-in-0 : goal.returns-in-0
unfolding kind_of
returns-in-0 c = (longer-by _ _ 21 c.append.ensures (lit≤ tt), rw c.in-0.is c.append.ensures)

pub returns-in-1 : goal.returns-in-1
unfolding kind_of
returns-in-1 c = (longer-by _ _ 21 c.append-in-1.ensures (lit≤ tt), rw c.in-1.is c.append-in-1.ensures)

pub returns-in-2 : goal.returns-in-2
unfolding kind_of
returns-in-2 c = (longer-by _ _ 21 c.append-in-2.ensures (lit≤ tt), rw c.in-2.is c.append-in-2.ensures)

pub returns-in-3 : goal.returns-in-3
unfolding kind_of
returns-in-3 c = (longer-by _ _ 21 c.append-in-3.ensures (lit≤ tt), rw c.in-3.is c.append-in-3.ensures)

pub returns-in-4 : goal.returns-in-4
unfolding kind_of
returns-in-4 c = (longer-by _ _ 21 c.append-in-4.ensures (lit≤ tt), rw c.in-4.is c.append-in-4.ensures)

pub returns-in-5 : goal.returns-in-5
unfolding kind_of
returns-in-5 c = (longer-by _ _ 21 c.append-in-5.ensures (lit≤ tt), rw c.in-5.is c.append-in-5.ensures)

pub returns-in-6 : goal.returns-in-6
unfolding kind_of
returns-in-6 c = (longer-by _ _ 21 c.append-in-6.ensures (lit≤ tt), rw c.in-6.is c.append-in-6.ensures)

pub returns-in_default : goal.returns-in_default
unfolding kind_of
returns-in_default c = (longer-by _ _ 21 c.append-in_default.ensures (lit≤ tt), search (picks, c.append-in_default.ensures))
