use Rattle.show_values.specs.Values.{nid_of}
use borrow.Author.Tests.{ne_eqb}
use Rattle.show_values.proofs.choices.nid_text.Goals as goal

pub returns-in-1 : goal.returns-in-1
unfolding nid_of
returns-in-1 c = rw c.in-1.is c.hexes.ensures

pub returns-in-2 : goal.returns-in-2
unfolding nid_of
returns-in-2 c = rw c.in-2.is c.hexes-in-2.ensures

pub returns-in-3 : goal.returns-in-3
unfolding nid_of
returns-in-3 c = rw c.in-3.is c.uuid.ensures

pub returns-in_default : goal.returns-in_default
unfolding nid_of
returns-in_default c = search (ne_eqb, c.new.ensures)
