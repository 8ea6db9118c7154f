use Rattle.reader_rules.proofs.OwnFieldLaws.{right_is}
use Rattle.table.proofs.Rules.{picks}
use Rattle.reader_rules.proofs.own_fields.right_fault.Goals as goal

pub returns-then-fault-ne0 : goal.returns-then-fault-ne0
returns-then-fault-ne0 c =
    rw (
      ← right_is c.args.kind c.args.t.now c.args.a c.args.position,
      ← c.named_fault-fault.ensures,
    ) (search picks)

pub returns-then-pairs_right : goal.returns-then-pairs_right
returns-then-pairs_right c =
    rw (
      ← right_is c.args.kind c.args.t.now c.args.a c.args.position,
      ← c.named_fault-fault.ensures,
      ← c.pairs_right.ensures,
      c.if-pairs_right.true,
    ) (search picks)

pub returns-else-pairs_right : goal.returns-else-pairs_right
returns-else-pairs_right c =
    rw (
      ← right_is c.args.kind c.args.t.now c.args.a c.args.position,
      ← c.named_fault-fault.ensures,
      ← c.pairs_right.ensures,
      c.if-pairs_right.false,
    ) (search picks)
