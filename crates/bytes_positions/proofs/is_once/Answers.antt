use Rattle.std.proofs.Common.{◌≡◌, [], ◌∷◌, ◌++◌, ◌<◌, refl, arith, rules}
use Rattle.std.specs.Slice.Iter.{iter_rest}
use Rattle.std.specs.Iterator.Adapters.{rev_source}
use Rattle.bytes_positions.proofs.Laws.{marks-none, met-next, marks-more, marked-first, marked-twice}
use Rattle.bytes_positions.proofs.is_once.Goals.{After-from-value}
use Rattle.bytes_positions.proofs.is_once.Goals as goal

pub loop-byte-init : goal.loop-byte-init
loop-byte-init c =
    let whole : iter_rest (rev_source c.into_iter-byte-iterator.result) ≡ c.args.bytes.now = cc in
    (refl, ([], rw whole (search rules), marks-none, refl))

-- a turn: the byte before those that were met
turn : (c : After-from-value) → c.args.bytes.now ≡ iter_rest (rev_source c.next.new.self) ++ (c.from-value.result ∷ c.loop-byte.invariant.1.0)
turn c =
    let (marks, (behind, all, met, once)) = c.loop-byte.invariant in
    met-next c.args.bytes.now (iter_rest (rev_source c.loop-byte.byte-iterator)) (iter_rest (rev_source c.next.new.self)) behind
    c.in-Some.byte.now c.from-value.result all c.in-Some.ensures.steps c.from-value.ensures

pub returns-then-met-value : goal.returns-then-met-value
returns-then-met-value c =
    let (marks, (behind, all, met, once)) = c.loop-byte.invariant in
    marked-twice c.loop-byte.met c.from-value.result behind (omega arith) met c.args.bytes.now (iter_rest (rev_source c.next.new.self))
    (turn (goal.at.returns-then-met-value c).After-from-value) c.if-met-value.true

pub loop-byte-preserved : goal.loop-byte-preserved
loop-byte-preserved c =
    let (marks, (behind, all, met, once)) = c.loop-byte.invariant in
    let v = c.from-value.result in
    let small : v < 256 = omega arith in (
      search rules,
      (
        v ∷ behind,
        turn (goal.at.loop-byte-preserved c).After-from-value,
        marks-more c.loop-byte.met v behind small met marks,
        marked-first c.loop-byte.met v behind small met c.if-met-value.false once,
      ),
    )
