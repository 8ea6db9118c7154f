use Rattle.table.specs.Rules.{first_fail}
use Rattle.table.specs.Bytes.{num, total}
use lib.ListN.{length, take, length-take}
use Prim.Native.Nat.{◌%◌, ◌≤◌}
use mathlib.Core.Path.{◌≡◌}
use Rattle.reader_frame.proofs.Laws.{staged, tests-are, size-lent}
use Rattle.reader_head.specs.Head.{head_of}
use Rattle.reader_order.specs.Judging.{size_tests}
use native.Mathlib.Omega.{arith}
use Rattle.table.proofs.Rules.{picks}
use Rattle.reader_frame.proofs.frame_fault.Goals.{After-size_fault-a, After-sum8, Else-a-ne0}
use Rattle.reader_frame.proofs.frame_fault.Goals as goal

-- what each stage found, by the bytes of the table
size : (c : After-size_fault-a)
    → let t = c.args.t.now in c.size_fault-a.result ≡ first_fail (size_tests (num t 0 4) (num t 4 4) (length t))
unfolding head_of
size c = rw c.head_of-h.ensures.0 at c.size_fault-a.ensures

-- so Length bytes are lent
lent : (c : Else-a-ne0) → c.head_of-h.result.size ≤ length c.args.t.now
unfolding head_of
lent c =
    let t = c.args.t.now in
    let e : c.size_fault-a.result ≡ first_fail (size_tests (num t 0 4) (num t 4 4) (length t)) = rw c.head_of-h.ensures.0 at c.size_fault-a.ensures in
    rw c.head_of-h.ensures.0 (size-lent (num t 0 4) (num t 4 4) (length t) (rw e at c.if-a-ne0.false))

sum : (c : After-sum8) → let t = c.args.t.now in c.sum8.result ≡ total (take (num t 4 4) t) % 256
unfolding head_of
sum c = rw c.head_of-h.ensures.0 at c.sum8.ensures

pub returns-then-t-lt-SHORTEST : goal.returns-then-t-lt-SHORTEST
unfolding staged
returns-then-t-lt-SHORTEST c = rw (← tests-are c.args.t.now) (search (picks, c.refuse.ensures))

pub returns-then-a-ne0 : goal.returns-then-a-ne0
unfolding staged
returns-then-a-ne0 c = rw (← tests-are c.args.t.now, ← size (goal.at.returns-then-a-ne0 c).After-size_fault-a) (search picks)

pub slice_bounds-sum8-end : goal.slice_bounds-sum8-end
slice_bounds-sum8-end c = let z = lent (goal.at.slice_bounds-sum8-end c).Else-a-ne0 in simp length-take (omega arith)

pub returns-then-sum8-ne0 : goal.returns-then-sum8-ne0
unfolding staged
returns-then-sum8-ne0 c = rw (← tests-are c.args.t.now, ← size (goal.at.returns-then-sum8-ne0 c).After-size_fault-a, ← sum (goal.at.returns-then-sum8-ne0 c).After-sum8) (search picks)

pub returns : goal.returns
unfolding staged
returns c =
    rw (← tests-are c.args.t.now, ← size (goal.at.returns c).After-size_fault-a, ← sum (goal.at.returns c).After-sum8, ← c.head_of-h.ensures.0) (search (picks, c.head_fault.ensures))
