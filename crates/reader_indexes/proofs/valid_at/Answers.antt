use mathlib.Core.Path.{◌∙◌}
use native.Mathlib.Omega.{arith}
use lib.Dec.{lit≤}
use Rattle.table.specs.FixedLayouts.{layout_of, hfi, ssns, security, discovery}
use Rattle.table.specs.Objects.{used_in, read_body}
use Rattle.laws.specs.ListWalk.{valid_in}
use Rattle.reader_indexes.proofs.Laws.{entry-in, valid-3, valid-4, valid-5, valid-6}
use Rattle.table.proofs.Rules.{picks}
use Rattle.reader_indexes.proofs.valid_at.Goals.{in-3, in-4, in-5, in-6}
use Rattle.reader_indexes.proofs.valid_at.Goals as goal

pub returns-in_default : goal.returns-in_default
unfolding valid_in used_in read_body hfi ssns security discovery
returns-in_default c = search picks

pub valid_in-requires : goal.valid_in-requires
unfolding layout_of hfi ssns security discovery
valid_in-requires c =
    let t = c.args.t.now in
    let f = c.flags_at.ensures in
    let h = c.requires in
    elim c.match-kind.branch [
      | in-3 w ↦ entry-in t _ 80 32 _ 2 w.entry-is (rw w.in-3.is at f) (lit≤ tt) (omega (arith, h.lent)) h.hfi
      | in-4 w ↦ entry-in t _ 88 128 _ 3 w.entry-is (rw w.in-4.is at f) (lit≤ tt) (omega (arith, h.lent)) h.ssns
      | in-5 w ↦ entry-in t _ 96 64 _ 2 w.entry-is (rw w.in-5.is at f) (lit≤ tt) (omega (arith, h.lent)) h.security
      | in-6 w ↦ entry-in t _ 104 32 _ 1 w.entry-is (rw w.in-6.is at f) (lit≤ tt) (omega (arith, h.lent)) h.discovery
    ]

pub returns : goal.returns
unfolding layout_of hfi ssns security discovery
returns c =
    let t = c.args.t.now in
    let n = c.args.n in
    let f = c.flags_at.ensures in
    let v = c.valid_in.ensures in
    elim c.match-kind.branch [
      | in-3 w ↦ rw w.in-3.is ((rw (w.entry-is, rw w.in-3.is at f) at v) ∙ valid-3 t n)
      | in-4 w ↦ rw w.in-4.is ((rw (w.entry-is, rw w.in-4.is at f) at v) ∙ valid-4 t n)
      | in-5 w ↦ rw w.in-5.is ((rw (w.entry-is, rw w.in-5.is at f) at v) ∙ valid-5 t n)
      | in-6 w ↦ rw w.in-6.is ((rw (w.entry-is, rw w.in-6.is at f) at v) ∙ valid-6 t n)
    ]
