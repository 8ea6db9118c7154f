use mathlib.Core.Path.{◌≡◌, sym, ap, ◌∙◌}
use native.Mathlib.Omega.{arith}
use Prim.Native.Nat.{◌+◌, ◌*◌}
use Rattle.closer_sites.specs.Walk.{walk}
use Rattle.closer_sites.proofs.Laws.{list-in, list-to, seat_walk}
use Rattle.closer_sites.proofs.to_listed.Goals as goal

pub list_seat-seat-requires : goal.list_seat-seat-requires
list_seat-seat-requires c =
    let w = c.args.w in
    let t = c.args.t.now in
    let e : 56 + 8 * c.wide.result ≡ 56 + 8 * w.list = omega (arith, c.wide.ensures.0) in
    (omega (arith, c.requires.1), omega (arith, c.requires.2), omega (arith, c.requires.0.lent, c.requires.2, e), rw e (list-in t c.requires.0 w.list c.requires.1 c.requires.2))

pub returns-in-None : goal.returns-in-None
returns-in-None c =
    let h = rw c.wide.ensures.0 at c.list_seat-seat.ensures.0 in
    c.walk_of.ensures ∙ ap (seat_walk c.args.w) (sym c.in-None.is) ∙ list-to c.args.t.now c.args.w c.list_seat-seat.result h

pub returns-in-Some : goal.returns-in-Some
returns-in-Some c =
    c.walk_of-in-Some.ensures
    ∙ ap (walk c.args.w.list (c.args.w.position + 1) c.args.w.list c.in-Some.there.at) c.first_of.ensures
    ∙ ap (seat_walk c.args.w) (sym c.in-Some.is)
    ∙ list-to c.args.t.now c.args.w c.list_seat-seat.result (rw c.wide.ensures.0 at c.list_seat-seat.ensures.0)
