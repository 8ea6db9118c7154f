use mathlib.Core.Path.{◌≡◌, sym, ap, ◌∙◌}
use Prim.Native.Nat.{ℕ}
use lib.Dec.{eqb}
use Rattle.table.specs.FixedLayouts.{layout_of}
use Rattle.table.specs.Reads.{seat, seat_of}
use Rattle.reads_seats.specs.Seats.{as_seat}
use Rattle.reads_seats.proofs.SeatLaws.{standing}
use Rattle.reads_seats.proofs.EntryLaws.{seated-at}
use Rattle.rewriter_sizes.proofs.MinorLaws.{newer_at, newer-is}
use Rattle.rewriter_sizes.proofs.minor.is_newer.Goals as goal

pub info_version-requires : goal.info_version-requires
info_version-requires c =
    let t = c.args.t.now in
    let stands : seat_of t 7 c.args.position ≡ seat (layout_of 7) c.in-Some.seat.at c.in-Some.seat.used = sym c.seat_of.ensures ∙ ap (as_seat (layout_of 7)) c.in-Some.is in
    (c.requires, standing t (layout_of 7) c.in-Some.seat.at c.in-Some.seat.used (seated-at t c.requires 7 c.args.position c.in-Some.seat.at c.in-Some.seat.used stands))

pub returns-in-None : goal.returns-in-None
returns-in-None c =
    let t = c.args.t.now in
    sym (newer-is t c.requires c.args.position ∙ ap (newer_at t) (sym c.seat_of.ensures ∙ ap (as_seat (layout_of 7)) c.in-None.is))

pub returns-in-Some : goal.returns-in-Some
returns-in-Some c =
    let t = c.args.t.now in
    let stands : seat_of t 7 c.args.position ≡ seat (layout_of 7) c.in-Some.seat.at c.in-Some.seat.used = sym c.seat_of.ensures ∙ ap (as_seat (layout_of 7)) c.in-Some.is in
    ap (λ (n : ℕ). eqb n 2) c.info_version.ensures ∙ sym (newer-is t c.requires c.args.position ∙ ap (newer_at t) stands)
