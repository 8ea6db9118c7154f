use mathlib.Core.Path.{sym, ap, ◌∙◌}
use Prim.Native.Nat.{ℕ, ◌+◌}
use lib.Dec.{lit<}
use Rattle.table.specs.declared.Region.{Region}
use Rattle.table.specs.Bytes.{num}
use Rattle.std.specs.Prelude.{Option}
use Rattle.reads_seats.specs.declared.seats.Seat.{Seat}
use Rattle.reads_seats.specs.Seats.{nest_at}
use Rattle.closer_sites.specs.Walk.{len_at}
use Rattle.closer_sites.proofs.Laws.{held-len, len_of}
use Rattle.closer_sites.proofs.held_len.Goals as goal

pub returns-in-None : goal.returns-in-None
returns-in-None c =
    let a = c.args in
    let n = num a.t.now (a.at + nest_at a.kind + 4) 2 in (
      sym (ap (len_at a.t.now a.kind a.at) c.requires.1
          ∙ sym (held-len a.t.now a.kind a.at)
          ∙ ap (λ (x : Option Seat). len_of x n) (sym c.heap_record.ensures ∙ c.in-None.is)),
      lit< tt,
    )

pub returns-in-Some : goal.returns-in-Some
returns-in-Some c =
    let a = c.args in
    let n = num a.t.now (a.at + nest_at a.kind + 4) 2 in (
      ap (λ (r : Region). r.len) c.reference_at.ensures.0
          ∙ ap (λ (q : ℕ). num a.t.now (a.at + q + 4) 2) c.requires.1
          ∙ ap (λ (x : Option Seat). len_of x n) (sym c.in-Some.is ∙ c.heap_record.ensures)
          ∙ held-len a.t.now a.kind a.at
          ∙ ap (len_at a.t.now a.kind a.at) (sym c.requires.1),
      c.reference_at.ensures.2,
    )
