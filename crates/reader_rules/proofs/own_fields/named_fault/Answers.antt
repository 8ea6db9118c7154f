use native.Mathlib.Omega.{arith}
use Prim.Native.Nat.{ℕ, ◌<◌}
use mathlib.Core.Path.{◌≡◌, ◌∙◌}
use lib.ListN.{get_or, length}
use Rattle.reader_rules.proofs.OwnFieldLaws.{at-least, host-named, hfi-named, ssns-named, security-named, discovery-named}
use Rattle.reader_rules.proofs.own_fields.named_fault.Goals.{in-2, in-3, in-4, in-5, in_default}
use Rattle.reader_rules.proofs.own_fields.named_fault.Goals as goal

pub bounds-t-a : goal.bounds-t-a
bounds-t-a c = omega (arith, at-least c.args.kind c.args.a (length c.args.t.now) c.requires.0 c.requires.1 c.requires.2)

pub bounds-t-a-in-3 : goal.bounds-t-a-in-3
bounds-t-a-in-3 c = omega (arith, at-least c.args.kind c.args.a (length c.args.t.now) c.requires.0 c.requires.1 c.requires.2)

pub bounds-t-a-in-4 : goal.bounds-t-a-in-4
bounds-t-a-in-4 c = omega (arith, at-least c.args.kind c.args.a (length c.args.t.now) c.requires.0 c.requires.1 c.requires.2)

pub u16_at-requires : goal.u16_at-requires
u16_at-requires c = omega (arith, at-least c.args.kind c.args.a (length c.args.t.now) c.requires.0 c.requires.1 c.requires.2)

pub bounds-t-a-in-5 : goal.bounds-t-a-in-5
bounds-t-a-in-5 c = omega (arith, at-least c.args.kind c.args.a (length c.args.t.now) c.requires.0 c.requires.1 c.requires.2)

pub bounds-t-a-in_default : goal.bounds-t-a-in_default
bounds-t-a-in_default c = omega (arith, at-least c.args.kind c.args.a (length c.args.t.now) c.requires.0 c.requires.1 c.requires.2)

pub bounds-t-a-2 : goal.bounds-t-a-2
bounds-t-a-2 c = omega (arith, at-least c.args.kind c.args.a (length c.args.t.now) c.requires.0 c.requires.1 c.requires.2)

pub returns : goal.returns
returns c =
    let a = c.args in
    let t = a.t.now in
    let b : (i : ℕ) → get_or t i 0 < 256 = λ i. omega (arith, c.type_inv.t i) in
    elim c.match-kind.branch [
      | in-2 w ↦ rw w.in-2.is ((rw (w.in-2.is, w.transport-is) at c.named.ensures) ∙ host-named t a.a a.position b)
      | in-3 w ↦ rw w.in-3.is ((rw (w.in-3.is, w.transport-is, w.from.ensures) at c.named.ensures) ∙ hfi-named t a.a a.position b)
      | in-4 w ↦ rw w.in-4.is ((rw (w.in-4.is, w.transport-is, w.u16_at.ensures.0) at c.named.ensures) ∙ ssns-named t a.a a.position b)
      | in-5 w ↦ rw w.in-5.is ((rw (w.in-5.is, w.transport-is, w.from-in-5.ensures) at c.named.ensures) ∙ security-named t a.a a.position b)
      | in_default w ↦
          let k : a.kind ≡ 6 = omega (arith, c.requires.0, c.requires.1) in
          rw k ((rw (k, w.transport-is, w.from-in_default.ensures) at c.named.ensures) ∙ discovery-named t a.a a.position b)
    ]
