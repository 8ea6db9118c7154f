use mathlib.Core.Path.{◌≡◌, refl, ap, ◌∙◌}
use mathlib.Core.List.{List}
use Prim.Native.Nat.{ℕ, ◌+◌, ◌-◌, ◌≤◌, ◌<◌}
use native.Mathlib.Omega.{arith}
use lib.ListN.{length}
use Rattle.laws.specs.Fields.{Bytes}
use Rattle.reader.proofs.AcceptedLaws.{laid}
use Rattle.closer_sites.specs.declared.Walk.{Walk}
use Rattle.closer_sites.specs.declared.Named.{Named}
use Rattle.closer_sites.specs.Walk.{Walkable, step_of}
use Rattle.closer_sites.specs.Going.{left}
use Rattle.table.specs.Bytes.{num}
use Rattle.table.specs.Numbers.{heap_in}
use Rattle.reader_frame.specs.Bounds.{LaidOut}
use Rattle.closer_stores.proofs.TurnLaws.{Turn, put, turn_end, turn-first, turn-found, turn-length, turn-less, turn-next, turn-open, turn_step}
use Rattle.closer_stores.proofs.store_sites.Goals.{After-slice_known-1, In-loop-w}
use Rattle.closer_stores.proofs.store_sites.Goals as goal

pub u32_at-start-requires : goal.u32_at-start-requires
u32_at-start-requires c =
    omega (arith, (laid c.args.t.now c.requires.0).lent)

bytes : (c : After-slice_known-1) → Bytes c.args.t.now
bytes c i = omega (arith, c.type_inv.t i)

pub loop-w-init : goal.loop-w-init
loop-w-init c =
    (rw c.first-w.ensures (turn-first c.args.t.now c.requires.0 (bytes (goal.at.loop-w-init c).After-slice_known-1) c.requires.1), refl)

-- a turn that has not come to the end
module _ (c : In-loop-w) (b : Bytes c.args.t.now) where
  abbrev T₀ : List ℕ
  T₀ = c.args.t.now

  abbrev U : List ℕ
  U = c.loop-w.t

  abbrev W : Walk
  W = c.loop-w.w

  turn : Turn T₀ U W
  turn = c.loop-w.invariant.0

  open-still : W.list < 7
  open-still = turn-open T₀ c.requires.0 b c.requires.1 U W turn c.loop-w-test.true

  steps : LaidOut U × Walkable (length U) W
  steps = turn_step T₀ c.requires.0 b c.requires.1 U W turn open-still

  less : left (step_of U W).walk < left W
  less = turn-less T₀ c.requires.0 b c.requires.1 U W turn open-still

  wanted : let y = (step_of U W).named in
      0 < y.len → (num T₀ 36 4 ≤ y.off) × (y.off - num T₀ 36 4 ≤ (heap_in T₀).len) × (y.off < 4294967296) × (y.at + 4 ≤ length U)
  wanted = turn-found T₀ c.requires.0 b c.requires.1 U W turn open-still

  next : (v : List ℕ) → v ≡ put U c.args.map.now (num T₀ 36 4) (step_of U W).named → Turn T₀ v (step_of U W).walk
  next = turn-next T₀ c.requires.0 b c.requires.1 U W turn open-still c.args.map.now c.requires.2 c.requires.3

pub step-s-requires : goal.step-s-requires
step-s-requires c =
    let d = (goal.at.step-s-requires c).In-loop-w in
    let b = bytes (goal.at.step-s-requires c).After-slice_known-1 in
    let x = steps d b in
    (x.0, x.1, open-still d b)

pub store_found-requires : goal.store_found-requires
store_found-requires c =
    let d = (goal.at.store_found-requires c).In-loop-w in
    let b = bytes (goal.at.store_found-requires c).After-slice_known-1 in
    let e : c.step-s.result ≡ step_of c.loop-w.t c.loop-w.w = c.step-s.ensures.0 in
    let z = c.u32_at-start.ensures.0 in
    rw e (λ h. let x = wanted d b h in (omega (arith, x.0, z), omega (arith, x.1, z, c.requires.2), x.2, x.3))

pub loop-w-smaller : goal.loop-w-smaller
loop-w-smaller c =
    rw c.step-s.ensures.0 (less (goal.at.loop-w-smaller c).In-loop-w (bytes (goal.at.loop-w-smaller c).After-slice_known-1))

pub loop-w-preserved : goal.loop-w-preserved
loop-w-preserved c =
    let d = (goal.at.loop-w-preserved c).In-loop-w in
    let b = bytes (goal.at.loop-w-preserved c).After-slice_known-1 in
    let t = c.args.t.now in
    let u : List ℕ = c.loop-w.t in
    let n : List ℕ = c.store_found.new.t in
    let m : List ℕ = c.args.map.now in
    let e : c.step-s.result ≡ step_of u c.loop-w.w = c.step-s.ensures.0 in
    let y : Named = (step_of u c.loop-w.w).named in
    let r = c.u32_at-start in
    let v : n ≡ put u m r.result y = rw e at c.store_found.ensures in
    let x : Turn t n c.step-s.result.walk = rw e (next d b n (v ∙ ap (λ (k : ℕ). put u m k y) r.ensures.0)) in
    (x, turn-length t c.requires.0 b c.requires.1 n c.step-s.result.walk x)

pub returns : goal.returns
returns c =
    let l = c.loop-w in
    let p = c.requires in
    turn_end c.args.t.now p.0 (bytes (goal.at.returns c).After-slice_known-1) p.1 l.t l.w l.invariant.0 c.loop-w-test.false
