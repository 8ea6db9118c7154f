use mathlib.Core.Path.{◌≡◌, refl}
use native.Mathlib.Omega.{arith}
use Rattle.table.specs.Layout.{base_of}
use Rattle.table.specs.FixedLayouts.{layout_of, hfi_extended}
use Rattle.reader_heap_records.specs.HeapRecords.{own_need}
use Rattle.table.proofs.Rules.{picks}
use Rattle.reader_heap_records.proofs.own_need.Goals as goal

pub identity_need-requires : goal.identity_need-requires
unfolding layout_of hfi_extended
identity_need-requires c =
    let b : 20 ≡ base_of (layout_of c.args.kind) = rw c.in-10.is refl in
    omega (arith, b, c.requires)

pub returns-in-10 : goal.returns-in-10
unfolding own_need
returns-in-10 c = rw c.in-10.is c.identity_need.ensures

pub returns-in_default : goal.returns-in_default
unfolding own_need
returns-in_default c = search picks
