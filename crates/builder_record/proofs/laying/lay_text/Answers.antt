use mathlib.Core.Path.{sym, ap, ◌∙◌}
use mathlib.Core.List.{List, [], ◌∷◌}
use Prim.Native.Nat.{ℕ, ◌+◌, ◌≤◌}
use native.Mathlib.Omega.{arith}
use lib.ListN.{length}
use Rattle.table.specs.Bytes.{splice}
use Rattle.bytes_writer.proofs.StoreLaws.{splice-join}
use Rattle.builder_record.proofs.LayLaws.{text-none, text-some, text-long}
use Rattle.builder_record.proofs.laying.lay_text.Goals as goal

pub returns-then-len-eq0 : goal.returns-then-len-eq0
returns-then-len-eq0 c =
    let a = c.args in
    text-none a.object.now c.if-len-eq0.true a.out.now a.at

pub copy_into-requires : goal.copy_into-requires
copy_into-requires c =
    omega (arith, c.requires, text-long c.args.object.now c.if-len-eq0.false)

pub put_u8-requires : goal.put_u8-requires
put_u8-requires c =
    omega (arith, c.requires, text-long c.args.object.now c.if-len-eq0.false, c.copy_into.auto.out)

pub returns : goal.returns
returns c =
    let a = c.args in
    let here = c.if-len-eq0.false in
    let room : a.at + length a.object.now ≤ length a.out.now = omega (arith, c.requires, text-long a.object.now here) in
    c.put_u8.ensures ∙ ap (λ (t : List ℕ). splice t (a.at + length a.object.now) (0 ∷ [])) c.copy_into.ensures
    ∙ splice-join a.out.now a.at a.object.now (0 ∷ []) room
    ∙ ap (splice a.out.now a.at) (sym (text-some a.object.now here))
