use Rattle.std.proofs.Common.{◌≡◌, ◌++◌, ◌+◌, ◌*◌, ◌≤◌, length, take, drop}
use Rattle.text_addresses.specs.Addresses.{groups, behind_colons}
use Rattle.text_addresses.proofs.put_next_groups.Given as goal

abbrev pub invariant-loop-i : goal.invariant-loop-i
invariant-loop-i l =
    (length l.text + 5 * l.from ≤ length l.initial.text + 5 * l.i)
    × (l.text ++ behind_colons (drop l.i (take l.to (groups l.b)))
    ≡ l.initial.text ++ behind_colons (drop l.from (take l.to (groups l.b))))
