-- Tests 1 to 9 in the shape of the code: over what was read, and with faults counted. proofs/Laws.antt shows that they are the tests of the definitions. Definitions only.
use Rattle.std.specs.Prelude.{◌&&◌, List, ℕ, ◌+◌, leb, eqb}
use Rattle.table.specs.Bytes.{pick, odd}
use Rattle.table.specs.Layout.{base_of}
use Rattle.table.specs.FixedLayouts.{hfi, ssns, security, discovery}
use Rattle.table.specs.Rules.{Test}
use Rattle.reader_head.specs.declared.Entry.{Entry}
use Rattle.reader_head.specs.declared.Head.{Head}
use Rattle.reader_regions.specs.Regions.{misplaced}
use Rattle.reader_order.specs.Judging.{judged}

-- ---- test 7

unfoldable pub control_wrong : Head → ℕ
control_wrong h =
    pick
    (eqb h.controlid 1
    && (eqb h.controlmajor 1 && (leb 64 h.csl && (leb (64 + h.csl) h.size && odd h.flags))))
    0 1

-- ---- test 8: record lengths

unfoldable pub too_short : Entry → ℕ → ℕ
too_short e base = pick (eqb e.count 0) 0 (pick (leb base e.step) 0 1)

unfoldable pub short_lists : Head → ℕ
short_lists h =
    too_short h.hfi (base_of hfi) + (too_short h.ssns (base_of ssns) + (too_short h.security (base_of security) + too_short h.discovery (base_of discovery)))

-- ---- test 9

unfoldable pub wrong_version : Entry → ℕ
wrong_version e = pick (eqb e.count 0) 0 (pick (eqb e.version 1) 0 1)

unfoldable pub wrong_versions : Head → ℕ
wrong_versions h = wrong_version h.hfi + (wrong_version h.ssns + (wrong_version h.security + wrong_version h.discovery))

-- ---- tests 6 to 9

unfoldable pub head_tests : Head → List Test
head_tests h = judged h.major (control_wrong h) h.host.len (short_lists h) (misplaced h) h.hostversion (wrong_versions h)
