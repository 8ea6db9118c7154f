-- What is read whole of the smallest table, K1: the definitions computed. Assumes nothing.
use mathlib.Core.Bool.{◌&&◌}
use mathlib.Core.List.{[], ◌∷◌, ◌++◌}
use lib.ListN.{replicate}
use lib.Dec.{T, eqb}
use Rattle.table.specs.Bytes.{same}
use Rattle.table.specs.Layout.{image}
use Rattle.table.specs.FixedLayouts.{layout_of, control, host}
use Rattle.table.specs.Reads.{seat_of}
use Rattle.table.proofs.Samples.{k1}
use Rattle.reads_seats.specs.Told.{image_of, count_of}
use Rattle.reads_whole.specs.Whole.{rows, place_bytes, place_row, places_of, head_of, entry_of, entry_at, list_kind, first_of, many_of, left_of, number_of, kinds_to, least, records_answer, records_in}

-- the host: used, 32 bytes of image, and the NQN's one byte in front of its terminator, at 160
pub host-entry : T (same (entry_at k1 2 0) ((2 ∷ 0 ∷ 1 ∷ 32 ∷ 0 ∷ 0 ∷ 0 ∷ 0 ∷ []) ++ ((2 ∷ 1 ∷ replicate 126 0) ++ (160 ∷ 0 ∷ 0 ∷ 0 ∷ 1 ∷ 0 ∷ 1 ∷ replicate 41 0))))
unfolding entry_at entry_of head_of places_of rows place_row place_bytes seat_of layout_of host image
host-entry = tt

-- from the header on there are three records, and an output of 551 bytes has room for two; the table has no HFI
pub two-of-three : T (eqb (records_in k1 0 0 255 551).written 2 && (eqb (records_in k1 0 0 255 551).total 3 && eqb (records_in k1 3 1 3 551).answer.number 16))
unfolding records_in records_answer number_of left_of many_of first_of list_kind count_of image_of kinds_to least seat_of control image
two-of-three = tt
