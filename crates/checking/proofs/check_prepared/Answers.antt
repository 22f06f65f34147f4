-- The rows that stand fit the buffers; what is after them is cleared.
use Rattle.std.proofs.Common.{arith}
use Rattle.checking.proofs.Ending.{stands, ended_gives}
use Rattle.checking.proofs.check_prepared.Goals as goal

pub rows_standing-standing-requires : goal.rows_standing-standing-requires
rows_standing-standing-requires c = let listed = c.list_kinds-ended in let s = stands _ _ _ _ listed.result listed.ensures in omega (arith, s.few, s.fits)

pub clear_behind-requires : goal.clear_behind-requires
clear_behind-requires c =
    let listed = c.list_kinds-ended in
    let s = stands _ _ _ _ listed.result listed.ensures in
    let e = c.rows_standing-standing.ensures in
    (omega (arith, s.row_room, s.fits), omega (arith, s.word_room, s.fits))

pub returns : goal.returns
returns c =
    let listed = c.list_kinds-ended in
    ended_gives _ _ _ _ listed.result listed.ensures _ c.rows_standing-standing.ensures _ _ c.clear_behind.ensures.0 c.clear_behind.ensures.1 _ c.answer_after.ensures
