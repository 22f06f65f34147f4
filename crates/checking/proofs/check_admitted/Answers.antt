-- There is room for what is prepared of a contract whose tables are short, or of any.
use Rattle.std.proofs.Common.{arith}
use Rattle.preparing.specs.Packing.{short, room_enough}
use Rattle.checking.proofs.check_admitted.Goals as goal

pub table_length-requires : goal.table_length-requires
table_length-requires c = short _ c.requires.0

pub check_in-requires-2-clause-room : goal.check_in-requires-2-clause-room
check_in-requires-2-clause-room c = (c.requires.0, omega (arith, room_enough _ c.requires.0), omega arith)
