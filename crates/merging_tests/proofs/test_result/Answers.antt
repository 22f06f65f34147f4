-- The tests in their order; behind that of the states the table's length can be computed.
use mathlib.Core.Path.{sym}
use native.Mathlib.Omega.{arith}
use Rattle.merging_tests.proofs.Tests.{too_many, no_table, no-marks, result_fits}
use Rattle.merging_tests.proofs.test_result.Goals as goal

pub returns-then-states-gt4 : goal.returns-then-states-gt4
returns-then-states-gt4 c = let args = c.args in sym (too_many args.symbols args.states args.table_room args.marks_room (omega arith))

pub returns-then-table_room-table_length : goal.returns-then-table_room-table_length
returns-then-table_room-table_length c = let args = c.args in sym (no_table args.symbols args.states args.table_room args.marks_room (omega arith) (omega arith))

pub returns-then-marks_room-states : goal.returns-then-marks_room-states
returns-then-marks_room-states c = let args = c.args in sym (no-marks args.symbols args.states args.table_room args.marks_room (omega arith) (omega arith) (omega arith))

pub returns : goal.returns
returns c = let args = c.args in sym (result_fits args.symbols args.states args.table_room args.marks_room (omega arith) (omega arith) (omega arith))
