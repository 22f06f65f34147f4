-- By its one test, which parts 11 from 12.
use native.Mathlib.Omega.{arith}
use Rattle.reading.proofs.Verdicts.{too_long, fault_there}
use Rattle.reading.proofs.fault_of.Goals as goal

pub returns-then-place-length : goal.returns-then-place-length
returns-then-place-length c = too_long _ _ _ (omega arith) c.if-place-length.true

pub returns : goal.returns
returns c = fault_there _ _ 1023 (omega arith) c.if-place-length.false
