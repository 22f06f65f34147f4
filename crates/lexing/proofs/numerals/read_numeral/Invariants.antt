-- The token is the numeral that its value and the digits left make.
use Rattle.std.proofs.Common.{◌≡◌, ◌≤◌, drop}
use Rattle.lexing.specs.Numerals.{numeral_from, numeral_of}
use Rattle.lexing.proofs.numerals.read_numeral.Given as goal

abbrev pub invariant-loop-b : goal.invariant-loop-b
invariant-loop-b l = (l.value ≤ 65536) × (numeral_from l.value (drop l.b-index l.token) ≡ numeral_of l.token)
