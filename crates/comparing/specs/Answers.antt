-- The verdicts and stretches of the model that the code's answers stand for.
use Rattle.std.specs.Prelude.{Option, Some, None, Result, Ok, Err}
use Rattle.model.specs.Answers.{Verdict, fine, refused}
use Rattle.model.specs.Shorter.{Stretch, in_first, in_second, empty_stretch}
use Rattle.reading.specs.Answers.{document_verdict, fault_verdict}
use Rattle.comparing.specs.declared.ComparingFault.{ComparingFault}
use Rattle.comparing.specs.declared.ComparingFault.TheVariants as fault
use Rattle.comparing.specs.declared.Stretch as code
use Rattle.comparing.specs.declared.Stretch.TheVariants as stretch

-- "1 a symbol count out of range (place 0), 11 and 12 as in W-205 for the first buffer, then the same for the second as 54 and 55"
abbrev pub comparing_verdict : ComparingFault → Verdict
comparing_verdict fault.Symbols = refused 1 0
comparing_verdict (fault.First f) = fault_verdict f
comparing_verdict (fault.Second f) = document_verdict 54 55 f

-- what is refused
abbrev pub verdict_of : {A : Type 0} → Result A ComparingFault → Verdict
verdict_of (Ok stretch) = fine
verdict_of (Err f) = comparing_verdict f

abbrev pub stretch_of : code.Stretch → Stretch
stretch_of (stretch.First count) = in_first count
stretch_of (stretch.Second count) = in_second count

-- the stretch that comes back: the empty one where something is refused
abbrev pub stretch_compared : Result code.Stretch ComparingFault → Stretch
stretch_compared (Ok s) = stretch_of s
stretch_compared (Err f) = empty_stretch

-- "its number and place, or none"
abbrev pub refusal_verdict : Option ComparingFault → Verdict
refusal_verdict None = fine
refusal_verdict (Some f) = comparing_verdict f
