-- The bytes passed stand on the page.
use Rattle.std.proofs.Common.{take}
use Rattle.printing.specs.Appending.{Appends}
use Rattle.printing.proofs.pages.Page.append.Given as goal

abbrev pub invariant-loop-b : goal.invariant-loop-b
invariant-loop-b l = Appends l.fn.self l.self (take l.b-index l.bytes)
