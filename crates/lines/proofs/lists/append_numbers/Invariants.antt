-- The numbers passed stand on the page.
use Rattle.std.proofs.Common.{map, take}
use Rattle.printing.specs.Appending.{Appends}
use Rattle.script.specs.Meaning.{spaced}
use Rattle.lines.proofs.lists.append_numbers.Given as goal

abbrev pub invariant-loop-n : goal.invariant-loop-n
invariant-loop-n g l = Appends l.fn.page l.page (spaced (take l.n-index (map g.N.Listed.value l.numbers)))
