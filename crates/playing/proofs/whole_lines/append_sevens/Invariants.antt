-- So many sevens stand on the page.
use Rattle.printing.specs.Appending.{Appends}
use Rattle.script.specs.Meaning.{spaced, untouched}
use Rattle.playing.proofs.whole_lines.append_sevens.Given as goal

abbrev pub invariant-loop : goal.invariant-loop
invariant-loop l = Appends l.fn.page l.page (spaced (untouched l.counter))
