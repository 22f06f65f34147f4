-- Part behind part.
use Rattle.std.proofs.Common.{rules}
use Rattle.printing.proofs.Texts.{appends_both}
use Rattle.worked.specs.Lines.{worked_lines}
use Rattle.worked.proofs.worked_lines.Goals as goal

pub returns : goal.returns
unfolding worked_lines
returns c = search (rules, appends_both)
