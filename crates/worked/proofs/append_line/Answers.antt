-- The name, then the line of what the definitions answer.
use Rattle.printing.proofs.Texts.{appends_both}
use Rattle.worked.specs.Lines.{line}
use Rattle.worked.proofs.append_line.Goals as goal

pub returns : goal.returns
unfolding line
returns c = rw (← c.ask.ensures) (appends_both c.append.ensures c.append_answer_line.ensures)
