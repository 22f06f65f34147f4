-- A space, the answer and a line feed.
use Rattle.printing.proofs.Texts.{appends_both, appends_byte}
use Rattle.lines.proofs.appending.append_answer_line.Goals as goal

pub returns : goal.returns
returns c = appends_byte c.push.ensures (appends_both c.append_answer.ensures c.push-2.ensures)
