-- A space, and a number behind it.
use Rattle.printing.proofs.Texts.{appends_byte}
use Rattle.lines.proofs.lists.append_behind_space.Goals as goal

pub returns : goal.returns
returns c = appends_byte c.push.ensures c.append_decimal.ensures
