-- Text behind text.
use Rattle.std.proofs.Common.{rules}
use Rattle.printing.proofs.Texts.{appends_both}
use Rattle.lines.proofs.appending.append_two.Goals as goal

pub returns : goal.returns
returns c = search (rules, appends_both)
