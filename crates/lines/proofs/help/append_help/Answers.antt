-- Text behind text.
use Rattle.std.proofs.Common.{rules}
use Rattle.printing.proofs.Texts.{appends_both}
use Rattle.lines.specs.Help.{help}
use Rattle.lines.proofs.help.append_help.Goals as goal

pub returns : goal.returns
unfolding help
returns c = search (rules, appends_both)
