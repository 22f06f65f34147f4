-- Text behind text.
use Rattle.std.proofs.Common.{rules}
use Rattle.printing.proofs.Texts.{appends_both}
use Rattle.lines.specs.Help.{questions_help}
use Rattle.lines.proofs.help.append_questions.Goals as goal

pub returns : goal.returns
unfolding questions_help
returns c = search (rules, appends_both)
