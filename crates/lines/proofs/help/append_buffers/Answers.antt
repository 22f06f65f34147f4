-- Text behind text.
use Rattle.std.proofs.Common.{rules}
use Rattle.printing.proofs.Texts.{appends_both}
use Rattle.lines.specs.Help.{buffers_help}
use Rattle.lines.proofs.help.append_buffers.Goals as goal

pub returns : goal.returns
unfolding buffers_help
returns c = search (rules, appends_both)
