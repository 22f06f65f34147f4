-- A space, the text and a line feed.
use Rattle.std.proofs.Common.{rules}
use Rattle.printing.proofs.Texts.{appends_both, appends_byte}
use Rattle.playing.proofs.whole_lines.writing_line.Goals as goal

pub returns : goal.returns
returns c = let p = appends_byte c.push.ensures (appends_both c.append_writing.ensures c.push-2.ensures) in search rules
