-- A space, the word, the sevens and a line feed.
use Rattle.printing.proofs.Texts.{appends_both, appends_byte}
use Rattle.playing.proofs.whole_lines.sevens_line.Goals as goal

pub returns : goal.returns
returns c = appends_byte c.push.ensures (appends_both (appends_both c.append.ensures c.append_sevens.ensures) c.push-2.ensures)
