-- A space, the text and a line feed.
use Rattle.printing.proofs.Texts.{appends_both, appends_byte}
use Rattle.playing.proofs.whole_lines.words_line.Goals as goal

pub returns : goal.returns
returns c = appends_byte c.push.ensures (appends_both c.append_words.ensures c.push-2.ensures)
