-- Numbers behind a word.
use Rattle.printing.proofs.Texts.{appends_both}
use Rattle.lines.proofs.Listings.{spaced_own}
use Rattle.lines.proofs.lists.append_words.Goals as goal

pub returns : goal.returns
returns c = appends_both c.append.ensures (spaced_own c.args.words.now c.append_numbers.ensures)
