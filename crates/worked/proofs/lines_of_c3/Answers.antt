-- Line behind line.
use Rattle.printing.proofs.Texts.{appends_both}
use Rattle.worked.proofs.Texts.{line_of}
use Rattle.worked.specs.Lines.{lines_of_c3}
use Rattle.worked.proofs.lines_of_c3.Goals as goal

pub returns : goal.returns
unfolding lines_of_c3
returns c = appends_both (line_of _ _ c.c3.ensures c.append_line.ensures) (line_of _ _ c.c3-2.ensures c.append_line-2.ensures)
