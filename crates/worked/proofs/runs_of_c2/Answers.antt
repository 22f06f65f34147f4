-- Line behind line.
use Rattle.printing.proofs.Texts.{appends_both}
use Rattle.worked.proofs.Texts.{line_of}
use Rattle.worked.specs.Lines.{runs_of_c2}
use Rattle.worked.proofs.runs_of_c2.Goals as goal

pub returns : goal.returns
unfolding runs_of_c2
returns c = appends_both (appends_both (line_of _ _ c.c2.ensures c.append_line.ensures) (line_of _ _ c.c2-2.ensures c.append_line-2.ensures)) (line_of _ _ c.c2-3.ensures c.append_line-3.ensures)
