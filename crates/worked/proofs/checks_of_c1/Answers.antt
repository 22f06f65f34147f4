-- Line behind line.
use Rattle.printing.proofs.Texts.{appends_both}
use Rattle.worked.proofs.Texts.{line_of}
use Rattle.worked.specs.Lines.{checks_of_c1}
use Rattle.worked.proofs.checks_of_c1.Goals as goal

pub returns : goal.returns
unfolding checks_of_c1
returns c = appends_both (appends_both (appends_both (appends_both (line_of _ _ c.c1.ensures c.append_line.ensures) (line_of _ _ c.c1-2.ensures c.append_line-2.ensures)) (line_of _ _ c.c1-3.ensures c.append_line-3.ensures)) (line_of _ _ c.c1-4.ensures c.append_line-4.ensures)) (line_of _ _ c.c1-5.ensures c.append_line-5.ensures)
