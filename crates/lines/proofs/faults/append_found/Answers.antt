-- The bytes that are read, where the script goes on behind them.
use Rattle.printing.proofs.Texts.{appends_both}
use Rattle.lines.proofs.faults.append_found.Goals as goal

pub returns-in-End : goal.returns-in-End
returns-in-End c = rw c.in-End.is (appends_both c.append_one.ensures c.append.ensures)
