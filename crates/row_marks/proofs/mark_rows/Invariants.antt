-- The rows from `from` to j are marked.
use Rattle.row_marks.specs.Marks.{MarkedFrom}
use Rattle.row_marks.proofs.mark_rows.Given as goal

abbrev pub invariant-loop-j : goal.invariant-loop-j
invariant-loop-j l = MarkedFrom l.words l.masks l.symbols l.from l.j l.initial.firsts l.firsts
