-- The measure is the row's number: the children of a row that is not wrong are below it.
use Rattle.writing.proofs.FineRows.+write_row.Given as goal

abbrev pub decreases-write_row : goal.decreases-write_row
decreases-write_row l = l.k
