-- What testing every row says, and the part of the model's verdict that it answers.
use Rattle.std.specs.Prelude.{List, ℕ, Result, Ok, Err, length}
use Rattle.model.specs.Rows.{row_count}
use Rattle.model.specs.Running.{rows_wrong}
use Rattle.model.specs.Answers.{Verdict, fine, refused, refuse_if, refuse_first, ◌then◌}
use Rattle.answers.specs.declared.WritingRefusal.{WritingRefusal}
use Rattle.answers.specs.declared.WritingRefusal.TheVariants as writing
use Rattle.writing.specs.Rows.{wrong_at}

-- refusals 16 and 17
abbrev pub rows_verdict : List ℕ → Verdict
rows_verdict rows = refuse_if (rows_wrong (length rows)) 16 0 then refuse_first 17 (wrong_at rows) (row_count rows)

-- refusals 16 to 19
abbrev pub refusal_verdict : WritingRefusal → Verdict
refusal_verdict writing.Rows = refused 16 0
refusal_verdict (writing.Row row) = refused 17 row
refusal_verdict (writing.Number row) = refused 18 row
refusal_verdict (writing.Room numbers) = refused 19 numbers

-- the verdict of a test
abbrev pub rows_told : {A : Type 0} → Result A WritingRefusal → Verdict
rows_told (Ok table) = fine
rows_told (Err why) = refusal_verdict why
