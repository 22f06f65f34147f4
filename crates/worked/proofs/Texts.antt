-- The line of a contract that is known to be another.
use mathlib.Core.Path.{◌≡◌}
use mathlib.Core.List.{List}
use Prim.Native.Nat.{ℕ}
use Rattle.printing.specs.Appending.{Appends}
use Rattle.printing.specs.declared.pages.Page.{Page}
use Rattle.model.specs.Tables.{Contract}
use Rattle.worked_table.specs.Questions.{Question}
use Rattle.worked.specs.Lines.{line}

pub line_of : {a b : Page} (name : List ℕ) {C D : Contract} (question : Question) → C ≡ D → Appends a b (line name C question) → Appends a b (line name D question)
line_of name question e t = rw (← e) t
