-- A search of a table and marks behind an empty part, by the first place that fails.
use mathlib.Core.Path.{◌≡◌, ap, ◌∙◌}
use mathlib.Core.List.{[]}
use Prim.Native.Nat.{ℕ, ◌+◌}
use native.Mathlib.Omega.{arith}
use lib.ListN.{length}
use Rattle.foundation.specs.Search.{first}
use Rattle.model.specs.Tables.{OutputType}
use Rattle.model.specs.Admission.{entry_wrong}

-- a search through nothing, then table and marks
pub behind_nothing : (Y : OutputType) (k : ℕ)
    → k ≡ first (entry_wrong Y.states [] Y.table Y.marks) (0 + length Y.table + length Y.marks)
    → k ≡ first (entry_wrong Y.states [] Y.table Y.marks) (length Y.table + length Y.marks)
behind_nothing Y k e =
    let same : 0 + length Y.table + length Y.marks ≡ length Y.table + length Y.marks = omega arith in
    e ∙ ap (first (entry_wrong Y.states [] Y.table Y.marks)) same
