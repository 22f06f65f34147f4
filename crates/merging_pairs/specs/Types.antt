-- Output types of which code is lent a part.
use Rattle.std.specs.Prelude.{List, [], ℕ, ◌*◌, ◌<◌, ◌≤◌, get_or}
use Rattle.model.specs.Tables.{OutputType, type_of, mark_at}
use Rattle.model.specs.Merging.{pair_state}
use Rattle.merging_pairs.specs.declared.pairs.Pair.{Pair}

-- an output type of which the table alone matters, or the marks alone
abbrev pub table_only : (states : ℕ) (table : List ℕ) → OutputType
table_only states table = type_of states table []

abbrev pub marks_only : (states : ℕ) (marks : List ℕ) → OutputType
marks_only states marks = type_of states [] marks

-- "state (m, n) is m × (second's O) + n"
abbrev pub pair_number : ℕ → Pair → ℕ
pair_number O p = pair_state O p.first.0.0 p.second.0.0

-- "Output states O, 1 to 4", and no "more than 4 states (the product)"
pub record Few (first second : ℕ) : Type 0 where
  pub some_first : 1 ≤ first
  pub some_second : 1 ≤ second
  pub few_first : first ≤ 4
  pub few_second : second ≤ 4
  pub few_pairs : first * second ≤ 4

-- every entry of a table is a state, and every mark 0 or 1; past the end stands 0
abbrev pub Below : ℕ → List ℕ → Type 0
Below states table = (k : ℕ) → get_or table k 0 < states

abbrev pub Marks : List ℕ → Type 0
Marks marks = (q : ℕ) → mark_at marks q ≤ 1
