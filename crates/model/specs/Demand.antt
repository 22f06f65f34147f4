-- Demand 3 as one claim. proofs/Meaning/Demand.antt proves it: `demand_3 : Demand`.
use Rattle.std.specs.Prelude.{◌≡◌, ℕ, suc, ◌≤◌}
use Rattle.model.specs.Trees.{Tree, height}
use Rattle.model.specs.Rows.{tree_at}
use Rattle.model.specs.Tables.{Contract}
use Rattle.model.specs.Answers.{Answer, tree, pass}
use Rattle.model.specs.Checking.{Checked}
use Rattle.model.specs.Claims.{Breaks, Admitted, OneTransformation, SameButMarks, Within, SameKinds}
use Rattle.model.specs.Meaning.{TreeOf, Lent, check_of}

-- "if the first passes, no tree breaks the second and its check shows none; if the first shows a document, every tree that
-- breaks the second, shown or not, is at least as tall"
pub record Inclusion (C D : Contract) (first second : Lent) : Type 0 where
  pub no_tree_breaks : (n : ℕ) → (check_of C first).answer ≡ pass n → (t : Tree) → TreeOf D t → Breaks D t → ⊥
  pub no_tree_shown : (n : ℕ) → (check_of C first).answer ≡ pass n → (j : ℕ) → (check_of D second).answer ≡ tree j → ⊥
  pub none_lower : (j : ℕ) → (check_of C first).answer ≡ tree j → (t : Tree) → TreeOf D t → Breaks D t → height (tree_at (check_of C first).rows j) ≤ height t

-- the same answer in the second check, "with the same count or row number and the same rows and words", of which n stand
pub record SameAnswer (answer : Answer) (n : ℕ) (c d : Checked) : Type 0 where
  pub same_answer : d.answer ≡ answer
  pub same_kinds : SameKinds n c d

pub record Demand : Type 0 where
  -- "For every two admitted contracts over one transformation, the second taking no input that the first does not and allowing
  -- every output that the first allows, whatever limits they are checked under: .."
  pub inclusion : (C D : Contract) → Admitted C → Admitted D → OneTransformation C D → Within C D → (first second : Lent) → Inclusion C D first second
  -- "Where the two differ only in which states they accept, a pass of the first is a pass of the second under every equal or
  -- larger limit, with the same count, rows and words."
  pub accepted_states : (C D : Contract) → Admitted C → Admitted D → SameButMarks C D → Within C D → (first second : Lent)
      → first.limit ≤ second.limit
      → (n : ℕ) → (check_of C first).answer ≡ pass n → SameAnswer (pass n) n (check_of C first) (check_of D second)
  -- "For every admitted contract, a pass or a shown document is the answer under every larger limit too, with the same count
  -- or row number and the same rows and words."
  pub larger_limit_pass : (C : Contract) → Admitted C → (first second : Lent) → first.limit ≤ second.limit
      → (n : ℕ) → (check_of C first).answer ≡ pass n → SameAnswer (pass n) n (check_of C first) (check_of C second)
  pub larger_limit_tree : (C : Contract) → Admitted C → (first second : Lent) → first.limit ≤ second.limit
      → (j : ℕ) → (check_of C first).answer ≡ tree j → SameAnswer (tree j) (suc j) (check_of C first) (check_of C second)
