-- Calls of `check` and what a caller may conclude from what came back: demands 2 and 3 as statements of answers and closing
-- buffers. proofs/Conclusions proves them: `call_meaning`, `larger_limit_stop_of_calls` and `demand_3_of_calls`.
use Rattle.std.specs.Prelude.{◌≡◌, List, ◌↔◌, ℕ, suc, ◌*◌, ◌≤◌, take, replicate}
use Rattle.model.specs.Trees.{Tree, height}
use Rattle.model.specs.Rows.{tree_at}
use Rattle.model.specs.Tables.{Contract}
use Rattle.model.specs.Answers.{Answer, pass, tree, refusal, stopped}
use Rattle.model.specs.Checking.{Checked, standing, checking}
use Rattle.model.specs.Claims.{Breaks, Admitted, OneTransformation, SameButMarks, Within}
use Rattle.model.specs.Meaning.{TreeOf, NoTreeBreaks, kind_rounds, PassMeans, FirstBreaks, LeastBreaking, StopMeans, StopTells, Fits, OneOfThree}
use Rattle.model.specs.Demand.{SameAnswer}
use Rattle.kind_lists.specs.Closing.{Gives}

-- a call on a contract with a limit: the buffers that were lent, and the answer and closing buffers that came back. The answer
-- is `checking_answer` of what `check` returned, and `gives` is what `check` promises.
pub record Call (C : Contract) (L : ℕ) : Type 0 where
  pub rows : List ℕ
  pub words : List ℕ
  pub answer : Answer
  pub closing_rows : List ℕ
  pub closing_words : List ℕ
  pub gives : Gives (checking C L rows words) answer closing_rows closing_words

-- what came back
abbrev pub returned : {C : Contract} {L : ℕ} → Call C L → Checked
returned call = record { answer = call.answer; rows = call.closing_rows; words = call.closing_words }

-- the contract is admitted, and the limit and the buffers have the right sizes
pub record LetIn {C : Contract} {L : ℕ} (call : Call C L) : Type 0 where
  pub is_admitted : Admitted C
  pub sizes : Fits L call.rows call.words

-- "Checking. 1 to 8; then 9": the answer is none of these refusals
abbrev pub NotRefused : {C : Contract} {L : ℕ} → Call C L → Type 0
NotRefused call = (number place : ℕ) → call.answer ≡ refusal number place → ⊥

-- Demand 2 for a call. No part asks anything of what was handed in: the answer says that the contract is admitted and the
-- sizes are right.
pub record CallMeans {C : Contract} {L : ℕ} (call : Call C L) : Type 0 where
  pub let_in_exactly : NotRefused call ↔ LetIn call
  pub one_of_three : LetIn call → OneOfThree L call.answer
  -- "these write nothing"
  pub refused_keeps : (number place : ℕ) → call.answer ≡ refusal number place
      → (call.closing_rows ≡ call.rows) × (call.closing_words ≡ call.words)
  pub pass_exactly : (n : ℕ) → (call.answer ≡ pass n) ↔ (LetIn call × PassMeans C L n)
  pub tree_exactly : (j : ℕ) → (call.answer ≡ tree j) ↔ (LetIn call × FirstBreaks C L j)
  pub tree_least : (j : ℕ) → call.answer ≡ tree j → LeastBreaking C (tree_at call.closing_rows j)
  pub stop_exactly : (limit h : ℕ) → (call.answer ≡ stopped limit h) ↔ (LetIn call × (limit ≡ L) × StopMeans C L h)
  pub stop_tells : (limit h : ℕ) → call.answer ≡ stopped limit h → StopTells C L h
  -- the rows and words that stand are those of the rounds, the rest is 0
  pub pass_rows : (n : ℕ) → call.answer ≡ pass n → returned call ≡ standing C L (pass n) (kind_rounds C L)
  pub tree_rows : (j : ℕ) → call.answer ≡ tree j → returned call ≡ standing C L (tree j) (take (suc j) (kind_rounds C L))
  -- "both buffers are all 0"
  pub stop_cleared : (limit h : ℕ) → call.answer ≡ stopped limit h
      → (call.closing_rows ≡ replicate (3 * L) 0) × (call.closing_words ≡ replicate (5 * L) 0)

-- "a larger limit, if it stops too, never gives a smaller h" (change request W-214)
abbrev pub CallLargerLimitStop : {C : Contract} {L M : ℕ} (first : Call C L) (second : Call C M) → Type 0
CallLargerLimitStop first second = (limit larger h k : ℕ) → first.answer ≡ stopped limit h → second.answer ≡ stopped larger k → limit ≤ larger → h ≤ k

-- "if the first passes, no tree breaks the second and its check shows none; if the first shows a document, every tree that
-- breaks the second, shown or not, is at least as tall"
pub record CallInclusion {C D : Contract} {L M : ℕ} (first : Call C L) (second : Call D M) : Type 0 where
  pub no_tree_breaks : (n : ℕ) → first.answer ≡ pass n → NoTreeBreaks D
  pub no_tree_shown : (n : ℕ) → first.answer ≡ pass n → (j : ℕ) → second.answer ≡ tree j → ⊥
  pub none_lower : (j : ℕ) → first.answer ≡ tree j → (t : Tree) → TreeOf D t → Breaks D t → height (tree_at first.closing_rows j) ≤ height t

-- Demand 3 for two calls, part by part as in the model's `Demand`. That a contract is admitted and that sizes are right is
-- asked only where the first answer does not say it.
pub record CallDemand : Type 0 where
  pub inclusion : {C D : Contract} {L M : ℕ} (first : Call C L) (second : Call D M) → OneTransformation C D → Within C D → CallInclusion first second
  pub accepted_states : {C D : Contract} {L M : ℕ} (first : Call C L) (second : Call D M) → SameButMarks C D → Within C D
      → L ≤ M → LetIn second
      → (n : ℕ) → first.answer ≡ pass n → SameAnswer (pass n) n (returned first) (returned second)
  pub larger_limit_pass : {C : Contract} {L M : ℕ} (first : Call C L) (second : Call C M) → L ≤ M → Fits M second.rows second.words
      → (n : ℕ) → first.answer ≡ pass n → SameAnswer (pass n) n (returned first) (returned second)
  pub larger_limit_tree : {C : Contract} {L M : ℕ} (first : Call C L) (second : Call C M) → L ≤ M → Fits M second.rows second.words
      → (j : ℕ) → first.answer ≡ tree j → SameAnswer (tree j) (suc j) (returned first) (returned second)
