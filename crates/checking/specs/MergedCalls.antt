-- Calls of `check` on one transformation and one input type with two output types, and with these merged (change request W-206): what a
-- caller may conclude from the three answers. proofs/Conclusions/Merged.antt proves it.
use Rattle.std.specs.Prelude.{◌≡◌, ◌↔◌, ◌⊎◌, ℕ, ◌≤◌}
use Rattle.model.specs.Trees.{Tree, height}
use Rattle.model.specs.Rows.{tree_at}
use Rattle.model.specs.Tables.{Contract, OutputType}
use Rattle.model.specs.Answers.{pass, tree, stopped}
use Rattle.model.specs.Claims.{Breaks}
use Rattle.model.specs.Meaning.{TreeOf, KindCount, NoTreeBreaks}
use Rattle.model.specs.Merging.{with_output}
use Rattle.checking.specs.Calls.{Call, LetIn, NotRefused}

abbrev pub Passed : {C : Contract} {L : ℕ} → Call C L → Type 0
Passed call = (n : ℕ) × (call.answer ≡ pass n)

-- "each alone does"
abbrev pub EachPassed : {C D : Contract} {K L : ℕ} → Call C K → Call D L → Type 0
EachPassed first second = Passed first × Passed second

-- a pass or a tree: the check is not refused and does not stop at its limit
abbrev pub Answered : {C : Contract} {L : ℕ} → Call C L → Type 0
Answered call = NotRefused call × ((limit h : ℕ) → call.answer ≡ stopped limit h → ⊥)

-- "Given room": a call that is let in, with kinds that number at most its limit
pub record HasRoom {C : Contract} {L : ℕ} (call : Call C L) : Type 0 where
  pub let_in : LetIn call
  pub kinds : ℕ
  pub counted : KindCount C kinds
  pub within : kinds ≤ L

-- output types Y and Z, and M, which is Y and Z merged
pub record CallsMerged (C : Contract) {Y Z M : OutputType} {K L N : ℕ}
    (first : Call (with_output C Y) K) (second : Call (with_output C Z) L) (both : Call (with_output C M) N) : Type 0 where
  -- "Given room for all three checks, the merged contract passes exactly if each alone does.": room gives an answer, and three answers are
  -- enough
  pub room_answers : (HasRoom first → Answered first) × (HasRoom second → Answered second) × (HasRoom both → Answered both)
  pub passes_exactly : Answered first → Answered second → Answered both → Passed both ↔ EachPassed first second
  -- without room: a pass of the merged contract speaks of each alone, whether or not its own check comes to an end
  pub pass_keeps : Passed both → NoTreeBreaks (with_output C Y) × NoTreeBreaks (with_output C Z)
  -- passes of each alone leave the merged check nothing to show
  pub keeps_pass : EachPassed first second → NoTreeBreaks (with_output C M)
  pub none_shown : EachPassed first second → (j : ℕ) → both.answer ≡ tree j → ⊥
  -- a document shown for one alone breaks the merged contract
  pub first_shown : (j : ℕ) → first.answer ≡ tree j → Breaks (with_output C M) (tree_at first.closing_rows j)
  pub second_shown : (j : ℕ) → second.answer ≡ tree j → Breaks (with_output C M) (tree_at second.closing_rows j)
  -- one shown for the merged contract breaks the first or the second, and no lower one breaks either
  pub both_shown : (j : ℕ) → both.answer ≡ tree j
      → Breaks (with_output C Y) (tree_at both.closing_rows j) ⊎ Breaks (with_output C Z) (tree_at both.closing_rows j)
  pub none_lower : (j : ℕ) → both.answer ≡ tree j
      → (t : Tree) → TreeOf C t → Breaks (with_output C Y) t ⊎ Breaks (with_output C Z) t
      → height (tree_at both.closing_rows j) ≤ height t
