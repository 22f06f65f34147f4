-- Rows stand in the order of their trees' heights, and the first row of a property stands for a tree of least height among
-- those whose state has it.
use mathlib.Core.Path.{◌≡◌, sym, ◌∙◌}
use Prim.Native.Nat.{ℕ, ◌<◌, ◌≤◌}
use native.Mathlib.Omega.{arith}
use native.Mathlib.Decide.{dec_lt}
use lib.ListN.{length}
use Rattle.model.specs.Trees.{Tree, height, Over}
use Rattle.model.specs.Rounds.{TreeAutomaton, state_at, rounds}
use Rattle.model.proofs.Rounds.Growth.{Begins, begins_length, begins_state, rounds_begin}
use Rattle.model.proofs.Rounds.Covering.{tree_state, Decides, HasState, tree_listed}
use Rattle.model.proofs.Rounds.Distinct.{rounds_distinct}
use Rattle.model.proofs.Rounds.RowTrees.{row_tree, row_tree_begins, rounds_stand_for, rounds_height}

module _ (A : TreeAutomaton) (decides : Decides A) where
  -- a row is listed by the round of its tree's height
  listed_by_height : (h j : ℕ) → j < length (rounds A h) → j < length (rounds A (height (row_tree A (rounds A h) j)))
  listed_by_height h j inside = go (dec_lt (height (row_tree A (rounds A h) j)) h)
    where
      there : HasState A (rounds A (height (row_tree A (rounds A h) j))) (tree_state A (row_tree A (rounds A h) j))
      there = tree_listed A decides (row_tree A (rounds A h) j) (rounds_stand_for A h j inside).over (height (row_tree A (rounds A h) j)) (omega arith)

      go : Dec (height (row_tree A (rounds A h) j) < h) → j < length (rounds A (height (row_tree A (rounds A h) j)))
      go (no nl) = omega (arith, begins_length (rounds_begin A h (height (row_tree A (rounds A h) j)) (omega arith)))
      go (yes l) =
          let grown = rounds_begin A (height (row_tree A (rounds A h) j)) h (omega arith) in
          let same : state_at A (rounds A h) there.index ≡ state_at A (rounds A h) j =
          begins_state grown there.index there.inside ∙ there.found ∙ (rounds_stand_for A h j inside).state-of in
          let apart = (rounds_distinct A decides h).differ in
          let not-before : there.index < j → ⊥ = λ less. apart there.index j less inside same in
          let not_after : j < there.index → ⊥ = λ less. apart j there.index less (omega (arith, begins_length grown, there.inside)) (sym same) in
          omega (arith, not-before, not_after, there.inside)

  -- trees of later rows are no lower
  pub heights_ascend : (h i j : ℕ) → i ≤ j → j < length (rounds A h) → height (row_tree A (rounds A h) i) ≤ height (row_tree A (rounds A h) j)
  heights_ascend h i j l inside =
      agree (height (row_tree A (rounds A h) j)) (listed_by_height h j inside)
    where
      -- row i is in that round's list too, with the same tree
      agree : (k : ℕ) → j < length (rounds A k) → height (row_tree A (rounds A h) i) ≤ k
      agree k jk = go (dec_lt k h)
        where
          go : Dec (k < h) → height (row_tree A (rounds A h) i) ≤ k
          go (no nl) = omega (arith, rounds_height A h i (omega arith))
          go (yes less) = rw (row_tree_begins A (rounds_begin A k h (omega arith)) i (omega arith)) (rounds_height A k i (omega arith))

module _ (A : TreeAutomaton) (decides : Decides A) (P : A.State → Type 0) where
  -- a tree of the property lower than round h is listed by its height's round, so not before row j
  pub first_row_least : (h j : ℕ) → j < length (rounds A h) → ((i : ℕ) → i < j → P (state_at A (rounds A h) i) → ⊥)
      → (t : Tree) → Over A.symbols t → P (tree_state A t) → height (row_tree A (rounds A h) j) ≤ height t
  first_row_least h j inside none t over has = go (dec_lt (height t) h)
    where
      listed_by : HasState A (rounds A (height t)) (tree_state A t)
      listed_by = tree_listed A decides t over (height t) (omega arith)

      go : Dec (height t < h) → height (row_tree A (rounds A h) j) ≤ height t
      go (no nl) = omega (arith, rounds_height A h j inside)
      go (yes l) =
          let grown : Begins A (rounds A (height t)) (rounds A h) = rounds_begin A (height t) h (omega arith) in
          let there : P (state_at A (rounds A h) listed_by.index) = rw (begins_state grown listed_by.index listed_by.inside, listed_by.found) has in
          let late : listed_by.index < j → ⊥ = λ early. none listed_by.index early there in
          let early : j < length (rounds A (height t)) = omega (arith, late, listed_by.inside) in
          rw (row_tree_begins A grown j early) (rounds_height A (height t) j early)
