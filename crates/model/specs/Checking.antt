-- Checking a contract: the answer and the closing row and word buffers.
use Rattle.std.specs.Prelude.{Bool, false, not, List, [], ◌∷◌, ◌++◌, ℕ, suc, ◌*◌, min, eqb, ltb, length, get_or, take}
use Rattle.foundation.specs.Tests.{choose}
use Rattle.foundation.specs.Search.{first, greatest}
use Rattle.foundation.specs.Lists.{zero_filled}
use Rattle.model.specs.Trees.{Tree, every_tree}
use Rattle.model.specs.Tables.{Contract}
use Rattle.model.specs.Answers.{Verdict, refuse_first, ◌then◌, Answer, tree, pass, refusal, stopped, given}
use Rattle.model.specs.Admission.{admission, outside}
use Rattle.model.specs.Kinds.{kind_of, breaks}
use Rattle.model.specs.Rounds.{kind_automaton, ListedKind, kind_at, lists, listing}

-- "No limit exceeds 512."
abbrev pub greatest_limit : ℕ
greatest_limit = 512

pub record Checked : Type 0 where
  pub answer : Answer
  pub rows : List ℕ
  pub words : List ℕ

module _ (C : Contract) where
  -- rows, three numbers each, and kinds, five words each, laid end to end
  unfoldable pub row_numbers : List (ListedKind C) → List ℕ
  row_numbers [] = []
  row_numbers (row ∷ rows) = row.symbol ∷ row.left ∷ row.right ∷ row_numbers rows

  unfoldable pub kind_numbers : List (ListedKind C) → List ℕ
  kind_numbers [] = []
  kind_numbers (row ∷ rows) = row.state ++ kind_numbers rows

  -- an answer with the rows and words that stand: "the rest is 0"
  unfoldable pub standing : ℕ → Answer → List (ListedKind C) → Checked
  standing L answer rows =
      record { answer = answer; rows = zero_filled (3 * L) (row_numbers rows); words = zero_filled (5 * L) (kind_numbers rows) }

  -- the first breaking kind of the first n rows, or n
  unfoldable pub first_breaking : List (ListedKind C) → ℕ → ℕ
  first_breaking rows n = first (λ j. breaks C (kind_at C rows j)) n

  -- "the first L" kinds: of the list, of which L rounds are enough
  abbrev pub first_kinds : ℕ → List (ListedKind C)
  first_kinds L = take L (listing (kind_automaton C) L)

  -- "its kind among the first L"
  abbrev pub among_first : ℕ → Tree → Bool
  among_first L t = lists (kind_automaton C) (first_kinds L) (kind_of C t)

  -- "the greatest height h such that every tree of height h or less has its kind among the first L" (change request W-214), where there
  -- are more than L kinds: it is then below L, as each round adds a kind
  unfoldable pub stop_height : ℕ → ℕ
  stop_height L = greatest (λ h. every_tree C.transformation.symbols h (among_first L)) L

  -- the answer by the list, of which L rounds are enough: each round but the last adds a row
  unfoldable pub answered : ℕ → List (ListedKind C) → Checked
  answered L rows =
      let n : ℕ = min L (length rows) in
      let j : ℕ = first_breaking rows n in
      -- "'Tree' with row j if row j, below L, is the first breaking kind: rows and words 0 to j stand"
      choose (ltb j n) (standing L (tree j) (take (suc j) rows))
      -- "10 (place L), stopped at the limit, if there are more than L kinds and none of the first L breaks: both buffers
      -- are all 0"; "With refusal 10 give the greatest height h .."
      (choose (ltb L (length rows)) (standing L (stopped L (stop_height L)) [])
      -- "'Pass' with the count if there are at most L kinds and none breaks: all stand"
      (standing L (pass (length rows)) rows))

  unfoldable pub check : ℕ → Checked
  check L = answered L (listing (kind_automaton C) L)

  -- "9, the limit L is not 1 to 512, the row buffer not 3 × L numbers, or the word buffer not 5 × L words (place 0, 1, 2)"
  abbrev pub limit_wrong : (L rows words : ℕ) → ℕ → Bool
  limit_wrong L rows words place = get_or (outside 1 greatest_limit L ∷ not (eqb rows (3 * L)) ∷ not (eqb words (5 * L)) ∷ []) place false

  unfoldable pub checking_verdict : ℕ → (row_buffer word_buffer : List ℕ) → Verdict
  checking_verdict L row_buffer word_buffer = admission C then refuse_first 9 (limit_wrong L (length row_buffer) (length word_buffer)) 3

  -- "1 to 8; then 9, ..; these write nothing"
  unfoldable pub checking : ℕ → (row_buffer word_buffer : List ℕ) → Checked
  checking L row_buffer word_buffer =
      given (checking_verdict L row_buffer word_buffer)
      (λ number place. record { answer = refusal number place; rows = row_buffer; words = word_buffer })
      (check L)
