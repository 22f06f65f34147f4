-- Answers: what an operation gives back, in document 01's numbers, with the numbers taken of change request W-205 and the height of
-- W-214; and refusals, of which the first that applies is given.
use Rattle.std.specs.Prelude.{Bool, ℕ, zero, suc, ltb}
use Rattle.foundation.specs.Tests.{choose}
use Rattle.foundation.specs.Search.{first}

-- "a refusal carries a number and a place", or nothing is refused
pub data Verdict : Type 0 where
  fine : Verdict
  refused : (number place : ℕ) → Verdict

-- the first refusal that applies
infixr 25 ◌then◌
unfoldable pub ◌then◌ : Verdict → Verdict → Verdict
fine then v = v
refused number place then v = refused number place

unfoldable pub refuse_if : Bool → ℕ → ℕ → Verdict
refuse_if test number place = choose test (refused number place) fine

-- "lowest place": the first of n entries that is bad
unfoldable pub refuse_first : ℕ → (ℕ → Bool) → ℕ → Verdict
refuse_first number bad n = refuse_if (ltb (first bad n) n) number (first bad n)

-- of n entries, each with a verdict of its own, the lowest that is refused
unfoldable pub refuse_lowest : (ℕ → Verdict) → ℕ → Verdict
refuse_lowest verdict zero = fine
refuse_lowest verdict (suc n) = refuse_lowest verdict n then verdict n

-- the answers of the five operations, with their values
pub data Answer : Type 0 where
  -- "the contract is admitted, with no number"
  admitted : Answer
  -- "the result is 0, .. 1, .. 2"; "how many numbers it took"
  judged : (result taken : ℕ) → Answer
  -- "'Tree' with row j", "'Pass' with the count"
  tree : (row : ℕ) → Answer
  pass : (count : ℕ) → Answer
  -- "root row and rows used come back"; "how many numbers it took"
  ran : (root used taken : ℕ) → Answer
  -- "the count returns"
  written : (count : ℕ) → Answer
  -- number and place
  refusal : (number place : ℕ) → Answer
  -- refusal 10, "stopped at the limit": "10 carries h beside the limit"
  stopped : (limit height : ℕ) → Answer

-- "how many numbers it took"; 0 where an answer does not tell it
abbrev pub taken_by_answer : Answer → ℕ
taken_by_answer admitted = 0
taken_by_answer (judged result taken) = taken
taken_by_answer (tree row) = 0
taken_by_answer (pass count) = 0
taken_by_answer (ran root used taken) = taken
taken_by_answer (written count) = 0
taken_by_answer (refusal number place) = 0
taken_by_answer (stopped limit height) = 0

-- what is given where nothing is refused, and otherwise the refusal
unfoldable pub given {ℓ} : {A : Type ℓ} → Verdict → (ℕ → ℕ → A) → A → A
given fine on_refusal a = a
given (refused number place) on_refusal a = on_refusal number place
