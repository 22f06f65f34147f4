-- A kind without its marks, to which the marks are added last.
use Rattle.std.specs.Prelude.{◌≡◌, List, [], ◌∷◌, ◌++◌, Bool, false, ℕ, ◌^◌, ◌<◌, ◌≤◌, get_or, set}
use Rattle.std.proofs.Common.{arith}
use Rattle.foundation.specs.Words.{word}
use Rattle.model.specs.Tables.{Contract}
use Rattle.model.specs.Facts.{FactSet, on_side, facts_at}
use Rattle.model.specs.Kinds.{RootMarks, root_bit, marks_over, with_marks, marks_in, reached_next, state_in, facts_in, kind_words, symbol_kind}
use Rattle.model.proofs.Laws.RootMarks.{states_below_marks}

abbrev pub no_marks : RootMarks
no_marks = record { one_root = false; is_empty = false }

pub no_marks_added : {states : ℕ} → with_marks no_marks states ≡ states
unfolding with_marks
no_marks_added = omega arith

-- what the rules of symbol s make over two kinds, without its marks
unfoldable pub unmarked_kind : Contract → ℕ → (l r : List ℕ) → List ℕ
unmarked_kind C s l r =
    kind_words C no_marks (reached_next C.input s (state_in C l) (state_in C r)) (facts_at C.transformation C.output (on_side (facts_in C l) (facts_in C r)) s)

-- words with the marks added to the first of them
abbrev pub first_word_marked : RootMarks → List ℕ → List ℕ
first_word_marked marks kind = set kind 0 (with_marks marks (get_or kind 0 0))

-- .. step by step
pub first_marked : (marks : RootMarks) {kind unmarked : List ℕ} {word : ℕ} → kind ≡ unmarked → word ≡ with_marks marks (get_or kind 0 0)
    → set kind 0 word ≡ first_word_marked marks unmarked
first_marked marks e f = rw (f, e)

module _ (C : Contract) where
  pub words_marked : (marks : RootMarks) (reaches : ℕ → Bool) (facts : FactSet)
      → first_word_marked marks (kind_words C no_marks reaches facts ++ (0 ∷ [])) ≡ kind_words C marks reaches facts ++ (0 ∷ [])
  unfolding kind_words
  words_marked marks reaches facts = rw (no_marks_added {states = word C.input.states reaches})

  -- what a symbol's rules make has the marks that its right child gives it
  pub symbol_marked : (s : ℕ) (l r : List ℕ) → first_word_marked (marks_over (marks_in r)) (unmarked_kind C s l r ++ (0 ∷ [])) ≡ symbol_kind C s l r ++ (0 ∷ [])
  unfolding unmarked_kind symbol_kind
  symbol_marked s l r = words_marked _ _ _

  pub unmarked_small : C.input.states ≤ 32 → (s : ℕ) (l r : List ℕ) → get_or (unmarked_kind C s l r ++ (0 ∷ [])) 0 0 < 2 ^ root_bit
  unfolding unmarked_kind kind_words
  unmarked_small few s l r =
      rw no_marks_added (states_below_marks C.input.states (reached_next C.input s (state_in C l) (state_in C r)) few)
