-- Kinds: five 64-bit words that say which input states a tree reaches, whether it has one root or is empty, and which facts hold of
-- it.
use Rattle.std.specs.Prelude.{List, [], ◌∷◌, Bool, true, false, ℕ, ◌+◌, ◌*◌, ◌/◌, ◌%◌, ◌^◌, get_or}
use Rattle.foundation.specs.Tests.{some_below, ◌and◌, same}
use Rattle.foundation.specs.Words.{bit, word, one_if}
use Rattle.model.specs.Trees.{Tree, empty, node}
use Rattle.model.specs.Tables.{Contract, InputType, input_row, input_row_count, mark_at}
use Rattle.model.specs.Facts.{FactSet, no_facts, on_side, facts_at, closed_facts, fact_number, numbered}

-- "The empty forest reaches each state that has an input row with symbol 0"
unfoldable pub reached_empty : InputType → ℕ → Bool
reached_empty X q = some_below (input_row_count X.rows) (λ r. same (input_row X.rows r).state q and same (input_row X.rows r).symbol 0)

-- "any other tree reaches state s if some input row has s, its root symbol, and states that its left and its right child
-- reach"
unfoldable pub reached_next : InputType → ℕ → (left_reaches right_reaches : ℕ → Bool) → ℕ → Bool
reached_next X s left_reaches right_reaches q =
    some_below (input_row_count X.rows)
    (λ r.
    same (input_row X.rows r).state q
    and same (input_row X.rows r).symbol s
    and left_reaches (input_row X.rows r).left
    and right_reaches (input_row X.rows r).right)

-- "A kind gains two marks in word 0" (change request W-202): what is marked
pub record RootMarks : Type 0 where
  pub one_root : Bool
  pub is_empty : Bool

-- of the empty forest, and of any other tree by those of its right child: it has one root if its "right child is symbol 0"
abbrev pub empty_marks : RootMarks
empty_marks = record { one_root = false; is_empty = true }

abbrev pub marks_over : (right : RootMarks) → RootMarks
marks_over right = record { one_root = right.is_empty; is_empty = false }

-- "bit 32 set if the tree has one root, bit 33 if it is empty"
abbrev pub root_bit : ℕ
root_bit = 32

abbrev pub empty_bit : ℕ
empty_bit = 33

-- the bits of the input states, with the marks
unfoldable pub with_marks : RootMarks → (states : ℕ) → ℕ
with_marks marks states = states + one_if marks.one_root * 2 ^ root_bit + one_if marks.is_empty * 2 ^ empty_bit

-- what the words of a kind mark
unfoldable pub marks_in : List ℕ → RootMarks
marks_in kind = record { one_root = bit (get_or kind 0 0) root_bit; is_empty = bit (get_or kind 0 0) empty_bit }

module _ (C : Contract) where
  -- whether the fact of number f is in a set
  abbrev pub numbered_fact : FactSet → ℕ → Bool
  numbered_fact facts f = numbered C.output.states C.transformation.counts facts f

  -- "fact f is bit f mod 64 of word 1 + f div 64"
  abbrev pub fact_words : FactSet → List ℕ
  fact_words facts =
      word 64 (λ b. numbered_fact facts b)
      ∷ word 64 (λ b. numbered_fact facts (64 + b))
      ∷ word 64 (λ b. numbered_fact facts (128 + b))
      ∷ word 64 (λ b. numbered_fact facts (192 + b))
      ∷ []

  -- "word 0 has a bit for each input state the tree reaches"; "two marks in word 0"
  unfoldable pub kind_words : RootMarks → (ℕ → Bool) → FactSet → List ℕ
  kind_words marks reaches facts = with_marks marks (word C.input.states reaches) ∷ fact_words facts

  -- what a kind's words say: the input states, the facts by number, the facts
  unfoldable pub state_in : List ℕ → ℕ → Bool
  state_in kind q = bit (get_or kind 0 0) q

  unfoldable pub bit_of_fact : List ℕ → ℕ → Bool
  bit_of_fact kind f = bit (get_or kind (1 + f / 64) 0) (f % 64)

  unfoldable pub facts_in : List ℕ → FactSet
  facts_in kind p q qs = bit_of_fact kind (fact_number C.output.states C.transformation.counts p q qs)

  -- what the rules of a symbol make, before any stay rule: of symbol 0, and of another over two kinds
  unfoldable pub leaf_kind : List ℕ
  leaf_kind = kind_words empty_marks (reached_empty C.input) (facts_at C.transformation C.output (λ c. no_facts) 0)

  unfoldable pub symbol_kind : ℕ → List ℕ → List ℕ → List ℕ
  symbol_kind s l r =
      kind_words (marks_over (marks_in r)) (reached_next C.input s (state_in l) (state_in r))
      (facts_at C.transformation C.output (on_side (facts_in l) (facts_in r)) s)

  -- the facts closed under the stay rules; word 0 is kept
  unfoldable pub stay_kind : List ℕ → List ℕ
  stay_kind kind = get_or kind 0 0 ∷ fact_words (closed_facts C.transformation C.output (facts_in kind))

  -- the kind of the empty forest
  unfoldable pub empty_kind : List ℕ
  empty_kind = stay_kind leaf_kind

  -- the kind of a symbol over two kinds
  unfoldable pub next_kind : ℕ → List ℕ → List ℕ → List ℕ
  next_kind s l r = stay_kind (symbol_kind s l r)

  -- "The kind of a tree is five 64-bit words"
  unfoldable pub kind_of : Tree → List ℕ
  kind_of empty = empty_kind
  kind_of (node s l r) = next_kind s (kind_of l) (kind_of r)

  -- "some accepted input state is in it"
  unfoldable pub of_input_type : List ℕ → Bool
  of_input_type kind = some_below C.input.states (λ q. same (mark_at C.input.marks q) 1 and state_in kind q)

  -- "some fact of procedure 0 with a state not accepted"
  unfoldable pub has_wrong_output : List ℕ → Bool
  has_wrong_output kind = some_below C.output.states (λ q. same (mark_at C.output.marks q) 0 and facts_in kind 0 q [])

  -- "only trees count whose root is not symbol 0 and whose right child is symbol 0; .. a contract takes no other"
  unfoldable pub is_taken : List ℕ → Bool
  is_taken kind = (marks_in kind).one_root and of_input_type kind

  -- "A kind breaks the contract if some accepted input state is in it and some fact of procedure 0 with a state not
  -- accepted."; "A breaking kind also needs bit 32."
  unfoldable pub breaks : List ℕ → Bool
  breaks kind = is_taken kind and has_wrong_output kind
