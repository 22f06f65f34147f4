-- What refusals say, as statements: of the reasons that document 01 lists, the first that applies is given, with its place. Bad nodes,
-- 30 to 34, are change request W-203's, and 11 and 12 of judging and running W-205's; where document 01 says "1 to 8", admission's
-- reasons are meant.
-- proofs/Meaning/Verdicts.antt and Refusals.antt prove them.
use Rattle.std.specs.Prelude.{◌≡◌, Bool, true, false, List, [], ◌∷◌, ◌++◌, ◌↔◌, ◌⊎◌, ℕ, ◌+◌, ◌<◌, ◌≤◌, length, get_or}
use Rattle.model.specs.Trees.{Tree, Over, preorder}
use Rattle.model.specs.Tables.{Contract, input_row, input_row_count, Node, node_at, node_count, rule_at, rule_count}
use Rattle.model.specs.Rows.{row_at, row_count, tree_at}
use Rattle.model.specs.Facts.{fact_total}
use Rattle.model.specs.Answers.{Verdict, fine, refused, Answer, refusal}
use Rattle.model.specs.Admission.{size_wrong, length_wrong, input_row_wrong, entry_wrong, count_wrong, tag_wrong, name_wrong, child_wrong, reference_wrong, unused_filled, rule_wrong, most_facts, admit}
use Rattle.model.specs.Documents.{most_numbers, document_tree, numbers_taken, leading_tree, leading_verdict, whole_verdict}
use Rattle.model.specs.Judging.{judging}
use Rattle.model.specs.Checking.{limit_wrong, checking}
use Rattle.model.specs.Running.{rows_wrong, running}
use Rattle.model.specs.WritingOut.{row_wrong, writing_out}

-- a reason to refuse with a number and a place: what is wrong then
abbrev pub Reason : Type 1
Reason = (number place : ℕ) → Type 0

-- nothing is wrong
abbrev pub NothingWrong : Reason → Type 0
NothingWrong reason = (number place : ℕ) → reason number place → ⊥

-- "Refusals, first that applies": of these reasons, in their order
abbrev pub FirstReason : List Reason → (number place : ℕ) → Type 0
FirstReason [] number place = ⊥
FirstReason (reason ∷ reasons) number place =
    reason number place ⊎ (NothingWrong reason × FirstReason reasons number place)

abbrev pub NoReason : List Reason → Type 0
NoReason [] = Unit {0}
NoReason (reason ∷ reasons) = NothingWrong reason × NoReason reasons

-- a verdict refuses for these reasons and no other
pub record RefusesFor (reasons : List Reason) (verdict : Verdict) : Type 0 where
  pub refuses : (number place : ℕ) → (verdict ≡ refused number place) ↔ FirstReason reasons number place
  pub passes : (verdict ≡ fine) ↔ NoReason reasons

-- "lowest place": of n entries the one there is bad, and none before it
pub record LowestPlace (bad : ℕ → Bool) (n place : ℕ) : Type 0 where
  pub inside : place < n
  pub is_bad : bad place ≡ true
  pub none_before : (j : ℕ) → j < place → bad j ≡ false

-- a reason with one number
abbrev pub with_number : ℕ → ((place : ℕ) → Type 0) → Reason
with_number number Wrong = λ m place. (m ≡ number) × Wrong place

abbrev pub lowest : ℕ → (ℕ → Bool) → ℕ → Reason
lowest number bad n = with_number number (LowestPlace bad n)

-- something is wrong, with that one place
abbrev pub only : ℕ → Type 0 → ℕ → Reason
only number Holds place = with_number number (λ p. Holds × (p ≡ place))

-- of n entries, each with its reasons, the lowest that has one: its first
pub record LowestEntry (reasons : ℕ → List Reason) (n number place : ℕ) : Type 0 where
  pub entry : ℕ
  pub inside : entry < n
  pub its_first : FirstReason (reasons entry) number place
  pub none_before : (j : ℕ) → j < entry → NoReason (reasons j)

-- "the leading tree": the numbers begin with those of a tree over S, and it takes so many; nothing is said of what follows
pub record BeginsWith (S : ℕ) (numbers : List ℕ) (tree : Tree) (taken : ℕ) : Type 0 where
  pub over : Over S tree
  pub rest : List ℕ
  pub in_preorder : numbers ≡ preorder tree ++ rest
  pub took : taken ≡ length (preorder tree)

-- "the end of the tree" is among the first n numbers
pub record EndsWithin (S : ℕ) (numbers : List ℕ) (n : ℕ) : Type 0 where
  pub tree : Tree
  pub taken : ℕ
  pub begins : BeginsWith S numbers tree taken
  pub within : taken ≤ n

-- the first n numbers "hold neither a fault nor the end of the tree"
pub record GoesOn (S : ℕ) (numbers : List ℕ) (n : ℕ) : Type 0 where
  pub symbols : (j : ℕ) → j < n → get_or numbers j 0 < S
  pub not_ended : EndsWithin S numbers n → ⊥

-- "12, the first number not below S .., or the length if the tree has not ended"
pub data Fault (S : ℕ) (numbers : List ℕ) (place : ℕ) : Type 0 where
  not_below : GoesOn S numbers place → place < length numbers → S ≤ get_or numbers place 0 → Fault S numbers place
  cut_short : GoesOn S numbers place → place ≡ length numbers → Fault S numbers place

-- "the first 1,023 numbers hold neither a fault nor the end of the tree and more follow"
abbrev pub Endless : ℕ → List ℕ → Type 0
Endless S numbers = GoesOn S numbers most_numbers × (most_numbers < length numbers)

-- what is wrong with the document that numbers begin with, by the two numbers that tell it, with document 01's places
abbrev pub document_reasons : (endless faulty : ℕ) → ℕ → List ℕ → List Reason
document_reasons endless faulty S numbers = only endless (Endless S numbers) (length numbers) ∷ with_number faulty (Fault S numbers) ∷ []

-- "11 is given exactly if .."; then 12
abbrev pub leading_reasons : ℕ → List ℕ → List Reason
leading_reasons S numbers = document_reasons 11 12 S numbers

-- "Judging and running use the leading tree": "a document is its symbols in preorder, 1 to 1,023 numbers"
pub record LeadingDocument (S : ℕ) (numbers : List ℕ) (tree : Tree) (taken : ℕ) : Type 0 where
  pub begins : BeginsWith S numbers tree taken
  pub few : taken ≤ most_numbers

-- the numbers begin with a document
abbrev pub HasDocument : ℕ → List ℕ → Type 0
HasDocument S numbers = (tree : Tree) × (taken : ℕ) × LeadingDocument S numbers tree taken

-- what is read of numbers: exactly if they begin with a document nothing is refused, and which tree and how many numbers are read then
pub record ReadsLeading (S : ℕ) (numbers : List ℕ) : Type 0 where
  pub refuses : RefusesFor (leading_reasons S numbers) (leading_verdict S numbers)
  pub passes : (leading_verdict S numbers ≡ fine) ↔ HasDocument S numbers
  pub tree : (tree : Tree) (taken : ℕ) → LeadingDocument S numbers tree taken → leading_tree S numbers ≡ tree
  pub taken : (tree : Tree) (taken : ℕ) → LeadingDocument S numbers tree taken → numbers_taken S numbers ≡ taken

-- a document and nothing else: the leading tree takes all
abbrev pub DocumentOf : ℕ → List ℕ → Tree → Type 0
DocumentOf S numbers tree = LeadingDocument S numbers tree (length numbers)

-- "11, over 1,023 numbers (the length); 12, the first number not below S or after the tree has ended, or the length if the tree has
-- not ended"
abbrev pub whole_reasons : ℕ → List ℕ → List Reason
whole_reasons S numbers =
    only 11 (most_numbers < length numbers) (length numbers)
    ∷ with_number 12 (Fault S numbers)
    ∷ with_number 12 (λ place. ((tree : Tree) × LeadingDocument S numbers tree place) × (place < length numbers))
    ∷ []

-- what is read of numbers that are to be a document and nothing else
pub record ReadsWhole (S : ℕ) (numbers : List ℕ) : Type 0 where
  pub refuses : RefusesFor (whole_reasons S numbers) (whole_verdict S numbers)
  pub passes : (whole_verdict S numbers ≡ fine) ↔ ((tree : Tree) × DocumentOf S numbers tree)
  pub tree : (tree : Tree) → DocumentOf S numbers tree → document_tree numbers ≡ tree
  pub in_preorder : (tree : Tree) → DocumentOf S numbers tree → numbers ≡ preorder tree

-- "30 tag, 31 name, 32 child, 33 a reference not below the node, 34 unused field filled": the faults of node k
abbrev pub node_reasons : ℕ → List ℕ → ℕ → Node → List Reason
node_reasons S counts k n =
    only 30 (tag_wrong n ≡ true) k
    ∷ only 31 (name_wrong S counts n ≡ true) k
    ∷ only 32 (child_wrong n ≡ true) k
    ∷ only 33 (reference_wrong counts k n ≡ true) k
    ∷ only 34 (unused_filled counts n ≡ true) k
    ∷ []

module _ (C : Contract) where
  -- "Refusals, first that applies, lowest place"
  abbrev pub admission_reasons : List Reason
  admission_reasons =
      -- "1, a size out of range (place 0 to 3: symbols, input states, output states, procedures)"
      lowest 1 (size_wrong C.transformation.symbols C.input.states C.output.states (length C.transformation.counts)) 4
      -- "2, a table's length (place 0 to 5: input rows, input marks, output table, output marks, nodes, rules)"
      ∷ lowest 2
      (length_wrong C.transformation.symbols C.input.states C.output.states (length C.input.rows) (length C.input.marks)
      (length C.output.table)
      (length C.output.marks)
      (length C.transformation.nodes)
      (length C.transformation.rules))
      6
      -- "3, a bad input row (row)"
      ∷ lowest 3 (λ r. input_row_wrong C.transformation.symbols C.input.states (input_row C.input.rows r)) (input_row_count C.input.rows)
      -- "4, a mark above 1 or an output entry not below O (index through input marks, output table, output marks laid end to end)"
      ∷ lowest 4 (entry_wrong C.output.states C.input.marks C.output.table C.output.marks)
      (length C.input.marks + length C.output.table + length C.output.marks)
      -- "5, a parameter count above 2, or procedure 0 with parameters (procedure)"
      ∷ lowest 5 (count_wrong C.transformation.counts) (length C.transformation.counts)
      -- "Name the fault of the lowest bad node, in the order of the numbers below", "at 6's place in the order"
      ∷ LowestEntry (λ k. node_reasons C.transformation.symbols C.transformation.counts k (node_at C.transformation.nodes k))
      (node_count C.transformation.nodes)
      -- "7, a bad rule (rule)"
      ∷ lowest 7
      (λ r. rule_wrong C.transformation.symbols C.transformation.counts C.transformation.nodes (rule_at C.transformation.rules r))
      (rule_count C.transformation.rules)
      -- "8, over 256 facts (the total)"
      ∷ only 8 (most_facts < fact_total C.output.states C.transformation.counts) (fact_total C.output.states C.transformation.counts)
      ∷ []

  -- "1 to 8; then 9, the kind buffer is not five words (place 0); 11, ..; 12, .."
  abbrev pub judging_reasons : (numbers buffer : List ℕ) → List Reason
  judging_reasons numbers buffer = admission_reasons ++ (only 9 (length buffer ≡ 5 → ⊥) 0 ∷ leading_reasons C.transformation.symbols numbers)

  -- "1 to 8; then 9, the limit L is not 1 to 512, the row buffer not 3 × L numbers, or the word buffer not 5 × L words (place
  -- 0, 1, 2)"
  abbrev pub checking_reasons : ℕ → (row_buffer word_buffer : List ℕ) → List Reason
  checking_reasons L row_buffer word_buffer = admission_reasons ++ (lowest 9 (limit_wrong C L (length row_buffer) (length word_buffer)) 3 ∷ [])

  -- "1 to 8; 9, the row buffer's length is no multiple of three or above 12,288 (place 0); 11; 12"
  abbrev pub running_reasons : (numbers buffer : List ℕ) → List Reason
  running_reasons numbers buffer =
      admission_reasons ++ (only 9 (rows_wrong (length buffer) ≡ true) 0 ∷ leading_reasons C.transformation.symbols numbers)

-- "16, the length is no multiple of three or above 12,288 (place 0). 17, the first row with .. (that row). 18, the row number is too
-- large (that number). 19, the tree has more numbers than the buffer (place the buffer's length)."
abbrev pub writing_reasons : (rows : List ℕ) (row : ℕ) (buffer : List ℕ) → List Reason
writing_reasons rows row buffer =
    only 16 (rows_wrong (length rows) ≡ true) 0
    ∷ lowest 17 (λ k. row_wrong k (row_at rows k)) (row_count rows)
    ∷ only 18 (row_count rows ≤ row) row
    ∷ only 19 (length buffer < length (preorder (tree_at rows row))) (length buffer)
    ∷ []

-- an operation refuses for these reasons, the first that applies, and "these write nothing": the buffers are as they were lent
pub record Refuses (reasons : List Reason) (Answers : (number place : ℕ) → Type 0) (lent closing : List (List ℕ)) : Type 0 where
  pub exactly : (number place : ℕ) → Answers number place ↔ FirstReason reasons number place
  pub nothing_written : (number place : ℕ) → Answers number place → closing ≡ lent

-- "6 no longer occurs": the numbers by which admission refuses
pub data AdmissionNumber (number : ℕ) : Type 0 where
  to_5 : 1 ≤ number → number ≤ 5 → AdmissionNumber number
  of_node : 30 ≤ number → number ≤ 34 → AdmissionNumber number
  of_rules_and_facts : 7 ≤ number → number ≤ 8 → AdmissionNumber number

-- "13, no rule (procedure); 14, a row is due and none is free ..; 15, a call past 65,536", or past 4,096
abbrev pub NotOfRun : ℕ → Type 0
NotOfRun number = 13 ≤ number → number ≤ 15 → ⊥

-- the answer is not refusal 10 with a place alone
abbrev pub NotTen : Answer → Type 0
NotTen answer = (place : ℕ) → answer ≡ refusal 10 place → ⊥

-- "a refusal carries a number and a place and leaves the lent buffers as document 01 states": the refusals of the five operations,
-- but for checking's 10, which is an answer of its own, and running's 13 to 15; these come of the work itself
pub record OperationRefusals : Type 0 where
  pub of_admission : (C : Contract) → Refuses (admission_reasons C) (λ number place. admit C ≡ refusal number place) [] []
  pub of_judging : (C : Contract) (numbers buffer : List ℕ)
      → Refuses (judging_reasons C numbers buffer) (λ number place. (judging C numbers buffer).answer ≡ refusal number place) (buffer ∷ [])
      ((judging C numbers buffer).words ∷ [])
  pub of_checking : (C : Contract) (L : ℕ) (row_buffer word_buffer : List ℕ)
      → Refuses (checking_reasons C L row_buffer word_buffer) (λ number place. (checking C L row_buffer word_buffer).answer ≡ refusal number place)
      (row_buffer ∷ word_buffer ∷ [])
      ((checking C L row_buffer word_buffer).rows ∷ (checking C L row_buffer word_buffer).words ∷ [])
  pub of_running : (C : Contract) (numbers buffer : List ℕ)
      → Refuses (running_reasons C numbers buffer) (λ number place. ((running C numbers buffer).answer ≡ refusal number place) × NotOfRun number)
      (buffer ∷ [])
      ((running C numbers buffer).rows ∷ [])
  pub of_writing_out : (rows : List ℕ) (row : ℕ) (buffer : List ℕ)
      → Refuses (writing_reasons rows row buffer) (λ number place. (writing_out rows row buffer).answer ≡ refusal number place) (buffer ∷ [])
      ((writing_out rows row buffer).numbers ∷ [])
  -- so 10 is the number of a stop alone
  pub admission_not_ten : (C : Contract) → NotTen (admit C)
  pub judging_not_ten : (C : Contract) (numbers buffer : List ℕ) → NotTen (judging C numbers buffer).answer
  pub checking_not_ten : (C : Contract) (L : ℕ) (row_buffer word_buffer : List ℕ) → NotTen (checking C L row_buffer word_buffer).answer
  pub running_not_ten : (C : Contract) (numbers buffer : List ℕ) → NotTen (running C numbers buffer).answer
  pub writing_not_ten : (rows : List ℕ) (row : ℕ) (buffer : List ℕ) → NotTen (writing_out rows row buffer).answer
