-- What the answers of judging, checking and running mean for all trees, as statements. proofs/Meaning proves them.
use Rattle.std.specs.Prelude.{◌≡◌, false, List, [], ◌∷◌, ◌++◌, map, ◌↔◌, ℕ, suc, ◌*◌, ◌<◌, ◌≤◌, T, length, get_or, take, drop, replicate}
use Rattle.model.specs.Trees.{Tree, height, Over, OneRoot, preorder}
use Rattle.model.specs.Documents.{most_numbers, All, preorders}
use Rattle.model.specs.Rows.{row_count, tree_at}
use Rattle.model.specs.Tables.{Contract}
use Rattle.model.specs.Answers.{Answer, judged, tree, pass, refusal, stopped, taken_by_answer}
use Rattle.model.specs.Kinds.{empty_kind, kind_of, breaks}
use Rattle.model.specs.Rounds.{kind_automaton, ListedKind, kind_at, rounds}
use Rattle.model.specs.Checking.{greatest_limit, Checked, standing, checking}
use Rattle.model.specs.Judging.{Judged, judging}
use Rattle.model.specs.Outputs.{Output}
use Rattle.model.specs.Running.{most_calls, running}
use Rattle.model.specs.Refusals.{LeadingDocument, judging_reasons, Refuses}
use Rattle.model.specs.Claims.{Takes, Breaks, Admitted}

-- the trees that a contract speaks of: those over its symbols
abbrev pub TreeOf : Contract → Tree → Type 0
TreeOf C t = Over C.transformation.symbols t

-- "0, not of the input type; 1, of it with no output outside the output type; 2, of it with such an output"; "0 for any other tree" than
-- one of one root
pub record Judges (C : Contract) (t : Tree) (result : ℕ) : Type 0 where
  pub zero : (result ≡ 0) ↔ (Takes C t → ⊥)
  pub one : (result ≡ 1) ↔ (Takes C t × (Breaks C t → ⊥))
  pub two : (result ≡ 2) ↔ Breaks C t

-- when judging gives a result, and which: "Otherwise the kind is written and the result is 0, .. 1, .. 2"; it is that of the document
-- that the numbers begin with, and comes with how many numbers that took
pub record JudgedMeans (C : Contract) (numbers buffer : List ℕ) (result taken : ℕ) : Type 0 where
  pub is_admitted : Admitted C
  pub five_words : length buffer ≡ 5
  pub document : Tree
  pub leads : LeadingDocument C.transformation.symbols numbers document taken
  pub judges : Judges C document result

pub data JudgedOrRefused (answer : Answer) : Type 0 where
  is_judged : (result taken : ℕ) → answer ≡ judged result taken → JudgedOrRefused answer
  is-refused : (number place : ℕ) → answer ≡ refusal number place → JudgedOrRefused answer

-- what an answer of judging and the closing words say of the numbers handed in; of a refusal see `OperationRefusals`
pub record JudgingMeans (C : Contract) (numbers buffer : List ℕ) (answer : Answer) (words : List ℕ) : Type 0 where
  pub judged_or_refused : JudgedOrRefused answer
  pub judged_exactly : (result taken : ℕ) → (answer ≡ judged result taken) ↔ JudgedMeans C numbers buffer result taken
  pub kind_written : (result taken : ℕ) → answer ≡ judged result taken → (t : Tree) → LeadingDocument C.transformation.symbols numbers t taken
      → words ≡ kind_of C t
  -- "judging gives 0 for any other tree" (change request W-202): for one that has not one root
  pub others_zero : (result taken : ℕ) → answer ≡ judged result taken → (t : Tree) → LeadingDocument C.transformation.symbols numbers t taken
      → (OneRoot t → ⊥)
      → result ≡ 0
  pub refuses : Refuses (judging_reasons C numbers buffer) (λ number place. answer ≡ refusal number place) (buffer ∷ []) (words ∷ [])

-- a tree whose numbers are a document: "1 to 1,023 numbers"
abbrev pub IsDocument : Contract → Tree → Type 0
IsDocument C t = TreeOf C t × (length (preorder t) ≤ most_numbers)

-- "Collectors' buffers hold many documents." (W-205): judgements one after another on one buffer, each of what stands behind the tree of
-- the one before, with five words lent
abbrev pub InTurn : Contract → (numbers : List ℕ) → List Judged → Type 0
InTurn C numbers [] = Unit {0}
InTurn C numbers (j ∷ js) =
    ((buffer : List ℕ) × (length buffer ≡ 5) × (j ≡ judging C numbers buffer)) × InTurn C (drop (taken_by_answer j.answer) numbers) js

-- of an admitted contract: judgements in turn on documents laid end to end are, in their order, those of each document alone, whatever
-- stands behind them and whatever the words held
abbrev pub JudgesInTurn : Contract → (documents : List Tree) (rest : List ℕ) → List Judged → Type 0
JudgesInTurn C documents rest js =
    Admitted C → All (IsDocument C) documents → length js ≡ length documents → InTurn C (preorders documents ++ rest) js
    → (words : List ℕ) → length words ≡ 5 → js ≡ map (λ (t : Tree). judging C (preorder t) words) documents

-- a document is judged as it is alone, and run as it is alone, whatever follows it
abbrev pub JudgedAlone : Contract → Tree → (rest buffer : List ℕ) → Type 0
JudgedAlone C t rest buffer = Admitted C → IsDocument C t → judging C (preorder t ++ rest) buffer ≡ judging C (preorder t) buffer

abbrev pub RunAlone : Contract → Tree → (rest buffer : List ℕ) → Type 0
RunAlone C t rest buffer = Admitted C → IsDocument C t → running C (preorder t ++ rest) buffer ≡ running C (preorder t) buffer

-- lists, read with a default that no statement depends on: no entry stands twice; an entry stands there
pub record AllDiffer {A : Type 0} (default : A) (entries : List A) : Type 0 where
  pub differ : (i j : ℕ) → i < j → j < length entries → get_or entries i default ≡ get_or entries j default → ⊥

pub record Among {A : Type 0} (default : A) (entries : List A) (a : A) : Type 0 where
  pub index : ℕ
  pub inside : index < length entries
  pub found : get_or entries index default ≡ a

-- a list of kinds, each that of some tree, none twice
pub record TreeKinds (C : Contract) (kinds : List (List ℕ)) : Type 0 where
  pub all_differ : AllDiffer (empty_kind C) kinds
  pub of_trees : (i : ℕ) → i < length kinds → (t : Tree) × TreeOf C t × (kind_of C t ≡ get_or kinds i (empty_kind C))

-- there are n kinds
pub record KindCount (C : Contract) (n : ℕ) : Type 0 where
  pub kinds : List (List ℕ)
  pub count : length kinds ≡ n
  pub are_kinds : TreeKinds C kinds
  pub all : (t : Tree) → TreeOf C t → Among (empty_kind C) kinds (kind_of C t)

-- there are more than n kinds
pub record MoreKinds (C : Contract) (n : ℕ) : Type 0 where
  pub kinds : List (List ℕ)
  pub more : n < length kinds
  pub are_kinds : TreeKinds C kinds

-- the list of kinds after rounds 0 to h
abbrev pub kind_rounds : (C : Contract) → ℕ → List (ListedKind C)
kind_rounds C h = rounds (kind_automaton C) h

-- none of the first n rows breaks the contract
pub record NoneBreaks (C : Contract) (n : ℕ) (rows : List (ListedKind C)) : Type 0 where
  pub keeps : (i : ℕ) → i < n → i < length rows → breaks C (kind_at C rows i) ≡ false

-- "none of the first L breaks": in no list of the rounds
abbrev pub FirstKeep : Contract → ℕ → Type 0
FirstKeep C L = (h : ℕ) → NoneBreaks C L (kind_rounds C h)

-- "row j, below L, is the first breaking kind"
pub record FirstBreaks (C : Contract) (L j : ℕ) : Type 0 where
  pub round : ℕ
  pub below_limit : j < L
  pub inside : j < length (kind_rounds C round)
  pub breaking : T (breaks C (kind_at C (kind_rounds C round) j))
  pub none_before : NoneBreaks C j (kind_rounds C round)

-- "no tree breaks" the contract
abbrev pub NoTreeBreaks : Contract → Type 0
NoTreeBreaks C = (t : Tree) → TreeOf C t → Breaks C t → ⊥

-- what a pass with count n under limit L says
pub record PassMeans (C : Contract) (L n : ℕ) : Type 0 where
  pub keeps : NoTreeBreaks C
  pub counted : KindCount C n
  pub within_limit : n ≤ L

-- a tree that breaks the contract, so that it has one root, and "no lower one does"
pub record LeastBreaking (C : Contract) (t : Tree) : Type 0 where
  pub over : TreeOf C t
  pub one_root : OneRoot t
  pub breaking : Breaks C t
  pub least : (other : Tree) → TreeOf C other → Breaks C other → height t ≤ height other

-- "if there are more than L kinds and none of the first L breaks"
pub record Stops (C : Contract) (L : ℕ) : Type 0 where
  pub more_kinds : MoreKinds C L
  pub first_keep : FirstKeep C L

-- "its kind among the first L": row `row` of the list has it
pub record AmongFirst (C : Contract) (L : ℕ) (kind : List ℕ) : Type 0 where
  pub round : ℕ
  pub row : ℕ
  pub below_limit : row < L
  pub inside : row < length (kind_rounds C round)
  pub found : kind_at C (kind_rounds C round) row ≡ kind

-- "every tree of height h or less has its kind among the first L"
abbrev pub AllAmongFirst : Contract → (L h : ℕ) → Type 0
AllAmongFirst C L h = (t : Tree) → TreeOf C t → height t ≤ h → AmongFirst C L (kind_of C t)

-- what refusal 10 under limit L with height h says: "the greatest height h such that every tree of height h or less has its kind among the
-- first L" (change request W-214)
pub record StopMeans (C : Contract) (L h : ℕ) : Type 0 where
  pub stops : Stops C L
  pub all_among : AllAmongFirst C L h
  pub is_greatest : (k : ℕ) → AllAmongFirst C L k → k ≤ h

-- the limit holds the list of round h, and not that of the next, which lists the first kind left out
pub record LastHeld (C : Contract) (L h : ℕ) : Type 0 where
  pub held : length (kind_rounds C h) ≤ L
  pub left_out : L < length (kind_rounds C (suc h))

-- what follows from refusal 10 under limit L with height h
pub record StopTells (C : Contract) (L h : ℕ) : Type 0 where
  -- "no document of height h or less breaks the contract"
  pub none_low : (t : Tree) → TreeOf C t → height t ≤ h → Breaks C t → ⊥
  -- h is the round before the one that lists the first kind left out
  pub last_held : LastHeld C L h

-- "buffers of its limit's length", "No limit exceeds 512."
pub record Fits (L : ℕ) (row_buffer word_buffer : List ℕ) : Type 0 where
  pub at_least : 1 ≤ L
  pub at_most : L ≤ greatest_limit
  pub rows : length row_buffer ≡ 3 * L
  pub words : length word_buffer ≡ 5 * L

-- "each check with buffers of its limit's length, whatever they held": a limit and what is lent with it
pub record Lent : Type 0 where
  pub limit : ℕ
  pub row_buffer : List ℕ
  pub word_buffer : List ℕ
  pub fits : Fits limit row_buffer word_buffer

-- "its answer and closing buffers being those stated under Checking"
abbrev pub check_of : Contract → Lent → Checked
check_of C lent = checking C lent.limit lent.row_buffer lent.word_buffer

-- an answer of a check that is not refused
pub data OneOfThree (L : ℕ) (answer : Answer) : Type 0 where
  is_pass : (n : ℕ) → answer ≡ pass n → OneOfThree L answer
  is_tree : (j : ℕ) → answer ≡ tree j → OneOfThree L answer
  is_stop : (h : ℕ) → answer ≡ stopped L h → OneOfThree L answer

-- Demand 2, for checking: "A contract passes exactly if no tree of the input type has an output outside the output type and
-- its kinds number at most the caller's limit, 512 at most. A document shown breaks the contract, and no lower one does. The
-- check stops at its limit only as document 01 says."; "Pass, breaking document and least height speak of one-root trees only." (W-202),
-- as `Takes` does, while the kinds counted are those of all trees
pub record CheckMeans (C : Contract) (lent : Lent) : Type 0 where
  pub one_of_three : OneOfThree lent.limit (check_of C lent).answer
  pub pass_exactly : (n : ℕ) → ((check_of C lent).answer ≡ pass n) ↔ PassMeans C lent.limit n
  pub tree_exactly : (j : ℕ) → ((check_of C lent).answer ≡ tree j) ↔ FirstBreaks C lent.limit j
  pub tree_least : (j : ℕ) → (check_of C lent).answer ≡ tree j → LeastBreaking C (tree_at (check_of C lent).rows j)
  pub stop_exactly : (h : ℕ) → ((check_of C lent).answer ≡ stopped lent.limit h) ↔ StopMeans C lent.limit h
  pub stop_tells : (h : ℕ) → (check_of C lent).answer ≡ stopped lent.limit h → StopTells C lent.limit h
  -- the rows and words that stand are those of the rounds
  pub pass_rows : (n : ℕ) → (check_of C lent).answer ≡ pass n → check_of C lent ≡ standing C lent.limit (pass n) (kind_rounds C lent.limit)
  pub tree_rows : (j : ℕ) → (check_of C lent).answer ≡ tree j
      → check_of C lent ≡ standing C lent.limit (tree j) (take (suc j) (kind_rounds C lent.limit))
  pub stop_rows : (h : ℕ) → (check_of C lent).answer ≡ stopped lent.limit h → check_of C lent ≡ standing C lent.limit (stopped lent.limit h) []

-- "a larger limit, if it stops too, never gives a smaller h" (W-214)
abbrev pub LargerLimitStop : Contract → (first second : Lent) → Type 0
LargerLimitStop C first second =
    first.limit ≤ second.limit
    → (h k : ℕ) → (check_of C first).answer ≡ stopped first.limit h → (check_of C second).answer ≡ stopped second.limit k → h ≤ k

-- "root row and rows used come back"; "The tree is one of the outputs defined above.": what the answer of a run says, of the document
-- that the numbers begin with
pub record RanOutput (C : Contract) (numbers buffer : List ℕ) (root used taken : ℕ) : Type 0 where
  pub document : Tree
  pub leads : LeadingDocument C.transformation.symbols numbers document taken
  pub output : Output C.transformation 0 document [] (tree_at (running C numbers buffer).rows root)
  pub inside : root < used
  pub room : used ≤ row_count buffer

-- why a run refuses: no rule, no row free, too many calls
pub data RunRefusal (procedures free most number place : ℕ) : Type 0 where
  no_rule : number ≡ 13 → place < procedures → RunRefusal procedures free most number place
  no_row : number ≡ 14 → place ≡ free → RunRefusal procedures free most number place
  too_many_calls : number ≡ 15 → place ≡ most → RunRefusal procedures free most number place

-- "Whichever comes first in that order of work is given, and the buffer is then all 0."
pub record RunRefused (C : Contract) (numbers buffer : List ℕ) (number place : ℕ) : Type 0 where
  pub reason : RunRefusal (length C.transformation.counts) (row_count buffer) (most_calls C.transformation) number place
  pub cleared : (running C numbers buffer).rows ≡ replicate (length buffer) 0
