-- Other contracts: change request W-208 brings stay rules and says that "other contracts keep their answers". What it changed is said here
-- as it was before, with document 01's sentences; what it left alone is cited. proofs/Meaning/OtherContracts.antt proves the theorem,
-- `other_contracts : (C : Contract) → WithoutStays C → KeepsAnswers C`.
use Rattle.std.specs.Prelude.{◌≡◌, Bool, false, not, ◌&&◌, ◌||◌, List, [], map, ◌↔◌, ℕ, suc, ◌+◌, ◌*◌, ◌<◌, min, eqb, ltb, leb, length, take}
use Rattle.foundation.specs.Tests.{choose}
use Rattle.foundation.specs.Search.{first, greatest}
use Rattle.foundation.specs.Lists.{same_list}
use Rattle.model.specs.Trees.{Tree, empty, node, root_symbol, every_tree}
use Rattle.model.specs.Documents.{numbers_taken, leading_tree, leading_verdict}
use Rattle.model.specs.Rows.{row_count}
use Rattle.model.specs.Tables.{Contract, Transformation, Node, node_at, node_count, Rule, rule_at, rule_count, count_of}
use Rattle.model.specs.Expressions.{Child, stays, expression, greatest_parameter, holds_call, holds_call_to}
use Rattle.model.specs.Answers.{Verdict, refuse_if, refuse_first, refuse_lowest, ◌then◌, judged, tree, pass, refusal, stopped, given}
use Rattle.model.specs.Admission.{outside, tag_wrong, name_wrong, reference_wrong, unused_filled, sizes, lengths, input_rows, entries, counts, facts, admission}
use Rattle.model.specs.Outputs.{Algebra, right_side, Gives, Makes}
use Rattle.model.specs.Facts.{on_side}
use Rattle.model.specs.Kinds.{leaf_kind, symbol_kind, kind_of}
use Rattle.model.specs.Rounds.{TreeAutomaton, Listed, lists, listing, kind_automaton, ListedKind}
use Rattle.model.specs.Judging.{Judged, judgement, judging}
use Rattle.model.specs.Checking.{Checked, standing, first_breaking, limit_wrong, checking}
use Rattle.model.specs.Running.{Work, Step, made, refused, ◌after◌, first_rule, count_call, Runs, no_runs, evaluate, run, Ran, closing, rows_wrong, running}
use Rattle.model.specs.Claims.{Admitted}
use Rattle.model.specs.Examining.{most_kinds, sent_kind, holds, symbol_at, left_at, right_at, sent_combinations, length_verdict, breaking_verdict, examining}

-- a contract without stay rules: no rule "has symbol S"; and no call has "child 0", which was 32 in whatever rule
pub record WithoutStays (C : Contract) : Type 0 where
  pub rules : (r : ℕ) → r < rule_count C.transformation.rules → (rule_at C.transformation.rules r).symbol ≡ C.transformation.symbols → ⊥
  pub calls : (k : ℕ) → k < node_count C.transformation.nodes → (node_at C.transformation.nodes k).tag ≡ 2
      → (node_at C.transformation.nodes k).child ≡ 0
      → ⊥

-- Admission, before

-- "Tag 2 calls procedure name on child 1 (left) or 2 (right)"
abbrev pub child_wrong_before : Node → Bool
child_wrong_before n = eqb n.tag 2 && outside 1 2 n.child

-- "30 tag, 31 name, 32 child, 33 a reference not below the node, 34 unused field filled" (W-203)
unfoldable pub node_fault_before : ℕ → List ℕ → ℕ → Node → Verdict
node_fault_before S counts k n =
    refuse_if (tag_wrong n) 30 k
    then refuse_if (name_wrong S counts n) 31 k
    then refuse_if (child_wrong_before n) 32 k
    then refuse_if (reference_wrong counts k n) 33 k
    then refuse_if (unused_filled counts n) 34 k

-- "each (procedure, symbol, node). The node uses, directly or below, no parameter above the procedure's count; under symbol 0 it holds no
-- call."
abbrev pub rule_wrong_before : ℕ → (counts nodes : List ℕ) → Rule → Bool
rule_wrong_before S counts nodes r =
    leb (length counts) r.procedure || leb S r.symbol || leb (node_count nodes) r.node
    || ltb (count_of counts r.procedure) (greatest_parameter (expression counts nodes r.node))
    || (eqb r.symbol 0 && holds_call (expression counts nodes r.node))

module _ (C : Contract) where
  unfoldable pub nodes_before : Verdict
  nodes_before =
      refuse_lowest (λ k. node_fault_before C.transformation.symbols C.transformation.counts k (node_at C.transformation.nodes k))
      (node_count C.transformation.nodes)

  -- "7, a bad rule (rule)"
  unfoldable pub rules_before : Verdict
  rules_before =
      refuse_first 7
      (λ r. rule_wrong_before C.transformation.symbols C.transformation.counts C.transformation.nodes (rule_at C.transformation.rules r))
      (rule_count C.transformation.rules)

  -- "Refusals, first that applies, lowest place"
  unfoldable pub admission_before : Verdict
  admission_before = sizes C then lengths C then input_rows C then entries C then counts C then nodes_before then rules_before then facts C

-- Outputs, kinds and runs, before

-- "The outputs of a procedure on a tree with given parameter trees are the union over its rules for the root symbol."
abbrev pub RootOutputs : (T : Transformation) (A : Algebra) → ℕ → Tree → List A.Carrier → A.Carrier → Type 0
RootOutputs T A p t ws u =
    (r : ℕ) × (r < rule_count T.rules)
    × ((rule_at T.rules r).procedure ≡ p)
    × ((rule_at T.rules r).symbol ≡ root_symbol t)
    × Makes T A (right_side T r) t ws u

module _ (C : Contract) where
  -- "The kind of a tree is five 64-bit words": what the rules of its root symbol make over the kinds of its children
  unfoldable pub kind_before : Tree → List ℕ
  kind_before empty = leaf_kind C
  kind_before (node s l r) = symbol_kind C s (kind_before l) (kind_before r)

  -- "Kinds are listed in rounds.": as the states of this automaton
  abbrev pub automaton_before : TreeAutomaton
  automaton_before = record { State = List ℕ; initial = leaf_kind C; next = symbol_kind C; equal = same_list; symbols = C.transformation.symbols }

-- "taking for each call the first rule listed"; "13, no rule (procedure)"
unfoldable pub seek_before : Transformation → (procedure symbol : ℕ) → Work → Step ℕ
seek_before T p s w = choose (ltb (first_rule T.rules p s) (rule_count T.rules)) (made (first_rule T.rules p s) w) (refused 13 p)

module _ (T : Transformation) (free : ℕ) where
  -- "the call is counted, the start included, then its rule sought"; "15, a call past 65,536 (place 65,536)"
  unfoldable pub call_before : (Child → Runs) → ℕ → Runs
  call_before runs s p ws w = count_call 65536 w after λ one w₁. seek_before T p s w₁ after λ r w₂. evaluate T free runs (right_side T r) ws w₂

  -- "Running a procedure evaluates its right side, which runs procedures on the children."
  unfoldable pub run_on_before : Tree → Runs
  run_on_before empty = call_before (λ c. no_runs) 0
  run_on_before (node s l r) = call_before (on_side (run_on_before l) (run_on_before r)) s

-- "Procedure 0 is then called on the tree"
unfoldable pub run_before : Transformation → ℕ → Tree → Step ℕ
run_before T free t = run_on_before T free t 0 [] (record { tally = record { used = 0; calls = 0 }; rows = [] })

-- what an admitted contract means is as it was
pub record KeepsMeaning (C : Contract) : Type 1 where
  -- outputs over any algebra; the calls of a rule go to the children, so that `outputs` and `children` settle them from the leaves up
  pub outputs : (A : Algebra) (p : ℕ) (t : Tree) (ws : List A.Carrier) (u : A.Carrier)
      → Gives C.transformation A p t ws u ↔ RootOutputs C.transformation A p t ws u
  pub children : (r : ℕ) → r < rule_count C.transformation.rules → holds_call_to stays (right_side C.transformation r) ≡ false
  -- kinds, and their list
  pub kinds : (t : Tree) → kind_of C t ≡ kind_before C t
  pub automaton : kind_automaton C ≡ automaton_before C
  pub runs : (free : ℕ) (t : Tree) → run C.transformation free t ≡ run_before C.transformation free t

-- The operations, before: by these

module _ (C : Contract) where
  unfoldable pub judging_before : (numbers buffer : List ℕ) → Judged
  judging_before numbers buffer =
      let S : ℕ = C.transformation.symbols in
      let kind : List ℕ = kind_before C (leading_tree S numbers) in
      given (admission_before C then refuse_if (not (eqb (length buffer) 5)) 9 0 then leading_verdict S numbers)
      (λ number place. record { answer = refusal number place; words = buffer })
      (record { answer = judged (judgement C kind) (numbers_taken S numbers); words = kind })

  -- the list of kinds, its rows as `standing` takes them
  abbrev pub rows_before : ℕ → List (ListedKind C)
  rows_before L =
      map
      (λ (row : Listed (automaton_before C)). record { symbol = row.symbol; left = row.left; right = row.right; state = row.state })
      (listing (automaton_before C) L)

  -- "the greatest height h such that every tree of height h or less has its kind among the first L" (W-214)
  unfoldable pub stop_height_before : ℕ → ℕ
  stop_height_before L =
      greatest
      (λ h. every_tree C.transformation.symbols h (λ t. lists (automaton_before C) (take L (listing (automaton_before C) L)) (kind_before C t)))
      L

  unfoldable pub check_before : ℕ → Checked
  check_before L =
      let n : ℕ = min L (length (rows_before L)) in
      let j : ℕ = first_breaking C (rows_before L) n in
      choose (ltb j n) (standing C L (tree j) (take (suc j) (rows_before L)))
      (choose (ltb L (length (rows_before L))) (standing C L (stopped L (stop_height_before L)) [])
      (standing C L (pass (length (rows_before L))) (rows_before L)))

  unfoldable pub checking_before : ℕ → (row_buffer word_buffer : List ℕ) → Checked
  checking_before L row_buffer word_buffer =
      given (admission_before C then refuse_first 9 (limit_wrong C L (length row_buffer) (length word_buffer)) 3)
      (λ number place. record { answer = refusal number place; rows = row_buffer; words = word_buffer })
      (check_before L)

  unfoldable pub running_before : (numbers buffer : List ℕ) → Ran
  running_before numbers buffer =
      let S : ℕ = C.transformation.symbols in
      given (admission_before C then refuse_if (rows_wrong (length buffer)) 9 0 then leading_verdict S numbers)
      (λ number place. record { answer = refusal number place; rows = buffer })
      (closing (length buffer) (numbers_taken S numbers) (run_before C.transformation (row_count buffer) (leading_tree S numbers)))

  module _ (words : List ℕ) where
    -- "the kind of every symbol over every two listed kinds" (W-211): the first that is not held
    unfoldable pub first_not_held_before : ℕ
    first_not_held_before =
        first (λ c. not (holds C words (symbol_kind C (symbol_at C words c) (sent_kind C words (left_at C words c)) (sent_kind C words (right_at C words c)))))
        (sent_combinations C words)

    unfoldable pub examining_before : Verdict
    examining_before =
        let c : ℕ = first_not_held_before in
        admission_before C
        then length_verdict C words
        then refuse_if (not (holds C words (leaf_kind C))) 71 0
        then refuse_if (ltb c (sent_combinations C words)) 72 ((symbol_at C words c * most_kinds + left_at C words c) * most_kinds + right_at C words c)
        then breaking_verdict C words

-- "other contracts keep their answers": the verdict of admission, and of each operation the answer with the closing buffers, whatever was
-- handed in
pub record KeepsAnswers (C : Contract) : Type 1 where
  pub admits : admission C ≡ admission_before C
  pub means : Admitted C → KeepsMeaning C
  pub judges : (numbers buffer : List ℕ) → judging C numbers buffer ≡ judging_before C numbers buffer
  pub checks : (L : ℕ) (row_buffer word_buffer : List ℕ) → checking C L row_buffer word_buffer ≡ checking_before C L row_buffer word_buffer
  pub runs : (numbers buffer : List ℕ) → running C numbers buffer ≡ running_before C numbers buffer
  pub examines : (words : List ℕ) → examining C words ≡ examining_before C words
