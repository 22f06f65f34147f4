-- Admission: the refusal's number and place as a function of whatever was handed in. What is said of a bad node (30 to 34) quotes change
-- request W-203, which put it in the place of document 01's refusal 6.
use Rattle.std.specs.Prelude.{◌≡◌, Bool, false, ◌&&◌, ◌||◌, not, List, [], ◌∷◌, ℕ, ◌+◌, ◌*◌, ◌-◌, ◌%◌, ◌<◌, ◌≤◌, eqb, ltb, leb, length, get_or}
use Rattle.foundation.specs.Tests.{choose}
use Rattle.model.specs.Tables.{Contract, InputRow, input_row, input_row_count, Node, node_at, node_count, Rule, rule_at, rule_count, count_of, mark_at}
use Rattle.model.specs.Expressions.{stays, moves, Expression, expression, greatest_parameter, holds_call, holds_call_to}
use Rattle.model.specs.Facts.{fact_total}
use Rattle.model.specs.Answers.{Verdict, refuse_if, refuse_first, refuse_lowest, ◌then◌, Answer, admitted, refusal, given}

abbrev pub outside : (least most : ℕ) → ℕ → Bool
outside least most n = ltb n least || ltb most n

-- "Symbols S, 1 to 16. Input states I, 1 to 32. Output states O, 1 to 4. Procedures P, 1 to 16"
abbrev pub size_wrong : (S I O P : ℕ) → ℕ → Bool
size_wrong S I O P place = get_or (outside 1 16 S ∷ outside 1 32 I ∷ outside 1 4 O ∷ outside 1 16 P ∷ []) place false

-- "a length that is not a whole number of tuples, or is over the most named here, is a wrong length"
abbrev pub tuples_wrong : (width most : ℕ) → ℕ → Bool
tuples_wrong width most n = not (eqb (n % width) 0) || ltb (width * most) n

-- "Length 1 + (S − 1) × O × O."
abbrev pub table_length : (S O : ℕ) → ℕ
table_length S O = 1 + (S - 1) * O * O

-- "a table's length (place 0 to 5: input rows, input marks, output table, output marks, nodes, rules)"
abbrev pub length_wrong : (S I O : ℕ) (input_rows input_marks output_table output_marks nodes rules : ℕ) → ℕ → Bool
length_wrong S I O input_rows input_marks output_table output_marks nodes rules place =
    get_or
    (tuples_wrong 4 512 input_rows
    ∷ not (eqb input_marks I)
    ∷ not (eqb output_table (table_length S O))
    ∷ not (eqb output_marks O)
    ∷ tuples_wrong 5 256 nodes
    ∷ tuples_wrong 3 256 rules
    ∷ [])
    place false

-- "rows (state, symbol, left state, right state); for symbol 0 both child states are 0"
abbrev pub input_row_wrong : (S I : ℕ) → InputRow → Bool
input_row_wrong S I row =
    leb I row.state || leb S row.symbol || leb I row.left || leb I row.right
    || (eqb row.symbol 0 && not (eqb row.left 0 && eqb row.right 0))

-- "a mark above 1 or an output entry not below O (index through input marks, output table, output marks laid end to end)"
abbrev pub entry_wrong : ℕ → (input_marks output_table output_marks : List ℕ) → ℕ → Bool
entry_wrong O input_marks output_table output_marks k =
    choose (ltb k (length input_marks)) (ltb 1 (mark_at input_marks k))
    (choose (ltb k (length input_marks + length output_table)) (leb O (get_or output_table (k - length input_marks) 0))
    (ltb 1 (mark_at output_marks (k - (length input_marks + length output_table)))))

-- "a parameter count above 2, or procedure 0 with parameters"
abbrev pub count_wrong : List ℕ → ℕ → Bool
count_wrong counts p = ltb 2 (count_of counts p) || (eqb p 0 && not (eqb (count_of counts p) 0))

-- how many smaller nodes a node refers to: two below an output symbol other than 0, below a call one for each parameter
abbrev pub references : List ℕ → Node → ℕ
references counts n =
    choose (eqb n.tag 1) (choose (eqb n.name 0) 0 2) (choose (eqb n.tag 2) (count_of counts n.name) 0)

-- "30 tag": "Tag 0 is parameter name", "Tag 1 is output symbol name", "Tag 2 calls procedure name"
abbrev pub tag_wrong : Node → Bool
tag_wrong n = ltb 2 n.tag

-- "31 name": "parameter name, 1 or 2", "output symbol name", "calls procedure name"
abbrev pub name_wrong : ℕ → List ℕ → Node → Bool
name_wrong S counts n =
    choose (eqb n.tag 0) (outside 1 2 n.name) (choose (eqb n.tag 1) (leb S n.name) (leb (length counts) n.name))

-- "32 child": "on child 1 (left) or 2 (right)", and "Only a call's child is 32"; "a call's child 0 is no longer 32" (change request W-208)
abbrev pub child_wrong : Node → Bool
child_wrong n = eqb n.tag 2 && ltb 2 n.child

-- field i of a node that uses so many of the two, its first and its second: it is used and no smaller node number
abbrev pub field_wrong : (used i k field : ℕ) → Bool
field_wrong used i k field = leb i used && leb k field

-- it is not used and not 0
abbrev pub field_filled : (used i field : ℕ) → Bool
field_filled used i field = ltb used i && not (eqb field 0)

-- "elsewhere a filled child is 34"
abbrev pub child_filled : Node → Bool
child_filled n = not (eqb n.tag 2) && not (eqb n.child 0)

-- "33 a reference not below the node": "smaller node numbers"
abbrev pub reference_wrong : List ℕ → ℕ → Node → Bool
reference_wrong counts k n = field_wrong (references counts n) 1 k n.first || field_wrong (references counts n) 2 k n.second

-- "34 unused field filled": "unused fields 0"
abbrev pub unused_filled : List ℕ → Node → Bool
unused_filled counts n = child_filled n || field_filled (references counts n) 1 n.first || field_filled (references counts n) 2 n.second

-- what is wrong with node k, "in the order of the numbers"
unfoldable pub node_fault : ℕ → List ℕ → ℕ → Node → Verdict
node_fault S counts k n =
    refuse_if (tag_wrong n) 30 k
    then refuse_if (name_wrong S counts n) 31 k
    then refuse_if (child_wrong n) 32 k
    then refuse_if (reference_wrong counts k n) 33 k
    then refuse_if (unused_filled counts n) 34 k

-- "Name the fault of the lowest bad node"
unfoldable pub lowest_node_fault : (S : ℕ) (counts nodes : List ℕ) → Verdict
lowest_node_fault S counts nodes = refuse_lowest (λ k. node_fault S counts k (node_at nodes k)) (node_count nodes)

-- "its arguments, as many as the procedure's parameters, are smaller node numbers, unused fields 0": the field of argument i
abbrev pub ArgumentField : (parameters i k field : ℕ) → Type 0
ArgumentField parameters i k field = (i ≤ parameters → field < k) × (parameters < i → field ≡ 0)

-- node k without a fault: "Tag 0 is parameter name, 1 or 2, the rest 0. Tag 1 is output symbol name, child 0; for symbol 0 first and
-- second are 0, otherwise both are smaller node numbers. Tag 2 calls procedure name on child 1 (left) or 2 (right); its arguments ..";
-- and on child 0, where a stay rule's calls stay
-- (proofs/Laws/Nodes.antt: node_fault is fine exactly then)
pub data FaultlessNode (S : ℕ) (counts : List ℕ) (k : ℕ) (n : Node) : Type 0 where
  a_parameter : n.tag ≡ 0 → 1 ≤ n.name → n.name ≤ 2 → n.child ≡ 0 → n.first ≡ 0 → n.second ≡ 0 → FaultlessNode S counts k n
  symbol_0 : n.tag ≡ 1 → n.name ≡ 0 → 0 < S → n.child ≡ 0 → n.first ≡ 0 → n.second ≡ 0 → FaultlessNode S counts k n
  a_symbol : n.tag ≡ 1 → 1 ≤ n.name → n.name < S → n.child ≡ 0 → n.first < k → n.second < k → FaultlessNode S counts k n
  a_call : n.tag ≡ 2 → n.name < length counts → n.child ≤ 2
      → ArgumentField (count_of counts n.name) 1 k n.first
      → ArgumentField (count_of counts n.name) 2 k n.second
      → FaultlessNode S counts k n

-- "under symbol 0 it holds no call"; "a symbol's rule with one [call of child 0], or a stay rule with child 1 or 2, is 7"
abbrev pub calls_wrong : ℕ → (symbol : ℕ) → Expression → Bool
calls_wrong S s e = (eqb s 0 && holds_call e) || choose (eqb s S) (holds_call_to moves e) (holds_call_to stays e)

-- "The node uses, directly or below, no parameter above the procedure's count"; a stay rule "has symbol S"
abbrev pub rule_wrong : ℕ → (counts nodes : List ℕ) → Rule → Bool
rule_wrong S counts nodes r =
    leb (length counts) r.procedure || ltb S r.symbol || leb (node_count nodes) r.node
    || ltb (count_of counts r.procedure) (greatest_parameter (expression counts nodes r.node))
    || calls_wrong S r.symbol (expression counts nodes r.node)

-- "At most 256 facts in all."
abbrev pub most_facts : ℕ
most_facts = 256

-- the refusal, or "the contract is admitted, with no number"
abbrev pub admitted_unless : Verdict → Answer
admitted_unless verdict = given verdict refusal admitted

module _ (C : Contract) where
  -- "1, a size out of range (place 0 to 3: symbols, input states, output states, procedures)"
  unfoldable pub sizes : Verdict
  sizes = refuse_first 1 (size_wrong C.transformation.symbols C.input.states C.output.states (length C.transformation.counts)) 4

  -- "2, a table's length"
  unfoldable pub lengths : Verdict
  lengths =
      refuse_first 2
      (length_wrong C.transformation.symbols C.input.states C.output.states (length C.input.rows) (length C.input.marks)
      (length C.output.table)
      (length C.output.marks)
      (length C.transformation.nodes)
      (length C.transformation.rules))
      6

  -- "3, a bad input row (row)"
  unfoldable pub input_rows : Verdict
  input_rows =
      refuse_first 3 (λ r. input_row_wrong C.transformation.symbols C.input.states (input_row C.input.rows r)) (input_row_count C.input.rows)

  -- "4, a mark above 1 or an output entry not below O (index ..)"
  unfoldable pub entries : Verdict
  entries =
      refuse_first 4 (entry_wrong C.output.states C.input.marks C.output.table C.output.marks)
      (length C.input.marks + length C.output.table + length C.output.marks)

  -- "5, a parameter count above 2, or procedure 0 with parameters (procedure)"
  unfoldable pub counts : Verdict
  counts = refuse_first 5 (count_wrong C.transformation.counts) (length C.transformation.counts)

  -- "6 becomes 30 .. 34, at 6's place in the order"
  unfoldable pub nodes : Verdict
  nodes = lowest_node_fault C.transformation.symbols C.transformation.counts C.transformation.nodes

  -- "7, a bad rule (rule)"
  unfoldable pub rules : Verdict
  rules =
      refuse_first 7 (λ r. rule_wrong C.transformation.symbols C.transformation.counts C.transformation.nodes (rule_at C.transformation.rules r))
      (rule_count C.transformation.rules)

  -- "8, over 256 facts (the total)"
  unfoldable pub facts : Verdict
  facts = refuse_if (ltb most_facts (fact_total C.output.states C.transformation.counts)) 8 (fact_total C.output.states C.transformation.counts)

  -- "Refusals, first that applies, lowest place". Where document 01 says "1 to 8" of an operation, these are meant.
  unfoldable pub admission : Verdict
  admission = sizes then lengths then input_rows then entries then counts then nodes then rules then facts

  -- "Otherwise the contract is admitted, with no number. Nothing is written."
  unfoldable pub admit : Answer
  admit = admitted_unless admission
