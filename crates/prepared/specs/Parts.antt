-- Where the parts of a prepared table stand, the contract that they are the tables of, and what holds of a table that is prepared.
use Rattle.std.specs.Prelude.{◌≡◌, List, ℕ, ◌-◌, ◌≤◌, length, take, drop}
use Rattle.std.specs.Coded.{le_prop}
use Rattle.std.proofs.Common.{arith}
use Rattle.std.specs.Coded.{→_prop}
use native.Mathlib.Nat.{ℕ_set}
use denote.Struct.Props.{props}
use Rattle.model.specs.Tables.{Node}
use Rattle.foundation.specs.Tests.{choose}
use Rattle.model.specs.Tables.{Contract, Transformation, contract}
use Rattle.model.specs.Admission.{most_facts}
use Rattle.model.specs.Running.{has_stays}
use Rattle.lanes.specs.Layouts.{layout_of}
use Rattle.kind_words.specs.Kind
use Rattle.breaking.specs.Verdicts.{VerdictsOf}
use Rattle.model.proofs.Laws.Established.{Established, GoodNode, good_parameter, good_nothing, good_symbol, good_call}
use Rattle.prepared.specs.declared.Parts.{Parts}

-- the numbers from a place to another
abbrev pub part : List ℕ → ℕ → ℕ → List ℕ
part table from to = take (to - from) (drop from table)

-- the contract whose tables stand in a prepared table
abbrev pub contract_in : Parts → List ℕ → Contract
contract_in p table =
    contract p.symbols p.states p.layout.states (part table 0 p.counts) (part table p.counts p.rows) (part table p.rows p.inputs)
    (part table p.inputs p.table) (part table p.table p.outputs) (part table p.outputs p.nodes) (part table p.nodes p.rules)

-- the lists by symbol
abbrev pub lists_in : Parts → List ℕ → List ℕ
lists_in p table = part table p.rules (length table)

-- as many rounds of the stay rules close a kind as there may be facts; none are needed where there are no stay rules
abbrev pub rounds_of : Transformation → ℕ
rounds_of T = choose (has_stays T) most_facts 0

-- a table that is prepared for the contract in it
pub record Ready (p : Parts) (table : List ℕ) : Type 0 where
  pub to_rows : p.counts ≤ p.rows
  pub to_inputs : p.rows ≤ p.inputs
  pub to_table : p.inputs ≤ p.table
  pub to_outputs : p.table ≤ p.outputs
  pub to_nodes : p.outputs ≤ p.nodes
  pub to_rules : p.nodes ≤ p.rules
  pub inside : p.rules ≤ length table
  pub prepared : Kind.Prepared (contract_in p table) (layout_of p.layout) p.offsets (lists_in p table)
  pub rounds : p.rounds ≡ rounds_of (contract_in p table).transformation
  pub verdicts : VerdictsOf (contract_in p table).input.marks (contract_in p table).output.marks p.verdicts

-- the same, of which a table has one proof at most: what preparation makes holds in some way (which numbers stand where on a list is told by
-- more than one proof)
pub record IsReady (p : Parts) (table : List ℕ) : Type 0 where
  pub to_rows : p.counts ≤ p.rows
  pub to_inputs : p.rows ≤ p.inputs
  pub to_table : p.inputs ≤ p.table
  pub to_outputs : p.table ≤ p.outputs
  pub to_nodes : p.outputs ≤ p.nodes
  pub to_rules : p.nodes ≤ p.rules
  pub inside : p.rules ≤ length table
  pub established : Established (contract_in p table)
  pub prepared : ∥ Kind.Prepared (contract_in p table) (layout_of p.layout) p.offsets (lists_in p table) ∥₁
  pub rounds : p.rounds ≡ rounds_of (contract_in p table).transformation
  pub verdicts : VerdictsOf (contract_in p table).input.marks (contract_in p table).output.marks p.verdicts

pub is_ready : {p : Parts} {table : List ℕ} → Ready p table → IsReady p table
is_ready ready =
    record {
      to_rows = ready.to_rows;
      to_inputs = ready.to_inputs;
      to_table = ready.to_table;
      to_outputs = ready.to_outputs;
      to_nodes = ready.to_nodes;
      to_rules = ready.to_rules;
      inside = ready.inside;
      established = ready.prepared.established;
      prepared = ∣ ready.prepared ∣₁;
      rounds = ready.rounds;
      verdicts = ready.verdicts;
    }

-- a node is good in one way at most: its tag and its name tell which
node_prop : {S : ℕ} {counts : List ℕ} {k : ℕ} {n : Node} → IsProp (GoodNode S counts k n)
node_prop (good_parameter a b c) (good_parameter a' b' c') = λ i. good_parameter (ℕ_set _ _ a a' i) (le_prop b b' i) (le_prop c c' i)
node_prop (good_nothing a b) (good_nothing a' b') = λ i. good_nothing (ℕ_set _ _ a a' i) (ℕ_set _ _ b b' i)
node_prop (good_symbol a b c d e) (good_symbol a' b' c' d' e') = λ i. good_symbol (ℕ_set _ _ a a' i) (le_prop b b' i) (le_prop c c' i) (le_prop d d' i) (le_prop e e' i)
node_prop (good_call a b c d e) (good_call a' b' c' d' e') =
    λ i. good_call (ℕ_set _ _ a a' i) (le_prop b b' i) (le_prop c c' i) (→_prop le_prop d d' i) (→_prop le_prop e e' i)
node_prop (good_parameter a b c) (good_nothing a' b') = absurd (omega arith)
node_prop (good_parameter a b c) (good_symbol a' b' c' d' e') = absurd (omega arith)
node_prop (good_parameter a b c) (good_call a' b' c' d' e') = absurd (omega arith)
node_prop (good_nothing a b) (good_parameter a' b' c') = absurd (omega arith)
node_prop (good_nothing a b) (good_symbol a' b' c' d' e') = absurd (omega arith)
node_prop (good_nothing a b) (good_call a' b' c' d' e') = absurd (omega arith)
node_prop (good_symbol a b c d e) (good_parameter a' b' c') = absurd (omega arith)
node_prop (good_symbol a b c d e) (good_nothing a' b') = absurd (omega arith)
node_prop (good_symbol a b c d e) (good_call a' b' c' d' e') = absurd (omega arith)
node_prop (good_call a b c d e) (good_parameter a' b' c') = absurd (omega arith)
node_prop (good_call a b c d e) (good_nothing a' b') = absurd (omega arith)
node_prop (good_call a b c d e) (good_symbol a' b' c' d' e') = absurd (omega arith)

pub IsReady-prop : (p : Parts) (table : List ℕ) → IsProp (IsReady p table)
IsReady-prop p table = hlevel (node_prop, props)
