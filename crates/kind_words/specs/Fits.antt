-- What the code asks of its tables, and that a prepared contract has it.
use Rattle.std.specs.Prelude.{◌≡◌, List, ℕ, suc, ◌+◌, ◌*◌, ◌-◌, ◌^◌, ◌<◌, ◌≤◌, length, get_or}
use Rattle.std.proofs.Math.Nat.{pow-le-pow_right, one-le-pow}
use Rattle.std.proofs.Common.{mul-le-mul_right, arith}
use Rattle.model.specs.Tables.{Contract, input_row, input_row_count, Node, node_at, node_count, rule_at, rule_count, count_of}
use Rattle.model.specs.Admission.{table_length, most_facts}
use Rattle.model.proofs.Laws.Established.{Established, GoodNode, good_parameter, good_nothing, good_symbol, good_call}
use Rattle.kind_words.specs.Sizes.{most_symbols, rule_symbols, most_input_states, most_procedures, most_nodes, next_rules, next_rows}
use Rattle.kind_words.specs.Lanes.{Laid}
use Rattle.kind_words.specs.Listed.{Layout}
use Rattle.kind_words.specs.Kind.{Prepared, RulesChained, RowsChained, lanes_fit, offset_inside}

-- words of lanes over at most four states
pub record LayoutFits (lay : Layout) : Type 0 where
  pub laid : Laid lay.states lay.width lay.ones lay.starts
  pub some : 1 ≤ lay.states
  pub few : lay.states ≤ 4

-- the output table has room for a symbol's states, all below the count of states
pub record OutputFits (lay : Layout) (table : List ℕ) (name : ℕ) : Type 0 where
  pub layout : LayoutFits lay
  pub entry : (k : ℕ) → get_or table k 0 < lay.states
  pub leaf : 0 < length table
  pub small : name < rule_symbols
  pub room : 1 ≤ name → 1 + (name - 1) * lay.states * lay.states + lay.states * lay.states ≤ length table

-- a procedure of that count has its facts from a number on
pub record ProcedureFits (lay : Layout) (count number : ℕ) : Type 0 where
  pub layout : LayoutFits lay
  pub parameters : count ≤ 2
  pub narrow : lay.states ^ count ≤ lay.width
  pub inside : number < most_facts

-- the tables from which the words of nodes are computed
pub record NodesFit (lay : Layout) (offsets counts table nodes : List ℕ) : Type 0 where
  pub symbols : ℕ
  pub layout : LayoutFits lay
  pub few_symbols : symbols ≤ most_symbols
  pub table_long : length table ≡ table_length symbols lay.states
  pub entry : (k : ℕ) → get_or table k 0 < lay.states
  pub procedures : length counts ≤ most_procedures
  pub procedure : (p : ℕ) → p < length counts → ProcedureFits lay (count_of counts p) (get_or offsets p 0)
  pub few_nodes : node_count nodes ≤ most_nodes
  pub node : (n : ℕ) → n < node_count nodes → GoodNode symbols counts n (node_at nodes n)

-- the rules
pub record RulesFit (lay : Layout) (offsets counts rules : List ℕ) : Type 0 where
  pub layout : LayoutFits lay
  pub procedures : length counts ≤ most_procedures
  pub procedure : (p : ℕ) → p < length counts → ProcedureFits lay (count_of counts p) (get_or offsets p 0)
  pub is_procedure : (r : ℕ) → r < rule_count rules → (rule_at rules r).procedure < length counts
  pub is_node : (r : ℕ) → r < rule_count rules → (rule_at rules r).node < most_nodes

-- the input rows
pub record RowsFit (rows : List ℕ) : Type 0 where
  pub state : (r : ℕ) → r < input_row_count rows → (input_row rows r).state < most_input_states
  pub left : (r : ℕ) → r < input_row_count rows → (input_row rows r).left < most_input_states
  pub right : (r : ℕ) → r < input_row_count rows → (input_row rows r).right < most_input_states

-- the rules, in chains
pub record RulesIn (lay : Layout) (offsets counts rules lists : List ℕ) : Type 0 where
  pub fit : RulesFit lay offsets counts rules
  pub chained : RulesChained rules lists
  pub long : next_rows rules ≤ length lists

-- the input rows, in chains, with what follows each row from a place on
pub record RowsIn (rows lists : List ℕ) (nexts : ℕ) : Type 0 where
  pub fit : RowsFit rows
  pub chained : RowsChained rows lists nexts
  pub behind : next_rules ≤ nexts
  pub long : nexts + input_row_count rows ≤ length lists

module _ {lay : Layout} {offsets counts table nodes : List ℕ} (fit : NodesFit lay offsets counts table nodes) (n : ℕ) (h : n < node_count nodes) where
  abbrev node : Node
  node = node_at nodes n

  -- what follows from a node's being good, by its tag
  pub is_call : (node.tag ≡ 0 → ⊥) → (node.tag ≡ 1 → ⊥) → node.tag ≡ 2
  is_call h0 h1 = go (fit.node n h)
    where
      go : GoodNode fit.symbols counts n node → node.tag ≡ 2
      go (good_parameter t a b) = absurd (h0 t)
      go (good_nothing t z) = absurd (h1 t)
      go (good_symbol t a b c d) = absurd (h1 t)
      go (good_call t a b c d) = t

  pub output_fits : node.tag ≡ 1 → OutputFits lay table node.name
  output_fits e =
      record { layout = fit.layout; entry = fit.entry; leaf = omega (arith, fit.table_long); small = small (fit.node n h); room = room (fit.node n h) }
    where
      small : GoodNode fit.symbols counts n node → node.name < rule_symbols
      small (good_parameter t a b) = absurd (omega arith)
      small (good_nothing t z) = omega arith
      small (good_symbol t a b c d) = omega (arith, fit.few_symbols)
      small (good_call t a b c d) = absurd (omega arith)

      room : GoodNode fit.symbols counts n node → 1 ≤ node.name
          → 1 + (node.name - 1) * lay.states * lay.states + lay.states * lay.states ≤ length table
      room (good_parameter t a b) l = absurd (omega arith)
      room (good_nothing t z) l = absurd (omega arith)
      room (good_symbol t a b c d) l =
          let x : suc (node.name - 1) ≤ fit.symbols - 1 = omega arith in
          let y : suc (node.name - 1) * lay.states ≤ (fit.symbols - 1) * lay.states = mul-le-mul_right lay.states x in
          let z : suc (node.name - 1) * lay.states * lay.states ≤ (fit.symbols - 1) * lay.states * lay.states = mul-le-mul_right lay.states y in
          omega (arith, fit.table_long)
      room (good_call t a b c d) l = absurd (omega arith)

  pub output_nodes : node.tag ≡ 1 → 1 ≤ node.name → (node.first < node_count nodes) × (node.second < node_count nodes)
  output_nodes e l = go (fit.node n h)
    where
      go : GoodNode fit.symbols counts n node → (node.first < node_count nodes) × (node.second < node_count nodes)
      go (good_parameter t a b) = absurd (omega arith)
      go (good_nothing t z) = absurd (omega arith)
      go (good_symbol t a b c d) = (omega arith, omega arith)
      go (good_call t a b c d) = absurd (omega arith)

  pub called_procedure : node.tag ≡ 2 → node.name < length counts
  called_procedure e = go (fit.node n h)
    where
      go : GoodNode fit.symbols counts n node → node.name < length counts
      go (good_parameter t a b) = absurd (omega arith)
      go (good_nothing t z) = absurd (omega arith)
      go (good_symbol t a b c d) = absurd (omega arith)
      go (good_call t a b c d) = a

  pub call_nodes : node.tag ≡ 2 → (1 ≤ count_of counts node.name → node.first < node_count nodes) × (2 ≤ count_of counts node.name → node.second < node_count nodes)
  call_nodes e = go (fit.node n h)
    where
      go : GoodNode fit.symbols counts n node → (1 ≤ count_of counts node.name → node.first < node_count nodes) × (2 ≤ count_of counts node.name → node.second < node_count nodes)
      go (good_parameter t a b) = absurd (omega arith)
      go (good_nothing t z) = absurd (omega arith)
      go (good_symbol t a b c d) = absurd (omega arith)
      go (good_call t a b c d) = (λ l. omega (arith, c l), λ l. omega (arith, d l))

-- a prepared contract has all this
module _ {C : Contract} {lay : Layout} {offsets lists : List ℕ} (prepared : Prepared C lay offsets lists) where
  abbrev known : Established C
  known = prepared.established

  abbrev counts' : List ℕ
  counts' = C.transformation.counts

  layout_fits : LayoutFits lay
  layout_fits =
      let width = prepared.layout.width in
      let states = prepared.layout.states in
      record {
        laid =
            record {
              sized =
                  record {
                    some = rw width (one-le-pow prepared.layout.greatest C.output.states known.output_states.least≤);
                    fit =
                        rw (states, width)
                        (lanes_fit C.output.states prepared.layout.greatest known.output_states.least≤ known.output_states.≤most prepared.layout.most);
                  };
              lane = rw width prepared.layout.lanes.lane;
              firsts = rw (states, width) prepared.layout.lanes.firsts;
            };
        some = rw states known.output_states.least≤;
        few = rw states known.output_states.≤most;
      }

  procedure_fits : (p : ℕ) → p < length counts' → ProcedureFits lay (count_of counts' p) (get_or offsets p 0)
  procedure_fits p h =
      record {
        layout = layout_fits;
        parameters = known.count p;
        narrow = rw (prepared.layout.states, prepared.layout.width) (pow-le-pow_right known.output_states.least≤ (prepared.layout.bound p));
        inside = rw (prepared.place p h) (offset_inside C known p h);
      }

  pub nodes_fit : NodesFit lay offsets counts' C.output.table C.transformation.nodes
  nodes_fit =
      record {
        symbols = C.transformation.symbols;
        layout = layout_fits;
        few_symbols = known.symbols.≤most;
        table_long = rw prepared.layout.states known.output_table;
        entry = rw prepared.layout.states known.output_entry;
        procedures = known.procedures.≤most;
        procedure = procedure_fits;
        few_nodes = known.nodes.few;
        node = known.node;
      }

  pub rules-in : RulesIn lay offsets counts' C.transformation.rules lists
  rules-in =
      record {
        fit =
            record {
              layout = layout_fits;
              procedures = known.procedures.≤most;
              procedure = procedure_fits;
              is_procedure = λ r h. (known.rule r h).procedure;
              is_node = λ r h. omega (arith, (known.rule r h).node, known.nodes.few);
            };
        chained = prepared.lists.of_rules;
        long = omega (arith, prepared.lists.long);
      }

  pub rows_in : (nexts : ℕ) → nexts ≡ next_rows C.transformation.rules → RowsIn C.input.rows lists nexts
  rows_in nexts e =
      record {
        fit =
            record {
              state = λ r h. omega (arith, (known.input_row r h).state, known.input_states.≤most);
              left = λ r h. omega (arith, (known.input_row r h).left, known.input_states.≤most);
              right = λ r h. omega (arith, (known.input_row r h).right, known.input_states.≤most);
            };
        chained = rw e prepared.lists.of_rows;
        behind = omega arith;
        long = omega (arith, prepared.lists.long);
      }
