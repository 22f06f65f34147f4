-- What is known of a table that is prepared: its nodes, rules, input rows and lists are as the code asks, and the kind of a symbol
-- without its marks is what the code computes.
use Rattle.std.specs.Prelude.{◌≡◌, List, ◌∷◌, [], ◌++◌, ℕ, ◌<◌, ◌≤◌, length}
use Rattle.std.proofs.Common.{arith}
use Rattle.std.proofs.Math.Logic.{∥∥₁_elim}
use denote.Struct.Props.{props}
use Rattle.model.specs.Tables.{Contract, node_count}
use Rattle.lanes.specs.Layouts.{layout_of}
use Rattle.kind_words.specs.Sizes.{rule_symbols, next_rules, next_rows}
use Rattle.kind_words.specs.Blocks.{Words}
use Rattle.kind_words.specs.Listed.{Layout, AreNodes}
use Rattle.kind_words.specs.Marked.{unmarked_kind}
use Rattle.kind_words.specs.Kind as kinds
use Rattle.kind_words.specs.Kind.{list_of, ListInside, kind_form}
use Rattle.kind_words.specs.Fits as fits
use Rattle.kind_words.specs.Fits.{NodesFit, RulesIn, RowsIn}
use Rattle.prepared.specs.declared.Parts.{Parts}
use Rattle.prepared.specs.Parts.{contract_in, lists_in, IsReady}

module _ {p : Parts} {table : List ℕ} (ready : IsReady p table) where
  abbrev C : Contract
  C = contract_in p table

  abbrev lay : Layout
  lay = layout_of p.layout

  pub list_inside : (s : ℕ) → s < rule_symbols → (next_rules ≤ length (lists_in p table)) × ListInside (lists_in p table) s
  list_inside s small = ∥∥₁_elim ready.prepared (hlevel props) (λ made. (omega (arith, made.lists.long), made.lists.inside s small))

  pub are_nodes : (s : ℕ) → s < rule_symbols → AreNodes C.transformation.nodes (list_of (lists_in p table) s)
  are_nodes s small = ∥∥₁_elim ready.prepared (hlevel props) (λ made. (made.lists.list s small).is_node)

  pub rules-in : RulesIn lay p.offsets C.transformation.counts C.transformation.rules (lists_in p table)
  rules-in = ∥∥₁_elim ready.prepared (hlevel props) (λ made. fits.rules-in made)

  pub rows_in : (nexts : ℕ) → nexts ≡ next_rows C.transformation.rules → RowsIn C.input.rows (lists_in p table) nexts
  rows_in nexts e = ∥∥₁_elim ready.prepared (hlevel props) (λ made. fits.rows_in made nexts e)

  pub states_are : p.layout.states ≡ C.output.states
  states_are = ∥∥₁_elim ready.prepared (hlevel props) (λ made. made.layout.states)

  pub nodes_fit : NodesFit lay p.offsets C.transformation.counts C.output.table C.transformation.nodes
  nodes_fit =
      let known = ready.established in
      record {
        symbols = C.transformation.symbols;
        layout = rules-in.fit.layout;
        few_symbols = known.symbols.≤most;
        table_long = rw states_are known.output_table;
        entry = rw states_are known.output_entry;
        procedures = known.procedures.≤most;
        procedure = rules-in.fit.procedure;
        few_nodes = known.nodes.few;
        node = known.node;
      }

  -- the table form of a kind is the kind without its marks, and a 0
  pub kind_form_is : (before : List ℕ) → node_count C.transformation.nodes ≤ length before → (s : ℕ) → s < rule_symbols → (l r : List ℕ) → Words l → Words r
      → kind_form lay p.offsets (lists_in p table) C.transformation.counts C.input.rows C.output.table C.transformation.nodes C.transformation.rules before s l r
      ≡ unmarked_kind C s l r ++ (0 ∷ [])
  kind_form_is before room s small l r wl wr =
      ∥∥₁_elim ready.prepared (hlevel props) (λ made. kinds.kind_form_is _ _ _ _ made before room s small l r wl wr)
