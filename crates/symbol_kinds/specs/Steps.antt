-- The parts of a kind in table form, by the tables of a prepared contract.
use Rattle.std.specs.Prelude.{List, ℕ}
use Rattle.model.specs.Tables.{input_row_count}
use Rattle.lanes.specs.Layouts.{layout_of}
use Rattle.kind_words.specs.Kind.{node_words, rule_facts}
use Rattle.kind_words.specs.States.{row_states}
use Rattle.prepared.specs.Contract.{contract_of, lists_of}
use Rattle.prepared.specs.declared.Prepared.{Prepared}

module _ (p : Prepared) where
  -- the words of the nodes that the rules for s reach, where `before` is what the words were
  abbrev pub words_for : (s : ℕ) (left right before : List ℕ) → List ℕ
  words_for s left right before =
      node_words (layout_of p.parts.layout) p.parts.offsets (lists_of p) (contract_of p).transformation.counts (contract_of p).output.table
      (contract_of p).transformation.nodes
      before
      s
      left
      right

  -- the facts of the rules for s
  abbrev pub facts_for : (s : ℕ) (words : List ℕ) → List ℕ
  facts_for s words =
      rule_facts (layout_of p.parts.layout) p.parts.offsets (contract_of p).transformation.counts (contract_of p).transformation.rules s words

  -- the input states that s reaches over the states in two words
  abbrev pub states_for : (s left right : ℕ) → ℕ
  states_for s left right = row_states (contract_of p).input.rows s left right (input_row_count (contract_of p).input.rows)
