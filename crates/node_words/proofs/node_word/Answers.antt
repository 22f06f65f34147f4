-- By the node's tag; what a good node refers to and calls stands in its tables.
use Rattle.std.proofs.Common.{ap, sym, ◌∙◌, arith}
use Rattle.model.specs.Tables
use Rattle.tables.specs.Tuples.{node_of}
use Rattle.kind_words.specs.Listed.{step_of, step_parameter, step_output, step_call}
use Rattle.kind_words.specs.Fits.{is_call}
use Rattle.node_words.proofs.node_word.Goals as goal

pub returns-in-0 : goal.returns-in-0
returns-in-0 c = c.parameter_word.ensures ∙ sym (ap (step_of _ _ _ _ _ _ _) (sym c.node_at-node.ensures) ∙ step_parameter _ _ _ _ _ _ _ (node_of c.node_at-node.result) c.in-0.is)

pub returns-in-1 : goal.returns-in-1
returns-in-1 c = c.output_word.ensures ∙ sym (ap (step_of _ _ _ _ _ _ _) (sym c.node_at-node.ensures) ∙ step_output _ _ _ _ _ _ _ (node_of c.node_at-node.result) c.in-1.is)

pub returns-in_default : goal.returns-in_default
returns-in_default c =
    let e = ap (λ (n : Tables.Node). n.tag) c.node_at-node.ensures in
    let t = is_call c.requires.0 c.args.n c.requires.1 (λ z. omega (arith, e)) (λ z. omega (arith, e)) in
    c.call_word.ensures
    ∙ sym (ap (step_of _ _ _ _ _ _ _) (sym c.node_at-node.ensures)
    ∙ step_call _ _ _ _ _ _ _ (node_of c.node_at-node.result) c.number-p.result c.from-number.result c.called_word-facts.result (e ∙ t) c.number-p.ensures c.from-number.ensures c.called_word-facts.ensures)
