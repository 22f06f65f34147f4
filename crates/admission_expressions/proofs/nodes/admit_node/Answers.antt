-- `admit_node`: the verdict goes through the same tests in the same order.
use Rattle.std.proofs.Common.{sym, lt-ltb, le-ltb}
use Rattle.model.specs.Admission.{node_fault}
use Rattle.model.specs.Answers.{refuse_if, ◌then◌, given}
use Rattle.admission_expressions.proofs.nodes.admit_node.Goals as goal

pub returns-then-node-gt2 : goal.returns-then-node-gt2
unfolding node_fault refuse_if ◌then◌ given
returns-then-node-gt2 c = rw (lt-ltb _ _ c.if-node-gt2.true)

pub returns-then-name_wrong : goal.returns-then-name_wrong
unfolding node_fault refuse_if ◌then◌ given
returns-then-name_wrong c = rw (le-ltb _ _ c.if-node-gt2.false, sym c.if-name_wrong.ensures)

pub returns-then-child_wrong : goal.returns-then-child_wrong
unfolding node_fault refuse_if ◌then◌ given
returns-then-child_wrong c =
    rw (le-ltb _ _ c.if-node-gt2.false, sym c.if-name_wrong.ensures, sym c.if-child_wrong.ensures)

pub returns-then-reference_wrong : goal.returns-then-reference_wrong
unfolding node_fault refuse_if ◌then◌ given
returns-then-reference_wrong c =
    rw (
      le-ltb _ _ c.if-node-gt2.false,
      sym c.if-name_wrong.ensures,
      sym c.if-child_wrong.ensures,
      sym c.if-reference_wrong.ensures,
    )

pub returns-then-unused_filled : goal.returns-then-unused_filled
unfolding node_fault refuse_if ◌then◌ given
returns-then-unused_filled c =
    rw (
      le-ltb _ _ c.if-node-gt2.false,
      sym c.if-name_wrong.ensures,
      sym c.if-child_wrong.ensures,
      sym c.if-reference_wrong.ensures,
      sym c.if-unused_filled.ensures,
    )

pub returns : goal.returns
unfolding node_fault refuse_if ◌then◌ given
returns c =
    rw (
      le-ltb _ _ c.if-node-gt2.false,
      sym c.if-name_wrong.ensures,
      sym c.if-child_wrong.ensures,
      sym c.if-reference_wrong.ensures,
      sym c.if-unused_filled.ensures,
    )
