-- `rule_wrong` is its definition, with what a node uses read from the table: `rule_by_table`.
use Rattle.tables.specs.Tuples.{rule_of}
use Rattle.admission_expressions.proofs.NodeUses.{rule_by_table}
use Rattle.admission_expressions.proofs.rules.rule_wrong.Goals as goal

pub returns : goal.returns
returns c =
    rw (
      c.procedure_wrong.ensures,
      c.number.ensures,
      c.from.ensures,
      c.count_of.ensures,
      c.calls_wrong.ensures,
      c.uses_at-uses.ensures,
    )
    (rule_by_table _ _ _ c.args.table.now (rule_of c.args.rule) c.requires)
