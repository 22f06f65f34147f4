-- The tuples of document 01 that the code's typed tuples stand for: the same numbers, without their types.
use Rattle.model.specs.Rows
use Rattle.model.specs.Tables
use Rattle.tables.specs.declared.InputRow.{InputRow}
use Rattle.tables.specs.declared.Node.{Node}
use Rattle.tables.specs.declared.Rule.{Rule}
use Rattle.tables.specs.declared.Row.{Row}

abbrev pub input_row_of : InputRow → Tables.InputRow
input_row_of r = record { state = r.state.0; symbol = r.symbol.0; left = r.left.0; right = r.right.0 }

abbrev pub node_of : Node → Tables.Node
node_of n = record { tag = n.tag; name = n.name; child = n.child; first = n.first; second = n.second }

abbrev pub rule_of : Rule → Tables.Rule
rule_of r = record { procedure = r.procedure.0; symbol = r.symbol.0; node = r.node }

abbrev pub row_of : Row → Rows.Row
row_of r = record { symbol = r.symbol.0; left = r.left; right = r.right }
