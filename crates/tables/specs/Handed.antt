-- The contract of document 01 that is handed in.
use Rattle.model.specs.Tables.{Contract, contract}
use Rattle.tables.specs.declared.ContractTables.{ContractTables}

abbrev pub handed : ContractTables → Contract
handed t =
    contract t.symbols t.input_states t.output_states t.counts.now t.input_rows.now t.input_marks.now t.output_table.now t.output_marks.now t.nodes.now t.rules.now
