-- The contract that a prepared table has, and its lists by symbol.
use Rattle.std.specs.Prelude.{List, ℕ}
use Rattle.model.specs.Tables.{Contract}
use Rattle.prepared.specs.declared.Prepared.{Prepared}
use Rattle.prepared.specs.Parts.{contract_in, lists_in}

abbrev pub contract_of : Prepared → Contract
contract_of p = contract_in p.parts p.table.now

abbrev pub lists_of : Prepared → List ℕ
lists_of p = lists_in p.parts p.table.now
