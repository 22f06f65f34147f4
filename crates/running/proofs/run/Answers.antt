-- A contract that is refused ends the run, and one that is admitted is known to satisfy what the rest asks for.
use Rattle.std.proofs.lemmas.Result.{err_from_is_err_and}
use Rattle.tables.specs.Handed.{handed}
use Rattle.running.proofs.Admitting.{contract_refused, tables_known, contract_run}
use Rattle.running.proofs.run.Goals as goal

pub returns-in_err-admit : goal.returns-in_err-admit
returns-in_err-admit c =
    let end = err_from_is_err_and c.from_residual.result c.from_residual.ensures.1 in
    rw (end.1, end.2) (contract_refused (handed c.args.contract.now) c.args.numbers.now c.args.rows.now _ c.in_err-admit.ensures)

pub run_admitted-requires : goal.run_admitted-requires
run_admitted-requires c = tables_known (handed c.args.contract.now) c.args.numbers.now c.args.rows.now c.in_ok-admit.ensures

pub returns : goal.returns
returns c = contract_run (handed c.args.contract.now) c.args.numbers.now c.args.rows.now c.in_ok-admit.ensures c.run_admitted.ensures
