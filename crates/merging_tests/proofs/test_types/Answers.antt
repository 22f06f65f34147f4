-- The first test that fails is told; those before it refuse nothing.
use Rattle.std.proofs.Common.{sym, ◌∙◌, arith}
use Rattle.std.proofs.lemmas.Result.{err_from_is_err_and}
use Rattle.model.proofs.Laws.Answers.{then_passed}
use Rattle.merging_tests.proofs.Tests.{told_as_first, told_as_second, told_first, passed, same_symbols, other_symbols}
use Rattle.merging_tests.proofs.test_types.Goals as goal

pub returns-in_err-map_err : goal.returns-in_err-map_err
returns-in_err-map_err c =
    let p = err_from_is_err_and c.from_residual.result c.from_residual.ensures.1 in
    rw (p.1, p.2)
    (told_first _ _ _ _ c.in_err-map_err.was (told_as_first _ _ _ _ c.map_err.ensures.cases c.test_type.ensures))

pub returns-in_err-map_err-2 : goal.returns-in_err-map_err-2
returns-in_err-map_err-2 c =
    let p = err_from_is_err_and c.from_residual-in_err-map_err-2.result c.from_residual-in_err-map_err-2.ensures.1 in
    let first = passed _ _ c.in_ok-map_err.was (told_as_first _ _ _ _ c.map_err.ensures.cases c.test_type.ensures) in
    rw (p.1, p.2)
    (told_first _ _ _ _ c.in_err-map_err-2.was
    (told_as_second _ _ _ _ c.map_err-2.ensures.cases c.test_type-2.ensures)
    ∙ sym (then_passed _ _ first))

pub returns-then-first-second : goal.returns-then-first-second
returns-then-first-second c =
    let first = passed _ _ c.in_ok-map_err.was (told_as_first _ _ _ _ c.map_err.ensures.cases c.test_type.ensures) in
    let second = passed _ _ c.in_ok-map_err-2.was (told_as_second _ _ _ _ c.map_err-2.ensures.cases c.test_type-2.ensures) in
    sym (then_passed _ _ first ∙ then_passed _ _ second ∙ other_symbols c.args.first.now.symbols c.args.second.now.symbols (λ e. omega arith))

pub returns : goal.returns
returns c =
    let first = passed _ _ c.in_ok-map_err.was (told_as_first _ _ _ _ c.map_err.ensures.cases c.test_type.ensures) in
    let second = passed _ _ c.in_ok-map_err-2.was (told_as_second _ _ _ _ c.map_err-2.ensures.cases c.test_type-2.ensures) in
    sym (then_passed _ _ first ∙ then_passed _ _ second ∙ same_symbols c.args.first.now.symbols c.args.second.now.symbols (omega arith))
