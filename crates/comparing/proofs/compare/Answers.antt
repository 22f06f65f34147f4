-- What is read of each buffer decides, in the order of the tests.
use mathlib.Core.Path.{◌≡◌, ap, sym, ◌∙◌}
use mathlib.Core.Bool.{false}
use Rattle.std.proofs.Common.{rules}
use Rattle.std.proofs.lemmas.Result.{err_from_is_err_and}
use Rattle.model.specs.Answers.{fine}
use Rattle.model.specs.Admission.{outside}
use Rattle.model.specs.Documents.{leading_verdict}
use Rattle.reading.specs.Answers.{reading_verdict, taken_by_reading}
use Rattle.comparing.specs.declared.ComparingFault.TheVariants as fault
use Rattle.comparing.proofs.Comparisons.{failed, passed, range_wrong, first_wrong, second_wrong, compared}
use Rattle.comparing.proofs.compare.Goals as goal

pub returns-then-symbols_wrong : goal.returns-then-symbols_wrong
returns-then-symbols_wrong c =
    let both = range_wrong c.args.symbols c.args.first.now c.args.second.now (sym c.symbols_wrong.ensures ∙ c.if-symbols_wrong.true) in
    record { verdict = both.0; stretch = both.1 }

pub returns-in_err-n : goal.returns-in_err-n
returns-in_err-n c =
    let in_range : outside 1 16 c.args.symbols ≡ false = sym c.symbols_wrong.ensures ∙ c.if-symbols_wrong.false in
    let (f, is, said) = failed _ c.read.result c.map_err.result _ c.map_err.ensures.cases c.in_err-n.was in
    let told : c.in_err-n.field-0.0 ≡ fault.First f = search rules in
    let both = first_wrong c.args.symbols c.args.first.now c.args.second.now in_range f (ap reading_verdict is ∙ c.read.ensures.result_value) in
    let e = err_from_is_err_and c.from_residual.result c.from_residual.ensures.1 in
    rw (e.1, e.2, told) (record { verdict = both.0; stretch = both.1 })

pub returns-in_err-m : goal.returns-in_err-m
returns-in_err-m c =
    let in_range : outside 1 16 c.args.symbols ≡ false = sym c.symbols_wrong.ensures ∙ c.if-symbols_wrong.false in
    let good : fine ≡ leading_verdict c.args.symbols c.args.first.now
    = ap reading_verdict (passed _ c.read.result c.map_err.result _ c.map_err.ensures.cases c.in_ok-n.was) ∙ c.read.ensures.result_value in
    let (f, is, said) = failed _ c.read-2.result c.map_err-2.result _ c.map_err-2.ensures.cases c.in_err-m.was in
    let told : c.in_err-m.field-0.0 ≡ fault.Second f = search rules in
    let both = second_wrong c.args.symbols c.args.first.now c.args.second.now in_range good f (ap reading_verdict is ∙ c.read-2.ensures.result_value) in
    let e = err_from_is_err_and c.from_residual-in_err-m.result c.from_residual-in_err-m.ensures.1 in
    rw (e.1, e.2, told) (record { verdict = both.0; stretch = both.1 })

pub returns : goal.returns
returns c =
    let in_range : outside 1 16 c.args.symbols ≡ false = sym c.symbols_wrong.ensures ∙ c.if-symbols_wrong.false in
    let first = passed _ c.read.result c.map_err.result _ c.map_err.ensures.cases c.in_ok-n.was in
    let second = passed _ c.read-2.result c.map_err-2.result _ c.map_err-2.ensures.cases c.in_ok-m.was in
    let both = compared c.args.symbols c.args.first.now c.args.second.now in_range
    (ap reading_verdict first ∙ c.read.ensures.result_value)
    (ap reading_verdict second ∙ c.read-2.ensures.result_value)
    c.fewer.result
    _
    _
    c.fewer.ensures
    (ap taken_by_reading first ∙ c.read.ensures.result_value_2)
    (ap taken_by_reading second ∙ c.read-2.ensures.result_value_2) in
    record { verdict = both.0; stretch = both.1 }
