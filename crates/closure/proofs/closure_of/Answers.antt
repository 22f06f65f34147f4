-- A symbol that is closed goes before the next one; the first that is not tells the answer.
use Rattle.std.proofs.Common.{◌≡◌, Err, rules, arith}
use Rattle.std.specs.Prelude.{Result}
use Rattle.closure.specs.declared.Open.{Open}
use Rattle.closure.proofs.Verdicts.{closed_all, told_inside, open_told}
use Rattle.closure.proofs.closure_of.Goals as goal

pub returns-in_err-symbol_closure : goal.returns-in_err-symbol_closure
returns-in_err-symbol_closure c =
    let known = c.args.sent.now.masked.now.prepared.ready.established in
    let pair = c.in_err-symbol_closure.field-0.0 in
    let told : ◌≡◌ {A = Result (Unit {0}) Open} c.from_residual.result (Err pair) = search rules in
    let number = c.loop-number.number in
    rw told (
      open_told _ known _ number pair (omega arith) (omega arith) c.loop-number.invariant c.in_err-symbol_closure.ensures,
      told_inside _ known _ number pair c.in_err-symbol_closure.ensures,
    )

pub returns : goal.returns
returns c =
    let known = c.args.sent.now.masked.now.prepared.ready.established in
    (closed_all _ known _ c.loop-number.number (omega (arith, known.symbols.least≤)) c.loop-number.invariant, tt)
