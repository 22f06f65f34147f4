-- The stretch that comparing tells is taken out of its buffer, where it is.
use mathlib.Core.Path.{ap, sym, ◌∙◌}
use native.Mathlib.Omega.{arith}
use Rattle.std.specs.Prelude.{Ok}
use lib.Seq.{length-take-le}
use Rattle.comparing.proofs.Comparisons.{there}
use Rattle.comparing.proofs.shorter.Goals as goal

pub slice_bounds-result-end : goal.slice_bounds-result-end
slice_bounds-result-end c =
    let args = c.args in
    let fits = there _ args.first args.second _ (c.in-Ok-First.is ∙ ap Ok c.in-Ok-First.field-0-is) c.compare.ensures.stretch in
    sym (length-take-le _ _ (omega (arith, fits)))

pub slice_bounds-result-end-in-Ok-Second : goal.slice_bounds-result-end-in-Ok-Second
slice_bounds-result-end-in-Ok-Second c =
    let args = c.args in
    let fits = there _ args.first args.second _ (c.in-Ok-Second.is ∙ ap Ok c.in-Ok-Second.field-0-is) c.compare.ensures.stretch in
    sym (length-take-le _ _ (omega (arith, fits)))
