-- A colon, and the numbers that there are.
use Rattle.std.proofs.Common.{sym, subst, List, ℕ, take}
use Rattle.foundation.specs.Lists.{take_clipped}
use Rattle.script.specs.Meaning.{spaced}
use Rattle.printing.specs.Appending.{Appends}
use Rattle.printing.proofs.Texts.{appends_byte}
use Rattle.lines.proofs.Listings.{spaced_own}
use Rattle.lines.proofs.appending.append_first.Goals as goal

pub returns : goal.returns
returns c =
    let l = c.args.numbers.now in
    let e = take_clipped l c.args.count c.min.result c.min.ensures in
    appends_byte c.push.ensures
    (subst (λ (some : List ℕ). Appends c.push.new.self c.append_numbers.new.page (spaced some)) (sym e) (spaced_own (take c.min.result l) c.append_numbers.ensures))
