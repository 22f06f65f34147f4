-- The part that is shown lies within the script.
use Rattle.std.proofs.Common.{subst, sym, arith, List, ℕ}
use borrow.Author.Tests.{lt-leb}
use Rattle.printing.specs.Appending.{Appends}
use Rattle.script.specs.Meaning.{token_text}
use Rattle.lines.proofs.Parts.{part_clipped}
use Rattle.lines.proofs.faults.append_standing.Goals as goal

pub returns-else-text-span : goal.returns-else-text-span
returns-else-text-span c =
    let a = c.args in
    let e = part_clipped a.text.now a.span.start a.span.end c.min-start.result c.min-end.result (omega arith) c.min-end.ensures c.min-start.ensures in
    rw (lt-leb _ _ c.if-text-span.false) (subst (λ (t : List ℕ). Appends a.page.now c.append_token.new.page (token_text t)) (sym e) c.append_token.ensures)
