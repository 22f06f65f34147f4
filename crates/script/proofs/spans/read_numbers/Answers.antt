-- The list ends at a fault, at another token, or where the buffer is full.
use Rattle.std.proofs.Common.{◌∙◌, sym, ap, arith, Ok}
use Rattle.std.proofs.lemmas.Grind.{common_steps}
use Rattle.script.proofs.Listings.{reached_more, stopped_full, stopped_other, stopped_fault}
use Rattle.script.proofs.spans.read_numbers.Goals as goal

pub returns-in_err-value : goal.returns-in_err-value
returns-in_err-value c =
    let both = stopped_fault c.loop-count.invariant (sym c.in_err-value.ensures) in
    record { value = grind (arith, common_steps, both.0); buffer_after = both.1 }

pub returns-in-Other : goal.returns-in-Other
returns-in-Other c =
    let both = stopped_other c.loop-count.invariant (sym c.in_ok-value.ensures ∙ ap Ok c.in-Other.is) in
    record { value = both.0; buffer_after = both.1 }

pub loop-count-preserved : goal.loop-count-preserved
loop-count-preserved c = reached_more c.loop-count.invariant (omega arith) (sym c.in_ok-value.ensures ∙ ap Ok c.in-Number.is)

pub returns-in_err-span : goal.returns-in_err-span
returns-in_err-span c =
    let both = stopped_fault c.loop-count.invariant (sym c.in_err-span.ensures) in
    record { value = grind (arith, common_steps, both.0); buffer_after = both.1 }

pub returns-in-Number-2 : goal.returns-in-Number-2
returns-in-Number-2 c =
    let both = stopped_full c.loop-count.invariant (omega arith) (sym c.in_ok-span.ensures ∙ ap Ok c.in-Number-2.is) in
    record { value = both.0; buffer_after = both.1 }

pub returns-in-Other-2 : goal.returns-in-Other-2
returns-in-Other-2 c =
    let both = stopped_other c.loop-count.invariant (sym c.in_ok-span.ensures ∙ ap Ok c.in-Other-2.is) in
    record { value = grind (arith, common_steps, both.0); buffer_after = both.1 }
