-- Text behind text, as the definition has it.
use Rattle.std.proofs.Common.{subst, ℕ, [], ◌∷◌, ◌++◌}
use Rattle.printing.specs.Decimals.{decimal}
use Rattle.printing.specs.Appending.{Appends}
use Rattle.printing.proofs.Texts.{appends_both}
use Rattle.script.specs.Phrases as phrases
use Rattle.script.specs.Meaning.{fault_line, found_text, expected_text}
use Rattle.lines.proofs.faults.append_fault.Goals as goal

pub returns : goal.returns
unfolding fault_line
returns c =
    let a = c.args in
    subst
    (λ (n : ℕ). Appends a.page.now c.push.new.self (phrases.line_of ++ decimal n ++ phrases.found_text ++ found_text a.text.now a.fault ++ phrases.expected_text ++ expected_text a.fault.expected ++ (10 ∷ [])))
    c.line_of.ensures
    (appends_both (appends_both (appends_both (appends_both c.append_line.ensures c.append_found.ensures) c.append.ensures) c.append_expected.ensures) c.push.ensures)
