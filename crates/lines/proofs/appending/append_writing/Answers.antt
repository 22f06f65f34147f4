-- The numbers follow where some were written, and nothing follows a refusal.
use Rattle.std.proofs.Common.{subst, sym, ap, ◌∙◌, Result, ℕ}
use Rattle.model.specs.Answers.{Answer}
use Rattle.answers.specs.Numbers.{writing_answer}
use Rattle.answers.specs.declared.WritingRefusal.{WritingRefusal}
use Rattle.script.specs.Meaning.{answer_text, written_text}
use Rattle.printing.specs.Appending.{Appends}
use Rattle.printing.proofs.Texts.{appends_both}
use Rattle.lines.proofs.appending.append_writing.Goals as goal

pub returns-in-Ok : goal.returns-in-Ok
returns-in-Ok c =
    let a = c.args in
    let answered = c.of_writing.ensures ∙ ap writing_answer c.in-Ok.is in
    subst
    (λ (r : Result ℕ WritingRefusal). Appends a.page.now c.append_first.new.page (written_text (record { answer = writing_answer r; numbers = a.numbers.now })))
    (sym c.in-Ok.is)
    (appends_both (subst (λ (w : Answer). Appends a.page.now c.append_answer.new.page (answer_text w)) answered c.append_answer.ensures) c.append_first.ensures)
