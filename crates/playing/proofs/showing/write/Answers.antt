-- The buffer is filled; the line is made of what writing out promises, and fits.
use Rattle.std.proofs.Common.{◌≡◌, ap, sym, subst, ◌∙◌, ◌≤◌, length, arith}
use Rattle.model.specs.WritingOut.{Written, writing_out}
use Rattle.answers.specs.Numbers.{writing_answer}
use Rattle.printing.specs.Appending.{Appended}
use Rattle.script.specs.Meaning.{line, written_text, untouched}
use Rattle.playing.specs.Desks.{stretch}
use Rattle.playing.proofs.LineLaws.{line_length, written_short}
use Rattle.playing.proofs.PlayLaws.{written_whole, one_line, one_fits}
use Rattle.playing.proofs.showing.write.Goals as goal

pub returns : goal.returns
returns c =
    let n = length c.args.tree.now in
    let out = c.args.out.now in
    let w : Written = writing_out (stretch c.args.numbers.now c.args.current) c.args.row (untouched n) in
    let filled : c.fill.new.self ≡ untouched n = c.fill.ensures.after (λ y e. e) in
    let known : (writing_answer c.write_out-answer.result ≡ w.answer) × (c.write_out-answer.new.buffer ≡ w.numbers) = rw filled at c.write_out-answer.ensures in
    let short : length (line (written_text w)) ≤ length out =
    omega (arith, line_length (written_text w), written_short w, ap length (sym known.1) ∙ c.write_out-answer.auto.buffer ∙ c.fill.ensures.len, c.requires.1, c.requires.2) in
    let a : Appended out 0 (line (written_text w)) c.writing_line.result c.writing_line.new.out =
    subst (λ (x : Written). Appended out 0 (line (written_text x)) c.writing_line.result c.writing_line.new.out) (written_whole w known.0 known.1) c.writing_line.ensures in
    record { result_after = one_line out (written_text w) a short; printed_fits = one_fits out (written_text w) a short }
