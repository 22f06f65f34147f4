-- What comes of the question is the definition's step, whether the rows written become the current table or not.
use Rattle.std.proofs.Common.{◌≡◌, ap, ap₂, sym, ◌∙◌, ◌++◌, List, ℕ, length, take, drop, arith}
use lib.Seq.{length-take-le}
use Rattle.answers.specs.Numbers.{numbered}
use Rattle.playing.specs.declared.questions.Lent.{Lent}
use Rattle.playing.specs.Questions.{lent_to}
use Rattle.playing.proofs.QuestionLaws.{lent_most}
use Rattle.playing.proofs.PlayLaws.{plays_set, plays_kept}
use Rattle.playing.proofs.answering.answer.Goals as goal

pub returns-then-sets_rows-clause-by_index : goal.returns-then-sets_rows-clause-by_index
returns-then-sets_rows-clause-by_index c =
    let a = c.args in
    let r = c.lent_to-lent.result.rows in
    let rows₁ = c.ask_lent-given.new.rows in
    let er : r ≡ (lent_to a.question).rows = ap (λ (l : Lent). l.rows) c.lent_to-lent.ensures in
    let m = lent_most a.question in
    let long : length (take r rows₁) ≡ r = length-take-le r rows₁ (omega (arith, m.0, c.requires.4.rows_long, c.ask_lent-given.auto.rows)) in
    λ label. plays_set label a.numbers.now a.rows.now a.words.now a.out.now a.desk c.requires.0 a.question a.end c.requires.3 c.requires.4.out_long c.lent_to-lent.result (numbered c.ask_lent-given.result)
    c.lent_to-lent.ensures
    c.ask_lent-given.ensures
    c.answer_line.ensures
    c.left_after-left.ensures
    (sym c.sets_rows.ensures ∙ c.if-sets_rows.true)
    (ap₂ (λ (front : List ℕ) (n : ℕ). front ++ drop n a.numbers.now) c.copy_from_slice.ensures.after (sym long))
    c.set_left.ensures

pub returns-clause-by_index : goal.returns-clause-by_index
returns-clause-by_index c =
    let a = c.args in
    λ label. plays_kept label a.numbers.now a.rows.now a.words.now a.out.now a.desk c.requires.0 a.question a.end c.requires.3 c.requires.4.out_long c.lent_to-lent.result (numbered c.ask_lent-given.result)
    c.lent_to-lent.ensures
    c.ask_lent-given.ensures
    c.answer_line.ensures
    c.left_after-left.ensures
    (sym c.sets_rows.ensures ∙ c.if-sets_rows.false)
    c.set_left-2.ensures
