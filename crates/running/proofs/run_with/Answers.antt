-- The plan of the filled ends may be called, the outcome of calling procedure 0 at place 0 is the run's step, and clearing and answering are
-- what closing does with it.
use Rattle.std.proofs.Common.{◌≡◌, ℕ, ◌/◌, length, take, ap, ap₂, ◌∙◌}
use Rattle.foundation.specs.Lists.{zero_filled}
use Rattle.running.specs.declared.Ended.{Ended}
use Rattle.running.specs.Work.{numbers_kept, end_answer}
use Rattle.running.proofs.Closing.{callable, closes}
use Rattle.running.proofs.run_with.Goals as goal

pub start_anew-end-requires : goal.start_anew-end-requires
start_anew-end-requires g c = (callable c.requires.admitted c.requires.document c.fill_ends.ensures c.fill.ensures, c.requires.rows_len_bound)

pub returns : goal.returns
returns g c =
    let s = c.args in
    let starts = c.start_anew-end.ensures in
    let left = c.start_anew-end.new.rows in
    let same : length left ≡ length s.rows.now = c.start_anew-end.auto.rows in
    let cleared : length c.clear_from.new.rows ≡ length s.rows.now = c.clear_from.auto.rows ∙ same in
    closes _ s.numbers.now s.rows.now starts.outcome left (starts.calls (callable c.requires.admitted c.requires.document c.fill_ends.ensures c.fill.ensures))
    c.answer_of.result c.clear_from.new.rows
    (c.answer_of.ensures ∙ ap₂ (λ (n : ℕ) (w : Ended). end_answer (n / 3) (length s.numbers.now) w.end w.tally) cleared starts.ends)
    (c.clear_from.ensures ∙ ap₂ (λ (n m : ℕ). zero_filled n (take m left)) same (c.numbers_kept.ensures ∙ ap (λ (w : Ended). numbers_kept w.end w.tally) starts.ends))
