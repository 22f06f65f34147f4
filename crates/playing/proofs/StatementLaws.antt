-- StatementLaws: each statement done, as the definition's step.
use mathlib.Core.Path.{◌≡◌, refl, ◌∙◌}
use mathlib.Core.List.{List}
use Prim.Native.Nat.{ℕ, ◌+◌, ◌≤◌}
use Rattle.std.specs.Prelude.{Option, None, Result, Ok, Err}
use native.Mathlib.Omega.{arith}
use lib.ListN.{length}
use Rattle.model.specs.WritingOut.{writing_out}
use Rattle.script.specs.Meaning.{State, Step, quiet, step, step_read, labelled, left_lines, written_text, untouched, most_numbers}
use Rattle.script.specs.declared.spans.Span.{Span}
use Rattle.script.specs.declared.spans.Fault.{Fault}
use Rattle.lexing.specs.declared.words.Size.{Size}
use Rattle.lexing.specs.declared.words.Table.{Table}
use Rattle.script.specs.declared.statements.Listed.{Listed}
use Rattle.script.specs.declared.statements.Listed.TheVariants as listed
use Rattle.script.specs.declared.statements.Statement.{Statement}
use Rattle.script.specs.declared.statements.Statement.TheVariants as statement
use Rattle.playing.specs.declared.desks.Desk.{Desk}
use Rattle.playing.specs.declared.questions.Question.TheVariants as question
use Rattle.playing.specs.declared.showing.Printed.{Printed}
use Rattle.playing.specs.declared.showing.Printed.TheVariants as printed
use Rattle.playing.specs.Desks.{kept, stretch, span, label_of, left_of, state_of, desk_with_size, desk_with_table, desk_with_rows, InOrder}
use Rattle.playing.specs.Questions.{question_step}
use Rattle.playing.specs.Printed.{printed_text, PrintedFits}
use Rattle.playing.specs.Plays.{Plays}
use Rattle.playing.proofs.StateLaws.{size_state, table_state, rows_state, size_order, table_order, rows_order}

-- a step that prints nothing
plays_quiet : {before after : List ℕ} {s : Step} {d : Desk} {numbers rows words : List ℕ} (out : List ℕ) → s ≡ quiet (state_of after d numbers rows words) → InOrder d
    → Plays before after s d numbers rows words out printed.Nothing
plays_quiet out e o = rw e (record { state = refl; text = refl; order = o; fits = tt })

-- a question's step
pub plays_as : (text : List ℕ) {label after : Option Span} {s t : Step} {d : Desk} {numbers rows words out : List ℕ} {p : Printed} → after ≡ label → s ≡ t
    → Plays (label_of text label) (label_of text label) t d numbers rows words out p
    → Plays (label_of text label) (label_of text after) s d numbers rows words out p
plays_as text el es p = rw (el, es) p

module _ (state : State) (text : List ℕ) where
  pub step_admit : {st : Statement} (values others : List ℕ) → st ≡ statement.Admit → step state text st values ≡ question_step state question.Admit others
  unfolding step
  step_admit values others e = rw e

  pub step_check : {st : Statement} {limit n : ℕ} (values others : List ℕ) → st ≡ statement.Check limit → n ≡ limit → step state text st values ≡ question_step state (question.Check n) others
  unfolding step
  step_check values others e f = rw (e, f)

  pub step_judge : {l : Listed} (count : ℕ) (values : List ℕ) → l ≡ listed.Judge → step state text (statement.List l count) values ≡ question_step state question.Judge values
  unfolding step
  step_judge count values e = rw e

  pub step_run : {l : Listed} {room n : ℕ} (count : ℕ) (values : List ℕ) → l ≡ listed.Run room → n ≡ room
      → step state text (statement.List l count) values ≡ question_step state (question.Run n) values
  unfolding step
  step_run count values e f = rw (e, f)

module _ (label numbers rows words out text : List ℕ) (d : Desk) (o : InOrder d) where
  abbrev pub Still : (after : List ℕ) → Statement → List ℕ → Desk → Printed → Type 0
  Still after st values d₁ p = Plays label after (step (state_of label d numbers rows words) text st values) d₁ numbers rows words out p

  pub plays_case : {st : Statement} {s : Span} (values : List ℕ) → st ≡ statement.Case s → Still (stretch text s) st values d printed.Nothing
  unfolding step
  plays_case values e = plays_quiet out (rw e) o

  pub plays_size : {st : Statement} {z : Size} {v n : ℕ} {d₁ : Desk} (values : List ℕ) → st ≡ statement.Size z v → n ≡ v → d₁ ≡ desk_with_size d z n
      → Still label st values d₁ printed.Nothing
  unfolding step
  plays_size {z = z} {v = v} values e f ed = rw (ed, f) (plays_quiet out (rw (e, size_state label numbers rows words d z v)) (size_order d o z v))

  module _ (count : ℕ) (h : d.used + count ≤ length numbers) (k : length numbers ≡ kept + most_numbers) where
    pub plays_table : {l : Listed} {t : Table} {d₁ : Desk} → l ≡ listed.Table t → d₁ ≡ desk_with_table d t (d.used + count)
        → Still label (statement.List l count) (stretch numbers (span d.used (d.used + count))) d₁ printed.Nothing
    unfolding step
    plays_table {t = t} e ed =
        rw ed
        (plays_quiet out (rw (e, table_state label numbers rows words d t (d.used + count) o (omega arith) h)) (table_order d o (d.used + count) (omega arith) (omega arith) t))

    pub plays_rows : {l : Listed} {d₁ : Desk} → l ≡ listed.Rows → d₁ ≡ desk_with_rows d (d.used + count)
        → Still label (statement.List l count) (stretch numbers (span d.used (d.used + count))) d₁ printed.Nothing
    unfolding step
    plays_rows e ed =
        rw ed
        (plays_quiet out (rw (e, rows_state label numbers rows words d (d.used + count) o (omega arith) h)) (rows_order d o (d.used + count) (omega arith) (omega arith)))

  pub plays_write : {st : Statement} {row room n m : ℕ} {p : Printed} (values tree : List ℕ) → st ≡ statement.Write row room → n ≡ row → length tree ≡ m → m ≡ room
      → ((s : State) → printed_text s.label out p ≡ labelled s (written_text (writing_out (stretch numbers d.rows) n (untouched (length tree))))) → PrintedFits p (length out)
      → Still label st values d p
  unfolding step
  plays_write values tree e f g h shown fits =
      rw e
      (record { state = refl; text = rw (f, g ∙ h) at (shown (state_of label d numbers rows words)); order = o; fits = fits })

  pub plays_show : {st : Statement} {p : Printed} (values : List ℕ) → st ≡ statement.Show → ((s : State) → printed_text s.label out p ≡ left_lines s (left_of rows words d.left))
      → PrintedFits p (length out)
      → Still label st values d p
  unfolding step
  plays_show values e shown fits = rw e (record { state = refl; text = shown (state_of label d numbers rows words); order = o; fits = fits })

  -- nothing was read
  abbrev Quiet : Result (Option Statement) Fault → List ℕ → Type 0
  Quiet read values = Plays label label (step_read (state_of label d numbers rows words) text read values) d numbers rows words out printed.Nothing

  pub plays_end : {read : Result (Option Statement) Fault} (values : List ℕ) → read ≡ Ok None → Quiet read values
  plays_end values e = plays_quiet out (rw e) o

  pub plays_fault : {read : Result (Option Statement) Fault} {f : Fault} (values : List ℕ) → read ≡ Err f → Quiet read values
  plays_fault values e = plays_quiet out (rw e) o
