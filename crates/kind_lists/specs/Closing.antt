-- The end of a check: how the end of the list and the buffers, cleared after the rows that stand, give what the model says.
use Rattle.std.specs.Prelude.{◌≡◌, refl, List, [], ℕ, suc, ◌+◌, ◌*◌, length, take, Result, Ok, Err}
use Rattle.std.proofs.Common.{ap, subst, sym, ◌∙◌, arith}
use Rattle.std.proofs.Math.Seq.{take-length}
use Rattle.foundation.specs.Lists.{zero_filled}
use Rattle.model.specs.Tables.{Contract}
use Rattle.model.specs.Answers.{Answer, pass, tree, stopped}
use Rattle.model.specs.Rounds.{kind_automaton, ListedKind, rounds}
use Rattle.model.specs.Checking.{Checked, row_numbers, kind_numbers, standing, check}
use Rattle.model.specs.Meaning.{NoneBreaks}
use Rattle.model.proofs.Rounds.Stopping.{check_tree, check_stop, check_pass}
use Rattle.kind_lists.specs.Held.{Holds}
use Rattle.kind_lists.specs.Outcomes.{EndOfList}
use Rattle.kind_lists.specs.declared.ListStop.{ListStop}
use Rattle.kind_lists.specs.declared.ListStop.TheVariants as list-stop

-- how many rows stand, and the answer
abbrev pub rows_standing : Result ℕ ListStop → ℕ
rows_standing (Ok n) = n
rows_standing (Err (list-stop.Breaks j)) = j + 1
rows_standing (Err (list-stop.Full h)) = 0

abbrev pub answer_after : ℕ → Result ℕ ListStop → Answer
answer_after limit (Ok n) = pass n
answer_after limit (Err (list-stop.Breaks j)) = tree j
answer_after limit (Err (list-stop.Full h)) = stopped limit h

-- an answer and closing buffers are those of a check
pub record Gives (checked : Checked) (answer : Answer) (rows words : List ℕ) : Type 0 where
  pub answered : answer ≡ checked.answer
  pub rows_closed : rows ≡ checked.rows
  pub words_closed : words ≡ checked.words

module _ (C : Contract) (limit : ℕ) (rows words : List ℕ) where
  -- buffers that hold a list, cleared after it
  filled : (answer : Answer) (list : List (ListedKind C)) → Holds C limit rows words list → (k : ℕ) → k ≡ length list
      → Gives (standing C limit answer list) answer (zero_filled (length rows) (take (3 * k) rows)) (zero_filled (length words) (take (5 * k) words))
  unfolding standing
  filled answer list h k e =
      record {
        answered = refl;
        rows_closed = rw (e, h.row_room, h.rows_are);
        words_closed = rw (e, h.word_room, h.words_are);
      }

  -- buffers cleared whole
  nothing : (answer : Answer) → length rows ≡ 3 * limit → length words ≡ 5 * limit
      → Gives (standing C limit answer []) answer (zero_filled (length rows) (take (3 * 0) rows)) (zero_filled (length words) (take (5 * 0) words))
  unfolding standing row_numbers kind_numbers
  nothing answer row_room word_room = record { answered = refl; rows_closed = rw row_room; words_closed = rw word_room }

  pub closes : (e : Result ℕ ListStop) → EndOfList C limit rows words e
      → Gives (check C limit) (answer_after limit e) (zero_filled (length rows) (take (3 * rows_standing e) rows)) (zero_filled (length words) (take (5 * rows_standing e) words))
  closes (Ok n) o =
      let e = check_pass C limit o.height o.ended o.holds.fits (subst (λ (k : ℕ). NoneBreaks C k (rounds (kind_automaton C) o.height)) o.counted o.none) in
      rw e (subst (λ (k : ℕ). Gives (standing C limit (pass (length (rounds (kind_automaton C) o.height))) (rounds (kind_automaton C) o.height)) (pass k) (zero_filled (length rows) (take (3 * n) rows)) (zero_filled (length words) (take (5 * n) words))) (sym o.counted)
      (filled (pass (length (rounds (kind_automaton C) o.height))) (rounds (kind_automaton C) o.height) o.holds n o.counted))
  closes (Err (list-stop.Breaks j)) o =
      let last = o.last in
      let fits = o.holds.fits in
      let e = check_tree C limit o.list o.beginning j (omega arith) (omega arith) o.broken o.none in
      let whole : take (suc j) o.list ≡ o.list = ap (λ (k : ℕ). take k o.list) (sym last) ∙ take-length o.list in
      rw (e, whole) (filled (tree j) o.list o.holds (j + 1) (omega arith))
  closes (Err (list-stop.Full h)) o =
      let e = check_stop C limit h o.last o.overfull.none in
      rw e (nothing (stopped limit h) o.overfull.row_room o.overfull.word_room)
