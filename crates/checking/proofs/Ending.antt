-- At the end of the list the rows that stand are in the buffers.
use Rattle.std.specs.Prelude.{◌≡◌, List, ℕ, ◌++◌, ◌-◌, ◌*◌, ◌≤◌, length, take, drop, replicate, Result, Ok, Err}
use Rattle.std.proofs.Common.{arith, ap, ◌∙◌, length-drop, length-take-le}
use Rattle.foundation.specs.Lists.{zero_filled}
use Rattle.model.specs.Tables.{Contract}
use Rattle.model.specs.Answers.{Answer}
use Rattle.model.specs.Checking.{check}
use Rattle.kind_lists.specs.Outcomes.{EndOfList}
use Rattle.kind_lists.specs.Closing.{rows_standing, answer_after, Gives, closes}
use Rattle.checking.specs.Cleared.{cleared_from}
use Rattle.kind_lists.specs.declared.ListStop.{ListStop}
use Rattle.kind_lists.specs.declared.ListStop.TheVariants as list-stop

pub record Stands (limit standing : ℕ) (rows words : List ℕ) : Type 0 where
  pub few : limit ≤ 512
  pub fits : standing ≤ limit
  pub row_room : length rows ≡ 3 * limit
  pub word_room : length words ≡ 5 * limit

pub stands : (C : Contract) (limit : ℕ) (rows words : List ℕ) (e : Result ℕ ListStop) → EndOfList C limit rows words e → Stands limit (rows_standing e) rows words
stands C limit rows words (Ok n) o =
    let h = o.holds in let k = o.counted in
    record { few = h.few; fits = omega (arith, h.fits); row_room = h.row_room; word_room = h.word_room }
stands C limit rows words (Err (list-stop.Breaks j)) o =
    let h = o.holds in let k = o.last in
    record { few = h.few; fits = omega (arith, h.fits); row_room = h.row_room; word_room = h.word_room }
stands C limit rows words (Err (list-stop.Full height)) o =
    let h = o.overfull in
    record { few = h.few; fits = omega arith; row_room = h.row_room; word_room = h.word_room }

-- a buffer that is cleared from a place on
pub cleared_filled : (l : List ℕ) (n : ℕ) → n ≤ length l → cleared_from n l ≡ zero_filled (length l) (take n l)
unfolding zero_filled
cleared_filled l n h =
    let e : length (drop n l) ≡ length l - length (take n l) = omega (arith, length-drop n l, length-take-le n l h) in
    ap (λ (k : ℕ). take n l ++ replicate k 0) e

-- .. and cleared after them the buffers are those of the check
pub ended_gives : (C : Contract) (limit : ℕ) (rows words : List ℕ) (e : Result ℕ ListStop) → EndOfList C limit rows words e
    → (standing : ℕ) → standing ≡ rows_standing e
    → (rows' words' : List ℕ) → rows' ≡ cleared_from (3 * standing) rows → words' ≡ cleared_from (5 * standing) words
    → (answer : Answer) → answer ≡ answer_after limit e
    → Gives (check C limit) answer rows' words'
ended_gives C limit rows words e o standing es rows' words' er ew answer ea =
    let g = closes C limit rows words e o in
    let s = stands C limit rows words e o in
    record {
      answered = ea ∙ g.answered;
      rows_closed = er ∙ ap (λ (k : ℕ). cleared_from (3 * k) rows) es ∙ cleared_filled rows (3 * rows_standing e) (omega (arith, s.fits, s.row_room)) ∙ g.rows_closed;
      words_closed = ew ∙ ap (λ (k : ℕ). cleared_from (5 * k) words) es ∙ cleared_filled words (5 * rows_standing e) (omega (arith, s.fits, s.word_room)) ∙ g.words_closed;
    }
