-- PlayLaws: what a statement prints is what its step prints, and an answered question is the definition's step.
use mathlib.Core.Path.{◌≡◌, refl, ap, ap₂, sym, subst, ◌∙◌}
use mathlib.Core.Bool.{true, false}
use mathlib.Core.List.{List, ◌++◌}
use Prim.Native.Nat.{ℕ, ◌+◌, ◌*◌, ◌≤◌}
use native.Mathlib.Omega.{arith}
use lib.ListN.{length, take, drop, length-append}
use lib.Seq.{take_at}
use Rattle.foundation.specs.Tests.{choose}
use Rattle.model.specs.Answers.{Answer}
use Rattle.model.specs.WritingOut.{Written}
use Rattle.printing.specs.Appending.{Appended, Appends}
use Rattle.printing.specs.declared.pages.Page.{Page}
use Rattle.script.specs.Spans.{overwritten}
use Rattle.script.specs.Meaning.{State, line, labelled, spaced, answer_text, untouched}
use Rattle.playing.specs.declared.desks.Desk.{Desk}
use Rattle.playing.specs.declared.desks.Left.{Left}
use Rattle.playing.specs.declared.questions.Question.{Question}
use Rattle.playing.specs.declared.questions.Lent.{Lent}
use Rattle.playing.specs.declared.showing.Printed.TheVariants as printed
use Rattle.playing.specs.Desks.{stretch, span, state_of, contract_at, desk_with_left, InOrder}
use Rattle.playing.specs.Questions.{Asked, asked, Comes, Lends, question_step, lent_to, left_after, Small, sets_rows, desk_after}
use Rattle.playing.specs.Printed.{printed_text, PrintedFits, most_output}
use Rattle.playing.specs.Plays.{Plays}
use Rattle.playing.proofs.QuestionLaws.{answered, question_steps, question_order}
use Rattle.playing.proofs.LineLaws.{Both, appended_first, appended_within, appended_two, line_length, answer_short, spaced_short, sevens_short}

-- one line, and two
module _ (entry text : List ℕ) {place : ℕ} {out : List ℕ} (a : Appended entry 0 (line text) place out) (h : length (line text) ≤ length entry) where
  pub one_line : (s : State) → printed_text s.label out (printed.Line place) ≡ labelled s text
  one_line s = ap (λ (l : List ℕ). s.label ++ l) (appended_first entry (line text) a h)

  pub one_fits : PrintedFits (printed.Line place) (length out)
  one_fits = appended_within entry (line text) a h

module _ (entry x y : List ℕ) {n m : ℕ} {mid out : List ℕ} (a : Appended entry 0 (line x) n mid) (b : Appended mid n (line y) m out) (h : length (line x) + length (line y) ≤ length entry) where
  pub two_lines : (s : State) → printed_text s.label out (printed.Lines n m) ≡ labelled s x ++ labelled s y
  two_lines s =
      let both : Both (line x) (line y) n m out = appended_two entry (line x) (line y) a b h in
      ap₂ ◌++◌ (ap (λ (l : List ℕ). s.label ++ l) both.front) (ap (λ (l : List ℕ). s.label ++ l) both.back)

  pub two_fit : PrintedFits (printed.Lines n m) (length out)
  two_fit = let both : Both (line x) (line y) n m out = appended_two entry (line x) (line y) a b h in (both.ordered, both.within)

-- the same on a page that was empty
pub from_start : {a b : Page} {text : List ℕ} → a.at ≡ 0 → Appends a b text → Appended a.out.now 0 text b.at b.out.now
from_start {a} {b} {text} z p = subst (λ (n : ℕ). Appended a.out.now n text b.at b.out.now) z p.put

-- how long the lines of buffers are
pub list_line : (word numbers : List ℕ) → length (line (word ++ spaced numbers)) ≤ 2 + (length word + 21 * length numbers)
list_line word numbers = omega (arith, line_length (word ++ spaced numbers), length-append word (spaced numbers), spaced_short numbers)

pub sevens_length : (word : List ℕ) (count : ℕ) → length (line (word ++ spaced (untouched count))) ≡ 2 + (length word + 2 * count)
sevens_length word count = omega (arith, line_length (word ++ spaced (untouched count)), length-append word (spaced (untouched count)), sevens_short count)

-- what writing out gave, as one value
pub written_whole : (w : Written) {answer : Answer} {numbers : List ℕ} → answer ≡ w.answer → numbers ≡ w.numbers → ◌≡◌ {A = Written} (record { answer = answer; numbers = numbers }) w
written_whole w e f = rw (e, f)

-- an answered question
module _ (label numbers rows words entry : List ℕ) (d : Desk) (o : InOrder d) (q : Question) (end : ℕ) (small : Small q) (fits : most_output ≤ length entry) where
  abbrev pub before : State
  before = state_of label d numbers rows words

  abbrev pub document : List ℕ
  document = stretch numbers (span d.used end)

  plays_asked : (a : Asked) {place : ℕ} {out : List ℕ} → a ≡ answered label numbers rows words d o q document
      → length a.rows ≡ (lent_to q).rows → length a.words ≡ (lent_to q).words → Appended entry 0 (line (answer_text a.answer)) place out
      → Plays label label (question_step before q document) (desk_after d q a.answer) (choose (sets_rows q a.answer) (overwritten a.rows numbers) numbers)
      (a.rows ++ drop (lent_to q).rows rows)
      (a.words ++ drop (lent_to q).words words)
      out
      (printed.Line place)
  plays_asked a {place} {out} e k l p =
      let steps = question_steps label numbers rows words d o q document (ap (λ (b : Asked). length b.rows) (sym e) ∙ k, ap (λ (b : Asked). length b.words) (sym e) ∙ l) in
      let short : length (line (answer_text a.answer)) ≤ length entry = omega (arith, line_length (answer_text a.answer), answer_short a.answer) in
      record {
        state = rw e steps.0;
        text = one_line entry (answer_text a.answer) p short before ∙ ap (λ (b : Asked). labelled before (answer_text b.answer)) e ∙ steps.1;
        order = question_order label numbers rows words d o q a.answer small;
        fits = one_fits entry (answer_text a.answer) p short;
      }

  -- by what the code knows: how much was lent, what came of the question, and what the buffers hold
  pub plays_answer : (r w : ℕ) (a : Answer) (x y : List ℕ) {place : ℕ} {out numbers₁ rows₁ words₁ : List ℕ} {d₁ : Desk} → r ≡ (lent_to q).rows → w ≡ (lent_to q).words
      → Comes (asked (contract_at d numbers) q document (untouched r) (untouched w)) a x y → length x ≡ r → length y ≡ w
      → Appended entry 0 (line (answer_text a)) place out → numbers₁ ≡ choose (sets_rows q a) (overwritten x numbers) numbers → rows₁ ≡ x ++ drop r rows
      → words₁ ≡ y ++ drop w words → d₁ ≡ desk_after d q a
      → Plays label label (question_step before q document) d₁ numbers₁ rows₁ words₁ out (printed.Line place)
  plays_answer r w a x y {place} {out} er ew come k l p en es et ed =
      let given : Asked = record { answer = a; rows = x; words = y } in
      let same : given ≡ answered label numbers rows words d o q document =
      rw (come.0, come.1, come.2, er, ew) in
      rw (en, es, et, ed, er, ew) (plays_asked given same (k ∙ er) (l ∙ ew) p)

  module _ (lent : Lent) (a : Answer) {rows₁ words₁ out : List ℕ} {place : ℕ} {l : Left} (e : lent ≡ lent_to q)
      (given : Lends (asked (contract_at d numbers) q document (untouched lent.rows) (untouched lent.words)) lent a rows words rows₁ words₁)
      (p : Appended entry 0 (line (answer_text a)) place out) (left : l ≡ left_after q d.left) where
    closed : Asked
    closed = asked (contract_at d numbers) q document (untouched lent.rows) (untouched lent.words)

    -- the rows written become the current table
    pub plays_set : {numbers₁ : List ℕ} {d₁ : Desk} → sets_rows q a ≡ true → numbers₁ ≡ overwritten (take lent.rows rows₁) numbers
        → d₁ ≡ desk_with_left d (span 0 lent.rows) l → Plays label label (question_step before q document) d₁ numbers₁ rows₁ words₁ out (printed.Line place)
    unfolding closed
    plays_set t en ed =
        let first : take lent.rows rows₁ ≡ closed.rows =
        ap (take lent.rows) given.rows_closed ∙ take_at closed.rows (drop lent.rows rows) lent.rows given.rows_long in
        plays_answer lent.rows lent.words a closed.rows closed.words (ap (λ (x : Lent). x.rows) e) (ap (λ (x : Lent). x.words) e) (given.answers, refl, refl) given.rows_long
        given.words_long
        p
        (rw t (en ∙ ap (λ (xs : List ℕ). overwritten xs numbers) first))
        given.rows_closed
        given.words_closed
        (rw t (ed ∙ ap₂ (λ (n : ℕ) (m : Left). desk_with_left d (span 0 n) m) (ap (λ (x : Lent). x.rows) e) left))

    -- the older table stays
    pub plays_kept : {d₁ : Desk} → sets_rows q a ≡ false → d₁ ≡ desk_with_left d d.rows l
        → Plays label label (question_step before q document) d₁ numbers rows₁ words₁ out (printed.Line place)
    unfolding closed
    plays_kept t ed =
        plays_answer lent.rows lent.words a closed.rows closed.words (ap (λ (x : Lent). x.rows) e) (ap (λ (x : Lent). x.words) e) (given.answers, refl, refl) given.rows_long
        given.words_long
        p
        (rw t)
        given.rows_closed
        given.words_closed
        (rw t (ed ∙ ap (λ (m : Left). desk_with_left d d.rows m) left))
