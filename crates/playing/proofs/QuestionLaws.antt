-- QuestionLaws: what a question makes of the state. A limit out of range, or a room above the most, is refused whatever
-- buffers are lent, and nothing is then written.
use mathlib.Core.Path.{◌≡◌, refl, ap, ap₂, sym, ◌∙◌}
use mathlib.Core.Bool.{Bool, true, false, not, ◌&&◌, ◌||◌, true≢false}
use mathlib.Core.List.{List, [], ◌++◌}
use Prim.Native.Nat.{ℕ, ◌*◌, ◌-◌, ◌%◌, ◌≤◌, ◌<◌}
use native.Mathlib.Omega.{arith}
use lib.Dec.{eqb, ltb, leb}
use lib.ListN.{length, take, drop, length-replicate}
use lib.Seq.{take_at, length-take-le}
use borrow.Author.Tests.{lt-ltb, ltb-true, ltb-false, lt-leb, le-leb}
use Rattle.foundation.specs.Tests.{choose}
use Rattle.foundation.specs.Search.{first}
use Rattle.model.specs.Tables.{Contract}
use Rattle.model.specs.Answers.{Verdict, fine, refused, ◌then◌, refuse_if, refuse_first, Answer, refusal, given}
use Rattle.model.specs.Admission.{admission}
use Rattle.model.specs.Refusals.{AdmissionNumber, to_5, of_node, of_rules_and_facts}
use Rattle.model.proofs.Laws.Answers.{Numbers}
use Rattle.model.proofs.Laws.Admitted.{admission_numbers}
use Rattle.model.specs.Checking.{Checked, checking, checking_verdict}
use Rattle.model.specs.Running.{Ran, rows_wrong, running, running_verdict}
use Rattle.script.specs.Spans.{overwritten}
use Rattle.script.specs.Meaning as meaning
use Rattle.script.specs.Meaning.{State, contract_of, with_left, writes_rows, current_rows, untouched, labelled, answer_text}
use Rattle.playing.specs.declared.questions.Question.{Question}
use Rattle.playing.specs.declared.questions.Question.TheVariants as question
use Rattle.playing.specs.declared.questions.Lent.{Lent}
use Rattle.playing.specs.declared.desks.Left.{Left}
use Rattle.playing.specs.declared.desks.Left.TheVariants as left
use Rattle.playing.specs.declared.desks.Desk.{Desk}
use Rattle.playing.specs.Desks.{kept, stretch, span, tables_of, left_of, state_of, desk_with_left, Inside, LeftFits, InOrder}
use Rattle.playing.specs.Questions.{Asked, asked, Comes, Lends, question_step, limit_out, room_out, lent_to, left_after, Small, sets_rows, desk_after}
use Rattle.playing.proofs.StateLaws.{agree_overwritten, tables_agree}

-- a verdict that refuses by 9 where nothing else is refused: the answer, which comes with no written buffer
abbrev nine : Verdict → Answer
nine v = given (v then refused 9 0) refusal (refusal 9 0)

nine_quiet : (v : Verdict) → Numbers AdmissionNumber v → writes_rows (nine v) ≡ false
unfolding given ◌then◌
nine_quiet fine of-admission = refl
nine_quiet (refused number place) of-admission = go (of-admission number place refl)
  where
    go : AdmissionNumber number → (leb 13 number && leb number 15) ≡ false
    go (to_5 l m) = rw (lt-leb 13 number (omega arith))
    go (of_node l m) = rw (le-leb 13 number (omega arith), lt-leb number 15 (omega arith))
    go (of_rules_and_facts l m) = rw (lt-leb 13 number (omega arith))

given_nine : {A : Type 0} (f : Answer → A) (v : Verdict) (a : A) → given (v then refused 9 0) (λ number place. f (refusal number place)) a ≡ f (nine v)
unfolding given ◌then◌
given_nine f fine a = refl
given_nine f (refused number place) a = refl

then_nine : (v w : Verdict) → v then (refused 9 0 then w) ≡ v then refused 9 0
unfolding ◌then◌
then_nine v w = refl

module _ (C : Contract) where
  -- a check with a limit out of range
  check_out : (limit : ℕ) (rows words : List ℕ) → limit_out limit ≡ true
      → checking C limit rows words ≡ record { answer = nine (admission C); rows = rows; words = words }
  unfolding checking checking_verdict refuse_first refuse_if first
  check_out limit rows words e = rw e (given_nine (λ (a : Answer). record { answer = a; rows = rows; words = words }) (admission C) _)

  -- a run with too much room, or with a buffer of one number
  run_out : (numbers rows : List ℕ) → rows_wrong (length rows) ≡ true → running C numbers rows ≡ record { answer = nine (admission C); rows = rows }
  unfolding running running_verdict refuse_if
  run_out numbers rows e = rw e (rw (then_nine (admission C)) (given_nine (λ (a : Answer). record { answer = a; rows = rows }) (admission C) _))

-- a limit in range
or_right : (a b : Bool) → (a || b) ≡ false → b ≡ false
or_right true b e = absurd (true≢false e)
or_right false b e = e

pub limit_in : (limit : ℕ) → limit_out limit ≡ false → limit ≤ 512
limit_in limit t = ltb-false 512 limit (or_right (ltb limit 1) (ltb 512 limit) t)

-- a buffer of more rows than the most
or_true : (a b : Bool) → b ≡ true → (a || b) ≡ true
or_true true b e = refl
or_true false b e = e

room_wrong : (room : ℕ) → room_out room ≡ true → rows_wrong (length (untouched (3 * room))) ≡ true
room_wrong room t =
    let n : length (untouched (3 * room)) ≡ 3 * room = length-replicate {A = ℕ} (3 * room) 7 in
    let l : 4096 < room = ltb-true 4096 room t in
    or_true (not (eqb (length (untouched (3 * room)) % 3) 0)) (ltb 12288 (length (untouched (3 * room)))) (lt-ltb 12288 (length (untouched (3 * room))) (omega arith))

-- the first numbers of a buffer that begins with a list of that length
first_of : (xs rest : List ℕ) (n : ℕ) → length xs ≡ n → take n (xs ++ rest) ≡ xs
first_of xs rest n e = take_at xs rest n e

-- what comes of a question where the beginnings of two buffers are lent
pub lends : (C : Contract) (q : Question) (document rows words : List ℕ) (lent : Lent) (a : Answer) (x y : List ℕ) → lent.rows ≤ length rows → lent.words ≤ length words
    → Comes (asked C q document (untouched (length (take lent.rows rows))) (untouched (length (take lent.words words)))) a x y
    → length x ≡ length (take lent.rows rows) → length y ≡ length (take lent.words words)
    → Lends (asked C q document (untouched lent.rows) (untouched lent.words)) lent a rows words (x ++ drop lent.rows rows) (y ++ drop lent.words words)
lends C q document rows words lent a x y h k come lx ly =
    let er : length (take lent.rows rows) ≡ lent.rows = length-take-le lent.rows rows h in
    let ew : length (take lent.words words) ≡ lent.words = length-take-le lent.words words k in
    let same : Comes (asked C q document (untouched lent.rows) (untouched lent.words)) a x y = rw (er, ew) at come in
    record {
      answers = same.0;
      rows_closed = ap (λ (l : List ℕ). l ++ drop lent.rows rows) same.1;
      words_closed = ap (λ (l : List ℕ). l ++ drop lent.words words) same.2;
      rows_long = ap length (sym same.1) ∙ lx ∙ er;
      words_long = ap length (sym same.2) ∙ ly ∙ ew;
    }

-- what is lent fits the buffers, and so does what is left
pub lent_most : (q : Question) → ((lent_to q).rows ≤ 12288) × ((lent_to q).words ≤ 2560)
lent_most question.Admit = (omega arith, omega arith)
lent_most question.Judge = (omega arith, omega arith)
lent_most (question.Check limit) = go (limit_out limit) refl
  where
    go : (b : Bool) → limit_out limit ≡ b → ((lent_to (question.Check limit)).rows ≤ 12288) × ((lent_to (question.Check limit)).words ≤ 2560)
    go true t = rw t (omega arith, omega arith)
    go false t = rw t (let most : limit ≤ 512 = limit_in limit t in (omega arith, omega arith))
lent_most (question.Run room) = go (room_out room) refl
  where
    go : (b : Bool) → room_out room ≡ b → ((lent_to (question.Run room)).rows ≤ 12288) × ((lent_to (question.Run room)).words ≤ 2560)
    go true t = rw t (omega arith, omega arith)
    go false t = rw t (let most : room ≤ 4096 = ltb-false 4096 room t in (omega arith, omega arith))

left_fits : (q : Question) (older : Left) → Small q → LeftFits older → LeftFits (left_after q older)
left_fits question.Admit older h f = f
left_fits question.Judge older h f = omega arith
left_fits (question.Check limit) older h f = go (limit_out limit) refl
  where
    go : (b : Bool) → limit_out limit ≡ b → LeftFits (left_after (question.Check limit) older)
    go true t = rw t (omega arith, omega arith)
    go false t = rw t (let most : limit ≤ 512 = limit_in limit t in (omega arith, omega arith))
left_fits (question.Run room) older h f = go (room_out room) refl
  where
    go : (b : Bool) → room_out room ≡ b → LeftFits (left_after (question.Run room) older)
    go true t = rw t (omega arith)
    go false t = rw t (let most : room ≤ 4096 = ltb-false 4096 room t in omega arith)

module _ (label numbers rows words : List ℕ) (d : Desk) (o : InOrder d) where
  abbrev pub before : State
  before = state_of label d numbers rows words

  -- the state behind a question that was answered
  abbrev pub behind : Question → Asked → State
  behind q a =
      state_of label (desk_after d q a.answer) (choose (sets_rows q a.answer) (overwritten a.rows numbers) numbers)
      (a.rows ++ drop (lent_to q).rows rows)
      (a.words ++ drop (lent_to q).words words)

  -- the answer to a question with the buffers that are lent
  abbrev pub answered : Question → List ℕ → Asked
  answered q values = asked (contract_of before) q values (untouched (lent_to q).rows) (untouched (lent_to q).words)

  -- rows that are written become the current table, at the beginning of the buffer
  chosen_state : (b : Bool) (xs : List ℕ) (r : ℕ) (l : Left) (rows₁ words₁ : List ℕ) → length xs ≡ r → r ≤ kept
      → state_of label (desk_with_left d (choose b (span 0 r) d.rows) l) (choose b (overwritten xs numbers) numbers) rows₁ words₁
      ≡ with_left before (choose b xs (stretch numbers d.rows)) (left_of rows₁ words₁ l)
  chosen_state true xs r l rows₁ words₁ e h =
      let t : tables_of (overwritten xs numbers) d.tables ≡ tables_of numbers d.tables =
      tables_agree (overwritten xs numbers) numbers (agree_overwritten xs numbers kept d.used (omega arith)) o.tables in
      let s : stretch (overwritten xs numbers) (span 0 r) ≡ xs = first_of xs (drop (length xs) numbers) (r - 0) (omega arith) in
      rw (t, s)
  chosen_state false xs r l rows₁ words₁ e h = refl

  -- a question that is refused by 9 at the latest leaves everything but its buffers
  quiet_state : (a : Answer) (xs : List ℕ) (r : ℕ) (l : Left) (rows₁ words₁ current : List ℕ) → writes_rows a ≡ false
      → state_of label (desk_with_left d (choose (writes_rows a) (span 0 r) d.rows) l) (choose (writes_rows a) (overwritten xs numbers) numbers) rows₁ words₁
      ≡ with_left before (current_rows a current (stretch numbers d.rows)) (left_of rows₁ words₁ l)
  quiet_state a xs r l rows₁ words₁ current e = rw e

  -- what is known of the buffers behind a question: they keep their lengths
  abbrev pub Lengths : Question → List ℕ → Type 0
  Lengths q values = (length (answered q values).rows ≡ (lent_to q).rows) × (length (answered q values).words ≡ (lent_to q).words)

  -- the step of the definition is what is made of the answer
  abbrev Steps : Question → List ℕ → Type 0
  Steps q values =
      (behind q (answered q values) ≡ (question_step before q values).state)
      × (labelled before (answer_text (answered q values).answer) ≡ (question_step before q values).printed)

  check_steps : (limit : ℕ) (values : List ℕ) (b : Bool) → limit_out limit ≡ b → Lengths (question.Check limit) values → Steps (question.Check limit) values
  unfolding asked
  check_steps limit values true t e =
      let small = check_out (contract_of before) limit [] [] t in
      let large = check_out (contract_of before) limit (untouched (3 * limit)) (untouched (5 * limit)) t in
      let a : Answer = nine (admission (contract_of before)) in (
        rw (t, small, large)
            (quiet_state a [] 0 (left.Sevens (3 * limit) (5 * limit)) rows words (untouched (3 * limit)) (nine_quiet (admission (contract_of before)) (admission_numbers (contract_of before)))),
        rw (t, small, large),
      )
  check_steps limit values false t e =
      let k : Checked = checking (contract_of before) limit (untouched (3 * limit)) (untouched (5 * limit)) in
      let f : (length k.rows ≡ 3 * limit) × (length k.words ≡ 5 * limit) = rw t at e in
      let most : limit ≤ 512 = limit_in limit t in (
        rw t
            (chosen_state (writes_rows k.answer) k.rows (3 * limit) (left.Both (3 * limit) (5 * limit)) (k.rows ++ drop (3 * limit) rows) (k.words ++ drop (5 * limit) words) f.0 (omega arith)
            ∙ ap₂ (λ (x y : List ℕ). with_left before (current_rows k.answer k.rows (stretch numbers d.rows)) (meaning.both x y))
            (first_of k.rows (drop (3 * limit) rows) (3 * limit) f.0)
            (first_of k.words (drop (5 * limit) words) (5 * limit) f.1)),
        rw t,
      )

  run_steps : (room : ℕ) (values : List ℕ) (b : Bool) → room_out room ≡ b → Lengths (question.Run room) values → Steps (question.Run room) values
  unfolding asked
  run_steps room values true t e =
      let small = run_out (contract_of before) values (untouched 1) refl in
      let large = run_out (contract_of before) values (untouched (3 * room)) (room_wrong room t) in
      let a : Answer = nine (admission (contract_of before)) in (
        rw (t, small, large)
            (quiet_state a (untouched 1) 1 (left.SevenRows (3 * room)) (untouched 1 ++ drop 1 rows) words (untouched (3 * room)) (nine_quiet (admission (contract_of before)) (admission_numbers (contract_of before)))),
        rw (t, small, large),
      )
  run_steps room values false t e =
      let k : Ran = running (contract_of before) values (untouched (3 * room)) in
      let f : (length k.rows ≡ 3 * room) × (length (untouched 0) ≡ 0) = rw t at e in
      let most : room ≤ 4096 = ltb-false 4096 room t in (
        rw t
            (chosen_state (writes_rows k.answer) k.rows (3 * room) (left.Rows (3 * room)) (k.rows ++ drop (3 * room) rows) words f.0 (omega arith)
            ∙ ap (λ (x : List ℕ). with_left before (current_rows k.answer k.rows (stretch numbers d.rows)) (meaning.rows x))
            (first_of k.rows (drop (3 * room) rows) (3 * room) f.0)),
        rw t,
      )

  pub question_steps : (q : Question) (values : List ℕ) → Lengths q values → Steps q values
  unfolding asked
  question_steps question.Admit values e = (refl, refl)
  question_steps question.Judge values e = (
    ap (λ (l : List ℕ). with_left before (stretch numbers d.rows) (meaning.words l)) (first_of (answered question.Judge values).words (drop 5 words) 5 e.1),
    refl,
  )
  question_steps (question.Check limit) values e = check_steps limit values (limit_out limit) refl e
  question_steps (question.Run room) values e = run_steps room values (room_out room) refl e

  -- the desk stays in order
  rows_inside : (b : Bool) (r : ℕ) → r ≤ kept → Inside 0 d.used (choose b (span 0 r) d.rows)
  rows_inside true r h = record { from = omega arith; ordered = omega arith; up_to = omega (arith, o.least) }
  rows_inside false r h = o.rows

  pub question_order : (q : Question) (a : Answer) → Small q → InOrder (desk_after d q a)
  question_order q a h =
      record {
        tables = o.tables;
        rows = rows_inside (sets_rows q a) (lent_to q).rows (lent_most q).0;
        left = left_fits q d.left h o.left;
        least = o.least;
        most = o.most;
      }
