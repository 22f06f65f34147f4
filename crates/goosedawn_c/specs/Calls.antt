-- What a caller in C or Rust may conclude from a check or a judgement: the reply and the closing buffers are those of a call, of
-- which `checking` says what they mean (`call_meaning`, `larger_limit_stop_of_calls`, `demand_3_of_calls`; of three calls, MergeReplies),
-- and `judging` (`judged_call`, `judged_in_turn`).
use Rattle.std.specs.Prelude.{◌≡◌, refl, List, ℕ, eqb}
use Rattle.std.proofs.Common.{ap, ◌∙◌, ne_eqb}
use Rattle.foundation.specs.Tests.{choose}
use Rattle.model.specs.Tables.{Contract}
use Rattle.model.specs.Answers.{Answer, refusal, stopped, admitted, judged, pass, tree, ran, written}
use Rattle.model.specs.Checking.{checking}
use Rattle.model.specs.Judging.{judging}
use Rattle.model.specs.Refusals.{NotTen}
use Rattle.model.proofs.Meaning.Refusals.{operation_refusals}
use Rattle.checking.specs.Calls.{Call}
use Rattle.judging.specs.Calls as judging-calls
use Rattle.goosedawn_c.specs.declared.Reply.{Reply}
use Rattle.goosedawn_c.specs.Replies.{reply_of, Checks, Judges}

-- the answer of a reply
abbrev pub answer_of : Reply → Answer
answer_of r =
    choose (eqb r.answer 0) (choose (eqb r.first 10) (stopped r.second r.third) (refusal r.first r.second))
    (choose (eqb r.answer 1) admitted
    (choose (eqb r.answer 2) (judged r.first r.second)
    (choose (eqb r.answer 3) (pass r.first)
    (choose (eqb r.answer 4) (tree r.first)
    (choose (eqb r.answer 5) (ran r.first r.second r.third) (written r.first))))))

-- no two answers have one reply, as 10 is the number of a stop alone
pub answer_of_reply : (answer : Answer) → NotTen answer → answer_of (reply_of answer) ≡ answer
answer_of_reply admitted other = refl
answer_of_reply (judged result taken) other = refl
answer_of_reply (tree row) other = refl
answer_of_reply (pass count) other = refl
answer_of_reply (ran root used taken) other = refl
answer_of_reply (written count) other = refl
answer_of_reply (stopped limit height) other = refl
answer_of_reply (refusal number place) other = rw (ne_eqb number 10 (λ ten. other place (ap (λ (n : ℕ). refusal n place) ten)))

module _ (C : Contract) (L : ℕ) (rows words : List ℕ) (r : Reply) (closing_rows closing_words : List ℕ) where
  -- the call that the promise of `goosedawn_check` speaks of
  abbrev pub call_of : Checks r closing_rows closing_words (checking C L rows words) → Call C L
  call_of promise =
      record {
        rows = rows;
        words = words;
        answer = answer_of r;
        closing_rows = closing_rows;
        closing_words = closing_words;
        gives =
            record {
              answered = ap answer_of promise.0 ∙ answer_of_reply _ (operation_refusals.checking_not_ten C L rows words);
              rows_closed = promise.1;
              words_closed = promise.2;
            };
      }

module _ (C : Contract) (numbers buffer : List ℕ) (r : Reply) (closing : List ℕ) where
  -- the call that the promise of `goosedawn_judge` speaks of
  abbrev pub judging_call_of : Judges r closing (judging C numbers buffer) → judging-calls.Call C
  judging_call_of promise =
      record {
        numbers = numbers;
        buffer = buffer;
        answer = answer_of r;
        closing = closing;
        comes = record { answers = ap answer_of promise.0 ∙ answer_of_reply _ (operation_refusals.judging_not_ten C numbers buffer); closes = promise.1 };
      }
