-- The counted kinds of a pass are accepted, and where a list is accepted no call shows a document.
use mathlib.Core.Path.{ap, ◌∙◌}
use mathlib.Core.List.{List}
use Prim.Native.Nat.{ℕ, ◌*◌}
use lib.ListN.{take}
use Rattle.model.specs.Tables.{Contract}
use Rattle.model.specs.Examining.{examining}
use Rattle.model.proofs.Meaning.ExaminingAnswers.{accepted_keeps, own_accepted}
use Rattle.checking.specs.Calls.{Call}
use Rattle.checking.specs.ExaminedCalls.{CallExamined}
use Rattle.checking.proofs.Conclusions.Calls.{call_meaning, told, lent}

pub examined_call : {C : Contract} {L : ℕ} (call : Call C L) → CallExamined call
examined_call {C} call =
    record {
      pass_accepted = λ n e.
          let good = (((call_meaning call).pass_exactly n).0 e).0 in
          ap (λ (words : List ℕ). examining C (take (5 * n) words)) call.gives.words_closed ∙ own_accepted C good.is_admitted (lent call good) n (told call e);
      accepted_excludes = λ words accepted j e.
          let shown = (call_meaning call).tree_least j e in
          accepted_keeps C words accepted _ shown.over shown.breaking;
    }
