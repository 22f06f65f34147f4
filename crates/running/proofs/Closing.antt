-- The end of the work: what the answer and the cleared buffer are of the outcome. Its start: what a plan asks for, and that
-- procedure 0 may be called by it.
use mathlib.Core.Path.{◌≡◌, refl, ap, sym, ◌∙◌}
use mathlib.Core.List.{List, []}
use Prim.Native.Nat.{ℕ, ◌-◌}
use native.Mathlib.Omega.{arith}
use lib.ListN.{length, take, replicate}
use Rattle.foundation.specs.Lists.{zero_filled}
use Rattle.model.specs.Rows.{row_count}
use Rattle.model.specs.Tables.{Transformation}
use Rattle.model.specs.Documents.{document_tree}
use Rattle.model.specs.Running.{Step, most_calls, run, closing}
use Rattle.answers.specs.declared.Ran.{Ran}
use Rattle.answers.specs.declared.RunningRefusal.{RunningRefusal}
use Rattle.answers.specs.Numbers.{running_answer}
use Rattle.plans.specs.Plans.{Laid, SmallRules}
use Rattle.reading.specs.Ends.{EndsFrom}
use Rattle.model.proofs.Laws.Documents.{document-tree}
use Rattle.std.specs.Prelude.{Result, Ok, Err}
use Rattle.running.specs.declared.RunFault.TheVariants.{NoRule, NoRow, TooManyCalls}
use Rattle.running.specs.declared.Tally.{Tally}
use Rattle.running.specs.declared.Ended.{Ended}
use Rattle.running.specs.Work.{Outcome, step_of, ended_of, numbers_kept, end_answer}
use Rattle.running.specs.Places.{ReadDocument}
use Rattle.running.specs.Promises.{Admitted, CallableIn, Calls, Closes}
use Rattle.running.specs.declared.RunFault.{RunFault}

module _ (n taken free : ℕ) (before : Tally) where
  closed_answer : (x : Outcome) (o : List ℕ) → (closing n taken (step_of free x o)).answer ≡ end_answer free taken (ended_of before x).end (ended_of before x).tally
  unfolding closing
  closed_answer (Ok m) o = refl
  closed_answer (Err (NoRule procedure)) o = refl
  closed_answer (Err NoRow) o = refl
  closed_answer (Err (TooManyCalls most)) o = refl

  none_kept : (o : List ℕ) → replicate n 0 ≡ zero_filled n (take 0 o)
  unfolding zero_filled
  none_kept o = let e : n - 0 ≡ n = omega arith in rw e

  closed_rows : (x : Outcome) (o : List ℕ) → (closing n taken (step_of free x o)).rows ≡ zero_filled n (take (numbers_kept (ended_of before x).end (ended_of before x).tally) o)
  unfolding closing
  closed_rows (Ok m) o = refl
  closed_rows (Err (NoRule procedure)) o = none_kept o
  closed_rows (Err NoRow) o = none_kept o
  closed_rows (Err (TooManyCalls most)) o = none_kept o

module _ (T : Transformation) (numbers buffer : List ℕ) (x : Outcome) (left : List ℕ) (called : Calls T numbers 0 0 0 0 buffer (record { used = 0; calls = 0 }) x left) where
  abbrev free : ℕ
  free = row_count buffer

  abbrev work : Ended
  work = ended_of (record { used = 0; calls = 0 }) x

  ran_to : run T free (document_tree numbers) ≡ step_of free x left
  unfolding run
  ran_to = rw (document-tree numbers) (called free (most_calls T) [] refl (omega arith) (record { one = refl; two = refl }))

  pub closes : (r : Result Ran RunningRefusal) (o : List ℕ) → running_answer r ≡ end_answer free (length numbers) work.end work.tally → o ≡ zero_filled (length buffer) (take (numbers_kept work.end work.tally) left)
      → Closes T numbers buffer r o
  closes r o answered kept =
      record {
        answered = answered ∙ sym (closed_answer (length buffer) (length numbers) free _ x left) ∙ ap (λ (s : Step ℕ). (closing (length buffer) (length numbers) s).answer) (sym ran_to);
        left = kept ∙ sym (closed_rows (length buffer) (length numbers) free _ x left) ∙ ap (λ (s : Step ℕ). (closing (length buffer) (length numbers) s).rows) (sym ran_to);
      }

-- procedure 0 may be called on the whole document
abbrev pub callable : {T : Transformation} {numbers ends plan : List ℕ} → Admitted T → ReadDocument numbers → EndsFrom 0 numbers ends
    → Laid T numbers ends plan
    → CallableIn plan 0 0
callable {T = T} {numbers = numbers} {ends = ends} tables read end laid =
    record {
      known = record { transformation = T; numbers = numbers; ends = ends; tables = tables; text = record { read = read; end = end }; laid = laid };
      inside = read.some;
      named = omega (arith, tables.procedures.least≤);
    }

-- the rules of an admitted transformation have room in a plan
pub small_rules : (T : Transformation) → Admitted T → SmallRules T.rules
small_rules T admitted =
    record {
      procedure = λ r h. let good = admitted.rule r h in omega (arith, good.procedure, admitted.procedures.≤most);
      symbol = λ r h. let good = admitted.rule r h in omega (arith, good.symbol, admitted.symbols.≤most);
    }

-- the run ended with a fault
abbrev pub Refused : Result ℕ RunFault → Type 0
Refused (Ok root) = ⊥
Refused (Err fault) = Unit {0}

root_not_refused : (root : ℕ) → Refused (Ok root) → ⊥
root_not_refused root h = h

-- a refusal keeps nothing of the buffer
pub refused-keeps : (x : Result ℕ RunFault) (tally : Tally) → Refused x → numbers_kept x tally ≡ 0
refused-keeps (Ok root) tally h = absurd (root_not_refused root h)
refused-keeps (Err fault) tally h = refl
