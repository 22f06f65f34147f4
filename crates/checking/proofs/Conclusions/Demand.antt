-- Demand 3 for calls: what the answers and closing buffers of two calls have to do with each other.
use mathlib.Core.Path.{◌≡◌}
use Prim.Native.Nat.{ℕ, suc}
use Rattle.model.specs.Tables.{Contract}
use Rattle.model.specs.Answers.{Answer, pass, tree}
use Rattle.model.specs.Checking.{checking}
use Rattle.model.specs.Trees.{Tree}
use Rattle.model.specs.Meaning.{TreeOf, Fits}
use Rattle.model.specs.Claims.{Breaks, OneTransformation, Within}
use Rattle.model.specs.Demand.{SameAnswer}
use Rattle.model.proofs.Meaning.Demand.{over_first, breaks_first, demand_3}
use Rattle.checking.specs.Calls.{Call, returned, LetIn, CallInclusion, CallDemand}
use Rattle.checking.proofs.Conclusions.Calls.{returned_is, told, lent, pass_let_in, tree_let_in, call_meaning}

-- the same answer of two definitions is the same answer of two calls
same_answer : {C D : Contract} {L M : ℕ} (first : Call C L) (second : Call D M) (answer : Answer) (n : ℕ)
    → SameAnswer answer n (checking C L first.rows first.words) (checking D M second.rows second.words)
    → SameAnswer answer n (returned first) (returned second)
same_answer first second answer n same = rw (returned_is first, returned_is second) same

-- the first answer says that the contract is admitted
let_in_too : {C : Contract} {L M : ℕ} {first : Call C L} (second : Call C M) → LetIn first → Fits M second.rows second.words → LetIn second
let_in_too second good fits = record { is_admitted = good.is_admitted; sizes = fits }

included : {C D : Contract} {L M : ℕ} (first : Call C L) (second : Call D M) → OneTransformation C D → Within C D → CallInclusion first second
included {C} {D} first second one within =
    record {
      no_tree_breaks = none_breaks;
      no_tree_shown = λ n e j q. let shown = (call_meaning second).tree_least j q in none_breaks n e _ shown.over shown.breaking;
      none_lower = λ j e t over b. ((call_meaning first).tree_least j e).least t (over_first C D one t over) (breaks_first C D one within t over b);
    }
  where
    none_breaks : (n : ℕ) → first.answer ≡ pass n → (t : Tree) → TreeOf D t → Breaks D t → ⊥
    none_breaks n e t over b =
        (((call_meaning first).pass_exactly n).0 e).1.keeps t (over_first C D one t over) (breaks_first C D one within t over b)

-- Demand 3, for every two calls.
pub demand_3_of_calls : CallDemand
demand_3_of_calls =
    record {
      inclusion = included;
      accepted_states = λ {C} {D} {L} {M} first second same within less good n e.
          let let-in = pass_let_in first n e in
          same_answer first second (pass n) n
          (demand_3.accepted_states C D let-in.is_admitted good.is_admitted same within (lent first let-in) (lent second good) less n (told first e));
      larger_limit_pass = λ {C} {L} {M} first second less fits n e.
          let let-in = pass_let_in first n e in
          same_answer first second (pass n) n
          (demand_3.larger_limit_pass C let-in.is_admitted (lent first let-in) (lent second (let_in_too second let-in fits)) less n (told first e));
      larger_limit_tree = λ {C} {L} {M} first second less fits j e.
          let let-in = tree_let_in first j e in
          same_answer first second (tree j) (suc j)
          (demand_3.larger_limit_tree C let-in.is_admitted (lent first let-in) (lent second (let_in_too second let-in fits)) less j (told first e));
    }
