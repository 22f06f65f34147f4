-- "For an answer that is an enum, a definition gives this paper's number and values for each case."
use Rattle.std.specs.Prelude.{Bool, List, ℕ, ◌<◌, Result, Ok, Err}
use Rattle.model.specs.Tables.{Contract}
use Rattle.model.specs.Answers.{Verdict, fine, refused, ◌then◌, Answer, admitted, judged, tree, pass, ran, written, refusal, stopped}
use Rattle.model.specs.Examining.{sent_count, empty_verdict, closed_verdict, breaking_verdict}
use Rattle.answers.specs.Numbers.{contract_refusal}
use Rattle.kind_slots.specs.Stored.{padded_kind}
use Rattle.breaking.specs.Verdicts.{breaking}
use Rattle.breaking.specs.declared.Verdicts.{Verdicts}
use Rattle.closure.specs.Held.{open_verdict}
use Rattle.examining.specs.declared.ExaminingRefusal.{ExaminingRefusal}
use Rattle.examining.specs.declared.ExaminingRefusal.TheVariants as why

-- the verdict of a contract's fault, by the answer of admission that it is; no other answer is asked for its verdict
abbrev pub verdict_in : Answer → Verdict
verdict_in admitted = fine
verdict_in (judged result taken) = fine
verdict_in (tree row) = fine
verdict_in (pass count) = fine
verdict_in (ran root used taken) = fine
verdict_in (written count) = fine
verdict_in (refusal number place) = refused number place
verdict_in (stopped limit height) = fine

-- "1 to 8, 70 a length .. (the length), 71 the empty kind is missing (place 0), 72 not closed (place (symbol × 4,096 + left) × 4,096 + right ..),
-- 73 a breaking kind (its number)"
abbrev pub refusal_verdict : ExaminingRefusal → Verdict
refusal_verdict (why.Contract fault) = verdict_in (contract_refusal fault)
refusal_verdict (why.Length length) = refused 70 length
refusal_verdict why.NoEmpty = refused 71 0
refusal_verdict (why.Open pair) = open_verdict pair
refusal_verdict (why.Breaking kind) = refused 73 kind.0

abbrev pub examining_verdict : Result Unit ExaminingRefusal → Verdict
examining_verdict (Ok _) = fine
examining_verdict (Err why) = refusal_verdict why

-- the kinds that a refusal names are of the list; so the place of 72 tells which they are
abbrev pub RefusalListed : (words : List ℕ) → ExaminingRefusal → Type 0
RefusalListed words (why.Contract fault) = Unit {0}
RefusalListed words (why.Length length) = Unit {0}
RefusalListed words why.NoEmpty = Unit {0}
RefusalListed words (why.Open pair) = (pair.left.0 < sent_count words) × (pair.right.0 < sent_count words)
RefusalListed words (why.Breaking kind) = kind.0 < sent_count words

abbrev pub NamesListed : (words : List ℕ) → Result Unit ExaminingRefusal → Type 0
NamesListed words (Ok _) = Unit {0}
NamesListed words (Err why) = RefusalListed words why

-- the verdict on a list of a good length, for an admitted contract
abbrev pub list_verdict : Contract → List ℕ → Verdict
list_verdict C words = empty_verdict C words then closed_verdict C words then breaking_verdict C words

-- kind k of the list breaks the contract, as code tells it
abbrev pub breaking_at : Verdicts → List ℕ → ℕ → Bool
breaking_at v words k = breaking v.accepted v.refused (padded_kind words k)
