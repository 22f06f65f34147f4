-- Calls of `judge` and what a caller may conclude: from one call, whatever was handed in (`judged_call`); from calls one after another
-- on documents of an admitted contract (`judged_in_turn`).
use Rattle.std.specs.Prelude.{◌≡◌, List, [], ◌∷◌, ◌++◌, map, ℕ, length, drop}
use Rattle.std.proofs.Common.{ap, ap₂, subst, sym, ◌∙◌}
use Rattle.std.proofs.lemmas.List.{length-map}
use Rattle.model.specs.Trees.{Tree, preorder}
use Rattle.model.specs.Tables.{Contract}
use Rattle.model.specs.Answers.{Answer, taken_by_answer}
use Rattle.model.specs.Documents.{All, preorders}
use Rattle.model.specs.Judging.{Judged, judging}
use Rattle.model.specs.Claims.{Admitted}
use Rattle.model.specs.Meaning.{JudgingMeans, IsDocument, InTurn}
use Rattle.model.proofs.Meaning.Judgements.{judging_means, judges_in_turn}
use Rattle.judging.specs.Steps.{Comes}

-- a call on a contract: the numbers and the buffer that were lent, and the answer and closing words that came back. The answer is
-- `judging_answer` of what `judge` returned, and `comes` is what `judge` promises.
pub record Call (C : Contract) : Type 0 where
  pub numbers : List ℕ
  pub buffer : List ℕ
  pub answer : Answer
  pub closing : List ℕ
  pub comes : Comes answer closing (judging C numbers buffer)

-- the answer says exactly what the document is for the contract, or why nothing was judged; the words are the kind of its tree, or
-- as they were
pub judged_call : {C : Contract} (call : Call C) → JudgingMeans C call.numbers call.buffer call.answer call.closing
judged_call {C} call =
    let told = call.comes in
    subst (λ (a : Answer). JudgingMeans C call.numbers call.buffer a call.closing) (sym told.answers)
    (subst (λ (w : List ℕ). JudgingMeans C call.numbers call.buffer (judging C call.numbers call.buffer).answer w) (sym told.closes)
    (judging_means C call.numbers call.buffer))

-- a call's answer and closing words, in the definition's form
abbrev pub outcome : {C : Contract} → Call C → Judged
outcome call = record { answer = call.answer; words = call.closing }

-- calls one after another on one buffer of numbers: each on what stands behind the tree of the one before, with five words lent
abbrev pub CallsInTurn : {C : Contract} → (numbers : List ℕ) → List (Call C) → Type 0
CallsInTurn numbers [] = Unit {0}
CallsInTurn numbers (call ∷ calls) =
    (call.numbers ≡ numbers) × (length call.buffer ≡ 5) × CallsInTurn (drop (taken_by_answer call.answer) numbers) calls

-- they are judgements in turn
in_turn : {C : Contract} (numbers : List ℕ) (calls : List (Call C)) → CallsInTurn numbers calls → InTurn C numbers (map outcome calls)
in_turn numbers [] turns = tt
in_turn {C} numbers (call ∷ calls) (same, five, turns) =
    let comes = call.comes in
    let is : outcome call ≡ judging C call.numbers call.buffer =
    ap₂ (λ (answer : Answer) (words : List ℕ). record { answer = answer; words = words }) comes.answers comes.closes in
    ((call.buffer, five, is ∙ ap (λ (xs : List ℕ). judging C xs call.buffer) same), in_turn (drop (taken_by_answer call.answer) numbers) calls turns)

-- so on documents laid end to end, as many as there are calls, they come to what each document alone would
pub judged_in_turn : {C : Contract} → Admitted C → (documents : List Tree) (rest : List ℕ) (calls : List (Call C)) → All (IsDocument C) documents
    → length calls ≡ length documents
    → CallsInTurn (preorders documents ++ rest) calls
    → (words : List ℕ) → length words ≡ 5 → map outcome calls ≡ map (λ (t : Tree). judging C (preorder t) words) documents
judged_in_turn {C} good documents rest calls all count turns =
    let outcomes : List Judged = map outcome calls in
    judges_in_turn C documents rest outcomes good all (length-map calls outcome ∙ count) (in_turn (preorders documents ++ rest) calls turns)
