-- Three calls, with two output types and with these merged: from what each answer means, since a tree breaks the merged contract exactly if
-- it breaks the first or the second.
use mathlib.Core.Logic.{inl, inr}
use Prim.Native.Nat.{ℕ}
use native.Mathlib.Omega.{arith}
use Rattle.model.specs.Tables.{Contract, OutputType}
use Rattle.model.specs.Meaning.{NoTreeBreaks, OneOfThree, is_pass, is_tree, is_stop}
use Rattle.model.specs.Merging.{IsMerged, with_output, MergedContract}
use Rattle.model.proofs.Meaning.KindCounts.{count_bounds}
use Rattle.model.proofs.Meaning.MergedChecks.{merged_contract}
use Rattle.checking.specs.Calls.{Call, CallMeans}
use Rattle.checking.specs.MergedCalls.{Passed, EachPassed, Answered, HasRoom, CallsMerged}
use Rattle.checking.proofs.Conclusions.Calls.{call_meaning}

module _ {C : Contract} {L : ℕ} (call : Call C L) where
  means : CallMeans call
  means = call_meaning call

  pass-keeps : Passed call → NoTreeBreaks C
  pass-keeps (n, e) = ((means.pass_exactly n).0 e).1.keeps

  room-answers : HasRoom call → Answered call
  room-answers room = (
    means.let_in_exactly.1 room.let_in,
    λ limit h e.
        let more = ((means.stop_exactly limit h).0 e).2.stops.more_kinds in
        omega (arith, count_bounds C more.kinds more.are_kinds room.kinds room.counted, more.more, room.within),
  )

  -- an answer that is no refusal and no stop is a pass if no tree breaks the contract
  answered_passes : Answered call → NoTreeBreaks C → Passed call
  answered_passes answered keeps =
      go (means.one_of_three (means.let_in_exactly.0 answered.0))
    where
      go : OneOfThree L call.answer → Passed call
      go (is_pass n e) = (n, e)
      go (is_tree j e) = let shown = means.tree_least j e in absurd (keeps _ shown.over shown.breaking)
      go (is_stop h e) = absurd (answered.1 L h e)

-- passes of each alone make one of the merged contract, if that is answered
each_passes : (C : Contract) {Y Z M : OutputType} {K L N : ℕ} → IsMerged C.transformation.symbols Y Z M
    → (first : Call (with_output C Y) K) (second : Call (with_output C Z) L) (both : Call (with_output C M) N)
    → Answered both
    → EachPassed first second
    → Passed both
each_passes C {Y} {Z} {M} merged first second both answered (y, z) =
    answered_passes both answered ((merged_contract C Y Z M merged).keeps_exactly.1 (pass-keeps first y, pass-keeps second z))

pub merged_calls : {C : Contract} {Y Z M : OutputType} {K L N : ℕ} → IsMerged C.transformation.symbols Y Z M
    → (first : Call (with_output C Y) K) (second : Call (with_output C Z) L) (both : Call (with_output C M) N)
    → CallsMerged C first second both
merged_calls {C} {Y} {Z} {M} merged first second both =
    record {
      room_answers = (room-answers first, room-answers second, room-answers both);
      passes_exactly = λ one two three. (
        λ passed. let (y, z) = contract.keeps_exactly.0 (pass-keeps both passed) in (answered_passes first one y, answered_passes second two z),
        each_passes C merged first second both three,
      );
      pass_keeps = λ passed. contract.keeps_exactly.0 (pass-keeps both passed);
      keeps_pass = keeps;
      none_shown = λ passed j e. let shown = (call_meaning both).tree_least j e in keeps passed _ shown.over shown.breaking;
      first_shown = λ j e. (contract.breaks_exactly _).1 (inl ((call_meaning first).tree_least j e).breaking);
      second_shown = λ j e. (contract.breaks_exactly _).1 (inr ((call_meaning second).tree_least j e).breaking);
      both_shown = λ j e. (contract.breaks_exactly _).0 ((call_meaning both).tree_least j e).breaking;
      none_lower = λ j e t over one. ((call_meaning both).tree_least j e).least t over ((contract.breaks_exactly t).1 one);
    }
  where
    contract : MergedContract C Y Z M
    contract = merged_contract C Y Z M merged

    keeps : EachPassed first second → NoTreeBreaks (with_output C M)
    keeps (y, z) = contract.keeps_exactly.1 (pass-keeps first y, pass-keeps second z)
