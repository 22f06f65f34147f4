-- Each refusal and the check, as the definition gives them.
use Rattle.std.specs.Prelude.{◌≡◌, refl, List, ℕ, ◌≤◌, length, Some, None}
use Rattle.std.proofs.Common.{◌∙◌}
use Rattle.foundation.specs.Search.{first_below}
use Rattle.model.specs.Tables.{Contract}
use Rattle.model.specs.Answers.{fine, Answer, refusal}
use Rattle.model.specs.Admission.{admission, admit}
use Rattle.model.specs.Checking.{limit_wrong, check, checking_verdict, checking}
use Rattle.model.proofs.Laws.Answers.{refuse_first_fine, given_passed, given_stopped, given_refused}
use Rattle.model.proofs.Rounds.Stopping.{checking_check}
use Rattle.model.proofs.Laws.Established.{Established}
use Rattle.model.proofs.Laws.Admitted.{established}
use Rattle.answers.specs.Numbers.{contract_refusal}
use Rattle.answers.specs.declared.ContractFault.{ContractFault}
use Rattle.answers.proofs.Answered.{refused_as}
use Rattle.admission_tables.proofs.Found.{found_refused, none_fine}
use Rattle.kind_lists.specs.Listing.{Room}
use Rattle.kind_lists.specs.Closing.{Gives}
use Rattle.checking.proofs.Sizes.{room_clear, row_clear}

-- nothing is refused: the contract is admitted, and the limit and the buffers have the right sizes
pub record Tested (C : Contract) (L : ℕ) (rows words : List ℕ) : Type 0 where
  pub good : admission C ≡ fine
  pub known : Established C
  pub room : Room L 0 rows words
  pub some : 1 ≤ L

module _ (C : Contract) (L : ℕ) (rows words : List ℕ) where
  pub tested : admission C ≡ fine → None ≡ first_below (limit_wrong C L (length rows) (length words)) 3 → Tested C L rows words
  tested good right =
      let clear = refuse_first_fine 9 (limit_wrong C L (length rows) (length words)) 3 (none_fine _ 3 9 right) in
      record { good = good; known = established C good; room = room_clear C L rows words clear; some = row_clear C L rows words clear }

  pub refused_contract : (f : ContractFault) → contract_refusal f ≡ admit C → Gives (checking C L rows words) (contract_refusal f) rows words
  unfolding checking checking_verdict admit
  refused_contract f e =
      let r = refused_as f (admission C) e in
      let q : checking C L rows words ≡ record { answer = refusal r.number r.place; rows = rows; words = words } =
      given_stopped _ _ (admission C) _ r.number r.place r.verdict in
      rw q (record { answered = r.says; rows_closed = refl; words_closed = refl })

  pub refused_size : admission C ≡ fine → (place : ℕ) → Some place ≡ first_below (limit_wrong C L (length rows) (length words)) 3
      → Gives (checking C L rows words) (refusal 9 place) rows words
  unfolding checking checking_verdict
  refused_size good place found =
      let q : checking C L rows words ≡ record { answer = refusal 9 place; rows = rows; words = words } =
      given_passed _ _ (admission C) _ good
      ∙ given_refused _ _ _ 9 place (found_refused (limit_wrong C L (length rows) (length words)) 3 9 place found) in
      rw q (record { answered = refl; rows_closed = refl; words_closed = refl })

  -- what a check gives
  pub checked : Tested C L rows words → {a : Answer} {rows' words' : List ℕ} → Gives (check C L) a rows' words' → Gives (checking C L rows words) a rows' words'
  checked t g =
      let room = t.room in
      rw (checking_check C L rows words t.good (record { at_least = t.some; at_most = room.few; rows = room.row_room; words = room.word_room })) g
