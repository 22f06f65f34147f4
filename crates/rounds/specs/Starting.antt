-- Round 0: the kind of the empty forest is offered to the empty list.
use Rattle.std.specs.Prelude.{◌≡◌, List, [], ◌∷◌, ◌++◌, ℕ, length, Result}
use Rattle.std.proofs.Math.Path.{refl}
use Rattle.std.proofs.Common.{arith}
use Rattle.model.specs.Tables.{Contract}
use Rattle.model.specs.Kinds.{empty_kind}
use Rattle.model.specs.Rounds.{kind_automaton, empty_row, lists, added, rounds}
use Rattle.model.specs.Checking.{row_numbers, kind_numbers}
use Rattle.model.proofs.Laws.Established.{Established}
use Rattle.model.proofs.Rounds.Growth.{begins_refl}
use Rattle.model.proofs.Rounds.Buffers.{length_empty_kind}
use Rattle.breaking.specs.Verdicts.{VerdictsOf}
use Rattle.breaking.specs.declared.Verdicts.{Verdicts}
use Rattle.kind_slots.specs.Slots.{Entered}
use Rattle.kind_lists.specs.Listing.{Room, Becomes, offering}
use Rattle.kind_lists.specs.Outcomes.{Unbroken, Outcome, outcome_map}
use Rattle.kind_lists.specs.Offers.{offered}
use Rattle.kind_lists.specs.declared.Stop.{Stop}
use Rattle.rounds.specs.Between.{Between}

module _ (C : Contract) where
  no_rows : {limit : ℕ} {slots rows words : List ℕ} → Room limit 0 rows words → Entered words 0 slots → Unbroken C limit 0 slots rows words []
  unfolding row_numbers kind_numbers
  no_rows room entered =
      record {
        counted = refl;
        entered = entered;
        holds = record { few = room.few; fits = omega arith; row_room = room.row_room; word_room = room.word_room; rows_are = refl; words_are = refl };
        none = record { keeps = λ i l h. absurd (omega arith) };
      }

  -- "Round 0 lists the kind of the empty forest, row (0, 0, 0)."
  round_0 : added (kind_automaton C) [] (empty_row (kind_automaton C)) ≡ rounds (kind_automaton C) 0
  unfolding added lists rounds
  round_0 = refl

  one : length (rounds (kind_automaton C) 0) ≡ 1
  unfolding rounds
  one = refl

  first_between : {limit : ℕ} {slots rows words : List ℕ} (n : ℕ) → Unbroken C limit n slots rows words (rounds (kind_automaton C) 0) → Between C limit 0 0 n slots rows words
  first_between n u =
      let counted = u.counted in
      record {
        standing = record { counted = counted; earlier = omega arith; old = λ s i j h1 h_s hi hj. absurd (omega arith) };
        list = u;
        ended = λ z. absurd (omega (arith, one));
      }

  pub begun : Established C → (v : Verdicts) → VerdictsOf C.input.marks C.output.marks v → {limit : ℕ} {slots rows words : List ℕ} → Room limit 0 rows words
      → Entered words 0 slots → (kind : List ℕ) → kind ≡ empty_kind C ++ (0 ∷ [])
      → (p : Result ℕ Stop) (slots' rows' words' : List ℕ) → Becomes (offering v limit 0 0 0 0 kind slots rows words) p slots' rows' words'
      → Outcome C (λ n. Between C limit 0 0 n slots' rows' words') limit 0 rows' words' p
  begun known v verdicts {limit} {slots} {rows} {words} room entered kind ek p slots' rows' words' b =
      outcome_map C (λ n u. first_between n (rw round_0 at u)) limit 0 rows' words' p
      (offered C known v verdicts [] (no_rows room entered) (record { five = λ i l. absurd (omega arith) }) 0 0 0 (empty_kind C) (length_empty_kind C)
      0 (rw round_0 (begins_refl (rounds (kind_automaton C) 0))) p slots' rows' words' (rw ek at b))
