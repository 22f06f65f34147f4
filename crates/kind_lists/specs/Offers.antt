-- What an offer comes to: the kind is added to the list as the model adds it, or the answer is known.
use Rattle.std.specs.Prelude.{◌≡◌, List, [], ◌∷◌, ◌++◌, Bool, ℕ, suc, ◌+◌, eqb, length, set, Result, Ok, Err}
use Rattle.std.proofs.Math.Path.{refl}
use Rattle.std.proofs.Common.{ap, subst, sym, ◌∙◌, add-one, arith, eqb-true, length-append}
use Rattle.std.proofs.Math.Bool.{true, false}
use Rattle.std.proofs.lemmas.Bool.{eqb-false}
use Rattle.std.proofs.Math.Seq.{get_or-append_seam}
use Rattle.foundation.specs.Tests.{choose}
use Rattle.model.specs.Tables.{Contract}
use Rattle.model.specs.Kinds.{breaks}
use Rattle.model.specs.Rounds.{kind_automaton, ListedKind, kind_at, empty_row, added, rounds}
use Rattle.model.specs.Meaning.{NoneBreaks}
use Rattle.model.proofs.Laws.Established.{Established}
use Rattle.model.proofs.Rounds.Growth.{Begins, begins_length, added_begins, added_new}
use Rattle.model.proofs.Rounds.Covering.{kinds_decided}
use Rattle.model.proofs.Rounds.Skipping.{added_listed}
use Rattle.model.proofs.Rounds.Stopping.{none_longer, none_snoc}
use Rattle.model.proofs.Rounds.Buffers.{FiveWords}
use Rattle.breaking.specs.Verdicts.{breaking, VerdictsOf}
use Rattle.breaking.specs.declared.Verdicts.{Verdicts}
use Rattle.kind_slots.specs.Stored.{kind_listed, with_kind}
use Rattle.kind_slots.specs.Slots.{slot_of, entry_of, Entered}
use Rattle.kind_slots.proofs.Finding.{one_entered}
use Rattle.kind_lists.specs.Listing.{with_row, Offering, Becomes, offering}
use Rattle.kind_lists.specs.Held.{Holds, listed_has, not_listed, stored_held, breaks_padded}
use Rattle.kind_lists.specs.Outcomes.{Unbroken, Overfull, Outcome}
use Rattle.kind_lists.specs.declared.Stop.{Stop}
use Rattle.kind_lists.specs.declared.Stop.TheVariants as stop

-- a row is offered to a list that the buffers hold
module _ (C : Contract) (known : Established C) (v : Verdicts) (verdicts : VerdictsOf C.input.marks C.output.marks v)
    {limit n : ℕ} {slots rows words : List ℕ} (list : List (ListedKind C)) (u : Unbroken C limit n slots rows words list) (words_five : FiveWords C list)
    (s i j : ℕ) (kind : List ℕ) (long : length kind ≡ 5) where
  abbrev row : ListedKind C
  row = record { symbol = s; left = i; right = j; state = kind }

  abbrev grown : List (ListedKind C)
  grown = added (kind_automaton C) list row

  abbrev offer : Offering
  offer = offering v limit n s i j (kind ++ (0 ∷ [])) slots rows words

  -- in a round
  module _ (round : ℕ) (begins : Begins (kind_automaton C) grown (rounds (kind_automaton C) round)) where
    -- listed already
    old_kind : kind_listed words n (kind ++ (0 ∷ [])) ≡ true → Unbroken C limit n slots rows words grown
    old_kind t =
        let t' : kind_listed words (length list) (kind ++ (0 ∷ [])) ≡ true = rw u.counted at t in
        rw (added_listed (kind_automaton C) (kinds_decided C) list row (listed_has C limit rows words list u.holds words_five kind long t')) u

    module _ (t : kind_listed words n (kind ++ (0 ∷ [])) ≡ false) where
      appended : grown ≡ list ++ (row ∷ [])
      appended =
          let t' : kind_listed words (length list) (kind ++ (0 ∷ [])) ≡ false = rw u.counted at t in
          added_new (kind_automaton C) list row (not_listed C limit rows words list u.holds words_five kind long t')

      longer : length grown ≡ n + 1
      longer = let counted = u.counted in ap length appended ∙ length-append list (row ∷ []) ∙ omega arith

      front_keeps : NoneBreaks C n grown
      front_keeps = let counted = u.counted in none_longer C n (added_begins (kind_automaton C) list row) (omega arith) u.none

      -- no row is left for it
      no_room : n ≡ limit → Overfull C limit round rows words
      no_room e =
          record {
            over = omega (arith, longer, begins_length begins);
            none = none_longer C limit begins (omega (arith, longer)) (rw e at front_keeps);
            few = u.holds.few;
            row_room = u.holds.row_room;
            word_room = u.holds.word_room;
          }

      module _ (room : n ≡ limit → ⊥) where
        held : Holds C limit (with_row rows n s i j) (with_kind words n (kind ++ (0 ∷ []))) grown
        held =
            let counted = u.counted in
            let fits = u.holds.fits in
            rw (appended, counted) (stored_held C limit rows words list u.holds words_five kind long s i j (omega arith))

        verdict : (b : Bool) → breaking v.accepted v.refused (kind ++ (0 ∷ [])) ≡ b → breaks C kind ≡ b
        verdict b e = sym (breaks_padded C known v verdicts kind long) ∙ e

        last_row : kind_at C grown n ≡ kind
        last_row =
            ap (λ (l : List (ListedKind C)). kind_at C l n) appended
            ∙ rw u.counted (ap (λ (r : ListedKind C). r.state) (get_or-append_seam list row [] (empty_row (kind_automaton C))))

        -- the slots have the row too
        entered : Entered (with_kind words n (kind ++ (0 ∷ []))) (n + 1) (set slots (slot_of words slots (kind ++ (0 ∷ []))) (entry_of (kind ++ (0 ∷ [])) n))
        entered =
            let counted = u.counted in
            let fits = u.holds.fits in
            one_entered words n slots (kind ++ (0 ∷ [])) u.entered (omega (arith, u.holds.few)) (omega (arith, u.holds.word_room)) t

        by_verdict : (b : Bool) → breaking v.accepted v.refused (kind ++ (0 ∷ [])) ≡ b
            → Outcome C (λ m. Unbroken C limit m (set slots (slot_of words slots (kind ++ (0 ∷ []))) (entry_of (kind ++ (0 ∷ [])) n)) (with_row rows n s i j) (with_kind words n (kind ++ (0 ∷ []))) grown) limit round (with_row rows n s i j) (with_kind words n (kind ++ (0 ∷ [])))
            (choose b (Err (stop.Breaks n)) (Ok (n + 1)))
        by_verdict true e =
            record {
              list = grown;
              beginning = record { round = round; begins = begins };
              last = longer ∙ add-one n;
              holds = held;
              broken = ap (λ (k : List ℕ). breaks C k) last_row ∙ verdict true e;
              none = front_keeps;
            }
        by_verdict false e =
            let more : NoneBreaks C (suc (length list)) (list ++ (row ∷ [])) =
            none_snoc C list row (verdict false e) (subst (λ (k : ℕ). NoneBreaks C k list) u.counted u.none) in
            record { counted = sym longer; entered = entered; holds = held; none = rw (add-one n, appended, u.counted) more }

    by_room : kind_listed words n (kind ++ (0 ∷ [])) ≡ false → (b : Bool) → eqb n limit ≡ b
        → Outcome C (λ m. Unbroken C limit m offer.slots offer.rows offer.words grown) limit round offer.rows offer.words offer.answer
    unfolding offering
    by_room t true e = rw (t, e) (no_room t (eqb-true n limit e))
    by_room t false e = rw (t, e) (by_verdict t (eqb-false n limit e) (breaking v.accepted v.refused (kind ++ (0 ∷ []))) refl)

    by_list : (b : Bool) → kind_listed words n (kind ++ (0 ∷ [])) ≡ b
        → Outcome C (λ m. Unbroken C limit m offer.slots offer.rows offer.words grown) limit round offer.rows offer.words offer.answer
    unfolding offering
    by_list true t = rw t (old_kind t)
    by_list false t = by_room t (eqb n limit) refl

    -- .. as the code offers it
    pub offered : (r : Result ℕ Stop) (slots' rows' words' : List ℕ) → Becomes offer r slots' rows' words'
        → Outcome C (λ m. Unbroken C limit m slots' rows' words' grown) limit round rows' words' r
    offered r slots' rows' words' b = rw (b.answer, b.slots, b.rows, b.words) (by_list (kind_listed words n (kind ++ (0 ∷ []))) refl)
