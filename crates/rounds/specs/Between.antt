-- Between two rounds: what the buffers hold, how a round begins and ends, and when the list has ended.
use Rattle.std.specs.Prelude.{◌≡◌, ℕ, suc, ◌≤◌, length}
use Rattle.std.proofs.Math.Path.{ap, subst, sym}
use Rattle.std.proofs.Common.{◌∙◌, arith}
use mathlib.Core.List.{List}
use Rattle.model.specs.Tables.{Contract}
use Rattle.model.specs.Rounds.{kind_automaton, ListedKind, round_to, round, rounds}
use Rattle.model.proofs.Rounds.Growth.{Begins, begins_length, begins_state, round_begins}
use Rattle.model.proofs.Rounds.Places.{place_first, place_last}
use Rattle.model.proofs.Rounds.Covering.{kinds_decided, round_lists}
use Rattle.model.proofs.Rounds.Listing.{Ended, adds_nothing}
use Rattle.kind_lists.specs.Outcomes.{Unbroken, Passed}
use Rattle.round_pairs.specs.Steps.{Standing, At, list_at}
use Rattle.round_pairs.specs.declared.Round.{Round}

module _ (C : Contract) where
  -- the buffers hold the rows of rounds 0 to `height`, `stood` of them, and the slots are theirs; those below `before` stood in the round before
  pub record Between (limit height before stood : ℕ) (slots rows words : List ℕ) : Type 0 where
    pub standing : Standing C height before stood
    pub list : Unbroken C limit stood slots rows words (rounds (kind_automaton C) height)
    pub ended : before ≡ stood → Ended (kind_automaton C) height

  module _ {limit height before stood : ℕ} {slots rows words : List ℕ} (b : Between limit height before stood slots rows words) where
    abbrev listed : List (ListedKind C)
    listed = rounds (kind_automaton C) height

    -- a round begins
    pub round_starts : At C (record { limit = limit; height = height; before = before; stood = stood }) 1 0 0 stood slots rows words
    unfolding round_to
    round_starts =
        let e : list_at C height 1 0 0 ≡ listed = ap (λ (c : ℕ). round_to (kind_automaton C) listed c) (place_first (length listed)) in
        record {
          standing = b.standing;
          symbol = omega arith;
          list = subst (λ (list : List (ListedKind C)). Unbroken C limit stood slots rows words list) (sym e) b.list;
        }

  -- a round ends
  pub round_ends : {r : Round} {n : ℕ} {slots rows words : List ℕ} → At C r C.transformation.symbols 0 0 n slots rows words → Between r.limit (suc r.height) r.stood n slots rows words
  unfolding rounds round
  round_ends {r} {n} {slots} {rows} {words} at =
      record {
        standing =
            record {
              counted = grown.counted;
              earlier = omega (arith, begins_length grows, counted, grown.counted);
              old = λ s i j h1 h_s hi hj.
                  rw (← begins_state grows i (omega arith), ← begins_state grows j (omega arith)) at (round_lists (kind_automaton C) (kinds_decided C) before_list s i j h1 h_s (omega arith) (omega arith));
            };
        list = grown;
        ended = λ e. ap (λ (list : List (ListedKind C)). round (kind_automaton C) list) (adds_nothing (kind_automaton C) before_list (sym grown.counted ∙ sym e ∙ counted));
      }
    where
      before_list : List (ListedKind C)
      before_list = rounds (kind_automaton C) r.height

      counted : r.stood ≡ length before_list
      counted = at.standing.counted

      whole : list_at C r.height C.transformation.symbols 0 0 ≡ round (kind_automaton C) before_list
      whole = ap (λ (c : ℕ). round_to (kind_automaton C) before_list c) (place_last (length before_list) C.transformation.symbols)

      grown : Unbroken C r.limit n slots rows words (round (kind_automaton C) before_list)
      grown = subst (λ (list : List (ListedKind C)). Unbroken C r.limit n slots rows words list) whole at.list

      grows : Begins (kind_automaton C) before_list (round (kind_automaton C) before_list)
      grows = round_begins (kind_automaton C) before_list

  -- the list has ended
  pub passed : {limit height before stood : ℕ} {slots rows words : List ℕ} → Between limit height before stood slots rows words → stood ≤ before
      → Passed C limit stood rows words
  passed {height = height} b h =
      let earlier = b.standing.earlier in
      let u = b.list in
      record { height = height; counted = u.counted; ended = b.ended (omega arith); holds = u.holds; none = u.none }
