-- How many kinds there are: a list of kinds of trees, none twice, that holds every tree's.
use mathlib.Core.Path.{◌≡◌, sym, ◌∙◌}
use mathlib.Core.List.{List, map}
use Prim.Native.Nat.{ℕ, ◌<◌, ◌≤◌}
use native.Mathlib.Omega.{arith}
use lib.ListN.{length, get_or, length-map, get_or-map}
use Rattle.model.specs.Tables.{Contract}
use Rattle.model.specs.Kinds.{empty_kind}
use Rattle.model.specs.Rounds.{kind_automaton, ListedKind, kind_at, empty_row}
use Rattle.model.specs.Meaning.{TreeKinds, KindCount, MoreKinds, kind_rounds}
use Rattle.model.proofs.Rounds.Covering.{tree_state, kind_state, kinds_decided, HasState, ended_lists}
use Rattle.model.proofs.Rounds.Distinct.{rounds_distinct}
use Rattle.model.proofs.Rounds.RowTrees.{row_tree, StandsFor, rounds_stand_for}
use Rattle.model.proofs.Rounds.Listing.{Ended}
use Rattle.model.proofs.Rounds.Counting.{distinct_no_more}

-- more kinds than the count are not there
pub count_bounds : (C : Contract) (kinds : List (List ℕ)) → TreeKinds C kinds → (n : ℕ) → KindCount C n → length kinds ≤ n
count_bounds C kinds w n k =
    let bound = distinct_no_more (empty_kind C) kinds k.kinds w.all_differ
    (λ i l. let (t, over, e) = w.of_trees i l in rw e at (k.all t over)) in
    rw k.count at bound

-- the count is one number
pub count_unique : (C : Contract) (m n : ℕ) → KindCount C m → KindCount C n → m ≡ n
count_unique C m n k l =
    omega (arith, count_bounds C k.kinds k.are_kinds n l, count_bounds C l.kinds l.are_kinds m k, k.count, l.count)

module _ (C : Contract) where
  -- the kinds of the first rounds
  abbrev kind_list : ℕ → List (List ℕ)
  kind_list h = map (λ (row : ListedKind C). row.state) (kind_rounds C h)

  kind_in_list : (h i : ℕ) → get_or (kind_list h) i (empty_kind C) ≡ kind_at C (kind_rounds C h) i
  kind_in_list h i = get_or-map (λ (row : ListedKind C). row.state) (kind_rounds C h) i (empty_row (kind_automaton C))

  length_kinds : (h : ℕ) → length (kind_list h) ≡ length (kind_rounds C h)
  length_kinds h = length-map (kind_rounds C h) (λ (row : ListedKind C). row.state)

  list-kinds : (h : ℕ) → TreeKinds C (kind_list h)
  list-kinds h =
      record {
        all_differ =
            record {
              differ = λ i j l k e.
                  (rounds_distinct (kind_automaton C) (kinds_decided C) h).differ i j l (omega (arith, length_kinds h))
                  (sym (kind_in_list h i) ∙ e ∙ kind_in_list h j);
            };
        of_trees = λ i l.
            let w : StandsFor (kind_automaton C) (kind_rounds C h) i = rounds_stand_for (kind_automaton C) h i (omega (arith, length_kinds h)) in
            (row_tree (kind_automaton C) (kind_rounds C h) i, w.over, kind_state C _ ∙ w.state-of ∙ sym (kind_in_list h i));
      }

  pub ended_count : (h : ℕ) → Ended (kind_automaton C) h → KindCount C (length (kind_rounds C h))
  ended_count h e =
      record {
        kinds = kind_list h;
        count = length_kinds h;
        are_kinds = list-kinds h;
        all = λ t over.
            let w : HasState (kind_automaton C) (kind_rounds C h) (tree_state (kind_automaton C) t) =
            ended_lists (kind_automaton C) (kinds_decided C) h e t over in
            record {
              index = w.index;
              inside = omega (arith, length_kinds h, w.inside);
              found = kind_in_list h w.index ∙ w.found ∙ sym (kind_state C t);
            };
      }

  pub more-kinds : (h n : ℕ) → n < length (kind_rounds C h) → MoreKinds C n
  more-kinds h n l = record { kinds = kind_list h; more = omega (arith, length_kinds h); are_kinds = list-kinds h }
