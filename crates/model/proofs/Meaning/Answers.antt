-- What the answers of a check mean for all trees: pass, tree and stopped at the limit, of which each check gives exactly one.
use mathlib.Core.Path.{◌≡◌, ap, sym, ◌∙◌}
use mathlib.Core.List.{List, []}
use mathlib.Core.Logic.{◌↔◌}
use mathlib.Core.Bool.{true}
use Prim.Native.Nat.{ℕ, suc, ◌<◌}
use native.Mathlib.Omega.{arith}
use lib.Dec.{T}
use lib.ListN.{length, take}
use lib.Seq.{length-take-le}
use Rattle.foundation.specs.Tests.{test_true, true_test, test_false, false_test}
use Rattle.model.specs.Trees.{Tree}
use Rattle.model.specs.Rows.{tree_at}
use Rattle.model.specs.Tables.{Contract}
use Rattle.model.specs.Answers.{Answer, tree, pass, refusal, stopped}
use Rattle.model.specs.Kinds.{kind_of, breaks}
use Rattle.model.specs.Rounds.{kind_automaton, ListedKind, kind_at}
use Rattle.model.specs.Checking.{Checked, stop_height, standing, check}
use Rattle.model.specs.Claims.{Breaks}
use Rattle.model.specs.Meaning.{TreeOf, kind_rounds, NoneBreaks, FirstBreaks, NoTreeBreaks, PassMeans, LeastBreaking, Stops}
use Rattle.model.proofs.Rounds.Growth.{rounds_beginning, agree_state, take_begins}
use Rattle.model.proofs.Rounds.Covering.{tree_state, kind_state, kinds_decided, HasState, ended_lists}
use Rattle.model.proofs.Rounds.RowTrees.{row_tree, row_tree_begins, StandsFor, rounds_stand_for}
use Rattle.model.proofs.Rounds.Listing.{Ended}
use Rattle.model.proofs.Rounds.Least.{first_row_least}
use Rattle.model.proofs.Rounds.Stopping.{Ending, shows, passes, stops, check_ends, check_tree}
use Rattle.model.proofs.Rounds.Buffers.{standing_tree}
use Rattle.model.proofs.Meaning.KindCounts.{count_bounds, count_unique, ended_count, more-kinds}

-- some row below L of the list breaks
pub record SomeBreaks (C : Contract) (L : ℕ) : Type 0 where
  pub round : ℕ
  pub row : ℕ
  pub below_limit : row < L
  pub inside : row < length (kind_rounds C round)
  pub breaking : T (breaks C (kind_at C (kind_rounds C round) row))

first_breaks_at : (C : Contract) (L j : ℕ) → j < L → j < length (kind_rounds C L) → breaks C (kind_at C (kind_rounds C L) j) ≡ true
    → NoneBreaks C j (kind_rounds C L)
    → FirstBreaks C L j
first_breaks_at C L j j_l l b none = record { round = L; below_limit = j_l; inside = l; breaking = true_test _ b; none_before = none }

-- what "tree" with row j under limit L says: rows 0 to j are those of the list, and the tree of row j is a least one that breaks
pub record TreeMeans (C : Contract) (L j : ℕ) : Type 0 where
  pub below_limit : j < L
  pub inside : j < length (kind_rounds C L)
  pub first_rows : check C L ≡ standing C L (tree j) (take (suc j) (kind_rounds C L))
  pub shown : LeastBreaking C (tree_at (check C L).rows j)

-- the three ends, by what they mean
pub data Meaning (C : Contract) (L : ℕ) : Type 0 where
  a_pass : (n : ℕ) → (check C L).answer ≡ pass n → PassMeans C L n → Meaning C L
  a_tree : (j : ℕ) → (check C L).answer ≡ tree j → TreeMeans C L j → Meaning C L
  a_stop : (check C L).answer ≡ stopped L (stop_height C L) → Stops C L → Meaning C L

-- one of the three conditions holds, and not the other two
pub data ExactlyOne (C : Contract) (L : ℕ) : Type 0 where
  only_pass : (n : ℕ) → PassMeans C L n → (SomeBreaks C L → ⊥) → (Stops C L → ⊥) → ExactlyOne C L
  only_tree : SomeBreaks C L → ((n : ℕ) → PassMeans C L n → ⊥) → (Stops C L → ⊥) → ExactlyOne C L
  only_stop : Stops C L → ((n : ℕ) → PassMeans C L n → ⊥) → (SomeBreaks C L → ⊥) → ExactlyOne C L

-- the answer that stands
pub standing_answer : (C : Contract) (L : ℕ) (answer : Answer) (rows : List (ListedKind C)) {c : Checked} → c ≡ standing C L answer rows → c.answer ≡ answer
unfolding standing
standing_answer C L answer rows e = ap (λ (c : Checked). c.answer) e

-- no answer is two of a pass, a tree, a stop and a refusal
pub pass_not_tree : {a : Answer} {n j : ℕ} → a ≡ pass n → a ≡ tree j → ⊥
pass_not_tree e q = let z : ◌≡◌ {A = ℕ} 0 1 = cc in omega arith

pub pass_not_refusal : {a : Answer} {n number place : ℕ} → a ≡ pass n → a ≡ refusal number place → ⊥
pass_not_refusal e q = let z : ◌≡◌ {A = ℕ} 0 1 = cc in omega arith

pub tree_not_refusal : {a : Answer} {j number place : ℕ} → a ≡ tree j → a ≡ refusal number place → ⊥
tree_not_refusal e q = let z : ◌≡◌ {A = ℕ} 0 1 = cc in omega arith

pub pass_not_stopped : {a : Answer} {n limit height : ℕ} → a ≡ pass n → a ≡ stopped limit height → ⊥
pass_not_stopped e q = let z : ◌≡◌ {A = ℕ} 0 1 = cc in omega arith

pub tree_not_stopped : {a : Answer} {j limit height : ℕ} → a ≡ tree j → a ≡ stopped limit height → ⊥
tree_not_stopped e q = let z : ◌≡◌ {A = ℕ} 0 1 = cc in omega arith

pub stopped_not_refusal : {a : Answer} {limit height number place : ℕ} → a ≡ stopped limit height → a ≡ refusal number place → ⊥
stopped_not_refusal e q = let z : ◌≡◌ {A = ℕ} 0 1 = cc in omega arith

-- the tree of row j, read from the closing row buffer
shown_tree : (C : Contract) (L j : ℕ) → j < length (kind_rounds C L) → check C L ≡ standing C L (tree j) (take (suc j) (kind_rounds C L))
    → tree_at (check C L).rows j ≡ row_tree (kind_automaton C) (kind_rounds C L) j
shown_tree C L j l e =
    let shorter : length (take (suc j) (kind_rounds C L)) ≡ suc j = length-take-le (suc j) (kind_rounds C L) l in
    ap (λ (c : Checked). tree_at c.rows j) e
    ∙ standing_tree C L (tree j) (take (suc j) (kind_rounds C L)) j (omega arith)
    ∙ sym (row_tree_begins (kind_automaton C) (take_begins (kind_automaton C) (suc j) (kind_rounds C L)) j (omega arith))

-- the first L rows are the same in every list of the rounds
keep_in_rounds : (C : Contract) (L h : ℕ) → L < length (kind_rounds C L) → NoneBreaks C L (kind_rounds C L) → NoneBreaks C L (kind_rounds C h)
keep_in_rounds C L h l none =
    record {
      keeps = λ i below r.
          ap (λ (kind : List ℕ). breaks C kind)
          (agree_state (kind_automaton C) (kind_rounds C h) (kind_rounds C L) (rounds_beginning (kind_automaton C) h) (rounds_beginning (kind_automaton C) L) i r (omega arith))
          ∙ none.keeps i below (omega arith);
    }

module _ (C : Contract) where
  -- "'Tree' with row j if row j, below L, is the first breaking kind"
  pub tree_row_exactly : (L j : ℕ) → ((check C L).answer ≡ tree j) ↔ FirstBreaks C L j
  tree_row_exactly L j = (λ e. first_breaks e (check_ends C L), λ w. shows_first w)
    where
      first_breaks : (check C L).answer ≡ tree j → Ending C L (check C L) → FirstBreaks C L j
      first_breaks e (shows i i_l l b none q) =
          let same : i ≡ j = cc (standing_answer C L (tree i) (take (suc i) (kind_rounds C L)) q) in
          rw same at (first_breaks_at C L i i_l l b none)
      first_breaks e (passes end l none q) = absurd (pass_not_tree (standing_answer C L _ _ q) e)
      first_breaks e (stops l none q) = absurd (tree_not_stopped e (standing_answer C L _ _ q))

      shows_first : FirstBreaks C L j → (check C L).answer ≡ tree j
      shows_first w =
          standing_answer C L (tree j) (take (suc j) (kind_rounds C w.round))
          (check_tree C L (kind_rounds C w.round) (rounds_beginning (kind_automaton C) w.round) j w.below_limit w.inside
          (test_true _ w.breaking) w.none_before)

  -- the closing buffers of a pass and of a stop; those of a tree are in TreeMeans
  pub pass_closes : (L n : ℕ) → (check C L).answer ≡ pass n → check C L ≡ standing C L (pass n) (kind_rounds C L)
  pass_closes L n e = go (check_ends C L)
    where
      go : Ending C L (check C L) → check C L ≡ standing C L (pass n) (kind_rounds C L)
      go (shows i i_l l b none q) = absurd (pass_not_tree e (standing_answer C L _ _ q))
      go (passes end l none q) =
          let same : length (kind_rounds C L) ≡ n = cc (standing_answer C L _ _ q) in
          rw same at q
      go (stops l none q) = absurd (pass_not_stopped e (standing_answer C L _ _ q))

  pub stop_closes : (L h : ℕ) → (check C L).answer ≡ stopped L h → check C L ≡ standing C L (stopped L h) []
  stop_closes L h e = go (check_ends C L)
    where
      go : Ending C L (check C L) → check C L ≡ standing C L (stopped L h) []
      go (shows i i_l l b none q) = absurd (tree_not_stopped (standing_answer C L _ _ q) e)
      go (passes end l none q) = absurd (pass_not_stopped (standing_answer C L _ _ q) e)
      go (stops l none q) =
          let same : stop_height C L ≡ h = cc (standing_answer C L _ _ q) in
          rw same at q

module _ (C : Contract) (breaks_exactly : (t : Tree) → TreeOf C t → T (breaks C (kind_of C t)) ↔ Breaks C t) where
  -- the tree of a row breaks exactly if the row's kind does
  row_breaks : (h i : ℕ) → i < length (kind_rounds C h) → T (breaks C (kind_at C (kind_rounds C h) i)) ↔ Breaks C (row_tree (kind_automaton C) (kind_rounds C h) i)
  row_breaks h i l =
      let w : StandsFor (kind_automaton C) (kind_rounds C h) i = rounds_stand_for (kind_automaton C) h i l in
      let e : kind_of C (row_tree (kind_automaton C) (kind_rounds C h) i) ≡ kind_at C (kind_rounds C h) i = kind_state C _ ∙ w.state-of in
      rw e at (breaks_exactly (row_tree (kind_automaton C) (kind_rounds C h) i) w.over)

  -- where no tree breaks, no row does; and where no row of the whole list does, no tree does
  tree_keeps : NoTreeBreaks C → (n h : ℕ) → NoneBreaks C n (kind_rounds C h)
  tree_keeps keeps n h =
      record {
        keeps = λ i below l.
            test_false _ (λ b. keeps _ (rounds_stand_for (kind_automaton C) h i l).over ((row_breaks h i l).0 b));
      }

  rows_keep : (h : ℕ) → Ended (kind_automaton C) h → NoneBreaks C (length (kind_rounds C h)) (kind_rounds C h) → NoTreeBreaks C
  rows_keep h end none t over b =
      let w : HasState (kind_automaton C) (kind_rounds C h) (tree_state (kind_automaton C) t) = ended_lists (kind_automaton C) (kinds_decided C) h end t over in
      let e : kind_of C t ≡ kind_at C (kind_rounds C h) w.index = kind_state C t ∙ sym w.found in
      false_test _ (none.keeps w.index w.inside w.inside) (rw e at ((breaks_exactly t over).1 b))

  -- the first breaking row stands for a least tree that breaks
  first_breaking_least : (h j : ℕ) → j < length (kind_rounds C h) → breaks C (kind_at C (kind_rounds C h) j) ≡ true → NoneBreaks C j (kind_rounds C h)
      → LeastBreaking C (row_tree (kind_automaton C) (kind_rounds C h) j)
  first_breaking_least h j l b none =
      record {
        over = (rounds_stand_for (kind_automaton C) h j l).over;
        one_root = ((row_breaks h j l).0 (true_test _ b)).taken.one_root;
        breaking = (row_breaks h j l).0 (true_test _ b);
        least = λ other over other-breaks.
            first_row_least (kind_automaton C) (kinds_decided C) (λ kind. T (breaks C kind)) h j l
            (λ i less bad. false_test _ (none.keeps i less (omega arith)) bad) other over
            (rw (kind_state C other) at ((breaks_exactly other over).1 other-breaks));
      }

  pub check_means : (L : ℕ) → Meaning C L
  check_means L = go (check_ends C L)
    where
      go : Ending C L (check C L) → Meaning C L
      go (shows j j_l l b none e) =
          a_tree j (standing_answer C L (tree j) (take (suc j) (kind_rounds C L)) e)
          (record {
            below_limit = j_l;
            inside = l;
            first_rows = e;
            shown = rw (shown_tree C L j l e) (first_breaking_least L j l b none);
          })
      go (passes end l none e) =
          a_pass (length (kind_rounds C L)) (standing_answer C L (pass (length (kind_rounds C L))) (kind_rounds C L) e)
          (record {
            keeps = rows_keep L end (record { keeps = λ i below r. none.keeps i (omega arith) r });
            counted = ended_count C L end;
            within_limit = omega arith;
          })
      go (stops l none e) =
          a_stop (standing_answer C L (stopped L (stop_height C L)) [] e)
          (record { more_kinds = more-kinds C L L l; first_keep = λ h. keep_in_rounds C L h l none })

  -- "A contract passes exactly if no tree of the input type has an output outside the output type and its kinds number at
  -- most the caller's limit"
  pub pass-exactly : (L n : ℕ) → ((check C L).answer ≡ pass n) ↔ PassMeans C L n
  pass-exactly L n = (λ e. passed e (check_means L), λ m. must_pass m (check_means L))
    where
      passed : (check C L).answer ≡ pass n → Meaning C L → PassMeans C L n
      passed e (a_pass k q m) = let same : k ≡ n = cc in rw same at m
      passed e (a_tree j q m) = absurd (pass_not_tree e q)
      passed e (a_stop q m) = absurd (pass_not_stopped e q)

      must_pass : PassMeans C L n → Meaning C L → (check C L).answer ≡ pass n
      must_pass m (a_pass k q w) = q ∙ ap pass (count_unique C k n w.counted m.counted)
      must_pass m (a_tree j q w) = absurd (m.keeps _ w.shown.over w.shown.breaking)
      must_pass m (a_stop q w) =
          absurd (omega (arith, count_bounds C w.more_kinds.kinds w.more_kinds.are_kinds n m.counted, w.more_kinds.more, m.within_limit))

  -- "A document shown breaks the contract, and no lower one does."
  pub tree_means : (L j : ℕ) → (check C L).answer ≡ tree j → TreeMeans C L j
  tree_means L j e = go (check_means L)
    where
      go : Meaning C L → TreeMeans C L j
      go (a_pass k q m) = absurd (pass_not_tree q e)
      go (a_tree i q m) = let same : i ≡ j = cc in rw same at m
      go (a_stop q m) = absurd (tree_not_stopped e q)

  -- a tree is shown exactly if a breaking kind is among the first L
  pub tree-exactly : (L : ℕ) → ((j : ℕ) × ((check C L).answer ≡ tree j)) ↔ SomeBreaks C L
  tree-exactly L = (λ w. some_breaks w.0 w.1, λ w. must_show w (check_means L))
    where
      some_breaks : (j : ℕ) → (check C L).answer ≡ tree j → SomeBreaks C L
      some_breaks j e =
          let m : TreeMeans C L j = tree_means L j e in
          let b : Breaks C (row_tree (kind_automaton C) (kind_rounds C L) j) = rw (shown_tree C L j m.inside m.first_rows) at m.shown.breaking in
          record { round = L; row = j; below_limit = m.below_limit; inside = m.inside; breaking = (row_breaks L j m.inside).1 b }

      must_show : SomeBreaks C L → Meaning C L → (j : ℕ) × ((check C L).answer ≡ tree j)
      must_show w (a_pass k q m) = absurd (m.keeps _ (rounds_stand_for (kind_automaton C) w.round w.row w.inside).over ((row_breaks w.round w.row w.inside).0 w.breaking))
      must_show w (a_tree j q m) = (j, q)
      must_show w (a_stop q m) = absurd (false_test _ ((m.first_keep w.round).keeps w.row w.below_limit w.inside) w.breaking)

  -- "The check stops at its limit only as document 01 says.": "if there are more than L kinds and none of the first L breaks"
  pub stop-exactly : (L : ℕ) → ((check C L).answer ≡ stopped L (stop_height C L)) ↔ Stops C L
  stop-exactly L = (λ e. has_stopped e (check_means L), λ m. must_stop m (check_means L))
    where
      has_stopped : (check C L).answer ≡ stopped L (stop_height C L) → Meaning C L → Stops C L
      has_stopped e (a_pass k q m) = absurd (pass_not_stopped q e)
      has_stopped e (a_tree j q m) = absurd (tree_not_stopped q e)
      has_stopped e (a_stop q m) = m

      must_stop : Stops C L → Meaning C L → (check C L).answer ≡ stopped L (stop_height C L)
      must_stop m (a_pass k q w) =
          absurd (omega (arith, count_bounds C m.more_kinds.kinds m.more_kinds.are_kinds k w.counted, m.more_kinds.more, w.within_limit))
      must_stop m (a_tree j q w) =
          let s : SomeBreaks C L = (tree-exactly L).0 (j, q) in
          absurd (false_test _ ((m.first_keep s.round).keeps s.row s.below_limit s.inside) s.breaking)
      must_stop m (a_stop q w) = q

  -- exactly one of the three holds of every contract and limit
  pub exactly_one : (L : ℕ) → ExactlyOne C L
  exactly_one L = go (check_means L)
    where
      go : Meaning C L → ExactlyOne C L
      go (a_pass n q m) = only_pass n m (λ w. pass_not_tree q ((tree-exactly L).1 w).1) (λ w. pass_not_stopped q ((stop-exactly L).1 w))
      go (a_tree j q m) = only_tree ((tree-exactly L).0 (j, q)) (λ n w. pass_not_tree ((pass-exactly L n).1 w) q) (λ w. tree_not_stopped q ((stop-exactly L).1 w))
      go (a_stop q m) = only_stop m (λ n w. pass_not_stopped ((pass-exactly L n).1 w) q) (λ w. tree_not_stopped ((tree-exactly L).1 w).1 q)
