-- Covering: a round lists every symbol over every two rows, so that the rounds come to every tree.
use mathlib.Core.Path.{◌≡◌, refl, ap, sym, subst, ◌∙◌}
use mathlib.Core.List.{List, [], ◌∷◌}
use mathlib.Core.Bool.{Bool, true, false}
use Prim.Native.Nat.{ℕ, zero, suc, ◌<◌, ◌≤◌}
use native.Mathlib.Nat.{not-suc-le-zero, le_of_suc-le-suc}
use native.Mathlib.Omega.{arith}
use lib.Dec.{T}
use lib.ListN.{length, length-append}
use lib.Seq.{get_or-append_seam}
use Rattle.foundation.specs.Tests.{or_left, or_right, or_cases, test_true, test_false, true_test}
use Rattle.foundation.specs.Lists.{same_list_eq, same_list_refl}
use Rattle.model.specs.Trees.{Tree, empty, node, height, Over}
use Rattle.model.specs.Tables.{Contract}
use Rattle.model.specs.Kinds.{kind_of}
use Rattle.model.specs.Rounds.{TreeAutomaton, Listed, empty_row, state_at, lists, added, combination, combinations, round_to, round, rounds, kind_automaton}
use Rattle.model.proofs.Rounds.Growth.{Begins, begins_length, begins_state, added_old, added_new, to_begins, rounds_begin}
use Rattle.model.proofs.Rounds.Places.{place, place_symbol, place_left, place_right, place_below}

-- the state of a tree, from the leaves up
unfoldable pub tree_state : (A : TreeAutomaton) → Tree → A.State
tree_state A empty = A.initial
tree_state A (node s l r) = A.next s (tree_state A l) (tree_state A r)

pub kind_state : (C : Contract) (t : Tree) → kind_of C t ≡ tree_state (kind_automaton C) t
unfolding kind_of tree_state
kind_state C empty = refl
kind_state C (node s l r) = rw (kind_state C l, kind_state C r)

-- the test of an automaton tells its states apart
pub record Decides (A : TreeAutomaton) : Type 0 where
  pub sound : (a b : A.State) → T (A.equal a b) → a ≡ b
  pub reflexive : (a : A.State) → T (A.equal a a)

pub kinds_decided : (C : Contract) → Decides (kind_automaton C)
kinds_decided C = record { sound = same_list_eq; reflexive = same_list_refl }

-- some row has state q
pub record HasState (A : TreeAutomaton) (rows : List (Listed A)) (q : A.State) : Type 0 where
  pub index : ℕ
  pub inside : index < length rows
  pub found : state_at A rows index ≡ q

pub has_later : {A : TreeAutomaton} {a b : List (Listed A)} {q : A.State} → Begins A a b → HasState A a q → HasState A b q
has_later g h =
    record {
      index = h.index;
      inside = omega (arith, begins_length g, h.inside);
      found = begins_state g h.index h.inside ∙ h.found;
    }

module _ (A : TreeAutomaton) where
  -- the combination at the place of a symbol over two rows
  pub combination_at : (rows : List (Listed A)) (s i j : ℕ) → 1 ≤ s → i < length rows → j < length rows
      → combination A rows (length rows) (place (length rows) s i j)
      ≡ record { symbol = s; left = i; right = j; state = A.next s (state_at A rows i) (state_at A rows j) }
  combination_at rows s i j h hi hj =
      rw (place_symbol (length rows) s i j hi hj h, place_left (length rows) s i j hi hj, place_right (length rows) s i j hi hj)

  pub combination_state : (rows : List (Listed A)) (s i j : ℕ) → 1 ≤ s → i < length rows → j < length rows
      → (combination A rows (length rows) (place (length rows) s i j)).state ≡ A.next s (state_at A rows i) (state_at A rows j)
  combination_state rows s i j h hi hj = ap (λ (row : Listed A). row.state) (combination_at rows s i j h hi hj)

module _ (A : TreeAutomaton) (decides : Decides A) where
  pub lists_has : (rows : List (Listed A)) (q : A.State) → T (lists A rows q) → HasState A rows q
  unfolding lists
  lists_has [] q t = absurd t
  lists_has (row ∷ rows) q t =
      or_cases _ _ t (λ e. record { index = 0; inside = omega arith; found = sym (decides.sound _ _ e) })
      (λ m. let h : HasState A rows q = lists_has rows q m in record { index = suc h.index; inside = omega arith; found = h.found })

  lists_at : (rows : List (Listed A)) (q : A.State) (i : ℕ) → i < length rows → state_at A rows i ≡ q → T (lists A rows q)
  unfolding lists
  lists_at [] q i h e = absurd (not-suc-le-zero h)
  lists_at (row ∷ rows) q zero h e = or_left _ _ (subst (λ (x : A.State). T (A.equal q x)) (sym e) (decides.reflexive q))
  lists_at (row ∷ rows) q (suc i) h e = or_right _ _ (lists_at rows q i (le_of_suc-le-suc h) e)

  pub has_lists : (rows : List (Listed A)) (q : A.State) → HasState A rows q → T (lists A rows q)
  has_lists rows q h = lists_at rows q h.index h.inside h.found

  -- as a search of the rows finds it
  pub listed_true : (rows : List (Listed A)) (q : A.State) (i : ℕ) → i < length rows → state_at A rows i ≡ q → lists A rows q ≡ true
  listed_true rows q i l e = test_true _ (lists_at rows q i l e)

  pub listed_false : (rows : List (Listed A)) (q : A.State) → ((i : ℕ) → i < length rows → state_at A rows i ≡ q → ⊥) → lists A rows q ≡ false
  listed_false rows q none = test_false _ (λ t. let h = lists_has rows q t in none h.index h.inside h.found)

  pub added_has : (rows : List (Listed A)) (row : Listed A) → HasState A (added A rows row) row.state
  added_has rows row = go (lists A rows row.state) refl
    where
      go : (b : Bool) → lists A rows row.state ≡ b → HasState A (added A rows row) row.state
      go true e = rw (added_old A rows row e) (lists_has rows row.state (true_test _ e))
      go false e =
          rw (added_new A rows row e)
          (record {
            index = length rows;
            inside = simp length-append (omega arith);
            found = ap (λ (x : Listed A). x.state) (get_or-append_seam rows row [] (empty_row A));
          })

  -- a combination is listed once its turn has come
  pub combination_listed : (rows : List (Listed A)) (c d : ℕ) → c < d → HasState A (round_to A rows d) (combination A rows (length rows) c).state
  unfolding round_to
  combination_listed rows c d h = has_later (to_begins A rows (suc c) d h) (added_has (round_to A rows c) (combination A rows (length rows) c))

  -- a round lists each symbol over each two rows
  pub round_lists : (rows : List (Listed A)) (s i j : ℕ) → 1 ≤ s → s < A.symbols → i < length rows → j < length rows
      → HasState A (round A rows) (A.next s (state_at A rows i) (state_at A rows j))
  unfolding round
  round_lists rows s i j h h_s hi hj =
      rw (combination_state A rows s i j h hi hj) at (combination_listed rows (place (length rows) s i j) (combinations A rows)
      (place_below (length rows) s i j hi hj A.symbols h h_s))

  round_lists_over : (rows : List (Listed A)) (s : ℕ) (p q : A.State) → 1 ≤ s → s < A.symbols → HasState A rows p → HasState A rows q
      → HasState A (round A rows) (A.next s p q)
  round_lists_over rows s p q h h_s hp hq =
      rw (hp.found, hq.found) at (round_lists rows s hp.index hq.index h h_s hp.inside hq.inside)

  initial_listed : (h : ℕ) → HasState A (rounds A h) A.initial
  unfolding rounds
  initial_listed h = has_later (rounds_begin A 0 h (omega arith)) (record { index = 0; inside = omega arith; found = refl })

  -- a tree of height h has its state among those of rounds 0 to h
  pub tree_listed : (t : Tree) → Over A.symbols t → (h : ℕ) → height t ≤ h → HasState A (rounds A h) (tree_state A t)
  unfolding rounds tree_state
  tree_listed empty o h l = initial_listed h
  tree_listed (node s l r) o zero hh = absurd (not-suc-le-zero hh)
  tree_listed (node s l r) o (suc h) hh =
      round_lists_over (rounds A h) s (tree_state A l) (tree_state A r) o.0 o.1 (tree_listed l o.2 h (omega arith)) (tree_listed r o.3 h (omega arith))

  -- where a round adds nothing, the list has the state of every tree
  pub ended_lists : (h : ℕ) → round A (rounds A h) ≡ rounds A h → (t : Tree) → Over A.symbols t → HasState A (rounds A h) (tree_state A t)
  unfolding tree_state
  ended_lists h e empty o = initial_listed h
  ended_lists h e (node s l r) o =
      subst (λ (rows : List (Listed A)). HasState A rows (A.next s (tree_state A l) (tree_state A r))) e
      (round_lists_over (rounds A h) s (tree_state A l) (tree_state A r) o.0 o.1 (ended_lists h e l o.2) (ended_lists h e r o.3))
