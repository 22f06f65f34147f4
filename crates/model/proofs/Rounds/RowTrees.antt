-- The tree that a row of the list stands for, read from the rows' numbers: its state is the row's, and it is no taller than
-- the row's round.
use mathlib.Core.Path.{◌≡◌, refl, ap, ap₂, sym, ◌∙◌}
use mathlib.Core.List.{List, [], ◌∷◌, ◌++◌}
use mathlib.Core.Bool.{Bool, true, false}
use Prim.Native.Nat.{ℕ, zero, suc, ◌+◌, ◌*◌, ◌<◌, ◌≤◌}
use native.Mathlib.Nat.{not-suc-le-zero}
use native.Mathlib.Omega.{arith}
use native.Mathlib.Decide.{dec_lt}
use lib.ListN.{length, get_or, length-append, get_or-append}
use lib.Seq.{get_or-append_seam}
use Rattle.model.specs.Trees.{Tree, empty, node, height, Over}
use Rattle.model.specs.Rows.{Row, row_at, tree_at}
use Rattle.model.specs.Tables.{Contract}
use Rattle.model.specs.Rounds.{TreeAutomaton, Listed, empty_row, state_at, lists, added, combination, combinations, round_to, round, rounds, kind_automaton, ListedKind}
use Rattle.model.specs.Checking.{row_numbers}
use Rattle.model.proofs.Laws.Rows.{tree_empty, tree_node, tree_append}
use Rattle.model.proofs.Rounds.Growth.{Begins, begins_row, begins_state, added_old, added_new, round_begins, rounds_not_empty}
use Rattle.model.proofs.Rounds.Places.{left_below, right_below, symbol_below}
use Rattle.model.proofs.Rounds.Covering.{tree_state}

module _ (A : TreeAutomaton) where
  -- the rows' numbers, three each, laid end to end
  unfoldable pub triples : List (Listed A) → List ℕ
  triples [] = []
  triples (row ∷ rows) = row.symbol ∷ row.left ∷ row.right ∷ triples rows

  pub length_triples : (rows : List (Listed A)) → length (triples rows) ≡ 3 * length rows
  unfolding triples
  length_triples [] = refl
  length_triples (row ∷ rows) = let e : length (triples rows) ≡ 3 * length rows = length_triples rows in omega arith

  pub triples_append : (a b : List (Listed A)) → triples (a ++ b) ≡ triples a ++ triples b
  unfolding triples
  triples_append [] b = refl
  triples_append (row ∷ a) b = rw (triples_append a b)

  -- row i of the numbers is row i of the list
  pub triples_row : (rows : List (Listed A)) (i : ℕ)
      → row_at (triples rows) i
      ≡ record { symbol = (get_or rows i (empty_row A)).symbol; left = (get_or rows i (empty_row A)).left; right = (get_or rows i (empty_row A)).right }
  unfolding triples
  triples_row [] i = refl
  triples_row (row ∷ rows) zero = refl
  triples_row (row ∷ rows) (suc i) =
      let next : 3 * suc i ≡ suc (suc (suc (3 * i))) = omega arith in
      let at_left : 3 * suc i + 1 ≡ suc (suc (suc (3 * i + 1))) = omega arith in
      let at_right : 3 * suc i + 2 ≡ suc (suc (suc (3 * i + 2))) = omega arith in
      rw (at_left, at_right, next) (triples_row rows i)

  -- the tree of row i
  abbrev pub row_tree : List (Listed A) → ℕ → Tree
  row_tree rows i = tree_at (triples rows) i

  pub row_tree_empty : (rows : List (Listed A)) (i : ℕ) → (get_or rows i (empty_row A)).symbol ≡ 0 → row_tree rows i ≡ empty
  row_tree_empty rows i e = tree_empty (triples rows) i (ap (λ (r : Row). r.symbol) (triples_row rows i) ∙ e)

  pub row_tree_node : (rows : List (Listed A)) (i : ℕ) → 1 ≤ (get_or rows i (empty_row A)).symbol → (get_or rows i (empty_row A)).left < i
      → (get_or rows i (empty_row A)).right < i
      → row_tree rows i
      ≡ node (get_or rows i (empty_row A)).symbol (row_tree rows (get_or rows i (empty_row A)).left) (row_tree rows (get_or rows i (empty_row A)).right)
  row_tree_node rows i s l r =
      let symbol-is : (row_at (triples rows) i).symbol ≡ (get_or rows i (empty_row A)).symbol = ap (λ (x : Row). x.symbol) (triples_row rows i) in
      let left_is : (row_at (triples rows) i).left ≡ (get_or rows i (empty_row A)).left = ap (λ (x : Row). x.left) (triples_row rows i) in
      let right_is : (row_at (triples rows) i).right ≡ (get_or rows i (empty_row A)).right = ap (λ (x : Row). x.right) (triples_row rows i) in
      tree_node (triples rows) i (omega arith) (omega arith) (omega arith) ∙ rw (symbol-is, left_is, right_is)

  -- more rows at the end change no tree
  pub row_tree_begins : {a b : List (Listed A)} → Begins A a b → (i : ℕ) → i < length a → row_tree b i ≡ row_tree a i
  row_tree_begins {a} g i h =
      rw (g.appended, triples_append a g.more) (tree_append (triples a) (triples g.more) i (omega (arith, length_triples a)))

  -- what row i is: the empty forest's, or a symbol over two smaller rows
  pub data Stands (rows : List (Listed A)) (i : ℕ) : Type 0 where
    for_empty : get_or rows i (empty_row A) ≡ empty_row A → Stands rows i
    for_node : 1 ≤ (get_or rows i (empty_row A)).symbol → (get_or rows i (empty_row A)).symbol < A.symbols → (get_or rows i (empty_row A)).left < i
        → (get_or rows i (empty_row A)).right < i
        → state_at A rows i
        ≡ A.next (get_or rows i (empty_row A)).symbol (state_at A rows (get_or rows i (empty_row A)).left) (state_at A rows (get_or rows i (empty_row A)).right)
        → Stands rows i

  -- every row that a round adds is one of its combinations
  pub record IsCombination (rows : List (Listed A)) (c : ℕ) (row : Listed A) : Type 0 where
    pub at_place : ℕ
    pub before : at_place < c
    pub is : row ≡ combination A rows (length rows) at_place

  -- a row of a list to which one was added, perhaps, is an old one or that one
  added_row : (rows : List (Listed A)) (row : Listed A) (P : Listed A → Type 0) (i : ℕ) → i < length (added A rows row)
      → (i < length rows → P (get_or rows i (empty_row A))) → P row → P (get_or (added A rows row) i (empty_row A))
  added_row rows row P i h old new = go (lists A rows row.state) refl (dec_lt i (length rows))
    where
      go : (b : Bool) → lists A rows row.state ≡ b → Dec (i < length rows) → P (get_or (added A rows row) i (empty_row A))
      go true e d = rw (added_old A rows row e) (old (rw (added_old A rows row e) at h))
      go false e (yes l) = rw (added_new A rows row e) (rw (get_or-append rows (row ∷ []) (empty_row A) i l) (old l))
      go false e (no nl) =
          let k : i < length (rows ++ (row ∷ [])) = rw (added_new A rows row e) at h in
          let q : i ≡ length rows = omega (arith, simp length-append at k) in
          rw (added_new A rows row e, q) (rw (get_or-append_seam rows row [] (empty_row A)) new)

  pub to_row : (rows : List (Listed A)) (c i : ℕ) → length rows ≤ i → i < length (round_to A rows c) → IsCombination rows c (get_or (round_to A rows c) i (empty_row A))
  unfolding round_to
  to_row rows zero i l h = absurd (omega arith)
  to_row rows (suc c) i l h =
      added_row (round_to A rows c) (combination A rows (length rows) c) (IsCombination rows (suc c)) i h
      (λ old. let w = to_row rows c i l old in record { at_place = w.at_place; before = omega (arith, w.before); is = w.is })
      (record { at_place = c; before = omega arith; is = refl })

  -- a row that a round adds is a symbol over two rows that stood before the round
  pub record NewRow (rows : List (Listed A)) (row : Listed A) : Type 0 where
    pub symbol_positive : 1 ≤ row.symbol
    pub symbol_below : row.symbol < A.symbols
    pub left_old : row.left < length rows
    pub right_old : row.right < length rows
    pub state_over : row.state ≡ A.next row.symbol (state_at A rows row.left) (state_at A rows row.right)

  combination_new : (rows : List (Listed A)) → 0 < length rows → (c : ℕ) → c < combinations A rows → NewRow rows (combination A rows (length rows) c)
  combination_new rows some c h =
      record {
        symbol_positive = omega arith;
        symbol_below = symbol_below (length rows) some c A.symbols h;
        left_old = left_below (length rows) some c;
        right_old = right_below (length rows) some c;
        state_over = refl;
      }

  pub round_row : (rows : List (Listed A)) → 0 < length rows → (i : ℕ) → length rows ≤ i → i < length (round A rows) → NewRow rows (get_or (round A rows) i (empty_row A))
  unfolding round
  round_row rows some i l h =
      let w = to_row rows (combinations A rows) i l h in
      rw w.is (combination_new rows some w.at_place w.before)

  -- every row stands for the empty forest, or for a symbol over two smaller rows
  begins_stands : {a b : List (Listed A)} → Begins A a b → (i : ℕ) → i < length a → Stands a i → Stands b i
  begins_stands g i h (for_empty e) = for_empty (begins_row g i h ∙ e)
  begins_stands {a} g i h (for_node s1 s_s l r e) =
      let same = begins_row g i h in
      let over-left = begins_state g (get_or a i (empty_row A)).left (omega arith) in
      let over-right = begins_state g (get_or a i (empty_row A)).right (omega arith) in
      for_node (rw same s1) (rw same s_s) (rw same l) (rw same r) (begins_state g i h ∙ e ∙ rw same (rw (over-left, over-right)))

  pub rounds_stand : (h i : ℕ) → i < length (rounds A h) → Stands (rounds A h) i
  unfolding rounds
  rounds_stand zero i l = let e : i ≡ 0 = omega arith in for_empty (rw e)
  rounds_stand (suc h) i l = go (dec_lt i (length (rounds A h))) (λ k. rounds_stand h i k)
    where
      grown : Begins A (rounds A h) (round A (rounds A h))
      grown = round_begins A (rounds A h)

      go : Dec (i < length (rounds A h)) → (i < length (rounds A h) → Stands (rounds A h) i) → Stands (round A (rounds A h)) i
      go (yes k) old = begins_stands grown i k (old k)
      go (no nk) old =
          let w = round_row (rounds A h) (rounds_not_empty A h) i (omega arith) l in
          for_node w.symbol_positive w.symbol_below (omega (arith, w.left_old)) (omega (arith, w.right_old))
          (w.state_over ∙ rw (begins_state grown _ w.left_old, begins_state grown _ w.right_old))

  -- row i stands for a tree over the symbols, whose state is the row's
  pub record StandsFor (rows : List (Listed A)) (i : ℕ) : Type 0 where
    pub over : Over A.symbols (row_tree rows i)
    pub state-of : tree_state A (row_tree rows i) ≡ state_at A rows i

  stands_empty : (rows : List (Listed A)) (i : ℕ) → get_or rows i (empty_row A) ≡ empty_row A → StandsFor rows i
  unfolding tree_state
  stands_empty rows i e =
      let is-empty : row_tree rows i ≡ empty = row_tree_empty rows i (ap (λ (x : Listed A). x.symbol) e) in
      record { over = rw is-empty tt; state-of = rw is-empty (ap (λ (x : Listed A). x.state) (sym e)) }

  stands_node : (rows : List (Listed A)) (i : ℕ) → 1 ≤ (get_or rows i (empty_row A)).symbol → (get_or rows i (empty_row A)).symbol < A.symbols
      → (get_or rows i (empty_row A)).left < i
      → (get_or rows i (empty_row A)).right < i
      → state_at A rows i
      ≡ A.next (get_or rows i (empty_row A)).symbol (state_at A rows (get_or rows i (empty_row A)).left) (state_at A rows (get_or rows i (empty_row A)).right)
      → StandsFor rows (get_or rows i (empty_row A)).left
      → StandsFor rows (get_or rows i (empty_row A)).right
      → StandsFor rows i
  unfolding tree_state
  stands_node rows i s1 s_s l r e on-left on-right =
      let is-node = row_tree_node rows i s1 l r in
      record {
        over = rw is-node (s1, s_s, on-left.over, on-right.over);
        state-of = ap (λ (t : Tree). tree_state A t) is-node ∙ ap₂ (A.next (get_or rows i (empty_row A)).symbol) on-left.state-of on-right.state-of ∙ sym e;
      }

  stands_below : (rows : List (Listed A)) → ((k : ℕ) → k < length rows → Stands rows k) → (n i : ℕ) → i < n → i < length rows → StandsFor rows i
  stands_below rows all zero i bound h = absurd (not-suc-le-zero bound)
  stands_below rows all (suc n) i bound h = go (all i h) (λ k lk hk. stands_below rows all n k lk hk)
    where
      go : Stands rows i → ((k : ℕ) → k < n → k < length rows → StandsFor rows k) → StandsFor rows i
      go (for_empty e) smaller = stands_empty rows i e
      go (for_node s1 s_s l r e) smaller =
          stands_node rows i s1 s_s l r e (smaller (get_or rows i (empty_row A)).left (omega arith) (omega arith))
          (smaller (get_or rows i (empty_row A)).right (omega arith) (omega arith))

  -- the tree of each row has that row's state
  pub rounds_stand_for : (h i : ℕ) → i < length (rounds A h) → StandsFor (rounds A h) i
  rounds_stand_for h i l = stands_below (rounds A h) (rounds_stand h) (suc i) i (omega arith) l

  new_height : (h : ℕ) (a b : List (Listed A)) → Begins A a b → ((k : ℕ) → k < length a → height (row_tree a k) ≤ h)
      → (i : ℕ) → length a ≤ i → NewRow a (get_or b i (empty_row A)) → height (row_tree b i) ≤ suc h
  new_height h a b g old i l w =
      let is-node = row_tree_node b i w.symbol_positive (omega (arith, w.left_old)) (omega (arith, w.right_old)) in
      let on-left : height (row_tree b (get_or b i (empty_row A)).left) ≤ h = rw (row_tree_begins g _ w.left_old) (old _ w.left_old) in
      let on-right : height (row_tree b (get_or b i (empty_row A)).right) ≤ h = rw (row_tree_begins g _ w.right_old) (old _ w.right_old) in
      rw is-node (omega arith)

  -- and is no taller than the round that lists it
  pub rounds_height : (h i : ℕ) → i < length (rounds A h) → height (row_tree (rounds A h) i) ≤ h
  unfolding rounds
  rounds_height zero i l = let e : i ≡ 0 = omega arith in rw e (rw (row_tree_empty (empty_row A ∷ []) 0 refl) (omega arith))
  rounds_height (suc h) i l = go (dec_lt i (length (rounds A h))) (λ k lk. rounds_height h k lk)
    where
      grown : Begins A (rounds A h) (round A (rounds A h))
      grown = round_begins A (rounds A h)

      go : Dec (i < length (rounds A h)) → ((k : ℕ) → k < length (rounds A h) → height (row_tree (rounds A h) k) ≤ h)
          → height (row_tree (round A (rounds A h)) i) ≤ suc h
      go (yes k) old = rw (row_tree_begins grown i k) (omega (arith, old i k))
      go (no nk) old =
          new_height h (rounds A h) (round A (rounds A h)) grown old i (omega arith) (round_row (rounds A h) (rounds_not_empty A h) i (omega arith) l)

-- the numbers of a contract's rows
pub row-numbers : (C : Contract) (rows : List (ListedKind C)) → row_numbers C rows ≡ triples (kind_automaton C) rows
unfolding row_numbers triples
row-numbers C [] = refl
row-numbers C (row ∷ rows) = rw (row-numbers C rows)

pub row_number_at : (C : Contract) (rows : List (ListedKind C)) (i : ℕ)
    → row_at (row_numbers C rows) i
    ≡ record {
      symbol = (get_or rows i (empty_row (kind_automaton C))).symbol;
      left = (get_or rows i (empty_row (kind_automaton C))).left;
      right = (get_or rows i (empty_row (kind_automaton C))).right;
    }
row_number_at C rows i = rw (row-numbers C rows) (triples_row (kind_automaton C) rows i)
