-- Heights: up to which height the first L kinds are those of every tree, and that it is told by the rounds.
use mathlib.Core.Path.{◌≡◌, ap, subst, sym, ◌∙◌}
use mathlib.Core.List.{List}
use mathlib.Core.Logic.{◌↔◌, ◌⊎◌, inl, inr}
use Prim.Native.Nat.{ℕ, zero, suc, ◌+◌, ◌<◌, ◌≤◌}
use native.Mathlib.Omega.{arith}
use native.Mathlib.Decide.{dec_lt}
use lib.Dec.{T}
use lib.ListN.{length, length-take}
use Rattle.foundation.specs.Tests.{test_true, test_false}
use Rattle.foundation.specs.Search.{greatest, greatest_at}
use Rattle.model.specs.Trees.{Tree, height, every_tree}
use Rattle.model.specs.Tables.{Contract}
use Rattle.model.specs.Kinds.{kind_of}
use Rattle.model.specs.Rounds.{TreeAutomaton, kind_automaton, ListedKind, kind_at, listing, rounds}
use Rattle.model.specs.Checking.{first_kinds, among_first, stop_height}
use Rattle.model.specs.Meaning.{AmongFirst, AllAmongFirst, LastHeld}
use Rattle.model.proofs.Laws.Trees.{every-tree}
use Rattle.model.proofs.Rounds.Growth.{Begins, begins_length, begins_state, rounds_begin, rounds_beginning, agree_state, take_begins}
use Rattle.model.proofs.Rounds.Covering.{tree_state, kind_state, kinds_decided, HasState, lists_has, has_lists, tree_listed}
use Rattle.model.proofs.Rounds.Distinct.{rounds_distinct}
use Rattle.model.proofs.Rounds.RowTrees.{row_tree, rounds_stand_for, rounds_height}
use Rattle.model.proofs.Rounds.Listing.{Ended, ended_or_longer, rounds_enough, listing_rounds}

module _ (C : Contract) (L : ℕ) where
  abbrev A : TreeAutomaton
  A = kind_automaton C

  first_begin : Begins A (first_kinds C L) (rounds A L)
  first_begin = subst (λ (rows : List (ListedKind C)). Begins A (first_kinds C L) rows) (listing_rounds A L) (take_begins A L (listing A L))

  first_few : length (first_kinds C L) ≤ L
  first_few = omega (arith, length-take L (listing A L))

  -- "its kind among the first L", as the test tells it
  told_among : (t : Tree) → T (among_first C L t) → AmongFirst C L (kind_of C t)
  told_among t a =
      let there : HasState A (first_kinds C L) (kind_of C t) = lists_has A (kinds_decided C) (first_kinds C L) (kind_of C t) a in
      record {
        round = L;
        row = there.index;
        below_limit = omega (arith, there.inside, first_few);
        inside = omega (arith, there.inside, begins_length first_begin);
        found = begins_state first_begin there.index there.inside ∙ there.found;
      }

  among_told : (t : Tree) → AmongFirst C L (kind_of C t) → T (among_first C L t)
  among_told t a = has_lists A (kinds_decided C) (first_kinds C L) (kind_of C t) (go (rounds_enough A L (rounds_beginning A a.round)))
    where
      at : a.row < length (rounds A L) → HasState A (first_kinds C L) (kind_of C t)
      at inside =
          let short : a.row < length (first_kinds C L) =
          omega (arith, inside, a.below_limit, length-take L (listing A L), ap length (listing_rounds A L)) in
          record {
            index = a.row;
            inside = short;
            found =
                sym (begins_state first_begin a.row short)
                ∙ agree_state A (rounds A L) (rounds A a.round) (rounds_beginning A L) (rounds_beginning A a.round) a.row inside a.inside
                ∙ a.found;
          }

      go : (L < length (rounds A L)) ⊎ (length (rounds A a.round) ≤ length (rounds A L)) → HasState A (first_kinds C L) (kind_of C t)
      go (inl l) = at (omega (arith, a.below_limit))
      go (inr l) = at (omega (arith, a.inside))

  -- "every tree of height h or less has its kind among the first L", as the test tells it
  all_among_exactly : (h : ℕ) → T (every_tree C.transformation.symbols h (among_first C L)) ↔ AllAmongFirst C L h
  all_among_exactly h = (
    λ e t over low. told_among t ((every-tree C.transformation.symbols h (among_first C L)).0 e t over low),
    λ c. (every-tree C.transformation.symbols h (among_first C L)).1 (λ t over low. among_told t (c t over low)),
  )

  -- round h, of which the limit holds the list, and not that of the next
  module _ (h : ℕ) (last : LastHeld C L h) where
    -- its list has the kind of every tree of height h or less
    pub held_all_among : AllAmongFirst C L h
    held_all_among t over low =
        let there : HasState A (rounds A h) (tree_state A t) = tree_listed A (kinds_decided C) t over h low in
        record {
          round = h;
          row = there.index;
          below_limit = omega (arith, there.inside, last.held);
          inside = there.inside;
          found = there.found ∙ sym (kind_state C t);
        }

    -- the kind of row L of the next list is none of the first L
    left_out : AmongFirst C L (kind_at C (rounds A (suc h)) L) → ⊥
    left_out a =
        let begins = rounds_begin A (suc h) (suc h + a.round) (omega arith) in
        let also = rounds_begin A a.round (suc h + a.round) (omega arith) in
        (rounds_distinct A (kinds_decided C) (suc h + a.round)).differ a.row L a.below_limit
        (omega (arith, last.left_out, begins_length begins))
        (begins_state also a.row a.inside ∙ a.found ∙ sym (begins_state begins L last.left_out))

    -- and it is the kind of a tree of height h + 1 or less
    pub held_greatest : (k : ℕ) → AllAmongFirst C L k → k ≤ h
    held_greatest k all = go (dec_lt h k)
      where
        go : Dec (h < k) → k ≤ h
        go (no nl) = omega arith
        go (yes l) =
            let t : Tree = row_tree A (rounds A (suc h)) L in
            let stands = rounds_stand_for A (suc h) L last.left_out in
            let low : height t ≤ suc h = rounds_height A (suc h) L last.left_out in
            let same : kind_of C t ≡ kind_at C (rounds A (suc h)) L = kind_state C t ∙ stands.state-of in
            absurd (left_out (rw same at (all t stands.over (omega arith))))

    -- each round but the last adds a row
    held_below : h < L
    unfolding rounds
    held_below = go (ended_or_longer A h)
      where
        go : Ended A h ⊎ (h < length (rounds A h)) → h < L
        go (inl e) = absurd (omega (arith, last.held, last.left_out, ap length e))
        go (inr l) = omega (arith, last.held)

    -- so it is the height of a stop
    pub stop_height_at : stop_height C L ≡ h
    unfolding stop_height
    stop_height_at =
        let found : greatest (λ k. every_tree C.transformation.symbols k (among_first C L)) L ≡ h =
        greatest_at (λ k. every_tree C.transformation.symbols k (among_first C L)) L h held_below
        (test_true _ ((all_among_exactly h).1 held_all_among))
        (λ k above below. test_false _ (λ e. let l = held_greatest k ((all_among_exactly k).0 e) in absurd (omega arith))) in
        omega (arith, found)

  -- where some round lists more rows than the limit, there is such a round before it: round 0 lists one row
  pub last-held : 1 ≤ L → (k : ℕ) → L < length (rounds A k) → (h : ℕ) × LastHeld C L h
  unfolding rounds
  last-held some zero more = absurd (omega arith)
  last-held some (suc k) more = go (λ l. last-held some k l) (dec_lt L (length (rounds A k)))
    where
      go : (L < length (rounds A k) → (h : ℕ) × LastHeld C L h) → Dec (L < length (rounds A k)) → (h : ℕ) × LastHeld C L h
      go before (yes l) = before l
      go before (no nl) = (k, record { held = omega arith; left_out = more })
