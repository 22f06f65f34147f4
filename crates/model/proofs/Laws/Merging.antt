-- Laws of merging two output types: whether a type has a fault and where, what is refused, and what the buffers hold then.
use mathlib.Core.Path.{◌≡◌, refl, sym, ◌∙◌}
use mathlib.Core.Bool.{Bool, true, false}
use mathlib.Core.List.{List, [], ◌++◌}
use Prim.Native.Nat.{ℕ, zero, suc, ◌+◌, ◌*◌, ◌-◌, ◌/◌, ◌%◌, ◌<◌, ◌≤◌}
use native.Mathlib.Omega.{arith}
use borrow.Author.Tests.{le-ltb, lt-ltb, eq-eqb, ne_eqb}
use lib.ListN.{length, get_or, drop}
use Rattle.foundation.specs.Search.{first, first_at, first_before, first_hit, first_none, first_clear}
use Rattle.foundation.specs.Lists.{length_tabulated, tabulated_at, tabulated_cong, tabulated_filled}
use Rattle.model.specs.Tables.{OutputType, type_of, empty_state, mark_at}
use Rattle.model.specs.Answers.{Verdict, fine, refused, refuse_first}
use Rattle.model.specs.Admission.{outside, table_length, entry_wrong}
use Rattle.model.specs.Merging.{pair_state, pair_count, pair_next, pair_entry, pair_mark, merged_type, type_wrong, type_places, type_verdict, not_merged, buffer_short, merging_verdict, merged_into, merging}
use Rattle.model.proofs.Laws.Answers.{refuse_first_at, refuse_first_none, given_fine, given_refused}

-- A fault of one type

-- tests one behind another: the four of sizes and lengths, then those of the entries
module _ (S : ℕ) (Y : OutputType) where
  abbrev entry_bad : ℕ → Bool
  entry_bad = entry_wrong Y.states [] Y.table Y.marks

  abbrev entry_count : ℕ
  entry_count = length Y.table + length Y.marks

  pub type_entry : (k : ℕ) → type_wrong S Y (4 + k) ≡ entry_bad k
  type_entry k = let less : 4 + k - 4 ≡ k = omega arith in rw (le-ltb (4 + k) 4 (omega arith), less)

  wrong_entry : (place : ℕ) → 4 ≤ place → type_wrong S Y place ≡ entry_bad (place - 4)
  wrong_entry place h = rw (le-ltb place 4 h)

  -- the sizes and lengths are right
  pub record Shaped : Type 0 where
    pub symbols : outside 1 16 S ≡ false
    pub states : outside 1 4 Y.states ≡ false
    pub table_long : length Y.table ≡ table_length S Y.states
    pub marks_long : length Y.marks ≡ Y.states

  shaped_clear : Shaped → (n : ℕ) → ((k : ℕ) → k < n → entry_bad k ≡ false) → (j : ℕ) → j < 4 + n → type_wrong S Y j ≡ false
  shaped_clear s n clear zero h = s.symbols
  shaped_clear s n clear (suc zero) h = s.states
  shaped_clear s n clear (suc (suc zero)) h = rw (eq-eqb _ _ s.table_long)
  shaped_clear s n clear (suc (suc (suc zero))) h = rw (eq-eqb _ _ s.marks_long)
  shaped_clear s n clear (suc (suc (suc (suc k)))) h =
      let place = suc (suc (suc (suc k))) in
      wrong_entry place (omega arith) ∙ clear (place - 4) (omega arith)

  module _ (number : ℕ) where
    fault_at : (place : ℕ) → place < type_places Y → ((j : ℕ) → j < place → type_wrong S Y j ≡ false) → type_wrong S Y place ≡ true
        → type_verdict number S Y ≡ refused number place
    unfolding type_verdict
    fault_at place h none bad =
        refuse_first_at number (type_wrong S Y) (type_places Y) place (sym (first_at (type_wrong S Y) (type_places Y) place h none bad)) h

    pub symbols_fault : outside 1 16 S ≡ true → type_verdict number S Y ≡ refused number 0
    symbols_fault bad = fault_at 0 (omega arith) (λ j h. absurd (omega arith)) bad

    module _ (symbols : outside 1 16 S ≡ false) where
      pub states_fault : outside 1 4 Y.states ≡ true → type_verdict number S Y ≡ refused number 1
      states_fault bad = fault_at 1 (omega arith) none bad
        where
          none : (j : ℕ) → j < 1 → type_wrong S Y j ≡ false
          none zero h = symbols
          none (suc j) h = absurd (omega arith)

      module _ (states : outside 1 4 Y.states ≡ false) where
        pub table_fault : (length Y.table ≡ table_length S Y.states → ⊥) → type_verdict number S Y ≡ refused number 2
        table_fault bad = fault_at 2 (omega arith) none (rw (ne_eqb _ _ bad))
          where
            none : (j : ℕ) → j < 2 → type_wrong S Y j ≡ false
            none zero h = symbols
            none (suc zero) h = states
            none (suc (suc j)) h = absurd (omega arith)

        pub marks_fault : length Y.table ≡ table_length S Y.states → (length Y.marks ≡ Y.states → ⊥)
            → type_verdict number S Y ≡ refused number 3
        marks_fault long bad = fault_at 3 (omega arith) none (rw (ne_eqb _ _ bad))
          where
            none : (j : ℕ) → j < 3 → type_wrong S Y j ≡ false
            none zero h = symbols
            none (suc zero) h = states
            none (suc (suc zero)) h = rw (eq-eqb _ _ long)
            none (suc (suc (suc j))) h = absurd (omega arith)

    -- a search through table and marks: it ends at a bad entry, or behind the last
    module _ (s : Shaped) (k : ℕ) (found : k ≡ first entry_bad entry_count) where
      pub entry_fault : k < entry_count → type_verdict number S Y ≡ refused number (4 + k)
      entry_fault h =
          fault_at (4 + k) (omega arith) (shaped_clear s k (λ j l. first_before entry_bad entry_count j (omega arith)))
          (type_entry k ∙ rw found (first_hit entry_bad entry_count (omega arith)))

      pub no_fault : entry_count ≤ k → type_verdict number S Y ≡ fine
      unfolding type_verdict
      no_fault h =
          let none = shaped_clear s entry_count (λ j l. first_clear entry_bad entry_count (omega arith) j l) in
          refuse_first_none number (type_wrong S Y) (type_places Y) _ refl (omega (arith, first_none (type_wrong S Y) (type_places Y) none))

-- The buffers for the result
module _ (S states table_room marks_room : ℕ) where
  abbrev buffers : Verdict
  buffers = refuse_first 56 (buffer_short S states table_room marks_room) 2

  pub table_short : table_room < table_length S states → buffers ≡ refused 56 0
  table_short h = refuse_first_at 56 _ 2 0 (sym (first_at _ 2 0 (omega arith) (λ j l. absurd (omega arith)) (lt-ltb table_room _ h))) (omega arith)

  module _ (long : table_length S states ≤ table_room) where
    table_fits : (place : ℕ) → place < 1 → buffer_short S states table_room marks_room place ≡ false
    table_fits zero h = le-ltb table_room _ long
    table_fits (suc place) h = absurd (omega arith)

    pub marks_short : marks_room < states → buffers ≡ refused 56 1
    marks_short h = refuse_first_at 56 _ 2 1 (sym (first_at _ 2 1 (omega arith) table_fits (lt-ltb marks_room states h))) (omega arith)

    pub buffers_fit : states ≤ marks_room → buffers ≡ fine
    buffers_fit h = refuse_first_none 56 _ 2 _ refl (omega (arith, first_none (buffer_short S states table_room marks_room) 2 clear))
      where
        clear : (place : ℕ) → place < 2 → buffer_short S states table_room marks_room place ≡ false
        clear zero l = table_fits zero (omega arith)
        clear (suc zero) l = le-ltb marks_room states h
        clear (suc (suc place)) l = absurd (omega arith)

-- What comes back
module _ (S : ℕ) (Y : OutputType) (S' : ℕ) (Z : OutputType) (table_buffer marks_buffer : List ℕ) where
  pub merging_refused : (number place : ℕ) → merging_verdict S Y S' Z table_buffer marks_buffer ≡ refused number place
      → merging S Y S' Z table_buffer marks_buffer ≡ record { answer = not_merged number place; table = table_buffer; marks = marks_buffer }
  unfolding merging
  merging_refused number place e = given_refused _ (merged_into S Y S' Z table_buffer marks_buffer) _ number place e

  pub merging_fine : merging_verdict S Y S' Z table_buffer marks_buffer ≡ fine
      → merging S Y S' Z table_buffer marks_buffer ≡ merged_into S Y S' Z table_buffer marks_buffer
  unfolding merging
  merging_fine e = given_fine _ (merged_into S Y S' Z table_buffer marks_buffer) _ e

-- An entry of the merged table
module _ (Y Z : OutputType) where
  -- what both types give nothing, and then a symbol over two pairs
  pub entry_nothing : (k : ℕ) → k ≡ 0 → pair_entry Y Z k ≡ pair_state Z.states (empty_state Y) (empty_state Z)
  unfolding pair_entry
  entry_nothing k e = rw e

  pub entry_over : (k c : ℕ) → k ≡ suc c
      → pair_entry Y Z k ≡ pair_next Y Z (1 + c / (pair_count Y Z * pair_count Y Z)) (c / pair_count Y Z % pair_count Y Z) (c % pair_count Y Z)
  unfolding pair_entry
  entry_over k c e = rw e

-- What is written
module _ (S : ℕ) (Y Z : OutputType) where
  -- a buffer whose first entries are those of the merged table, and whose others are as they were
  pub table_filled : (l buffer : List ℕ) → length l ≡ length buffer → table_length S (pair_count Y Z) ≤ length l
      → ((j : ℕ) → j < table_length S (pair_count Y Z) → get_or l j 0 ≡ pair_entry Y Z j)
      → ((j : ℕ) → table_length S (pair_count Y Z) ≤ j → get_or l j 0 ≡ get_or buffer j 0)
      → l ≡ (merged_type S Y Z).table ++ drop (table_length S (pair_count Y Z)) buffer
  unfolding merged_type
  table_filled l buffer = tabulated_filled (table_length S (pair_count Y Z)) (pair_entry Y Z) l buffer

  pub marks_filled : (l buffer : List ℕ) → length l ≡ length buffer → pair_count Y Z ≤ length l
      → ((q : ℕ) → q < pair_count Y Z → get_or l q 0 ≡ pair_mark Y Z q)
      → ((q : ℕ) → pair_count Y Z ≤ q → get_or l q 0 ≡ get_or buffer q 0)
      → l ≡ (merged_type S Y Z).marks ++ drop (pair_count Y Z) buffer
  unfolding merged_type
  marks_filled l buffer = tabulated_filled (pair_count Y Z) (pair_mark Y Z) l buffer

  pub merged_states : (merged_type S Y Z).states ≡ pair_count Y Z
  unfolding merged_type
  merged_states = refl

  pub table-long : length (merged_type S Y Z).table ≡ table_length S (pair_count Y Z)
  unfolding merged_type
  table-long = length_tabulated (table_length S (pair_count Y Z)) (pair_entry Y Z)

  pub marks-long : length (merged_type S Y Z).marks ≡ pair_count Y Z
  unfolding merged_type
  marks-long = length_tabulated (pair_count Y Z) (pair_mark Y Z)

  pub merged_entry : (k : ℕ) → k < table_length S (pair_count Y Z) → get_or (merged_type S Y Z).table k 0 ≡ pair_entry Y Z k
  unfolding merged_type
  merged_entry k h = tabulated_at (table_length S (pair_count Y Z)) (pair_entry Y Z) k h

  pub merged_mark : (q : ℕ) → q < pair_count Y Z → mark_at (merged_type S Y Z).marks q ≡ pair_mark Y Z q
  unfolding merged_type
  merged_mark q h = tabulated_at (pair_count Y Z) (pair_mark Y Z) q h

  -- the merged table does not depend on the marks, nor the merged marks on the tables
  pub table_alone : (merged_type S Y Z).table ≡ (merged_type S (type_of Y.states Y.table []) (type_of Z.states Z.table [])).table
  unfolding merged_type pair_entry
  table_alone = tabulated_cong (table_length S (pair_count Y Z)) _ _ same
    where
      same : (k : ℕ) → pair_entry Y Z k ≡ pair_entry (type_of Y.states Y.table []) (type_of Z.states Z.table []) k
      same zero = refl
      same (suc c) = refl

  pub marks_alone : (merged_type S Y Z).marks ≡ (merged_type 1 (type_of Y.states [] Y.marks) (type_of Z.states [] Z.marks)).marks
  unfolding merged_type
  marks_alone = refl
