-- Two output types at a time, as a table: what comes back, and what stands in the two buffers then. The checker computes every line of it.
use Rattle.std.specs.Prelude.{◌≡◌, refl, List, [], ◌∷◌, map, ℕ, replicate}
use Rattle.foundation.specs.Lists.{tabulated}
use Rattle.model.specs.Tables.{OutputType, type_of}
use Rattle.model.specs.Merging.{pair_entry, merged, not_merged, Merged, merged_type, type_verdict, merging_verdict, merging}
use Rattle.worked_table.specs.Table.{computing}

-- two types, each with its symbol count, and how long the buffers are, which hold sevens; and what is due
pub record Two : Type 0 where
  pub symbols : ℕ
  pub first : OutputType
  pub second_symbols : ℕ
  pub second : OutputType
  pub table_room : ℕ
  pub marks_room : ℕ
  pub due : Merged

-- something is refused, and the sevens stand
abbrev pub refusing : ℕ → OutputType → ℕ → OutputType → (table_room marks_room number place : ℕ) → Two
refusing S Y S' Z table_room marks_room number place =
    record {
      symbols = S;
      first = Y;
      second_symbols = S';
      second = Z;
      table_room = table_room;
      marks_room = marks_room;
      due = record { answer = not_merged number place; table = replicate table_room 7; marks = replicate marks_room 7 };
    }

-- two types of two states over two symbols, and types of one, two, three and four states over one
abbrev pub Y : OutputType
Y = type_of 2 (0 ∷ 1 ∷ 1 ∷ 1 ∷ 1 ∷ []) (1 ∷ 0 ∷ [])

abbrev pub Z : OutputType
Z = type_of 2 (1 ∷ 0 ∷ 1 ∷ 1 ∷ 0 ∷ []) (1 ∷ 1 ∷ [])

abbrev pub one : OutputType
one = type_of 1 (0 ∷ []) (1 ∷ [])

abbrev pub two : OutputType
two = type_of 2 (1 ∷ []) (0 ∷ 1 ∷ [])

abbrev pub three : OutputType
three = type_of 3 (2 ∷ []) (1 ∷ 0 ∷ 1 ∷ [])

abbrev pub four : OutputType
four = type_of 4 (3 ∷ []) (0 ∷ 0 ∷ 0 ∷ 1 ∷ [])

abbrev pub mergings : List Two
mergings =
    -- two types of two states, in buffers that are one longer; and the other way round
    record {
      symbols = 2;
      first = Y;
      second_symbols = 2;
      second = Z;
      table_room = 18;
      marks_room = 5;
      due =
          record {
            answer = merged 4;
            table = 1 ∷ 2 ∷ 3 ∷ 2 ∷ 3 ∷ 3 ∷ 2 ∷ 3 ∷ 2 ∷ 2 ∷ 3 ∷ 2 ∷ 3 ∷ 3 ∷ 2 ∷ 3 ∷ 2 ∷ 7 ∷ [];
            marks = 1 ∷ 1 ∷ 0 ∷ 0 ∷ 7 ∷ [];
          };
    }
    ∷ record {
      symbols = 2;
      first = Z;
      second_symbols = 2;
      second = Y;
      table_room = 17;
      marks_room = 4;
      due =
          record {
            answer = merged 4;
            table = 2 ∷ 1 ∷ 1 ∷ 3 ∷ 3 ∷ 1 ∷ 1 ∷ 3 ∷ 3 ∷ 3 ∷ 3 ∷ 1 ∷ 1 ∷ 3 ∷ 3 ∷ 1 ∷ 1 ∷ [];
            marks = 1 ∷ 0 ∷ 1 ∷ 0 ∷ [];
          };
    }
    -- a type of four states with one of one
    ∷ record {
      symbols = 1;
      first = four;
      second_symbols = 1;
      second = one;
      table_room = 1;
      marks_room = 4;
      due = record { answer = merged 4; table = 3 ∷ []; marks = 0 ∷ 0 ∷ 0 ∷ 1 ∷ [] };
    }
    -- the first type: symbols, states, the two lengths, an entry, a mark; also where the second has a fault too, or another symbol count
    ∷ refusing 0 one 0 one 0 0 51 0
    ∷ refusing 17 one 17 one 0 0 51 0
    ∷ refusing 1 (type_of 0 (0 ∷ []) []) 1 one 1 1 51 1
    ∷ refusing 1 (type_of 5 (0 ∷ []) (1 ∷ 1 ∷ 1 ∷ 1 ∷ 1 ∷ [])) 2 one 1 1 51 1
    ∷ refusing 2 one 1 one 0 0 51 2
    ∷ refusing 1 (type_of 1 (0 ∷ []) []) 17 one 1 1 51 3
    ∷ refusing 2 (type_of 2 (0 ∷ 1 ∷ 1 ∷ 2 ∷ 1 ∷ []) (2 ∷ 0 ∷ [])) 3 Z 18 5 51 7
    ∷ refusing 2 (type_of 2 (0 ∷ 1 ∷ 1 ∷ 1 ∷ 1 ∷ []) (1 ∷ 2 ∷ [])) 2 Z 18 5 51 10
    -- the second type, before the symbol counts
    ∷ refusing 2 Y 3 Z 18 5 52 2
    ∷ refusing 2 Y 2 (type_of 2 (1 ∷ 0 ∷ 1 ∷ 1 ∷ 2 ∷ []) (1 ∷ 1 ∷ [])) 18 5 52 8
    ∷ refusing 2 Y 2 (type_of 2 (1 ∷ 0 ∷ 1 ∷ 1 ∷ 0 ∷ []) (65535 ∷ 1 ∷ [])) 18 5 52 9
    -- differing symbol counts, before too many states
    ∷ refusing 2 Y 1 one 18 5 50 1
    ∷ refusing 2 Y 1 four 18 5 50 1
    -- too many states, before short buffers
    ∷ refusing 1 three 1 two 0 0 53 6
    ∷ refusing 1 four 1 four 9 9 53 16
    -- short buffers
    ∷ refusing 2 Y 2 Z 16 3 56 0
    ∷ refusing 2 Y 2 Z 17 3 56 1
    ∷ []

-- what the definition says of them
abbrev pub asked : Two → Merged
asked t = merging t.symbols t.first t.second_symbols t.second (replicate t.table_room 7) (replicate t.marks_room 7)

-- the definition gives every line
pub merging_examples : map asked mergings ≡ map (λ (t : Two). t.due) mergings
unfolding computing tabulated pair_entry merged_type type_verdict merging_verdict merging
merging_examples = refl
