-- The list of kinds in the lent buffers, with its slots beside it: what becomes of a kind that is offered to it.
use Rattle.std.specs.Prelude.{List, ◌≡◌, ℕ, ◌+◌, ◌*◌, ◌≤◌, eqb, length, set, Result, Ok, Err, take}
use Rattle.foundation.specs.Tests.{choose}
use Rattle.kind_slots.specs.Stored.{kind_listed, with_kind}
use Rattle.kind_slots.specs.Slots.{slot_of, entry_of}
use Rattle.breaking.specs.Verdicts.{breaking}
use Rattle.breaking.specs.declared.Verdicts.{Verdicts}
use Rattle.kind_lists.specs.declared.Stop.{Stop}
use Rattle.kind_lists.specs.declared.Stop.TheVariants as stop
use Rattle.foundation.specs.Lists.{zero_filled}

-- row j of the rows replaced
abbrev pub with_row : List ℕ → (j symbol left right : ℕ) → List ℕ
with_row rows j symbol left right = set (set (set rows (3 * j) symbol) (3 * j + 1) left) (3 * j + 2) right

-- n numbers that stand, and zeros
abbrev pub cleared_from : List ℕ → ℕ → List ℕ
cleared_from l n = zero_filled (length l) (take n l)

-- buffers for `limit` rows, of which n are in use
pub record Room (limit n : ℕ) (rows words : List ℕ) : Type 0 where
  pub few : limit ≤ 512
  pub used : n ≤ limit
  pub row_room : length rows ≡ 3 * limit
  pub word_room : length words ≡ 5 * limit

pub record Offering : Type 0 where
  pub answer : Result ℕ Stop
  pub slots : List ℕ
  pub rows : List ℕ
  pub words : List ℕ

-- an answer, slots and buffers are as told
pub record Becomes (told : Offering) (r : Result ℕ Stop) (slots_after rows_after words_after : List ℕ) : Type 0 where
  pub answer : r ≡ told.answer
  pub slots : slots_after ≡ told.slots
  pub rows : rows_after ≡ told.rows
  pub words : words_after ≡ told.words

-- a kind with its row is offered to a list of n rows: a new one is stored, and its row is entered where the search for it ended
unfoldable pub offering : (v : Verdicts) (limit n symbol left right : ℕ) → (kind slots rows words : List ℕ) → Offering
offering v limit n symbol left right kind slots rows words =
    choose (kind_listed words n kind) (record { answer = Ok n; slots = slots; rows = rows; words = words })
    (choose (eqb n limit) (record { answer = Err stop.Full; slots = slots; rows = rows; words = words })
    (record {
      answer = choose (breaking v.accepted v.refused kind) (Err (stop.Breaks n)) (Ok (n + 1));
      slots = set slots (slot_of words slots kind) (entry_of kind n);
      rows = with_row rows n symbol left right;
      words = with_kind words n kind;
    }))
