-- What is known of a document and of the places where its trees end.
use Rattle.std.specs.Prelude.{List, ℕ, ◌<◌, ◌≤◌, length, get_or}
use Rattle.model.proofs.Laws.Documents.{Readable}
use Rattle.reading.specs.Ends.{EndsFrom}

-- the numbers are a document over at most 16 symbols
pub record ReadDocument (numbers : List ℕ) : Type 0 where
  pub some : 1 ≤ length numbers
  pub few : length numbers ≤ 1023
  pub symbol : (place : ℕ) → place < length numbers → get_or numbers place 0 < 16
  pub readable : Readable numbers

-- and the table has the places where its trees end
pub record Children (numbers table : List ℕ) : Type 0 where
  pub read : ReadDocument numbers
  pub end : EndsFrom 0 numbers table
