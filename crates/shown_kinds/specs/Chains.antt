-- Rows of a list as a mask shows them: their chains, and the first of those that look the same.
use Rattle.std.specs.Prelude.{◌≡◌, Bool, List, [], ◌∷◌, ◌++◌, ℕ, zero, suc, ◌+◌, ◌*◌, ◌%◌, ◌<◌, ◌≤◌, eqb, length, get_or, set, take}
use Rattle.foundation.specs.Tests.{choose, some_below}
use Rattle.kind_slots.specs.Stored.{padded_kind, same_words}
use Rattle.row_marks.specs.Marks.{shown}

-- how many fronts of chains there are; behind them come the entries behind rows
abbrev pub front_count : ℕ
front_count = 4096

-- the remainder that decides the chain: those of the five words, each times a number of its own, added
unfoldable pub remainder_of : List ℕ → ℕ
remainder_of seen =
    (get_or seen 0 0 % 4093
    + get_or seen 1 0 % 4093 * 1328
    + get_or seen 2 0 % 4093 * 3884
    + get_or seen 3 0 % 4093 * 619
    + get_or seen 4 0 % 4093 * 1619)
    % 4093

module _ (words mask : List ℕ) where
  -- what the mask shows of row k
  abbrev pub shown_at : ℕ → List ℕ
  shown_at k = shown mask (padded_kind words k)

  -- row k looks so
  abbrev pub looks_so : (seen : List ℕ) → ℕ → Bool
  looks_so seen k = same_words (shown_at k) seen

  -- one of the first n rows looks so
  abbrev pub some_looks_so : ℕ → (seen : List ℕ) → Bool
  some_looks_so n seen = some_below n (looks_so seen)

  abbrev pub remainder_at : ℕ → ℕ
  remainder_at k = remainder_of (shown_at k)

  -- 1 and the latest of the first n rows that leaves this remainder, or 0 where none does
  unfoldable pub latest : (remainder : ℕ) → ℕ → ℕ
  latest remainder zero = zero
  latest remainder (suc k) = choose (eqb (remainder_at k) remainder) (suc k) (latest remainder k)

  -- behind each of the first n rows stands the one before it in its chain
  abbrev pub Behind : ℕ → (chains : List ℕ) → Type 0
  Behind n chains = (k : ℕ) → k < n → get_or chains (front_count + k) 0 ≡ latest (remainder_at k) k

  -- the first n rows are in chains
  pub record Chained (n : ℕ) (chains : List ℕ) : Type 0 where
    pub fronts : (remainder : ℕ) → remainder < front_count → get_or chains remainder 0 ≡ latest remainder n
    pub behind : Behind n chains

  -- an entry of a chain: none, or 1 and a row that leaves this remainder
  abbrev pub EntryOf : (remainder entry : ℕ) → Type 0
  EntryOf remainder entry = (k : ℕ) → entry ≡ suc k → remainder_at k ≡ remainder

  -- of the first n rows those that look like no earlier one
  unfoldable pub first_rows : ℕ → List ℕ
  first_rows zero = []
  first_rows (suc k) = choose (some_looks_so k (shown_at k)) (first_rows k) (first_rows k ++ (k ∷ []))

  -- n rows put in chains, with the first of those that look the same in front of a buffer
  pub record PutInChains (n : ℕ) (chains firsts : List ℕ) (found : ℕ) : Type 0 where
    pub long : length chains ≡ 2 * front_count
    pub firsts_long : length firsts ≡ 4096
    pub chained : Chained n chains
    pub first_ones : take found firsts ≡ first_rows n
    pub few : found ≤ n

-- the first n chains have no row
pub record NoRows (n : ℕ) (chains : List ℕ) : Type 0 where
  pub long : length chains ≡ 2 * front_count
  pub none : (remainder : ℕ) → remainder < n → get_or chains remainder 0 ≡ 0

-- row k put in front of a chain
abbrev pub in_front : (chains : List ℕ) (remainder k : ℕ) → List ℕ
in_front chains remainder k = set (set chains (front_count + k) (get_or chains remainder 0)) remainder (suc k)
