-- Output states, at least one, and parameter counts that are small enough for the numbers of facts to be computed.
use Rattle.std.specs.Prelude.{List, ℕ, ◌≤◌, length}
use Rattle.model.specs.Tables.{count_of}

pub record SmallCounts (states : ℕ) (counts : List ℕ) : Type 0 where
  pub states≥ : 1 ≤ states
  pub states≤ : states ≤ 4
  pub procedures≤ : length counts ≤ 16
  pub count≤ : (p : ℕ) → count_of counts p ≤ 2
