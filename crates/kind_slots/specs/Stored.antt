-- Kinds as they stand in the words of a list, five to a row: where one stands, and what becomes of the words when one is stored.
use Rattle.std.specs.Prelude.{ℕ, ◌+◌, ◌*◌, Bool, ◌&&◌, List, [], ◌∷◌, set, ◌==◌, nat_lt, slice_index, slice_set}
use Rattle.foundation.specs.Search.{first}

-- row j of the words
abbrev pub kind_in : List ℕ → ℕ → List ℕ
kind_in words j =
    slice_index words (5 * j) ∷ slice_index words (5 * j + 1) ∷ slice_index words (5 * j + 2) ∷ slice_index words (5 * j + 3) ∷ slice_index words (5 * j + 4) ∷ []

-- .. and with a sixth word 0, as code hands kinds on
abbrev pub padded_kind : List ℕ → ℕ → List ℕ
padded_kind words j =
    slice_index words (5 * j) ∷ slice_index words (5 * j + 1) ∷ slice_index words (5 * j + 2) ∷ slice_index words (5 * j + 3) ∷ slice_index words (5 * j + 4) ∷ 0 ∷ []

-- two kinds are the same
unfoldable pub same_words : List ℕ → List ℕ → Bool
same_words a b =
    (((slice_index a 0 == slice_index b 0 && slice_index a 1 == slice_index b 1) && slice_index a 2 == slice_index b 2) && slice_index a 3 == slice_index b 3)
    && slice_index a 4 == slice_index b 4

-- row j of the words is this kind
abbrev pub same_kind : List ℕ → ℕ → List ℕ → Bool
same_kind words j kind = same_words (padded_kind words j) kind

-- a search of the list: the first of n rows that is this kind, or n
unfoldable pub kind_place : List ℕ → ℕ → List ℕ → ℕ
kind_place words n kind = first (λ j. same_kind words j kind) n

-- a kind is listed; "a kind not yet listed" is the other case
abbrev pub kind_listed : List ℕ → ℕ → List ℕ → Bool
kind_listed words n kind = nat_lt (kind_place words n kind) n

-- row j of the words replaced
abbrev pub with_kind : List ℕ → ℕ → List ℕ → List ℕ
with_kind words j kind =
    set (slice_set (slice_set (slice_set (slice_set words (5 * j) (slice_index kind 0)) (5 * j + 1) (slice_index kind 1)) (5 * j + 2) (slice_index kind 2)) (5 * j + 3) (slice_index kind 3)) (5 * j + 4)
    (slice_index kind 4)
