-- Rounds: the states that a bottom-up tree automaton reaches, listed in rounds. Kinds are such states.
use Rattle.std.specs.Prelude.{List, [], ◌∷◌, ◌++◌, Bool, true, false, ℕ, zero, suc, ◌+◌, ◌*◌, ◌-◌, ◌/◌, ◌%◌, eqb, length, get_or}
use Rattle.foundation.specs.Tests.{◌or◌}
use Rattle.foundation.specs.Lists.{same_list}
use Rattle.model.specs.Tables.{Contract}
use Rattle.model.specs.Kinds.{empty_kind, next_kind}

-- a total, deterministic bottom-up tree automaton over the symbols below `symbols`, whose states can be told apart
pub record TreeAutomaton : Type 1 where
  pub State : Type 0
  pub initial : State
  pub next : ℕ → State → State → State
  pub equal : State → State → Bool
  pub symbols : ℕ

module _ (A : TreeAutomaton) where
  -- a row of the list: a symbol over two rows, and its state
  pub record Listed : Type 0 where
    pub symbol : ℕ
    pub left : ℕ
    pub right : ℕ
    pub state : A.State

  -- "Round 0 lists the kind of the empty forest, row (0, 0, 0)."
  abbrev pub empty_row : Listed
  empty_row = record { symbol = 0; left = 0; right = 0; state = A.initial }

  abbrev pub state_at : List Listed → ℕ → A.State
  state_at rows i = (get_or rows i empty_row).state

  unfoldable pub lists : List Listed → A.State → Bool
  lists [] q = false
  lists (row ∷ rows) q = A.equal q row.state or lists rows q

  -- "a kind not yet listed is added with row (symbol, left, right)"
  unfoldable pub added : List Listed → Listed → List Listed
  added rows row = elim (lists rows row.state) [ true ↦ rows | false ↦ rows ++ (row ∷ []) ]

  -- combination c of a round over n rows: "symbols 1 to S − 1, left rows, right rows, ascending in that order, over the
  -- rows that stood before the round"
  abbrev pub combination : List Listed → ℕ → ℕ → Listed
  combination rows n c =
      record {
        symbol = 1 + c / (n * n);
        left = c / n % n;
        right = c % n;
        state = A.next (1 + c / (n * n)) (state_at rows (c / n % n)) (state_at rows (c % n));
      }

  -- the list in the middle of a round, before combination c
  unfoldable pub round_to : List Listed → ℕ → List Listed
  round_to rows zero = rows
  round_to rows (suc c) = added (round_to rows c) (combination rows (length rows) c)

  abbrev pub combinations : List Listed → ℕ
  combinations rows = (A.symbols - 1) * (length rows * length rows)

  -- the list after one round more
  unfoldable pub round : List Listed → List Listed
  round rows = round_to rows (combinations rows)

  -- the list after rounds 0 to h
  unfoldable pub rounds : ℕ → List Listed
  rounds zero = empty_row ∷ []
  rounds (suc h) = round (rounds h)

  -- "A round that adds nothing ends the list.": at most h rounds more
  unfoldable pub listing_from : ℕ → List Listed → List Listed
  listing_from zero rows = rows
  listing_from (suc h) rows =
      let more : List Listed = round rows in
      elim (eqb (length more) (length rows)) [ true ↦ rows | false ↦ listing_from h more ]

  -- the list after rounds 0 to h, or as far as it goes
  unfoldable pub listing : ℕ → List Listed
  listing h = listing_from h (empty_row ∷ [])

-- the automaton whose states are a contract's kinds
abbrev pub kind_automaton : Contract → TreeAutomaton
kind_automaton C = record { State = List ℕ; initial = empty_kind C; next = next_kind C; equal = same_list; symbols = C.transformation.symbols }

abbrev pub ListedKind : Contract → Type 0
ListedKind C = Listed (kind_automaton C)

abbrev pub kind_at : (C : Contract) → List (ListedKind C) → ℕ → List ℕ
kind_at C rows j = state_at (kind_automaton C) rows j
