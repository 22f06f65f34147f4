-- How offers end: the buffers hold a list of which no row breaks the contract, or one whose last row does, or the list has more
-- rows than there is room for; and how the list ends.
use Rattle.std.specs.Prelude.{◌≡◌, true, List, ℕ, suc, ◌*◌, ◌≤◌, ◌<◌, length, Result, Ok, Err}
use Rattle.model.specs.Tables.{Contract}
use Rattle.model.specs.Kinds.{breaks}
use Rattle.model.specs.Rounds.{kind_automaton, ListedKind, kind_at, rounds}
use Rattle.model.specs.Meaning.{NoneBreaks, LastHeld}
use Rattle.model.proofs.Rounds.Growth.{Beginning}
use Rattle.model.proofs.Rounds.Listing.{Ended}
use Rattle.kind_slots.specs.Slots.{Entered}
use Rattle.kind_lists.specs.Held.{Holds}
use Rattle.kind_lists.specs.declared.Stop.{Stop}
use Rattle.kind_lists.specs.declared.Stop.TheVariants as stop
use Rattle.kind_lists.specs.declared.ListStop.{ListStop}
use Rattle.kind_lists.specs.declared.ListStop.TheVariants as list-stop

-- why the list ends where offers stop so; all trees up to the height have their kinds in it
abbrev pub stop_after : ℕ → Stop → ListStop
stop_after height (stop.Breaks j) = list-stop.Breaks j
stop_after height stop.Full = list-stop.Full height

-- how the list ends where offers end so and none is made after them; all trees up to the height have their kinds in it
abbrev pub ending_of : ℕ → Result ℕ Stop → Result ℕ ListStop
ending_of height (Ok n) = Ok n
ending_of height (Err why) = Err (stop_after height why)

module _ (C : Contract) where
  -- the buffers hold a list of n rows, the slots are its slots, and no row breaks the contract
  pub record Unbroken (limit n : ℕ) (slots rows words : List ℕ) (list : List (ListedKind C)) : Type 0 where
    pub counted : n ≡ length list
    pub entered : Entered words n slots
    pub holds : Holds C limit rows words list
    pub none : NoneBreaks C n list

  -- the last row is the first that breaks the contract
  pub record Broken (limit j : ℕ) (rows words : List ℕ) : Type 0 where
    pub list : List (ListedKind C)
    pub beginning : Beginning (kind_automaton C) list
    pub last : length list ≡ suc j
    pub holds : Holds C limit rows words list
    pub broken : breaks C (kind_at C list j) ≡ true
    pub none : NoneBreaks C j list

  -- a round lists more kinds than there are rows, and no row breaks the contract
  pub record Overfull (limit round : ℕ) (rows words : List ℕ) : Type 0 where
    pub over : limit < length (rounds (kind_automaton C) round)
    pub none : NoneBreaks C limit (rounds (kind_automaton C) round)
    pub few : limit ≤ 512
    pub row_room : length rows ≡ 3 * limit
    pub word_room : length words ≡ 5 * limit

  -- a stretch of offers in a round stops: the answer is known
  abbrev pub Stops : (limit round : ℕ) (rows words : List ℕ) → Stop → Type 0
  Stops limit round rows words (stop.Breaks j) = Broken limit j rows words
  Stops limit round rows words stop.Full = Overfull limit round rows words

  -- the end of a stretch of offers in a round: there is more to do with the list of n rows, or the answer is known
  abbrev pub Outcome : (ℕ → Type 0) → (limit round : ℕ) (rows words : List ℕ) → Result ℕ Stop → Type 0
  Outcome Going limit round rows words (Ok n) = Going n
  Outcome Going limit round rows words (Err why) = Stops limit round rows words why

  pub outcome_map : {G G' : ℕ → Type 0} → ((n : ℕ) → G n → G' n) → (limit round : ℕ) (rows words : List ℕ) (p : Result ℕ Stop)
      → Outcome G limit round rows words p → Outcome G' limit round rows words p
  outcome_map f limit round rows words (Ok n) o = f n o
  outcome_map f limit round rows words (Err why) o = o

  -- the list has ended, and no row breaks the contract
  pub record Passed (limit n : ℕ) (rows words : List ℕ) : Type 0 where
    pub height : ℕ
    pub counted : n ≡ length (rounds (kind_automaton C) height)
    pub ended : Ended (kind_automaton C) height
    pub holds : Holds C limit rows words (rounds (kind_automaton C) height)
    pub none : NoneBreaks C n (rounds (kind_automaton C) height)

  -- round h is the last whose rows there is room for, and no row breaks the contract
  pub record Stopped (limit h : ℕ) (rows words : List ℕ) : Type 0 where
    pub last : LastHeld C limit h
    pub overfull : Overfull limit (suc h) rows words

  -- the list ends before all kinds are listed
  abbrev pub ListStops : (limit : ℕ) (rows words : List ℕ) → ListStop → Type 0
  ListStops limit rows words (list-stop.Breaks j) = Broken limit j rows words
  ListStops limit rows words (list-stop.Full h) = Stopped limit h rows words

  -- the end of the list
  abbrev pub EndOfList : (limit : ℕ) (rows words : List ℕ) → Result ℕ ListStop → Type 0
  EndOfList limit rows words (Ok n) = Passed limit n rows words
  EndOfList limit rows words (Err why) = ListStops limit rows words why
