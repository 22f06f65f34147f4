-- What a list of kinds holds: the kind of a symbol over two of its kinds, and what is told of all of these.
use Rattle.std.specs.Prelude.{◌≡◌, Bool, true, false, not, List, ℕ, ◌+◌, ◌*◌, ◌<◌, ◌≤◌, length, get_or, Result, Ok, Err}
use Rattle.model.specs.Tables.{Contract}
use Rattle.model.specs.Answers.{Verdict, fine, refused}
use Rattle.model.specs.Kinds.{next_kind}
use Rattle.model.specs.Examining.{most_kinds, sent_count, five_words, holds}
use Rattle.closure.specs.declared.Open.{Open}
use Rattle.foundation.specs.Search.{first}

module _ (C : Contract) (words : List ℕ) where
  -- the list holds the kind of symbol s over kinds i and j
  abbrev pub held_over : (s i j : ℕ) → Bool
  held_over s i j = holds C words (next_kind C s (five_words words i) (five_words words j))

  -- of these right kinds, the place of the first over which it does not, or how many they are
  abbrev pub first_open : (s i : ℕ) (rights : List ℕ) → ℕ
  first_open s i rights = first (λ k. not (held_over s i (get_or rights k 0))) (length rights)

  -- numbers of kinds in the list, at most as many as it has
  pub record NumbersOf (rows : List ℕ) : Type 0 where
    pub few : length rows ≤ sent_count words
    pub inside : (k : ℕ) → k < length rows → get_or rows k 0 < sent_count words

  abbrev pub Numbers : (rows : List ℕ) → Type 0
  Numbers = NumbersOf

  -- a symbol over a left kind and these right kinds: closed, or the first of them whose kind is not held
  abbrev pub HeldRight : (s i : ℕ) (rights : List ℕ) (n : ℕ) → Type 0
  HeldRight s i rights n = (m : ℕ) → m < n → held_over s i (get_or rights m 0) ≡ true

  pub record OpenRight (s i : ℕ) (rights : List ℕ) (j : ℕ) : Type 0 where
    pub place : ℕ
    pub inside : place < length rights
    pub is_right : j ≡ get_or rights place 0
    pub missing : held_over s i j ≡ false
    pub earlier : HeldRight s i rights place

  abbrev pub LeftTold : (s i : ℕ) (rights : List ℕ) → Result Unit Open → Type 0
  LeftTold s i rights (Ok _) = HeldRight s i rights (length rights)
  LeftTold s i rights (Err pair) = (pair.symbol.0 ≡ s) × (pair.left.0 ≡ i) × OpenRight s i rights pair.right.0

  -- a symbol over these kinds: closed, or the first of them whose kind is not held
  abbrev pub AllHeld : (s : ℕ) (lefts rights : List ℕ) → Type 0
  AllHeld s lefts rights = (k m : ℕ) → k < length lefts → m < length rights → held_over s (get_or lefts k 0) (get_or rights m 0) ≡ true

  pub record OpenAt (s : ℕ) (lefts rights : List ℕ) (i j : ℕ) : Type 0 where
    pub left_place : ℕ
    pub right_place : ℕ
    pub left_inside : left_place < length lefts
    pub right_inside : right_place < length rights
    pub is_left : i ≡ get_or lefts left_place 0
    pub is_right : j ≡ get_or rights right_place 0
    pub missing : held_over s i j ≡ false
    pub earlier_left : (k m : ℕ) → k < left_place → m < length rights → held_over s (get_or lefts k 0) (get_or rights m 0) ≡ true
    pub earlier_right : (m : ℕ) → m < right_place → held_over s i (get_or rights m 0) ≡ true

  abbrev pub PairsTold : (s : ℕ) (lefts rights : List ℕ) → Result Unit Open → Type 0
  PairsTold s lefts rights (Ok _) = AllHeld s lefts rights
  PairsTold s lefts rights (Err pair) = (pair.symbol.0 ≡ s) × OpenAt s lefts rights pair.left.0 pair.right.0

  abbrev pub TellsPairs : (s : ℕ) (lefts rights : List ℕ) → Result Unit Open → Type 0
  TellsPairs = PairsTold

  -- a symbol over all kinds of the list: closed, or the first two whose kind is not held
  pub record FirstOpen (s i j : ℕ) : Type 0 where
    pub left_inside : i < sent_count words
    pub right_inside : j < sent_count words
    pub missing : held_over s i j ≡ false
    pub earlier_left : (k m : ℕ) → k < i → m < sent_count words → held_over s k m ≡ true
    pub earlier_right : (m : ℕ) → m < j → held_over s i m ≡ true

  abbrev pub SymbolTold : (s : ℕ) → Result Unit Open → Type 0
  SymbolTold s (Ok _) = (i j : ℕ) → i < sent_count words → j < sent_count words → held_over s i j ≡ true
  SymbolTold s (Err pair) = (pair.symbol.0 ≡ s) × FirstOpen s pair.left.0 pair.right.0

  abbrev pub TellsSymbol : (s : ℕ) → Result Unit Open → Type 0
  TellsSymbol = SymbolTold

-- the two kinds that are told are of the list
abbrev pub ToldInside : (count : ℕ) → Result Unit Open → Type 0
ToldInside count (Ok _) = Unit {0}
ToldInside count (Err pair) = (pair.left.0 < count) × (pair.right.0 < count)

-- "72 not closed (place (symbol × 4,096 + left) × 4,096 + right of the first in listing order)"
abbrev pub open_verdict : Open → Verdict
open_verdict pair = refused 72 ((pair.symbol.0 * most_kinds + pair.left.0) * most_kinds + pair.right.0)

abbrev pub closure_verdict : Result Unit Open → Verdict
closure_verdict (Ok _) = fine
closure_verdict (Err pair) = open_verdict pair
