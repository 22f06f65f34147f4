-- What a list that is examined holds, and what is told of it.
use Rattle.std.specs.Prelude.{List, ℕ, Bool, Result}
use Rattle.model.specs.Tables.{Contract}
use Rattle.model.specs.Examining.{sent_count}
use Rattle.prepared.specs.Contract.{contract_of}
use Rattle.closure.specs.declared.sent.SentKinds.{SentKinds}
use Rattle.closure.specs.declared.Open.{Open}
use Rattle.closure.specs.Held.{held_over, NumbersOf, LeftTold, PairsTold, SymbolTold}

module _ (sent : SentKinds) where
  -- the contract that the list is for, and how many kinds it has
  abbrev pub contract_for : Contract
  contract_for = contract_of sent.masked.now.prepared

  abbrev pub sent_kinds : ℕ
  sent_kinds = sent_count sent.words.now

  -- it holds the kind of symbol s over kinds i and j
  abbrev pub held : (s i j : ℕ) → Bool
  held = held_over contract_for sent.words.now

  -- numbers of its kinds
  abbrev pub Numbers : (rows : List ℕ) → Type 0
  Numbers = NumbersOf contract_for sent.words.now

  -- what is told of a symbol over a left kind and these right kinds, over these kinds, over all kinds
  abbrev pub TellsLeft : (s i : ℕ) (rights : List ℕ) → Result Unit Open → Type 0
  TellsLeft = LeftTold contract_for sent.words.now

  abbrev pub TellsPairs : (s : ℕ) (lefts rights : List ℕ) → Result Unit Open → Type 0
  TellsPairs = PairsTold contract_for sent.words.now

  abbrev pub TellsSymbol : (s : ℕ) → Result Unit Open → Type 0
  TellsSymbol = SymbolTold contract_for sent.words.now
