-- Turns: a turn of a script is one unfolding of what the definition prints from a place on.
use Rattle.std.specs.Prelude.{◌≡◌, Bool, List, [], ◌++◌, ℕ, suc, length, Option, Some, None}
use Rattle.script.specs.Meaning.{State, played}
use Rattle.script.specs.declared.spans.Span.{Span}
use Rattle.playing.specs.declared.turns.Turn.{Turn}
use Rattle.playing.specs.Desks.{label_of, state_of, LabelFits, InOrder}
use Rattle.playing.specs.Printed.{printed_text, PrintedFits}

-- what is printed from a place on, if there is one
abbrev pub from_next : (ℕ → List ℕ) → Option ℕ → List ℕ
from_next printed (Some at) = printed at
from_next printed None = []

-- what is printed from a place on is what the turn prints and, where the script goes on, what is printed from the next place
-- on, by the state that the turn leaves
pub record Turns (text : List ℕ) (cut : Bool) (at : ℕ) (label : Option Span) (before : State) (t : Turn) (numbers rows words out : List ℕ) : Type 0 where
  pub plays : (n : ℕ) → played text cut (suc n) before at
      ≡ printed_text (label_of text label) out t.done.printed
      ++ from_next (played text cut n (state_of (label_of text t.done.label) t.done.desk numbers rows words)) t.next
  pub order : InOrder t.done.desk
  pub labelled : LabelFits t.done.label (length text)
  pub fits : PrintedFits t.done.printed (length out)

-- what the turns of a script print one after another, from a state and a place on: at most so many, up to one that stops
pub data Run (text : List ℕ) (cut : Bool) : ℕ → State → ℕ → List ℕ → Type 0 where
  spent : (state : State) (at : ℕ) → Run text cut 0 state at []
  stops : (n at : ℕ) (label : Option Span) (state : State) (t : Turn) (numbers rows words out : List ℕ) → Turns text cut at label state t numbers rows words out
      → t.next ≡ None → Run text cut (suc n) state at (printed_text (label_of text label) out t.done.printed)
  goes : (n at next : ℕ) (label : Option Span) (state : State) (t : Turn) (numbers rows words out rest : List ℕ)
      → Turns text cut at label state t numbers rows words out → t.next ≡ Some next
      → Run text cut n (state_of (label_of text t.done.label) t.done.desk numbers rows words) next rest
      → Run text cut (suc n) state at (printed_text (label_of text label) out t.done.printed ++ rest)
