-- What a node uses, directly or below, computed from a table of what the nodes below it use.
use Rattle.std.specs.Prelude.{◌≡◌, Bool, false, ◌&&◌, ◌||◌, not, List, ℕ, ◌<◌, max, eqb, get_or}
use Rattle.foundation.specs.Tests.{choose}
use Rattle.model.specs.Tables.{Node}
use Rattle.model.specs.Expressions.{Expression, stays, moves, expression, greatest_parameter, holds_call_to}
use Rattle.model.specs.Admission.{references}
use Rattle.admission_expressions.specs.declared.uses.Uses.{Uses}

-- the greatest parameter of an expression, and which calls it holds
abbrev pub uses_in : Expression → Uses
uses_in e = record { greatest = greatest_parameter e; stays = holds_call_to stays e; moves = holds_call_to moves e }

-- nothing is used
abbrev pub no_uses : Uses
no_uses = record { greatest = 0; stays = false; moves = false }

abbrev pub joined : Uses → Uses → Uses
joined a b = record { greatest = max a.greatest b.greatest; stays = a.stays || b.stays; moves = a.moves || b.moves }

-- what a node uses itself: a parameter its name, a call its child, of which 0 is the node
abbrev pub own_uses : Node → Uses
own_uses n =
    record {
      greatest = choose (eqb n.tag 0) n.name 0;
      stays = eqb n.tag 2 && eqb n.child 0;
      moves = eqb n.tag 2 && not (eqb n.child 0);
    }

-- what the nodes use to which it refers
abbrev pub uses_below : (counts : List ℕ) (smaller : List Uses) → Node → Uses
uses_below counts smaller n =
    choose (eqb (references counts n) 0) no_uses
    (choose (eqb (references counts n) 1) (get_or smaller n.first no_uses)
    (joined (get_or smaller n.first no_uses) (get_or smaller n.second no_uses)))

-- both together
abbrev pub uses_over : (counts : List ℕ) (smaller : List Uses) → Node → Uses
uses_over counts smaller n = joined (own_uses n) (uses_below counts smaller n)

-- a rule's calls are wrong, by what its node uses
abbrev pub calls_wrong_by : (S symbol : ℕ) → Uses → Bool
calls_wrong_by S symbol uses = choose (eqb symbol 0) (uses.stays || uses.moves) (choose (eqb symbol S) uses.moves uses.stays)

-- entry j of a table, for every node below k, is what node j uses
abbrev pub UsesKnown : (counts nodes : List ℕ) → ℕ → List Uses → Type 0
UsesKnown counts nodes k table = (j : ℕ) → j < k → get_or table j no_uses ≡ uses_in (expression counts nodes j)
