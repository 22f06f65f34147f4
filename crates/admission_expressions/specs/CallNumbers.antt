-- What a node uses, directly or below, as two numbers: the greatest parameter, and the calls as 0 to 3. `Uses` has both, and the calls as two
-- tests, in one value.
use Rattle.std.specs.Prelude.{◌≡◌, Bool, not, List, ℕ, ◌+◌, ◌*◌, ◌<◌, max, eqb, get_or}
use Rattle.std.specs.Int.Bits.{bit_and, bit_or}
use Rattle.foundation.specs.Tests.{choose}
use Rattle.foundation.specs.Words.{one_if}
use Rattle.model.specs.Tables.{Node}
use Rattle.model.specs.Expressions.{Expression, stays, moves, expression, greatest_parameter, holds_call_to}
use Rattle.model.specs.Admission.{references}

-- the greatest parameter: its own, or the greatest of those it refers to
abbrev pub greatest_over : (counts : List ℕ) (smaller : List ℕ) → Node → ℕ
greatest_over counts smaller n =
    choose (eqb n.tag 0) n.name
    (choose (eqb (references counts n) 0) 0
    (choose (eqb (references counts n) 1) (get_or smaller n.first 0) (max (get_or smaller n.first 0) (get_or smaller n.second 0))))

-- a call that stays at the node, and one that goes to a child
abbrev pub staying : ℕ
staying = 1

abbrev pub moving : ℕ
moving = 2

-- calls as a number: the sum of both, one of them, or 0
abbrev pub calls_as : (stay move : Bool) → ℕ
calls_as stay move = one_if stay * staying + one_if move * moving

-- the calls that an expression holds, directly or below
abbrev pub calls_in : Expression → ℕ
calls_in e = calls_as (holds_call_to stays e) (holds_call_to moves e)

-- a call, by its child: 0 is the node itself
abbrev pub call_to : (child : ℕ) → ℕ
call_to child = choose (eqb child 0) staying moving

-- the calls of the nodes to which it refers
abbrev pub calls_below : (counts : List ℕ) (smaller : List ℕ) → Node → ℕ
calls_below counts smaller n =
    choose (eqb (references counts n) 0) 0
    (choose (eqb (references counts n) 1) (get_or smaller n.first 0) (bit_or (get_or smaller n.first 0) (get_or smaller n.second 0)))

-- those and, if it is a call, its own
abbrev pub calls_over : (counts : List ℕ) (smaller : List ℕ) → Node → ℕ
calls_over counts smaller n =
    choose (eqb n.tag 2) (bit_or (call_to n.child) (calls_below counts smaller n)) (calls_below counts smaller n)

-- a rule's calls are wrong, by those that its node holds
abbrev pub calls_wrong_by : (S symbol calls : ℕ) → Bool
calls_wrong_by S symbol calls =
    choose (eqb symbol 0) (not (eqb calls 0))
    (choose (eqb symbol S) (not (eqb (bit_and calls moving) 0)) (not (eqb (bit_and calls staying) 0)))

-- entry j of a table, for every node below k, is the greatest parameter that node j uses
abbrev pub GreatestKnown : (counts nodes : List ℕ) → ℕ → List ℕ → Type 0
GreatestKnown counts nodes k table = (j : ℕ) → j < k → get_or table j 0 ≡ greatest_parameter (expression counts nodes j)

-- and the calls that node j holds
abbrev pub CallsKnown : (counts nodes : List ℕ) → ℕ → List ℕ → Type 0
CallsKnown counts nodes k table = (j : ℕ) → j < k → get_or table j 0 ≡ calls_in (expression counts nodes j)
