-- Where the rounds and their loops stand, under another name of a number.
use mathlib.Core.Path.{◌≡◌, subst, refl, sym, ◌∙◌}
use mathlib.Core.List.{List}
use Prim.Native.Nat.{ℕ, ◌<◌, ◌≤◌}
use Rattle.model.specs.Tables.{Contract}
use Rattle.round_pairs.specs.Steps.{At}
use Rattle.round_pairs.specs.declared.Round.{Round}
use Rattle.rounds.specs.Between.{Between}
use mathlib.Core.Bool.{Bool, true, false, ◌&&◌}
use native.Mathlib.Omega.{arith}
use borrow.Author.Tests.{ltb-true}
use lib.Dec.{ltb}
use lib.ListN.{length}
use Rattle.model.specs.Rounds.{kind_automaton, rounds}
use Rattle.model.proofs.Rounds.Growth.{rounds_not_empty}
use Rattle.kind_lists.specs.Listing.{Room}
use Rattle.kind_lists.specs.Outcomes.{EndOfList}
use Rattle.round_pairs.proofs.Visits.{room_of}
use Rattle.std.specs.Prelude.{Result}
use Rattle.kind_lists.specs.declared.ListStop.{ListStop}

-- the height under another name
pub at_height : {C : Contract} {limit height before stood : ℕ} {slots rows words : List ℕ} (k : ℕ) → height ≡ k
    → Between C limit height before stood slots rows words → Between C limit k before stood slots rows words
at_height {C} {limit} {before = before} {stood = stood} {slots = slots} {rows = rows} {words = words} k e b =
    subst (λ (h : ℕ). Between C limit h before stood slots rows words) e b

-- the loops stand before the same symbol under another name
pub at_symbol : {C : Contract} {r : Round} {s i j n : ℕ} {slots rows words : List ℕ} (k : ℕ) → s ≡ k
    → At C r s i j n slots rows words → At C r k i j n slots rows words
at_symbol {C} {r} {i = i} {j = j} {n = n} {slots = slots} {rows = rows} {words = words} k e at =
    subst (λ (x : ℕ). At C r x i j n slots rows words) e at

pub between_room : {C : Contract} {limit height before stood : ℕ} {slots rows words : List ℕ} → Between C limit height before stood slots rows words
    → Room limit stood rows words
between_room {C} {height = height} b = room_of (rounds (kind_automaton C) height) b.list

pub between_held : {C : Contract} {limit height before stood : ℕ} {slots rows words : List ℕ} → Between C limit height before stood slots rows words
    → length (rounds (kind_automaton C) height) ≤ limit
between_held b = b.list.holds.fits

pub between_some : {C : Contract} {limit height before stood : ℕ} {slots rows words : List ℕ} → Between C limit height before stood slots rows words
    → 0 < stood
between_some {C} {height = height} b = omega (arith, b.standing.counted, rounds_not_empty (kind_automaton C) height)

-- the end of the list under another name
pub list_ends_as : (C : Contract) (limit : ℕ) (rows words : List ℕ) {e f : Result ℕ ListStop} → f ≡ e → EndOfList C limit rows words e → EndOfList C limit rows words f
list_ends_as C limit rows words same c = subst (λ (x : Result ℕ ListStop). EndOfList C limit rows words x) (sym same) c

-- a number below another, where that is the first of two tests
pub first_below : (a b : ℕ) (u : Bool) → (ltb a b && u) ≡ true → a < b
first_below a b u e = go (ltb a b) refl e
  where
    go : (t : Bool) → ltb a b ≡ t → (t && u) ≡ true → a < b
    go true q e = ltb-true a b q
    go false q e = ltb-true a b (q ∙ e)
