-- What holds of each call in an expression, arguments included; that each stays or moves; and where the calls of an admitted contract's rules go.
use mathlib.Core.Path.{◌≡◌, refl, ap₂, ◌∙◌}
use mathlib.Core.Bool.{Bool, true, false, true≢false}
use Prim.Native.Nat.{ℕ, ◌<◌}
use Rattle.foundation.specs.Tests.{◌or◌}
use Rattle.model.specs.Tables.{Contract, Transformation, rule_at, rule_count}
use Rattle.model.specs.Expressions.{Child, left, right, here, stays, moves, Expression, parameter, nothing, symbol, call, Arguments, none, argument, holds_call, holds_call_to, some_holds_call_to}
use Rattle.model.specs.Outputs.{right_side}
use Rattle.model.proofs.Laws.Established.{Established}
use Rattle.model.proofs.Laws.Facts.{WellFormed, right_side_well_formed}

-- every call in an expression is of a child and a procedure that P holds of
module _ (P : Child → ℕ → Type 0) where
  abbrev mutual
    pub EachCall : Expression → Type 0
    EachCall (parameter i) = Unit {0}
    EachCall nothing = Unit {0}
    EachCall (symbol s e f) = EachCall e × EachCall f
    EachCall (call p c es) = P c p × EachCallOfAll es

    pub EachCallOfAll : Arguments → Type 0
    EachCallOfAll none = Unit {0}
    EachCallOfAll (argument e es) = EachCall e × EachCallOfAll es

-- a disjunction that fails, part by part
neither : (a b : Bool) → (a or b) ≡ false → (a ≡ false) × (b ≡ false)
unfolding ◌or◌
neither true b e = absurd (true≢false e)
neither false b e = (refl, e)

-- where no call goes where the test says, each goes elsewhere
module _ (test : Child → Bool) where
  mutual
    unfolding holds_call_to

    pub each_call_elsewhere : (e : Expression) → holds_call_to test e ≡ false → EachCall (λ c p. test c ≡ false) e
    each_call_elsewhere (parameter i) h = tt
    each_call_elsewhere nothing h = tt
    each_call_elsewhere (symbol s e f) h =
        let (a, b) = neither (holds_call_to test e) (holds_call_to test f) h in (each_call_elsewhere e a, each_call_elsewhere f b)
    each_call_elsewhere (call p c es) h =
        let (a, b) = neither (test c) (some_holds_call_to test es) h in (a, each_of_all_elsewhere es b)

    each_of_all_elsewhere : (es : Arguments) → some_holds_call_to test es ≡ false → EachCallOfAll (λ c p. test c ≡ false) es
    each_of_all_elsewhere none h = tt
    each_of_all_elsewhere (argument e es) h =
        let (a, b) = neither (holds_call_to test e) (some_holds_call_to test es) h in (each_call_elsewhere e a, each_of_all_elsewhere es b)

-- a call stays or moves, whatever its arguments hold
stays_or_moves : (c : Child) (a b : Bool) → true ≡ ((stays c or a) or (moves c or b))
unfolding ◌or◌
stays_or_moves left true b = refl
stays_or_moves left false b = refl
stays_or_moves right true b = refl
stays_or_moves right false b = refl
stays_or_moves here a b = refl

or_exchange : (a b c d : Bool) → ((a or b) or (c or d)) ≡ ((a or c) or (b or d))
unfolding ◌or◌
or_exchange true b c d = refl
or_exchange false true true d = refl
or_exchange false true false d = refl
or_exchange false false c d = refl

-- an expression holds a call exactly if it holds one that stays or one that moves
pub holds_call_either : (e : Expression) → holds_call e ≡ (holds_call_to stays e or holds_call_to moves e)
unfolding holds_call holds_call_to ◌or◌
holds_call_either (parameter i) = refl
holds_call_either nothing = refl
holds_call_either (symbol s e f) =
    ap₂ ◌or◌ (holds_call_either e) (holds_call_either f)
    ∙ or_exchange (holds_call_to stays e) (holds_call_to moves e) (holds_call_to stays f) (holds_call_to moves f)
holds_call_either (call p c es) = stays_or_moves c (some_holds_call_to stays es) (some_holds_call_to moves es)

-- what a transformation's rules are known to be: their calls have as many arguments as parameters, and go where those of such a
-- rule may go
pub record Ruled (M : Transformation) : Type 0 where
  pub symbols : 0 < M.symbols
  pub formed : (r : ℕ) → r < rule_count M.rules → WellFormed M.counts (right_side M r)
  pub moving : (r : ℕ) → r < rule_count M.rules → (rule_at M.rules r).symbol < M.symbols → EachCall (λ c p. stays c ≡ false) (right_side M r)
  pub staying : (r : ℕ) → r < rule_count M.rules → (rule_at M.rules r).symbol ≡ M.symbols → EachCall (λ c p. moves c ≡ false) (right_side M r)

pub ruled : (C : Contract) → Established C → Ruled C.transformation
ruled C known =
    record {
      symbols = known.symbols.least≤;
      formed = right_side_well_formed C known;
      moving = λ r l h. each_call_elsewhere stays _ ((known.rule r l).symbol_moves h);
      staying = λ r l e. each_call_elsewhere moves _ ((known.rule r l).stay_stays e);
    }
