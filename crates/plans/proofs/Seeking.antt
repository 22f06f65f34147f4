-- The right side that a plan has for a procedure and a symbol is that of the rule that a run takes, and there is none where there is no such
-- rule.
use mathlib.Core.Path.{◌≡◌, ap, ◌∙◌}
use mathlib.Core.List.{List}
use mathlib.Core.Logic.{◌⊎◌, inl, inr}
use Prim.Native.Nat.{ℕ, ◌<◌, ◌≤◌}
use native.Mathlib.Omega.{arith}
use native.Mathlib.Decide.{dec_lt}
use borrow.Author.Tests.{lt-ltb, le-ltb}
use Rattle.model.specs.Tables.{Transformation, rule_at, rule_count}
use Rattle.model.specs.Running.{Work, made, refused, first_rule, seek_rule}
use Rattle.model.proofs.Laws.Rules.{first_fits}
use Rattle.model.proofs.Laws.Calling.{seek_root, seek_stay}
use Rattle.std.specs.Prelude.{Some, None}
use Rattle.plans.specs.Plans.{most_procedures, rule_symbols, most_nodes, plan_side, plan_own, plan_stay, plan_sought, plan_sought_number, Laid}

module _ (plan : List ℕ) (p s : ℕ) where
  own_there : plan_side plan p s < most_nodes → plan_own plan p s ≡ Some (plan_side plan p s)
  own_there h = rw (lt-ltb (plan_side plan p s) most_nodes h)

  own_none : most_nodes ≤ plan_side plan p s → plan_own plan p s ≡ None
  own_none h = rw (le-ltb (plan_side plan p s) most_nodes h)

  pub own_sought : plan_side plan p s < most_nodes → plan_sought_number plan p s ≡ plan_side plan p s
  own_sought h = rw (lt-ltb (plan_side plan p s) most_nodes h)

  pub stay_sought : most_nodes ≤ plan_side plan p s → plan_sought_number plan p s ≡ plan_side plan p (plan_stay plan)
  stay_sought h = rw (le-ltb (plan_side plan p s) most_nodes h)

-- "13, no rule": neither one for the symbol nor a stay rule
seek_none : (T : Transformation) (p s : ℕ) (w : Work) → rule_count T.rules ≤ first_rule T.rules p s → rule_count T.rules ≤ first_rule T.rules p T.symbols
    → seek_rule T p s w ≡ refused 13 p
unfolding seek_rule
seek_none T p s w h k = rw (le-ltb (first_rule T.rules p s) (rule_count T.rules) h, le-ltb (first_rule T.rules p T.symbols) (rule_count T.rules) k)

-- a rule whose right side this is, which a run takes for procedure p at symbol s: one for the symbol, or a stay rule
pub record RuleTaken (T : Transformation) (p s side : ℕ) : Type 0 where
  pub rule : ℕ
  pub there : rule < rule_count T.rules
  pub node : side ≡ (rule_at T.rules rule).node
  pub symbol : ((rule_at T.rules rule).symbol ≡ s) ⊎ ((rule_at T.rules rule).symbol ≡ T.symbols)
  pub sought : (w : Work) → seek_rule T p s w ≡ made rule w

module _ {T : Transformation} {numbers ends plan : List ℕ} (laid : Laid T numbers ends plan)
    (small : (r : ℕ) → r < rule_count T.rules → (rule_at T.rules r).node < most_nodes) (few : T.symbols < rule_symbols)
    (p : ℕ) (named : p < most_procedures) where
  abbrev rule_for : ℕ → ℕ
  rule_for s = first_rule T.rules p s

  -- an entry is a node exactly where there is a rule
  side_there : (s : ℕ) → s < rule_symbols → rule_for s < rule_count T.rules → plan_side plan p s ≡ (rule_at T.rules (rule_for s)).node
  side_there s h found = laid.side p s named h ∙ rw (lt-ltb (rule_for s) (rule_count T.rules) found)

  side_none : (s : ℕ) → s < rule_symbols → rule_count T.rules ≤ rule_for s → plan_side plan p s ≡ most_nodes
  side_none s h none = laid.side p s named h ∙ rw (le-ltb (rule_for s) (rule_count T.rules) none)

  own_rule : (s : ℕ) → s < rule_symbols → rule_for s < rule_count T.rules → plan_own plan p s ≡ Some (rule_at T.rules (rule_for s)).node
  own_rule s h found = own_there plan p s (omega (arith, side_there s h found, small (rule_for s) found)) ∙ ap (λ (k : ℕ). Some k) (side_there s h found)

  own_no_rule : (s : ℕ) → s < rule_symbols → rule_count T.rules ≤ rule_for s → plan_own plan p s ≡ None
  own_no_rule s h none = own_none plan p s (omega (arith, side_none s h none))

  module _ (s : ℕ) (known : s < rule_symbols) where
    by_own : rule_for s < rule_count T.rules → plan_sought plan p s ≡ Some (rule_at T.rules (rule_for s)).node
    by_own h = rw (own_rule s known h)

    by_stay : rule_count T.rules ≤ rule_for s → plan_sought plan p s ≡ plan_own plan p T.symbols
    by_stay h = rw (own_no_rule s known h) (ap (plan_own plan p) laid.stay)

    pub rule_taken : (side : ℕ) → Some side ≡ plan_sought plan p s → RuleTaken T p s side
    rule_taken side found = own (dec_lt (rule_for s) (rule_count T.rules))
      where
        stay : rule_count T.rules ≤ rule_for s → Dec (rule_for T.symbols < rule_count T.rules) → RuleTaken T p s side
        stay none (yes l) =
            record {
              rule = rule_for T.symbols;
              there = l;
              node = (cc (found, by_stay none, own_rule T.symbols few l));
              symbol = inr (first_fits T.rules p T.symbols l).1;
              sought = λ w. seek_stay T p s w none l;
            }
        stay none (no ne) = absurd (cc (found, by_stay none, own_no_rule T.symbols few (omega arith)))

        own : Dec (rule_for s < rule_count T.rules) → RuleTaken T p s side
        own (yes l) =
            record {
              rule = rule_for s;
              there = l;
              node = (cc (found, by_own l));
              symbol = inl (first_fits T.rules p s l).1;
              sought = λ w. seek_root T p s w l;
            }
        own (no ne) = stay (omega arith) (dec_lt (rule_for T.symbols) (rule_count T.rules))

    pub no_rule_taken : None ≡ plan_sought plan p s → (w : Work) → seek_rule T p s w ≡ refused 13 p
    no_rule_taken found w = own (dec_lt (rule_for s) (rule_count T.rules))
      where
        stay : rule_count T.rules ≤ rule_for s → Dec (rule_for T.symbols < rule_count T.rules) → seek_rule T p s w ≡ refused 13 p
        stay none (yes l) = absurd (cc (found, by_stay none, own_rule T.symbols few l))
        stay none (no ne) = seek_none T p s w none (omega arith)

        own : Dec (rule_for s < rule_count T.rules) → seek_rule T p s w ≡ refused 13 p
        own (yes l) = absurd (cc (found, by_own l))
        own (no ne) = stay (omega arith) (dec_lt (rule_for T.symbols) (rule_count T.rules))

module _ {T : Transformation} {numbers ends plan : List ℕ} (laid : Laid T numbers ends plan)
    (small : (r : ℕ) → r < rule_count T.rules → (rule_at T.rules r).node < most_nodes) (few : T.symbols < rule_symbols)
    (p : ℕ) (named : p < most_procedures) where
  stay_side : plan_side plan p (plan_stay plan) ≡ plan_side plan p T.symbols
  stay_side = ap (plan_side plan p) laid.stay
