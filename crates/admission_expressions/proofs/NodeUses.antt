-- What a good node uses is what its table entry is computed to be: by the node's tag, from the nodes below it.
use mathlib.Core.Path.{◌≡◌, refl, ap, ◌∙◌}
use mathlib.Core.List.{List}
use mathlib.Core.Bool.{Bool, true, false, ◌||◌, ◌&&◌, not}
use Prim.Native.Nat.{ℕ, zero, suc, ◌+◌, ◌<◌, ◌≤◌}
use native.Mathlib.Omega.{arith}
use borrow.Author.Tests.{ne_eqb, leb-false}
use lib.Dec.{eqb, ltb, leb}
use lib.ListN.{length, get_or, set}
use Rattle.foundation.specs.Tests.{choose, ◌or◌}
use Rattle.foundation.specs.Lists.{filled_more}
use Rattle.model.specs.Tables.{Node, node_at, node_count, count_of, Rule}
use Rattle.model.specs.Expressions.{left, right, here, stays, moves, child_of, Expression, Arguments, call, expression, arguments_of, greatest_parameter, greatest_of_all, holds_call_to, some_holds_call_to}
use Rattle.model.specs.Admission.{calls_wrong, rule_wrong}
use Rattle.model.proofs.Laws.Expressions.{expression_parameter, expression_nothing, expression_symbol, expression_call}
use Rattle.model.proofs.Laws.Calls.{holds_call_either}
use Rattle.model.proofs.Laws.Established.{GoodNodes, GoodNode, good_parameter, good_nothing, good_symbol, good_call}
use Rattle.admission_expressions.specs.declared.uses.Uses.{Uses}
use Rattle.admission_expressions.specs.Uses.{uses_in, no_uses, joined, uses_over, calls_wrong_by, UsesKnown}

-- the ways to write "or"
either : (a b : Bool) → (a || b) ≡ (a or b)
unfolding ◌or◌
either true b = refl
either false b = refl

last : (a : Bool) → a ≡ (a or false)
unfolding ◌or◌
last true = refl
last false = refl

both : (a b : Bool) → (a || b) ≡ (a or (b or false))
unfolding ◌or◌
both true b = refl
both false true = refl
both false false = refl

-- equal parts
same_uses : (g h : ℕ) (s t m n : Bool) → g ≡ h → s ≡ t → m ≡ n
    → ◌≡◌ {A = Uses} (record { greatest = g; stays = s; moves = m }) (record { greatest = h; stays = t; moves = n })
same_uses g h s t m n a b c = rw (a, b, c) refl

-- what arguments use
abbrev uses_in_all : Arguments → Uses
uses_in_all es = record { greatest = greatest_of_all es; stays = some_holds_call_to stays es; moves = some_holds_call_to moves es }

-- by how many there are
uses_arguments : (count : ℕ) (x y : Uses) (e f : Expression)
    → (1 ≤ count → x ≡ uses_in e)
    → (2 ≤ count → y ≡ uses_in f)
    → choose (eqb count 0) no_uses (choose (eqb count 1) x (joined x y)) ≡ uses_in_all (arguments_of count e f)
unfolding greatest_of_all some_holds_call_to
uses_arguments zero x y e f h k = refl
uses_arguments (suc zero) x y e f h k = h (omega arith) ∙ same_uses _ _ _ _ _ _ (omega arith) (last _) (last _)
uses_arguments (suc (suc n)) x y e f h k =
    rw (ne_eqb (suc (suc n)) 0 (λ z. omega arith), ne_eqb (suc (suc n)) 1 (λ z. omega arith), h (omega arith), k (omega arith))
    (same_uses _ _ _ _ _ _ (omega arith) (both _ _) (both _ _))

-- child 0 is the node itself, where a call stays
call_stays : (is0 is1 : Bool) → is0 ≡ stays (choose is0 here (choose is1 left right))
call_stays true is1 = refl
call_stays false true = refl
call_stays false false = refl

call_moves : (is0 is1 : Bool) → not is0 ≡ moves (choose is0 here (choose is1 left right))
call_moves true is1 = refl
call_moves false true = refl
call_moves false false = refl

-- a call and its arguments
uses_call : (p child : ℕ) (es : Arguments)
    → joined (record { greatest = 0; stays = eqb child 0; moves = not (eqb child 0) }) (uses_in_all es) ≡ uses_in (call p (child_of child) es)
unfolding greatest_parameter holds_call_to
uses_call p child es =
    same_uses _ _ _ _ _ _ (omega arith)
    (either _ _ ∙ ap (λ b. b or some_holds_call_to stays es) (call_stays (eqb child 0) (eqb child 1)))
    (either _ _ ∙ ap (λ b. b or some_holds_call_to moves es) (call_moves (eqb child 0) (eqb child 1)))

module _ (S : ℕ) (counts nodes : List ℕ) (k : ℕ) where
  uses_good : (smaller : List Uses) → UsesKnown counts nodes k smaller → GoodNode S counts k (node_at nodes k)
      → uses_over counts smaller (node_at nodes k) ≡ uses_in (expression counts nodes k)
  unfolding greatest_parameter holds_call_to
  uses_good smaller known (good_parameter t a b) =
      rw (expression_parameter counts nodes k t, t) (same_uses _ _ _ _ _ _ (omega arith) refl refl)
  uses_good smaller known (good_nothing t z) = rw (expression_nothing counts nodes k t z, t, z) refl
  uses_good smaller known (good_symbol t a s l r) =
      rw (expression_symbol counts nodes k t a l r, t, ne_eqb (node_at nodes k).name 0 (λ e. omega arith), known _ l, known _ r)
      (same_uses _ _ _ _ _ _ (omega arith) (either _ _) (either _ _))
  uses_good smaller known (good_call t p c l r) =
      rw (expression_call counts nodes k t (record { first = l; second = r }), t)
      (ap (joined _) (uses_arguments (count_of counts (node_at nodes k).name) _ _ _ _ (λ h. known _ (l h)) (λ h. known _ (r h)))
      ∙ uses_call (node_at nodes k).name (node_at nodes k).child _)

-- the pass over the nodes: entry k is computed from those before it, and stands
pub uses_more : (counts nodes : List ℕ) (table : List Uses) (k : ℕ) (n : Node) (v : Uses) → GoodNodes counts nodes → k < node_count nodes
    → node_count nodes ≤ length table
    → UsesKnown counts nodes k table
    → n ≡ node_at nodes k
    → v ≡ uses_over counts table n
    → UsesKnown counts nodes (k + 1) (set table k v)
uses_more counts nodes table k n v good h room known at is =
    filled_more (λ j. uses_in (expression counts nodes j)) no_uses table k v (omega arith) known
    (is ∙ ap (λ (m : Node). uses_over counts table m) at ∙ uses_good good.symbols counts nodes k table known (good.node k h))

-- a rule's node that does not exist is bad whatever it is said to use
no_node : (a b x y x' y' : Bool) → (a || b || true || x || y) ≡ (a || b || true || x' || y')
no_node true b x y x' y' = refl
no_node false true x y x' y' = refl
no_node false false x y x' y' = refl

-- calls are wrong, by whether the symbol is 0 and whether the rule is a stay rule
wrong_calls : (leaf stay a b : Bool) → choose leaf (a || b) (choose stay b a) ≡ ((leaf && (a or b)) || choose stay b a)
unfolding ◌or◌
wrong_calls true stay true b = refl
wrong_calls true stay false true = refl
wrong_calls true true false false = refl
wrong_calls true false false false = refl
wrong_calls false stay a b = refl

calls_by : (S symbol : ℕ) (e : Expression) → calls_wrong_by S symbol (uses_in e) ≡ calls_wrong S symbol e
calls_by S symbol e = rw (holds_call_either e) (wrong_calls (eqb symbol 0) (eqb symbol S) (holds_call_to stays e) (holds_call_to moves e))

-- a rule's test, by the table of what the nodes use
module _ (S : ℕ) (counts nodes : List ℕ) (table : List Uses) (r : Rule) where
  abbrev wrong_by_table : Bool
  wrong_by_table =
      leb (length counts) r.procedure || ltb S r.symbol || leb (node_count nodes) r.node
      || ltb (count_of counts r.procedure) (get_or table r.node no_uses).greatest
      || calls_wrong_by S r.symbol (get_or table r.node no_uses)

  pub rule_by_table : UsesKnown counts nodes (node_count nodes) table → wrong_by_table ≡ rule_wrong S counts nodes r
  rule_by_table known = go (leb (node_count nodes) r.node) refl
    where
      go : (b : Bool) → leb (node_count nodes) r.node ≡ b → wrong_by_table ≡ rule_wrong S counts nodes r
      go true e = rw e (no_node (leb (length counts) r.procedure) (ltb S r.symbol) _ _ _ _)
      go false e =
          let l : r.node < node_count nodes = leb-false (node_count nodes) r.node e in
          rw (known r.node l, calls_by S r.symbol (expression counts nodes r.node))
