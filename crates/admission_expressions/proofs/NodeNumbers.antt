-- What a good node uses is what the entries of two tables of numbers are computed to be: by the node's tag, from the nodes below it.
use mathlib.Core.Path.{◌≡◌, refl, sym, ap, ap₂, ◌∙◌}
use mathlib.Core.List.{List}
use mathlib.Core.Bool.{Bool, true, false, ◌||◌, ◌&&◌, not}
use Prim.Native.Nat.{ℕ, zero, suc, ◌+◌, ◌<◌, ◌≤◌, max}
use native.Mathlib.Omega.{arith}
use borrow.Author.Tests.{ne_eqb, leb-false}
use lib.Bits.{bit_and, bit_or, or_zero_r}
use lib.Dec.{eqb, ltb, leb}
use lib.ListN.{length, get_or, set}
use Rattle.foundation.specs.Tests.{choose, ◌or◌}
use Rattle.foundation.specs.Lists.{filled_more}
use Rattle.model.specs.Tables.{Node, node_at, node_count, count_of, Rule}
use Rattle.model.specs.Expressions.{left, right, here, stays, moves, child_of, Expression, Arguments, none, argument, expression, arguments_of, greatest_parameter, greatest_of_all, holds_call_to, some_holds_call_to}
use Rattle.model.specs.Admission.{calls_wrong, rule_wrong}
use Rattle.model.proofs.Laws.Expressions.{expression_parameter, expression_nothing, expression_symbol, expression_call}
use Rattle.model.proofs.Laws.Calls.{holds_call_either}
use Rattle.model.proofs.Laws.Established.{GoodNodes, GoodNode, good_parameter, good_nothing, good_symbol, good_call}
use Rattle.admission_expressions.specs.CallNumbers.{greatest_over, staying, moving, calls_as, calls_in, calls_over, calls_wrong_by, GreatestKnown, CallsKnown}

-- the greatest parameter of the arguments, by how many there are
greatest_arguments : (count : ℕ) (x y : ℕ) (e f : Expression)
    → (1 ≤ count → x ≡ greatest_parameter e)
    → (2 ≤ count → y ≡ greatest_parameter f)
    → choose (eqb count 0) 0 (choose (eqb count 1) x (max x y)) ≡ greatest_of_all (arguments_of count e f)
unfolding greatest_parameter greatest_of_all
greatest_arguments zero x y e f h k = refl
greatest_arguments (suc zero) x y e f h k = rw (h (omega arith)) (omega arith)
greatest_arguments (suc (suc n)) x y e f h k =
    rw (ne_eqb (suc (suc n)) 0 (λ z. omega arith), ne_eqb (suc (suc n)) 1 (λ z. omega arith), h (omega arith), k (omega arith)) (omega arith)

-- the calls of two expressions together
calls_or : (a b c d : Bool) → bit_or (calls_as a b) (calls_as c d) ≡ calls_as (a or c) (b or d)
unfolding ◌or◌
calls_or false false c d = refl
calls_or true false true true = refl
calls_or true false true false = refl
calls_or true false false true = refl
calls_or true false false false = refl
calls_or false true true true = refl
calls_or false true true false = refl
calls_or false true false true = refl
calls_or false true false false = refl
calls_or true true true true = refl
calls_or true true true false = refl
calls_or true true false true = refl
calls_or true true false false = refl

-- child 0 is the node itself, where a call stays
call_goes : (is0 is1 : Bool)
    → choose is0 staying moving ≡ calls_as (stays (choose is0 here (choose is1 left right))) (moves (choose is0 here (choose is1 left right)))
call_goes true is1 = refl
call_goes false true = refl
call_goes false false = refl

-- the calls that arguments hold: those of the first and of the others
abbrev calls_in_all : Arguments → ℕ
calls_in_all es = calls_as (some_holds_call_to stays es) (some_holds_call_to moves es)

calls_argument : (e : Expression) (es : Arguments) → bit_or (calls_in e) (calls_in_all es) ≡ calls_in_all (argument e es)
unfolding some_holds_call_to
calls_argument e es = calls_or (holds_call_to stays e) (holds_call_to moves e) _ _

calls_last : (e : Expression) → calls_in e ≡ calls_in_all (argument e none)
unfolding some_holds_call_to
calls_last e = sym (or_zero_r (calls_in e)) ∙ calls_argument e none

-- the calls of the arguments, by how many there are
calls_arguments : (count : ℕ) (x y : ℕ) (e f : Expression)
    → (1 ≤ count → x ≡ calls_in e)
    → (2 ≤ count → y ≡ calls_in f)
    → choose (eqb count 0) 0 (choose (eqb count 1) x (bit_or x y)) ≡ calls_in_all (arguments_of count e f)
unfolding some_holds_call_to
calls_arguments zero x y e f h k = refl
calls_arguments (suc zero) x y e f h k = h (omega arith) ∙ calls_last e
calls_arguments (suc (suc n)) x y e f h k =
    rw (ne_eqb (suc (suc n)) 0 (λ z. omega arith), ne_eqb (suc (suc n)) 1 (λ z. omega arith), h (omega arith), k (omega arith))
    (ap (bit_or (calls_in e)) (calls_last f) ∙ calls_argument e (argument f none))

module _ (S : ℕ) (counts nodes : List ℕ) (k : ℕ) where
  greatest_good : (smaller : List ℕ) → GreatestKnown counts nodes k smaller → GoodNode S counts k (node_at nodes k)
      → greatest_over counts smaller (node_at nodes k) ≡ greatest_parameter (expression counts nodes k)
  unfolding greatest_parameter greatest_of_all
  greatest_good smaller known (good_parameter t a b) = rw (expression_parameter counts nodes k t, t) (omega arith)
  greatest_good smaller known (good_nothing t z) = rw (expression_nothing counts nodes k t z, t, z)
  greatest_good smaller known (good_symbol t a s l r) =
      rw (expression_symbol counts nodes k t a l r, t, ne_eqb (node_at nodes k).name 0 (λ e. omega arith), known _ l, known _ r)
  greatest_good smaller known (good_call t p c l r) =
      rw (expression_call counts nodes k t (record { first = l; second = r }), t)
      (greatest_arguments (count_of counts (node_at nodes k).name) _ _ _ _ (λ h. known _ (l h)) (λ h. known _ (r h)))

  calls_good : (smaller : List ℕ) → CallsKnown counts nodes k smaller → GoodNode S counts k (node_at nodes k)
      → calls_over counts smaller (node_at nodes k) ≡ calls_in (expression counts nodes k)
  unfolding holds_call_to
  calls_good smaller known (good_parameter t a b) = rw (expression_parameter counts nodes k t, t)
  calls_good smaller known (good_nothing t z) = rw (expression_nothing counts nodes k t z, t, z)
  calls_good smaller known (good_symbol t a s l r) =
      rw (expression_symbol counts nodes k t a l r, t, ne_eqb (node_at nodes k).name 0 (λ e. omega arith), known _ l, known _ r)
      (calls_or (holds_call_to stays (expression counts nodes (node_at nodes k).first)) _ _ _)
  calls_good smaller known (good_call t p c l r) =
      rw (expression_call counts nodes k t (record { first = l; second = r }), t)
      (ap₂ bit_or (call_goes (eqb (node_at nodes k).child 0) (eqb (node_at nodes k).child 1))
      (calls_arguments (count_of counts (node_at nodes k).name) _ _ _ _ (λ h. known _ (l h)) (λ h. known _ (r h)))
      ∙ calls_or (stays (child_of (node_at nodes k).child)) _ _ _)

-- the pass over the nodes: entry k is computed from those before it, and stands
module _ (counts nodes : List ℕ) (good : GoodNodes counts nodes) (k : ℕ) (h : k < node_count nodes) where
  pub greatest_more : (table : List ℕ) → node_count nodes ≤ length table → GreatestKnown counts nodes k table
      → (n : Node) → n ≡ node_at nodes k
      → (v : ℕ) → v ≡ greatest_over counts table n
      → GreatestKnown counts nodes (k + 1) (set table k v)
  greatest_more table room known n at v is =
      filled_more (λ j. greatest_parameter (expression counts nodes j)) 0 table k v (omega arith) known
      (is ∙ ap (λ (m : Node). greatest_over counts table m) at ∙ greatest_good good.symbols counts nodes k table known (good.node k h))

  pub calls_more : (table : List ℕ) → node_count nodes ≤ length table → CallsKnown counts nodes k table
      → (n : Node) → n ≡ node_at nodes k
      → (v : ℕ) → v ≡ calls_over counts table n
      → CallsKnown counts nodes (k + 1) (set table k v)
  calls_more table room known n at v is =
      filled_more (λ j. calls_in (expression counts nodes j)) 0 table k v (omega arith) known
      (is ∙ ap (λ (m : Node). calls_over counts table m) at ∙ calls_good good.symbols counts nodes k table known (good.node k h))

-- a rule's node that does not exist is bad whatever it is said to use
no_node : (a b x y x' y' : Bool) → (a || b || true || x || y) ≡ (a || b || true || x' || y')
no_node true b x y x' y' = refl
no_node false true x y x' y' = refl
no_node false false x y x' y' = refl

-- calls are wrong, by whether the symbol is 0 and whether the rule is a stay rule
wrong_calls : (leaf stay a b : Bool)
    → choose leaf (not (eqb (calls_as a b) 0))
    (choose stay (not (eqb (bit_and (calls_as a b) moving) 0)) (not (eqb (bit_and (calls_as a b) staying) 0)))
    ≡ ((leaf && (a or b)) || choose stay b a)
unfolding ◌or◌
wrong_calls true stay true true = refl
wrong_calls true stay true false = refl
wrong_calls true stay false true = refl
wrong_calls true true false false = refl
wrong_calls true false false false = refl
wrong_calls false true true true = refl
wrong_calls false true true false = refl
wrong_calls false true false true = refl
wrong_calls false true false false = refl
wrong_calls false false true true = refl
wrong_calls false false true false = refl
wrong_calls false false false true = refl
wrong_calls false false false false = refl

calls_by : (S symbol : ℕ) (e : Expression) → calls_wrong_by S symbol (calls_in e) ≡ calls_wrong S symbol e
calls_by S symbol e = rw (holds_call_either e) (wrong_calls (eqb symbol 0) (eqb symbol S) (holds_call_to stays e) (holds_call_to moves e))

-- a rule's test, by the tables of what the nodes use
module _ (S : ℕ) (counts nodes greatest calls : List ℕ) (r : Rule) where
  abbrev wrong_by_tables : Bool
  wrong_by_tables =
      leb (length counts) r.procedure || ltb S r.symbol || leb (node_count nodes) r.node
      || ltb (count_of counts r.procedure) (get_or greatest r.node 0)
      || calls_wrong_by S r.symbol (get_or calls r.node 0)

  pub rule_by_tables : GreatestKnown counts nodes (node_count nodes) greatest → CallsKnown counts nodes (node_count nodes) calls
      → wrong_by_tables ≡ rule_wrong S counts nodes r
  rule_by_tables parameters held = go (leb (node_count nodes) r.node) refl
    where
      go : (b : Bool) → leb (node_count nodes) r.node ≡ b → wrong_by_tables ≡ rule_wrong S counts nodes r
      go true e = rw e (no_node (leb (length counts) r.procedure) (ltb S r.symbol) _ _ _ _)
      go false e =
          let l : r.node < node_count nodes = leb-false (node_count nodes) r.node e in
          rw (parameters r.node l, held r.node l, calls_by S r.symbol (expression counts nodes r.node))
