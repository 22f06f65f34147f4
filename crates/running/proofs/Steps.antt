-- The steps of evaluating a node, which are those of its operands and what it does with their rows, and of calling a procedure.
use mathlib.Core.Path.{◌≡◌, refl, sym, ◌∙◌}
use mathlib.Core.Bool.{Bool, true, false, true≢false}
use mathlib.Core.List.{List, [], ◌∷◌}
use Prim.Native.Nat.{ℕ, zero, suc, ◌+◌, ◌-◌, ◌<◌, ◌≤◌}
use native.Mathlib.Nat.{not-suc-le-zero}
use native.Mathlib.Omega.{arith}
use native.Mathlib.Decide.{ℕ_discrete}
use lib.Dec.{eqb}
use lib.ListN.{length, get_or}
use borrow.Author.Tests.{lt-ltb, le-ltb, ne_eqb}
use Rattle.foundation.specs.Tests.{choose}
use Rattle.model.specs.Trees.{Tree, root_symbol}
use Rattle.model.specs.Tables.{Transformation, Node, node_at, count_of}
use Rattle.model.specs.Expressions.{Child, left, right, moves, child_of, Expression, none, argument, arguments_of, expression}
use Rattle.model.specs.Outputs.{right_side}
use Rattle.model.specs.Running.{Work, Step, made, refused, ◌after◌, most_calls, count_call, seek_rule, Runs, on_child, evaluate, evaluate_all, run_at, run_on}
use Rattle.model.proofs.Laws.Established.{Between, GoodNode, good_parameter, good_nothing, good_symbol, good_call}
use Rattle.model.proofs.Laws.Expressions.{SmallerArguments, expression_parameter, expression_nothing, expression_symbol, expression_call, arguments_at}
use Rattle.model.proofs.Laws.Calls.{EachCall, EachCallOfAll}
use Rattle.running.specs.Work.{operand_count, operand_node}
use Rattle.running.specs.Promises.{Staying, operated, applied}

-- a call: one past the last, one without a rule, and one that evaluates its rule's right side with a call less left
module _ (T : Transformation) (free : ℕ) (t : Tree) (p : ℕ) (ws : List ℕ) (w : Work) where
  pub run_past : (calls : ℕ) → most_calls T ≤ w.tally.calls → run_on T free calls t p ws w ≡ refused 15 (most_calls T)
  unfolding run_on run_at count_call ◌after◌
  run_past zero h = refl
  run_past (suc calls) h = rw (le-ltb w.tally.calls (most_calls T) h)

  module _ (few : w.tally.calls < most_calls T) where
    pub run_stuck : (calls : ℕ) → most_calls T ≤ calls + w.tally.calls → ((w₁ : Work) → seek_rule T p (root_symbol t) w₁ ≡ refused 13 p)
        → run_on T free calls t p ws w ≡ refused 13 p
    unfolding run_on run_at count_call ◌after◌
    run_stuck zero h no_rule = absurd (omega arith)
    run_stuck (suc calls) h no_rule = rw (lt-ltb w.tally.calls (most_calls T) few, no_rule _)

    pub run_goes : (calls rule : ℕ) → ((w₁ : Work) → seek_rule T p (root_symbol t) w₁ ≡ made rule w₁)
        → run_on T free (suc calls) t p ws w
        ≡ evaluate T free (on_child (run_on T free calls) t) (right_side T rule) ws
        (record { tally = record { used = w.tally.used; calls = suc w.tally.calls }; rows = w.rows })
    unfolding run_on run_at count_call ◌after◌
    run_goes calls rule found = rw (lt-ltb w.tally.calls (most_calls T) few, found _)

-- what the operands of a node are
module _ {S : ℕ} (counts : List ℕ) {k : ℕ} {n : Node} where
  first_smaller : GoodNode S counts k n → (n.tag ≡ 0 → ⊥) → 1 ≤ operand_count counts n → n.first < k
  unfolding operand_count
  first_smaller (good_parameter t a b) p h = absurd (p t)
  first_smaller (good_nothing t z) p h = let h' : 1 ≤ 0 = rw (t, z) at h in absurd (not-suc-le-zero h')
  first_smaller (good_symbol t a b f g) p h = f
  first_smaller (good_call t a b f g) p h = f (rw t at h)

  second_smaller : GoodNode S counts k n → (n.tag ≡ 0 → ⊥) → 2 ≤ operand_count counts n → n.second < k
  unfolding operand_count
  second_smaller (good_parameter t a b) p h = absurd (p t)
  second_smaller (good_nothing t z) p h = let h' : 2 ≤ 0 = rw (t, z) at h in absurd (not-suc-le-zero h')
  second_smaller (good_symbol t a b f g) p h = g
  second_smaller (good_call t a b f g) p h = g (rw t at h)

  -- operand 1 or 2, where there are so many
  pub operand_smaller : (number : ℕ) → Between 1 2 number → GoodNode S counts k n → (n.tag ≡ 0 → ⊥) → number ≤ operand_count counts n → operand_node number n < k
  operand_smaller zero b g p h = absurd (not-suc-le-zero b.least≤)
  operand_smaller (suc zero) b g p h = first_smaller g p h
  operand_smaller (suc (suc zero)) b g p h = second_smaller g p h
  operand_smaller (suc (suc (suc m))) b g p h = absurd (omega (arith, b.≤most))

  -- what is no parameter and no output symbol is a call
  pub call_named : GoodNode S counts k n → (n.tag ≡ 0 → ⊥) → (n.tag ≡ 1 → ⊥) → n.name < length counts
  call_named (good_parameter t a b) p q = absurd (p t)
  call_named (good_nothing t z) p q = absurd (q t)
  call_named (good_symbol t a b f g) p q = absurd (q t)
  call_named (good_call t a b f g) p q = a

  pub parameter_name : GoodNode S counts k n → n.tag ≡ 0 → (1 ≤ n.name) × (n.name ≤ 2)
  parameter_name (good_parameter t a b) p = (a, b)
  parameter_name (good_nothing t z) p = absurd (omega arith)
  parameter_name (good_symbol t a b f g) p = absurd (omega arith)
  parameter_name (good_call t a b f g) p = absurd (omega arith)

-- one or two arguments, and then a call with their rows
module _ (T : Transformation) (free : ℕ) (runs : Child → Runs) (ws : List ℕ) (go : List ℕ → Work → Step ℕ) where
  one_argument : (e : Expression) (w : Work)
      → evaluate_all T free runs (argument e none) ws w after go ≡ (evaluate T free runs e ws w after λ a w₁. go (a ∷ []) w₁)
  unfolding evaluate ◌after◌
  one_argument e w = cases (evaluate T free runs e ws w)
    where
      cases : (s : Step ℕ) → (s after λ v w₁. evaluate_all T free runs none ws w₁ after λ vs w₂. made (v ∷ vs) w₂) after go ≡ (s after λ a w₁. go (a ∷ []) w₁)
      cases (made a w₁) = refl
      cases (refused number place) = refl

  two_arguments : (e f : Expression) (w : Work)
      → evaluate_all T free runs (argument e (argument f none)) ws w after go
      ≡ (evaluate T free runs e ws w after λ a w₁. evaluate T free runs f ws w₁ after λ b w₂. go (a ∷ b ∷ []) w₂)
  unfolding evaluate ◌after◌
  two_arguments e f w = cases (evaluate T free runs e ws w)
    where
      inner : (a : ℕ) (s : Step ℕ)
          → ((s after λ v w₂. made (v ∷ []) w₂) after λ vs w₂. made (a ∷ vs) w₂) after go ≡ (s after λ b w₂. go (a ∷ b ∷ []) w₂)
      inner a (made b w₂) = refl
      inner a (refused number place) = refl

      cases : (s : Step ℕ)
          → (s after λ v w₁. evaluate_all T free runs (argument f none) ws w₁ after λ vs w₂. made (v ∷ vs) w₂) after go
          ≡ (s after λ a w₁. evaluate T free runs f ws w₁ after λ b w₂. go (a ∷ b ∷ []) w₂)
      cases (made a w₁) = inner a (evaluate T free runs f ws w₁)
      cases (refused number place) = refl

two_of : (m : ℕ) → 2 ≤ m → (e f : Expression) → arguments_of m e f ≡ argument e (argument f none)
two_of zero h e f = absurd (not-suc-le-zero h)
two_of (suc zero) h e f = absurd (omega arith)
two_of (suc (suc m)) h e f = refl

-- operand 1 or 2 of a node
module _ (counts : List ℕ) (n : Node) (number : ℕ) (value : ℕ → Work → Step ℕ) (w : Work) where
  pub operated_none : operand_count counts n < number → operated counts n number value w ≡ made 0 w
  unfolding operated
  operated_none h = rw (lt-ltb (operand_count counts n) number h)

  pub operated_there : number ≤ operand_count counts n → operated counts n number value w ≡ value (operand_node number n) w
  unfolding operated
  operated_there h = rw (le-ltb (operand_count counts n) number h)

-- the rows of as many operands as there are
abbrev pub rows_of : (count : ℕ) (first second : ℕ) → List ℕ
rows_of zero a b = []
rows_of (suc zero) a b = a ∷ []
rows_of (suc (suc m)) a b = a ∷ b ∷ []

module _ (T : Transformation) (free : ℕ) (runs : Child → Runs) (ws : List ℕ) (w : Work) (k : ℕ) where
  abbrev here : Node
  here = node_at T.nodes k

  abbrev value : ℕ → Work → Step ℕ
  value m = evaluate T free runs (expression T.counts T.nodes m) ws

  pub step_parameter : here.tag ≡ 0 → value k w ≡ made (get_or ws (here.name - 1) 0) w
  unfolding evaluate
  step_parameter t = rw (expression_parameter T.counts T.nodes k t)

  step_call : here.tag ≡ 2 → SmallerArguments T.counts T.nodes k
      → value k w
      ≡ evaluate_all T free runs (arguments_at T.counts T.nodes k) ws w after (λ vs w₁. runs (child_of here.child) here.name vs w₁)
  unfolding evaluate
  step_call t h = rw (expression_call T.counts T.nodes k t h)

  -- no operand, one, or two
  step_none : {S : ℕ} → GoodNode S T.counts k here → (here.tag ≡ 0 → ⊥) → operand_count T.counts here ≡ 0 → value k w ≡ applied free runs here 0 0 [] w
  unfolding evaluate ◌after◌ operand_count applied
  step_none (good_parameter t a b) p o = absurd (p t)
  step_none (good_nothing t z) p o = rw (expression_nothing T.counts T.nodes k t z, t, z)
  step_none (good_symbol t a b f g) p o = absurd (let o' : 2 ≡ 0 = rw (t, ne_eqb here.name 0 (λ e. omega arith)) at o in omega arith)
  step_none (good_call t a b f g) p o =
      let c : count_of T.counts here.name ≡ 0 = rw t at o in
      step_call t (record { first = f; second = g }) ∙ rw (c, t)

  step_one : {S : ℕ} → GoodNode S T.counts k here → (here.tag ≡ 0 → ⊥) → operand_count T.counts here ≡ 1
      → value k w ≡ (value here.first w after λ a w₁. applied free runs here a 0 (a ∷ []) w₁)
  unfolding operand_count applied
  step_one (good_parameter t a b) p o = absurd (p t)
  step_one (good_nothing t z) p o = absurd (let o' : 0 ≡ 1 = rw (t, z) at o in omega arith)
  step_one (good_symbol t a b f g) p o = absurd (let o' : 2 ≡ 1 = rw (t, ne_eqb here.name 0 (λ e. omega arith)) at o in omega arith)
  step_one (good_call t a b f g) p o =
      let c : count_of T.counts here.name ≡ 1 = rw t at o in
      step_call t (record { first = f; second = g }) ∙ rw (c, t) (one_argument T free runs ws (λ vs w₁. runs (child_of here.child) here.name vs w₁) _ w)

  step_two : {S : ℕ} → GoodNode S T.counts k here → (here.tag ≡ 0 → ⊥) → 2 ≤ operand_count T.counts here
      → value k w ≡ (value here.first w after λ a w₁. value here.second w₁ after λ b w₂. applied free runs here a b (a ∷ b ∷ []) w₂)
  unfolding evaluate operand_count applied
  step_two (good_parameter t a b) p o = absurd (p t)
  step_two (good_nothing t z) p o = absurd (let o' : 2 ≤ 0 = rw (t, z) at o in omega arith)
  step_two (good_symbol t a b f g) p o = rw (expression_symbol T.counts T.nodes k t a f g, t)
  step_two (good_call t a b f g) p o =
      step_call t (record { first = f; second = g })
      ∙ rw (two_of (count_of T.counts here.name) (rw t at o) _ _, t)
      (two_arguments T free runs ws (λ vs w₁. runs (child_of here.child) here.name vs w₁)
      (expression T.counts T.nodes here.first) (expression T.counts T.nodes here.second) w)

  -- so its operands are evaluated, and then it does what it does with their rows
  pub step_node : {S : ℕ} → GoodNode S T.counts k here → (here.tag ≡ 0 → ⊥)
      → value k w
      ≡ (operated T.counts here 1 value w after λ a w₁. operated T.counts here 2 value w₁ after λ b w₂. applied free runs here a b (rows_of (operand_count T.counts here) a b) w₂)
  unfolding operated ◌after◌
  step_node good p = go (operand_count T.counts here) refl
    where
      go : (m : ℕ) → operand_count T.counts here ≡ m
          → value k w
          ≡ (operated T.counts here 1 value w after λ a w₁. operated T.counts here 2 value w₁ after λ b w₂. applied free runs here a b (rows_of (operand_count T.counts here) a b) w₂)
      go zero e = step_none good p e ∙ rw e
      go (suc zero) e = step_one good p e ∙ rw e
      go (suc (suc m)) e = step_two good p (omega arith) ∙ rw (e, le-ltb (suc (suc m)) 1 (omega arith), le-ltb (suc (suc m)) 2 (omega arith))

-- where all of a node's calls stay, so do those of its operands, and so does the node, if it is a call
first_of : (m : ℕ) (e f : Expression) → 1 ≤ m → EachCallOfAll Staying (arguments_of m e f) → EachCall Staying e
first_of zero e f h each = absurd (not-suc-le-zero h)
first_of (suc zero) e f h each = each.0
first_of (suc (suc m)) e f h each = each.0

second-of : (m : ℕ) (e f : Expression) → 2 ≤ m → EachCallOfAll Staying (arguments_of m e f) → EachCall Staying f
second-of zero e f h each = absurd (not-suc-le-zero h)
second-of (suc zero) e f h each = absurd (omega arith)
second-of (suc (suc m)) e f h each = each.1.0

child_here : (c : ℕ) → moves (child_of c) ≡ false → c ≡ 0
child_here c e = go (ℕ_discrete c 0)
  where
    moving : (b : Bool) → moves (choose b left right) ≡ true
    moving true = refl
    moving false = refl

    go : Dec (c ≡ 0) → c ≡ 0
    go (yes z) = z
    go (no ne) = absurd (true≢false (sym (moving (eqb c 1)) ∙ rw (ne_eqb c 0 ne) at e))

module _ (counts nodes : List ℕ) (k : ℕ) where
  abbrev Quiet : ℕ → Type 0
  Quiet m = EachCall Staying (expression counts nodes m)

  first_quiet : {S : ℕ} → GoodNode S counts k (node_at nodes k) → ((node_at nodes k).tag ≡ 0 → ⊥) → 1 ≤ operand_count counts (node_at nodes k)
      → Quiet k → Quiet (node_at nodes k).first
  unfolding operand_count
  first_quiet (good_parameter t a b) p o q = absurd (p t)
  first_quiet (good_nothing t z) p o q = let o' : 1 ≤ 0 = rw (t, z) at o in absurd (not-suc-le-zero o')
  first_quiet (good_symbol t a b f g) p o q = (rw (expression_symbol counts nodes k t a f g) at q).0
  first_quiet (good_call t a b f g) p o q =
      first_of (count_of counts (node_at nodes k).name) _ _ (rw t at o)
      (rw (expression_call counts nodes k t (record { first = f; second = g })) at q).1

  second_quiet : {S : ℕ} → GoodNode S counts k (node_at nodes k) → ((node_at nodes k).tag ≡ 0 → ⊥) → 2 ≤ operand_count counts (node_at nodes k)
      → Quiet k → Quiet (node_at nodes k).second
  unfolding operand_count
  second_quiet (good_parameter t a b) p o q = absurd (p t)
  second_quiet (good_nothing t z) p o q = let o' : 2 ≤ 0 = rw (t, z) at o in absurd (not-suc-le-zero o')
  second_quiet (good_symbol t a b f g) p o q = (rw (expression_symbol counts nodes k t a f g) at q).1
  second_quiet (good_call t a b f g) p o q =
      second-of (count_of counts (node_at nodes k).name) _ _ (rw t at o)
      (rw (expression_call counts nodes k t (record { first = f; second = g })) at q).1

  pub operand_quiet : {S : ℕ} (number : ℕ) → Between 1 2 number → GoodNode S counts k (node_at nodes k) → ((node_at nodes k).tag ≡ 0 → ⊥)
      → number ≤ operand_count counts (node_at nodes k)
      → Quiet k → Quiet (operand_node number (node_at nodes k))
  operand_quiet zero b g p o q = absurd (not-suc-le-zero b.least≤)
  operand_quiet (suc zero) b g p o q = first_quiet g p o q
  operand_quiet (suc (suc zero)) b g p o q = second_quiet g p o q
  operand_quiet (suc (suc (suc m))) b g p o q = absurd (omega (arith, b.≤most))

  pub quiet_call_stays : {S : ℕ} → GoodNode S counts k (node_at nodes k) → ((node_at nodes k).tag ≡ 0 → ⊥) → ((node_at nodes k).tag ≡ 1 → ⊥) → Quiet k
      → (node_at nodes k).child ≡ 0
  quiet_call_stays (good_parameter t a b) p o q = absurd (p t)
  quiet_call_stays (good_nothing t z) p o q = absurd (o t)
  quiet_call_stays (good_symbol t a b f g) p o q = absurd (o t)
  quiet_call_stays (good_call t a b f g) p o q = child_here (node_at nodes k).child (rw (expression_call counts nodes k t (record { first = f; second = g })) at q).0
