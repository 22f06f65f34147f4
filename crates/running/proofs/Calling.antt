-- What applying a node and calling a procedure come to: a lemma for each answer of the code.
use mathlib.Core.Path.{◌≡◌, refl, ap, sym, ◌∙◌}
use mathlib.Core.Bool.{Bool, true, false, true≢false}
use mathlib.Core.List.{List}
use Rattle.std.specs.Prelude.{Option, Some, None, Err}
use mathlib.Core.Logic.{◌⊎◌, inl, inr}
use Prim.Native.Nat.{ℕ, zero, suc, ◌+◌, ◌<◌, ◌≤◌}
use native.Mathlib.Numerals.{add-one}
use native.Mathlib.Omega.{arith}
use native.Mathlib.Decide.{ℕ_discrete}
use lib.Dec.{eqb}
use lib.ListN.{length, get_or}
use borrow.Author.Tests.{eq-eqb, ne_eqb}
use Rattle.foundation.specs.Tests.{choose, ◌or◌}
use Rattle.model.specs.Trees.{Tree, empty, node, root_symbol}
use Rattle.model.specs.Rows.{row_count}
use Rattle.model.specs.Tables.{Transformation, Node, node_at, rule_at, rule_count}
use Rattle.model.specs.Expressions.{Child, left, right, here, stays, moves, child_of, Expression, holds_call, holds_call_to, expression}
use Rattle.model.specs.Running.{Work, refused, most_calls, add_row, Runs, on_child, run_on}
use Rattle.model.proofs.Laws.Established.{GoodNode}
use Rattle.model.proofs.Laws.Calls.{each_call_elsewhere, holds_call_either}
use Rattle.model.proofs.Laws.Documents.{tree_from, end_from, InnerPlace, inner_place, leaf_place}
use Rattle.tables.specs.declared.Procedure.{Procedure}
use Rattle.running.specs.declared.Tally.{Tally}
use Rattle.running.specs.declared.RunFault.TheVariants.{NoRule, TooManyCalls}
use Rattle.running.specs.Places.{Children}
use Rattle.plans.specs.Plans.{most_procedures, rule_symbols, most_nodes, numbers_place, ends_place, plan_node, plan_sought, plan_most, plan_stay}
use Rattle.plans.proofs.Seeking.{RuleTaken, rule_taken, no_rule_taken}
use Rattle.running.specs.Work.{Outcome, work_of, step_of, plan_child}
use Rattle.running.specs.Promises.{Plan, OperableIn, CallableIn, EvaluableIn, Evaluable, applied, runs_from, EvaluatesIn, Applies, Calls, CallsIn}
use Rattle.running.proofs.Steps.{call_named, quiet_call_stays, run_past, run_stuck, run_goes}

-- the root symbol of the tree at a place stands there
root_at : {numbers ends : List ℕ} → Children numbers ends → (place : ℕ) → place < length numbers → root_symbol (tree_from numbers place) ≡ get_or numbers place 0
root_at {numbers} {ends} children place h = go (get_or numbers place 0) refl
  where
    go : (s : ℕ) → get_or numbers place 0 ≡ s → root_symbol (tree_from numbers place) ≡ get_or numbers place 0
    go zero e = ap root_symbol (leaf_place numbers place h e) ∙ sym e
    go (suc s) e = ap root_symbol (inner_place numbers children.read.readable place h (omega arith)).tree

-- a node applied: an output symbol, and a call
module _ (free : ℕ) (runs : Child → Runs) (n : Node) (a b : ℕ) (ws : List ℕ) (w : Work) where
  applied_row : n.tag ≡ 1 → applied free runs n a b ws w ≡ add_row free n.name a b w
  unfolding applied
  applied_row t = rw (eq-eqb n.tag 1 t)

  applied_call : (n.tag ≡ 1 → ⊥) → applied free runs n a b ws w ≡ runs (child_of n.child) n.name ws w
  unfolding applied
  applied_call other = rw (ne_eqb n.tag 1 other)

-- the tree to which a call goes stands within the document
record GoesTo (numbers : List ℕ) (place child there : ℕ) : Type 0 where
  inside : there < length numbers
  runs : (runs : Tree → Runs) → on_child runs (tree_from numbers place) (child_of child) ≡ runs (tree_from numbers there)

stays_there : (runs : Tree → Runs) (t : Tree) → on_child runs t here ≡ runs t
stays_there runs empty = refl
stays_there runs (node s l r) = refl

-- a node whose operands are evaluated
module _ {plan : List ℕ} {place k : ℕ} (asked : OperableIn plan place k) {n : Node} (read : n ≡ plan_node plan k) where
  abbrev T : Transformation
  T = asked.known.transformation

  abbrev numbers : List ℕ
  numbers = asked.known.numbers

  abbrev at : Node
  at = node_at T.nodes k

  en : n ≡ at
  en = read ∙ asked.known.laid.node k asked.able.there

  good : GoodNode T.symbols T.counts k at
  good = asked.known.tables.node k asked.able.there

  pub row_applied : {first second : ℕ} (buffer : List ℕ) (tally : Tally) (r : Outcome) (o : List ℕ) → n.tag ≡ 1
      → add_row (row_count buffer) n.name first second (work_of tally buffer) ≡ step_of (row_count buffer) r o
      → Applies T numbers place k first second buffer tally r o
  row_applied {first} {second} buffer tally r o t added free calls ws ef few cs =
      ap (λ (x : Node). applied free (runs_from T numbers place free calls) x first second ws (work_of tally buffer)) (sym en)
      ∙ applied_row free (runs_from T numbers place free calls) n first second ws (work_of tally buffer) t
      ∙ rw ef added

  module _ (other : n.tag ≡ 1 → ⊥) where
    call_at : at.tag ≡ 1 → ⊥
    call_at = rw en at other

    pub call_named_there : n.name < length T.counts
    call_named_there = rw en (call_named T.counts good asked.inner call_at)

    -- under symbol 0 it stays
    module _ (moving : n.child ≡ 0 → ⊥) where
      inner_there : 1 ≤ get_or numbers place 0
      inner_there = positive (get_or numbers place 0) (λ z. moving (ap (λ (x : Node). x.child) en ∙ quiet_call_stays T.counts T.nodes k good asked.inner call_at (asked.able.quiet z)))
        where
          positive : (m : ℕ) → (m ≡ 0 → ⊥) → 1 ≤ m
          positive zero h = absurd (h refl)
          positive (suc m) h = omega arith

      inner : InnerPlace numbers place (place + 1)
      inner = inner_place numbers asked.known.text.read.readable place asked.able.inside inner_there

      pub left-inside : place + 1 < length numbers
      left-inside = inner.left

      right-place : get_or plan (ends_place + (place + 1)) 0 ≡ end_from numbers (place + 1)
      right-place = asked.known.laid.end (place + 1) left-inside ∙ asked.known.text.end (place + 1) (omega arith) left-inside

    module _ {there : ℕ} (found : there ≡ plan_child plan place n.child) where
      goes_to : GoesTo numbers place n.child there
      goes_to = go (ℕ_discrete n.child 0)
        where
          to_child : (moving : n.child ≡ 0 → ⊥) (b : Bool) → there ≡ choose b (place + 1) (end_from numbers (place + 1))
              → (there < length numbers) × ((runs : Tree → Runs) → on_child runs (tree_from numbers place) (choose b left right) ≡ runs (tree_from numbers there))
          to_child moving true e = (rw e (inner moving).left, λ runs. rw ((inner moving).tree, e))
          to_child moving false e = (rw e (inner moving).right, λ runs. rw ((inner moving).tree, e))

          go : Dec (n.child ≡ 0) → GoesTo numbers place n.child there
          go (yes z) =
              let e : there ≡ place = rw (eq-eqb n.child 0 z) at found in
              record { inside = rw e asked.able.inside; runs = λ runs. rw (eq-eqb n.child 0 z, e) (stays_there runs (tree_from numbers place)) }
          go (no moving) =
              let (inside, runs) = to_child moving (eqb n.child 1) (rw (ne_eqb n.child 0 moving, right-place moving) at found) in
              record { inside = inside; runs = rw (ne_eqb n.child 0 moving) runs }

      -- so the procedure can be called there
      pub child_inside : there < length numbers
      child_inside = goes_to.inside

      abbrev pub child_callable : CallableIn plan there n.name
      child_callable = record { known = asked.known; inside = child_inside; named = call_named_there }

      pub call_applied : {first second : ℕ} (buffer : List ℕ) (tally : Tally) (r : Outcome) (o : List ℕ)
          → CallsIn plan there n.name first second buffer tally r o
          → Applies T numbers place k first second buffer tally r o
      call_applied {first} {second} buffer tally r o called free calls ws ef few cs =
          ap (λ (x : Node). applied free (runs_from T numbers place free calls) x first second ws (work_of tally buffer)) (sym en)
          ∙ applied_call free (runs_from T numbers place free calls) n first second ws (work_of tally buffer) other
          ∙ ap (λ (runs : Runs). runs n.name ws (work_of tally buffer)) (goes_to.runs (run_on T free calls))
          ∙ called child_callable free calls ws ef few cs

-- what holds no call holds none that goes to a child
no_call_moves : (e : Expression) → holds_call e ≡ false → holds_call_to moves e ≡ false
unfolding ◌or◌
no_call_moves e h = neither (holds_call_to stays e) (holds_call_to moves e) (sym (holds_call_either e) ∙ h)
  where
    neither : (a b : Bool) → (a or b) ≡ false → b ≡ false
    neither true b e = absurd (true≢false e)
    neither false b e = e

none_is : (o : Option ℕ) → ((x : ℕ) → o ≡ Some x → ⊥) → o ≡ None
none_is None other = refl
none_is (Some x) other = absurd (other x refl)

-- a procedure called at a place
module _ {plan : List ℕ} {place p : ℕ} (asked : CallableIn plan place p) where
  abbrev caller : Plan plan
  caller = asked.known

  abbrev C : Transformation
  C = caller.transformation

  abbrev Called : (first second : ℕ) (buffer : List ℕ) → Tally → Outcome → List ℕ → Type 0
  Called = Calls C caller.numbers place p

  pub procedure_small : p < most_procedures
  procedure_small = omega (arith, asked.named, caller.tables.procedures.≤most)

  pub stay_small : plan_stay plan < rule_symbols
  stay_small = omega (arith, caller.laid.stay, caller.tables.symbols.≤most)

  pub too_many : {most : ℕ} → most ≡ plan_most plan → {first second : ℕ} (buffer : List ℕ) (tally : Tally) → most ≤ tally.calls
      → Called first second buffer tally (Err (TooManyCalls most)) buffer
  too_many {most} e buffer tally h free calls ws ef few cs =
      let all : most ≡ most_calls C = e ∙ caller.laid.most in
      run_past C free (tree_from caller.numbers place) p ws (work_of tally buffer) calls (omega arith) ∙ ap (refused 15) (sym all)

  -- by the right side that the plan has for it
  module _ {s : ℕ} (es : s ≡ get_or plan (numbers_place + place) 0) where
    symbol_there : s ≡ get_or caller.numbers place 0
    symbol_there = es ∙ caller.laid.symbol place asked.inside

    pub symbol_small : s < rule_symbols
    symbol_small = omega (arith, symbol_there, caller.text.read.symbol place asked.inside)

    root_there : s ≡ root_symbol (tree_from caller.numbers place)
    root_there = symbol_there ∙ sym (root_at caller.text place asked.inside)

    node_small : (r : ℕ) → r < rule_count C.rules → (rule_at C.rules r).node < most_nodes
    node_small r h = omega (arith, (caller.tables.rule r h).node, caller.tables.nodes_few)

    few-symbols : C.symbols < rule_symbols
    few-symbols = omega (arith, caller.tables.symbols.≤most)

    pub no_rule : ((side : ℕ) → plan_sought plan p s ≡ Some side → ⊥) → {first second : ℕ} (buffer : List ℕ) (tally : Tally) → tally.calls < plan_most plan
        → {procedure : Procedure} → procedure.0 ≡ p
        → Called first second buffer tally (Err (NoRule procedure)) buffer
    no_rule none buffer tally few ep free calls ws ef enough cs =
        run_stuck C free (tree_from caller.numbers place) p ws (work_of tally buffer) (omega (arith, caller.laid.most)) calls enough
        (rw (← root_there) (no_rule_taken caller.laid node_small few-symbols p procedure_small s symbol_small (sym (none_is _ none))))
        ∙ ap (refused 13) (sym ep)

    -- a right side
    module _ {side : ℕ} (found : plan_sought plan p s ≡ Some side) where
      taken : RuleTaken C p s side
      taken = rule_taken caller.laid node_small few-symbols p procedure_small s symbol_small side (sym found)

      -- it can be evaluated there
      pub side_able : Evaluable C caller.numbers place side
      side_able =
          let good = caller.tables.rule taken.rule taken.there in
          rw taken.node (record {
            inside = asked.inside;
            there = good.node;
            quiet = λ z. each_call_elsewhere moves _ (quiet z taken.symbol);
          })
        where
          quiet : get_or caller.numbers place 0 ≡ 0
              → ((rule_at C.rules taken.rule).symbol ≡ s) ⊎ ((rule_at C.rules taken.rule).symbol ≡ C.symbols)
              → holds_call_to moves (expression C.counts C.nodes (rule_at C.rules taken.rule).node) ≡ false
          quiet z (inl own) = no_call_moves _ ((caller.tables.rule taken.rule taken.there).leaf_holds_no_call (own ∙ symbol_there ∙ z))
          quiet z (inr stay) = (caller.tables.rule taken.rule taken.there).stay_stays stay

      abbrev pub side_evaluable : EvaluableIn plan place side
      side_evaluable = record { known = caller; able = side_able }

      module _ (tally : Tally) (few : tally.calls < plan_most plan) where
        counted : tally.calls < most_calls C
        counted = omega (arith, caller.laid.most)

        pub called : {first second : ℕ} (buffer : List ℕ) (r : Outcome) (o : List ℕ)
            → EvaluatesIn plan place side first second buffer (record { used = tally.used; calls = tally.calls + 1 }) r o
            → Called first second buffer tally r o
        called buffer r o evaluated free zero ws ef enough cs = absurd (omega (arith, counted))
        called buffer r o evaluated free (suc calls) ws ef enough cs =
            run_goes C free (tree_from caller.numbers place) p ws (work_of tally buffer) counted calls taken.rule (rw (← root_there) taken.sought)
            ∙ rw (← taken.node, ← add-one tally.calls) (evaluated side_evaluable free calls ws ef (omega arith) cs)
