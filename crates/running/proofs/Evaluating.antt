-- What evaluating an operand comes to, and what evaluating a node does, from what its operands and applying it come to: a lemma for each
-- answer of the code.
use mathlib.Core.Path.{◌≡◌, refl, ap, subst, sym, ◌∙◌}
use mathlib.Core.Bool.{Bool, true, false}
use mathlib.Core.List.{List, [], ◌∷◌}
use Prim.Native.Nat.{ℕ, zero, suc, ◌+◌, ◌-◌, ◌<◌, ◌≤◌}
use native.Mathlib.Nat.{not-suc-le-zero}
use native.Mathlib.Omega.{arith}
use native.Mathlib.Decide.{dec_lt}
use lib.Dec.{eqb}
use lib.ListN.{length, get_or}
use borrow.Author.Tests.{eqb-false}
use Rattle.std.specs.Prelude.{Ok, Err}
use Rattle.foundation.specs.Tests.{choose}
use Rattle.model.specs.Rows.{row_count}
use Rattle.model.specs.Tables.{Transformation, Node, node_at, node_count, count_of}
use Rattle.model.specs.Expressions.{expression}
use Rattle.model.specs.Running.{Work, Step, made, refused, ◌after◌, most_calls, run_on}
use Rattle.model.proofs.Laws.Documents.{tree_from}
use Rattle.model.proofs.Laws.Established.{Between, GoodNode}
use Rattle.model.proofs.Laws.Calling.{Holds, Made as AtLeast, evaluate_grown, child_growing, run_on_grown}
use Rattle.running.specs.declared.Tally.{Tally}
use Rattle.running.specs.declared.RunFault.{RunFault}
use Rattle.running.specs.declared.RunFault.TheVariants.{NoRule, NoRow, TooManyCalls}
use Rattle.plans.specs.Plans.{plan_node, Laid, most_procedures}
use Rattle.running.specs.Work.{Outcome, work_of, step_of, parameter_row, operand_count, plan_operands, operand_node}
use Rattle.running.specs.Promises.{Plan, EvaluableIn, Evaluable, OperableIn, Carries, operated, runs_from, value_from, Evaluates, EvaluatesIn, Operates, OperatesIn, AppliesIn}
use Rattle.running.proofs.Steps.{step_parameter, step_node, operand_smaller, operand_quiet, operated_none, operated_there, rows_of, call_named, parameter_name}

-- a refusal
abbrev pub Refused : Outcome → Type 0
Refused (Ok _) = ⊥
Refused (Err _) = Unit {0}

made_not_refused : (row : ℕ) (tally : Tally) → Refused (Ok (row, tally)) → ⊥
made_not_refused row tally h = h

-- a fault ends the work, whatever was to follow
stops : {s : Step ℕ} (free : ℕ) (fault : RunFault) (o : List ℕ) (k : ℕ → Work → Step ℕ) → s ≡ step_of free (Err fault) o → (s after k) ≡ step_of free (Err fault) o
unfolding ◌after◌
stops free (NoRule procedure) o k e = rw e
stops free NoRow o k e = rw e
stops free (TooManyCalls most) o k e = rw e

-- a buffer that is as long as another is no longer than that one may be
pub fewer : {m n : ℕ} → m ≡ n → n ≤ 12288 → m ≤ 12288
fewer same few = omega arith

goes : {s : Step ℕ} (a : ℕ) (w : Work) (k : ℕ → Work → Step ℕ) → s ≡ made a w → (s after k) ≡ k a w
unfolding ◌after◌
goes a w k e = rw e

-- the row of a step, where it has one
abbrev row_of : Step ℕ → ℕ
row_of (made a w) = a
row_of (refused number place) = 0

-- how many operands a node has, read from a plan
operands_read : {T : Transformation} {numbers ends plan : List ℕ} → Laid T numbers ends plan → (n : Node) → ((n.tag ≡ 1 → ⊥) → n.name < length T.counts)
    → plan_operands plan n ≡ operand_count T.counts n
unfolding operand_count
operands_read {T} {numbers} {ends} {plan} laid n named = go (eqb n.tag 1) refl
  where
    go : (b : Bool) → eqb n.tag 1 ≡ b → choose b (choose (eqb n.name 0) 0 2) (get_or plan n.name 0) ≡ choose b (choose (eqb n.name 0) 0 2) (count_of T.counts n.name)
    go true e = refl
    go false e = laid.count n.name (named (eqb-false n.tag 1 e))

-- node k of a plan is the transformation's, and a good one
module _ {plan : List ℕ} (known : Plan plan) {k : ℕ} (there : k < node_count known.transformation.nodes) where
  node_read : plan_node plan k ≡ node_at known.transformation.nodes k
  node_read = known.laid.node k there

  good_node : GoodNode known.transformation.symbols known.transformation.counts k (node_at known.transformation.nodes k)
  good_node = known.tables.node k there

-- an operand of node k of a plan
module _ {plan : List ℕ} {place k : ℕ} (asked : OperableIn plan place k) {n : Node} (read : n ≡ plan_node plan k) where
  abbrev T : Transformation
  T = asked.known.transformation

  abbrev numbers : List ℕ
  numbers = asked.known.numbers

  abbrev here : Node
  here = node_at T.nodes k

  en : n ≡ here
  en = read ∙ node_read asked.known asked.able.there

  good : GoodNode T.symbols T.counts k here
  good = good_node asked.known asked.able.there

  named : (n.tag ≡ 1 → ⊥) → n.name < length T.counts
  named other = rw en (call_named T.counts good asked.inner (rw en at other))

  pub named_small : (n.tag ≡ 1 → ⊥) → n.name < most_procedures
  named_small other = omega (arith, named other, asked.known.tables.procedures.≤most)

  module _ {number : ℕ} (either : Between 1 2 number) {count : ℕ} (found : count ≡ plan_operands plan n) where
    counted : count ≡ operand_count T.counts here
    counted = found ∙ operands_read asked.known.laid n named ∙ ap (operand_count T.counts) en

    pub operand_none : count < number → {first second : ℕ} (buffer : List ℕ) (tally : Tally) → Operates T numbers place k number first second buffer tally (Ok (0, tally)) buffer
    operand_none none buffer tally free calls ws ef few cs =
        operated_none T.counts here number (value_from T numbers place free calls ws) (work_of tally buffer) (omega (arith, counted))

    module _ (there : number ≤ count) {m : ℕ} (em : m ≡ operand_node number n) where
      enough : number ≤ operand_count T.counts here
      enough = omega (arith, counted)

      operand_here : m ≡ operand_node number here
      operand_here = em ∙ ap (operand_node number) en

      pub operand_falls : m < k
      operand_falls = rw operand_here (operand_smaller T.counts number either good asked.inner enough)

      pub operand_able : Evaluable T numbers place m
      operand_able =
          record {
            inside = asked.able.inside;
            there = omega (arith, operand_falls, asked.able.there);
            quiet = λ z. rw operand_here (operand_quiet T.counts T.nodes k number either good asked.inner enough (asked.able.quiet z));
          }

      abbrev pub operand_evaluable : EvaluableIn plan place m
      operand_evaluable = record { known = asked.known; able = operand_able }

      pub operand_evaluated : {first second : ℕ} (buffer : List ℕ) (tally : Tally) (r : Outcome) (o : List ℕ) → EvaluatesIn plan place m first second buffer tally r o
          → Operates T numbers place k number first second buffer tally r o
      operand_evaluated buffer tally r o evaluated free calls ws ef few cs =
          operated_there T.counts here number (value_from T numbers place free calls ws) (work_of tally buffer) enough
          ∙ ap (λ (i : ℕ). value_from T numbers place free calls ws i (work_of tally buffer)) (sym operand_here)
          ∙ evaluated operand_evaluable free calls ws ef few cs

-- an operand that is evaluated makes no call undone, and has row 0 where there is none
module _ (T : Transformation) (numbers : List ℕ) (place k number first second : ℕ) (buffer : List ℕ) (tally : Tally) (a : ℕ) (t₁ : Tally) (o : List ℕ)
    (operates : Operates T numbers place k number first second buffer tally (Ok (a, t₁)) o) where
  abbrev n₀ : Node
  n₀ = node_at T.nodes k

  abbrev value : ℕ → Work → Step ℕ
  value = value_from T numbers place (row_count buffer) (most_calls T) (first ∷ second ∷ [])

  abbrev step : Step ℕ
  step = operated T.counts n₀ number value (work_of tally buffer)

  made_so : step ≡ made a (work_of t₁ o)
  made_so = operates (row_count buffer) (most_calls T) (first ∷ second ∷ []) refl (omega arith) (record { one = refl; two = refl })

  pub calls_grown : tally.calls ≤ t₁.calls
  calls_grown = subst (Holds (AtLeast tally.calls)) made_so (go (dec_lt (operand_count T.counts n₀) number))
    where
      go : Dec (operand_count T.counts n₀ < number) → Holds (AtLeast tally.calls) step
      go (yes l) = rw (operated_none T.counts n₀ number value (work_of tally buffer) l) (omega arith)
      go (no ne) =
          rw (operated_there T.counts n₀ number value (work_of tally buffer) (omega arith))
          (evaluate_grown T (row_count buffer) (runs_from T numbers place (row_count buffer) (most_calls T))
          (child_growing T (row_count buffer) (run_on T (row_count buffer) (most_calls T)) (run_on_grown T (row_count buffer) (most_calls T)) (tree_from numbers place))
          (expression T.counts T.nodes (operand_node number n₀)) (first ∷ second ∷ []) tally.calls (work_of tally buffer) (omega arith))

  pub none_given : operand_count T.counts n₀ < number → a ≡ 0
  none_given l = ap row_of (sym made_so ∙ operated_none T.counts n₀ number value (work_of tally buffer) l)

rows_carried : (count a b : ℕ) → (count < 1 → a ≡ 0) → (count < 2 → b ≡ 0) → Carries (rows_of count a b) a b
rows_carried zero a b x y = record { one = sym (x (omega arith)); two = sym (y (omega arith)) }
rows_carried (suc zero) a b x y = record { one = refl; two = sym (y (omega arith)) }
rows_carried (suc (suc m)) a b x y = record { one = refl; two = refl }

-- node k of a plan, at a place of the document
module _ {plan : List ℕ} {place k : ℕ} (asked : EvaluableIn plan place k) {n : Node} (read : n ≡ plan_node plan k) where
  abbrev M : Transformation
  M = asked.known.transformation

  abbrev text : List ℕ
  text = asked.known.numbers

  abbrev this : Node
  this = node_at M.nodes k

  et : n ≡ this
  et = read ∙ node_read asked.known asked.able.there

  pub parameter_evaluated : n.tag ≡ 0 → {first second : ℕ} (buffer : List ℕ) (tally : Tally) {r : ℕ} → r ≡ parameter_row n.name first second
      → Evaluates M text place k first second buffer tally (Ok (r, tally)) buffer
  parameter_evaluated t {first} {second} buffer tally {r} er free calls ws ef few cs =
      let t' : this.tag ≡ 0 = rw et at t in
      let (low, high) = parameter_name M.counts (good_node asked.known asked.able.there) t' in
      step_parameter M free _ ws (work_of tally buffer) k t'
      ∙ ap (λ (x : ℕ). made x (work_of tally buffer)) (named_row this.name low high ∙ sym (rw et at er))
    where
      named_row : (name : ℕ) → 1 ≤ name → name ≤ 2 → get_or ws (name - 1) 0 ≡ parameter_row name first second
      named_row zero l h = absurd (not-suc-le-zero l)
      named_row (suc zero) l h = cs.one
      named_row (suc (suc zero)) l h = cs.two
      named_row (suc (suc (suc m))) l h = absurd (omega arith)

  -- where it is no parameter, what its operands and applying it come to
  module _ (inner : n.tag ≡ 0 → ⊥) where
    pub inner' : this.tag ≡ 0 → ⊥
    inner' = rw et at inner

    abbrev pub operable : OperableIn plan place k
    operable = record { known = asked.known; able = asked.able; inner = inner' }

    module _ {first second : ℕ} (buffer : List ℕ) (tally : Tally) (x : Outcome) (o₁ : List ℕ) (operates : OperatesIn plan place k 1 first second buffer tally x o₁) where
      abbrev Gives : Outcome → List ℕ → Type 0
      Gives = Evaluates M text place k first second buffer tally

      pub first_stopped : {fault : RunFault} → x ≡ Err fault → Gives (Err fault) o₁
      first_stopped {fault} ex free calls ws ef few cs =
          step_node M free (runs_from M text place free calls) ws (work_of tally buffer) k (good_node asked.known asked.able.there) inner'
          ∙ stops free fault o₁ _ (rw ex at (operates operable free calls ws ef few cs))

      module _ {a : ℕ} {t₁ : Tally} (ex : x ≡ Ok (a, t₁)) (same : length o₁ ≡ length buffer) where
        operates₁ : Operates M text place k 1 first second buffer tally (Ok (a, t₁)) o₁
        operates₁ = rw ex at (operates operable)

        pub first_grown : tally.calls ≤ t₁.calls
        first_grown = calls_grown M text place k 1 first second buffer tally a t₁ o₁ operates₁

        module _ (y : Outcome) (o₂ : List ℕ) (operates' : OperatesIn plan place k 2 first second o₁ t₁ y o₂) where
          second_given : (free calls : ℕ) (ws : List ℕ) → free ≡ row_count buffer → most_calls M ≤ calls + tally.calls → Carries ws first second
              → operated M.counts this 2 (value_from M text place free calls ws) (work_of t₁ o₁) ≡ step_of free y o₂
          second_given free calls ws ef few cs = operates' operable free calls ws (rw same ef) (omega (arith, first_grown)) cs

          pub second_stopped : {fault : RunFault} → y ≡ Err fault → Gives (Err fault) o₂
          second_stopped {fault} ey free calls ws ef few cs =
              step_node M free (runs_from M text place free calls) ws (work_of tally buffer) k (good_node asked.known asked.able.there) inner'
              ∙ goes a (work_of t₁ o₁) _ (operates₁ free calls ws ef few cs)
              ∙ stops free fault o₂ _ (rw ey at (second_given free calls ws ef few cs))

          module _ {b : ℕ} {t₂ : Tally} (ey : y ≡ Ok (b, t₂)) where
            operates₂ : Operates M text place k 2 first second o₁ t₁ (Ok (b, t₂)) o₂
            operates₂ = rw ey at (operates' operable)

            pub second_grown : t₁.calls ≤ t₂.calls
            second_grown = calls_grown M text place k 2 first second o₁ t₁ b t₂ o₂ operates₂

            pub node_evaluated : length o₂ ≡ length buffer → (r : Outcome) (o : List ℕ) → AppliesIn plan place k a b o₂ t₂ r o → Gives r o
            node_evaluated same₂ r o applies free calls ws ef few cs =
                step_node M free (runs_from M text place free calls) ws (work_of tally buffer) k (good_node asked.known asked.able.there) inner'
                ∙ goes a (work_of t₁ o₁) _ (operates₁ free calls ws ef few cs)
                ∙ goes b (work_of t₂ o₂) _ (second_given free calls ws ef few cs ∙ ap (λ (z : Outcome). step_of free z o₂) ey)
                ∙ applies operable free calls (rows_of (operand_count M.counts this) a b) (rw same₂ ef) (omega (arith, first_grown, second_grown))
                (rows_carried (operand_count M.counts this) a b
                (none_given M text place k 1 first second buffer tally a t₁ o₁ operates₁)
                (none_given M text place k 2 first second o₁ t₁ b t₂ o₂ operates₂))
