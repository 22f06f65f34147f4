-- "other contracts keep their answers" (change request W-208), part by part: of a node and of a rule the same is wrong, the rules being
-- asked only where the nodes are good, so that none holds a call that stays; a kind is closed as it stands; a run goes by recursion on the
-- tree. The operations are functions of these parts.
use mathlib.Core.Path.{◌≡◌, refl, ap, ap₂, sym, ◌∙◌}
use mathlib.Core.Bool.{Bool, true, false, not, true≢false}
use mathlib.Core.List.{List, [], map, map-id}
use Prim.Native.Nat.{ℕ, zero, suc, ◌+◌, ◌<◌, ◌≤◌}
use native.Mathlib.Nat.{not-suc-le-zero}
use native.Mathlib.Omega.{arith}
use native.Mathlib.Decide.{ℕ_discrete, dec_lt}
use borrow.Author.Tests.{le-ltb, le-leb, lt-leb, lt-ltb, ne_eqb}
use lib.Dec.{eqb, ltb, leb}
use lib.ListN.{take}
use Rattle.foundation.specs.Tests.{choose}
use Rattle.foundation.specs.TestLaws.{or_false}
use Rattle.foundation.specs.Search.{greatest, first_none, first_cong}
use Rattle.foundation.specs.Lists.{same_list}
use Rattle.model.specs.Trees.{Tree, empty, node, root_symbol, every_tree}
use Rattle.model.specs.Tables.{Contract, Transformation, Node, node_at, node_count, Rule, rule_at, rule_count}
use Rattle.model.specs.Expressions.{Child, left, right, here, stays, Expression, child_of, arguments_of, expression, holds_call_to, some_holds_call_to}
use Rattle.model.specs.Outputs.{Algebra, right_side, RuleFor, of_root, of_any, Gives, by_rule}
use Rattle.model.specs.Admission.{child_wrong, node_fault, lowest_node_fault, rule_wrong, nodes, rules, admission}
use Rattle.model.specs.Facts.{on_side}
use Rattle.model.specs.Kinds.{symbol_kind, kind_of}
use Rattle.model.specs.Rounds.{Listed, lists, listing, kind_automaton}
use Rattle.model.specs.Documents.{leading_tree}
use Rattle.model.specs.Rows.{row_count}
use Rattle.model.specs.Judging.{judging_verdict, judging}
use Rattle.model.specs.Examining.{holds, first_not_held, empty_verdict, closed_verdict, examining}
use Rattle.model.specs.Checking.{stop_height, answered, check, checking_verdict, checking}
use Rattle.model.specs.Running.{Work, Step, ◌after◌, fits, most_calls, seek_rule, Runs, no_runs, on_child, run_at, run_on, run, count_call, evaluate, running_verdict, running}
use Rattle.model.specs.OtherContracts.{WithoutStays, child_wrong_before, node_fault_before, rule_wrong_before, RootOutputs, nodes_before, rules_before, admission_before, seek_before, call_before, run_on_before, run_before, kind_before, automaton_before, rows_before, stop_height_before, check_before, judging_before, checking_before, running_before, first_not_held_before, examining_before, KeepsMeaning, KeepsAnswers}
use Rattle.model.proofs.Laws.Answers.{given_same, then_same, refuse_first_same, refuse_lowest_same}
use Rattle.model.proofs.Laws.Tests.{and_none, or_none, or_sure}
use Rattle.model.proofs.Laws.Calls.{EachCall, each_call_elsewhere}
use Rattle.model.proofs.Laws.Calling.{child_growing, run_on_grown, run_at_alike, run_at_last}
use Rattle.model.proofs.Laws.Stays.{NoStayRule, empty_without, next_without}
use Rattle.model.proofs.Laws.Established.{GoodNode, good_parameter, good_nothing, good_symbol, good_call, Established}
use Rattle.model.proofs.Laws.Expressions.{expression_parameter, expression_nothing, expression_symbol, expression_call}
use Rattle.model.proofs.Laws.Admitted.{nodes_good, established}

-- Nodes and rules

-- of a node that is no call with child 0 the same is wrong
child_same : (n : Node) → (n.tag ≡ 2 → n.child ≡ 0 → ⊥) → child_wrong n ≡ child_wrong_before n
child_same n moves = go (ℕ_discrete n.tag 2)
  where
    go : Dec (n.tag ≡ 2) → child_wrong n ≡ child_wrong_before n
    go (yes t) = let other = moves t in rw (le-ltb n.child 1 (omega (arith, other)))
    go (no ne) = rw (ne_eqb n.tag 2 ne)

fault_same : (S : ℕ) (counts : List ℕ) (k : ℕ) (n : Node) → (n.tag ≡ 2 → n.child ≡ 0 → ⊥) → node_fault S counts k n ≡ node_fault_before S counts k n
unfolding node_fault node_fault_before
fault_same S counts k n moves = rw (child_same n moves)

-- a call with another child does not stay
child_moves : (c : ℕ) → (c ≡ 0 → ⊥) → stays (child_of c) ≡ false
child_moves c ne = rw (ne_eqb c 0 ne) (go (eqb c 1))
  where
    go : (b : Bool) → stays (choose b left right) ≡ false
    go true = refl
    go false = refl

arguments_move : (k : ℕ) (e f : Expression) → (1 ≤ k → holds_call_to stays e ≡ false) → (2 ≤ k → holds_call_to stays f ≡ false)
    → some_holds_call_to stays (arguments_of k e f) ≡ false
unfolding holds_call_to
arguments_move zero e f a b = refl
arguments_move (suc zero) e f a b = or_false _ _ refl ∙ a (omega arith)
arguments_move (suc (suc k)) e f a b = or_false _ _ (or_false _ _ refl ∙ b (omega arith)) ∙ a (omega arith)

-- a symbol other than S is above S if it is not below
above_same : (S s : ℕ) → (s ≡ S → ⊥) → ltb S s ≡ leb S s
above_same S s other = go (dec_lt s S)
  where
    go : Dec (s < S) → ltb S s ≡ leb S s
    go (yes l) = le-ltb S s (omega arith) ∙ sym (lt-leb S s l)
    go (no l) = lt-ltb S s (omega (arith, other)) ∙ sym (le-leb S s (omega arith))

-- Running

module _ (T : Transformation) (none : NoStayRule T) where
  -- "15, a call past 65,536"
  most_without : most_calls T ≡ 65536
  unfolding most_calls
  most_without =
      rw (first_none (λ r. eqb (rule_at T.rules r).symbol T.symbols) (rule_count T.rules) (λ r l. ne_eqb _ _ (none r l)), le-ltb (rule_count T.rules) (rule_count T.rules) (omega arith))

  -- "taking for each call the first rule listed"
  seek_same : (p s : ℕ) (w : Work) → seek_rule T p s w ≡ seek_before T p s w
  unfolding seek_rule seek_before
  seek_same p s w =
      rw (first_none (fits T.rules p T.symbols) (rule_count T.rules) unfit, le-ltb (rule_count T.rules) (rule_count T.rules) (omega arith))
    where
      unfit : (r : ℕ) → r < rule_count T.rules → fits T.rules p T.symbols r ≡ false
      unfit r l = rw (ne_eqb (rule_at T.rules r).symbol T.symbols (none r l)) (and_none (eqb (rule_at T.rules r).procedure p))

  module _ (free : ℕ) where
    call_same : (runs : Child → Runs) (s p : ℕ) (ws : List ℕ) (w : Work) → run_at T free runs s p ws w ≡ call_before T free runs s p ws w
    unfolding run_at call_before
    call_same runs s p ws w =
        rw most_without
        (ap (λ (seek : Work → Step ℕ). count_call 65536 w after λ one w₁. seek w₁ after λ r w₂. evaluate T free runs (right_side T r) ws w₂)
        (λ i w₁. seek_same p s w₁ i))

    -- running procedures on the children of a tree
    abbrev on_children : Tree → Child → Runs
    on_children empty = λ c. no_runs
    on_children (node s l r) = on_side (run_on_before T free l) (run_on_before T free r)

    at_root : (t : Tree) (p : ℕ) (ws : List ℕ) (w : Work) → run_at T free (on_children t) (root_symbol t) p ws w ≡ run_on_before T free t p ws w
    unfolding run_on_before
    at_root empty p ws w = call_same (λ c. no_runs) 0 p ws w
    at_root (node s l r) p ws w = call_same (on_side (run_on_before T free l) (run_on_before T free r)) s p ws w

    -- where no call stays, one that may still make all calls that the tally allows is made by recursion on the tree
    module _ (moving : (r : ℕ) → r < rule_count T.rules → EachCall (λ c p. stays c ≡ false) (right_side T r)) where
      run_on_same : (n : ℕ) (t : Tree) (p : ℕ) (ws : List ℕ) (w : Work) → most_calls T ≤ n + w.tally.calls
          → run_on T free n t p ws w ≡ run_on_before T free t p ws w
      unfolding run_on
      run_on_same zero t p ws w h = sym (run_at_last T free (on_children t) (root_symbol t) p ws w (omega arith)) ∙ at_root t p ws w
      run_on_same (suc n) t p ws w h =
          run_at_alike T free (on_child (run_on T free n) t) (on_children t) (λ c p. stays c ≡ false) (suc w.tally.calls)
          (child_growing T free (run_on T free n) (run_on_grown T free n) t)
          (λ c p vs w₁ m k. alike t c p vs w₁ m (λ t'. run_on_same n t' p vs w₁ (omega arith))) moving (root_symbol t) p ws w (omega arith)
          ∙ at_root t p ws w
        where
          alike : (t : Tree) (c : Child) (p : ℕ) (vs : List ℕ) (w₁ : Work) → stays c ≡ false
              → ((t' : Tree) → run_on T free n t' p vs w₁ ≡ run_on_before T free t' p vs w₁)
              → on_child (run_on T free n) t c p vs w₁ ≡ on_children t c p vs w₁
          alike empty left p vs w₁ m same = refl
          alike empty right p vs w₁ m same = refl
          alike (node s l r) left p vs w₁ m same = same l
          alike (node s l r) right p vs w₁ m same = same r
          alike t here p vs w₁ m same = absurd (true≢false m)

      run_same : (t : Tree) → run T free t ≡ run_before T free t
      unfolding run run_before
      run_same t = run_on_same (most_calls T) t 0 [] _ (omega arith)

module _ (C : Contract) (without : WithoutStays C) where
  abbrev T : Transformation
  T = C.transformation

  abbrev expression_at : ℕ → Expression
  expression_at n = expression T.counts T.nodes n

  -- Admission

  nodes_same : nodes C ≡ nodes_before C
  unfolding nodes lowest_node_fault nodes_before
  nodes_same = refuse_lowest_same _ _ _ (λ k l. fault_same T.symbols T.counts k (node_at T.nodes k) (without.calls k l))

  -- rules matter only where the nodes are good
  module _ (good : (k : ℕ) → k < node_count T.nodes → GoodNode T.symbols T.counts k (node_at T.nodes k)) where
    node_moves : (n : ℕ) → n < node_count T.nodes → GoodNode T.symbols T.counts n (node_at T.nodes n)
        → ((m : ℕ) → m < n → holds_call_to stays (expression_at m) ≡ false)
        → holds_call_to stays (expression_at n) ≡ false
    unfolding holds_call_to
    node_moves n l (good_parameter t a b) below = rw (expression_parameter T.counts T.nodes n t)
    node_moves n l (good_nothing t z) below = rw (expression_nothing T.counts T.nodes n t z)
    node_moves n l (good_symbol t a b x y) below = rw (expression_symbol T.counts T.nodes n t a x y) (or_false _ _ (below _ y) ∙ below _ x)
    node_moves n l (good_call t p c x y) below =
        rw (expression_call T.counts T.nodes n t (record { first = x; second = y }))
        (or_false _ _ (arguments_move _ _ _ (λ k. below _ (x k)) (λ k. below _ (y k))) ∙ child_moves _ (without.calls n l t))

    -- by induction on a bound of the node's number
    moves_below : (b n : ℕ) → n < b → n < node_count T.nodes → holds_call_to stays (expression_at n) ≡ false
    moves_below zero n h l = absurd (not-suc-le-zero h)
    moves_below (suc b) n h l = node_moves n l (good n l) (λ m k. moves_below b m (omega arith) (omega arith))

    expression_moves : (n : ℕ) → n < node_count T.nodes → holds_call_to stays (expression_at n) ≡ false
    expression_moves n l = moves_below (suc n) n (omega arith) l

    rule_same : (r : Rule) → (r.symbol ≡ T.symbols → ⊥)
        → rule_wrong T.symbols T.counts T.nodes r ≡ rule_wrong_before T.symbols T.counts T.nodes r
    rule_same r other = go (dec_lt r.node (node_count T.nodes))
      where
        go : Dec (r.node < node_count T.nodes) → rule_wrong T.symbols T.counts T.nodes r ≡ rule_wrong_before T.symbols T.counts T.nodes r
        go (yes l) =
            rw (above_same T.symbols r.symbol other, ne_eqb r.symbol T.symbols other, expression_moves r.node l, or_none)
        go (no l) = rw (above_same T.symbols r.symbol other, le-leb (node_count T.nodes) r.node (omega arith), or_sure)

    rules_same : rules C ≡ rules_before C
    unfolding rules rules_before
    rules_same = refuse_first_same 7 _ _ _ (λ r l. rule_same (rule_at T.rules r) (without.rules r l))

  admission_same : admission C ≡ admission_before C
  unfolding admission admission_before
  admission_same =
      then_same _ _ _ _ refl λ s.
      then_same _ _ _ _ refl λ l.
      then_same _ _ _ _ refl λ i.
      then_same _ _ _ _ refl λ e.
      then_same _ _ _ _ refl λ c.
      then_same _ _ _ _ nodes_same λ n.
      then_same _ _ _ _ (rules_same (nodes_good C n)) λ r. refl

  -- What an admitted contract means

  root_rule : (A : Algebra) (p : ℕ) (t : Tree) (ws : List A.Carrier) (u : A.Carrier) → Gives T A p t ws u → RootOutputs T A p t ws u
  root_rule A p t ws u (by_rule r l e s m) = (r, l, e, root s, m)
    where
      root : RuleFor T t (rule_at T.rules r).symbol → (rule_at T.rules r).symbol ≡ root_symbol t
      root (of_root e) = e
      root (of_any e) = absurd (without.rules r l e)

  module _ (known : Established C) where
    children_alone : (r : ℕ) → r < rule_count T.rules → holds_call_to stays (right_side T r) ≡ false
    children_alone r l = expression_moves known.node _ (known.rule r l).node

    kinds_same : (t : Tree) → kind_of C t ≡ kind_before C t
    unfolding kind_of kind_before
    kinds_same empty = empty_without C known without.rules
    kinds_same (node s l r) = next_without C known without.rules s _ _ ∙ ap₂ (symbol_kind C s) (kinds_same l) (kinds_same r)

    abbrev automaton_same : kind_automaton C ≡ automaton_before C
    automaton_same =
        λ i.
        record {
          State = List ℕ;
          initial = empty_without C known without.rules i;
          next = λ s l r. next_without C known without.rules s l r i;
          equal = same_list;
          symbols = T.symbols;
        }

    meaning_same : KeepsMeaning C
    meaning_same =
        record {
          outputs = λ A p t ws u. (root_rule A p t ws u, λ o. by_rule o.0 o.1 o.2 (of_root o.3) o.4);
          children = children_alone;
          kinds = kinds_same;
          automaton = automaton_same;
          runs = λ free t. run_same T without.rules free (λ r l. each_call_elsewhere stays _ (children_alone r l)) t;
        }

    -- Checking and examining

    rows_same : (L : ℕ) → listing (kind_automaton C) L ≡ rows_before C L
    rows_same L =
        sym (map-id (listing (kind_automaton C) L))
        ∙ (λ i.
        map (λ (row : Listed (automaton_same i)). record { symbol = row.symbol; left = row.left; right = row.right; state = row.state })
        (listing (automaton_same i) L))

    stop_same : (L : ℕ) → stop_height C L ≡ stop_height_before C L
    unfolding stop_height stop_height_before
    stop_same L =
        λ i. greatest (λ h. every_tree T.symbols h (λ t. lists (automaton_same i) (take L (listing (automaton_same i) L)) (kinds_same t i))) L

    check_same : (L : ℕ) → check C L ≡ check_before C L
    unfolding check answered check_before
    check_same L = rw (rows_same L, stop_same L)

    not_held_same : (words : List ℕ) → first_not_held C words ≡ first_not_held_before C words
    unfolding first_not_held first_not_held_before
    not_held_same words = first_cong _ _ _ (λ c l. ap (λ (kind : List ℕ). not (holds C words kind)) (next_without C known without.rules _ _ _))

pub other_contracts : (C : Contract) → WithoutStays C → KeepsAnswers C
unfolding judging judging_verdict judging_before checking checking_verdict checking_before running running_verdict running_before examining empty_verdict closed_verdict examining_before
other_contracts C without =
    record {
      admits = admits;
      means = λ e. meaning_same C without (established C e);
      judges = λ numbers buffer.
          given_same _ _ _ _ _ _ admits (λ e. rw (kinds_same C without (established C e) (leading_tree C.transformation.symbols numbers)));
      checks = λ L row_buffer word_buffer. given_same _ _ _ _ _ _ admits (λ e. check_same C without (established C e) L);
      runs = λ numbers buffer.
          given_same _ _ _ _ _ _ admits
          (λ e. rw ((meaning_same C without (established C e)).runs (row_count buffer) (leading_tree C.transformation.symbols numbers)));
      examines = λ words.
          then_same _ _ _ _ admits
          (λ e. rw (empty_without C (established C e) without.rules, not_held_same C without (established C e) words));
    }
  where
    admits : admission C ≡ admission_before C
    admits = admission_same C without
