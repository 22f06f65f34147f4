-- The words of the nodes on a list, one after another, where what a node refers to stands on the list before the node.
use Rattle.std.specs.Prelude.{◌≡◌, refl, List, Bool, cond, eqb, get_or, set}
use Rattle.std.proofs.Common.{ap, subst, sym, ◌∙◌, not-suc-le-zero, add-one, arith, length-set, get_or-set_other}
use Prim.Native.Nat.{ℕ, zero, suc, ◌+◌, ◌^◌, ◌<◌, ◌≤◌}
use Rattle.std.proofs.Math.Decide.{ℕ_discrete}
use borrow.Author.Tests.{eq-eqb, ne_eqb}
use Rattle.std.proofs.Math.Arith.{lt_of_le-ne}
use Rattle.std.proofs.Math.ListN.{length}
use Rattle.std.proofs.Math.Seq.{get_or-set_same}
use Rattle.model.specs.Tables.{Contract, Node, node_at, node_count, count_of}
use Rattle.model.specs.Expressions.{Child}
use Rattle.model.specs.Facts.{on_side}
use Rattle.model.specs.Kinds.{facts_in}
use Rattle.model.specs.Admission.{references}
use Rattle.model.proofs.Laws.Established.{GoodNode, good_parameter, good_nothing, good_symbol, good_call}
use Rattle.kind_words.specs.Blocks.{Words, facts_from, widened}
use Rattle.kind_words.specs.Nodes.{node_word, output_word, call_word, LanesAre, NodeIs, ReferredIs, node_word_is}
use Rattle.kind_words.specs.Called.{procedure_word, called_word, OffsetsIn, Narrow, called_is}

-- how the words of a contract are laid out: output states, the width of a lane, a lane of ones, the first bit of each lane,
-- and the words of the two parameters
pub record Layout : Type 0 where
  pub states : ℕ
  pub width : ℕ
  pub ones : ℕ
  pub starts : ℕ
  pub first : ℕ
  pub second : ℕ

-- the word of a node from the words of the nodes so far
unfoldable pub step_of : Layout → (offsets counts table left_kind right_kind words : List ℕ) → Node → ℕ
step_of lay offsets counts table left_kind right_kind words node =
    node_word lay.states lay.width lay.ones lay.starts table node.tag node.name (count_of counts node.name)
    (called_word lay.states lay.width counts offsets left_kind right_kind node.tag node.child node.name)
    lay.first
    lay.second
    (get_or words node.first 0)
    (get_or words node.second 0)

-- the word of node n
abbrev pub node_step : Layout → (offsets counts table nodes left_kind right_kind words : List ℕ) → ℕ → ℕ
node_step lay offsets counts table nodes left_kind right_kind words n =
    step_of lay offsets counts table left_kind right_kind words (node_at nodes n)

-- by the node's tag
module _ (lay : Layout) (offsets counts table left_kind right_kind words : List ℕ) (node : Node) where
  pub step_parameter : node.tag ≡ 0
      → step_of lay offsets counts table left_kind right_kind words node ≡ cond (eqb node.name 1) lay.first lay.second
  unfolding step_of node_word
  step_parameter t = rw (eq-eqb node.tag 0 t)

  pub step_output : node.tag ≡ 1
      → step_of lay offsets counts table left_kind right_kind words node
      ≡ output_word lay.states lay.width lay.ones table node.name (get_or words node.first 0) (get_or words node.second 0)
  unfolding step_of node_word
  step_output t = rw (ne_eqb node.tag 0 (λ e. omega arith), eq-eqb node.tag 1 t)

  -- a call of procedure p, whose facts stand from a number on
  pub step_call : (p number facts : ℕ) → node.tag ≡ 2 → p ≡ node.name → number ≡ get_or offsets p 0
      → facts
      ≡ cond (eqb node.child 1) (widened lay.states lay.width (lay.states ^ count_of counts p) (facts_from left_kind number))
      (widened lay.states lay.width (lay.states ^ count_of counts p) (facts_from right_kind number))
      → step_of lay offsets counts table left_kind right_kind words node
      ≡ call_word lay.states lay.width lay.ones lay.starts (count_of counts p) facts (get_or words node.first 0) (get_or words node.second 0)
  unfolding step_of node_word called_word procedure_word
  step_call p number facts t ep en ef =
      rw (ne_eqb node.tag 0 (λ e. omega arith), ne_eqb node.tag 1 (λ e. omega arith), eq-eqb node.tag 2 t, ef, en, ep)

-- the words after the first i places of a list
unfoldable pub filled_to : (step : List ℕ → ℕ → ℕ) (list : ℕ → ℕ) (words : List ℕ) → ℕ → List ℕ
filled_to step list words zero = words
filled_to step list words (suc i) = set (filled_to step list words i) (list i) (step (filled_to step list words i) (list i))

-- place i of a list
abbrev pub at : List ℕ → ℕ → ℕ
at list i = get_or list i 0

-- a list of nodes
abbrev pub AreNodes : (nodes list : List ℕ) → Type 0
AreNodes nodes list = (i : ℕ) → i < length list → at list i < node_count nodes

-- the words of the nodes on a list, where `before` is what the words were
abbrev pub words_on : Layout → (offsets counts table nodes left_kind right_kind list before : List ℕ) → List ℕ
words_on lay offsets counts table nodes left_kind right_kind list before =
    filled_to (λ (words : List ℕ) (n : ℕ). node_step lay offsets counts table nodes left_kind right_kind words n) (at list) before (length list)

pub filled_none : (step : List ℕ → ℕ → ℕ) (list : ℕ → ℕ) (words : List ℕ) → words ≡ filled_to step list words 0
unfolding filled_to
filled_none step list words = refl

pub filled_more : (step : List ℕ → ℕ → ℕ) (list : ℕ → ℕ) (words current : List ℕ) (i n w : ℕ) → current ≡ filled_to step list words i → n ≡ list i
    → w ≡ step current n
    → set current n w ≡ filled_to step list words (i + 1)
unfolding filled_to
filled_more step list words current i n w e en ew = rw (ew, en, e, add-one)

pub length_filled : (step : List ℕ → ℕ → ℕ) (list : ℕ → ℕ) (words : List ℕ) (i : ℕ) → length (filled_to step list words i) ≡ length words
unfolding filled_to
length_filled step list words zero = refl
length_filled step list words (suc i) = length-set (filled_to step list words i) _ _ ∙ length_filled step list words i

-- node n stands on the list before place i
pub record Before (list : ℕ → ℕ) (i n : ℕ) : Type 0 where
  pub at : ℕ
  pub less : at < i
  pub eq : list at ≡ n

module _ (counts nodes : List ℕ) where
  -- what node n refers to stands on the list before place i
  pub record RefersBefore (list : ℕ → ℕ) (i n : ℕ) : Type 0 where
    pub first : 1 ≤ references counts (node_at nodes n) → Before list i (node_at nodes n).first
    pub second : 2 ≤ references counts (node_at nodes n) → Before list i (node_at nodes n).second

  -- n nodes on a list, each after what it refers to
  pub record ListOf (list : ℕ → ℕ) (n : ℕ) : Type 0 where
    pub is_node : (i : ℕ) → i < n → list i < node_count nodes
    pub after : (i : ℕ) → i < n → RefersBefore list i (list i)

-- a list that has the same nodes at its first n places
module _ (list list' : ℕ → ℕ) (n : ℕ) (same : (i : ℕ) → i < n → list' i ≡ list i) where
  pub before_same : (i m : ℕ) → i ≤ n → Before list i m → Before list' i m
  before_same i m l b = record { at = b.at; less = b.less; eq = same b.at (omega (arith, b.less)) ∙ b.eq }

  pub list_same : (counts nodes : List ℕ) → ListOf counts nodes list n → ListOf counts nodes list' n
  list_same counts nodes h =
      record {
        is_node = λ i l. rw (same i l) (h.is_node i l);
        after = λ i l.
            subst (λ (m : ℕ). RefersBefore counts nodes list' i m) (sym (same i l))
            (record {
              first = λ k. before_same i _ (omega arith) ((h.after i l).first k);
              second = λ k. before_same i _ (omega arith) ((h.after i l).second k);
            });
      }

module _ (C : Contract) (K : ℕ) (l r : List ℕ) (offsets : List ℕ) (ones starts first second : ℕ) where
  abbrev O : ℕ
  O = C.output.states

  abbrev called : Child → ℕ → ℕ → List ℕ → Bool
  called = on_side (facts_in C l) (facts_in C r)

  abbrev pub layout : Layout
  layout = record { states = O; width = O ^ K; ones = ones; starts = starts; first = first; second = second }

  abbrev pub step : List ℕ → ℕ → ℕ
  step words n = node_step layout offsets C.transformation.counts C.output.table C.transformation.nodes l r words n

  abbrev pub IsNode : ℕ → ℕ → Type 0
  IsNode n w = NodeIs C.transformation C.output called K n w

  -- what the words of the nodes start from
  pub record StepsFrom : Type 0 where
    pub lanes : LanesAre O K ones starts first second
    pub some : 0 < O ^ K
    pub entry : (k : ℕ) → get_or C.output.table k 0 < O
    pub few : (p : ℕ) → count_of C.transformation.counts p ≤ 2
    pub node : (n : ℕ) → n < node_count C.transformation.nodes
        → GoodNode C.transformation.symbols C.transformation.counts n (node_at C.transformation.nodes n)
    pub place : OffsetsIn C offsets
    pub narrow : Narrow C K
    pub left_words : Words l
    pub right_words : Words r

  procedure_of_call : {S : ℕ} {counts : List ℕ} {n : ℕ} {node : Node} → GoodNode S counts n node → node.tag ≡ 2 → node.name < length counts
  procedure_of_call (good_parameter t h1 h2) e = absurd (omega arith)
  procedure_of_call (good_nothing t z) e = absurd (omega arith)
  procedure_of_call (good_symbol t h1 h2 h3 h4) e = absurd (omega arith)
  procedure_of_call (good_call t h c h1 h2) e = h

  module _ (from : StepsFrom) where
    step_is : (words : List ℕ) (n : ℕ) → n < node_count C.transformation.nodes
        → ReferredIs C.transformation C.output called K n (get_or words (node_at C.transformation.nodes n).first 0) (get_or words (node_at C.transformation.nodes n).second 0)
        → IsNode n (step words n)
    unfolding step_of
    step_is words n h referred =
        node_word_is C.transformation C.output called K C.transformation.symbols n _ ones starts first second _ _ from.lanes from.some
        from.entry
        from.few
        (from.node n h)
        referred
        (λ t. called_is C l r K offsets _ _ _ from.place from.narrow from.left_words from.right_words t (procedure_of_call (from.node n h) t))

    -- the nodes at the first i places have their words
    abbrev pub Done : (ℕ → ℕ) → List ℕ → ℕ → Type 0
    Done list words i = (j : ℕ) → j < i → IsNode (list j) (get_or words (list j) 0)

    pub done_at : (list : ℕ → ℕ) (words : List ℕ) (i n : ℕ) → Done list words i → Before list i n → IsNode n (get_or words n 0)
    done_at list words i n done b = subst (λ (m : ℕ). IsNode m (get_or words m 0)) b.eq (done b.at b.less)

    pub filled_is : (list : ℕ → ℕ) (words : List ℕ) (n : ℕ) → ListOf C.transformation.counts C.transformation.nodes list n → node_count C.transformation.nodes ≤ length words
        → (i : ℕ) → i ≤ n → Done list (filled_to step list words i) i
    unfolding filled_to
    filled_is list words n is long zero l j hj = absurd (not-suc-le-zero hj)
    filled_is list words n is long (suc i) l j hj = go (filled_is list words n is long i (omega arith)) (ℕ_discrete (list j) (list i))
      where
        go : Done list (filled_to step list words i) i → Dec (list j ≡ list i)
            → IsNode (list j) (get_or (set (filled_to step list words i) (list i) (step (filled_to step list words i) (list i))) (list j) 0)
        go done (yes e) =
            let before : RefersBefore C.transformation.counts C.transformation.nodes list i (list i) = is.after i (omega arith) in
            let inside : list i < length (filled_to step list words i) =
            rw (length_filled step list words i) (omega (arith, is.is_node i (omega arith))) in
            rw (e, get_or-set_same (filled_to step list words i) (list i) (step (filled_to step list words i) (list i)) 0 inside)
            (step_is (filled_to step list words i) (list i) (is.is_node i (omega arith))
            (record {
              first = λ h. done_at list (filled_to step list words i) i _ done (before.first h);
              second = λ h. done_at list (filled_to step list words i) i _ done (before.second h);
            }))
        go done (no ne) =
            let hj' : j < i = lt_of_le-ne {i = j} {k = i} (omega arith) (λ (q : j ≡ i). ne (ap list q)) in
            rw (get_or-set_other (filled_to step list words i) (list i) (list j) (step (filled_to step list words i) (list i)) 0 ne) (done j hj')
