-- The facts that a symbol can see on a side: those of the procedures that the nodes which its rules reach call there.
use Rattle.std.specs.Prelude.{◌≡◌, List, Bool, ◌&&◌, eqb, get_or, set, replicate}
use Rattle.std.proofs.Math.Path.{refl, ap}
use Rattle.std.proofs.Common.{sym, subst, ◌∙◌, not-suc-le-zero, pow-suc, mul_comm, arith, eq-eqb, ne_eqb, eqb-true, get_or-set_same, get_or-set_other, pow_pos, pow_mono}
use Rattle.std.proofs.Math.Bool.{true, false}
use Prim.Native.Nat.{ℕ, zero, suc, ◌+◌, ◌*◌, ◌-◌, ◌/◌, ◌%◌, ◌^◌, ◌<◌, ◌≤◌}
use Rattle.std.proofs.Math.Numerals.{add-one}
use Rattle.std.proofs.Math.Decide.{ℕ_discrete}
use Rattle.std.specs.Int.Bits.{bit_or}
use Rattle.std.proofs.Math.ListN.{length}
use Rattle.foundation.specs.Tests.{choose, ◌or◌, or_left, or_right, true_test, test_true, false_test}
use Rattle.foundation.specs.Words.{bit}
use Rattle.foundation.specs.Bits.{bit_shl, bit_ones, bit-or}
use Rattle.model.specs.Tables.{Contract, Node, node_at, node_count, rule_at, count_of}
use Rattle.model.specs.Expressions.{Child, left, right, here, child_of, Expression, arguments_of, expression}
use Rattle.model.specs.Facts.{offset}
use Rattle.model.specs.Kinds.{empty_bit}
use Rattle.model.specs.Admission.{references, most_facts}
use Rattle.model.proofs.Laws.Established.{Established, GoodNode, good_parameter, good_nothing, good_symbol, good_call}
use Rattle.model.proofs.Laws.Expressions.{expression_parameter, expression_nothing, expression_symbol, expression_call}
use Rattle.model.proofs.Laws.Facts.{offset_next}
use Rattle.kind_words.specs.Sizes.{rule_symbols, most_procedures}
use Rattle.kind_words.specs.Blocks.{with_block, Holds, block_holds, nothing_holds}
use Rattle.kind_words.specs.Listed.{Layout, at, AreNodes, Before, ListOf}
use Rattle.kind_words.specs.Called.{OffsetsIn}
use Rattle.kind_words.specs.Kind.{Prepared, list_of, lanes_fit, offset_inside}
use Rattle.lanes.proofs.Room.{pow_some}
use Rattle.model.proofs.Laws.Calls.{EachCall, EachCallOfAll}
use Rattle.classes.specs.Masks.{ShowsFacts, mask_in}
use Rattle.masks.specs.Seen.{side_of, states_seen, state_seen, marks_seen, empty_seen, Sees}

-- as many ones as a procedure of that many parameters has facts
abbrev pub ones_for : (O count : ℕ) → ℕ
ones_for O count = 2 ^ (O ^ suc count) - 1

-- a node calls a procedure on a side
abbrev pub calls_on : Bool → Node → Bool
calls_on on_right node = eqb node.tag 2 && eqb node.child (choose on_right 2 1)

-- a node's call is of a procedure whose facts fit into a word and have their place in a kind
pub record CallFits (O : ℕ) (counts offsets : List ℕ) (node : Node) : Type 0 where
  pub least : 1 ≤ O
  pub most : O ≤ 4
  pub few : count_of counts node.name ≤ 2
  pub procedures : length counts ≤ most_procedures
  pub named : node.tag ≡ 2 → node.name < length counts
  pub near : node.tag ≡ 2 → get_or offsets node.name 0 < most_facts

-- a mask with the facts that a node calls on a side
unfoldable pub with_call : (O : ℕ) (counts offsets : List ℕ) → Bool → Node → List ℕ → List ℕ
with_call O counts offsets on_right node mask =
    choose (calls_on on_right node) (with_block mask (ones_for O (count_of counts node.name)) (get_or offsets node.name 0)) mask

-- each node on a list, and its call
pub record CallsFit (O : ℕ) (counts offsets nodes list : List ℕ) : Type 0 where
  pub is_node : AreNodes nodes list
  pub call : (i : ℕ) → i < length list → CallFits O counts offsets (node_at nodes (at list i))

-- the mask of the facts that the first n nodes of a list call on a side
module _ (O : ℕ) (counts offsets nodes list : List ℕ) (on_right : Bool) where
  unfoldable pub called_to : ℕ → List ℕ
  called_to zero = replicate 6 0
  called_to (suc i) = with_call O counts offsets on_right (node_at nodes (at list i)) (called_to i)

  pub called_none : replicate 6 0 ≡ called_to 0
  unfolding called_to
  called_none = refl

  pub called_more : (current next : List ℕ) (i : ℕ) → current ≡ called_to i → next ≡ with_call O counts offsets on_right (node_at nodes (at list i)) current
      → next ≡ called_to (i + 1)
  unfolding called_to
  called_more current next i e f = rw (f, e, add-one i)

  -- .. and of all
  abbrev pub facts_called : List ℕ
  facts_called = called_to (length list)

-- the mask of the facts that symbol s can see on a side
abbrev pub facts_seen : Contract → (offsets lists : List ℕ) (s : ℕ) → Bool → List ℕ
facts_seen C offsets lists s on_right = facts_called C.output.states C.transformation.counts offsets C.transformation.nodes (list_of lists s) on_right

-- a mask shows the facts that the first n nodes of a list call on a side
pub record Shown (O : ℕ) (counts nodes : List ℕ) (list : ℕ → ℕ) (on_right : Bool) (n : ℕ) (mask : List ℕ) : Type 0 where
  pub facts : ℕ
  pub holds : Holds mask facts
  pub called : (i : ℕ) → i < n → calls_on on_right (node_at nodes (list i)) ≡ true → (k : ℕ)
      → k < O ^ suc (count_of counts (node_at nodes (list i)).name)
      → bit facts (offset O counts (node_at nodes (list i)).name + k) ≡ true

shown_none : (O : ℕ) (counts nodes : List ℕ) (list : ℕ → ℕ) (on_right : Bool) → Shown O counts nodes list on_right 0 (replicate 6 0)
shown_none O counts nodes list on_right = record { facts = 0; holds = nothing_holds; called = λ i h. absurd (omega arith) }

pub first-true : (a b : Bool) → (a && b) ≡ true → a ≡ true
first-true true b e = refl
first-true false b e = e

or_true_left : (a b : Bool) → a ≡ true → (a or b) ≡ true
or_true_left a b e = test_true _ (or_left a b (true_test a e))

or_true_right : (a b : Bool) → b ≡ true → (a or b) ≡ true
or_true_right a b e = test_true _ (or_right a b (true_test b e))

pub ones_double : (w : ℕ) → 1 ≤ w → (2 ^ (w - 1) - 1) * 2 + 1 ≡ 2 ^ w - 1
ones_double zero h = absurd (omega arith)
ones_double (suc w) h =
    let e : suc w - 1 ≡ w = omega arith in
    let d : 2 ^ suc w ≡ 2 ^ w * 2 = pow-suc 2 w in
    rw (e, d) (omega (arith, pow_pos w))

pub ones_room : (w : ℕ) → 1 ≤ w → w ≤ 64 → (2 ^ (w - 1) - 1) * 2 + 1 < 2 ^ 64
ones_room w h l = let p : 2 ^ w ≤ 2 ^ 64 = pow_mono {i = w} {j = 64} l in rw (ones_double w h) (omega (arith, pow_pos w))

-- a procedure has a fact, and at most 64
pub facts_between : (O count : ℕ) → 1 ≤ O → O ≤ 4 → count ≤ 2 → (1 ≤ O ^ suc count) × (O ^ suc count ≤ 64)
facts_between O count h l k = (pow_some O (suc count) h, rw (pow-suc, mul_comm (O ^ count) O) (lanes_fit O count h l k))

-- one node more
module _ (C : Contract) (known : Established C) where
  abbrev O : ℕ
  O = C.output.states

  abbrev counts : List ℕ
  counts = C.transformation.counts

  abbrev nodes : List ℕ
  nodes = C.transformation.nodes

  called_known : (n : ℕ) → n < node_count nodes → (node_at nodes n).tag ≡ 2 → (node_at nodes n).name < length counts
  called_known n h t = go (known.node n h)
    where
      go : GoodNode C.transformation.symbols counts n (node_at nodes n) → (node_at nodes n).name < length counts
      go (good_parameter e a b) = absurd (omega arith)
      go (good_nothing e z) = absurd (omega arith)
      go (good_symbol e a b x y) = absurd (omega arith)
      go (good_call e p c x y) = p

  shown_more : (offsets : List ℕ) → OffsetsIn C offsets → (list : ℕ → ℕ) (on_right : Bool) (i : ℕ) (mask : List ℕ) → list i < node_count nodes
      → Shown O counts nodes list on_right i mask
      → Shown O counts nodes list on_right (i + 1) (with_call O counts offsets on_right (node_at nodes (list i)) mask)
  unfolding with_call
  shown_more offsets places list on_right i mask h s = go (calls_on on_right (node_at nodes (list i))) refl
    where
      go : (b : Bool) → calls_on on_right (node_at nodes (list i)) ≡ b
          → Shown O counts nodes list on_right (i + 1)
          (choose b (with_block mask (ones_for O (count_of counts (node_at nodes (list i)).name)) (get_or offsets (node_at nodes (list i)).name 0)) mask)
      go false e = record { facts = s.facts; holds = s.holds; called = λ j l t. old j t (ℕ_discrete j i) l }
        where
          old : (j : ℕ) → calls_on on_right (node_at nodes (list j)) ≡ true → Dec (j ≡ i) → j < i + 1 → (k : ℕ)
              → k < O ^ suc (count_of counts (node_at nodes (list j)).name)
              → bit s.facts (offset O counts (node_at nodes (list j)).name + k) ≡ true
          old j t (yes q) l = absurd (false_test true (sym t ∙ ap (λ (m : ℕ). calls_on on_right (node_at nodes (list m))) q ∙ e) tt)
          old j t (no nq) l = s.called j (omega arith) t
      go true e =
          let l : (node_at nodes (list i)).name < length counts = called_known (list i) h (eqb-true _ _ (first-true _ _ e)) in
          record {
            facts = bit_or s.facts (block * 2 ^ from);
            holds = block_holds mask s.facts block from s.holds (small l) (near l);
            called = λ j hj t. more l j t (ℕ_discrete j i) hj;
          }
        where
          block : ℕ
          block = ones_for O (count_of counts (node_at nodes (list i)).name)

          from : ℕ
          from = get_or offsets (node_at nodes (list i)).name 0

          small : (node_at nodes (list i)).name < length counts → block < 2 ^ 64
          small l =
              let w : ℕ = O ^ suc (count_of counts (node_at nodes (list i)).name) in
              let p : 2 ^ w ≤ 2 ^ 64 = pow_mono {i = w} {j = 64} (facts_between O _ known.output_states.least≤ known.output_states.≤most (known.count _)).1 in
              omega (arith, pow_pos w)

          near : (node_at nodes (list i)).name < length counts → from < most_facts
          near l =
              let e : from ≡ offset O counts (node_at nodes (list i)).name = places _ l in
              omega (arith, e, offset_next O counts (node_at nodes (list i)).name l, known.facts, pow_some O (suc (count_of counts (node_at nodes (list i)).name)) known.output_states.least≤)

          more : (node_at nodes (list i)).name < length counts → (j : ℕ) → calls_on on_right (node_at nodes (list j)) ≡ true → Dec (j ≡ i) → j < i + 1 → (k : ℕ)
              → k < O ^ suc (count_of counts (node_at nodes (list j)).name)
              → bit (bit_or s.facts (block * 2 ^ from)) (offset O counts (node_at nodes (list j)).name + k) ≡ true
          more l j t (no nq) hj k hk =
              bit-or s.facts (block * 2 ^ from) (offset O counts (node_at nodes (list j)).name + k)
              ∙ or_true_left _ (bit (block * 2 ^ from) (offset O counts (node_at nodes (list j)).name + k)) (s.called j (omega arith) t k hk)
          more l j t (yes q) hj k hk =
              let hi : k < O ^ suc (count_of counts (node_at nodes (list i)).name) = subst (λ (m : ℕ). k < O ^ suc (count_of counts (node_at nodes (list m)).name)) q hk in
              subst (λ (m : ℕ). bit (bit_or s.facts (block * 2 ^ from)) (offset O counts (node_at nodes (list m)).name + k) ≡ true) (sym q)
              (bit-or s.facts (block * 2 ^ from) (offset O counts (node_at nodes (list i)).name + k)
              ∙ or_true_right (bit s.facts (offset O counts (node_at nodes (list i)).name + k)) _ (ap (λ (f : ℕ). bit (block * 2 ^ from) (f + k)) (sym (places (node_at nodes (list i)).name l)) ∙ bit_shl block from k ∙ bit_ones (O ^ suc (count_of counts (node_at nodes (list i)).name)) k hi))

  shown_to : (offsets : List ℕ) → OffsetsIn C offsets → (list : List ℕ) → AreNodes nodes list → (on_right : Bool) (n : ℕ) → n ≤ length list
      → Shown O counts nodes (at list) on_right n (called_to O counts offsets nodes list on_right n)
  unfolding called_to
  shown_to offsets places list are on_right zero h = shown_none O counts nodes (at list) on_right
  shown_to offsets places list are on_right (suc i) h =
      rw (add-one i) at (shown_more offsets places (at list) on_right i _ (are i (omega arith)) (shown_to offsets places list are on_right i (omega arith)))

-- what every listed call satisfies holds of each call of a listed node's expression
module _ (S : ℕ) (counts nodes : List ℕ) (good : (n : ℕ) → n < node_count nodes → GoodNode S counts n (node_at nodes n)) (list : ℕ → ℕ) (n : ℕ)
    (on_list : ListOf counts nodes list n) (P : Child → ℕ → Type 0)
    (all : (i : ℕ) → i < n → (node_at nodes (list i)).tag ≡ 2 → P (child_of (node_at nodes (list i)).child) (node_at nodes (list i)).name) where
  each_argument : (k : ℕ) (e f : Expression) → (1 ≤ k → EachCall P e) → (2 ≤ k → EachCall P f) → EachCallOfAll P (arguments_of k e f)
  each_argument zero e f a b = tt
  each_argument (suc zero) e f a b = (a (omega arith), tt)
  each_argument (suc (suc k)) e f a b = (a (omega arith), (b (omega arith), tt))

  -- node m, where it stands at a place below i
  abbrev Held : ℕ → Type 0
  Held m = EachCall P (expression counts nodes m)

  at_place : (i m : ℕ) → ((j : ℕ) → j < i → Held (list j)) → Before list i m → Held m
  at_place i m h b = subst (λ (x : ℕ). Held x) b.eq (h b.at b.less)

  each_node : (i : ℕ) → i < n → ((j : ℕ) → j < i → Held (list j)) → GoodNode S counts (list i) (node_at nodes (list i)) → Held (list i)
  each_node i l h (good_parameter t a b) = rw (expression_parameter counts nodes (list i) t) tt
  each_node i l h (good_nothing t z) = rw (expression_nothing counts nodes (list i) t z) tt
  each_node i l h (good_symbol t a b x y) =
      let two : references counts (node_at nodes (list i)) ≡ 2 = rw (eq-eqb _ _ t, ne_eqb (node_at nodes (list i)).name 0 (λ e. omega arith)) in
      rw (expression_symbol counts nodes (list i) t a x y)
      (at_place i _ h ((on_list.after i l).first (omega arith)), at_place i _ h ((on_list.after i l).second (omega arith)))
  each_node i l h (good_call t p c x y) =
      let many : references counts (node_at nodes (list i)) ≡ count_of counts (node_at nodes (list i)).name = rw t in
      rw (expression_call counts nodes (list i) t (record { first = x; second = y }))
      (all i l t, each_argument (count_of counts (node_at nodes (list i)).name) _ _ (λ k. at_place i _ h ((on_list.after i l).first (omega arith))) (λ k. at_place i _ h ((on_list.after i l).second (omega arith))))

  each_below : (b i : ℕ) → i < b → i < n → Held (list i)
  each_below zero i h l = absurd (not-suc-le-zero h)
  each_below (suc b) i h l = each_node i l (λ j k. each_below b j (omega arith) (omega arith)) (good (list i) (on_list.is_node i l))

  pub each_listed : (m : ℕ) → Before list n m → Held m
  each_listed m b = at_place n m (λ j l. each_below n j l l) b

left_not_right : left ≡ right → ⊥
left_not_right e = subst (λ (c : Child). is_left c) e tt
  where
    is_left : Child → Type 0
    is_left left = Unit {0}
    is_left right = ⊥
    is_left here = ⊥

not_here : (b : Bool) → here ≡ side_of b → ⊥
not_here b e = go b (subst (λ (c : Child). is_here c) e tt)
  where
    is_here : Child → Type 0
    is_here left = ⊥
    is_here right = ⊥
    is_here here = Unit {0}

    go : (b : Bool) → is_here (side_of b) → ⊥
    go true h = h
    go false h = h

child_on : (c : ℕ) (b : Bool) → c ≤ 2 → child_of c ≡ side_of b → eqb c (choose b 2 1) ≡ true
child_on zero b m e = absurd (not_here b e)
child_on (suc zero) false m e = refl
child_on (suc zero) true m e = absurd (left_not_right e)
child_on (suc (suc zero)) true m e = refl
child_on (suc (suc zero)) false m e = absurd (left_not_right (sym e))
child_on (suc (suc (suc c))) b m e = absurd (omega arith)

-- what a prepared contract has for symbol s
module _ {C : Contract} {lay : Layout} {offsets lists : List ℕ} (prepared : Prepared C lay offsets lists) (s : ℕ) (h : s < rule_symbols) where
  abbrev known' : Established C
  known' = prepared.established

  -- the calls on a symbol's list fit
  pub calls_fit : CallsFit C.output.states C.transformation.counts offsets C.transformation.nodes (list_of lists s)
  calls_fit =
      record {
        is_node = (prepared.lists.list s h).is_node;
        call = λ i l.
            let n : ℕ = at (list_of lists s) i in
            let is = called_known C known' n ((prepared.lists.list s h).is_node i l) in
            record {
              least = known'.output_states.least≤;
              most = known'.output_states.≤most;
              few = known'.count _;
              procedures = known'.procedures.≤most;
              named = is;
              near = λ t. rw (prepared.place _ (is t)) (offset_inside C known' _ (is t));
            };
      }

  -- the states, the marks and the facts that a symbol can see, in one mask
  pub mask_sees : (on_right : Bool)
      → Sees C s on_right (mask_in (set (facts_seen C offsets lists s on_right) 0 (bit_or (states_seen C.input.rows s on_right) (marks_seen on_right))) 0)
  mask_sees on_right =
      record {
        calls = λ r l e.
            each_listed C.transformation.symbols C.transformation.counts C.transformation.nodes known'.node (at list) (length list)
            (prepared.lists.list s h) _ calls (rule_at C.transformation.rules r).node
            (subst (λ (x : ℕ). Before (at (list_of lists x)) (length (list_of lists x)) (rule_at C.transformation.rules r).node) e (prepared.lists.on_list r l));
        states = λ k l e.
            rw first (bit-or states marks _ ∙ or_true_left _ _ (state_seen C.input.rows s on_right k l e));
        is_empty = λ e.
            rw first (bit-or states marks empty_bit ∙ or_true_right _ _ (ap (λ (b : Bool). bit (marks_seen b) empty_bit) e ∙ empty_seen));
      }
    where
      list : List ℕ
      list = list_of lists s

      facts : List ℕ
      facts = facts_seen C offsets lists s on_right

      states : ℕ
      states = states_seen C.input.rows s on_right

      marks : ℕ
      marks = marks_seen on_right

      seen : ℕ
      seen = bit_or states marks

      shown : Shown C.output.states C.transformation.counts C.transformation.nodes (at list) on_right (length list) facts
      shown = shown_to C known' offsets prepared.place list (prepared.lists.list s h).is_node on_right (length list) (omega arith)

      first : get_or (set facts 0 seen) 0 0 ≡ seen
      first = get_or-set_same facts 0 seen 0 (omega (arith, shown.holds.long))

      word : (w : ℕ) → w < 4 → get_or (mask_in (set facts 0 seen) 0) (1 + w) 0 ≡ get_or facts (1 + w) 0
      word zero l = get_or-set_other facts 0 1 seen 0 (λ e. omega arith)
      word (suc zero) l = get_or-set_other facts 0 2 seen 0 (λ e. omega arith)
      word (suc (suc zero)) l = get_or-set_other facts 0 3 seen 0 (λ e. omega arith)
      word (suc (suc (suc zero))) l = get_or-set_other facts 0 4 seen 0 (λ e. omega arith)
      word (suc (suc (suc (suc w)))) l = absurd (omega arith)

      on-side : (n : ℕ) → n < node_count C.transformation.nodes → (node_at C.transformation.nodes n).tag ≡ 2
          → child_of (node_at C.transformation.nodes n).child ≡ side_of on_right
          → calls_on on_right (node_at C.transformation.nodes n) ≡ true
      on-side n l t e = go (known'.node n l)
        where
          go : GoodNode C.transformation.symbols C.transformation.counts n (node_at C.transformation.nodes n)
              → calls_on on_right (node_at C.transformation.nodes n) ≡ true
          go (good_parameter e a b) = absurd (omega arith)
          go (good_nothing e z) = absurd (omega arith)
          go (good_symbol e a b x y) = absurd (omega arith)
          go (good_call u p c x y) = rw (eq-eqb _ _ t) (child_on (node_at C.transformation.nodes n).child on_right c e)

      calls : (i : ℕ) → i < length list → (node_at C.transformation.nodes (at list i)).tag ≡ 2
          → child_of (node_at C.transformation.nodes (at list i)).child ≡ side_of on_right
          → ShowsFacts C.output.states C.transformation.counts (mask_in (set facts 0 seen) 0) (node_at C.transformation.nodes (at list i)).name
      calls i l t e =
          let n : ℕ = at list i in
          let p : ℕ = (node_at C.transformation.nodes (at list i)).name in
          let is_node = (prepared.lists.list s h).is_node i l in
          let is : p < length C.transformation.counts = called_known C known' n is_node t in
          record {
            fact = λ k hk.
                let f : ℕ = offset C.output.states C.transformation.counts p + k in
                let low : f < most_facts = omega (arith, offset_next C.output.states C.transformation.counts p is, known'.facts) in
                ap (λ (x : ℕ). bit x (f % 64)) (word (f / 64) (omega arith)) ∙ shown.holds.bits f (omega arith) ∙ shown.called i l (on-side n is_node t e) k hk;
          }
