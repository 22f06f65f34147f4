-- The word of a node, all assignments of parameter states at once, from the words of the nodes that it refers to.
use Rattle.std.specs.Prelude.{◌≡◌, Bool, cond, eqb, get_or, take}
use Rattle.std.proofs.Math.Path.{refl, ap, ap₂, sym}
use Rattle.std.proofs.Common.{◌∙◌, pow-suc, eq-eqb, ne_eqb, take_all}
use mathlib.Core.List.{List, [], ◌∷◌}
use Prim.Native.Nat.{ℕ, zero, suc, ◌+◌, ◌*◌, ◌-◌, ◌^◌, ◌<◌, ◌≤◌}
use Rattle.std.proofs.Math.Nat.{pow-zero}
use native.Mathlib.Omega.{arith}
use Rattle.std.proofs.Math.Decide.{ℕ_discrete}
use Rattle.std.proofs.Math.Pow.{pow_pos}
use Rattle.std.proofs.Math.ListN.{length}
use Rattle.std.proofs.Math.Seq.{length-take-le}
use Rattle.foundation.specs.Words.{bit}
use Rattle.foundation.specs.Tests.{◌and◌, same, below, some_cong}
use Rattle.foundation.specs.TestLaws.{true_and}
use Rattle.foundation.specs.Bits.{bit_ones}
use Rattle.model.specs.Tables.{Transformation, OutputType, Node, node_at, count_of, empty_state, next_state}
use Rattle.model.specs.Expressions.{Child, Expression, Arguments, none, argument, child_of, arguments_of, expression, greatest_parameter, greatest_of_all}
use Rattle.model.specs.Facts.{FactSet, yields, yields_all, digits, code}
use Rattle.model.specs.Admission.{references}
use Rattle.model.proofs.Laws.Facts.{AllBelow}
use Rattle.model.proofs.Laws.Expressions.{expression_parameter, expression_nothing, expression_symbol, expression_call, SmallerArguments}
use Rattle.model.proofs.Laws.Established.{GoodNode, good_parameter, good_nothing, good_symbol, good_call}
use Rattle.kind_words.specs.Lanes.{Lanes, lanes_eq, Starts, symbol_word, symbol_lanes, call_lanes, some_code, call-lanes, lane_at}

-- the word of an output symbol over the words a and b of its two nodes
abbrev pub output_word : (o l ones : ℕ) (table : List ℕ) (name a b : ℕ) → ℕ
output_word o l ones table name a b =
    cond (eqb name 0) (ones * 2 ^ (get_or table 0 0 * l)) (symbol_word o l a b (λ x y. get_or table (1 + (name - 1) * o * o + x * o + y) 0) o)

-- the word of a call of a procedure of that count, from its facts and the words a and b of the first two arguments
abbrev pub call_word : (o l ones starts count called a b : ℕ) → ℕ
call_word o l ones starts count called a b = call_lanes o l starts called ones 0 (take count (a ∷ b ∷ []))

-- where the code goes by the count, its cases are instances
module _ (o l ones starts count called a b r : ℕ) where
  pub call_none : count ≡ 0 → r ≡ call_lanes o l starts called ones 0 [] → r ≡ call_word o l ones starts count called a b
  call_none e h = rw e h

  pub call_first : count ≡ 1 → r ≡ call_lanes o l starts called ones 0 (a ∷ []) → r ≡ call_word o l ones starts count called a b
  call_first e h = rw e h

  pub call_both : 2 ≤ count → r ≡ call_lanes o l starts called ones 0 (a ∷ b ∷ []) → r ≡ call_word o l ones starts count called a b
  call_both h e = rw (take_all count (a ∷ b ∷ []) h) e

-- a node's word as the code computes it, by its tag
unfoldable pub node_word : (o l ones starts : ℕ) (table : List ℕ) (tag name count called first second a b : ℕ) → ℕ
node_word o l ones starts table tag name count called first second a b =
    cond (eqb tag 0) (cond (eqb name 1) first second)
    (cond (eqb tag 1) (output_word o l ones table name a b) (call_word o l ones starts count called a b))

module _ (T : Transformation) where
  -- how many nodes a node refers to
  abbrev pub references_at : ℕ → ℕ
  references_at n = references T.counts (node_at T.nodes n)

  symbol_references : (n : ℕ) → (node_at T.nodes n).tag ≡ 1 → 1 ≤ (node_at T.nodes n).name → references_at n ≡ 2
  symbol_references n t h = rw (eq-eqb (node_at T.nodes n).tag 1 t, ne_eqb (node_at T.nodes n).name 0 (λ e. omega arith))

  call_references : (n : ℕ) → (node_at T.nodes n).tag ≡ 2 → references_at n ≡ count_of T.counts (node_at T.nodes n).name
  call_references n t =
      rw (ne_eqb (node_at T.nodes n).tag 1 (λ e. omega arith), eq-eqb (node_at T.nodes n).tag 2 t)

-- w is the word of parameter i, where there are K
abbrev pub ParameterIs : (O K i w : ℕ) → Type 0
ParameterIs O K i w = Lanes O (O ^ K) w (λ q c. below i (length (digits O K c)) and same q (get_or (digits O K c) i 0))

-- what is the same for all nodes: how lanes lie, and the words of the two parameters
pub record LanesAre (O K ones starts first second : ℕ) : Type 0 where
  pub lane : ones ≡ 2 ^ O ^ K - 1
  pub firsts : Starts O (O ^ K) starts
  pub first_is : 1 ≤ K → ParameterIs O K 0 first
  pub second_is : 2 ≤ K → ParameterIs O K 1 second

module _ (T : Transformation) (Y : OutputType) (facts : Child → FactSet) (K : ℕ) where
  abbrev pub O : ℕ
  O = Y.states

  abbrev pub L : ℕ
  L = O ^ K

  abbrev node : ℕ → Node
  node n = node_at T.nodes n

  abbrev pub expression_at : ℕ → Expression
  expression_at n = expression T.counts T.nodes n

  -- node n gives state q at the parameter states qs
  unfoldable pub node_fact : ℕ → List ℕ → ℕ → Bool
  node_fact n qs q = yields T Y facts (expression_at n) qs q

  -- w is the word of node n, where the node uses no parameter above K
  abbrev pub NodeIs : ℕ → ℕ → Type 0
  NodeIs n w = greatest_parameter (expression_at n) ≤ K → Lanes O L w (λ q c. node_fact n (digits O K c) q)

  -- w has the facts of procedure p on a child: bit q * L + code of the parameter states
  pub record CalledIs (c : Child) (p w : ℕ) : Type 0 where
    pub fact : (q : ℕ) → q < O → (qs : List ℕ) → length qs ≡ count_of T.counts p → AllBelow O qs → bit w (q * L + code O qs) ≡ facts c p q qs

  -- words of argument expressions
  abbrev pub ArgumentsAre : Arguments → List ℕ → Type 0
  ArgumentsAre none [] = Unit {0}
  ArgumentsAre none (a ∷ rest) = ⊥
  ArgumentsAre (argument e es) [] = ⊥
  ArgumentsAre (argument e es) (a ∷ rest) = Lanes O L a (λ q c. yields T Y facts e (digits O K c) q) × ArgumentsAre es rest

  -- a choice of argument states by their words is one of the expressions' states, for any number of arguments
  some-code : (es : Arguments) (rest : List ℕ) → ArgumentsAre es rest → (c : ℕ) → c < L → (d : ℕ) (has : ℕ → Bool) (test : List ℕ → Bool)
      → ((qs : List ℕ) → length qs ≡ length rest → AllBelow O qs → has (d * O ^ length qs + code O qs) ≡ test qs)
      → some_code O L rest c d has ≡ yields_all T Y facts es (digits O K c) test
  unfolding yields code
  some-code none [] are c hc d has test h = ap has (rw pow-zero (omega arith)) ∙ h [] refl tt
  some-code none (a ∷ rest) are c hc d has test h = absurd are
  some-code (argument e es) [] are c hc d has test h = absurd are
  some-code (argument e es) (a ∷ rest) are c hc d has test h =
      some_cong O _ _
      (λ x hx.
      ap₂ ◌and◌ (are.0.bits x c hx hc)
      (some-code es rest are.1 c hc (d * O + x) has (λ qs. test (x ∷ qs))
      (λ qs l b. ap has (next d x (O ^ length qs) (code O qs)) ∙ ap (λ (p : ℕ). has (d * p + (x * O ^ length qs + code O qs))) (sym (pow-suc O (length qs))) ∙ h (x ∷ qs) (ap suc l) (hx, b))))
    where
      next : (d x p k : ℕ) → (d * O + x) * p + k ≡ d * (p * O) + (x * p + k)
      next d x p k = omega arith

  -- a and b are the words of the nodes that node n refers to
  pub record ReferredIs (n a b : ℕ) : Type 0 where
    pub first : 1 ≤ references_at T n → NodeIs (node n).first a
    pub second : 2 ≤ references_at T n → NodeIs (node n).second b

  parameter_node : (n i w : ℕ) → (node n).tag ≡ 0 → (node n).name ≡ suc i → (suc i ≤ K → ParameterIs O K i w) → NodeIs n w
  unfolding node_fact yields greatest_parameter
  parameter_node n i w t z h g =
      let i' : (node n).name - 1 ≡ i = omega arith in
      let e : expression_at n ≡ Expression.parameter i = expression_parameter T.counts T.nodes n t ∙ ap Expression.parameter i' in
      rw e (h (rw e at g))

  nothing_node : (n ones : ℕ) → ones ≡ 2 ^ L - 1 → (node n).tag ≡ 1 → (node n).name ≡ 0 → empty_state Y < O → NodeIs n (ones * 2 ^ (empty_state Y * L))
  unfolding node_fact yields
  nothing_node n ones e t z h g =
      lanes_eq O L (lane_at O L ones (empty_state Y) (omega (arith, pow_pos L)) h)
      (λ q c hq hc.
      true_and (bit ones c) _ (ap (λ (x : ℕ). bit x c) e ∙ bit_ones L c hc) ∙ sym (rw (expression_nothing T.counts T.nodes n t z)))

  module _ (n a b : ℕ) (referred : ReferredIs n a b) where
    symbol_node : (state : ℕ → ℕ → ℕ) → (node n).tag ≡ 1 → 1 ≤ (node n).name → (node n).first < n → (node n).second < n
        → ((x y : ℕ) → x < O → y < O → state x y < O)
        → ((x y : ℕ) → state x y ≡ next_state Y (node n).name x y)
        → NodeIs n (symbol_word O L a b state O)
    unfolding node_fact yields greatest_parameter
    symbol_node state t h hf hs small is g =
        let e = expression_symbol T.counts T.nodes n t h hf hs in
        let two = symbol_references T n t h in
        let g' = rw e at g in
        let ia = referred.first (omega arith) (omega arith) in
        let ib = referred.second (omega arith) (omega arith) in
        lanes_eq O L (symbol_lanes O L a b state small)
        (λ q c hq hc.
        some_cong O _ _
        (λ x hx.
        ap₂ ◌and◌ (ia.bits x c hx hc)
        (some_cong O _ _ (λ y hy. ap₂ ◌and◌ (ib.bits y c hy hc) (ap (λ (v : ℕ). same q v) (is x y)))))
        ∙ sym (rw e))

    module _ (starts w ones : ℕ) (lane : ones ≡ 2 ^ L - 1) (firsts : Starts O L starts) (some : 0 < L) (t : (node n).tag ≡ 2)
        (smaller : SmallerArguments T.counts T.nodes n) (called : CalledIs (child_of (node n).child) (node n).name w) where
      abbrev count : ℕ
      count = count_of T.counts (node n).name

      call_expression : expression_at n ≡ Expression.call (node n).name (child_of (node n).child) (arguments_of count (expression_at (node n).first) (expression_at (node n).second))
      call_expression = expression_call T.counts T.nodes n t smaller

      -- the words of the arguments that there are
      arguments_are : (k : ℕ) → k ≡ count → k ≤ 2 → greatest_of_all (arguments_of k (expression_at (node n).first) (expression_at (node n).second)) ≤ K
          → ArgumentsAre (arguments_of k (expression_at (node n).first) (expression_at (node n).second)) (take k (a ∷ b ∷ []))
      unfolding node_fact greatest_parameter
      arguments_are zero e h g = tt
      arguments_are (suc zero) e h g =
          let r = call_references T n t in
          (referred.first (omega arith) (omega arith), tt)
      arguments_are (suc (suc zero)) e h g =
          let r = call_references T n t in
          (referred.first (omega arith) (omega arith), (referred.second (omega arith) (omega arith), tt))
      arguments_are (suc (suc (suc k))) e h g = absurd (omega arith)

      no_code : (p k : ℕ) → 0 * p + k ≡ k
      no_code p k = omega arith

      call_node : count ≤ 2 → NodeIs n (call_word O L ones starts count w a b)
      unfolding node_fact yields greatest_parameter
      call_node few g =
          let are = arguments_are count refl few (rw call_expression at g) in
          let long : length (take count (a ∷ b ∷ [])) ≡ count = length-take-le count (a ∷ b ∷ []) few in
          lanes_eq O L (call-lanes O L starts firsts some w ones 0 (take count (a ∷ b ∷ [])) (omega (arith, pow_pos L)))
          (λ q c hq hc.
          true_and (bit ones c) _ (ap (λ (x : ℕ). bit x c) lane ∙ bit_ones L c hc)
          ∙ some-code (arguments_of count (expression_at (node n).first) (expression_at (node n).second)) (take count (a ∷ b ∷ [])) are c hc 0 (λ i. bit w (q * L + i)) (λ vs. facts (child_of (node n).child) (node n).name q vs)
          (λ qs l b. ap (λ (i : ℕ). bit w (q * L + i)) (no_code (O ^ length qs) (code O qs)) ∙ called.fact q hq qs (l ∙ long) b)
          ∙ sym (rw call_expression))

  -- the code's word is the node's
  pub node_word_is : (S n w ones starts first second a b : ℕ) → LanesAre O K ones starts first second → 0 < L
      → ((k : ℕ) → get_or Y.table k 0 < O)
      → ((p : ℕ) → count_of T.counts p ≤ 2)
      → GoodNode S T.counts n (node n)
      → ReferredIs n a b
      → ((node n).tag ≡ 2 → CalledIs (child_of (node n).child) (node n).name w)
      → NodeIs n (node_word O L ones starts Y.table (node n).tag (node n).name (count_of T.counts (node n).name) w first second a b)
  unfolding node_word
  node_word_is S n w ones starts first second a b lanes some entry few good referred called = by_tag good
    where
      W : ℕ
      W = node_word O L ones starts Y.table (node n).tag (node n).name (count_of T.counts (node n).name) w first second a b

      by_parameter : (node n).tag ≡ 0 → 1 ≤ (node n).name → (node n).name ≤ 2 → Dec ((node n).name ≡ 1) → NodeIs n W
      by_parameter t h1 h2 (yes z) =
          rw (eq-eqb (node n).tag 0 t, eq-eqb (node n).name 1 z) (parameter_node n 0 first t z lanes.first_is)
      by_parameter t h1 h2 (no nz) =
          rw (eq-eqb (node n).tag 0 t, ne_eqb (node n).name 1 nz) (parameter_node n 1 second t (omega arith) lanes.second_is)

      by_tag : GoodNode S T.counts n (node n) → NodeIs n W
      by_tag (good_parameter t h1 h2) = by_parameter t h1 h2 (ℕ_discrete (node n).name 1)
      by_tag (good_nothing t z) =
          rw (ne_eqb (node n).tag 0 (λ e. omega arith), eq-eqb (node n).tag 1 t, eq-eqb (node n).name 0 z)
          (nothing_node n ones lanes.lane t z (entry 0))
      by_tag (good_symbol t h hs hf hk) =
          let is : (x y : ℕ) → get_or Y.table (1 + ((node n).name - 1) * O * O + x * O + y) 0 ≡ next_state Y (node n).name x y =
          λ x y. ap (λ (i : ℕ). get_or Y.table i 0) (omega arith) in
          rw (ne_eqb (node n).tag 0 (λ e. omega arith), eq-eqb (node n).tag 1 t, ne_eqb (node n).name 0 (λ e. omega arith))
          (symbol_node n a b referred _ t h hf hk (λ x y hx hy. entry _) is)
      by_tag (good_call t hn hc hf hs) =
          rw (ne_eqb (node n).tag 0 (λ e. omega arith), ne_eqb (node n).tag 1 (λ e. omega arith))
          (call_node n a b referred starts w ones lanes.lane lanes.firsts some t (record { first = hf; second = hs }) (called t) (few (node n).name))
