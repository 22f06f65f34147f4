-- The whole kind in table form, and that it is the model's kind without its marks: six words, the sixth 0.
use Rattle.std.specs.Prelude.{◌≡◌, refl, Bool, length, set, replicate, take, drop}
use Rattle.std.proofs.Math.Path.{ap}
use Rattle.std.proofs.Common.{ap₂, subst, sym, ◌∙◌, eq-eqb, ne_eqb, pow_mono, length-take, length-drop, get_or-take, get_or-drop}
use mathlib.Core.List.{List, [], ◌∷◌, ◌++◌}
use Prim.Native.Nat.{ℕ, zero, suc, ◌+◌, ◌*◌, ◌-◌, ◌/◌, ◌%◌, ◌^◌, ◌<◌, ◌≤◌}
use native.Mathlib.Nat.{mul-div_cancel, div_self, one-le-pow, pow-le-pow_right, mul-le-mul_left}
use native.Mathlib.Omega.{arith}
use Rattle.std.proofs.Math.Decide.{ℕ_discrete}
use Rattle.std.proofs.Math.Pow.{pow-add}
use Rattle.std.proofs.Math.ListN.{get_or}
use Rattle.std.specs.Int.Bits.{bit_or, or_zero_r}
use Rattle.foundation.specs.Words.{bit, word, word_cong}
use Rattle.foundation.specs.TestLaws.{same_yes, same_no}
use Rattle.foundation.specs.Bits.{word_unique, zero_bits, or_to}
use Rattle.model.specs.Tables.{Contract, input_row, input_row_count, node_count, rule_at, rule_count, count_of}
use Rattle.model.specs.Expressions.{Child}
use Rattle.model.specs.Outputs.{right_side}
use Rattle.model.specs.Facts.{on_side, offset, facts_at}
use Rattle.model.specs.Admission.{most_facts}
use Rattle.model.specs.Kinds.{facts_in, kind_words, numbered_fact}
use Rattle.model.proofs.Laws.Established.{Established}
use Rattle.model.proofs.Laws.Facts.{numbered_none, offset_next}
use Rattle.kind_words.specs.Sizes.{rule_symbols, list_lengths, first_rules, first_rows, next_rules, next_rows}
use Rattle.kind_words.specs.Lanes.{Lanes, lanes_eq}
use Rattle.kind_words.specs.Blocks.{narrowed_lanes, Holds, block_holds, nothing_holds, Words}
use Rattle.kind_words.specs.Nodes.{LanesAre, NodeIs}
use Rattle.kind_words.specs.Called.{OffsetsIn, Narrow}
use Rattle.kind_words.specs.Listed.{Layout, at, words_on, Before, ListOf, StepsFrom, layout, filled_is, done_at}
use Rattle.kind_words.specs.Chains.{Chained}
use Rattle.kind_words.specs.Rules.{rule_block, with_rule, with_rules, placed, all_facts, all_facts_bit, block_is}
use Rattle.kind_words.specs.Marked.{no_marks_added, unmarked_kind}
use Rattle.kind_words.specs.States.{row_states, states_are}

-- how many numbers the table of lists takes at most
abbrev pub lists_length : (rows nodes rules : List ℕ) → ℕ
lists_length rows nodes rules = next_rows rules + input_row_count rows + rule_symbols * node_count nodes

-- how many nodes the list of symbol s has
abbrev pub list_length : List ℕ → ℕ → ℕ
list_length lists s = get_or lists (list_lengths + s) 0

-- place i of the list of symbol s
abbrev pub listed : List ℕ → ℕ → ℕ → ℕ
listed lists s i = get_or lists (get_or lists s 0 + i) 0

-- the list of symbol s
abbrev pub list_of : List ℕ → ℕ → List ℕ
list_of lists s = take (list_length lists s) (drop (get_or lists s 0) lists)

-- it lies inside the table
abbrev pub ListInside : List ℕ → ℕ → Type 0
ListInside lists s = get_or lists s 0 + list_length lists s ≤ length lists

-- a list of n nodes from a place on made the list of symbol s
abbrev pub with_list : List ℕ → (s start n : ℕ) → List ℕ
with_list lists s start n = set (set lists s start) (list_lengths + s) n

module _ (lists : List ℕ) (s : ℕ) (inside : ListInside lists s) where
  pub list_length_lem : length (list_of lists s) ≡ list_length lists s
  list_length_lem = simp (length-take, length-drop) (omega arith)

  pub list_at : (i : ℕ) → i < list_length lists s → get_or (list_of lists s) i 0 ≡ listed lists s i
  list_at i h = rw (get_or-take, get_or-drop)

-- the words of the nodes that the rules for s reach
abbrev pub node_words : Layout → (offsets lists counts table nodes before : List ℕ) (s : ℕ) (left_kind right_kind : List ℕ) → List ℕ
node_words lay offsets lists counts table nodes before s left_kind right_kind = words_on lay offsets counts table nodes left_kind right_kind (list_of lists s) before

-- the facts of the rules for s
abbrev pub rule_facts : Layout → (offsets counts rules : List ℕ) (s : ℕ) (words : List ℕ) → List ℕ
rule_facts lay offsets counts rules s words = with_rules lay offsets counts rules s words (replicate 6 0) (rule_count rules)

-- the kind of symbol s over two kinds, without its marks, as the code computes it; `before` is what the words of the nodes were before
unfoldable pub kind_form : Layout → (offsets lists counts rows table nodes rules before : List ℕ) (s : ℕ) (left_kind right_kind : List ℕ) → List ℕ
kind_form lay offsets lists counts rows table nodes rules before s left_kind right_kind =
    set (rule_facts lay offsets counts rules s (node_words lay offsets lists counts table nodes before s left_kind right_kind)) 0
    (row_states rows s (get_or left_kind 0 0) (get_or right_kind 0 0) (input_row_count rows))

-- .. step by step
pub kind_steps : (lay : Layout) (offsets lists counts rows table nodes rules before : List ℕ) (s : ℕ) (left_kind right_kind : List ℕ) (states : ℕ) (words kind : List ℕ)
    → words ≡ node_words lay offsets lists counts table nodes before s left_kind right_kind
    → kind ≡ rule_facts lay offsets counts rules s words
    → states ≡ row_states rows s (get_or left_kind 0 0) (get_or right_kind 0 0) (input_row_count rows)
    → set kind 0 states ≡ kind_form lay offsets lists counts rows table nodes rules before s left_kind right_kind
unfolding kind_form
kind_steps lay offsets lists counts rows table nodes rules before s left_kind right_kind states words kind ew ek es = rw (es, ek, ew)

-- how the words of a contract with those output states and parameter counts are laid out: a lane has a bit for each
-- assignment of the greatest count of parameters
pub record LayoutFor (O : ℕ) (counts : List ℕ) (lay : Layout) : Type 0 where
  pub greatest : ℕ
  pub most : greatest ≤ 2
  pub bound : (p : ℕ) → count_of counts p ≤ greatest
  pub states : lay.states ≡ O
  pub width : lay.width ≡ O ^ greatest
  pub lanes : LanesAre O greatest lay.ones lay.starts lay.first lay.second

-- the rules of each symbol in a chain
abbrev pub RulesChained : (rules lists : List ℕ) → Type 0
RulesChained rules lists = Chained (λ r. (rule_at rules r).symbol) (rule_count rules) first_rules next_rules 0 lists

-- the input rows of each symbol in a chain
abbrev pub RowsChained : (rows lists : List ℕ) (nexts : ℕ) → Type 0
RowsChained rows lists nexts = Chained (λ r. (input_row rows r).symbol) (input_row_count rows) first_rows nexts 0 lists

-- for each symbol a list of nodes: those that its rules reach, each after what it refers to; and its rules and its input rows
-- in chains
pub record ListsFor (counts nodes rules rows lists : List ℕ) : Type 0 where
  pub long : next_rows rules + input_row_count rows ≤ length lists
  pub inside : (s : ℕ) → s < rule_symbols → ListInside lists s
  pub list : (s : ℕ) → s < rule_symbols → ListOf counts nodes (at (list_of lists s)) (length (list_of lists s))
  pub on_list : (r : ℕ) → r < rule_count rules
      → Before (at (list_of lists (rule_at rules r).symbol)) (length (list_of lists (rule_at rules r).symbol)) (rule_at rules r).node
  pub of_rules : RulesChained rules lists
  pub of_rows : RowsChained rows lists (next_rows rules)

-- what preparation makes of an admitted contract
pub record Prepared (C : Contract) (lay : Layout) (offsets listing : List ℕ) : Type 0 where
  pub established : Established C
  pub layout : LayoutFor C.output.states C.transformation.counts lay
  pub place : OffsetsIn C offsets
  pub lists : ListsFor C.transformation.counts C.transformation.nodes C.transformation.rules C.input.rows listing

-- at most four states and two parameters fill a word
pub lanes_fit : (O k : ℕ) → 1 ≤ O → O ≤ 4 → k ≤ 2 → O * O ^ k ≤ 64
lanes_fit O k h1 h4 hk =
    let a : O ^ k ≤ O ^ 2 = pow-le-pow_right h1 hk in
    let b : O ^ 2 ≤ 4 ^ 2 = native.Mathlib.Nat.pow-le-pow_left h4 2 in
    let c : O * O ^ k ≤ O * 16 = mul-le-mul_left O (omega arith) in
    omega arith

module _ (C : Contract) (K : ℕ) (l r : List ℕ) (offsets : List ℕ) (ones starts first second : ℕ) (s : ℕ) (words : List ℕ) where
  abbrev O : ℕ
  O = C.output.states

  abbrev facts : Child → ℕ → ℕ → List ℕ → Bool
  facts = on_side (facts_in C l) (facts_in C r)

  abbrev lay : Layout
  lay = layout C K l r offsets ones starts first second

  abbrev block : ℕ → ℕ
  block i = rule_block lay C.transformation.counts C.transformation.rules words i

  -- the words after n rules hold the blocks of those rules
  rules_hold : (some : 0 < O) → OffsetsIn C offsets → (kind : List ℕ) → Holds kind 0 → (n : ℕ)
      → ((i : ℕ) → i < n → (rule_at C.transformation.rules i).symbol ≡ s
      → (block i < 2 ^ 64)
      × ((rule_at C.transformation.rules i).procedure < length C.transformation.counts)
      × (offset O C.transformation.counts (rule_at C.transformation.rules i).procedure < most_facts))
      → Holds (with_rules lay offsets C.transformation.counts C.transformation.rules s words kind n) (or_to (placed C facts s block some) n)
  unfolding with_rules with_rule or_to
  rules_hold some place kind hk zero h = hk
  rules_hold some place kind hk (suc i) h =
      go (rules_hold some place kind hk i (λ j l. h j (omega arith))) (ℕ_discrete (rule_at C.transformation.rules i).symbol s)
    where
      before : List ℕ
      before = with_rules lay offsets C.transformation.counts C.transformation.rules s words kind i

      go : Holds before (or_to (placed C facts s block some) i) → Dec ((rule_at C.transformation.rules i).symbol ≡ s)
          → Holds (with_rules lay offsets C.transformation.counts C.transformation.rules s words kind (suc i)) (bit_or (or_to (placed C facts s block some) i) (placed C facts s block some i))
      go d (yes e) =
          let (small, is_procedure, inside) = h i (omega arith) e in
          rw (same_yes (rule_at C.transformation.rules i).symbol s e, eq-eqb (rule_at C.transformation.rules i).symbol s e)
          (rw (place (rule_at C.transformation.rules i).procedure is_procedure)
          (block_holds before (or_to (placed C facts s block some) i) (block i) (offset O C.transformation.counts (rule_at C.transformation.rules i).procedure) d small inside))
      go d (no ne) =
          rw (same_no (rule_at C.transformation.rules i).symbol s ne, ne_eqb (rule_at C.transformation.rules i).symbol s ne)
          (rw (or_zero_r (or_to (placed C facts s block some) i)) d)

  -- a rule's block as lanes of its procedure's width
  block_lanes : (i : ℕ) → 0 < O → count_of C.transformation.counts (rule_at C.transformation.rules i).procedure ≤ K
      → get_or words (rule_at C.transformation.rules i).node 0 < 2 ^ (O * O ^ K)
      → Lanes O (O ^ count_of C.transformation.counts (rule_at C.transformation.rules i).procedure) (block i)
      (λ q c. bit (get_or words (rule_at C.transformation.rules i).node 0) (q * O ^ K + c * O ^ (K - count_of C.transformation.counts (rule_at C.transformation.rules i).procedure)))
  unfolding rule_block
  block_lanes i some hk small =
      let k : ℕ = count_of C.transformation.counts (rule_at C.transformation.rules i).procedure in
      let t : ℕ = O ^ k in
      let d : ℕ = K - k in
      let w : ℕ = get_or words (rule_at C.transformation.rules i).node 0 in
      let pt : 0 < t = one-le-pow k O some in
      let ed : d + k ≡ K = omega arith in
      let pk : O ^ K ≡ O ^ d * t = ap (λ (x : ℕ). O ^ x) (sym ed) ∙ pow-add O d k in
      let q : O ^ K / t ≡ O ^ d = ap (λ (x : ℕ). x / t) pk ∙ mul-div_cancel (O ^ d) pt in
      lanes_eq O t (narrowed_lanes O (O ^ K) t (O ^ K / t) w small (λ e. ap (λ (x : ℕ). x / t) (sym e) ∙ div_self pt))
      (λ a c ha hc. ap (λ (x : ℕ). bit w (a * O ^ K + c * x)) q)

-- a list of six numbers, the first of them replaced
six : (k : List ℕ) (w : ℕ) → length k ≡ 6 → set k 0 w ≡ w ∷ get_or k 1 0 ∷ get_or k 2 0 ∷ get_or k 3 0 ∷ get_or k 4 0 ∷ get_or k 5 0 ∷ []
six [] w h = absurd (omega arith)
six (a ∷ []) w h = absurd (omega arith)
six (a ∷ b ∷ []) w h = absurd (omega arith)
six (a ∷ b ∷ c ∷ []) w h = absurd (omega arith)
six (a ∷ b ∷ c ∷ d ∷ []) w h = absurd (omega arith)
six (a ∷ b ∷ c ∷ d ∷ e ∷ []) w h = absurd (omega arith)
six (a ∷ b ∷ c ∷ d ∷ e ∷ f ∷ []) w h = refl
six (a ∷ b ∷ c ∷ d ∷ e ∷ f ∷ g ∷ k) w h = absurd (omega arith)

-- a procedure's facts begin within the words
pub offset_inside : (C : Contract) → Established C → (p : ℕ) → p < length C.transformation.counts
    → offset C.output.states C.transformation.counts p < most_facts
offset_inside C known p h =
    let a : 0 < C.output.states ^ suc (count_of C.transformation.counts p) =
    one-le-pow (suc (count_of C.transformation.counts p)) C.output.states known.output_states.least≤ in
    omega (arith, offset_next C.output.states C.transformation.counts p h, known.facts)

module _ (C : Contract) (lay : Layout) (offsets lists : List ℕ) (prepared : Prepared C lay offsets lists) where
  abbrev K : ℕ
  K = prepared.layout.greatest

  abbrev O' : ℕ
  O' = C.output.states

  abbrev known : Established C
  known = prepared.established

  pub some_states : 0 < O'
  some_states = known.output_states.least≤

  pub narrow_prepared : Narrow C K
  narrow_prepared =
      record {
        some = some_states;
        narrow = prepared.layout.bound;
        fit = λ p. lanes_fit O' (count_of C.transformation.counts p) known.output_states.least≤ known.output_states.≤most (known.count p);
      }

  module _ (before : List ℕ) (long : node_count C.transformation.nodes ≤ length before) (s : ℕ) (hs : s < rule_symbols) (l r : List ℕ) (left_words : Words l)
      (right_words : Words r) where
    abbrev facts' : Child → ℕ → ℕ → List ℕ → Bool
    facts' = on_side (facts_in C l) (facts_in C r)

    abbrev lay' : Layout
    lay' = layout C K l r offsets lay.ones lay.starts lay.first lay.second

    layout_is : lay ≡ lay'
    layout_is =
        ap₂
        (λ (o w : ℕ). record { states = o; width = w; ones = lay.ones; starts = lay.starts; first = lay.first; second = lay.second })
        prepared.layout.states
        prepared.layout.width

    from : StepsFrom C K l r offsets lay.ones lay.starts lay.first lay.second
    from =
        record {
          lanes = prepared.layout.lanes;
          some = one-le-pow K O' some_states;
          entry = known.output_entry;
          few = known.count;
          node = known.node;
          place = prepared.place;
          narrow = narrow_prepared;
          left_words = left_words;
          right_words = right_words;
        }

    abbrev words' : List ℕ
    words' = node_words lay' offsets lists C.transformation.counts C.output.table C.transformation.nodes before s l r

    abbrev block' : ℕ → ℕ
    block' i = rule_block lay' C.transformation.counts C.transformation.rules words' i

    -- the word of a rule's node
    node_is : (i : ℕ) → i < rule_count C.transformation.rules → (rule_at C.transformation.rules i).symbol ≡ s
        → NodeIs C.transformation C.output facts' K (rule_at C.transformation.rules i).node (get_or words' (rule_at C.transformation.rules i).node 0)
    node_is i hi e =
        done_at C K l r offsets lay.ones lay.starts lay.first lay.second from (at (list_of lists s)) words' (length (list_of lists s)) _
        (filled_is C K l r offsets lay.ones lay.starts lay.first lay.second from (at (list_of lists s)) before (length (list_of lists s))
        (prepared.lists.list s hs)
        long
        (length (list_of lists s))
        (omega arith))
        (subst (λ (x : ℕ). Before (at (list_of lists x)) (length (list_of lists x)) (rule_at C.transformation.rules i).node) e (prepared.lists.on_list i hi))

    uses_few : (i : ℕ) → i < rule_count C.transformation.rules
        → Rattle.model.specs.Expressions.greatest_parameter (right_side C.transformation i) ≤ count_of C.transformation.counts (rule_at C.transformation.rules i).procedure
    uses_few i hi = (known.rule i hi).parameters

    lanes_of : (i : ℕ) → i < rule_count C.transformation.rules → (rule_at C.transformation.rules i).symbol ≡ s
        → Lanes O' (O' ^ count_of C.transformation.counts (rule_at C.transformation.rules i).procedure) (block' i)
        (λ q c. bit (get_or words' (rule_at C.transformation.rules i).node 0) (q * O' ^ K + c * O' ^ (K - count_of C.transformation.counts (rule_at C.transformation.rules i).procedure)))
    lanes_of i hi e =
        let g = uses_few i hi in
        let k = prepared.layout.bound (rule_at C.transformation.rules i).procedure in
        block_lanes C K l r offsets lay.ones lay.starts lay.first lay.second s words' i some_states k (node_is i hi e (omega arith)).small

    block_small : (i : ℕ) → i < rule_count C.transformation.rules → (rule_at C.transformation.rules i).symbol ≡ s → block' i < 2 ^ 64
    block_small i hi e =
        let a = (lanes_of i hi e).small in
        let b : 2 ^ (O' * O' ^ count_of C.transformation.counts (rule_at C.transformation.rules i).procedure) ≤ 2 ^ 64 =
        pow_mono {j = 64} (narrow_prepared.fit (rule_at C.transformation.rules i).procedure) in
        omega arith

    abbrev kind : List ℕ
    kind = rule_facts lay' offsets C.transformation.counts C.transformation.rules s words'

    holds : Holds kind (all_facts C facts' s block' some_states)
    unfolding all_facts
    holds =
        rules_hold C K l r offsets lay.ones lay.starts lay.first lay.second s words' some_states prepared.place (replicate 6 0) nothing_holds
        (rule_count C.transformation.rules)
        (λ i hi e. (block_small i hi e, (known.rule i hi).procedure, offset_inside C known _ (known.rule i hi).procedure))

    fact_bit : (f : ℕ) → bit (all_facts C facts' s block' some_states) f ≡ numbered_fact C (facts_at C.transformation C.output facts' s) f
    fact_bit f =
        all_facts_bit C facts' s block' some_states
        (λ i hi e.
        block_is C facts' s block' some_states K i _ (known.rule i hi).procedure (prepared.layout.bound _) (uses_few i hi) (node_is i hi e) (lanes_of i hi e))
        f

    fact_word : (j : ℕ) → j < 5 → get_or kind (1 + j) 0 ≡ word 64 (λ i. numbered_fact C (facts_at C.transformation C.output facts' s) (64 * j + i))
    fact_word j hj =
        word_unique 64 (get_or kind (1 + j) 0) _ (holds.small (1 + j))
        (λ i hi.
        let e : (64 * j + i) / 64 ≡ j = omega arith in
        let f : (64 * j + i) % 64 ≡ i = omega arith in
        (rw (e, f) at (holds.bits (64 * j + i) (omega arith))) ∙ fact_bit (64 * j + i))

    first_word : get_or kind 1 0 ≡ word 64 (λ i. numbered_fact C (facts_at C.transformation C.output facts' s) i)
    first_word = fact_word 0 (omega arith) ∙ word_cong 64 _ _ (λ i hi. ap (numbered_fact C (facts_at C.transformation C.output facts' s)) (omega arith))

    last_word : get_or kind 5 0 ≡ 0
    last_word =
        zero_bits 64 (get_or kind 5 0) (holds.small 5)
        (λ i hi.
        let e : (256 + i) / 64 ≡ 4 = omega arith in
        let f : (256 + i) % 64 ≡ i = omega arith in
        (rw (e, f) at (holds.bits (256 + i) (omega arith)))
        ∙ fact_bit (256 + i)
        ∙ numbered_none O' C.transformation.counts _ (256 + i) (omega (arith, known.facts)))

    -- the table form is the model's kind without its marks, and a 0
    pub kind_form_is : kind_form lay offsets lists C.transformation.counts C.input.rows C.output.table C.transformation.nodes C.transformation.rules before s l r
        ≡ unmarked_kind C s l r ++ (0 ∷ [])
    unfolding kind_form unmarked_kind kind_words
    kind_form_is =
        rw layout_is
        (six kind _ holds.long
        ∙ rw (
          no_marks_added,
          states_are C s l r (λ i hi. (known.input_row i hi).state),
          first_word,
          fact_word 1 (omega arith),
          fact_word 2 (omega arith),
          fact_word 3 (omega arith),
          last_word,
        ))
