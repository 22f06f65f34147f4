-- The facts of a symbol over two kinds as one number of 256 bits: each rule's block at its procedure's offset. A rule's
-- block is its node's word where the parameters that its procedure lacks are in state 0.
use Rattle.std.specs.Prelude.{◌≡◌, Bool, false, eqb, length, get_or}
use Rattle.std.proofs.Math.Path.{refl, ap, sym}
use Rattle.std.proofs.Common.{ap₂, ◌∙◌, not-suc-le-zero, le_of_suc-le-suc, div-lt_iff_lt-mul, mul-div_cancel, add-zero, mul-lt-mul_of_pos_right, div-add-mod', pow-add}
use mathlib.Core.List.{List, [], ◌∷◌}
use Prim.Native.Nat.{ℕ, zero, suc, ◌+◌, ◌*◌, ◌-◌, ◌/◌, ◌%◌, ◌^◌, ◌<◌, ◌≤◌}
use Rattle.std.proofs.Math.Nat.{suc-add, mul-div-mul_right, mod-lt, one-le-pow, pow-suc, mul_comm, mul-mod_left}
use Rattle.std.proofs.Math.Numerals.{add-one}
use native.Mathlib.Omega.{arith}
use Rattle.std.proofs.Math.Decide.{ℕ_discrete, dec_lt}
use borrow.Author.Tests.{eq-eqb, ne_eqb}
use Rattle.std.proofs.Math.Arith.{mod-mul}
use Rattle.foundation.specs.Words.{bit}
use Rattle.foundation.specs.Tests.{choose, ◌and◌, same, some_below, some_cong}
use Rattle.foundation.specs.TestLaws.{and_false, same_yes, same_no, below_yes, some_none}
use Rattle.foundation.specs.Bits.{bit_shl, bit_shl_low, bit_zero, bit_high, or_to, or_to_bit}
use Rattle.model.specs.Tables.{Contract, Transformation, OutputType, rule_at, rule_count, count_of}
use Rattle.model.specs.Expressions.{Child, Expression, parameter, nothing, symbol, call, Arguments, none, argument, greatest_parameter, greatest_of_all}
use Rattle.model.specs.Outputs.{right_side}
use Rattle.model.specs.Facts.{FactSet, yields, yields_all, facts_at, digits, offset, fact_total, fact_number, numbered}
use Rattle.model.proofs.Laws.Facts.{length_digits, digits_below, code_digits, IsFact, numbered-fact, numbered_none, offset_next, NumberOf, number_of}
use Rattle.kind_words.specs.Lanes.{Lanes}
use Rattle.kind_words.specs.Blocks.{narrowed, with_block}
use Rattle.kind_words.specs.Nodes.{NodeIs, node_fact}
use Rattle.kind_words.specs.Listed.{Layout}
use Rattle.kind_words.specs.Chains.{NextFrom, unchanged}

-- the block of rule r, from the words of the nodes
unfoldable pub rule_block : Layout → (counts rules words : List ℕ) → ℕ → ℕ
rule_block lay counts rules words r =
    narrowed lay.states lay.width (lay.states ^ count_of counts (rule_at rules r).procedure)
    (lay.width / lay.states ^ count_of counts (rule_at rules r).procedure)
    (get_or words (rule_at rules r).node 0)

-- rule r's facts put into a kind, if it is a rule for symbol s
unfoldable pub with_rule : Layout → (offsets counts rules : List ℕ) (s : ℕ) (words kind : List ℕ) → ℕ → List ℕ
with_rule lay offsets counts rules s words kind r =
    choose (eqb (rule_at rules r).symbol s) (with_block kind (rule_block lay counts rules words r) (get_or offsets (rule_at rules r).procedure 0)) kind

-- the facts of the first n rules
unfoldable pub with_rules : Layout → (offsets counts rules : List ℕ) (s : ℕ) (words kind : List ℕ) → ℕ → List ℕ
with_rules lay offsets counts rules s words kind zero = kind
with_rules lay offsets counts rules s words kind (suc r) = with_rule lay offsets counts rules s words (with_rules lay offsets counts rules s words kind r) r

module _ (lay : Layout) (offsets counts rules : List ℕ) (s : ℕ) (words kind : List ℕ) where
  -- a rule for s, of procedure p and node n
  pub rule_added : (r p n number block : ℕ) → (rule_at rules r).symbol ≡ s → p ≡ (rule_at rules r).procedure → n ≡ (rule_at rules r).node
      → number ≡ get_or offsets p 0
      → block ≡ narrowed lay.states lay.width (lay.states ^ count_of counts p) (lay.width / lay.states ^ count_of counts p) (get_or words n 0)
      → with_block kind block number ≡ with_rule lay offsets counts rules s words kind r
  unfolding with_rule rule_block
  rule_added r p n number block e ep en eo eb = rw (eb, eo, en, ep, eq-eqb (rule_at rules r).symbol s e)

  -- any other rule
  pub rule_skipped : (r : ℕ) → ((rule_at rules r).symbol ≡ s → ⊥) → kind ≡ with_rule lay offsets counts rules s words kind r
  unfolding with_rule
  rule_skipped r ne = rw (ne_eqb (rule_at rules r).symbol s ne)

  pub rules_none : kind ≡ with_rules lay offsets counts rules s words kind 0
  unfolding with_rules
  rules_none = refl

  pub rules_more : (current next : List ℕ) (r : ℕ) → current ≡ with_rules lay offsets counts rules s words kind r
      → next ≡ with_rule lay offsets counts rules s words current r
      → next ≡ with_rules lay offsets counts rules s words kind (r + 1)
  unfolding with_rules
  rules_more current next r e f = rw add-one (rw (← e) f)

-- the rules of symbol s in a chain: those between a rule and the next one change nothing
module _ (lay : Layout) (offsets counts rules : List ℕ) (s : ℕ) (words kind : List ℕ) where
  abbrev ChainNext : ℕ → ℕ → Type 0
  ChainNext r k = NextFrom (λ i. (rule_at rules i).symbol) (rule_count rules) s r k

  rules_passed : (r k : ℕ) → ChainNext r k → with_rules lay offsets counts rules s words kind r ≡ with_rules lay offsets counts rules s words kind k
  unfolding with_rules
  rules_passed r k is =
      unchanged (with_rules lay offsets counts rules s words kind) r k is.after
      (λ j a b. rule_skipped lay offsets counts rules s words (with_rules lay offsets counts rules s words kind j) j (is.none j a b))

  pub rules_first : (k : ℕ) → ChainNext 0 k → kind ≡ with_rules lay offsets counts rules s words kind k
  rules_first k is = rules_none lay offsets counts rules s words kind ∙ rules_passed 0 k is

  pub rules_next : (current next : List ℕ) (r k : ℕ) → current ≡ with_rules lay offsets counts rules s words kind r
      → next ≡ with_rule lay offsets counts rules s words current r
      → ChainNext (r + 1) k
      → next ≡ with_rules lay offsets counts rules s words kind k
  rules_next current next r k e f is = rules_more lay offsets counts rules s words kind current next r e f ∙ rules_passed (r + 1) k is

-- an expression asks only for the states of the parameters that it uses
module _ (T : Transformation) (Y : OutputType) (facts : Child → FactSet) (k : ℕ) (qs qs' : List ℕ) (h : k ≤ length qs) (h' : k ≤ length qs')
    (agree : (i : ℕ) → i < k → get_or qs i 0 ≡ get_or qs' i 0) where
  mutual
    unfolding yields greatest_parameter

    pub yields_first : (e : Expression) → greatest_parameter e ≤ k → (q : ℕ) → yields T Y facts e qs q ≡ yields T Y facts e qs' q
    yields_first (parameter i) g q = rw (below_yes i (length qs) (omega arith), below_yes i (length qs') (omega arith), agree i (omega arith))
    yields_first nothing g q = refl
    yields_first (symbol s e f) g q =
        some_cong _ _ _ (λ x hx. ap₂ ◌and◌ (yields_first e (omega arith) x) (some_cong _ _ _ (λ y hy. ap₂ ◌and◌ (yields_first f (omega arith) y) refl)))
    yields_first (call p c es) g q = yields_all_first es g (λ vs. facts c p q vs)

    yields_all_first : (es : Arguments) → greatest_of_all es ≤ k → (test : List ℕ → Bool) → yields_all T Y facts es qs test ≡ yields_all T Y facts es qs' test
    yields_all_first none g test = refl
    yields_all_first (argument e es) g test =
        some_cong _ _ _ (λ x hx. ap₂ ◌and◌ (yields_first e (omega arith) x) (yields_all_first es (omega arith) (λ vs. test (x ∷ vs))))

-- the first k digits of a number with d zeros after it
module _ (O : ℕ) (some : 0 < O) where
  power : (k : ℕ) → 0 < O ^ k
  power k = one-le-pow k O some

  high : (k d x : ℕ) → x * O ^ d / O ^ (k + d) ≡ x / O ^ k
  high k d x = rw (pow-add O k d) (mul-div-mul_right x (O ^ k) (power d))

  low : (k d x : ℕ) → x * O ^ d % O ^ (k + d) ≡ (x % O ^ k) * O ^ d
  low k d x =
      rw (pow-add O k d)
      (mod-mul (x * O ^ d) (power k) (power d) ∙ rw (mul-div_cancel x (power d), mul-mod_left x (O ^ d)) (add-zero (x % O ^ k * O ^ d)))

  digits_first : (k d x i : ℕ) → i < k → get_or (digits O (k + d) (x * O ^ d)) i 0 ≡ get_or (digits O k x) i 0
  unfolding digits
  digits_first zero d x i hi = absurd (not-suc-le-zero hi)
  digits_first (suc k) d x zero hi = rw suc-add (high k d x)
  digits_first (suc k) d x (suc i) hi = rw suc-add (rw (low k d x) (digits_first k d (x % O ^ k) i (le_of_suc-le-suc hi)))

  -- blocks lie one after another
  offset_apart : (counts : List ℕ) (p p' : ℕ) → p < p' → p' < length counts → offset O counts p + O ^ suc (count_of counts p) ≤ offset O counts p'
  unfolding offset
  offset_apart [] p p' h l = absurd (not-suc-le-zero l)
  offset_apart (k ∷ counts) p zero h l = absurd (not-suc-le-zero h)
  offset_apart (k ∷ counts) zero (suc p') h l = omega arith
  offset_apart (k ∷ counts) (suc p) (suc p') h l = omega (arith, offset_apart counts p p' (le_of_suc-le-suc h) (le_of_suc-le-suc l))

  -- the fact that is number n among those of procedure p
  numbered_at : (counts : List ℕ) (facts : FactSet) (p n : ℕ) → p < length counts → n < O ^ suc (count_of counts p)
      → numbered O counts facts (offset O counts p + n) ≡ facts p (n / O ^ count_of counts p) (digits O (count_of counts p) (n % O ^ count_of counts p))
  unfolding fact_number
  numbered_at counts facts p n hp hn =
      let k : ℕ = count_of counts p in
      let hn' : n < O * O ^ k = rw (pow-suc, mul_comm (O ^ k) O) at hn in
      let small : n % O ^ k < O ^ k = mod-lt n (power k) in
      let is : IsFact O counts p (n / O ^ k) (digits O k (n % O ^ k)) =
      record {
        procedure = hp;
        result = (div-lt_iff_lt-mul {k = O ^ k} {x = n} {y = O} (power k)).1 hn';
        arity = length_digits O k (n % O ^ k);
        parameters = digits_below O k (n % O ^ k) small;
      } in
      let e : fact_number O counts p (n / O ^ k) (digits O k (n % O ^ k)) ≡ offset O counts p + n =
      rw (code_digits O k (n % O ^ k) small) (ap (λ (m : ℕ). offset O counts p + m) (div-add-mod' n (O ^ k))) in
      ap (numbered O counts facts) (sym e) ∙ numbered-fact O counts p _ _ is facts

-- a bit of a block that is put at a place
shl_bit : (z o n f : ℕ) → f ≡ o + n → bit (z * 2 ^ o) f ≡ bit z n
shl_bit z o n f e = rw e (bit_shl z o n)

shl_past : (z o n f : ℕ) → z < 2 ^ n → o + n ≤ f → bit (z * 2 ^ o) f ≡ false
shl_past z o n f h l = shl_bit z o (f - o) f (omega arith) ∙ bit_high z n (f - o) h (omega arith)

module _ (C : Contract) (facts : Child → FactSet) (s : ℕ) (block : ℕ → ℕ) (some : 0 < C.output.states) where
  abbrev O : ℕ
  O = C.output.states

  abbrev counts : List ℕ
  counts = C.transformation.counts

  abbrev procedure : ℕ → ℕ
  procedure r = (rule_at C.transformation.rules r).procedure

  abbrev count : ℕ → ℕ
  count r = count_of counts (procedure r)

  abbrev yields_at : ℕ → List ℕ → ℕ → Bool
  yields_at r qs q = yields C.transformation C.output facts (right_side C.transformation r) qs q

  -- the block of rule r has the facts that this rule alone gives its procedure
  pub record BlockIs (r : ℕ) : Type 0 where
    pub is_procedure : procedure r < length counts
    pub small : block r < 2 ^ O ^ suc (count r)
    pub bits : (n : ℕ) → n < O ^ suc (count r) → bit (block r) n ≡ yields_at r (digits O (count r) (n % O ^ count r)) (n / O ^ count r)

  -- rule r's block at its place, if it is a rule for s
  abbrev pub placed : ℕ → ℕ
  placed r = choose (same (rule_at C.transformation.rules r).symbol s) (block r * 2 ^ offset O counts (procedure r)) 0

  unfoldable pub all_facts : ℕ
  all_facts = or_to placed (rule_count C.transformation.rules)

  module _ (is : (r : ℕ) → r < rule_count C.transformation.rules → (rule_at C.transformation.rules r).symbol ≡ s → BlockIs r) where
    -- a rule's part in number `rest` of procedure p
    placed_inside : (f r : ℕ) → r < rule_count C.transformation.rules → (at : NumberOf O counts f)
        → bit (placed r) f
        ≡ (same (procedure r) at.procedure
        and (same (rule_at C.transformation.rules r).symbol s
        and yields_at r (digits O (count_of counts at.procedure) (at.rest % O ^ count_of counts at.procedure)) (at.rest / O ^ count_of counts at.procedure)))
    unfolding ◌and◌
    placed_inside f r hr at = go (ℕ_discrete (rule_at C.transformation.rules r).symbol s)
      where
        go : Dec ((rule_at C.transformation.rules r).symbol ≡ s)
            → bit (placed r) f
            ≡ (same (procedure r) at.procedure
            and (same (rule_at C.transformation.rules r).symbol s
            and yields_at r (digits O (count_of counts at.procedure) (at.rest % O ^ count_of counts at.procedure)) (at.rest / O ^ count_of counts at.procedure)))
        go (no ne) = rw (same_no (rule_at C.transformation.rules r).symbol s ne) (bit_zero f ∙ sym (and_false (same (procedure r) at.procedure)))
        go (yes e) =
            rw (same_yes (rule_at C.transformation.rules r).symbol s e)
            (by (is r hr e) (ℕ_discrete (procedure r) at.procedure) (dec_lt (procedure r) at.procedure))
          where
            by : BlockIs r → Dec (procedure r ≡ at.procedure) → Dec (procedure r < at.procedure)
                → bit (block r * 2 ^ offset O counts (procedure r)) f
                ≡ (same (procedure r) at.procedure
                and yields_at r (digits O (count_of counts at.procedure) (at.rest % O ^ count_of counts at.procedure)) (at.rest / O ^ count_of counts at.procedure))
            by b (yes p) d =
                rw (same_yes (procedure r) at.procedure p)
                (rw (← p)
                (shl_bit (block r) (offset O counts (procedure r)) at.rest f (sym at.sum ∙ rw p) ∙ b.bits at.rest (rw p at.is_rest)))
            by b (no np) (yes l) =
                rw (same_no (procedure r) at.procedure np)
                (shl_past (block r) (offset O counts (procedure r)) (O ^ suc (count r)) f b.small
                (omega (arith, offset_apart O some counts (procedure r) at.procedure l at.is_procedure, at.sum)))
            by b (no np) (no nl) =
                rw (same_no (procedure r) at.procedure np)
                (bit_shl_low (block r) (offset O counts (procedure r)) f
                (omega (arith, offset_apart O some counts at.procedure (procedure r) (omega arith) b.is_procedure, at.sum, at.is_rest)))

    placed_past : (f r : ℕ) → r < rule_count C.transformation.rules → fact_total O counts ≤ f → bit (placed r) f ≡ false
    placed_past f r hr h = go (ℕ_discrete (rule_at C.transformation.rules r).symbol s)
      where
        go : Dec ((rule_at C.transformation.rules r).symbol ≡ s) → bit (placed r) f ≡ false
        go (no ne) = rw (same_no (rule_at C.transformation.rules r).symbol s ne) (bit_zero f)
        go (yes e) =
            let b : BlockIs r = is r hr e in
            rw (same_yes (rule_at C.transformation.rules r).symbol s e)
            (shl_past (block r) (offset O counts (procedure r)) (O ^ suc (count r)) f b.small
            (omega (arith, offset_next O counts (procedure r) b.is_procedure)))

    -- the bits of all blocks are the facts by number
    pub all_facts_bit : (f : ℕ) → bit all_facts f ≡ numbered O counts (facts_at C.transformation C.output facts s) f
    unfolding all_facts facts_at
    all_facts_bit f = or_to_bit placed (rule_count C.transformation.rules) f ∙ go (dec_lt f (fact_total O counts))
      where
        go : Dec (f < fact_total O counts)
            → some_below (rule_count C.transformation.rules) (λ r. bit (placed r) f) ≡ numbered O counts (facts_at C.transformation C.output facts s) f
        go (yes l) =
            let at : NumberOf O counts f = number_of O counts f l in
            some_cong _ _ _ (λ r hr. placed_inside f r hr at)
            ∙ sym (ap (numbered O counts (facts_at C.transformation C.output facts s)) (sym at.sum)
            ∙ numbered_at O some counts (facts_at C.transformation C.output facts s) at.procedure at.rest at.is_procedure at.is_rest)
        go (no l) = some_none _ _ (λ r hr. placed_past f r hr (omega arith)) ∙ sym (numbered_none O counts _ f (omega arith))

  -- a block of every O ^ (K - k)-th bit of a node's word
  module _ (K : ℕ) where
    pub block_is : (r w : ℕ) → procedure r < length counts → count r ≤ K → greatest_parameter (right_side C.transformation r) ≤ count r
        → NodeIs C.transformation C.output facts K (rule_at C.transformation.rules r).node w
        → Lanes O (O ^ count r) (block r) (λ q c. bit w (q * O ^ K + c * O ^ (K - count r)))
        → BlockIs r
    unfolding node_fact
    block_is r w hp hk uses node lanes = record { is_procedure = hp; small = rw size lanes.small; bits = bits }
      where
        size : O ^ suc (count r) ≡ O * O ^ count r
        size = pow-suc O (count r) ∙ mul_comm (O ^ count r) O

        bits : (n : ℕ) → n < O ^ suc (count r) → bit (block r) n ≡ yields_at r (digits O (count r) (n % O ^ count r)) (n / O ^ count r)
        bits n hn =
            let k : ℕ = count r in
            let d : ℕ = K - k in
            let q : ℕ = n / O ^ k in
            let c : ℕ = n % O ^ k in
            let hc : c < O ^ k = mod-lt n (power O some k) in
            let hn' : n < O * O ^ k = rw size at hn in
            let hq : q < O = (div-lt_iff_lt-mul {k = O ^ k} {x = n} {y = O} (power O some k)).1 hn' in
            let ed : k + d ≡ K = omega arith in
            let pk : O ^ K ≡ O ^ k * O ^ d = ap (λ (x : ℕ). O ^ x) (sym ed) ∙ pow-add O k d in
            let hl : c * O ^ d < O ^ K = rw pk (mul-lt-mul_of_pos_right hc (power O some d)) in
            let first : (i : ℕ) → i < k → get_or (digits O K (c * O ^ d)) i 0 ≡ get_or (digits O k c) i 0 =
            λ i hi. ap (λ (x : ℕ). get_or (digits O x (c * O ^ d)) i 0) (sym ed) ∙ digits_first O some k d c i hi in
            ap (bit (block r)) (sym (div-add-mod' n (O ^ k))) ∙ lanes.bits q c hq hc ∙ (node (omega arith)).bits q (c * O ^ d) hq hl
            ∙ yields_first C.transformation C.output facts k (digits O K (c * O ^ d)) (digits O k c) (rw (length_digits O K (c * O ^ d)) hk)
            (rw (length_digits O k c) (omega arith))
            first
            (right_side C.transformation r)
            uses
            q
