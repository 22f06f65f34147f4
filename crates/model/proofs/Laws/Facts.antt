-- Laws of facts, for any count of parameters: each number below the total is that of one fact; the words of a kind hold
-- each fact at its number; and the facts of a node ask only facts of its children.
use mathlib.Core.Path.{◌≡◌, refl, ap, ap₂, subst, sym, ◌∙◌}
use mathlib.Core.List.{List, [], ◌∷◌}
use mathlib.Core.Bool.{Bool, false}
use Prim.Native.Nat.{ℕ, zero, suc, ◌+◌, ◌*◌, ◌-◌, ◌/◌, ◌%◌, ◌^◌, ◌<◌, ◌≤◌}
use native.Mathlib.Nat.{not-suc-le-zero, le_of_suc-le-suc, zero-add, add-zero, pow-suc, pow-zero, mul_comm, mod-lt, div-lt_iff_lt-mul, div-add-mod', lt_of_lt_of_le}
use native.Mathlib.Omega.{arith}
use native.Mathlib.Decide.{dec_lt}
use borrow.Author.Tests.{lt-ltb, le-ltb}
use lib.Arith.{digits_lt, digits_div, digits_mod}
use lib.Pow.{pow_mono, pow_pos}
use lib.Dec.{T}
use lib.ListN.{length, get_or}
use Rattle.foundation.specs.Tests.{◌and◌, same, and_left, and_right, and_both, same_eq, eq_same, some_cong}
use Rattle.foundation.specs.Lists.{same_list, same_list_eq, same_list_refl}
use Rattle.foundation.specs.Bits.{bit_high}
use Rattle.foundation.specs.Words.{bit, word, bit_word, word_lt, word_cong}
use Rattle.model.specs.Tables.{Contract, Transformation, OutputType, count_of, node_at, node_count, rule_at, rule_count}
use Rattle.model.specs.Expressions.{Child, left, right, here, Expression, parameter, nothing, symbol, call, Arguments, none, argument, arguments_of, expression}
use Rattle.model.specs.Outputs.{right_side}
use Rattle.model.specs.Facts.{FactSet, on_side, yields, yields_all, facts_at, digits, code, offset, fact_total, fact_number, numbered_from, numbered}
use Rattle.model.specs.Kinds.{RootMarks, root_bit, empty_bit, with_marks, marks_in, numbered_fact, kind_words, state_in, bit_of_fact, facts_in}
use Rattle.model.proofs.Laws.RootMarks.{same_marks, states_below_marks, with_marks_lt, state_beside_marks, root-bit, empty-bit, no_bit_above_marks}
use Rattle.model.proofs.Laws.Established.{Established, GoodNode, good_parameter, good_nothing, good_symbol, good_call}
use Rattle.model.proofs.Laws.Expressions.{expression_parameter, expression_nothing, expression_symbol, expression_call}

-- each number of a list is below O
abbrev pub AllBelow : ℕ → List ℕ → Type 0
AllBelow O [] = Unit {0}
AllBelow O (q ∷ qs) = (q < O) × AllBelow O qs

-- "A fact is a procedure p, a result state q and parameter states."
pub record IsFact (O : ℕ) (counts : List ℕ) (p q : ℕ) (qs : List ℕ) : Type 0 where
  pub procedure : p < length counts
  pub result : q < O
  pub arity : length qs ≡ count_of counts p
  pub parameters : AllBelow O qs

-- two facts are one
pub record SameFact (p q : ℕ) (qs : List ℕ) (p' q' : ℕ) (qs' : List ℕ) : Type 0 where
  pub procedure : p ≡ p'
  pub result : q ≡ q'
  pub parameters : qs ≡ qs'

-- a factor of a product that something is below
factor_positive : (a b n : ℕ) → n < a * b → 0 < a
factor_positive zero b n h = absurd (omega arith)
factor_positive (suc a) b n h = omega arith

module _ (O : ℕ) where
  -- the code of k states is below O^k, and its digits are the states
  pub code_lt : (qs : List ℕ) → AllBelow O qs → code O qs < O ^ length qs
  unfolding code
  code_lt [] h = rw pow-zero (omega arith)
  code_lt (q ∷ qs) h = rw (pow-suc, mul_comm (O ^ length qs) O) (digits_lt h.0 (code_lt qs h.1))

  pub digits_code : (qs : List ℕ) → AllBelow O qs → digits O (length qs) (code O qs) ≡ qs
  unfolding code digits
  digits_code [] h = refl
  digits_code (q ∷ qs) h =
      let l : code O qs < O ^ length qs = code_lt qs h.1 in
      rw (digits_div q l, digits_mod q l, digits_code qs h.1)

  pub length_digits : (k x : ℕ) → length (digits O k x) ≡ k
  unfolding digits
  length_digits zero x = refl
  length_digits (suc k) x = ap suc (length_digits k (x % O ^ k))

  -- the digits of a number below O^k are states, and the number is their code
  pub digits_below : (k x : ℕ) → x < O ^ k → AllBelow O (digits O k x)
  unfolding digits
  digits_below zero x h = tt
  digits_below (suc k) x h =
      let h' : x < O ^ k * O = rw pow-suc at h in
      let z : 0 < O ^ k = factor_positive (O ^ k) O x h' in
      ((div-lt_iff_lt-mul z).1 (rw (mul_comm O (O ^ k)) h'), digits_below k (x % O ^ k) (mod-lt x z))

  pub code_digits : (k x : ℕ) → x < O ^ k → code O (digits O k x) ≡ x
  unfolding code digits
  code_digits zero x h = let h' : x < 1 = rw pow-zero at h in omega arith
  code_digits (suc k) x h =
      let h' : x < O ^ k * O = rw pow-suc at h in
      let z : 0 < O ^ k = factor_positive (O ^ k) O x h' in
      rw (length_digits k (x % O ^ k), code_digits k (x % O ^ k) (mod-lt x z)) (div-add-mod' x (O ^ k))

  -- a number of a later procedure, less what the first takes up
  from_next : (k : ℕ) (counts : List ℕ) (p : ℕ) (facts : FactSet) (f : ℕ) → O ^ suc k ≤ f
      → numbered_from O (k ∷ counts) p facts f ≡ numbered_from O counts (suc p) facts (f - O ^ suc k)
  unfolding numbered_from
  from_next k counts p facts f h = rw (le-ltb f (O ^ suc k) h, numbered_from)

  from_offset : (counts : List ℕ) (b : ℕ) (facts : FactSet) (p n : ℕ) → p < length counts → n < O ^ suc (count_of counts p)
      → numbered_from O counts b facts (offset O counts p + n) ≡ facts (b + p) (n / O ^ count_of counts p) (digits O (count_of counts p) (n % O ^ count_of counts p))
  unfolding numbered_from offset
  from_offset [] b facts p n hp hn = absurd (not-suc-le-zero hp)
  from_offset (k ∷ counts) b facts zero n hp hn = rw (zero-add, add-zero) (rw (lt-ltb n (O ^ suc k) hn, numbered_from))
  from_offset (k ∷ counts) b facts (suc p) n hp hn =
      let e : O ^ suc k + offset O counts p + n - O ^ suc k ≡ offset O counts p + n = omega arith in
      let e' : b + suc p ≡ suc b + p = omega arith in
      from_next k counts b facts (O ^ suc k + offset O counts p + n) (omega arith)
      ∙ rw (e, e') (from_offset counts (suc b) facts p n (le_of_suc-le-suc hp) hn)

  -- the facts of procedure p end before those of the next begin
  pub offset_next : (counts : List ℕ) (p : ℕ) → p < length counts → offset O counts p + O ^ suc (count_of counts p) ≤ fact_total O counts
  unfolding offset
  offset_next [] p h = absurd (not-suc-le-zero h)
  offset_next (k ∷ counts) zero h = omega arith
  offset_next (k ∷ counts) (suc p) h = omega (arith, offset_next counts p (le_of_suc-le-suc h))

  -- f is number `rest` among the facts of a procedure
  pub record NumberOf (counts : List ℕ) (f : ℕ) : Type 0 where
    pub procedure : ℕ
    pub rest : ℕ
    pub is_procedure : procedure < length counts
    pub is_rest : rest < O ^ suc (count_of counts procedure)
    pub sum : offset O counts procedure + rest ≡ f

  -- every number below the total is
  pub number_of : (counts : List ℕ) (f : ℕ) → f < fact_total O counts → NumberOf counts f
  unfolding offset
  number_of [] f h = absurd (not-suc-le-zero h)
  number_of (k ∷ counts) f h = go (dec_lt f (O ^ suc k)) (λ l. number_of counts (f - O ^ suc k) l)
    where
      go : Dec (f < O ^ suc k) → (f - O ^ suc k < fact_total O counts → NumberOf counts (f - O ^ suc k)) → NumberOf (k ∷ counts) f
      go (yes l) later = record { procedure = 0; rest = f; is_procedure = omega arith; is_rest = l; sum = omega arith }
      go (no l) later =
          let n : NumberOf counts (f - O ^ suc k) = later (omega arith) in
          record { procedure = suc n.procedure; rest = n.rest; is_procedure = omega arith; is_rest = n.is_rest; sum = omega arith }

  -- a number past the last is no fact's
  from_none : (counts : List ℕ) (b : ℕ) (facts : FactSet) (f : ℕ) → fact_total O counts ≤ f → numbered_from O counts b facts f ≡ false
  unfolding numbered_from offset
  from_none [] b facts f h = refl
  from_none (k ∷ counts) b facts f h =
      from_next k counts b facts f (omega arith) ∙ from_none counts (suc b) facts (f - O ^ suc k) (omega arith)

module _ (O : ℕ) (counts : List ℕ) where
  pub numbered_none : (facts : FactSet) (f : ℕ) → fact_total O counts ≤ f → numbered O counts facts f ≡ false
  unfolding numbered
  numbered_none facts f h = from_none O counts 0 facts f h

  module _ (p q : ℕ) (qs : List ℕ) (is : IsFact O counts p q qs) where
    within_procedure : q * O ^ count_of counts p + code O qs < O ^ suc (count_of counts p)
    within_procedure =
        rw (pow-suc, mul_comm (O ^ count_of counts p) O) (digits_lt is.result (rw is.arity at (code_lt O qs is.parameters)))

    -- the fact of that number
    pub numbered-fact : (facts : FactSet) → numbered O counts facts (fact_number O counts p q qs) ≡ facts p q qs
    unfolding numbered fact_number
    numbered-fact facts =
        let c : code O qs < O ^ count_of counts p = rw is.arity at (code_lt O qs is.parameters) in
        let d : digits O (count_of counts p) (code O qs) ≡ qs = rw is.arity at (digits_code O qs is.parameters) in
        from_offset O counts 0 facts p (q * O ^ count_of counts p + code O qs) is.procedure within_procedure
        ∙ rw (zero-add, digits_div q c, digits_mod q c, d)

    pub fact_number_lt : fact_number O counts p q qs < fact_total O counts
    unfolding fact_number
    fact_number_lt = omega (arith, within_procedure, offset_next O counts p is.procedure)

  -- different facts have different numbers
  pub fact_number_same : (p q : ℕ) (qs : List ℕ) (p' q' : ℕ) (qs' : List ℕ) → IsFact O counts p q qs → IsFact O counts p' q' qs'
      → fact_number O counts p q qs ≡ fact_number O counts p' q' qs'
      → SameFact p q qs p' q' qs'
  fact_number_same p q qs p' q' qs' is is' e =
      -- the set of the first fact alone
      let only : FactSet = λ a b cs. same p a and same q b and same_list qs cs in
      let first : T (only p q qs) = and_both _ _ (eq_same p p refl) (and_both _ _ (eq_same q q refl) (same_list_refl qs)) in
      let equal : only p q qs ≡ only p' q' qs' =
      sym (numbered-fact p q qs is only) ∙ ap (numbered O counts only) e ∙ numbered-fact p' q' qs' is' only in
      let second : T (only p' q' qs') = subst T equal first in
      record {
        procedure = same_eq _ _ (and_left _ _ second);
        result = same_eq _ _ (and_left _ _ (and_right _ _ second));
        parameters = same_list_eq _ _ (and_right _ _ (and_right _ _ second));
      }

  -- every number below the total is that of a fact
  pub fact_of_number : (f : ℕ) → f < fact_total O counts
      → (p q : ℕ) × (qs : List ℕ) × IsFact O counts p q qs × (fact_number O counts p q qs ≡ f)
  unfolding fact_number
  fact_of_number f h =
      let n : NumberOf O counts f = number_of O counts f h in
      let p : ℕ = n.procedure in
      let k : ℕ = count_of counts p in
      let m : ℕ = n.rest in
      let hm : m < O ^ k * O = rw pow-suc at n.is_rest in
      let z : 0 < O ^ k = factor_positive (O ^ k) O m hm in
      let l : m % O ^ k < O ^ k = mod-lt m z in (
        p,
        m / O ^ k,
        digits O k (m % O ^ k),
        record {
          procedure = n.is_procedure;
          result = (div-lt_iff_lt-mul z).1 (rw (mul_comm O (O ^ k)) hm);
          arity = length_digits O k (m % O ^ k);
          parameters = digits_below O k (m % O ^ k) l;
        },
        rw (code_digits O k (m % O ^ k) l) (rw (div-add-mod' m (O ^ k)) n.sum),
      )

  -- two sets that agree on facts
  pub record SameFacts (facts facts' : FactSet) : Type 0 where
    pub at : (p q : ℕ) (qs : List ℕ) → IsFact O counts p q qs → facts p q qs ≡ facts' p q qs

  pub same_facts_chain : {facts facts' facts'' : FactSet} → SameFacts facts facts' → SameFacts facts' facts'' → SameFacts facts facts''
  same_facts_chain a b = record { at = λ p q qs is. a.at p q qs is ∙ b.at p q qs is }

  -- the facts of two children
  pub same_facts_sides : {l l' r r' : FactSet} → SameFacts l l' → SameFacts r r' → (c : Child) → SameFacts (on_side l r c) (on_side l' r' c)
  same_facts_sides a b left = a
  same_facts_sides a b right = b
  same_facts_sides a b here = b

  -- two sets that agree on facts have the same facts by number
  pub numbered_same : (facts facts' : FactSet) → SameFacts facts facts' → (f : ℕ) → numbered O counts facts f ≡ numbered O counts facts' f
  numbered_same facts facts' s f = go (dec_lt f (fact_total O counts))
    where
      go : Dec (f < fact_total O counts) → numbered O counts facts f ≡ numbered O counts facts' f
      go (yes l) =
          let (p, q, qs, is, e) = fact_of_number f l in
          rw (← e) (numbered-fact p q qs is facts ∙ s.at p q qs is ∙ sym (numbered-fact p q qs is facts'))
      go (no l) = numbered_none facts f (omega arith) ∙ sym (numbered_none facts' f (omega arith))

-- the facts of a contract, how many they are, and sets that agree on them
abbrev pub FactOf : Contract → (p q : ℕ) → List ℕ → Type 0
FactOf C p q qs = IsFact C.output.states C.transformation.counts p q qs

abbrev pub fact_count : Contract → ℕ
fact_count C = fact_total C.output.states C.transformation.counts

abbrev pub SameFactsOf : Contract → FactSet → FactSet → Type 0
SameFactsOf C facts facts' = SameFacts C.output.states C.transformation.counts facts facts'

module _ (C : Contract) (marks : RootMarks) (reaches : ℕ → Bool) (facts : FactSet) where
  -- at most 32 input states leave the bits of the marks free
  module _ (few : C.input.states ≤ 32) where
    free : word C.input.states reaches < 2 ^ root_bit
    free = states_below_marks C.input.states reaches few

    -- "word 0 has a bit for each input state the tree reaches"
    pub state_in_words : (q : ℕ) → q < C.input.states → state_in C (kind_words C marks reaches facts) q ≡ reaches q
    unfolding state_in kind_words
    state_in_words q h =
        state_beside_marks marks _ free q (omega arith) ∙ bit_word C.input.states reaches q h

    -- "two marks in word 0"
    pub marks_in_words : marks_in (kind_words C marks reaches facts) ≡ marks
    unfolding marks_in kind_words
    marks_in_words =
        same_marks (root-bit marks _ free) (empty-bit marks _ free)

    -- and no other bit
    pub no_state_in_words : (q : ℕ) → C.input.states ≤ q → (q ≡ root_bit → ⊥) → (q ≡ empty_bit → ⊥) → state_in C (kind_words C marks reaches facts) q ≡ false
    unfolding state_in kind_words
    no_state_in_words q h not_root not-empty = go (dec_lt q root_bit)
      where
        go : Dec (q < root_bit) → bit (with_marks marks (word C.input.states reaches)) q ≡ false
        go (yes l) =
            state_beside_marks marks _ free q l ∙ bit_high (word C.input.states reaches) C.input.states q (word_lt C.input.states reaches) h
        go (no l) = no_bit_above_marks marks _ free q (omega arith)

    pub words_below : (j : ℕ) → get_or (kind_words C marks reaches facts) j 0 < 2 ^ 64
    unfolding kind_words
    words_below zero = lt_of_lt_of_le (with_marks_lt marks _ free) (pow_mono {i = 34} {j = 64} (omega arith))
    words_below (suc zero) = word_lt 64 (λ b. numbered_fact C facts b)
    words_below (suc (suc zero)) = word_lt 64 (λ b. numbered_fact C facts (64 + b))
    words_below (suc (suc (suc zero))) = word_lt 64 (λ b. numbered_fact C facts (128 + b))
    words_below (suc (suc (suc (suc zero)))) = word_lt 64 (λ b. numbered_fact C facts (192 + b))
    words_below (suc (suc (suc (suc (suc j))))) = pow_pos 64

  -- "fact f is bit f mod 64 of word 1 + f div 64"
  pub fact_bit_in_words : (f : ℕ) → f < 256 → bit_of_fact C (kind_words C marks reaches facts) f ≡ numbered_fact C facts f
  unfolding bit_of_fact kind_words
  fact_bit_in_words f h = go (f / 64) refl
    where
      b : f % 64 < 64
      b = mod-lt f (omega arith)

      -- the word that begins with fact `start`
      at_word : (start : ℕ) → start + f % 64 ≡ f → bit (word 64 (λ i. numbered_fact C facts (start + i))) (f % 64) ≡ numbered_fact C facts f
      at_word start e = bit_word 64 (λ i. numbered_fact C facts (start + i)) (f % 64) b ∙ ap (numbered_fact C facts) e

      go : (n : ℕ) → f / 64 ≡ n → bit (get_or (kind_words C marks reaches facts) (1 + f / 64) 0) (f % 64) ≡ numbered_fact C facts f
      go zero e = rw e (bit_word 64 (λ i. numbered_fact C facts i) (f % 64) b ∙ ap (numbered_fact C facts) (omega arith))
      go (suc zero) e = rw e (at_word 64 (omega arith))
      go (suc (suc zero)) e = rw e (at_word 128 (omega arith))
      go (suc (suc (suc zero))) e = rw e (at_word 192 (omega arith))
      go (suc (suc (suc (suc n)))) e = absurd (omega arith)

  -- the words hold the facts, and no other bit
  pub facts_in_words : fact_count C ≤ 256 → SameFactsOf C (facts_in C (kind_words C marks reaches facts)) facts
  unfolding facts_in
  facts_in_words few =
      record {
        at = λ p q qs is.
            fact_bit_in_words (fact_number C.output.states C.transformation.counts p q qs)
            (omega (arith, fact_number_lt C.output.states C.transformation.counts p q qs is))
            ∙ numbered-fact C.output.states C.transformation.counts p q qs is facts;
      }

  pub no_fact_in_words : (f : ℕ) → fact_count C ≤ f → f < 256 → bit_of_fact C (kind_words C marks reaches facts) f ≡ false
  no_fact_in_words f h l = fact_bit_in_words f l ∙ numbered_none C.output.states C.transformation.counts facts f h

  -- "five 64-bit words"
  pub length_words : length (kind_words C marks reaches facts) ≡ 5
  unfolding kind_words
  length_words = refl

-- the words depend on the marks, on the states and on the facts alone
pub words_same : (C : Contract) {marks marks' : RootMarks} (reaches reaches' : ℕ → Bool) (facts facts' : FactSet) → marks ≡ marks'
    → ((q : ℕ) → q < C.input.states → reaches q ≡ reaches' q)
    → SameFactsOf C facts facts'
    → kind_words C marks reaches facts ≡ kind_words C marks' reaches' facts'
unfolding kind_words
words_same C reaches reaches' facts facts' m r s =
    ap₂ ◌∷◌ (ap₂ with_marks m (word_cong C.input.states reaches reaches' r))
    (ap₂ ◌∷◌ (facts_word (λ b. b)) (ap₂ ◌∷◌ (facts_word (λ b. 64 + b)) (ap₂ ◌∷◌ (facts_word (λ b. 128 + b)) (ap₂ ◌∷◌ (facts_word (λ b. 192 + b)) refl))))
  where
    facts_word : (place : ℕ → ℕ) → word 64 (λ b. numbered_fact C facts (place b)) ≡ word 64 (λ b. numbered_fact C facts' (place b))
    facts_word place =
        word_cong 64 _ _ (λ b l. numbered_same C.output.states C.transformation.counts facts facts' s (place b))

-- how many arguments a call has
abbrev pub argument_count : Arguments → ℕ
argument_count none = 0
argument_count (argument e es) = suc (argument_count es)

module _ (counts : List ℕ) where
  -- "its arguments, as many as the procedure's parameters": of each call in an expression
  abbrev mutual
    pub WellFormed : Expression → Type 0
    WellFormed (parameter i) = Unit {0}
    WellFormed nothing = Unit {0}
    WellFormed (symbol s e f) = WellFormed e × WellFormed f
    WellFormed (call p c es) = (p < length counts) × (argument_count es ≡ count_of counts p) × AllWellFormed es

    pub AllWellFormed : Arguments → Type 0
    AllWellFormed none = Unit {0}
    AllWellFormed (argument e es) = WellFormed e × AllWellFormed es

  count_arguments : (k : ℕ) (e f : Expression) → k ≤ 2 → argument_count (arguments_of k e f) ≡ k
  count_arguments zero e f h = refl
  count_arguments (suc zero) e f h = refl
  count_arguments (suc (suc zero)) e f h = refl
  count_arguments (suc (suc (suc k))) e f h = absurd (omega arith)

  arguments_well_formed : (k : ℕ) (e f : Expression) → (1 ≤ k → WellFormed e) → (2 ≤ k → WellFormed f) → AllWellFormed (arguments_of k e f)
  arguments_well_formed zero e f a b = tt
  arguments_well_formed (suc zero) e f a b = (a (omega arith), tt)
  arguments_well_formed (suc (suc k)) e f a b = (a (omega arith), (b (omega arith), tt))

  module _ (S : ℕ) (nodes : List ℕ) (few : (p : ℕ) → count_of counts p ≤ 2)
      (good : (n : ℕ) → n < node_count nodes → GoodNode S counts n (node_at nodes n)) where
    -- a good node over well-formed ones
    node_well_formed : (n : ℕ) → GoodNode S counts n (node_at nodes n) → ((m : ℕ) → m < n → WellFormed (expression counts nodes m))
        → WellFormed (expression counts nodes n)
    node_well_formed n (good_parameter t a b) w = rw (expression_parameter counts nodes n t) tt
    node_well_formed n (good_nothing t z) w = rw (expression_nothing counts nodes n t z) tt
    node_well_formed n (good_symbol t a b x y) w = rw (expression_symbol counts nodes n t a x y) (w _ x, w _ y)
    node_well_formed n (good_call t p c x y) w =
        rw (expression_call counts nodes n t (record { first = x; second = y }))
        (p, count_arguments _ _ _ (few _), arguments_well_formed _ _ _ (λ l. w _ (x l)) (λ l. w _ (y l)))

    -- by induction on a bound of the node's number
    below_well_formed : (b n : ℕ) → n < b → n < node_count nodes → WellFormed (expression counts nodes n)
    below_well_formed zero n h l = absurd (not-suc-le-zero h)
    below_well_formed (suc b) n h l = node_well_formed n (good n l) (λ m k. below_well_formed b m (omega arith) (omega arith))

    pub expression_well_formed : (n : ℕ) → n < node_count nodes → WellFormed (expression counts nodes n)
    expression_well_formed n l = below_well_formed (suc n) n (omega arith) l

-- the right sides of an admitted contract's rules
pub right_side_well_formed : (C : Contract) → Established C → (r : ℕ) → r < rule_count C.transformation.rules
    → WellFormed C.transformation.counts (right_side C.transformation r)
right_side_well_formed C known r l =
    expression_well_formed C.transformation.counts C.transformation.symbols C.transformation.nodes known.count known.node
    (rule_at C.transformation.rules r).node
    (known.rule r l).node

-- the facts of a node ask only facts of its children
module _ (M : Transformation) (Y : OutputType) (facts facts' : Child → FactSet)
    (agree : (c : Child) → SameFacts Y.states M.counts (facts c) (facts' c)) where
  mutual
    unfolding yields

    pub yields_same : (e : Expression) → WellFormed M.counts e → (qs : List ℕ) (q : ℕ) → q < Y.states
        → yields M Y facts e qs q ≡ yields M Y facts' e qs q
    yields_same (parameter i) w qs q h = refl
    yields_same nothing w qs q h = refl
    yields_same (symbol s e f) w qs q h =
        some_cong _ _ _ (λ x hx. ap₂ ◌and◌ (yields_same e w.0 qs x hx) (some_cong _ _ _ (λ y hy. ap₂ ◌and◌ (yields_same f w.1 qs y hy) refl)))
    yields_same (call p c es) w qs q h =
        yields_all_same es w.2 qs (λ vs. facts c p q vs) (λ vs. facts' c p q vs)
        (λ vs l a. (agree c).at p q vs (record { procedure = w.0; result = h; arity = l ∙ w.1; parameters = a }))

    pub yields_all_same : (es : Arguments) → AllWellFormed M.counts es → (qs : List ℕ) (test test' : List ℕ → Bool)
        → ((vs : List ℕ) → length vs ≡ argument_count es → AllBelow Y.states vs → test vs ≡ test' vs)
        → yields_all M Y facts es qs test ≡ yields_all M Y facts' es qs test'
    yields_all_same none w qs test test' h = h [] refl tt
    yields_all_same (argument e es) w qs test test' h =
        some_cong _ _ _
        (λ x hx.
        ap₂ ◌and◌ (yields_same e w.0 qs x hx)
        (yields_all_same es w.1 qs (λ vs. test (x ∷ vs)) (λ vs. test' (x ∷ vs)) (λ vs l a. h (x ∷ vs) (ap suc l) (hx, a))))

  pub facts_at_same : ((r : ℕ) → r < rule_count M.rules → WellFormed M.counts (right_side M r))
      → (s : ℕ) → SameFacts Y.states M.counts (facts_at M Y facts s) (facts_at M Y facts' s)
  unfolding facts_at
  facts_at_same w s =
      record {
        at = λ p q qs is. some_cong _ _ _ (λ r hr. ap₂ ◌and◌ refl (ap₂ ◌and◌ refl (yields_same (right_side M r) (w r hr) qs q is.result)));
      }
