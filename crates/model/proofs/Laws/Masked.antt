-- Laws of masked kinds: the marks, states and facts are kept and no other bit is; what is made of kinds does not hang on other bits; and
-- masking is "and" with five words, as code does it.
use mathlib.Core.Path.{◌≡◌, refl, ap, ap₂, sym, ◌∙◌}
use mathlib.Core.Bool.{Bool, true, false}
use mathlib.Core.Logic.{◌↔◌}
use mathlib.Core.List.{List, [], ◌∷◌}
use Prim.Native.Nat.{ℕ, ◌+◌, ◌*◌, ◌-◌, ◌/◌, ◌%◌, ◌^◌, ◌<◌, ◌≤◌, min}
use native.Mathlib.Omega.{arith}
use native.Mathlib.Decide.{dec_lt, ℕ_discrete}
use native.Mathlib.Nat.{lt_of_lt_of_le}
use borrow.Author.Tests.{lt-ltb, le-ltb}
use lib.Bits.{bit_and, and_le_r}
use lib.ListN.{length, get_or}
use lib.Pow.{pow_pos, pow_mono}
use Rattle.foundation.specs.Tests.{◌and◌, below, some_cong}
use Rattle.foundation.specs.TestLaws.{and_true, and_false}
use Rattle.foundation.specs.Words.{bit, word, word_lt, word_cong, bit_word}
use Rattle.foundation.specs.Bits.{bit-and, bit_high, bit_ones, word_unique}
use Rattle.model.specs.Trees.{Tree, empty, node}
use Rattle.model.specs.Tables.{Contract}
use Rattle.model.specs.Facts.{FactSet}
use Rattle.model.specs.Kinds.{reached_next, RootMarks, root_bit, empty_bit, with_marks, marks_in, numbered_fact, kind_words, state_in, bit_of_fact, facts_in, leaf_kind, symbol_kind, empty_kind, next_kind, kind_of, of_input_type, has_wrong_output, is_taken, breaks}
use Rattle.model.specs.Examining.{masked, SameBits}
use Rattle.model.proofs.Laws.Established.{Established}
use Rattle.model.proofs.Laws.RootMarks.{same_marks, with_marks_lt, state_beside_marks, root-bit, empty-bit}
use Rattle.model.proofs.Laws.Stays.{stay_words, next_same}
use Rattle.model.proofs.Laws.Facts.{fact_count, SameFactsOf, same_facts_sides, fact_number_lt, fact_of_number, numbered-fact, numbered_none, state_in_words, marks_in_words, facts_in_words, length_words, words_same, facts_at_same, right_side_well_formed}

and_turned : (a b : Bool) → (a and b) ≡ (b and a)
unfolding ◌and◌
and_turned true true = refl
and_turned true false = refl
and_turned false true = refl
and_turned false false = refl

-- kinds with the same marks, states and facts are the same after masking
pub same_bits_masked : (C : Contract) (a b : List ℕ) → SameBits C a b → masked C a ≡ masked C b
unfolding masked facts_in
same_bits_masked C a b same =
    words_same C _ _ _ _ (same_marks same.one_root same.is_empty) same.states
    (record { at = λ p q qs is. same.facts _ (fact_number_lt C.output.states C.transformation.counts p q qs is) })

module _ (C : Contract) (known : Established C) where
  abbrev O : ℕ
  O = C.output.states

  -- words made of marks, states and facts have no other bits
  pub masked_words : (marks : RootMarks) (reaches : ℕ → Bool) (facts : FactSet) → masked C (kind_words C marks reaches facts) ≡ kind_words C marks reaches facts
  unfolding masked
  masked_words marks reaches facts =
      words_same C _ _ _ _ (marks_in_words C marks reaches facts known.input_states.≤most)
      (λ q h. state_in_words C marks reaches facts known.input_states.≤most q h)
      (facts_in_words C marks reaches facts known.facts)

  pub masked_empty : masked C (empty_kind C) ≡ empty_kind C
  unfolding empty_kind leaf_kind
  masked_empty = rw (stay_words C _ _ _) (masked_words _ _ _)

  pub masked_next : (s : ℕ) (l r : List ℕ) → masked C (next_kind C s l r) ≡ next_kind C s l r
  unfolding next_kind symbol_kind
  masked_next s l r = rw (stay_words C _ _ _) (masked_words _ _ _)

  pub masked_kind : (t : Tree) → masked C (kind_of C t) ≡ kind_of C t
  unfolding kind_of
  masked_kind empty = masked_empty
  masked_kind (node s l r) = masked_next s (kind_of C l) (kind_of C r)

  -- the marks, states and facts of a kind are kept
  pub masked_marks : (kind : List ℕ) → marks_in (masked C kind) ≡ marks_in kind
  unfolding masked
  masked_marks kind = marks_in_words C _ _ _ known.input_states.≤most

  pub masked_state : (kind : List ℕ) (q : ℕ) → q < C.input.states → state_in C (masked C kind) q ≡ state_in C kind q
  unfolding masked
  masked_state kind q h = state_in_words C _ _ _ known.input_states.≤most q h

  pub masked_facts : (kind : List ℕ) → SameFactsOf C (facts_in C (masked C kind)) (facts_in C kind)
  unfolding masked
  masked_facts kind = facts_in_words C _ _ _ known.facts

  -- a fact's bit, by its number
  pub masked_bit : (kind : List ℕ) (f : ℕ) → f < fact_count C → bit_of_fact C (masked C kind) f ≡ bit_of_fact C kind f
  unfolding facts_in
  masked_bit kind f h =
      let (p, q, qs, is, e) = fact_of_number O C.transformation.counts f h in
      rw (← e) ((masked_facts kind).at p q qs is)

  -- kinds are the same after masking exactly if they have the same marks, states and facts
  pub masked_exactly : (a b : List ℕ) → (masked C a ≡ masked C b) ↔ SameBits C a b
  masked_exactly a b = (
    λ e.
        let marks : marks_in a ≡ marks_in b = sym (masked_marks a) ∙ ap marks_in e ∙ masked_marks b in
        record {
          one_root = ap (λ (m : RootMarks). m.one_root) marks;
          is_empty = ap (λ (m : RootMarks). m.is_empty) marks;
          states = λ q h. sym (masked_state a q h) ∙ ap (λ (k : List ℕ). state_in C k q) e ∙ masked_state b q h;
          facts = λ f h. sym (masked_bit a f h) ∙ ap (λ (k : List ℕ). bit_of_fact C k f) e ∙ masked_bit b f h;
        },
    same_bits_masked C a b,
  )

  -- what is made of kinds, and whether one breaks the contract, does not hang on other bits
  symbol_masked : (s : ℕ) (l r : List ℕ) → symbol_kind C s (masked C l) (masked C r) ≡ symbol_kind C s l r
  unfolding symbol_kind reached_next
  symbol_masked s l r =
      words_same C _ _ _ _ (let left = masked_marks l in let right = masked_marks r in cc)
      (λ q h.
      some_cong _ _ _
      (λ i hi.
      ap₂ ◌and◌ refl
      (ap₂ ◌and◌ refl (ap₂ ◌and◌ (masked_state l _ (known.input_row i hi).left) (masked_state r _ (known.input_row i hi).right)))))
      (facts_at_same C.transformation C.output _ _
      (same_facts_sides O C.transformation.counts (masked_facts l) (masked_facts r))
      (right_side_well_formed C known)
      s)

  pub next_masked : (s : ℕ) (l r : List ℕ) → next_kind C s (masked C l) (masked C r) ≡ next_kind C s l r
  next_masked s l r = next_same C s (masked C l) l (masked C r) r (symbol_masked s l r)

  taken_type_masked : (kind : List ℕ) → of_input_type C (masked C kind) ≡ of_input_type C kind
  unfolding of_input_type
  taken_type_masked kind = some_cong _ _ _ (λ q h. ap₂ ◌and◌ refl (masked_state kind q h))

  taken_masked : (kind : List ℕ) → is_taken C (masked C kind) ≡ is_taken C kind
  unfolding is_taken
  taken_masked kind = cc (masked_marks kind, taken_type_masked kind)

  wrong_masked : (kind : List ℕ) → has_wrong_output C (masked C kind) ≡ has_wrong_output C kind
  unfolding has_wrong_output
  wrong_masked kind =
      some_cong _ _ _
      (λ q h.
      ap₂ ◌and◌ refl
      ((masked_facts kind).at 0 q [] (record { procedure = known.procedures.least≤; result = h; arity = sym known.start; parameters = tt })))

  pub breaks_masked : (kind : List ℕ) → breaks C (masked C kind) ≡ breaks C kind
  unfolding breaks
  breaks_masked kind =
      let type = taken_type_masked kind in
      let taken = taken_masked kind in
      let wrong = wrong_masked kind in
      cc

  -- "five 64-bit words"
  pub masked_length : (kind : List ℕ) → length (masked C kind) ≡ 5
  unfolding masked
  masked_length kind = length_words C _ _ _

-- the mask of word 0: at most 32 input states and the two marks
abbrev pub state_mask : ℕ → ℕ
state_mask states = 2 ^ states - 1 + 2 ^ root_bit + 2 ^ empty_bit

module _ (states : ℕ) (few : states ≤ 32) where
  abbrev both : RootMarks
  both = record { one_root = true; is_empty = true }

  free : 2 ^ states - 1 < 2 ^ root_bit
  free = omega (arith, pow_pos states, pow_mono {i = states} {j = 32} few)

  marked : state_mask states ≡ with_marks both (2 ^ states - 1)
  unfolding with_marks
  marked = omega arith

  pub state_mask_lt : state_mask states < 2 ^ 34
  state_mask_lt = rw marked (with_marks_lt both _ free)

  -- the bits of the mask: the states and the two marks
  mask_state : (i : ℕ) → i < states → bit (state_mask states) i ≡ true
  mask_state i h = rw marked (state_beside_marks both _ free i (omega arith) ∙ bit_ones states i h)

  mask_root : bit (state_mask states) root_bit ≡ true
  mask_root = rw marked (root-bit both _ free)

  mask_empty : bit (state_mask states) empty_bit ≡ true
  mask_empty = rw marked (empty-bit both _ free)

  mask_between : (i : ℕ) → states ≤ i → i < root_bit → bit (state_mask states) i ≡ false
  mask_between i h l = rw marked (state_beside_marks both _ free i l ∙ bit_high _ states i (omega (arith, pow_pos states)) h)

module _ (C : Contract) where
  -- word j of the facts that there are
  unfoldable pub fact_mask : ℕ → ℕ
  fact_mask j = word 64 (λ b. below (64 * j + b) (fact_count C))

  -- a fact's bit by its number, where there is such a fact
  numbered_in : (kind : List ℕ) (f : ℕ) → numbered_fact C (facts_in C kind) f ≡ (below f (fact_count C) and bit_of_fact C kind f)
  unfolding facts_in ◌and◌ below
  numbered_in kind f = go (dec_lt f (fact_count C))
    where
      go : Dec (f < fact_count C) → numbered_fact C (facts_in C kind) f ≡ (below f (fact_count C) and bit_of_fact C kind f)
      go (yes l) =
          let (p, q, qs, is, e) = fact_of_number C.output.states C.transformation.counts f l in
          let here : numbered_fact C (facts_in C kind) f ≡ bit_of_fact C kind f =
          rw (← e) (numbered-fact C.output.states C.transformation.counts p q qs is (facts_in C kind)) in
          here ∙ rw (lt-ltb f (fact_count C) l) refl
      go (no nl) =
          numbered_none C.output.states C.transformation.counts (facts_in C kind) f (omega arith)
          ∙ rw (le-ltb f (fact_count C) (omega arith)) refl

  -- word 1 + j
  facts_word : (kind : List ℕ) (j : ℕ)
      → bit_and (get_or kind (1 + j) 0) (fact_mask j) ≡ word 64 (λ b. numbered_fact C (facts_in C kind) (64 * j + b))
  unfolding fact_mask bit_of_fact
  facts_word kind j =
      word_unique 64 (bit_and (get_or kind (1 + j) 0) (fact_mask j)) (λ b. numbered_fact C (facts_in C kind) (64 * j + b))
      (omega (arith, and_le_r (get_or kind (1 + j) 0) (fact_mask j), word_lt 64 (λ b. below (64 * j + b) (fact_count C))))
      (λ i h.
      bit-and (get_or kind (1 + j) 0) (fact_mask j) i
      ∙ and_turned _ _
      ∙ ap₂ ◌and◌ (bit_word 64 (λ b. below (64 * j + b) (fact_count C)) i h) (sym (bit_at i h))
      ∙ sym (numbered_in kind (64 * j + i)))
    where
      bit_at : (i : ℕ) → i < 64 → bit_of_fact C kind (64 * j + i) ≡ bit (get_or kind (1 + j) 0) i
      bit_at i h =
          let q : (64 * j + i) / 64 ≡ j = omega arith in
          let r : (64 * j + i) % 64 ≡ i = omega arith in
          rw (q, r) refl

  -- these are the lowest bits, as many as there are facts left
  pub fact_mask_ones : (j : ℕ) → fact_mask j ≡ 2 ^ min 64 (fact_count C - 64 * j) - 1
  unfolding fact_mask below
  fact_mask_ones j =
      sym
      (word_unique 64 (2 ^ n - 1) (λ b. below (64 * j + b) (fact_count C)) (lt_of_lt_of_le small (pow_mono {i = n} {j = 64} (omega arith)))
      (λ i h. go i h (dec_lt i n)))
    where
      n : ℕ
      n = min 64 (fact_count C - 64 * j)

      small : 2 ^ n - 1 < 2 ^ n
      small = omega (arith, pow_pos n)

      go : (i : ℕ) → i < 64 → Dec (i < n) → bit (2 ^ n - 1) i ≡ below (64 * j + i) (fact_count C)
      go i h (yes l) = bit_ones n i l ∙ sym (lt-ltb (64 * j + i) (fact_count C) (omega arith))
      go i h (no l) = bit_high (2 ^ n - 1) n i small (omega arith) ∙ sym (le-ltb (64 * j + i) (fact_count C) (omega arith))

  module _ (few : C.input.states ≤ 32) where
    abbrev I : ℕ
    I = C.input.states

    -- word 0, bit by bit
    word_zero : (kind : List ℕ) (i : ℕ) → i < 34
        → bit (bit_and (get_or kind 0 0) (state_mask I)) i ≡ bit (with_marks (marks_in kind) (word I (state_in C kind))) i
    unfolding state_in marks_in
    word_zero kind i h = bit-and (get_or kind 0 0) (state_mask I) i ∙ go (dec_lt i I) (dec_lt i 32) (ℕ_discrete i 32)
      where
        free_states : word I (state_in C kind) < 2 ^ root_bit
        free_states = lt_of_lt_of_le (word_lt I (state_in C kind)) (pow_mono few)

        go : Dec (i < I) → Dec (i < 32) → Dec (i ≡ 32)
            → (bit (get_or kind 0 0) i and bit (state_mask I) i) ≡ bit (with_marks (marks_in kind) (word I (state_in C kind))) i
        go (yes l) d e =
            rw (mask_state I few i l)
            (and_true _ ∙ sym (state_beside_marks (marks_in kind) _ free_states i (omega arith) ∙ bit_word I (state_in C kind) i l))
        go (no l) (yes m) e =
            rw (mask_between I few i (omega arith) m)
            (and_false _
            ∙ sym (state_beside_marks (marks_in kind) _ free_states i m ∙ bit_high (word I (state_in C kind)) I i (word_lt I (state_in C kind)) (omega arith)))
        go (no l) (no m) (yes e) = rw (e, mask_root I few) (and_true _ ∙ sym (root-bit (marks_in kind) _ free_states))
        go (no l) (no m) (no e) =
            let last : i ≡ 33 = omega arith in
            rw (last, mask_empty I few) (and_true _ ∙ sym (empty-bit (marks_in kind) _ free_states))

    marks_word : (kind : List ℕ) → bit_and (get_or kind 0 0) (state_mask I) ≡ with_marks (marks_in kind) (word I (state_in C kind))
    marks_word kind =
        word_unique 34 (bit_and (get_or kind 0 0) (state_mask I)) (bit (with_marks (marks_in kind) (word I (state_in C kind))))
        (omega (arith, and_le_r (get_or kind 0 0) (state_mask I), state_mask_lt I few))
        (word_zero kind)
        ∙ sym
        (word_unique 34 (with_marks (marks_in kind) (word I (state_in C kind))) (bit (with_marks (marks_in kind) (word I (state_in C kind))))
        (with_marks_lt (marks_in kind) _ (lt_of_lt_of_le (word_lt I (state_in C kind)) (pow_mono few)))
        (λ i h. refl))

    -- masking is "and" with five words
    pub masked_and : (kind : List ℕ)
        → masked C kind
        ≡ bit_and (get_or kind 0 0) (state_mask I)
        ∷ bit_and (get_or kind 1 0) (fact_mask 0)
        ∷ bit_and (get_or kind 2 0) (fact_mask 1)
        ∷ bit_and (get_or kind 3 0) (fact_mask 2)
        ∷ bit_and (get_or kind 4 0) (fact_mask 3)
        ∷ []
    unfolding masked kind_words
    masked_and kind =
        sym
        (ap₂ ◌∷◌ (marks_word kind)
        (ap₂ ◌∷◌ (facts_word kind 0 ∙ word_cong 64 _ _ (λ b h. ap (numbered_fact C (facts_in C kind)) (omega arith)))
        (ap₂ ◌∷◌ (facts_word kind 1) (ap₂ ◌∷◌ (facts_word kind 2) (ap₂ ◌∷◌ (facts_word kind 3) refl)))))
