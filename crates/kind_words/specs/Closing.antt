-- Rounds of the stay rules on words: each word of a kind, or-ed with that of what the rules of symbol S make over it on both sides. A
-- kind is held as six words, the last of them 0.
use Rattle.std.specs.Prelude.{◌≡◌, refl, Bool, length, get_or, take}
use Rattle.std.proofs.Math.Path.{ap, ap₂, sym}
use Rattle.std.proofs.Common.{◌∙◌, pow_pos, take_at}
use mathlib.Core.List.{List, [], ◌∷◌, ◌++◌}
use Prim.Native.Nat.{ℕ, zero, suc, ◌+◌, ◌*◌, ◌/◌, ◌%◌, ◌^◌, ◌≤◌, ◌<◌}
use native.Mathlib.Omega.{arith}
use Rattle.std.specs.Int.Bits.{bit_or, or_zero_r}
use Rattle.std.proofs.lemmas.Nat.{or_lt}
use Rattle.foundation.specs.Tests.{◌or◌}
use Rattle.foundation.specs.Lists.{five}
use Rattle.foundation.specs.Words.{bit, word}
use Rattle.foundation.specs.Bits.{bit-or, bit_zero, word_unique}
use Rattle.model.specs.Tables.{Contract}
use Rattle.model.specs.Admission.{most_facts}
use Rattle.model.specs.Facts.{FactSet, stay_round, stay_rounds}
use Rattle.model.specs.Kinds.{RootMarks, with_marks, kind_words, state_in, bit_of_fact, facts_in, stay_kind}
use Rattle.model.proofs.Laws.Established.{Established}
use Rattle.model.proofs.Laws.Facts.{length_words, words_below}
use Rattle.model.proofs.Laws.Stays.{round_bit, round_words, words-after, still_words, stay_reaches_nothing}
use Rattle.kind_words.specs.Blocks.{Words}
use Rattle.kind_words.specs.Marked.{unmarked_kind, no_marks_added}
use Rattle.kind_words.specs.Ends.{of_words, unmarked_five}

-- two kinds joined: a bit is set if one of them has it
abbrev pub joined_words : List ℕ → List ℕ → List ℕ
joined_words a b =
    bit_or (get_or a 0 0) (get_or b 0 0) ∷ bit_or (get_or a 1 0) (get_or b 1 0) ∷ bit_or (get_or a 2 0) (get_or b 2 0) ∷ bit_or (get_or a 3 0) (get_or b 3 0)
    ∷ bit_or (get_or a 4 0) (get_or b 4 0)
    ∷ 0
    ∷ []

-- a kind after a round of the stay rules, which are the rules of symbol S, and after n of them
unfoldable pub round_on : Contract → List ℕ → List ℕ
round_on C kind = joined_words kind (unmarked_kind C C.transformation.symbols kind kind ++ (0 ∷ []))

unfoldable pub rounds_on : Contract → ℕ → List ℕ → List ℕ
rounds_on C zero kind = kind
rounds_on C (suc n) kind = round_on C (rounds_on C n kind)

-- .. step by step
pub round_steps : (C : Contract) (kind : List ℕ) {s : ℕ} {made next : List ℕ} → s ≡ C.transformation.symbols → made ≡ unmarked_kind C s kind kind ++ (0 ∷ [])
    → next ≡ joined_words kind made
    → next ≡ round_on C kind
unfolding round_on
round_steps C kind e f g = g ∙ rw (f, e)

pub no_rounds : (C : Contract) (kind : List ℕ) → kind ≡ rounds_on C 0 kind
unfolding rounds_on
no_rounds C kind = refl

pub one_round_more : (C : Contract) (kind : List ℕ) (n : ℕ) {before next : List ℕ} → before ≡ rounds_on C n kind → next ≡ round_on C before → next ≡ rounds_on C (n + 1) kind
unfolding rounds_on
one_round_more C kind n e f = f ∙ ap (round_on C) e ∙ ap (λ (m : ℕ). rounds_on C m kind) (let m : suc n ≡ n + 1 = omega arith in m)

-- a kind that is made of marks, states and facts, so that none of its bits stands for anything else
pub record MadeKind (C : Contract) (kind : List ℕ) : Type 0 where
  pub marks : RootMarks
  pub reaches : ℕ → Bool
  pub facts : FactSet
  pub words : kind ≡ kind_words C marks reaches facts ++ (0 ∷ [])

-- five numbers and a 0
six_words : {a b c d e a' b' c' d' e' : ℕ} → a ≡ a' → b ≡ b' → c ≡ c' → d ≡ d' → e ≡ e'
    → (a ∷ b ∷ c ∷ d ∷ e ∷ 0 ∷ []) ≡ (a' ∷ b' ∷ c' ∷ d' ∷ e' ∷ 0 ∷ [])
six_words p q r s t = rw (p, q, r, s, t)

six : (l : List ℕ) → length l ≡ 5 → l ++ (0 ∷ []) ≡ get_or l 0 0 ∷ get_or l 1 0 ∷ get_or l 2 0 ∷ get_or l 3 0 ∷ get_or l 4 0 ∷ 0 ∷ []
six l e = ap (λ (k : List ℕ). k ++ (0 ∷ [])) (five l e)

joined_appended : (a b : List ℕ) → length a ≡ 5 → length b ≡ 5 → joined_words (a ++ (0 ∷ [])) (b ++ (0 ∷ [])) ≡ joined_words a b
joined_appended a b e f = rw (six a e, six b f)

module _ (C : Contract) (known : Established C) (marks : RootMarks) (reaches : ℕ → Bool) (facts : FactSet) where
  abbrev kind : List ℕ
  kind = kind_words C marks reaches facts

  -- what the stay rules make of it
  abbrev made : List ℕ
  made = unmarked_kind C C.transformation.symbols kind kind

  -- the kind after the round
  abbrev after : List ℕ
  after = kind_words C marks reaches (stay_round C.transformation C.output (facts_in C kind))

  no_states : get_or made 0 0 ≡ 0
  unfolding unmarked_kind kind_words
  no_states =
      no_marks_added
      ∙ sym
      (word_unique C.input.states 0 _ (pow_pos C.input.states)
      (λ q h. bit_zero q ∙ sym (stay_reaches_nothing C known (state_in C kind) (state_in C kind) q)))

  -- a round leaves the states and the marks as they are
  states_kept : bit_or (get_or kind 0 0) (get_or made 0 0) ≡ get_or after 0 0
  unfolding kind_words
  states_kept = rw no_states (or_zero_r (with_marks marks (word C.input.states reaches)))

  -- bit i of word 1 + j is fact 64 j + i
  at_fact : (k : List ℕ) (j i : ℕ) → i < 64 → bit_of_fact C k (64 * j + i) ≡ bit (get_or k (1 + j) 0) i
  unfolding bit_of_fact
  at_fact k j i h =
      let d : (64 * j + i) / 64 ≡ j = omega arith in
      let m : (64 * j + i) % 64 ≡ i = omega arith in
      rw (d, m)

  small : (m : RootMarks) (r : ℕ → Bool) (f : FactSet) (j : ℕ) → get_or (kind_words C m r f) j 0 < 2 ^ 64
  small m r f j = words_below C m r f known.input_states.≤most j

  facts_added : (j : ℕ) → j < 4 → bit_or (get_or kind (1 + j) 0) (get_or made (1 + j) 0) ≡ get_or after (1 + j) 0
  unfolding unmarked_kind
  facts_added j h =
      word_unique 64 (bit_or (get_or kind (1 + j) 0) (get_or made (1 + j) 0)) (bit (get_or after (1 + j) 0))
      (or_lt 64 _ _ (small marks reaches facts (1 + j)) (small _ _ _ (1 + j)))
      (λ i l.
      bit-or (get_or kind (1 + j) 0) (get_or made (1 + j) 0) i
      ∙ ap₂ ◌or◌ (sym (at_fact kind j i l)) (sym (at_fact made j i l))
      ∙ sym (round_bit C known marks reaches facts _ _ (64 * j + i) (omega arith))
      ∙ at_fact after j i l)
      ∙ sym (word_unique 64 (get_or after (1 + j) 0) (bit (get_or after (1 + j) 0)) (small _ _ _ (1 + j)) (λ i l. refl))

  made_five : length made ≡ 5
  unfolding unmarked_kind
  made_five = length_words C _ _ _

  seen_in_five : unmarked_kind C C.transformation.symbols (kind ++ (0 ∷ [])) (kind ++ (0 ∷ [])) ≡ made
  seen_in_five =
      let five : take 5 (kind ++ (0 ∷ [])) ≡ kind = take_at kind (0 ∷ []) 5 (length_words C marks reaches facts) in
      unmarked_five C known C.transformation.symbols (kind ++ (0 ∷ [])) (kind ++ (0 ∷ [])) ∙ rw five

  -- so on words a round is a round on facts
  round_is : round_on C (kind ++ (0 ∷ [])) ≡ after ++ (0 ∷ [])
  unfolding round_on
  round_is =
      rw seen_in_five (joined_appended kind made (length_words C marks reaches facts) made_five)
      ∙ six_words states_kept (facts_added 0 (omega arith)) (facts_added 1 (omega arith)) (facts_added 2 (omega arith)) (facts_added 3 (omega arith))
      ∙ sym (six after (length_words C marks reaches _))

-- rounds on a kind that is made of marks, states and facts
module _ (C : Contract) (known : Established C) {kind : List ℕ} (made : MadeKind C kind) where
  -- .. on its facts
  abbrev pub closing : ℕ → List ℕ
  closing n = kind_words C made.marks made.reaches (stay_rounds C.transformation C.output n made.facts)

  pub rounds_are : (n : ℕ) → rounds_on C n kind ≡ closing n ++ (0 ∷ [])
  unfolding rounds_on stay_rounds
  rounds_are zero = made.words
  rounds_are (suc n) =
      ap (round_on C) (rounds_are n)
      ∙ round_is C known made.marks made.reaches (stay_rounds C.transformation C.output n made.facts)
      ∙ ap (λ (k : List ℕ). k ++ (0 ∷ [])) (sym (round_words C known made.marks made.reaches made.facts n))

  -- they fit 64 bits
  pub rounds_fit : (n : ℕ) → Words (rounds_on C n kind)
  rounds_fit n = rw (rounds_are n) (of_words C known _ _ _)

  pub own_five : take 5 kind ≡ kind_words C made.marks made.reaches made.facts
  own_five = ap (take 5) made.words ∙ take_at _ (0 ∷ []) 5 (length_words C _ _ _)

  -- after as many rounds as there may be facts the kind is closed
  pub rounds_close : (n : ℕ) → most_facts ≤ n → rounds_on C n kind ≡ stay_kind C (take 5 kind) ++ (0 ∷ [])
  rounds_close n h =
      rounds_are n
      ∙ ap (λ (k : List ℕ). k ++ (0 ∷ [])) (words-after C known made.marks made.reaches made.facts n (omega (arith, known.facts)) ∙ ap (stay_kind C) (sym own_five))

  pub length_closing : (n : ℕ) → length (closing n) ≡ 5
  length_closing n = length_words C _ _ _

  -- and so it is after a round that adds nothing
  pub still_closes : (n : ℕ) → closing n ≡ closing (suc n) → rounds_on C n kind ≡ stay_kind C (take 5 kind) ++ (0 ∷ [])
  still_closes n e =
      rounds_are n
      ∙ ap (λ (k : List ℕ). k ++ (0 ∷ [])) (still_words C known made.marks made.reaches made.facts n e ∙ ap (stay_kind C) (sym own_five))
