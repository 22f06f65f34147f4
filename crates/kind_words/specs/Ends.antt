-- Kinds held as six words: the sixth does not matter. What the rules of symbol 0 make is what they make over two kinds that have input
-- state 0 alone and no fact, with the mark of the empty forest.
use Rattle.std.specs.Prelude.{◌≡◌, Bool, true, false, length, take}
use Rattle.std.proofs.Math.Path.{refl, ap, ap₂}
use Rattle.std.proofs.Common.{subst, sym, ◌∙◌, pow_pos, get_or-take, get_or-append-add}
use mathlib.Core.List.{List, [], ◌∷◌, ◌++◌}
use Prim.Native.Nat.{ℕ, zero, suc, ◌+◌, ◌-◌, ◌/◌, ◌%◌, ◌^◌, ◌<◌}
use native.Mathlib.Omega.{arith}
use Rattle.std.proofs.Math.Decide.{ℕ_discrete, dec_lt}
use Rattle.std.proofs.Math.ListN.{get_or, get_or-append}
use Rattle.foundation.specs.Words.{bit}
use Rattle.foundation.specs.Tests.{◌and◌, same, some_cong}
use Rattle.foundation.specs.TestLaws.{and_true, same_no}
use Rattle.foundation.specs.Bits.{bit_zero}
use Rattle.model.specs.Tables.{Contract, input_row}
use Rattle.model.specs.Admission.{most_facts}
use Rattle.model.specs.Facts.{FactSet, no_facts, on_side, fact_number, facts_at}
use Rattle.model.specs.Kinds.{RootMarks, empty_marks, marks_over, facts_in, bit_of_fact, state_in, reached_next, reached_empty, leaf_kind, symbol_kind, empty_kind, next_kind, kind_words}
use Rattle.model.specs.Expressions.{Child, left, right, here}
use Rattle.model.proofs.Laws.Established.{Established}
use Rattle.model.proofs.Laws.RootMarks.{marks_five}
use Rattle.model.proofs.Laws.Stays.{stay_words}
use Rattle.model.proofs.Laws.Facts.{SameFacts, words_same, facts_at_same, fact_number_lt, right_side_well_formed, length_words, words_below}
use Rattle.kind_words.specs.Blocks.{zeros, Words}
use Rattle.kind_words.specs.Marked.{unmarked_kind, first_word_marked, words_marked}

module _ (C : Contract) (known : Established C) where
  abbrev Agree : FactSet → FactSet → Type 0
  Agree facts facts' = SameFacts C.output.states C.transformation.counts facts facts'

  on_both : (a a' b b' : FactSet) → Agree a a' → Agree b b' → (c : Child) → Agree (on_side a b c) (on_side a' b' c)
  on_both a a' b b' x y left = x
  on_both a a' b b' x y right = y
  on_both a a' b b' x y here = y

  -- the facts of a kind stand in its first five words
  facts_five : (k : List ℕ) → Agree (facts_in C k) (facts_in C (take 5 k))
  unfolding facts_in bit_of_fact
  facts_five k =
      record {
        at = λ p q qs is.
            let f : ℕ = fact_number C.output.states C.transformation.counts p q qs in
            let h : f < most_facts = omega (arith, fact_number_lt C.output.states C.transformation.counts p q qs is, known.facts) in
            ap (λ (w : ℕ). bit w (f % 64)) (sym (get_or-take 5 k (1 + f / 64) 0 (omega arith)));
      }

  states_five : (k : List ℕ) (q : ℕ) → state_in C k q ≡ state_in C (take 5 k) q
  unfolding state_in
  states_five k q = ap (λ (w : ℕ). bit w q) (sym (get_or-take 5 k 0 0 (omega arith)))

  -- so what is made of two kinds, with whatever marks, is made of their first five words
  made_of_five : (marks marks' : RootMarks) (s : ℕ) (l r : List ℕ) → marks ≡ marks'
      → kind_words C marks (reached_next C.input s (state_in C l) (state_in C r)) (facts_at C.transformation C.output (on_side (facts_in C l) (facts_in C r)) s)
      ≡ kind_words C marks' (reached_next C.input s (state_in C (take 5 l)) (state_in C (take 5 r)))
      (facts_at C.transformation C.output (on_side (facts_in C (take 5 l)) (facts_in C (take 5 r))) s)
  unfolding reached_next
  made_of_five marks marks' s l r e =
      words_same C _ _ _ _ e
      (λ q hq. some_cong _ _ _ (λ i hi. ap₂ ◌and◌ refl (ap₂ ◌and◌ refl (ap₂ ◌and◌ (states_five l _) (states_five r _)))))
      (facts_at_same C.transformation C.output _ _ (on_both _ _ _ _ (facts_five l) (facts_five r)) (right_side_well_formed C known) s)

  pub kind_five : (s : ℕ) (l r : List ℕ) → symbol_kind C s l r ≡ symbol_kind C s (take 5 l) (take 5 r)
  unfolding symbol_kind
  kind_five s l r = made_of_five _ _ s l r (ap marks_over (marks_five r))

  pub unmarked_five : (s : ℕ) (l r : List ℕ) → unmarked_kind C s l r ≡ unmarked_kind C s (take 5 l) (take 5 r)
  unfolding unmarked_kind
  unmarked_five s l r = made_of_five _ _ s l r refl

  -- what stands below the empty forest
  abbrev pub below_empty : List ℕ
  below_empty = 1 ∷ 0 ∷ 0 ∷ 0 ∷ 0 ∷ 0 ∷ []

  no_fact : (f : ℕ) → bit_of_fact C below_empty f ≡ false
  unfolding bit_of_fact
  no_fact f = ap (λ (w : ℕ). bit w (f % 64)) (zero_word (f / 64)) ∙ bit_zero (f % 64)
    where
      zero_word : (j : ℕ) → get_or below_empty (1 + j) 0 ≡ 0
      zero_word j = let e : 1 + j ≡ suc j = omega arith in ap (λ (i : ℕ). get_or below_empty i 0) e ∙ zeros 5 j

  no-facts : (c : Child) → Agree (on_side (facts_in C below_empty) (facts_in C below_empty) c) no_facts
  unfolding facts_in
  no-facts left = record { at = λ p q qs is. no_fact _ }
  no-facts right = record { at = λ p q qs is. no_fact _ }
  no-facts here = record { at = λ p q qs is. no_fact _ }

  state_zero : state_in C below_empty 0 ≡ true
  unfolding state_in bit
  state_zero = refl

  -- a row of symbol 0 has child states 0
  leaf_row : (i : ℕ) → i < length C.input.rows / 4
      → (same (input_row C.input.rows i).symbol 0 and state_in C below_empty (input_row C.input.rows i).left and state_in C below_empty (input_row C.input.rows i).right)
      ≡ same (input_row C.input.rows i).symbol 0
  unfolding ◌and◌
  leaf_row i hi = go (ℕ_discrete (input_row C.input.rows i).symbol 0)
    where
      go : Dec ((input_row C.input.rows i).symbol ≡ 0)
          → (same (input_row C.input.rows i).symbol 0 and state_in C below_empty (input_row C.input.rows i).left and state_in C below_empty (input_row C.input.rows i).right)
          ≡ same (input_row C.input.rows i).symbol 0
      go (yes e) =
          let row = known.input_row i hi in
          rw (row.leaf_left e, row.leaf_right e, state_zero) (and_true (same (input_row C.input.rows i).symbol 0))
      go (no ne) = rw (same_no (input_row C.input.rows i).symbol 0 ne)

  pub leaf_kind_is : first_word_marked empty_marks (unmarked_kind C 0 below_empty below_empty ++ (0 ∷ [])) ≡ leaf_kind C ++ (0 ∷ [])
  unfolding unmarked_kind leaf_kind reached_next reached_empty
  leaf_kind_is =
      words_marked C empty_marks _ _
      ∙ ap (λ (k : List ℕ). k ++ (0 ∷ []))
      (words_same C _ _ _ _ refl (λ q hq. some_cong _ _ _ (λ i hi. ap₂ ◌and◌ refl (leaf_row i hi)))
      (facts_at_same C.transformation C.output _ _ no-facts (right_side_well_formed C known) 0))

  -- the words of a kind fit 64 bits, also with a 0 after them
  pub kind_with_zero : (k : List ℕ) → length k ≡ 5 → ((j : ℕ) → get_or k j 0 < 2 ^ 64) → Words (k ++ (0 ∷ []))
  kind_with_zero k long h j = go (dec_lt j (length k))
    where
      go : Dec (j < length k) → get_or (k ++ (0 ∷ [])) j 0 < 2 ^ 64
      go (yes l) = rw (get_or-append k (0 ∷ []) 0 j l) (h j)
      go (no l) =
          let e : j ≡ length k + (j - length k) = omega arith in
          subst (λ (i : ℕ). get_or (k ++ (0 ∷ [])) i 0 < 2 ^ 64) (sym e)
          (rw (get_or-append-add k (0 ∷ []) (j - length k) 0, zeros 1 (j - length k)) (pow_pos 64))

  pub of_words : (marks : RootMarks) (reaches : ℕ → Bool) (facts : FactSet) → Words (kind_words C marks reaches facts ++ (0 ∷ []))
  of_words marks reaches facts =
      kind_with_zero (kind_words C marks reaches facts) (length_words C marks reaches facts) (words_below C marks reaches facts known.input_states.≤most)

  pub next_words : (s : ℕ) (l r : List ℕ) → Words (next_kind C s l r ++ (0 ∷ []))
  unfolding next_kind symbol_kind
  next_words s l r = rw (stay_words C _ _ _) (of_words _ _ _)

  pub empty_words : Words (empty_kind C ++ (0 ∷ []))
  unfolding empty_kind leaf_kind
  empty_words = rw (stay_words C _ _ _) (of_words _ _ _)

-- .. and so do those below the empty forest
pub below_words : Words (1 ∷ 0 ∷ 0 ∷ 0 ∷ 0 ∷ 0 ∷ [])
below_words zero = omega arith
below_words (suc j) = rw (zeros 5 j) (pow_pos 64)
