-- What tells a breaking kind: the mark of one root, a word of the input states that are accepted, and one of the output states that
-- are not.
use Rattle.std.specs.Prelude.{◌≡◌, refl, List, [], ◌∷◌, Bool, true, false, not, ℕ, ◌/◌, ◌%◌, ◌<◌, eqb, length, get_or, take}
use Rattle.std.proofs.Math.Path.{ap, ap₂}
use Rattle.std.proofs.Common.{sym, ◌∙◌, lt_of_le_of_lt, eq-eqb, ne_eqb, get_or-take}
use Rattle.std.proofs.Math.Bool.{◌&&◌}
use Rattle.std.proofs.Math.Nat.{pow-zero}
use native.Mathlib.Omega.{arith}
use Rattle.std.specs.Int.Bits.{bit_and}
use Rattle.std.proofs.lemmas.Nat.{and_le_r}
use Rattle.foundation.specs.Tests.{◌and◌, same, some_below, some_intro, some_elim, some_cong, and_left, and_right, and_both, test_true, true_test, test_false, false_test}
use Rattle.foundation.specs.Words.{bit, word, bit_word, word_lt}
use Rattle.foundation.specs.Bits.{bit-and, bit_zero, zero_bits}
use Rattle.model.specs.Tables.{Contract, mark_at}
use Rattle.model.specs.Facts.{offset, code, fact_number}
use Rattle.model.specs.Kinds.{RootMarks, marks_in, state_in, bit_of_fact, facts_in, of_input_type, has_wrong_output, is_taken, breaks}
use Rattle.model.proofs.Laws.Established.{Established}
use Rattle.model.proofs.Laws.RootMarks.{marks_five}
use Rattle.breaking.specs.declared.Verdicts.{Verdicts}

-- the states that have a mark, as a word
abbrev pub marked : List ℕ → ℕ → ℕ
marked marks mark = word (length marks) (λ (q : ℕ). same (mark_at marks q) mark)

-- some accepted input state is in the kind
abbrev pub accepting : (accepted : ℕ) → List ℕ → Bool
accepting accepted kind = not (eqb (bit_and (get_or kind 0 0) accepted) 0)

-- .. and its trees have one root
abbrev pub taking : (accepted : ℕ) → List ℕ → Bool
taking accepted kind = (marks_in kind).one_root && accepting accepted kind

-- some fact of procedure 0 with a state not accepted is in the kind
abbrev pub mistaken : (refused : ℕ) → List ℕ → Bool
mistaken refused kind = not (eqb (bit_and (get_or kind 1 0) refused) 0)

-- both
abbrev pub breaking : (accepted refused : ℕ) → List ℕ → Bool
breaking accepted refused kind = taking accepted kind && mistaken refused kind

-- the words of two types' marks
pub record VerdictsOf (input_marks output_marks : List ℕ) (v : Verdicts) : Type 0 where
  pub accepts : v.accepted ≡ marked input_marks 1
  pub refuses : v.refused ≡ marked output_marks 0

-- a word has a bit that a word of tests has
some_bit : (x n : ℕ) (f : ℕ → Bool) → not (eqb (bit_and x (word n f)) 0) ≡ some_below n (λ q. f q and bit x q)
some_bit x n f = go (some_below n (λ q. f q and bit x q)) refl
  where
    at : (q : ℕ) → q < n → bit (bit_and x (word n f)) q ≡ (bit x q and f q)
    at q h = bit-and x (word n f) q ∙ ap (λ (b : Bool). bit x q and b) (bit_word n f q h)

    go : (b : Bool) → some_below n (λ q. f q and bit x q) ≡ b → not (eqb (bit_and x (word n f)) 0) ≡ some_below n (λ q. f q and bit x q)
    go true e =
        let (q, l, t) = some_elim n (λ q. f q and bit x q) (true_test _ e) in
        let one : bit (bit_and x (word n f)) q ≡ true = at q l ∙ test_true _ (and_both _ _ (and_right _ _ t) (and_left _ _ t)) in
        rw (e, ne_eqb (bit_and x (word n f)) 0 (λ z. false_test _ (ap (λ (w : ℕ). bit w q) z ∙ bit_zero q) (true_test _ one)))
    go false e =
        let none : (q : ℕ) → q < n → bit (bit_and x (word n f)) q ≡ false =
        λ q l. at q l ∙ test_false _ (λ t. false_test _ e (some_intro n (λ q. f q and bit x q) q l (and_both _ _ (and_right _ _ t) (and_left _ _ t)))) in
        rw (e, eq-eqb (bit_and x (word n f)) 0 (zero_bits n (bit_and x (word n f)) (lt_of_le_of_lt (and_le_r x (word n f)) (word_lt n f)) none))

and_is : (a b : Bool) → (a && b) ≡ (a and b)
unfolding ◌and◌
and_is true b = refl
and_is false b = refl

-- the facts of procedure 0, which has no parameters, are the first ones
offset_start : (O : ℕ) (counts : List ℕ) → offset O counts 0 ≡ 0
unfolding offset
offset_start O [] = refl
offset_start O (k ∷ counts) = refl

module _ (C : Contract) (known : Established C) where
  start_number : (q : ℕ) → fact_number C.output.states C.transformation.counts 0 q [] ≡ q
  unfolding fact_number code
  start_number q =
      let z = known.start in
      rw (offset_start C.output.states C.transformation.counts, z, pow-zero) (omega arith)

  start_fact : (kind : List ℕ) (q : ℕ) → q < C.output.states → facts_in C kind 0 q [] ≡ bit (get_or kind 1 0) q
  unfolding facts_in bit_of_fact
  start_fact kind q h =
      let few = known.output_states.≤most in
      let d : q / 64 ≡ 0 = omega arith in
      let m : q % 64 ≡ q = omega arith in
      rw (start_number q, d, m)

  -- a kind is held with further words behind its five
  module _ (v : Verdicts) (of : VerdictsOf C.input.marks C.output.marks v) (held : List ℕ) where
    -- "some accepted input state is in it"
    accepting_is : accepting v.accepted held ≡ of_input_type C (take 5 held)
    unfolding of_input_type state_in
    accepting_is =
        rw (get_or-take 5 held 0 0 (omega arith), of.accepts, known.input_marks)
        (some_bit (get_or held 0 0) C.input.states (λ q. same (mark_at C.input.marks q) 1))

    -- "a contract takes no other" tree than one of one root
    pub taking_is : taking v.accepted held ≡ is_taken C (take 5 held)
    unfolding is_taken
    taking_is = ap₂ ◌&&◌ (ap (λ (marks : RootMarks). marks.one_root) (marks_five held)) accepting_is ∙ and_is _ _

    -- "A kind breaks the contract if .."
    pub breaking_is : breaking v.accepted v.refused held ≡ breaks C (take 5 held)
    unfolding breaks has_wrong_output
    breaking_is =
        ap₂ ◌&&◌ taking_is
        (rw (of.refuses, known.output_marks) (some_bit (get_or held 1 0) C.output.states (λ q. same (mark_at C.output.marks q) 0))
        ∙ some_cong C.output.states _ _
        (λ q h. ap (λ (b : Bool). same (mark_at C.output.marks q) 0 and b) (sym (start_fact (take 5 held) q h ∙ ap (λ (x : ℕ). bit x q) (get_or-take 5 held 1 0 (omega arith))))))
        ∙ and_is _ _
