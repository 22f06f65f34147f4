-- What the kind of a tree says of the tree: the input states reached, whether it has one root or is empty, the facts that hold, and
-- whether the tree breaks the contract. Each bit is shown to be what document 01 says that it stands for.
use mathlib.Core.Path.{◌≡◌, refl, ap, ap₂, subst, sym, ◌∙◌}
use mathlib.Core.List.{List, []}
use mathlib.Core.Bool.{Bool, true, false}
use mathlib.Core.Logic.{◌↔◌}
use Prim.Native.Nat.{ℕ, zero, suc, ◌^◌, ◌<◌, ◌≤◌}
use native.Mathlib.Omega.{arith}
use lib.Dec.{T}
use lib.ListN.{length, get_or}
use Rattle.foundation.specs.Tests.{choose, and_left, and_right, and_both, same_eq, eq_same, some_intro, some_elim, test_ext}
use Rattle.model.specs.Trees.{Tree, empty, node, IsEmpty, OneRoot}
use Rattle.model.specs.Tables.{Contract, InputType, input_row, input_row_count, mark_at}
use Rattle.model.specs.Outputs.{Output}
use Rattle.model.specs.Facts.{FactSet, closed_facts, fact, FactHolds, state_of}
use Rattle.model.specs.Kinds.{RootMarks, empty_marks, marks_over, root_bit, empty_bit, marks_in, reached_empty, reached_next, kind_words, state_in, bit_of_fact, facts_in, leaf_kind, symbol_kind, stay_kind, empty_kind, next_kind, kind_of, of_input_type, has_wrong_output, is_taken, breaks}
use Rattle.model.specs.Judging.{judgement}
use Rattle.model.specs.Claims.{Reaches, Takes, Allows, Breaks}
use Rattle.model.specs.Meaning.{TreeOf, Judges}
use Rattle.model.proofs.Laws.Established.{Established}
use Rattle.model.proofs.Laws.RootMarks.{same_marks}
use Rattle.model.proofs.Laws.Facts.{FactOf, fact_count, SameFactsOf, same_facts_chain, same_facts_sides, state_in_words, marks_in_words, no_state_in_words, facts_in_words, no_fact_in_words, length_words, words_below, words_same, facts_at_same, right_side_well_formed}
use Rattle.model.proofs.Laws.Stays.{stay_states, stay_marks, stay_words, stay_closes, closed_same}
use Rattle.model.proofs.Meaning.Facts.{fact_holds, fact_output, state_of_below}

-- one equivalence after another
chain : {P Q R : Type 0} → P ↔ Q → Q ↔ R → P ↔ R
chain f g = (λ p. g.0 (f.0 p), λ r. f.1 (g.1 r))

-- equal tests hold together
test_iff : {a b : Bool} → a ≡ b → T a ↔ T b
test_iff e = (subst T e, subst T (sym e))

turn : {P Q : Type 0} → P ↔ Q → Q ↔ P
turn f = (f.1, f.0)

tests_equal : {a b : Bool} {P : Type 0} → T a ↔ P → T b ↔ P → a ≡ b
tests_equal {a} {b} f g = test_ext a b (λ x. g.1 (f.0 x)) (λ y. f.1 (g.0 y))

-- the kind of a tree is a function of its symbol and the kinds of its children
pub kind_empty : (C : Contract) → kind_of C empty ≡ empty_kind C
unfolding kind_of
kind_empty C = refl

pub kind_node : (C : Contract) (s : ℕ) (l r : Tree) → kind_of C (node s l r) ≡ next_kind C s (kind_of C l) (kind_of C r)
unfolding kind_of
kind_node C s l r = refl

-- trees of one kind stand for each other under a symbol
pub kind_congruent : (C : Contract) (s : ℕ) (l l' r r' : Tree) → kind_of C l ≡ kind_of C l' → kind_of C r ≡ kind_of C r'
    → kind_of C (node s l r) ≡ kind_of C (node s l' r')
unfolding kind_of
kind_congruent C s l l' r r' e f = ap₂ (next_kind C s) e f

module _ (X : InputType) where
  reached-empty : (q : ℕ) → T (reached_empty X q) ↔ Reaches X empty q
  unfolding reached_empty
  reached-empty q = (
    λ x. let (i, l, t) = some_elim _ _ x in (i, l, same_eq _ _ (and_left _ _ t), same_eq _ _ (and_right _ _ t)),
    λ y. some_intro _ _ y.0 y.1 (and_both _ _ (eq_same _ _ y.2) (eq_same _ _ y.3)),
  )

  reached_node : (s : ℕ) (l r : Tree) (f g : ℕ → Bool)
      → ((i : ℕ) → i < input_row_count X.rows → T (f (input_row X.rows i).left) ↔ Reaches X l (input_row X.rows i).left)
      → ((i : ℕ) → i < input_row_count X.rows → T (g (input_row X.rows i).right) ↔ Reaches X r (input_row X.rows i).right)
      → (q : ℕ)
      → T (reached_next X s f g q) ↔ Reaches X (node s l r) q
  unfolding reached_next
  reached_node s l r f g hf hg q = (
    λ x.
        let (i, h, t) = some_elim _ _ x in
        let t' = and_right _ _ t in
        let t'' = and_right _ _ t' in
        (i, h, same_eq _ _ (and_left _ _ t), same_eq _ _ (and_left _ _ t'), (hf i h).0 (and_left _ _ t''), (hg i h).0 (and_right _ _ t'')),
    λ y.
        some_intro _ _ y.0 y.1
        (and_both _ _ (eq_same _ _ y.2)
        (and_both _ _ (eq_same _ _ y.3) (and_both _ _ ((hf y.0 y.1).1 y.4) ((hg y.0 y.1).1 y.5)))),
  )

-- "an output outside the output type": procedure 0 has one that is not allowed
pub record WrongOutput (C : Contract) (t : Tree) : Type 0 where
  pub output : Tree
  pub is_output : Output C.transformation 0 t [] output
  pub not_allowed : Allows C output → ⊥

-- what is marked holds of the tree
pub record Marked (t : Tree) (marks : RootMarks) : Type 0 where
  pub one_root : T marks.one_root ↔ OneRoot t
  pub is_empty : T marks.is_empty ↔ IsEmpty t

marked_empty : Marked empty empty_marks
marked_empty = record { one_root = (λ x. x, λ x. x); is_empty = (λ x. x, λ x. x) }

marked-over : (s : ℕ) (l r : Tree) (marks : RootMarks) → Marked r marks → Marked (node s l r) (marks_over marks)
marked-over s l r marks m = record { one_root = m.is_empty; is_empty = (λ x. x, λ x. x) }

-- a tree is marked in one way
marked_same : (t : Tree) (marks marks' : RootMarks) → Marked t marks → Marked t marks' → marks ≡ marks'
marked_same t marks marks' m n =
    same_marks (tests_equal m.one_root n.one_root) (tests_equal m.is_empty n.is_empty)

-- two trees reach the same input states, both have one root or neither, both are empty or neither, and the same facts hold of them
pub record Alike (C : Contract) (t t' : Tree) : Type 0 where
  pub one_root : OneRoot t ↔ OneRoot t'
  pub is_empty : IsEmpty t ↔ IsEmpty t'
  pub states : (q : ℕ) → q < C.input.states → Reaches C.input t q ↔ Reaches C.input t' q
  pub facts : (p q : ℕ) (qs : List ℕ) → FactOf C p q qs
      → FactHolds C.transformation C.output t p q qs
      ↔ FactHolds C.transformation C.output t' p q qs

module _ (C : Contract) (known : Established C) where
  few_states : C.input.states ≤ 32
  few_states = known.input_states.≤most

  -- "word 0 has a bit for each input state the tree reaches"
  pub kind_states : (t : Tree) (q : ℕ) → q < C.input.states → T (state_in C (kind_of C t) q) ↔ Reaches C.input t q
  unfolding kind_of empty_kind next_kind leaf_kind symbol_kind
  kind_states empty q h = chain (test_iff (stay_states C _ q ∙ state_in_words C _ _ _ few_states q h)) (reached-empty C.input q)
  kind_states (node s l r) q h =
      chain (test_iff (stay_states C _ q ∙ state_in_words C _ _ _ few_states q h))
      (reached_node C.input s l r (state_in C (kind_of C l)) (state_in C (kind_of C r)) (λ i hi. kind_states l _ (known.input_row i hi).left)
      (λ i hi. kind_states r _ (known.input_row i hi).right)
      q)

  -- "bit 32 set if the tree has one root, bit 33 if it is empty"
  pub kind_marks : (t : Tree) → Marked t (marks_in (kind_of C t))
  unfolding kind_of empty_kind next_kind leaf_kind symbol_kind
  kind_marks empty = subst (Marked empty) (sym (stay_marks C _ ∙ marks_in_words C _ _ _ few_states)) marked_empty
  kind_marks (node s l r) = subst (Marked (node s l r)) (sym (stay_marks C _ ∙ marks_in_words C _ _ _ few_states)) (marked-over s l r _ (kind_marks r))

  -- every state reached is an input state, so that word 0 has room for it
  pub reached_is_state : (t : Tree) (q : ℕ) → Reaches C.input t q → q < C.input.states
  reached_is_state empty q (i, h, state, symbol) = rw (← state) (known.input_row i h).state
  reached_is_state (node s l r) q (i, h, state, symbol, on_left, on_right) = rw (← state) (known.input_row i h).state

  -- the facts in a closed kind are the closed facts
  stayed_facts : (marks : RootMarks) (reaches : ℕ → Bool) (facts facts' : FactSet) → SameFactsOf C facts facts'
      → SameFactsOf C (facts_in C (stay_kind C (kind_words C marks reaches facts))) (closed_facts C.transformation C.output facts')
  stayed_facts marks reaches facts facts' s =
      rw (stay_closes C known marks reaches facts)
      (same_facts_chain C.output.states C.transformation.counts (facts_in_words C marks reaches (closed_facts C.transformation C.output facts) known.facts)
      (closed_same C.transformation C.output (right_side_well_formed C known) s))

  -- the facts in a kind are those of the tree
  kind_same_facts : (t : Tree) → SameFactsOf C (facts_in C (kind_of C t)) (fact C.transformation C.output t)
  unfolding kind_of empty_kind next_kind leaf_kind symbol_kind fact
  kind_same_facts empty = stayed_facts _ _ _ _ (record { at = λ p q qs is. refl })
  kind_same_facts (node s l r) =
      stayed_facts _ _ _ _
      (facts_at_same C.transformation C.output _ _
      (same_facts_sides C.output.states C.transformation.counts (kind_same_facts l) (kind_same_facts r))
      (right_side_well_formed C known)
      s)

  -- "fact f is bit f mod 64 of word 1 + f div 64"
  pub kind_facts : (t : Tree) (p q : ℕ) (qs : List ℕ) → FactOf C p q qs
      → facts_in C (kind_of C t) p q qs ≡ fact C.transformation C.output t p q qs
  kind_facts t p q qs is = (kind_same_facts t).at p q qs is

  -- .. set exactly if the fact holds of the tree
  pub kind_facts_hold : (t : Tree) → TreeOf C t → (p q : ℕ) (qs : List ℕ) → FactOf C p q qs
      → T (facts_in C (kind_of C t) p q qs) ↔ FactHolds C.transformation C.output t p q qs
  kind_facts_hold t over p q qs is = chain (test_iff (kind_facts t p q qs is)) (fact_holds C known t over p q qs is)

  -- a kind is the words of some marks, states and facts, so that no bit stands for anything else
  record Made (t : Tree) : Type 0 where
    marks : RootMarks
    reaches : ℕ → Bool
    facts : FactSet
    words : kind_of C t ≡ kind_words C marks reaches facts

  kind_made : (t : Tree) → Made t
  unfolding kind_of empty_kind next_kind leaf_kind symbol_kind
  kind_made empty = record { marks = _; reaches = _; facts = _; words = stay_words C _ _ _ }
  kind_made (node s l r) = record { marks = _; reaches = _; facts = _; words = stay_words C _ _ _ }

  pub kind_no_other_state : (t : Tree) (q : ℕ) → C.input.states ≤ q → (q ≡ root_bit → ⊥) → (q ≡ empty_bit → ⊥) → state_in C (kind_of C t) q ≡ false
  kind_no_other_state t q h not_root not-empty =
      let made : Made t = kind_made t in
      rw made.words (no_state_in_words C made.marks made.reaches made.facts few_states q h not_root not-empty)

  pub kind_no_other_fact : (t : Tree) (f : ℕ) → fact_count C ≤ f → f < 256
      → bit_of_fact C (kind_of C t) f ≡ false
  kind_no_other_fact t f h l = let made : Made t = kind_made t in rw made.words (no_fact_in_words C made.marks made.reaches made.facts f h l)

  -- "The kind of a tree is five 64-bit words"
  pub kind_five : (t : Tree) → length (kind_of C t) ≡ 5
  kind_five t = let made : Made t = kind_made t in rw made.words (length_words C made.marks made.reaches made.facts)

  pub kind-words : (t : Tree) (j : ℕ) → get_or (kind_of C t) j 0 < 2 ^ 64
  kind-words t j = let made : Made t = kind_made t in rw made.words (words_below C made.marks made.reaches made.facts few_states j)

  -- so it is the one list of words whose bits are the states that the tree reaches, the marks of its roots and the facts that hold of it
  pub kind_determined : (t : Tree) → TreeOf C t → (marks : RootMarks) (reaches : ℕ → Bool) (facts : FactSet)
      → Marked t marks
      → ((q : ℕ) → q < C.input.states → T (reaches q) ↔ Reaches C.input t q)
      → ((p q : ℕ) (qs : List ℕ) → FactOf C p q qs → T (facts p q qs) ↔ FactHolds C.transformation C.output t p q qs)
      → kind_of C t ≡ kind_words C marks reaches facts
  kind_determined t over marks reaches facts marked states hold =
      let made : Made t = kind_made t in
      let own : marks_in (kind_of C t) ≡ made.marks =
      ap marks_in made.words ∙ marks_in_words C made.marks made.reaches made.facts few_states in
      made.words
      ∙ words_same C made.reaches reaches made.facts facts
      (marked_same t made.marks marks (subst (Marked t) own (kind_marks t)) marked)
      (λ q h.
      sym (state_in_words C made.marks made.reaches made.facts few_states q h)
      ∙ ap (λ (k : List ℕ). state_in C k q) (sym made.words)
      ∙ tests_equal (kind_states t q h) (states q h))
      (record {
        at = λ p q qs is.
            sym ((facts_in_words C made.marks made.reaches made.facts known.facts).at p q qs is)
            ∙ ap (λ (k : List ℕ). facts_in C k p q qs) (sym made.words)
            ∙ tests_equal (kind_facts_hold t over p q qs is) (hold p q qs is);
      })

  -- trees are of one kind exactly if they are alike
  pub same_kind_exactly : (t t' : Tree) → TreeOf C t → TreeOf C t' → (kind_of C t ≡ kind_of C t') ↔ Alike C t t'
  same_kind_exactly t t' over over' = (
    λ e.
        record {
          one_root = chain (turn (kind_marks t).one_root) (chain (test_iff (ap (λ (k : List ℕ). (marks_in k).one_root) e)) (kind_marks t').one_root);
          is_empty = chain (turn (kind_marks t).is_empty) (chain (test_iff (ap (λ (k : List ℕ). (marks_in k).is_empty) e)) (kind_marks t').is_empty);
          states = λ q h. chain (turn (kind_states t q h)) (chain (test_iff (ap (λ (k : List ℕ). state_in C k q) e)) (kind_states t' q h));
          facts = λ p q qs is.
              chain (turn (kind_facts_hold t over p q qs is))
              (chain (test_iff (ap (λ (k : List ℕ). facts_in C k p q qs) e)) (kind_facts_hold t' over' p q qs is));
        },
    λ same.
        let own : kind_of C t' ≡ kind_words C (marks_in (kind_of C t')) (state_in C (kind_of C t')) (facts_in C (kind_of C t')) =
        kind_determined t' over' _ _ _ (kind_marks t') (kind_states t') (kind_facts_hold t' over') in
        kind_determined t over (marks_in (kind_of C t')) (state_in C (kind_of C t')) (facts_in C (kind_of C t'))
        (record { one_root = chain (kind_marks t').one_root (turn same.one_root); is_empty = chain (kind_marks t').is_empty (turn same.is_empty) })
        (λ q h. chain (kind_states t' q h) (turn (same.states q h)))
        (λ p q qs is. chain (kind_facts_hold t' over' p q qs is) (turn (same.facts p q qs is)))
        ∙ sym own,
  )

  -- "A contract takes a tree that reaches an accepted input state."; it "takes no other" than one of one root
  pub takes_exactly : (t : Tree) → T (is_taken C (kind_of C t)) ↔ Takes C t
  unfolding is_taken of_input_type
  takes_exactly t = (
    λ x.
        let (q, h, k) = some_elim _ _ (and_right _ _ x) in
        record {
          one_root = (kind_marks t).one_root.0 (and_left _ _ x);
          state = q;
          is_state = h;
          accepted = same_eq _ _ (and_left _ _ k);
          reached = (kind_states t q h).0 (and_right _ _ k);
        },
    λ y.
        and_both _ _ ((kind_marks t).one_root.1 y.one_root)
        (some_intro _ _ y.state y.is_state
        (and_both _ _ (eq_same _ _ y.accepted) ((kind_states t y.state y.is_state).1 y.reached))),
  )

  -- procedure 0 with no parameters is a procedure
  start_fact : (q : ℕ) → q < C.output.states → FactOf C 0 q []
  start_fact q h = record { procedure = known.procedures.least≤; result = h; arity = sym known.start; parameters = tt }

  -- an output that is not allowed has a state whose mark is 0
  not-allowed : (n : ℕ) → n ≤ 1 → (n ≡ 1 → ⊥) → n ≡ 0
  not-allowed n h k = omega arith

  -- "some fact of procedure 0 with a state not accepted"
  pub wrong_output_exactly : (t : Tree) → TreeOf C t → T (has_wrong_output C (kind_of C t)) ↔ WrongOutput C t
  unfolding has_wrong_output
  wrong_output_exactly t over = (
    λ x.
        let (q, h, k) = some_elim _ _ x in
        let (u, made, e) = (fact_output C known t over 0 q [] known.procedures.least≤ (sym known.start)).0 (subst T (kind_facts t 0 q [] (start_fact q h)) (and_right _ _ k)) in
        let zero-mark : mark_at C.output.marks (state_of C.output u) ≡ 0 = rw e (same_eq _ _ (and_left _ _ k)) in
        record { output = u; is_output = made; not_allowed = λ one. omega arith },
    λ y.
        let u : Tree = y.output in
        let q : ℕ = state_of C.output u in
        let h : q < C.output.states = state_of_below C known u in
        some_intro _ _ q h
        (and_both _ _ (eq_same _ _ (not-allowed _ (known.output_mark q) y.not_allowed))
        (subst T (sym (kind_facts t 0 q [] (start_fact q h))) ((fact_output C known t over 0 q [] known.procedures.least≤ (sym known.start)).1 (u, y.is_output, refl)))),
  )

  -- a kind breaks the contract exactly if each tree of that kind does: "A tree breaks it if it is taken and procedure 0 has
  -- an output on it that is not allowed."
  pub breaks-exactly : (t : Tree) → TreeOf C t → T (breaks C (kind_of C t)) ↔ Breaks C t
  unfolding breaks
  breaks-exactly t over = (
    λ x.
        let w : WrongOutput C t = (wrong_output_exactly t over).0 (and_right _ _ x) in
        record { taken = (takes_exactly t).0 (and_left _ _ x); output = w.output; is_output = w.is_output; not_allowed = w.not_allowed },
    λ y.
        let w : WrongOutput C t = record { output = y.output; is_output = y.is_output; not_allowed = y.not_allowed } in
        and_both _ _ ((takes_exactly t).1 y.taken) ((wrong_output_exactly t over).1 w),
  )

  -- of a tree that is taken, not to break the contract is to have allowed outputs only
  pub not_breaks_exactly : (t : Tree) → Takes C t → (Breaks C t → ⊥) ↔ ((u : Tree) → Output C.transformation 0 t [] u → Allows C u)
  not_breaks_exactly t taken = (
    λ sound u made. allowed (mark_at C.output.marks (state_of C.output u)) (known.output_mark _)
        (λ wrong. sound (record { taken = taken; output = u; is_output = made; not_allowed = wrong })),
    λ all b. b.not_allowed (all b.output b.is_output),
  )
    where
      allowed : (n : ℕ) → n ≤ 1 → ((n ≡ 1 → ⊥) → ⊥) → n ≡ 1
      allowed zero h k = absurd (k (λ e. omega arith))
      allowed (suc zero) h k = refl
      allowed (suc (suc n)) h k = absurd (omega arith)

  -- "the result is 0, ..; 1, ..; 2, .."
  pub judgement_exactly : (t : Tree) → TreeOf C t → Judges C t (judgement C (kind_of C t))
  unfolding judgement
  judgement_exactly t over = by_cases (is_taken C (kind_of C t)) (breaks C (kind_of C t)) (takes_exactly t) (breaks-exactly t over)
    where
      by_cases : (a b : Bool) → T a ↔ Takes C t → T b ↔ Breaks C t → Judges C t (choose a (choose b 2 1) 0)
      by_cases true true f g =
          record {
            zero = (λ e. absurd (omega arith), λ k. absurd (k (f.0 tt)));
            one = (λ e. absurd (omega arith), λ k. absurd (k.1 (g.0 tt)));
            two = (λ e. g.0 tt, λ k. refl);
          }
      by_cases true false f g =
          record {
            zero = (λ e. absurd (omega arith), λ k. absurd (k (f.0 tt)));
            one = (λ e. (f.0 tt, λ k. g.1 k), λ k. refl);
            two = (λ e. absurd (omega arith), λ k. absurd (g.1 k));
          }
      by_cases false b f g =
          record {
            zero = (λ e k. f.1 k, λ k. refl);
            one = (λ e. absurd (omega arith), λ k. absurd (f.1 k.0));
            two = (λ e. absurd (omega arith), λ k. absurd (f.1 k.taken));
          }
