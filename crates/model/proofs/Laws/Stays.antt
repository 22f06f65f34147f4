-- Laws of closing a set of facts under the stay rules: as many rounds as there are facts are enough, and so is any round that
-- adds nothing; without stay rules nothing is added; and only facts are asked.
use mathlib.Core.Path.{◌≡◌, refl, ap, ap₂, subst, sym, ◌∙◌}
use mathlib.Core.List.{List}
use mathlib.Core.Bool.{Bool, false}
use Prim.Native.Nat.{ℕ, zero, suc, ◌+◌, ◌-◌, ◌<◌, ◌≤◌}
use native.Mathlib.Nat.{zero-add}
use native.Mathlib.Omega.{arith}
use native.Mathlib.Decide.{dec_le, dec_lt}
use lib.Dec.{T}
use Rattle.foundation.specs.Tests.{◌or◌, or_left, or_right, test_false, and_left, and_right, same_eq, some_elim}
use Rattle.foundation.specs.TestLaws.{or_false}
use Rattle.model.specs.Tables.{Contract, Transformation, OutputType, input_row, rule_at, rule_count}
use Rattle.model.specs.Outputs.{right_side}
use Rattle.model.specs.Facts.{FactSet, no_facts, on_side, facts_at, stay_round, stay_rounds, closed_facts, fact_total, fact_number, numbered}
use Rattle.model.specs.Kinds.{RootMarks, empty_marks, marks_in, reached_empty, reached_next, kind_words, state_in, bit_of_fact, facts_in, leaf_kind, symbol_kind, stay_kind, empty_kind, next_kind}
use Rattle.model.proofs.Laws.Facts.{SameFacts, same_facts_chain, same_facts_sides, numbered-fact, fact_number_lt, fact_of_number, numbered_same, WellFormed, facts_at_same, fact_count, words_same, fact_bit_in_words, facts_in_words, no_fact_in_words, right_side_well_formed}
use Rattle.model.proofs.Laws.Established.{Established}
use Rattle.model.proofs.Laws.Growing.{Within, SameBelow, still_at_last}

-- no rule has symbol S
abbrev pub NoStayRule : Transformation → Type 0
NoStayRule M = (r : ℕ) → r < rule_count M.rules → (rule_at M.rules r).symbol ≡ M.symbols → ⊥

module _ (M : Transformation) (Y : OutputType) where
  -- without stay rules a set of facts is closed as it stands
  module _ (none : NoStayRule M) where
    no_stay_fact : (facts : FactSet) (p q : ℕ) (qs : List ℕ) → facts_at M Y (on_side facts facts) M.symbols p q qs ≡ false
    unfolding facts_at
    no_stay_fact facts p q qs =
        test_false _ (λ h. let (r, l, k) = some_elim _ _ h in none r l (same_eq _ _ (and_left _ _ (and_right _ _ k))))

    rounds_without : (n : ℕ) (facts : FactSet) (p q : ℕ) (qs : List ℕ) → stay_rounds M Y n facts p q qs ≡ facts p q qs
    unfolding stay_rounds stay_round
    rounds_without zero facts p q qs = refl
    rounds_without (suc n) facts p q qs = or_false _ _ (no_stay_fact (stay_rounds M Y n facts) p q qs) ∙ rounds_without n facts p q qs

    pub closed_without : (facts : FactSet) (p q : ℕ) (qs : List ℕ) → closed_facts M Y facts p q qs ≡ facts p q qs
    unfolding closed_facts
    closed_without facts p q qs = rounds_without _ facts p q qs

  -- no fact is lost
  pub round_keeps : (facts : FactSet) (p q : ℕ) (qs : List ℕ) → T (facts p q qs) → T (stay_round M Y facts p q qs)
  unfolding stay_round
  round_keeps facts p q qs h = or_left _ _ h

  pub rounds_keep : (n : ℕ) (facts : FactSet) (p q : ℕ) (qs : List ℕ) → T (facts p q qs) → T (stay_rounds M Y n facts p q qs)
  unfolding stay_rounds
  rounds_keep zero facts p q qs h = h
  rounds_keep (suc n) facts p q qs h = round_keeps (stay_rounds M Y n facts) p q qs (rounds_keep n facts p q qs h)

  pub closed_keeps : (facts : FactSet) (p q : ℕ) (qs : List ℕ) → T (facts p q qs) → T (closed_facts M Y facts p q qs)
  unfolding closed_facts
  closed_keeps facts p q qs h = rounds_keep _ facts p q qs h

  -- what a stay rule gives is there after one round more
  pub round_adds : (facts : FactSet) (p q : ℕ) (qs : List ℕ) → T (facts_at M Y (on_side facts facts) M.symbols p q qs) → T (stay_round M Y facts p q qs)
  unfolding stay_round
  round_adds facts p q qs h = or_right _ _ h

  abbrev Same : FactSet → FactSet → Type 0
  Same facts facts' = SameFacts Y.states M.counts facts facts'

  turned : {facts facts' : FactSet} → Same facts facts' → Same facts' facts
  turned s = record { at = λ p q qs is. sym (s.at p q qs is) }

  chain : {facts facts' facts'' : FactSet} → Same facts facts' → Same facts' facts'' → Same facts facts''
  chain a b = same_facts_chain Y.states M.counts a b

  module _ (formed : (r : ℕ) → r < rule_count M.rules → WellFormed M.counts (right_side M r)) where
    -- only facts are asked
    pub round_same : {facts facts' : FactSet} → Same facts facts' → Same (stay_round M Y facts) (stay_round M Y facts')
    unfolding stay_round
    round_same s =
        record {
          at = λ p q qs is.
              ap₂ ◌or◌ (s.at p q qs is)
              ((facts_at_same M Y _ _ (same_facts_sides Y.states M.counts s s) formed M.symbols).at p q qs is);
        }

    pub rounds_same : (n : ℕ) {facts facts' : FactSet} → Same facts facts' → Same (stay_rounds M Y n facts) (stay_rounds M Y n facts')
    unfolding stay_rounds
    rounds_same zero s = s
    rounds_same (suc n) s = round_same (rounds_same n s)

    pub closed_same : {facts facts' : FactSet} → Same facts facts' → Same (closed_facts M Y facts) (closed_facts M Y facts')
    unfolding closed_facts
    closed_same s = rounds_same _ s

    module _ (facts : FactSet) where
      abbrev total : ℕ
      total = fact_total Y.states M.counts

      -- whether fact number f is there after n rounds
      abbrev there : ℕ → ℕ → Bool
      there n f = numbered Y.states M.counts (stay_rounds M Y n facts) f

      grows : (n : ℕ) → Within total (there n) (there (suc n))
      unfolding stay_rounds
      grows n f l h =
          let (p, q, qs, is, e) = fact_of_number Y.states M.counts f l in
          let holds : (m : ℕ) → there m f ≡ stay_rounds M Y m facts p q qs = λ m. ap (there m) (sym e) ∙ numbered-fact Y.states M.counts p q qs is (stay_rounds M Y m facts) in
          subst T (sym (holds (suc n))) (round_keeps (stay_rounds M Y n facts) p q qs (subst T (holds n) h))

      by_number : (n m : ℕ) → SameBelow total (there n) (there m) → Same (stay_rounds M Y n facts) (stay_rounds M Y m facts)
      by_number n m s =
          record {
            at = λ p q qs is.
                sym (numbered-fact Y.states M.counts p q qs is (stay_rounds M Y n facts))
                ∙ s (fact_number Y.states M.counts p q qs) (fact_number_lt Y.states M.counts p q qs is)
                ∙ numbered-fact Y.states M.counts p q qs is (stay_rounds M Y m facts);
          }

      stands : (n : ℕ) → Same (stay_rounds M Y n facts) (stay_rounds M Y (suc n) facts) → Same (stay_rounds M Y (suc n) facts) (stay_rounds M Y (suc (suc n)) facts)
      unfolding stay_rounds
      stands n s = round_same s

      -- as many rounds as there are facts are enough
      rounds_enough : Same (stay_rounds M Y total facts) (stay_rounds M Y (suc total) facts)
      rounds_enough =
          by_number total (suc total)
          (still_at_last total there grows
          (λ n s f l. numbered_same Y.states M.counts _ _ (stands n (by_number n (suc n) s)) f))

      -- so that a closed set is closed: one round more adds no fact
      pub closed_still : Same (closed_facts M Y facts) (stay_round M Y (closed_facts M Y facts))
      unfolding closed_facts stay_rounds
      closed_still = rounds_enough

      -- once a round adds nothing, none does
      still_from : (n k : ℕ) → Same (stay_rounds M Y n facts) (stay_rounds M Y (suc n) facts) → Same (stay_rounds M Y n facts) (stay_rounds M Y (k + n) facts)
      unfolding stay_rounds
      still_from n zero s = rw zero-add (record { at = λ p q qs is. refl })
      still_from n (suc k) s = chain s (rw (more k n) (round_same (still_from n k s)))
        where
          more : (k n : ℕ) → suc k + n ≡ suc (k + n)
          more k n = omega arith

      -- more rounds than there are facts do no harm
      pub closed_after : (n : ℕ) → total ≤ n → Same (closed_facts M Y facts) (stay_rounds M Y n facts)
      unfolding closed_facts
      closed_after n l =
          let e : n - total + total ≡ n = omega arith in
          subst (λ (m : ℕ). Same (stay_rounds M Y total facts) (stay_rounds M Y m facts)) e (still_from total (n - total) rounds_enough)

      -- and the rounds may be stopped at the first that adds nothing
      pub closed_where_still : (n : ℕ) → Same (stay_rounds M Y n facts) (stay_rounds M Y (suc n) facts) → Same (stay_rounds M Y n facts) (closed_facts M Y facts)
      closed_where_still n s = go (dec_le n total)
        where
          go : Dec (n ≤ total) → Same (stay_rounds M Y n facts) (closed_facts M Y facts)
          go (yes l) =
              let e : total - n + n ≡ total = omega arith in
              chain (subst (λ (m : ℕ). Same (stay_rounds M Y n facts) (stay_rounds M Y m facts)) e (still_from n (total - n) s)) (turned (closed_after total (omega arith)))
          go (no l) = turned (closed_after n (omega arith))

-- Kinds: what a symbol's rules make, and its closure under the stay rules, are two functions one after the other

-- the closure leaves the input states and the marks as they are
pub stay_states : (C : Contract) (kind : List ℕ) (q : ℕ) → state_in C (stay_kind C kind) q ≡ state_in C kind q
unfolding state_in stay_kind
stay_states C kind q = refl

pub stay_marks : (C : Contract) (kind : List ℕ) → marks_in (stay_kind C kind) ≡ marks_in kind
unfolding marks_in stay_kind
stay_marks C kind = refl

pub stay_words : (C : Contract) (marks : RootMarks) (reaches : ℕ → Bool) (facts : FactSet)
    → stay_kind C (kind_words C marks reaches facts)
    ≡ kind_words C marks reaches (closed_facts C.transformation C.output (facts_in C (kind_words C marks reaches facts)))
unfolding stay_kind kind_words
stay_words C marks reaches facts = refl

module _ (C : Contract) (known : Established C) (marks : RootMarks) (reaches : ℕ → Bool) (facts : FactSet) where
  -- the words of a set of facts become those of the closed set
  pub stay_closes : stay_kind C (kind_words C marks reaches facts) ≡ kind_words C marks reaches (closed_facts C.transformation C.output facts)
  stay_closes =
      stay_words C marks reaches facts
      ∙ words_same C reaches reaches _ _ refl (λ q h. refl)
      (closed_same C.transformation C.output (right_side_well_formed C known) (facts_in_words C marks reaches facts known.facts))

  -- one round on words: the facts that the rules of symbol S make over the kind itself on both sides are added
  pub round_words : (n : ℕ)
      → kind_words C marks reaches (stay_rounds C.transformation C.output (suc n) facts)
      ≡ kind_words C marks reaches (stay_round C.transformation C.output (facts_in C (kind_words C marks reaches (stay_rounds C.transformation C.output n facts))))
  unfolding stay_rounds
  round_words n =
      words_same C reaches reaches _ _ refl (λ q h. refl)
      (round_same C.transformation C.output (right_side_well_formed C known) (turned C.transformation C.output (facts_in_words C marks reaches (stay_rounds C.transformation C.output n facts) known.facts)))

  -- after as many rounds as there are facts, or more, the words are closed
  pub words-after : (n : ℕ) → fact_count C ≤ n → kind_words C marks reaches (stay_rounds C.transformation C.output n facts) ≡ stay_kind C (kind_words C marks reaches facts)
  words-after n l =
      sym
      (stay_closes
      ∙ words_same C reaches reaches _ _ refl (λ q h. refl)
      (closed_after C.transformation C.output (right_side_well_formed C known) facts n l))

  -- words that a round leaves as they are are closed
  pub still_words : (n : ℕ)
      → kind_words C marks reaches (stay_rounds C.transformation C.output n facts) ≡ kind_words C marks reaches (stay_rounds C.transformation C.output (suc n) facts)
      → kind_words C marks reaches (stay_rounds C.transformation C.output n facts) ≡ stay_kind C (kind_words C marks reaches facts)
  still_words n e =
      words_same C reaches reaches _ _ refl (λ q h. refl)
      (closed_where_still C.transformation C.output (right_side_well_formed C known) facts n
      (record {
        at = λ p q qs is.
            sym ((facts_in_words C marks reaches (stay_rounds C.transformation C.output n facts) known.facts).at p q qs is)
            ∙ ap (λ (k : List ℕ). facts_in C k p q qs) e
            ∙ (facts_in_words C marks reaches (stay_rounds C.transformation C.output (suc n) facts) known.facts).at p q qs is;
      }))
      ∙ sym stay_closes

  -- bit by bit such a round is a disjunction: of the kind, and of any words with the facts that the rules of symbol S make over it on
  -- both sides
  pub round_bit : (over : RootMarks) (reached : ℕ → Bool) (f : ℕ) → f < 256
      → bit_of_fact C (kind_words C marks reaches (stay_round C.transformation C.output (facts_in C (kind_words C marks reaches facts)))) f
      ≡ (bit_of_fact C (kind_words C marks reaches facts) f
      or bit_of_fact C
      (kind_words C over reached
      (facts_at C.transformation C.output (on_side (facts_in C (kind_words C marks reaches facts)) (facts_in C (kind_words C marks reaches facts)))
      C.transformation.symbols))
      f)
  unfolding stay_round
  round_bit over reached f small = go (dec_lt f (fact_total O counts))
    where
      O : ℕ
      O = C.output.states

      counts : List ℕ
      counts = C.transformation.counts

      kind : List ℕ
      kind = kind_words C marks reaches facts

      own : FactSet
      own = facts_in C kind

      stay : FactSet
      stay = facts_at C.transformation C.output (on_side own own) C.transformation.symbols

      go : Dec (f < fact_total O counts)
          → bit_of_fact C (kind_words C marks reaches (λ p q qs. own p q qs or stay p q qs)) f ≡ (bit_of_fact C kind f or bit_of_fact C (kind_words C over reached stay) f)
      go (yes l) =
          let (p, q, qs, is, e) = fact_of_number O counts f l in
          let of : (marks : RootMarks) (reaches : ℕ → Bool) (set : FactSet) → bit_of_fact C (kind_words C marks reaches set) f ≡ set p q qs =
          λ marks reaches set. fact_bit_in_words C marks reaches set f small ∙ ap (numbered O counts set) (sym e) ∙ numbered-fact O counts p q qs is set in
          let seen : own p q qs ≡ bit_of_fact C kind f = (facts_in_words C marks reaches facts known.facts).at p q qs is ∙ sym (of marks reaches facts) in
          of marks reaches (λ p q qs. own p q qs or stay p q qs) ∙ ap₂ ◌or◌ seen (sym (of over reached stay))
      go (no l) =
          no_fact_in_words C marks reaches (λ p q qs. own p q qs or stay p q qs) f (omega arith) small
          ∙ sym (or_false _ _ (no_fact_in_words C over reached stay f (omega arith) small) ∙ no_fact_in_words C marks reaches facts f (omega arith) small)

  -- "other contracts keep their answers": without stay rules words are closed as they stand
  words_without : NoStayRule C.transformation → kind_words C marks reaches (closed_facts C.transformation C.output facts) ≡ kind_words C marks reaches facts
  words_without none =
      words_same C reaches reaches _ _ refl (λ q h. refl) (record { at = λ p q qs is. closed_without C.transformation C.output none facts p q qs })

  pub stay_without : NoStayRule C.transformation → stay_kind C (kind_words C marks reaches facts) ≡ kind_words C marks reaches facts
  stay_without none = stay_closes ∙ words_without none

-- "a rule for a node of any symbol": the facts of the empty forest are closed too
pub empty_closes : (C : Contract) → Established C
    → empty_kind C ≡ kind_words C empty_marks (reached_empty C.input) (closed_facts C.transformation C.output (facts_at C.transformation C.output (λ c. no_facts) 0))
unfolding empty_kind leaf_kind
empty_closes C known = stay_closes C known _ _ _

module _ (C : Contract) (known : Established C) (none : NoStayRule C.transformation) where
  pub empty_without : empty_kind C ≡ leaf_kind C
  unfolding leaf_kind
  empty_without = empty_closes C known ∙ words_without C known _ _ _ none

  pub next_without : (s : ℕ) (l r : List ℕ) → next_kind C s l r ≡ symbol_kind C s l r
  unfolding next_kind symbol_kind
  next_without s l r = stay_without C known _ _ _ none

-- no input row has symbol S: its rules reach no state, so that the disjunction leaves word 0 as it is
pub stay_reaches_nothing : (C : Contract) → Established C → (f g : ℕ → Bool) (q : ℕ) → reached_next C.input C.transformation.symbols f g q ≡ false
unfolding reached_next
stay_reaches_nothing C known f g q =
    test_false _
    (λ h.
    let (r, l, k) = some_elim _ _ h in
    let e : (input_row C.input.rows r).symbol ≡ C.transformation.symbols = same_eq _ _ (and_left _ _ (and_right _ _ k)) in
    omega (arith, e, (known.input_row r l).symbol))

-- what a symbol sees of its children is what its own rules see: the stay rules see nothing of them
pub next_same : (C : Contract) (s : ℕ) (l l' r r' : List ℕ) → symbol_kind C s l r ≡ symbol_kind C s l' r' → next_kind C s l r ≡ next_kind C s l' r'
unfolding next_kind
next_same C s l l' r r' e = ap (stay_kind C) e
