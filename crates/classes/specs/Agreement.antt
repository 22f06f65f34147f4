-- A symbol's kind over two kinds asks only for the facts that its rules call, the states that its input rows name, and whether the
-- right one is the empty forest's: kinds that agree there give the same kind.
use Rattle.std.specs.Prelude.{◌≡◌, List, [], ◌∷◌, Bool, true, false, ℕ, suc, ◌<◌, T, length}
use Rattle.std.proofs.Math.Path.{refl, ap₂}
use Rattle.std.proofs.Common.{ap, ◌∙◌}
use Rattle.foundation.specs.Tests.{◌and◌, same, same_eq, some_cong}
use Rattle.model.specs.Tables.{Contract, Transformation, OutputType, input_row, input_row_count, rule_at, rule_count}
use Rattle.model.specs.Expressions.{Child, left, right, here, Expression, parameter, nothing, symbol, call, Arguments, none, argument}
use Rattle.model.specs.Outputs.{right_side}
use Rattle.model.specs.Facts.{FactSet, on_side, yields, yields_all, facts_at}
use Rattle.model.specs.Kinds.{marks_in, reached_next, state_in, facts_in, symbol_kind, next_kind}
use Rattle.model.proofs.Laws.Established.{Established}
use Rattle.model.proofs.Laws.RootMarks.{same_marks}
use Rattle.model.proofs.Laws.Calls.{EachCall, EachCallOfAll}
use Rattle.model.proofs.Laws.Stays.{next_same}
use Rattle.model.proofs.Laws.Facts.{AllBelow, IsFact, SameFacts, WellFormed, AllWellFormed, argument_count, words_same, right_side_well_formed}

-- what stands behind a test matters only where the test holds
pub guarded : (t x y : Bool) → (T t → x ≡ y) → (t and x) ≡ (t and y)
unfolding ◌and◌
guarded true x y h = h tt
guarded false x y h = refl

module _ (P Q : Child → ℕ → Type 0) (more : (c : Child) (p : ℕ) → P c p → Q c p) where
  mutual
    pub each_call_more : (e : Expression) → EachCall P e → EachCall Q e
    each_call_more (parameter i) h = tt
    each_call_more nothing h = tt
    each_call_more (symbol s e f) h = (each_call_more e h.0, each_call_more f h.1)
    each_call_more (call p c es) h = (more c p h.0, each_call_of_all_more es h.1)

    each_call_of_all_more : (es : Arguments) → EachCallOfAll P es → EachCallOfAll Q es
    each_call_of_all_more none h = tt
    each_call_of_all_more (argument e es) h = (each_call_more e h.0, each_call_of_all_more es h.1)

-- facts of the children that agree wherever P holds
module _ (M : Transformation) (Y : OutputType) (P : Child → ℕ → Type 0) (facts facts' : Child → FactSet)
    (agree : (c : Child) (p q : ℕ) (qs : List ℕ) → P c p → IsFact Y.states M.counts p q qs → facts c p q qs ≡ facts' c p q qs) where
  mutual
    unfolding yields

    yields_agree : (e : Expression) → WellFormed M.counts e → EachCall P e → (qs : List ℕ) (q : ℕ) → q < Y.states
        → yields M Y facts e qs q ≡ yields M Y facts' e qs q
    yields_agree (parameter i) w k qs q h = refl
    yields_agree nothing w k qs q h = refl
    yields_agree (symbol s e f) w k qs q h =
        some_cong _ _ _
        (λ x hx.
        ap₂ ◌and◌ (yields_agree e w.0 k.0 qs x hx) (some_cong _ _ _ (λ y hy. ap₂ ◌and◌ (yields_agree f w.1 k.1 qs y hy) refl)))
    yields_agree (call p c es) w k qs q h =
        yields_all_agree es w.2 k.1 qs (λ vs. facts c p q vs) (λ vs. facts' c p q vs)
        (λ vs l a. agree c p q vs k.0 (record { procedure = w.0; result = h; arity = l ∙ w.1; parameters = a }))

    yields_all_agree : (es : Arguments) → AllWellFormed M.counts es → EachCallOfAll P es → (qs : List ℕ) (test test' : List ℕ → Bool)
        → ((vs : List ℕ) → length vs ≡ argument_count es → AllBelow Y.states vs → test vs ≡ test' vs)
        → yields_all M Y facts es qs test ≡ yields_all M Y facts' es qs test'
    yields_all_agree none w k qs test test' h = h [] refl tt
    yields_all_agree (argument e es) w k qs test test' h =
        some_cong _ _ _
        (λ x hx.
        ap₂ ◌and◌ (yields_agree e w.0 k.0 qs x hx)
        (yields_all_agree es w.1 k.1 qs (λ vs. test (x ∷ vs)) (λ vs. test' (x ∷ vs)) (λ vs l a. h (x ∷ vs) (ap suc l) (hx, a))))

  -- the facts at a symbol whose rules call nothing else
  pub facts_at_agree : (s : ℕ) → ((r : ℕ) → r < rule_count M.rules → WellFormed M.counts (right_side M r))
      → ((r : ℕ) → r < rule_count M.rules → (rule_at M.rules r).symbol ≡ s → EachCall P (right_side M r))
      → SameFacts Y.states M.counts (facts_at M Y facts s) (facts_at M Y facts' s)
  unfolding facts_at
  facts_at_agree s w k =
      record {
        at = λ p q qs is.
            some_cong _ _ _
            (λ r hr.
            ap₂ ◌and◌ refl
            (guarded (same (rule_at M.rules r).symbol s) _ _
            (λ t. yields_agree (right_side M r) (w r hr) (k r hr (same_eq _ _ t)) qs q is.result)));
      }

-- what symbol s sees of the kinds of its children is the same
pub record SameSeen (C : Contract) (s : ℕ) (P : Child → ℕ → Type 0) (kinds kinds' : Child → List ℕ) : Type 0 where
  pub calls : (r : ℕ) → r < rule_count C.transformation.rules → (rule_at C.transformation.rules r).symbol ≡ s
      → EachCall P (right_side C.transformation r)
  pub same : (p : ℕ) → P here p → P right p
  pub facts : (c : Child) (p q : ℕ) (qs : List ℕ) → P c p → IsFact C.output.states C.transformation.counts p q qs
      → facts_in C (kinds c) p q qs ≡ facts_in C (kinds' c) p q qs
  pub left_states : (k : ℕ) → k < input_row_count C.input.rows → (input_row C.input.rows k).symbol ≡ s
      → state_in C (kinds left) (input_row C.input.rows k).left ≡ state_in C (kinds' left) (input_row C.input.rows k).left
  pub right_states : (k : ℕ) → k < input_row_count C.input.rows → (input_row C.input.rows k).symbol ≡ s
      → state_in C (kinds right) (input_row C.input.rows k).right ≡ state_in C (kinds' right) (input_row C.input.rows k).right
  pub right_empty : (marks_in (kinds right)).is_empty ≡ (marks_in (kinds' right)).is_empty

pub next_kind_agree : (C : Contract) → Established C → (s : ℕ) (P : Child → ℕ → Type 0) (kinds kinds' : Child → List ℕ)
    → SameSeen C s P kinds kinds'
    → next_kind C s (kinds left) (kinds right) ≡ next_kind C s (kinds' left) (kinds' right)
unfolding symbol_kind reached_next
next_kind_agree C known s P kinds kinds' seen =
    next_same C s (kinds left) (kinds' left) (kinds right) (kinds' right)
    (words_same C _ _ _ _ (same_marks seen.right_empty refl)
    (λ q hq.
    some_cong _ _ _
    (λ k hk.
    ap₂ ◌and◌ refl
    (guarded (same (input_row C.input.rows k).symbol s) _ _
    (λ t. ap₂ ◌and◌ (seen.left_states k hk (same_eq _ _ t)) (seen.right_states k hk (same_eq _ _ t))))))
    (facts_at_agree C.transformation C.output P (on_side (facts_in C (kinds left)) (facts_in C (kinds right)))
    (on_side (facts_in C (kinds' left)) (facts_in C (kinds' right))) sides s (right_side_well_formed C known) seen.calls))
  where
    sides : (c : Child) (p q : ℕ) (qs : List ℕ) → P c p → IsFact C.output.states C.transformation.counts p q qs
        → on_side (facts_in C (kinds left)) (facts_in C (kinds right)) c p q qs ≡ on_side (facts_in C (kinds' left)) (facts_in C (kinds' right)) c p q qs
    sides left p q qs k is = seen.facts left p q qs k is
    sides right p q qs k is = seen.facts right p q qs k is
    sides here p q qs k is = seen.facts right p q qs (seen.same p k) is
