-- Facts: what they say, how they are computed, and how they are numbered.
use Rattle.std.specs.Prelude.{◌≡◌, List, [], ◌∷◌, map, Bool, true, false, ℕ, zero, suc, ◌+◌, ◌*◌, ◌-◌, ◌/◌, ◌%◌, ◌^◌, ltb, length, get_or}
use Rattle.foundation.specs.Tests.{some_below, ◌and◌, ◌or◌, same, below}
use Rattle.model.specs.Trees.{Tree, empty, node}
use Rattle.model.specs.Tables.{Transformation, OutputType, empty_state, next_state, rule_at, rule_count, count_of}
use Rattle.model.specs.Expressions.{Child, left, right, here, Expression, parameter, nothing, symbol, call, Arguments, none, argument}
use Rattle.model.specs.Outputs.{Algebra, Gives, right_side}

-- trees some of whose leaves carry a state
pub data MarkedTree : Type 0 where
  bare : MarkedTree
  over : ℕ → MarkedTree → MarkedTree → MarkedTree
  state : ℕ → MarkedTree

abbrev pub marked_trees : Algebra
marked_trees = record { Carrier = MarkedTree; leaf = bare; join = over }

-- "the state that the output table gives it, from the leaves up"
abbrev pub state_of : OutputType → Tree → ℕ
state_of Y empty = empty_state Y
state_of Y (node s l r) = next_state Y s (state_of Y l) (state_of Y r)

abbrev pub marked_state : OutputType → MarkedTree → ℕ
marked_state Y bare = empty_state Y
marked_state Y (over s l r) = next_state Y s (marked_state Y l) (marked_state Y r)
marked_state Y (state q) = q

-- "A fact is a procedure p, a result state q and parameter states. It holds of a tree if p can give a result of state q
-- when its parameters stand as leaves carrying those states"
abbrev pub FactHolds : Transformation → OutputType → Tree → (p q : ℕ) → List ℕ → Type 0
FactHolds T Y t p q qs = (u : MarkedTree) × Gives T marked_trees p t (map state qs) u × (marked_state Y u ≡ q)

-- a set of facts, as a test: procedure, result state, parameter states
abbrev pub FactSet : Type 0
FactSet = ℕ → ℕ → List ℕ → Bool

abbrev pub no_facts : FactSet
no_facts p q qs = false

-- what stands on a side: of the left child, or of the right one. A call that stays is in stay rules alone, whose both sides are
-- the node itself.
abbrev pub on_side {ℓ} : {A : Type ℓ} → A → A → Child → A
on_side l r left = l
on_side l r right = r
on_side l r here = r

-- "An offset is the sum of O^(k+1) over the earlier procedures."
unfoldable pub offset : ℕ → List ℕ → ℕ → ℕ
offset O [] p = 0
offset O (k ∷ counts) zero = 0
offset O (k ∷ counts) (suc p) = O ^ suc k + offset O counts p

-- how many facts there are
abbrev pub fact_total : ℕ → List ℕ → ℕ
fact_total O counts = offset O counts (length counts)

module _ (T : Transformation) (Y : OutputType) where
  unfoldable mutual
    -- an expression can give state q, parameters carrying the states qs, from the facts where its calls go
    pub yields : (Child → FactSet) → Expression → List ℕ → ℕ → Bool
    yields facts (parameter i) qs q = below i (length qs) and same q (get_or qs i 0)
    yields facts nothing qs q = same q (empty_state Y)
    yields facts (symbol s e f) qs q =
        some_below Y.states (λ x. yields facts e qs x and some_below Y.states (λ y. yields facts f qs y and same q (next_state Y s x y)))
    yields facts (call p c es) qs q = yields_all facts es qs (λ vs. facts c p q vs)

    -- some choice of argument states passes the test
    pub yields_all : (Child → FactSet) → Arguments → List ℕ → (List ℕ → Bool) → Bool
    yields_all facts none qs test = test []
    yields_all facts (argument e es) qs test = some_below Y.states (λ x. yields facts e qs x and yields_all facts es qs (λ vs. test (x ∷ vs)))

  -- the facts at a root of symbol s: some rule for it gives the state
  unfoldable pub facts_at : (Child → FactSet) → ℕ → FactSet
  facts_at facts s p q qs =
      some_below (rule_count T.rules)
      (λ r. same (rule_at T.rules r).procedure p and same (rule_at T.rules r).symbol s and yields facts (right_side T r) qs q)

  -- the facts of a node after one round of the stay rules, which are the rules of symbol S: those it had, and those that a
  -- stay rule gives from them
  unfoldable pub stay_round : FactSet → FactSet
  stay_round facts p q qs = facts p q qs or facts_at (on_side facts facts) T.symbols p q qs

  unfoldable pub stay_rounds : ℕ → FactSet → FactSet
  stay_rounds zero facts = facts
  stay_rounds (suc n) facts = stay_round (stay_rounds n facts)

  -- "the least sets closed under the rules": each round but the last adds a fact, so that as many are enough as there are
  -- facts
  unfoldable pub closed_facts : FactSet → FactSet
  closed_facts facts = stay_rounds (fact_total Y.states T.counts) facts

  -- the facts of a tree: those of its symbol's rules, closed under the stay rules
  unfoldable pub fact : Tree → FactSet
  fact empty = closed_facts (facts_at (λ c. no_facts) 0)
  fact (node s l r) = closed_facts (facts_at (on_side (fact l) (fact r)) s)

-- numbers in base O, the first digit the highest
unfoldable pub digits : (O k : ℕ) → ℕ → List ℕ
digits O zero x = []
digits O (suc k) x = (x / O ^ k) ∷ digits O k (x % O ^ k)

-- "plus first × O + second for k = 2, or plus first for k = 1"
unfoldable pub code : ℕ → List ℕ → ℕ
code O [] = 0
code O (q ∷ qs) = q * O ^ length qs + code O qs

-- "the number is p's offset plus q × O^k, plus .."
unfoldable pub fact_number : (O : ℕ) (counts : List ℕ) → ℕ → ℕ → List ℕ → ℕ
fact_number O counts p q qs = offset O counts p + (q * O ^ count_of counts p + code O qs)

-- "Facts are numbered procedure by procedure.": whether the fact of number f is in a set, the procedures counted from p
unfoldable pub numbered_from : ℕ → List ℕ → ℕ → FactSet → ℕ → Bool
numbered_from O [] p facts f = false
numbered_from O (k ∷ counts) p facts f =
    elim (ltb f (O ^ suc k)) [ true ↦ facts p (f / O ^ k) (digits O k (f % O ^ k)) | false ↦ numbered_from O counts (suc p) facts (f - O ^ suc k) ]

unfoldable pub numbered : ℕ → List ℕ → FactSet → ℕ → Bool
numbered O counts facts f = numbered_from O counts 0 facts f
