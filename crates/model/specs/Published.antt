-- The call-by-value meaning of stay macro tree transducers as source document 000 publishes it (section 2, after "we .. prefer a
-- denotational formulation"), equation by equation. proofs/Meaning/Published.antt proves that outputs are this meaning: `as_published`.
use Rattle.std.specs.Prelude.{◌≡◌, List, [], ◌∷◌, map, ◌↔◌, ℕ, ◌<◌, length, get_or}
use Rattle.model.specs.Trees.{Tree, empty, node, root_symbol}
use Rattle.model.specs.Tables.{Transformation, rule_at, rule_count, count_of}
use Rattle.model.specs.Expressions.{Child, left, right, here, Expression, parameter, nothing, symbol, call, Arguments, none, argument}
use Rattle.model.specs.Outputs.{right_side, Output}

-- "For a set Y = {y1, y2, ..} of variables of rank 0, T_Σ(Y) denotes the set of trees over Σ and Y": with one symbol of rank 0,
-- the empty forest, and all others of rank 2; variables are counted from 0
pub data ParameterTree : Type 0 where
  leaf : ParameterTree
  branch : ℕ → ParameterTree → ParameterTree → ParameterTree
  variable : ℕ → ParameterTree

-- the variables in a tree are among the first k
abbrev pub VariablesBelow : ℕ → ParameterTree → Type 0
VariablesBelow k leaf = Unit {0}
VariablesBelow k (branch b x y) = VariablesBelow k x × VariablesBelow k y
VariablesBelow k (variable j) = j < k

-- a tree without variables
abbrev pub closed : Tree → ParameterTree
closed empty = leaf
closed (node b x y) = branch b (closed x) (closed y)

-- t[t1/y1, .., tl/yl]: "t''/z denotes the substitution of the tree t'' for all occurrences of the variable z"
abbrev pub substituted : List ParameterTree → ParameterTree → ParameterTree
substituted ts leaf = leaf
substituted ts (branch b x y) = branch b (substituted ts x) (substituted ts y)
substituted ts (variable j) = get_or ts j (variable j)

-- "the meaning [[q]] of state q .. is defined as a function from input trees to sets of trees with parameters": the tree v is
-- in [[q]](s)
abbrev pub Meaning : Type 1
Meaning = (q : ℕ) (s : Tree) (v : ParameterTree) → Type 0

module _ (meaning : Meaning) where
  -- [[q]](s') where s' is what x0, x1 or x2 stands for in the tree s: the tree itself, its left or its right child
  abbrev pub OnChild : ℕ → Child → Tree → ParameterTree → Type 0
  OnChild q here s v = meaning q s v
  OnChild q left empty v = ⊥
  OnChild q left (node a s₁ s₂) v = meaning q s₁ v
  OnChild q right empty v = ⊥
  OnChild q right (node a s₁ s₂) v = meaning q s₂ v

  abbrev mutual
    -- the set [[t]] of a right-hand side t, whose x0 stands for s, x1 and x2 for its children: v is in it
    pub Value : Expression → Tree → ParameterTree → Type 0
    -- "[[y_j]] = {y_j}"
    Value (parameter j) s v = v ≡ variable j
    -- "[[b(t1, .., tm)]] = {b(t1', .., tm') | ti' ∈ [[ti]]}", for m = 0 and m = 2
    Value nothing s v = v ≡ leaf
    Value (symbol b t₁ t₂) s v = (x y : ParameterTree) × Value t₁ s x × Value t₂ s y × (v ≡ branch b x y)
    -- "[[q'(s', t1, .., tl)]] = {t'[t1'/y1, .., tl'/yl] | t' ∈ [[q']](s'), ti' ∈ [[ti]]}"
    Value (call q c ts) s v = (t : ParameterTree) × (us : List ParameterTree) × OnChild q c s t × Values ts s us × (v ≡ substituted us t)

    -- one tree of each argument's set
    pub Values : Arguments → Tree → List ParameterTree → Type 0
    Values none s us = us ≡ []
    Values (argument t ts) s us = (x : ParameterTree) × (xs : List ParameterTree) × Value t s x × Values ts s xs × (us ≡ x ∷ xs)

-- [[q]](s) has all that rule r gives, which is one for q
abbrev pub Has : Transformation → Meaning → (r : ℕ) → Tree → Type 0
Has T meaning r s = (v : ParameterTree) → Value meaning (right_side T r) s v → meaning (rule_at T.rules r).procedure s v

pub record Satisfies (T : Transformation) (meaning : Meaning) : Type 0 where
  -- "[[q]](s) ⊇ [[t[s/x0]]] for rule q(x0, y) → t": a stay rule, which "has symbol S"
  pub stays : (r : ℕ) → r < rule_count T.rules → (rule_at T.rules r).symbol ≡ T.symbols → (s : Tree) → Has T meaning r s
  -- "[[q]](a(s1, .., sd)) ⊇ [[t'[s1/x1, .., sd/xd]]] for rule q(a(x1, .., xd), y) → t'"
  pub moves : (r : ℕ) → r < rule_count T.rules → (s : Tree) → (rule_at T.rules r).symbol ≡ root_symbol s → Has T meaning r s

-- "The values [[q]] for all q are jointly defined as the least functions satisfying"
pub record Published (T : Transformation) : Type 1 where
  pub meaning : Meaning
  pub satisfies : Satisfies T meaning
  pub least : (other : Meaning) → Satisfies T other → (q : ℕ) (s : Tree) (v : ParameterTree) → meaning q s v → other q s v

-- the outputs are what is published
pub record AsPublished (T : Transformation) (meaning : Meaning) : Type 0 where
  -- "sets of trees with parameters in Y = {y1, .., yk}"
  pub variables : (q : ℕ) (s : Tree) (v : ParameterTree) → meaning q s v → VariablesBelow (count_of T.counts q) v
  -- "it suffices to substitute actual parameters tj for the formal parameters yj of all terms from [[q]](s) to obtain the set of
  -- produced outputs"
  pub outputs : (q : ℕ) (s : Tree) (ws : List Tree) (u : Tree) → length ws ≡ count_of T.counts q
      → Output T q s ws u ↔ ((v : ParameterTree) × meaning q s v × (substituted (map closed ws) v ≡ closed u))
  -- "τ_M(s) = ∪ {[[q0]](s) | q0 ∈ Q0}", where procedure 0 is the one start
  pub transformation : (s u : Tree) → Output T 0 s [] u ↔ meaning 0 s (closed u)
