-- Outputs are the meaning that source document 000 publishes. The least functions that satisfy its equations are the outputs over
-- trees with variables, each parameter a variable of its own; outputs with other parameters come from these by substitution.
use mathlib.Core.Path.{◌≡◌, refl, ap, ap₂, subst, sym, ◌∙◌}
use mathlib.Core.List.{List, [], ◌∷◌, map}
use mathlib.Core.Logic.{◌↔◌}
use Prim.Native.Nat.{ℕ, zero, suc, ◌+◌, ◌<◌, ◌≤◌}
use native.Mathlib.Nat.{not-suc-le-zero, le_of_suc-le-suc}
use native.Mathlib.Omega.{arith}
use lib.ListN.{length, get_or, length-map, get_or-map}
use lib.Seq.{ext_get_or}
use Rattle.model.specs.Trees.{Tree, empty, node}
use Rattle.model.specs.Tables.{Contract, Transformation, rule_at, rule_count, count_of}
use Rattle.model.specs.Expressions.{Child, left, right, here, Expression, parameter, nothing, symbol, call, Arguments, none, argument, greatest_parameter, greatest_of_all}
use Rattle.model.specs.Outputs.{Algebra, ChildOf, left-of, right_of, itself, RuleFor, of_root, of_any, Gives, by_rule, Makes, of_parameter, of_nothing, of_symbol, of_call, MakesAll, of_none, of_argument, trees, Output}
use Rattle.model.specs.Claims.{Admitted}
use Rattle.model.specs.Published.{ParameterTree, leaf, branch, variable, VariablesBelow, closed, substituted, Meaning, OnChild, Value, Values, Has, Satisfies, Published, AsPublished}
use Rattle.model.proofs.Laws.Admitted.{established}
use Rattle.model.proofs.Laws.Established.{Established}
use Rattle.model.proofs.Laws.Facts.{argument_count, WellFormed, AllWellFormed, right_side_well_formed}
use Rattle.model.proofs.Meaning.Outputs.{Homomorphism, output_image, output_source}

-- Trees with variables

abbrev parameter_trees : Algebra
parameter_trees = record { Carrier = ParameterTree; leaf = leaf; join = branch }

abbrev substituting : List ParameterTree → Homomorphism parameter_trees parameter_trees
substituting ts = record { image = substituted ts; leaf = refl; join = λ s x y. refl }

abbrev closing : Homomorphism trees parameter_trees
closing = record { image = closed; leaf = refl; join = λ s x y. refl }

-- a tree is known by its closed form
abbrev opened : ParameterTree → Tree
opened leaf = empty
opened (branch b x y) = node b (opened x) (opened y)
opened (variable j) = empty

opened_closed : (t : Tree) → opened (closed t) ≡ t
opened_closed empty = refl
opened_closed (node b x y) = ap₂ (node b) (opened_closed x) (opened_closed y)

closed_same : (t u : Tree) → closed t ≡ closed u → t ≡ u
closed_same t u e = sym (opened_closed t) ∙ ap opened e ∙ opened_closed u

-- what a read past the end would give does not matter within a list
any_default : {A : Type 0} (l : List A) (j : ℕ) (d e : A) → j < length l → get_or l j d ≡ get_or l j e
any_default [] j d e h = absurd (not-suc-le-zero h)
any_default (x ∷ l) zero d e h = refl
any_default (x ∷ l) (suc j) d e h = any_default l j d e (le_of_suc-le-suc h)

image_at : {A : Type 0} (f : A → A) (l : List A) (j : ℕ) (d e : A) → j < length l → f (get_or l j d) ≡ get_or (map f l) j e
image_at f l j d e h = sym (get_or-map f l j d) ∙ any_default (map f l) j (f d) e (omega (arith, length-map l f))

-- k variables, from number i on
abbrev variables_from : ℕ → ℕ → List ParameterTree
variables_from i zero = []
variables_from i (suc k) = variable i ∷ variables_from (suc i) k

count_variables : (i k : ℕ) → length (variables_from i k) ≡ k
count_variables i zero = refl
count_variables i (suc k) = ap suc (count_variables (suc i) k)

variable_at : (k i j n : ℕ) → n ≡ i + j → get_or (variables_from i k) j (variable n) ≡ variable n
variable_at zero i j n e = refl
variable_at (suc k) i zero n e = ap variable (omega arith)
variable_at (suc k) i (suc j) n e = variable_at k (suc i) j n (omega arith)

-- the parameters of a procedure of k parameters, each standing for itself
abbrev own : ℕ → List ParameterTree
own k = variables_from 0 k

own_at : (k j : ℕ) → get_or (own k) j (variable j) ≡ variable j
own_at k j = variable_at k 0 j j (omega arith)

substituted_own : (k : ℕ) (v : ParameterTree) → substituted (own k) v ≡ v
substituted_own k leaf = refl
substituted_own k (branch b x y) = ap₂ (branch b) (substituted_own k x) (substituted_own k y)
substituted_own k (variable j) = own_at k j

own_substituted : (ws : List ParameterTree) (k : ℕ) → length ws ≡ k → map (substituted ws) (own k) ≡ ws
own_substituted ws k e =
    let long : length (map (substituted ws) (own k)) ≡ length ws = length-map (own k) (substituted ws) ∙ count_variables 0 k ∙ sym e in
    ext_get_or leaf (map (substituted ws) (own k)) ws long
    (λ j h.
    let within : j < length (own k) = omega (arith, count_variables 0 k) in
    sym (image_at (substituted ws) (own k) j (variable j) leaf within)
    ∙ ap (substituted ws) (own_at k j)
    ∙ any_default ws j (variable j) leaf (omega arith))

-- one substitution after another
substituted_twice : (ws ts : List ParameterTree) (v : ParameterTree) → VariablesBelow (length ts) v
    → substituted ws (substituted ts v) ≡ substituted (map (substituted ws) ts) v
substituted_twice ws ts leaf h = refl
substituted_twice ws ts (branch b x y) h = ap₂ (branch b) (substituted_twice ws ts x h.0) (substituted_twice ws ts y h.1)
substituted_twice ws ts (variable j) h = image_at (substituted ws) ts j (variable j) (variable j) h

abbrev AllBelow : ℕ → List ParameterTree → Type 0
AllBelow k [] = Unit {0}
AllBelow k (t ∷ ts) = VariablesBelow k t × AllBelow k ts

below_at : (k : ℕ) (ts : List ParameterTree) (j : ℕ) (d : ParameterTree) → AllBelow k ts → j < length ts → VariablesBelow k (get_or ts j d)
below_at k [] j d all h = absurd (not-suc-le-zero h)
below_at k (t ∷ ts) zero d all h = all.0
below_at k (t ∷ ts) (suc j) d all h = below_at k ts j d all.1 (le_of_suc-le-suc h)

below_substituted : (k : ℕ) (ts : List ParameterTree) (v : ParameterTree) → AllBelow k ts → VariablesBelow (length ts) v → VariablesBelow k (substituted ts v)
below_substituted k ts leaf all h = tt
below_substituted k ts (branch b x y) all h = (below_substituted k ts x all h.0, below_substituted k ts y all h.1)
below_substituted k ts (variable j) all h = below_at k ts j (variable j) all h

-- Outputs are in every meaning that satisfies the equations

module _ (T : Transformation) (meaning : Meaning) (satisfies : Satisfies T meaning) where
  -- the tree v of a set, whose variables are the parameters ws, gives u with ws for them
  abbrev From : (ParameterTree → Type 0) → List ParameterTree → ParameterTree → Type 0
  From P ws u = (v : ParameterTree) × P v × VariablesBelow (length ws) v × (substituted ws v ≡ u)

  on-child : {q : ℕ} {c : Child} {s s' : Tree} {v : ParameterTree} → ChildOf c s s' → meaning q s' v → OnChild meaning q c s v
  on-child left-of x = x
  on-child right_of x = x
  on-child itself x = x

  has : (r : ℕ) → r < rule_count T.rules → (s : Tree) → RuleFor T s (rule_at T.rules r).symbol → Has T meaning r s
  has r l s (of_root e) = satisfies.moves r l s e
  has r l s (of_any e) = satisfies.stays r l e s

  mutual
    given_from : {q : ℕ} {s : Tree} {ws : List ParameterTree} {u : ParameterTree} → Gives T parameter_trees q s ws u → From (meaning q s) ws u
    given_from {s = s} (by_rule r l procedure root made) =
        let (v, value, below, e) = made_from made in
        (v, subst (λ (p : ℕ). meaning p s v) procedure (has r l s root v value), below, e)

    made_from : {e : Expression} {s : Tree} {ws : List ParameterTree} {u : ParameterTree} → Makes T parameter_trees e s ws u → From (Value meaning e s) ws u
    made_from {ws = ws} (of_parameter {i = i} l e) = (variable i, refl, l, any_default ws i (variable i) leaf l ∙ sym e)
    made_from (of_nothing e) = (leaf, refl, tt, sym e)
    made_from (of_symbol {s = b} first second e) =
        let (x, value_x, below_x, ex) = made_from first in
        let (y, value_y, below_y, ey) = made_from second in
        (branch b x y, (x, y, value_x, value_y, refl), (below_x, below_y), ap₂ (branch b) ex ey ∙ sym e)
    made_from {ws = ws} (of_call child all given) =
        let (ts, values, below, e) = all_from all in
        let (v, value, below_v, e_v) = given_from given in
        let long : length ts ≡ length (map (substituted ws) ts) = sym (length-map ts (substituted ws)) in
        let below_t : VariablesBelow (length ts) v = subst (λ (n : ℕ). VariablesBelow n v) (sym (long ∙ ap length e)) below_v in (
          substituted ts v,
          (v, ts, on-child child value, values, refl),
          below_substituted (length ws) ts v below below_t,
          substituted_twice ws ts v below_t ∙ ap (λ (xs : List ParameterTree). substituted xs v) e ∙ e_v,
        )

    all_from : {es : Arguments} {s : Tree} {ws us : List ParameterTree} → MakesAll T parameter_trees es s ws us
        → (ts : List ParameterTree) × Values meaning es s ts × AllBelow (length ws) ts × (map (substituted ws) ts ≡ us)
    all_from (of_none e) = ([], refl, tt, sym e)
    all_from (of_argument made all e) =
        let (t, value, below, et) = made_from made in
        let (ts, values, belows, ets) = all_from all in
        (t ∷ ts, (t, ts, value, values, refl), (below, belows), ap₂ ◌∷◌ et ets ∙ sym e)

-- Outputs satisfy the equations

module _ (C : Contract) (known : Established C) where
  abbrev T : Transformation
  T = C.transformation

  abbrev counts : List ℕ
  counts = T.counts

  -- outputs over trees with variables, each parameter a variable of its own
  abbrev own_meaning : Meaning
  own_meaning q s v = Gives T parameter_trees q s (own (count_of counts q)) v

  child_given : (q : ℕ) (c : Child) (s : Tree) (v : ParameterTree) → OnChild own_meaning q c s v → (s' : Tree) × ChildOf c s s' × own_meaning q s' v
  child_given q here s v x = (s, itself, x)
  child_given q left empty v x = absurd x
  child_given q left (node a s₁ s₂) v x = (s₁, left-of, x)
  child_given q right empty v x = absurd x
  child_given q right (node a s₁ s₂) v x = (s₂, right_of, x)

  -- with the trees us for the variables
  given_with : (q : ℕ) (s : Tree) (us : List ParameterTree) (v : ParameterTree) → length us ≡ count_of counts q → own_meaning q s v
      → Gives T parameter_trees q s us (substituted us v)
  given_with q s us v long given =
      subst (λ (ws : List ParameterTree). Gives T parameter_trees q s ws (substituted us v)) (own_substituted us (count_of counts q) long)
      (output_image T parameter_trees parameter_trees (substituting us) given)

  count_values : (ts : Arguments) (s : Tree) (us : List ParameterTree) → Values own_meaning ts s us → length us ≡ argument_count ts
  count_values none s us e = ap length e
  count_values (argument t ts) s us (x, xs, value, values, e) = ap length e ∙ ap suc (count_values ts s xs values)

  module _ (k : ℕ) (s : Tree) where
    mutual
      unfolding greatest_parameter

      value_made : (t : Expression) (v : ParameterTree) → WellFormed counts t → greatest_parameter t ≤ k → Value own_meaning t s v
          → Makes T parameter_trees t s (own k) v
      value_made (parameter j) v well h e =
          let within : j < length (own k) = omega (arith, count_variables 0 k) in
          of_parameter within (e ∙ sym (own_at k j) ∙ any_default (own k) j (variable j) leaf within)
      value_made nothing v well h e = of_nothing e
      value_made (symbol b t₁ t₂) v well h (x, y, value_x, value_y, e) =
          of_symbol (value_made t₁ x well.0 (omega arith) value_x) (value_made t₂ y well.1 (omega arith) value_y) e
      value_made (call q c ts) v well h (t, us, on, values, e) =
          let (s', child, given) = child_given q c s t on in
          of_call child (values_made ts us well.2 h values)
          (subst (λ (u : ParameterTree). Gives T parameter_trees q s' us u) (sym e)
          (given_with q s' us t (count_values ts s us values ∙ well.1) given))

      values_made : (ts : Arguments) (us : List ParameterTree) → AllWellFormed counts ts → greatest_of_all ts ≤ k → Values own_meaning ts s us
          → MakesAll T parameter_trees ts s (own k) us
      values_made none us well h e = of_none e
      values_made (argument t ts) us well h (x, xs, value, values, e) =
          of_argument (value_made t x well.0 (omega arith) value) (values_made ts xs well.1 (omega arith) values) e

  own_has : (r : ℕ) → r < rule_count T.rules → (s : Tree) → RuleFor T s (rule_at T.rules r).symbol → Has T own_meaning r s
  own_has r l s for v value =
      by_rule r l refl for
      (value_made (count_of counts (rule_at T.rules r).procedure) s _ v (right_side_well_formed C known r l) (known.rule r l).parameters value)

  own_satisfies : Satisfies T own_meaning
  own_satisfies = record { stays = λ r l e s. own_has r l s (of_any e); moves = λ r l s e. own_has r l s (of_root e) }

  -- every meaning that satisfies the equations has what they have
  own_least : (other : Meaning) → Satisfies T other → (q : ℕ) (s : Tree) (v : ParameterTree) → own_meaning q s v → other q s v
  own_least other satisfies q s v given =
      let (v', x, below, e) = given_from T other satisfies given in
      subst (other q s) (sym (substituted_own (count_of counts q) v') ∙ e) x

  own_variables : (q : ℕ) (s : Tree) (v : ParameterTree) → own_meaning q s v → VariablesBelow (count_of counts q) v
  own_variables q s v given =
      let (v', x, below, e) = given_from T own_meaning own_satisfies given in
      subst (λ (n : ℕ). VariablesBelow n v) (count_variables 0 (count_of counts q))
      (subst (VariablesBelow (length (own (count_of counts q)))) (sym (substituted_own (count_of counts q) v') ∙ e) below)

  own_outputs : (q : ℕ) (s : Tree) (ws : List Tree) (u : Tree) → length ws ≡ count_of counts q
      → Output T q s ws u ↔ ((v : ParameterTree) × own_meaning q s v × (substituted (map closed ws) v ≡ closed u))
  own_outputs q s ws u long =
      let vs : List ParameterTree = map closed ws in
      let put : map (substituted vs) (own (count_of counts q)) ≡ vs = own_substituted vs (count_of counts q) (length-map ws closed ∙ long) in (
        λ given.
            output_source T parameter_trees parameter_trees (substituting vs) (own (count_of counts q))
            (subst (λ (xs : List ParameterTree). Gives T parameter_trees q s xs (closed u)) (sym put)
            (output_image T trees parameter_trees closing given)),
        λ (v, given, e).
            let (u', given', e') = output_source T trees parameter_trees closing ws (given_with q s vs v (length-map ws closed ∙ long) given) in
            subst (Output T q s ws) (closed_same u' u (e' ∙ e)) given',
      )

-- the published meaning of an admitted contract's transformation
pub published_meaning : (C : Contract) → Admitted C → Published C.transformation
published_meaning C good =
    let known : Established C = established C good in
    record { meaning = own_meaning C known; satisfies = own_satisfies C known; least = own_least C known }

-- "The answers equal the call-by-value meaning of macro tree transducers published in ..": the outputs of an admitted contract's
-- transformation are those published
pub as_published : (C : Contract) → Admitted C → (published : Published C.transformation) → AsPublished C.transformation published.meaning
as_published C good published =
    record {
      variables = λ q s v x. own_variables C known q s v (to_own q s v x);
      outputs = outputs;
      transformation = λ s u. (
        λ given. let (v, x, e) = (outputs 0 s [] u (sym known.start)).0 given in subst (published.meaning 0 s) (sym (substituted_own 0 v) ∙ e) x,
        λ x. (outputs 0 s [] u (sym known.start)).1 (closed u, x, substituted_own 0 (closed u)),
      );
    }
  where
    known : Established C
    known = established C good

    to_own : (q : ℕ) (s : Tree) (v : ParameterTree) → published.meaning q s v → own_meaning C known q s v
    to_own = published.least (own_meaning C known) (own_satisfies C known)

    outputs : (q : ℕ) (s : Tree) (ws : List Tree) (u : Tree) → length ws ≡ count_of C.transformation.counts q
        → Output C.transformation q s ws u ↔ ((v : ParameterTree) × published.meaning q s v × (substituted (map closed ws) v ≡ closed u))
    outputs q s ws u long = (
      λ given. let (v, x, e) = (own_outputs C known q s ws u long).0 given in (v, own_least C known published.meaning published.satisfies q s v x, e),
      λ (v, x, e). (own_outputs C known q s ws u long).1 (v, to_own q s v x, e),
    )
