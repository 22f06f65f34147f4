-- What a node stands for, by its tag, over the expressions of the nodes below it; and equations for what admission asks of it.
use mathlib.Core.Path.{◌≡◌, refl, ap, sym, ◌∙◌}
use mathlib.Core.List.{List}
use Prim.Native.Nat.{ℕ, zero, suc, ◌<◌, ◌≤◌, ◌-◌}
use native.Mathlib.Nat.{not-suc-le-zero}
use native.Mathlib.Omega.{arith}
use native.Mathlib.Decide.{ℕ_discrete}
use borrow.Author.Tests.{eq-eqb, ne_eqb}
use Rattle.model.specs.Tables.{node_at, count_of}
use Rattle.model.specs.Expressions.{parameter, nothing, symbol, call, Arguments, child_of, arguments_of, expression_of, expression_below, expression}

module _ (counts nodes : List ℕ) where
  below_self : (n : ℕ) → expression_below counts nodes (suc n) n ≡ expression_of counts (expression_below counts nodes n) (node_at nodes n)
  unfolding expression_below
  below_self n = rw (eq-eqb n n refl, expression_below)

  below_other : (n m : ℕ) → (m ≡ n → ⊥) → expression_below counts nodes (suc n) m ≡ expression_below counts nodes n m
  unfolding expression_below
  below_other n m h = rw (ne_eqb m n h, expression_below)

  -- the bound does not matter
  below_expression : (n m : ℕ) → m < n → expression_below counts nodes n m ≡ expression counts nodes m
  unfolding expression
  below_expression zero m h = absurd (not-suc-le-zero h)
  below_expression (suc n) m h = go (λ (l : m < n). below_expression n m l) (ℕ_discrete m n)
    where
      go : (m < n → expression_below counts nodes n m ≡ expression_below counts nodes (suc m) m)
          → Dec (m ≡ n)
          → expression_below counts nodes (suc n) m ≡ expression_below counts nodes (suc m) m
      go k (yes e) = ap (λ (j : ℕ). expression_below counts nodes (suc j) m) (sym e)
      go k (no ne) = below_other n m ne ∙ k (omega arith)

  expression_self : (n : ℕ) → expression counts nodes n ≡ expression_of counts (expression_below counts nodes n) (node_at nodes n)
  unfolding expression
  expression_self n = below_self n

  pub expression_parameter : (n : ℕ) → (node_at nodes n).tag ≡ 0 → expression counts nodes n ≡ parameter ((node_at nodes n).name - 1)
  unfolding expression_of
  expression_parameter n t = expression_self n ∙ rw t

  pub expression_nothing : (n : ℕ) → (node_at nodes n).tag ≡ 1 → (node_at nodes n).name ≡ 0 → expression counts nodes n ≡ nothing
  unfolding expression_of
  expression_nothing n t z = expression_self n ∙ rw (t, z)

  pub expression_symbol : (n : ℕ) → (node_at nodes n).tag ≡ 1 → 1 ≤ (node_at nodes n).name → (node_at nodes n).first < n → (node_at nodes n).second < n
      → expression counts nodes n ≡ symbol (node_at nodes n).name (expression counts nodes (node_at nodes n).first) (expression counts nodes (node_at nodes n).second)
  unfolding expression_of
  expression_symbol n t z a b =
      expression_self n
      ∙ rw (t, ne_eqb (node_at nodes n).name 0 (λ e. omega arith))
      (rw (below_expression n (node_at nodes n).first a, below_expression n (node_at nodes n).second b))

  -- the arguments of a call are smaller nodes, as many as are used
  pub record SmallerArguments (n : ℕ) : Type 0 where
    pub first : 1 ≤ count_of counts (node_at nodes n).name → (node_at nodes n).first < n
    pub second : 2 ≤ count_of counts (node_at nodes n).name → (node_at nodes n).second < n

  -- the arguments that call n has
  abbrev pub arguments_at : ℕ → Arguments
  arguments_at n =
      arguments_of (count_of counts (node_at nodes n).name) (expression counts nodes (node_at nodes n).first)
      (expression counts nodes (node_at nodes n).second)

  arguments_below : (n k : ℕ) → (1 ≤ k → (node_at nodes n).first < n) → (2 ≤ k → (node_at nodes n).second < n)
      → arguments_of k (expression_below counts nodes n (node_at nodes n).first) (expression_below counts nodes n (node_at nodes n).second)
      ≡ arguments_of k (expression counts nodes (node_at nodes n).first) (expression counts nodes (node_at nodes n).second)
  arguments_below n zero a b = refl
  arguments_below n (suc zero) a b = rw (below_expression n (node_at nodes n).first (a (omega arith)))
  arguments_below n (suc (suc k)) a b =
      rw (below_expression n (node_at nodes n).first (a (omega arith)), below_expression n (node_at nodes n).second (b (omega arith)))

  pub expression_call : (n : ℕ) → (node_at nodes n).tag ≡ 2 → SmallerArguments n
      → expression counts nodes n ≡ call (node_at nodes n).name (child_of (node_at nodes n).child) (arguments_at n)
  unfolding expression_of
  expression_call n t h =
      expression_self n
      ∙ rw t (rw (arguments_below n (count_of counts (node_at nodes n).name) h.first h.second))
