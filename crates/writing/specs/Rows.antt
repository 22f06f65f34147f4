-- Rows of which none is wrong: the tests that the code makes, the numbers of a row's tree, and laws of both.
use Rattle.std.specs.Prelude.{◌≡◌, refl, Bool, true, false, ◌||◌, List, [], ◌∷◌, ◌++◌, ℕ, zero, suc, ◌+◌, ◌≤◌, ◌<◌, min, ltb, leb, length}
use Rattle.std.proofs.Common.{ap, sym, ◌∙◌, true≢false, not-suc-le-zero, arith, ltb-false, leb-false, ne_eqb, length-append}
use Rattle.std.proofs.Math.Decide.{ℕ_discrete}
use Rattle.model.specs.Trees.{node, Over, preorder}
use Rattle.model.specs.Rows.{Row, row_at, row_count, tree_at}
use Rattle.model.specs.WritingOut.{row_wrong}
use Rattle.model.proofs.Laws.Rows.{tree_empty, tree_node}

-- "a symbol above 15, a symbol 0 with non-zero children, or another symbol with a child not below its own row"
abbrev pub wrong_at : List ℕ → ℕ → Bool
wrong_at rows k = row_wrong k (row_at rows k)

-- no row of the table is wrong
abbrev pub NoneWrong : List ℕ → Type 0
NoneWrong rows = (k : ℕ) → k < row_count rows → wrong_at rows k ≡ false

-- the numbers of a row's tree
abbrev pub numbers_at : List ℕ → ℕ → List ℕ
numbers_at rows k = preorder (tree_at rows k)

-- how many they are, or `most` where they are more
abbrev pub size_within : ℕ → List ℕ → ℕ → ℕ
size_within most rows k = min most (length (numbers_at rows k))

-- row k of a symbol other than 0, where it is not wrong: its symbol, and its children below it
pub record Inner (k : ℕ) (row : Row) : Type 0 where
  pub positive : 1 ≤ row.symbol
  pub symbol : row.symbol < 16
  pub left : row.left < k
  pub right : row.right < k

pub inner : (k : ℕ) (row : Row) → row_wrong k row ≡ false → (row.symbol ≡ 0 → ⊥) → Inner k row
inner k row fine other =
    go (ltb 15 row.symbol) refl (leb k row.left) refl (leb k row.right) refl (rw (ne_eqb row.symbol 0 other) at fine)
  where
    go : (a : Bool) → ltb 15 row.symbol ≡ a
        → (b : Bool) → leb k row.left ≡ b
        → (c : Bool) → leb k row.right ≡ c
        → (a || (b || c)) ≡ false
        → Inner k row
    go true p b q c r f = absurd (true≢false f)
    go false p true q c r f = absurd (true≢false f)
    go false p false q true r f = absurd (true≢false f)
    go false p false q false r f = record {
      positive = omega arith;
      symbol = omega (arith, ltb-false 15 row.symbol p);
      left = leb-false k row.left q;
      right = leb-false k row.right r;
    }

-- row k of the table, as it was read
module _ (rows : List ℕ) (k : ℕ) (row : Row) (read : row ≡ row_at rows k) where
  -- "symbol 0 standing alone"
  pub numbers_leaf : row.symbol ≡ 0 → numbers_at rows k ≡ 0 ∷ []
  unfolding preorder
  numbers_leaf e = rw (tree_empty rows k (ap (λ r. r.symbol) (sym read) ∙ e))

  module _ (fine : NoneWrong rows) (here : k < row_count rows) (other : row.symbol ≡ 0 → ⊥) where
    pub inner_row : Inner k row
    inner_row = inner k row (rw read (fine k here)) other

    pub tree_inner : tree_at rows k ≡ node row.symbol (tree_at rows row.left) (tree_at rows row.right)
    tree_inner =
        let i : Inner k (row_at rows k) = rw read at inner_row in
        rw read (tree_node rows k i.positive i.left i.right)

    -- "its symbol, then the trees of its two smaller rows"
    pub numbers_inner : numbers_at rows k ≡ row.symbol ∷ (numbers_at rows row.left ++ numbers_at rows row.right)
    unfolding preorder
    numbers_inner = rw tree_inner

    pub size_inner : length (numbers_at rows k) ≡ 1 + length (numbers_at rows row.left) + length (numbers_at rows row.right)
    size_inner = rw numbers_inner (rw length-append (omega arith))

-- every tree of the table is over the 16 symbols
pub over_sixteen : (rows : List ℕ) → NoneWrong rows → (k : ℕ) → k < row_count rows → Over 16 (tree_at rows k)
over_sixteen rows fine k here = below (suc k) k (omega arith) here
  where
    at : (k : ℕ) → k < row_count rows → ((j : ℕ) → j < k → Over 16 (tree_at rows j)) → Dec ((row_at rows k).symbol ≡ 0) → Over 16 (tree_at rows k)
    at k h smaller (yes e) = rw (tree_empty rows k e) tt
    at k h smaller (no ne) =
        let i = inner_row rows k (row_at rows k) refl fine h ne in
        rw (tree_inner rows k (row_at rows k) refl fine h ne)
        (i.positive, i.symbol, smaller (row_at rows k).left i.left, smaller (row_at rows k).right i.right)

    below : (n k : ℕ) → k < n → k < row_count rows → Over 16 (tree_at rows k)
    below zero k l h = absurd (not-suc-le-zero l)
    below (suc n) k l h = at k h (λ j m. below n j (omega arith) (omega arith)) (ℕ_discrete (row_at rows k).symbol 0)
