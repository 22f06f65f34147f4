-- An entry of the merged table, from what the code computes on the way, and how large that is.
use mathlib.Core.Path.{◌≡◌, sym}
use mathlib.Core.List.{List}
use Prim.Native.Nat.{ℕ, suc, ◌+◌, ◌/◌, ◌%◌, ◌*◌, ◌<◌, ◌≤◌}
use native.Mathlib.Nat.{div-le_self}
use native.Mathlib.Omega.{arith}
use Rattle.model.specs.Tables.{OutputType, empty_state, next_state}
use Rattle.model.specs.Merging.{pair_state, first_of, second_of, pair_count, pair_entry}
use Rattle.model.proofs.Laws.Merging.{entry_nothing, entry_over}
use Rattle.merging_pairs.specs.Types.{table_only, pair_number, Below}
use Rattle.merging_pairs.specs.declared.pairs.Pair.{Pair}
use Rattle.merging_pairs.specs.declared.filling.Place.{Place}

module _ (Y Z : OutputType) (k : ℕ) where
  abbrev O : ℕ
  O = Z.states

  pub entry_empty : k ≡ 0 → (m n : ℕ) → m ≡ empty_state Y → n ≡ empty_state Z → pair_state O m n ≡ pair_entry Y Z k
  entry_empty zero m n first second = rw (first, second) (sym (entry_nothing Y Z k zero))

  -- a symbol over two pairs, and what the two types give it
  pub entry_next : (c : ℕ) → k ≡ suc c
      → (place : Place)
      → place.symbol.0 ≡ 1 + c / (pair_count Y Z * pair_count Y Z)
      → place.left.0 ≡ c / pair_count Y Z % pair_count Y Z
      → place.right.0 ≡ c % pair_count Y Z
      → (left : Pair) → left.first.0.0 ≡ first_of O place.left.0 → left.second.0.0 ≡ second_of O place.left.0
      → (right : Pair) → right.first.0.0 ≡ first_of O place.right.0 → right.second.0.0 ≡ second_of O place.right.0
      → (next : Pair)
      → next.first.0.0 ≡ next_state Y place.symbol.0 left.first.0.0 right.first.0.0
      → next.second.0.0 ≡ next_state Z place.symbol.0 left.second.0.0 right.second.0.0
      → pair_number O next ≡ pair_entry Y Z k
  entry_next c e place s l r left l₁ l₂ right r₁ r₂ next n₁ n₂ = rw (n₁, n₂, l₁, l₂, r₁, r₂, s, l, r) (sym (entry_over Y Z k c e))

-- entry c + 1 is for a symbol from 1, no greater than the entry's number
pub symbol_small : (k c n symbol : ℕ) → k ≡ suc c → symbol ≡ 1 + c / n → (1 ≤ symbol) × (symbol ≤ k)
symbol_small k c n symbol e s = (omega arith, omega (arith, div-le_self c n))

-- a state that a table gives is one of the type's
pub next_below : (states : ℕ) (table : List ℕ) (symbol left right m : ℕ) → Below states table
    → m ≡ next_state (table_only states table) symbol left right
    → m < states
next_below states table symbol left right m below e = rw e (below _)
