-- Chains as the code makes them, from the last number to the first; the rest of the table is kept.
use Rattle.std.specs.Prelude.{◌≡◌, List, ℕ, ◌+◌, ◌<◌, ◌≤◌, length, get_or, set}
use Rattle.std.proofs.Common.{◌∙◌, arith, get_or-set_other}
use Rattle.kind_words.specs.Sizes.{rule_symbols}
use Rattle.kind_words.specs.Chains.{Chained, chained_more, length_linked}

-- place j names no first number of a symbol
abbrev pub NotFirst : (firsts j : ℕ) → Type 0
NotFirst firsts j = (s : ℕ) → s < rule_symbols → j ≡ firsts + s → ⊥

-- the first number of each symbol is n
pub record Emptied (firsts n : ℕ) (before table : List ℕ) : Type 0 where
  pub long : length table ≡ length before
  pub first : (t : ℕ) → t < rule_symbols → get_or table (firsts + t) 0 ≡ n
  pub kept : (j : ℕ) → NotFirst firsts j → get_or table j 0 ≡ get_or before j 0

module _ (symbol_of : ℕ → ℕ) (n firsts nexts : ℕ) where
  -- place j is no part of the chains
  pub record Apart (j : ℕ) : Type 0 where
    pub not_first : NotFirst firsts j
    pub not_next : (r : ℕ) → r < n → j ≡ nexts + r → ⊥

  -- the numbers from `from` on are in chains
  pub record Chaining (from : ℕ) (before table : List ℕ) : Type 0 where
    pub long : length table ≡ length before
    pub chained : Chained symbol_of n firsts nexts from table
    pub kept : (j : ℕ) → Apart j → get_or table j 0 ≡ get_or before j 0

  -- all numbers, from the table before it was emptied
  pub chaining_all : (before start table : List ℕ) → Emptied firsts n before start → Chaining 0 start table → Chaining 0 before table
  chaining_all before start table e h =
      record { long = h.long ∙ e.long; chained = h.chained; kept = λ j ne. h.kept j ne ∙ e.kept j ne.not_first }

  -- one number more
  pub chaining_more : (r t : ℕ) (before table next : List ℕ) → Chaining (r + 1) before table → r < n → symbol_of r ≡ t → t < rule_symbols → firsts + rule_symbols ≤ nexts
      → nexts + n ≤ length before
      → next ≡ set (set table (nexts + r) (get_or table (firsts + t) 0)) (firsts + t) r
      → Chaining r before next
  chaining_more r t before table next h below is small apart room e =
      let room' : nexts + n ≤ length table = omega (arith, h.long) in
      rw e
      (record {
        long = length_linked symbol_of n firsts nexts r t table h.chained below is small apart room' ∙ h.long;
        chained = chained_more symbol_of n firsts nexts r t table h.chained below is small apart room';
        kept = λ j ne.
            get_or-set_other (set table (nexts + r) (get_or table (firsts + t) 0)) (firsts + t) j r 0 (ne.not_first t small)
            ∙ get_or-set_other table (nexts + r) j (get_or table (firsts + t) 0) 0 (ne.not_next r below)
            ∙ h.kept j ne;
      })
