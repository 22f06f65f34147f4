-- The first numbers of the symbols are emptied one after another: those below s are done. `Chaining`'s `Emptied` says it of all symbols at once.
use Rattle.std.specs.Prelude.{◌≡◌, refl, List, ℕ, ◌+◌, ◌<◌, ◌≤◌, length, get_or, set}
use Rattle.std.proofs.Common.{◌∙◌, arith, length-set, get_or-set_same, get_or-set_other}
use Rattle.std.proofs.Math.Decide.{ℕ_discrete}
use Rattle.kind_words.specs.Sizes.{rule_symbols}
use Rattle.kind_words.specs.Chains.{chained_none}
use Rattle.chains.specs.Chaining as chaining
use Rattle.chains.specs.Chaining.{NotFirst, Chaining}

-- the first number of the symbols below s is n
pub record Emptied (firsts n s : ℕ) (before table : List ℕ) : Type 0 where
  pub long : length table ≡ length before
  pub first : (t : ℕ) → t < s → get_or table (firsts + t) 0 ≡ n
  pub kept : (j : ℕ) → NotFirst firsts j → get_or table j 0 ≡ get_or before j 0

pub emptied_none : (firsts n : ℕ) (table : List ℕ) → Emptied firsts n 0 table table
emptied_none firsts n table = record { long = refl; first = λ t l. absurd (omega arith); kept = λ j h. refl }

-- one symbol more
pub emptied_more : (firsts n s : ℕ) (before table : List ℕ) (entry : ℕ) → Emptied firsts n s before table → firsts + rule_symbols ≤ length before → s < rule_symbols → entry ≡ n
    → Emptied firsts n (s + 1) before (set table (firsts + s) entry)
emptied_more firsts n s before table entry h room small e =
    record {
      long = length-set table (firsts + s) entry ∙ h.long;
      first = λ t l. go t l (ℕ_discrete t s);
      kept = λ j ne. get_or-set_other table (firsts + s) j entry 0 (ne s small) ∙ h.kept j ne;
    }
  where
    go : (t : ℕ) → t < s + 1 → Dec (t ≡ s) → get_or (set table (firsts + s) entry) (firsts + t) 0 ≡ n
    go t l (yes q) = rw q (get_or-set_same table (firsts + s) entry 0 (omega (arith, h.long)) ∙ e)
    go t l (no ne) = get_or-set_other table (firsts + s) (firsts + t) entry 0 (λ q. ne (omega arith)) ∙ h.first t (omega arith)

-- all symbols done
pub emptied_all : (firsts n : ℕ) (before table : List ℕ) → Emptied firsts n rule_symbols before table → chaining.Emptied firsts n before table
emptied_all firsts n before table h = record { long = h.long; first = h.first; kept = h.kept }

pub all_emptied : (firsts n : ℕ) (before table : List ℕ) → chaining.Emptied firsts n before table → Emptied firsts n rule_symbols before table
all_emptied firsts n before table h = record { long = h.long; first = h.first; kept = h.kept }

module _ (symbol_of : ℕ → ℕ) (n firsts nexts : ℕ) where
  pub chaining_none : (before table : List ℕ) → Emptied firsts n rule_symbols before table → Chaining symbol_of n firsts nexts n table table
  chaining_none before table h = record { long = refl; chained = chained_none symbol_of n firsts nexts table h.first; kept = λ j ne. refl }

  -- all numbers, from the table before it was emptied
  pub chaining_all : (before start table : List ℕ) → Emptied firsts n rule_symbols before start → Chaining symbol_of n firsts nexts 0 start table → Chaining symbol_of n firsts nexts 0 before table
  chaining_all before start table e h =
      record { long = h.long ∙ e.long; chained = h.chained; kept = λ j ne. h.kept j ne ∙ e.kept j ne.not_first }
