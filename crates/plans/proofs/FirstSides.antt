-- The table of right sides, filled from the last rule to the first: with the rules from k on it has the right side of the
-- first of these.
use mathlib.Core.Path.{◌≡◌, refl, ap, sym, ◌∙◌}
use mathlib.Core.Bool.{Bool, true, false}
use mathlib.Core.List.{List}
use Prim.Native.Nat.{ℕ, suc, ◌+◌, ◌-◌, ◌<◌}
use native.Mathlib.Nat.{not-suc-le-zero, add-zero, zero-add}
use native.Mathlib.Omega.{arith}
use native.Mathlib.Decide.{ℕ_discrete}
use lib.ListN.{length, get_or, set, replicate, length-set, length-replicate, get_or-replicate}
use lib.Seq.{get_or-set_same, get_or-set_other}
use borrow.Author.Tests.{lt-ltb, le-ltb, eq-eqb}
use Rattle.foundation.specs.Search.{first, first_at, first_none, first_cong}
use Rattle.model.specs.Tables.{Rule, rule_at, rule_count}
use Rattle.model.specs.Running.{fits, first_rule}
use Rattle.model.proofs.Laws.Rules.{fits_both}
use Rattle.plans.specs.Plans.{most_procedures, rule_symbols, most_nodes, entries, entry_of, side_at, SmallRules, Sides}

module _ (rules : List ℕ) where
  -- the first such rule from k on
  abbrev pub first_from : ℕ → ℕ → ℕ → ℕ
  first_from k p s = k + first (λ j. fits rules p s (k + j)) (rule_count rules - k)

  from_none : (p s : ℕ) → first_from (rule_count rules) p s ≡ rule_count rules
  from_none p s =
      let e : rule_count rules - rule_count rules ≡ 0 = omega arith in
      rw e (ap (λ (x : ℕ). rule_count rules + x) (first_none (λ j. fits rules p s (rule_count rules + j)) 0 (λ j l. absurd (not-suc-le-zero l))) ∙ add-zero (rule_count rules))

  from_zero : (p s : ℕ) → first_from 0 p s ≡ first_rule rules p s
  from_zero p s =
      let e : rule_count rules - 0 ≡ rule_count rules = omega arith in
      rw e (zero-add (first (λ j. fits rules p s (0 + j)) (rule_count rules))
      ∙ first_cong (λ j. fits rules p s (0 + j)) (fits rules p s) (rule_count rules) (λ j l. ap (fits rules p s) (zero-add j)))

  from_hit : (k p s : ℕ) → k < rule_count rules → fits rules p s k ≡ true → first_from k p s ≡ k
  from_hit k p s h e =
      ap (λ (x : ℕ). k + x) (first_at (λ j. fits rules p s (k + j)) (rule_count rules - k) 0 (omega arith) (λ j l. absurd (not-suc-le-zero l)) (ap (fits rules p s) (add-zero k) ∙ e))
      ∙ add-zero k

  from_miss : (k p s : ℕ) → k < rule_count rules → fits rules p s k ≡ false → first_from k p s ≡ first_from (suc k) p s
  unfolding first
  from_miss k p s h e =
      let m : rule_count rules - k ≡ suc (rule_count rules - suc k) = omega arith in
      let rest : first (λ j. fits rules p s (k + suc j)) (rule_count rules - suc k) ≡ first (λ j. fits rules p s (suc k + j)) (rule_count rules - suc k) =
      first_cong (λ j. fits rules p s (k + suc j)) (λ j. fits rules p s (suc k + j)) (rule_count rules - suc k) (λ j l. ap (fits rules p s) (shift k j)) in
      rw (m, add-zero k, e, rest) (shift k (first (λ j. fits rules p s (suc k + j)) (rule_count rules - suc k)))
    where
      shift : (a b : ℕ) → a + suc b ≡ suc a + b
      shift a b = omega arith

  -- a table of them
  pub record Listed (k : ℕ) (table : List ℕ) : Type 0 where
    pub size : length table ≡ entries
    pub entry : (p s : ℕ) → p < most_procedures → s < rule_symbols → get_or table (entry_of p s) 0 ≡ side_at rules (first_from k p s)

  none_side : side_at rules (rule_count rules) ≡ most_nodes
  none_side = rw (le-ltb (rule_count rules) (rule_count rules) (omega arith))

  pub listed_none : Listed (rule_count rules) (replicate entries most_nodes)
  listed_none =
      record {
        size = length-replicate {A = ℕ} entries most_nodes;
        entry = λ p s hp hs.
            get_or-replicate entries (entry_of p s) most_nodes 0 (omega arith)
            ∙ sym (ap (side_at rules) (from_none p s) ∙ none_side);
      }

  pub listed_all : (table : List ℕ) → Listed 0 table → Sides rules table
  listed_all table l p s hp hs = l.entry p s hp hs ∙ ap (side_at rules) (from_zero p s)

  -- one rule more, before those that it has
  module _ (k : ℕ) (table : List ℕ) (h : k < rule_count rules) (small : SmallRules rules) (l : Listed (suc k) table) (r : Rule) (e : r ≡ rule_at rules k) where
    same_procedure : r.procedure ≡ (rule_at rules k).procedure
    same_procedure = ap (λ (x : Rule). x.procedure) e

    same_symbol : r.symbol ≡ (rule_at rules k).symbol
    same_symbol = ap (λ (x : Rule). x.symbol) e

    small_procedure : r.procedure < most_procedures
    small_procedure = omega (arith, same_procedure, small.procedure k h)

    small_symbol : r.symbol < rule_symbols
    small_symbol = omega (arith, same_symbol, small.symbol k h)

    abbrev at : ℕ
    at = entry_of r.procedure r.symbol

    abbrev more : List ℕ
    more = set table at r.node

    side_here : (p s : ℕ) → s < rule_symbols → entry_of p s ≡ at → side_at rules (first_from k p s) ≡ r.node
    side_here p s hs same =
        let ep : (rule_at rules k).procedure ≡ p = sym same_procedure ∙ omega (arith, small_symbol) in
        let es : (rule_at rules k).symbol ≡ s = sym same_symbol ∙ omega (arith, small_symbol) in
        ap (side_at rules) (from_hit k p s h (rw (eq-eqb _ _ ep, eq-eqb _ _ es)))
        ∙ rw (lt-ltb k (rule_count rules) h) (sym (ap (λ (x : Rule). x.node) e))

    misses : (p s : ℕ) → (entry_of p s ≡ at → ⊥) → (b : Bool) → fits rules p s k ≡ b → fits rules p s k ≡ false
    misses p s ne false miss = miss
    misses p s ne true fit =
        let (ep, es) = fits_both rules p s k fit in
        absurd (ne (omega (arith, ep, es, same_procedure, same_symbol)))

    pub listed_more : Listed k more
    listed_more = record { size = length-set table at r.node ∙ l.size; entry = λ p s hp hs. go p s hp hs (ℕ_discrete (entry_of p s) at) }
      where
        go : (p s : ℕ) → p < most_procedures → s < rule_symbols → Dec (entry_of p s ≡ at) → get_or more (entry_of p s) 0 ≡ side_at rules (first_from k p s)
        go p s hp hs (yes same) =
            rw same (get_or-set_same table at r.node 0 (omega (arith, l.size, small_symbol, small_procedure)))
            ∙ sym (side_here p s hs same)
        go p s hp hs (no ne) =
            get_or-set_other table at (entry_of p s) r.node 0 ne
            ∙ l.entry p s hp hs
            ∙ ap (side_at rules) (sym (from_miss k p s h (misses p s ne (fits rules p s k) refl)))
