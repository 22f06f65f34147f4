-- Five lists and two numbers written into a blank table one behind another: each stands where it was written, for the later ones stand
-- behind it.
use mathlib.Core.Path.{◌≡◌, refl, ap, sym, ◌∙◌}
use mathlib.Core.List.{List}
use Prim.Native.Nat.{ℕ, ◌+◌, ◌*◌, ◌<◌, ◌≤◌}
use native.Mathlib.Nat.{zero-add}
use native.Mathlib.Omega.{arith}
use lib.ListN.{length, get_or, set, take, length-set}
use lib.Seq.{get_or-take, get_or-set_same, get_or-set_other, length-take-le}
use mir.Val.{bool_byte}
use Rattle.model.specs.Tables.{Transformation}
use Rattle.plans.specs.Plans.{most_procedures, most_nodes, most_numbers, entries, entry_of, sides_place, nodes_place, numbers_place, ends_place, stay_place, flag_place, plan_length, overlaid, Sides, has_stay, Laid}
use Rattle.plans.proofs.Limits.{most_made}
use Rattle.plans.proofs.Overlays.{length_overlaid, overlaid_in, overlaid_below}

-- one list written
pub size_written : (l t new : List ℕ) (at : ℕ) → t ≡ overlaid l at new → length l ≡ plan_length → at + length new ≤ plan_length → length t ≡ plan_length
size_written l t new at e n h = ap length e ∙ length_overlaid l at new (omega arith) ∙ n

kept : (l t new : List ℕ) (at : ℕ) → t ≡ overlaid l at new → length l ≡ plan_length → at + length new ≤ plan_length → (i : ℕ) → i < at → get_or t i 0 ≡ get_or l i 0
kept l t new at e n h i b = ap (λ (x : List ℕ). get_or x i 0) e ∙ overlaid_below l at new (omega arith) i b

written : (l t new : List ℕ) (at : ℕ) → t ≡ overlaid l at new → length l ≡ plan_length → at + length new ≤ plan_length → (i : ℕ) → i < length new → get_or t (at + i) 0 ≡ get_or new i 0
written l t new at e n h i b = ap (λ (x : List ℕ). get_or x (at + i) 0) e ∙ overlaid_in l at new (omega arith) i b

module _ (T : Transformation) (numbers ends sides : List ℕ)
    (few-counts : length T.counts ≤ most_procedures) (sides-size : length sides ≡ entries) (few-nodes : length T.nodes ≤ 5 * most_nodes) (few-numbers : length numbers ≤ most_numbers) (long : length numbers ≤ length ends)
    (t₀ t₁ t₂ t₃ t₄ t₅ : List ℕ) (n : length t₀ ≡ plan_length)
    (e₁ : t₁ ≡ overlaid t₀ 0 T.counts) (e₂ : t₂ ≡ overlaid t₁ sides_place sides) (e₃ : t₃ ≡ overlaid t₂ nodes_place T.nodes) (e₄ : t₄ ≡ overlaid t₃ numbers_place numbers) (e₅ : t₅ ≡ overlaid t₄ ends_place (take (length numbers) ends)) where
  n₁ : length t₁ ≡ plan_length
  n₁ = size_written t₀ t₁ T.counts 0 e₁ n (omega arith)

  n₂ : length t₂ ≡ plan_length
  n₂ = size_written t₁ t₂ sides sides_place e₂ n₁ (omega arith)

  n₃ : length t₃ ≡ plan_length
  n₃ = size_written t₂ t₃ T.nodes nodes_place e₃ n₂ (omega arith)

  n₄ : length t₄ ≡ plan_length
  n₄ = size_written t₃ t₄ numbers numbers_place e₄ n₃ (omega arith)

  ends_taken : length (take (length numbers) ends) ≡ length numbers
  ends_taken = length-take-le (length numbers) ends long

  n₅ : length t₅ ≡ plan_length
  n₅ = size_written t₄ t₅ (take (length numbers) ends) ends_place e₅ n₄ (omega (arith, ends_taken))

  module _ (stay flag : ℕ) where
    -- the table with both numbers at its end
    abbrev whole : List ℕ
    whole = set (set t₅ stay_place stay) flag_place flag

    below_stay : (i : ℕ) → i < stay_place → get_or whole i 0 ≡ get_or t₅ i 0
    below_stay i h = get_or-set_other (set t₅ stay_place stay) flag_place i flag 0 (λ e. omega arith) ∙ get_or-set_other t₅ stay_place i stay 0 (λ e. omega arith)

    below_ends : (i : ℕ) → i < ends_place → get_or whole i 0 ≡ get_or t₄ i 0
    below_ends i h = below_stay i (omega arith) ∙ kept t₄ t₅ (take (length numbers) ends) ends_place e₅ n₄ (omega (arith, ends_taken)) i h

    below_numbers : (i : ℕ) → i < numbers_place → get_or whole i 0 ≡ get_or t₃ i 0
    below_numbers i h = below_ends i (omega arith) ∙ kept t₃ t₄ numbers numbers_place e₄ n₃ (omega arith) i h

    below_nodes : (i : ℕ) → i < nodes_place → get_or whole i 0 ≡ get_or t₂ i 0
    below_nodes i h = below_numbers i (omega arith) ∙ kept t₂ t₃ T.nodes nodes_place e₃ n₂ (omega arith) i h

    node_number : (i j : ℕ) → i ≡ nodes_place + j → j < length T.nodes → get_or whole i 0 ≡ get_or T.nodes j 0
    node_number i j e h = ap (λ (x : ℕ). get_or whole x 0) e ∙ below_numbers (nodes_place + j) (omega arith) ∙ written t₂ t₃ T.nodes nodes_place e₃ n₂ (omega arith) j h

    pub laid : Sides T.rules sides → stay ≡ T.symbols → flag ≡ bool_byte (has_stay T.symbols T.rules) → Laid T numbers ends whole
    laid right same flagged =
        record {
          count = λ p h.
              below_nodes p (omega arith)
              ∙ kept t₁ t₂ sides sides_place e₂ n₁ (omega arith) p (omega arith)
              ∙ ap (λ (x : ℕ). get_or t₁ x 0) (sym (zero-add p))
              ∙ written t₀ t₁ T.counts 0 e₁ n (omega arith) p h;
          side = λ p s hp hs.
              below_nodes (sides_place + entry_of p s) (omega arith)
              ∙ written t₁ t₂ sides sides_place e₂ n₁ (omega arith) (entry_of p s) (omega arith)
              ∙ right p s hp hs;
          node = λ k h.
              rw (
                node_number (nodes_place + 5 * k) (5 * k) refl (omega arith),
                node_number (nodes_place + 5 * k + 1) (5 * k + 1) (omega arith) (omega arith),
                node_number (nodes_place + 5 * k + 2) (5 * k + 2) (omega arith) (omega arith),
                node_number (nodes_place + 5 * k + 3) (5 * k + 3) (omega arith) (omega arith),
                node_number (nodes_place + 5 * k + 4) (5 * k + 4) (omega arith) (omega arith),
              );
          symbol = λ i h. below_ends (numbers_place + i) (omega arith) ∙ written t₃ t₄ numbers numbers_place e₄ n₃ (omega arith) i h;
          end = λ i h.
              below_stay (ends_place + i) (omega arith)
              ∙ written t₄ t₅ (take (length numbers) ends) ends_place e₅ n₄ (omega (arith, ends_taken)) i (omega (arith, ends_taken))
              ∙ get_or-take (length numbers) ends i 0 h;
          stay =
              get_or-set_other (set t₅ stay_place stay) flag_place stay_place flag 0 (λ e. omega arith)
              ∙ get_or-set_same t₅ stay_place stay 0 (omega (arith, n₅))
              ∙ same;
          most =
              most_made whole T
              (get_or-set_same (set t₅ stay_place stay) flag_place flag 0 (omega (arith, n₅, length-set t₅ stay_place stay)) ∙ flagged);
        }
