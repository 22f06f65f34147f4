-- The merged type: the state of every tree is the pair of its states, it allows a tree exactly if both types do, and of two types without
-- fault it is one without fault.
use mathlib.Core.Path.{◌≡◌, refl, ap₂, sym, ◌∙◌}
use mathlib.Core.Bool.{false}
use mathlib.Core.Logic.{◌↔◌}
use mathlib.Core.List.{[]}
use Prim.Native.Nat.{ℕ, zero, suc, ◌+◌, ◌*◌, ◌-◌, ◌<◌, ◌≤◌}
use native.Mathlib.Nat.{mul-le-mul_right, mul-pos}
use native.Mathlib.Omega.{arith}
use native.Mathlib.Decide.{dec_lt}
use lib.Arith.{digits_lt, digits_div, digits_mod}
use lib.ListN.{length, get_or, get_or-eq_default}
use Rattle.foundation.specs.Search.{first, first_none}
use Rattle.model.specs.Trees.{Tree, empty, node}
use Rattle.model.specs.Tables.{OutputType, empty_state, next_state, mark_at}
use Rattle.model.specs.Facts.{state_of}
use Rattle.model.specs.Answers.{fine}
use Rattle.model.specs.Admission.{table_length, entry_wrong}
use Rattle.model.specs.Claims.{TypeAllows}
use Rattle.model.specs.Shorter.{SymbolsInRange}
use Rattle.model.specs.Merging.{pair_state, first_of, second_of, pair_count, pair_next, pair_entry, merged_type, type_wrong, type_places, type_verdict, FaultlessType, IsMerged}
use Rattle.model.proofs.Laws.Answers.{refuse_first_fine}
use Rattle.model.proofs.Laws.Tests.{inside, not_outside, not_eqb}
use Rattle.model.proofs.Laws.Admitted.{everywhere, good_output_entry, good_output_mark, entries_clear}
use Rattle.model.proofs.Laws.Merging.{entry_nothing, entry_over, Shaped, type_entry, no_fault, merged_states, table-long, marks-long, merged_entry, merged_mark}
use Rattle.model.proofs.Rounds.Places.{place, place_symbol, place_left, place_right, place_below}

-- an output type over S symbols, with any number of states: "total and deterministic"
pub record GoodType (S : ℕ) (Y : OutputType) : Type 0 where
  pub table_long : length Y.table ≡ table_length S Y.states
  pub marks_long : length Y.marks ≡ Y.states
  -- past the end of a table stands 0, so that these hold at every index
  pub entry : (k : ℕ) → get_or Y.table k 0 < Y.states
  pub mark : (q : ℕ) → mark_at Y.marks q ≤ 1

-- a symbol that is not one of the S has state 0
next_outside : (S : ℕ) (Y : OutputType) → length Y.table ≡ table_length S Y.states → (s l r : ℕ) → S ≤ s → next_state Y s l r ≡ 0
next_outside S Y long s l r h =
    let less : S - 1 ≤ s - 1 = omega arith in
    let one : (S - 1) * Y.states ≤ (s - 1) * Y.states + l = omega (arith, mul-le-mul_right Y.states less) in
    let two : (S - 1) * Y.states * Y.states ≤ ((s - 1) * Y.states + l) * Y.states = mul-le-mul_right Y.states one in
    get_or-eq_default Y.table 0 (omega arith)

state_below : (S : ℕ) (Y : OutputType) → GoodType S Y → (t : Tree) → state_of Y t < Y.states
state_below S Y good empty = good.entry _
state_below S Y good (node s l r) = good.entry _

-- the product of two marks
product_one : (a b : ℕ) → a ≤ 1 → b ≤ 1 → (a * b ≡ 1) ↔ ((a ≡ 1) × (b ≡ 1))
product_one zero b h k = (λ e. absurd (omega arith), λ e. absurd (omega (arith, e.0)))
product_one (suc zero) b h k = (λ e. (refl, omega arith), λ e. omega (arith, e.1))
product_one (suc (suc a)) b h k = absurd (omega arith)

product_small : (a b : ℕ) → a ≤ 1 → b ≤ 1 → a * b ≤ 1
product_small zero b h k = omega arith
product_small (suc zero) b h k = omega arith
product_small (suc (suc a)) b h k = absurd (omega arith)

module _ (S : ℕ) (Y Z : OutputType) where
  abbrev M : OutputType
  M = merged_type S Y Z

  abbrev pairs : ℕ
  pairs = pair_count Y Z

  abbrev pair : (m n : ℕ) → ℕ
  pair m n = pair_state Z.states m n

  merged_empty : empty_state M ≡ pair (empty_state Y) (empty_state Z)
  merged_empty = merged_entry S Y Z 0 (omega arith) ∙ entry_nothing Y Z 0 refl

  -- the merged table at a symbol over two pairs
  merged_inside : (s l r : ℕ) → 1 ≤ s → s < S → l < pairs → r < pairs → next_state M s l r ≡ pair_next Y Z s l r
  merged_inside s l r one inside hl hr =
      let index : 1 + ((s - 1) * pairs + l) * pairs + r ≡ suc (place pairs s l r) = omega arith in
      let below : place pairs s l r < (S - 1) * (pairs * pairs) = place_below pairs s l r hl hr S one inside in
      rw (merged_states S Y Z, index)
      (merged_entry S Y Z (suc (place pairs s l r)) (omega arith)
      ∙ entry_over Y Z _ (place pairs s l r) refl
      ∙ rw (place_symbol pairs s l r hl hr one, place_left pairs s l r hl hr, place_right pairs s l r hl hr))

  module _ (good : GoodType S Y) (other : GoodType S Z) where
    -- .. at any symbol
    merged_next : (s l r : ℕ) → 1 ≤ s → l < pairs → r < pairs → next_state M s l r ≡ pair_next Y Z s l r
    merged_next s l r one hl hr = go (dec_lt s S)
      where
        go : Dec (s < S) → next_state M s l r ≡ pair_next Y Z s l r
        go (yes inside) = merged_inside s l r one inside hl hr
        go (no out) =
            next_outside S M (rw (merged_states S Y Z) (table-long S Y Z)) s l r (omega arith)
            ∙ sym (rw (
              next_outside S Y good.table_long s (first_of Z.states l) (first_of Z.states r) (omega arith),
              next_outside S Z other.table_long s (second_of Z.states l) (second_of Z.states r) (omega arith),
            ) (omega arith))

    -- over two pairs, it is the pair of what each type gives
    merged_join : (s m n m' n' : ℕ) → 1 ≤ s → m < Y.states → n < Z.states → m' < Y.states → n' < Z.states
        → next_state M s (pair m n) (pair m' n') ≡ pair (next_state Y s m m') (next_state Z s n n')
    merged_join s m n m' n' one hm hn hm' hn' =
        merged_next s (pair m n) (pair m' n') one (digits_lt hm hn) (digits_lt hm' hn')
        ∙ rw (digits_div m hn, digits_div m' hn', digits_mod m hn, digits_mod m' hn')

    -- "state (m, n) is m × (second's O) + n": the state of every tree is the pair of its states
    pub merged_state : (t : Tree) → state_of M t ≡ state_of Y t * Z.states + state_of Z t
    merged_state empty = merged_empty
    merged_state (node s l r) = over s (merged_state l) (merged_state r)
      where
        Paired : Tree → Type 0
        Paired t = state_of M t ≡ pair (state_of Y t) (state_of Z t)

        over_positive : (s : ℕ) → 1 ≤ s → Paired l → Paired r → Paired (node s l r)
        over_positive s one e f =
            ap₂ (next_state M s) e f
            ∙ merged_join s (state_of Y l) (state_of Z l) (state_of Y r) (state_of Z r) one (state_below S Y good l) (state_below S Z other l) (state_below S Y good r) (state_below S Z other r)

        -- the tables have no entry for symbol 0 over two states, and are read there as for symbol 1
        over : (s : ℕ) → Paired l → Paired r → Paired (node s l r)
        over zero e f = over_positive 1 (omega arith) e f
        over (suc s) e f = over_positive (suc s) (omega arith) e f

    -- a pair is accepted exactly if both its states are
    merged_accepts : (m n : ℕ) → m < Y.states → n < Z.states
        → (mark_at M.marks (pair m n) ≡ 1) ↔ ((mark_at Y.marks m ≡ 1) × (mark_at Z.marks n ≡ 1))
    merged_accepts m n hm hn =
        rw (merged_mark S Y Z (pair m n) (digits_lt hm hn), digits_div m hn, digits_mod m hn) (product_one _ _ (good.mark m) (other.mark n))

    -- "one that allows a tree exactly if both do"
    pub merged_allows : (u : Tree) → TypeAllows M u ↔ (TypeAllows Y u × TypeAllows Z u)
    merged_allows u =
        rw (merged_state u) (merged_accepts (state_of Y u) (state_of Z u) (state_below S Y good u) (state_below S Z other u))

    -- and is an output type
    pub merged_good : GoodType S M
    merged_good =
        record {
          table_long = rw (merged_states S Y Z) (table-long S Y Z);
          marks_long = marks-long S Y Z ∙ sym (merged_states S Y Z);
          entry = λ k. rw (merged_states S Y Z) (entry_good k (dec_lt k (table_length S pairs)));
          mark = λ q. mark_good q (dec_lt q pairs);
        }
      where
        pair_good : (k : ℕ) → pair_entry Y Z k < pairs
        pair_good zero = rw (entry_nothing Y Z 0 refl) (digits_lt (good.entry _) (other.entry _))
        pair_good (suc c) = rw (entry_over Y Z (suc c) c refl) (digits_lt (good.entry _) (other.entry _))

        entry_good : (k : ℕ) → Dec (k < table_length S pairs) → get_or M.table k 0 < pairs
        entry_good k (yes l) = rw (merged_entry S Y Z k l) (pair_good k)
        entry_good k (no nl) =
            let y : 0 < Y.states = omega (arith, good.entry 0) in
            let z : 0 < Z.states = omega (arith, other.entry 0) in
            rw (get_or-eq_default M.table 0 {n = k} (omega (arith, table-long S Y Z))) (mul-pos y z)

        mark_good : (q : ℕ) → Dec (q < pairs) → mark_at M.marks q ≤ 1
        mark_good q (yes l) = rw (merged_mark S Y Z q l) (product_small _ _ (good.mark (first_of Z.states q)) (other.mark (second_of Z.states q)))
        mark_good q (no nl) = rw (get_or-eq_default M.marks 0 {n = q} (omega (arith, marks-long S Y Z))) (omega arith)

-- A type without fault: 51 and 52 are given exactly where there is one
module _ (S : ℕ) (Y : OutputType) where
  pub faultless_good : FaultlessType S Y → GoodType S Y
  faultless_good f =
      record {
        table_long = f.table_long;
        marks_long = f.marks_long;
        entry = everywhere Y.table (λ (q : ℕ). q < Y.states) (omega (arith, f.states)) f.entries;
        mark = everywhere Y.marks (λ (m : ℕ). m ≤ 1) (omega arith) f.marks;
      }

  good_faultless : SymbolsInRange S → Y.states ≤ 4 → GoodType S Y → FaultlessType S Y
  good_faultless symbols few good =
      record {
        symbols = symbols;
        states = (omega (arith, good.entry 0), few);
        table_long = good.table_long;
        marks_long = good.marks_long;
        entries = λ k h. good.entry k;
        marks = λ q h. good.mark q;
      }

  module _ (number : ℕ) where
    type_faultless : type_verdict number S Y ≡ fine → FaultlessType S Y
    unfolding type_verdict
    type_faultless e =
        record {
          symbols = let b = inside 1 16 S (clear 0 (omega arith)) in (b.least≤, b.≤most);
          states = let b = inside 1 4 Y.states (clear 1 (omega arith)) in (b.least≤, b.≤most);
          table_long = not_eqb _ _ (clear 2 (omega arith));
          marks_long = not_eqb _ _ (clear 3 (omega arith));
          entries = λ k h. good_output_entry Y.states [] Y.table Y.marks k h (entry_clear (0 + k) (omega arith));
          marks = λ q h. good_output_mark Y.states [] Y.table Y.marks q (entry_clear (0 + length Y.table + q) (omega arith));
        }
      where
        clear : (place : ℕ) → place < type_places Y → type_wrong S Y place ≡ false
        clear place h = refuse_first_fine number (type_wrong S Y) (type_places Y) e place h

        entry_clear : (k : ℕ) → k < length Y.table + length Y.marks → entry_wrong Y.states [] Y.table Y.marks k ≡ false
        entry_clear k h = sym (type_entry S Y k) ∙ clear (4 + k) (omega arith)

    faultless_fine : FaultlessType S Y → type_verdict number S Y ≡ fine
    faultless_fine f =
        no_fault S Y number shaped _ refl
        (omega (arith, first_none (entry_wrong Y.states [] Y.table Y.marks) (length Y.table + length Y.marks) clear))
      where
        clear : (k : ℕ) → k < length Y.table + length Y.marks → entry_wrong Y.states [] Y.table Y.marks k ≡ false
        clear k h = entries_clear Y.states [] Y.table Y.marks (λ j l. absurd (omega arith)) f.entries f.marks k (omega arith)

        shaped : Shaped S Y
        shaped =
            record {
              symbols = not_outside 1 16 S f.symbols.0 f.symbols.1;
              states = not_outside 1 4 Y.states f.states.0 f.states.1;
              table_long = f.table_long;
              marks_long = f.marks_long;
            }

    pub type_fine : (type_verdict number S Y ≡ fine) ↔ FaultlessType S Y
    type_fine = (type_faultless, faultless_fine)

-- what merging two types without fault makes, where the pairs are at most four
pub merged_means : (S : ℕ) (Y Z : OutputType) → FaultlessType S Y → FaultlessType S Z → pair_count Y Z ≤ 4 → IsMerged S Y Z (merged_type S Y Z)
merged_means S Y Z first second few =
    let good = faultless_good S Y first in
    let other = faultless_good S Z second in
    record {
      states = merged_states S Y Z;
      nothing = merged_empty S Y Z;
      over = merged_join S Y Z good other;
      accepts = merged_accepts S Y Z good other;
      pairs = merged_state S Y Z good other;
      allows = merged_allows S Y Z good other;
      faultless = good_faultless S (merged_type S Y Z) first.symbols (omega (arith, few, merged_states S Y Z)) (merged_good S Y Z good other);
    }
