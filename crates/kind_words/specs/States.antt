-- The input states that a symbol reaches over two kinds, all input rows in one pass.
use Rattle.std.specs.Prelude.{◌≡◌, refl, List, Bool, true, false, cond, eqb, get_or}
use Rattle.std.proofs.Common.{ap, ◌∙◌, add-zero, eq-eqb, ne_eqb, pow_pos}
use Rattle.std.proofs.Math.Path.{ap₂, sym}
use Prim.Native.Nat.{ℕ, ◌+◌, ◌*◌, ◌/◌, ◌^◌, ◌<◌}
use Rattle.std.proofs.Math.Decide.{ℕ_discrete}
use Rattle.std.specs.Int.Bits.{bit_and, bit_or}
use Rattle.foundation.specs.Words.{bit, word}
use Rattle.foundation.specs.Tests.{◌and◌, same, some_cong}
use Rattle.foundation.specs.TestLaws.{and_false, same_yes, same_no, same_turned}
use Rattle.foundation.specs.Bits.{word_unique, bit-and, bit_shr, bit_zero, or_to, or_to_bit, or_to_lt}
use Rattle.model.specs.Tables.{Contract, input_row, input_row_count}
use Rattle.model.specs.Kinds.{reached_next, state_in}
use Rattle.kind_words.specs.Blocks.{one_at}
use Rattle.kind_words.specs.Chains.{NextFrom, or_first, or_next}

-- an input row's word: its state's bit, if it is a row of symbol s and its child states are in a and b
unfoldable pub row_state : (rows : List ℕ) (s a b : ℕ) → ℕ → ℕ
row_state rows s a b r =
    cond (eqb (input_row rows r).symbol s)
    (bit_and (bit_and (a / 2 ^ (input_row rows r).left) (b / 2 ^ (input_row rows r).right)) 1 * 2 ^ (input_row rows r).state)
    0

-- a row of s, of state q over the child states x and y
pub row_taken : (rows : List ℕ) (s a b r q x y : ℕ) → (input_row rows r).symbol ≡ s → q ≡ (input_row rows r).state → x ≡ (input_row rows r).left
    → y ≡ (input_row rows r).right
    → bit_and (bit_and (a / 2 ^ x) (b / 2 ^ y)) 1 * 2 ^ q ≡ row_state rows s a b r
unfolding row_state
row_taken rows s a b r q x y e eq ex ey = rw (eq, ex, ey, eq-eqb (input_row rows r).symbol s e)

-- any other row
pub row_skipped : (rows : List ℕ) (s a b r : ℕ) → ((input_row rows r).symbol ≡ s → ⊥) → 0 ≡ row_state rows s a b r
unfolding row_state
row_skipped rows s a b r ne = rw (ne_eqb (input_row rows r).symbol s ne)

-- the states of the first n rows
abbrev pub row_states : (rows : List ℕ) (s a b : ℕ) → ℕ → ℕ
row_states rows s a b n = or_to (row_state rows s a b) n

-- the rows of symbol s in a chain
module _ (rows : List ℕ) (s a b : ℕ) where
  abbrev ChainNext : ℕ → ℕ → Type 0
  ChainNext r k = NextFrom (λ i. (input_row rows i).symbol) (input_row_count rows) s r k

  pub states_first : (k : ℕ) → ChainNext 0 k → 0 ≡ row_states rows s a b k
  states_first k is = or_first _ _ s (row_state rows s a b) (row_skipped rows s a b) k is

  pub states_next : (current one r k : ℕ) → current ≡ row_states rows s a b r → one ≡ row_state rows s a b r → ChainNext (r + 1) k
      → bit_or current one ≡ row_states rows s a b k
  states_next current one r k e f is = or_next _ _ s (row_state rows s a b) (row_skipped rows s a b) current one r k e f is

turned : (x y t : Bool) → ((x and y) and t) ≡ (t and (true and (x and y)))
unfolding ◌and◌
turned true true true = refl
turned true true false = refl
turned true false true = refl
turned true false false = refl
turned false y true = refl
turned false y false = refl

module _ (C : Contract) (s : ℕ) (a b : List ℕ) where
  abbrev rows : List ℕ
  rows = C.input.rows

  abbrev state : ℕ → ℕ
  state r = (input_row rows r).state

  abbrev left : ℕ → ℕ
  left r = (input_row rows r).left

  abbrev right : ℕ → ℕ
  right r = (input_row rows r).right

  abbrev symbol : ℕ → ℕ
  symbol r = (input_row rows r).symbol

  bit_low : (w i : ℕ) → bit (w / 2 ^ i) 0 ≡ bit w i
  bit_low w i = bit_shr w i 0 ∙ ap (bit w) (add-zero i)

  row_is : (r q : ℕ) → state r < C.input.states → q < C.input.states
      → (row_state rows s (get_or a 0 0) (get_or b 0 0) r < 2 ^ C.input.states)
      × (bit (row_state rows s (get_or a 0 0) (get_or b 0 0) r) q ≡ (same (state r) q and same (symbol r) s and state_in C a (left r) and state_in C b (right r)))
  unfolding row_state state_in ◌and◌
  row_is r q h hq = go (ℕ_discrete (symbol r) s)
    where
      go : Dec (symbol r ≡ s)
          → (row_state rows s (get_or a 0 0) (get_or b 0 0) r < 2 ^ C.input.states)
          × (bit (row_state rows s (get_or a 0 0) (get_or b 0 0) r) q ≡ (same (state r) q and same (symbol r) s and state_in C a (left r) and state_in C b (right r)))
      go (yes e) =
          let x : ℕ = bit_and (get_or a 0 0 / 2 ^ left r) (get_or b 0 0 / 2 ^ right r) in
          let one = one_at x (state r) C.input.states h in
          let both : bit x 0 ≡ (bit (get_or a 0 0) (left r) and bit (get_or b 0 0) (right r)) =
          bit-and (get_or a 0 0 / 2 ^ left r) (get_or b 0 0 / 2 ^ right r) 0 ∙ ap₂ ◌and◌ (bit_low (get_or a 0 0) (left r)) (bit_low (get_or b 0 0) (right r)) in
          rw (eq-eqb (symbol r) s e, same_yes (symbol r) s e)
          (one.0, one.1 q hq ∙ ap₂ ◌and◌ both (same_turned q (state r)) ∙ turned (bit (get_or a 0 0) (left r)) (bit (get_or b 0 0) (right r)) (same (state r) q))
      go (no ne) =
          rw (ne_eqb (symbol r) s ne, same_no (symbol r) s ne) (pow_pos C.input.states, bit_zero q ∙ sym (and_false (same (state r) q)))

  -- all rows give the states that the definition gives
  pub states_are : ((r : ℕ) → r < input_row_count rows → state r < C.input.states)
      → row_states rows s (get_or a 0 0) (get_or b 0 0) (input_row_count rows) ≡ word C.input.states (reached_next C.input s (state_in C a) (state_in C b))
  unfolding reached_next
  states_are h =
      word_unique C.input.states _ _ (or_to_lt C.input.states _ _ (λ r hr. (row_is r (state r) (h r hr) (h r hr)).0))
      (λ q hq. or_to_bit _ _ q ∙ some_cong _ _ _ (λ r hr. (row_is r q (h r hr) hq).1))
