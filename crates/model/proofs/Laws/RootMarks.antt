-- Laws of the two marks in word 0 of a kind: what is marked is read back, and the bits of the input states stand beside it.
use mathlib.Core.Path.{◌≡◌, refl, ap₂, ◌∙◌}
use mathlib.Core.Bool.{Bool, true, false}
use mathlib.Core.List.{List}
use Prim.Native.Nat.{ℕ, ◌+◌, ◌*◌, ◌^◌, ◌<◌, ◌≤◌}
use native.Mathlib.Nat.{lt_of_lt_of_le}
use native.Mathlib.Omega.{arith}
use lib.ListN.{take}
use lib.Pow.{pow_mono}
use lib.Seq.{get_or-take}
use Rattle.foundation.specs.Words.{bit, word, one_if, topped_lt, word_lt}
use Rattle.foundation.specs.Bits.{bit_below, bit_above, bit_high}
use Rattle.model.specs.Kinds.{RootMarks, root_bit, empty_bit, with_marks, marks_in}

-- the one bit of a mark
mark_bit : (b : Bool) → bit (one_if b) 0 ≡ b
unfolding bit
mark_bit true = refl
mark_bit false = refl

pub same_marks : {marks marks' : RootMarks} → marks.one_root ≡ marks'.one_root → marks.is_empty ≡ marks'.is_empty → marks ≡ marks'
same_marks e f = ap₂ (λ (one none : Bool). record { one_root = one; is_empty = none }) e f

-- the marks of a kind stand in its first five words
pub marks_five : (kind : List ℕ) → marks_in kind ≡ marks_in (take 5 kind)
unfolding marks_in
marks_five kind = rw (get_or-take 5 kind 0 0 (omega arith))

-- at most 32 input states leave the bits of the marks free
pub states_below_marks : (states : ℕ) (reaches : ℕ → Bool) → states ≤ 32 → word states reaches < 2 ^ root_bit
states_below_marks states reaches few = lt_of_lt_of_le (word_lt states reaches) (pow_mono few)

-- the bits of at most 32 input states, with the marks
module _ (marks : RootMarks) (states : ℕ) (few : states < 2 ^ root_bit) where
  -- with the first mark alone
  abbrev rooted : ℕ
  rooted = states + one_if marks.one_root * 2 ^ root_bit

  rooted_lt : rooted < 2 ^ empty_bit
  rooted_lt = topped_lt root_bit states marks.one_root few

  pub with_marks_lt : with_marks marks states < 2 ^ 34
  unfolding with_marks
  with_marks_lt = topped_lt empty_bit rooted marks.is_empty rooted_lt

  -- the states keep their bits
  pub state_beside_marks : (q : ℕ) → q < root_bit → bit (with_marks marks states) q ≡ bit states q
  unfolding with_marks
  state_beside_marks q h =
      bit_below empty_bit q rooted (one_if marks.is_empty) (omega arith) ∙ bit_below root_bit q states (one_if marks.one_root) h

  -- "bit 32 set if the tree has one root"
  pub root-bit : bit (with_marks marks states) root_bit ≡ marks.one_root
  unfolding with_marks
  root-bit =
      bit_below empty_bit root_bit rooted (one_if marks.is_empty) (omega arith)
      ∙ bit_above root_bit 0 states (one_if marks.one_root) few
      ∙ mark_bit marks.one_root

  -- "bit 33 if it is empty"
  pub empty-bit : bit (with_marks marks states) empty_bit ≡ marks.is_empty
  unfolding with_marks
  empty-bit = bit_above empty_bit 0 rooted (one_if marks.is_empty) rooted_lt ∙ mark_bit marks.is_empty

  -- and no bit stands above
  pub no_bit_above_marks : (q : ℕ) → 34 ≤ q → bit (with_marks marks states) q ≡ false
  no_bit_above_marks q h = bit_high (with_marks marks states) 34 q with_marks_lt h
