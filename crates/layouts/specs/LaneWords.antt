-- The words of a layout: the first bit of each lane, and for each assignment the state of a parameter, which is a digit of
-- the assignment's number.
use Rattle.std.specs.Prelude.{◌≡◌, refl, List, Bool, true, false, eqb, length, get_or}
use Rattle.std.proofs.Math.Path.{ap}
use Rattle.std.proofs.Common.{sym, ◌∙◌, add-zero, mod-lt, mod-eq_of_lt, div-lt_iff_lt-mul}
use Prim.Native.Nat.{ℕ, zero, suc, ◌+◌, ◌*◌, ◌-◌, ◌/◌, ◌%◌, ◌^◌, ◌<◌, ◌≤◌, max}
use Rattle.std.proofs.Math.Nat.{pow-zero, one-le-pow}
use native.Mathlib.Omega.{arith}
use Rattle.std.proofs.Math.Decide.{ℕ_discrete, dec_lt}
use Rattle.std.proofs.Math.Pow.{pow-lt}
use Rattle.foundation.specs.Words.{bit}
use Rattle.foundation.specs.Tests.{choose, ◌and◌, same, below, some_cong}
use Rattle.foundation.specs.TestLaws.{some_same, same_yes, same_no, below_yes, true_and}
use Rattle.foundation.specs.Bits.{bit_shl, bit_shl_low, bit_high, or_to}
use Rattle.model.specs.Tables.{count_of}
use Rattle.model.specs.Facts.{digits}
use Rattle.model.proofs.Laws.Facts.{length_digits}
use Rattle.kind_words.specs.Lanes.{Lanes, lanes_eq, lanes_or, lane_at, Starts, Sized}
use Rattle.kind_words.specs.Kind.{lanes_fit}
use Rattle.kind_words.specs.Fits.{LayoutFits}
use Rattle.kind_words.specs.Called.{pow_one, pow_two}
use Rattle.kind_words.specs.Nodes.{ParameterIs, LanesAre}
use Rattle.std.proofs.Math.ListN.{get_or-eq_default}

abbrev pub starts_word : (o l : ℕ) → ℕ
starts_word o l = or_to (λ q. 1 * 2 ^ (q * l)) o

abbrev pub parameter_word : (o l weight : ℕ) → ℕ
parameter_word o l weight = or_to (λ c. 1 * 2 ^ c * 2 ^ (c / weight % o * l)) l

-- the greatest parameter count
pub record Greatest (counts : List ℕ) (greatest : ℕ) : Type 0 where
  pub most : greatest ≤ 2
  pub bound : (p : ℕ) → count_of counts p ≤ greatest

-- the first of two digits weighs as much as there are states
abbrev pub first_weight : (o greatest : ℕ) → ℕ
first_weight o greatest = choose (eqb greatest 2) o 1

and_turned : (a b : Bool) → (a and b) ≡ (b and a)
unfolding ◌and◌
and_turned true true = refl
and_turned true false = refl
and_turned false true = refl
and_turned false false = refl

one_low : bit 1 0 ≡ true
unfolding bit
one_low = refl

one_high : (i : ℕ) → 0 < i → bit 1 i ≡ false
one_high i h = bit_high 1 1 i (omega arith) (omega arith)

-- the bits of a power of two
bit_power : (y c : ℕ) → bit (1 * 2 ^ y) c ≡ same c y
bit_power y c = go (ℕ_discrete c y) (dec_lt c y)
  where
    go : Dec (c ≡ y) → Dec (c < y) → bit (1 * 2 ^ y) c ≡ same c y
    go (yes e) d = rw (same_yes c y e) (rw e (ap (bit (1 * 2 ^ y)) (sym (add-zero y)) ∙ bit_shl 1 y 0 ∙ one_low))
    go (no ne) (yes l) = rw (same_no c y ne) (bit_shl_low 1 y c l)
    go (no ne) (no nl) =
        let e : c ≡ y + (c - y) = omega arith in
        rw (same_no c y ne) (ap (bit (1 * 2 ^ y)) e ∙ bit_shl 1 y (c - y) ∙ one_high (c - y) (omega arith))

module _ (o l : ℕ) where
  starts_lanes : 0 < l → Lanes o l (starts_word o l) (λ q c. bit 1 c)
  starts_lanes some =
      lanes_eq o l
      (lanes_or o l (λ q. 1 * 2 ^ (q * l)) (λ y q c. bit 1 c and same q y) o (λ y hy. lane_at o l 1 y (one_small some) hy))
      (λ q c hq hc. some_same o q (λ y. bit 1 c) hq)
    where
      one_small : 0 < l → 1 < 2 ^ l
      one_small h = let p : 2 ^ 0 < 2 ^ l = pow-lt {i = 0} {j = l} h in omega (arith, pow-zero 2)

  pub starts_are : 0 < l → Starts o l (starts_word o l)
  starts_are some =
      let h = starts_lanes some in
      record {
        small = h.small;
        first = λ q hq. ap (bit (starts_word o l)) (sym (add-zero (q * l))) ∙ h.bits q 0 hq some ∙ one_low;
        other = λ q c hq hp hc. h.bits q c hq hc ∙ one_high c hp;
      }

  parameter_lanes : (weight : ℕ) → 0 < o → Lanes o l (parameter_word o l weight) (λ q c. same q (c / weight % o))
  parameter_lanes weight some =
      lanes_eq o l
      (lanes_or o l (λ c. 1 * 2 ^ c * 2 ^ (c / weight % o * l)) (λ y q c. bit (1 * 2 ^ y) c and same q (y / weight % o)) l
      (λ y hy. lane_at o l (1 * 2 ^ y) (y / weight % o) (power_small y hy) (mod-lt (y / weight) some)))
      (λ q c hq hc.
      some_cong l _ (λ y. same q (y / weight % o) and same c y)
      (λ y hy. ap (λ (b : Bool). b and same q (y / weight % o)) (bit_power y c) ∙ and_turned (same c y) (same q (y / weight % o)))
      ∙ some_same l c (λ y. same q (y / weight % o)) hc)
    where
      power_small : (y : ℕ) → y < l → 1 * 2 ^ y < 2 ^ l
      power_small y h = omega (arith, pow-lt {i = y} {j = l} h)

-- the digits of an assignment's number
module _ (o c : ℕ) where
  only_digit : c < o ^ 1 → get_or (digits o 1 c) 0 0 ≡ c / 1 % o
  unfolding digits
  only_digit h = let h' : c < o = rw (pow_one o) at h in rw (pow-zero o) (sym (mod-eq_of_lt (omega arith)))

  first_digit : c < o ^ 2 → get_or (digits o 2 c) 0 0 ≡ c / o % o
  unfolding digits
  first_digit h =
      let h' : c < o * o = rw (pow_two o) at h in
      rw (pow_one o) (sym (mod-eq_of_lt ((div-lt_iff_lt-mul {k = o} {x = c} {y = o} (positive o h')).1 h')))
    where
      positive : (n : ℕ) → c < n * n → 0 < n
      positive zero k = absurd (omega arith)
      positive (suc n) k = omega arith

  second_digit : get_or (digits o 2 c) 1 0 ≡ c / 1 % o
  unfolding digits
  second_digit =
      let a : c % o / 1 ≡ c % o = omega arith in
      let b : c / 1 ≡ c = omega arith in
      rw (pow-zero o, pow_one o) (a ∙ ap (λ (x : ℕ). x % o) (sym b))

module _ (o : ℕ) (some : 0 < o) where
  parameter_is : (k i weight : ℕ) → i < k → ((c : ℕ) → c < o ^ k → get_or (digits o k c) i 0 ≡ c / weight % o) → ParameterIs o k i (parameter_word o (o ^ k) weight)
  parameter_is k i weight hi digit =
      lanes_eq o (o ^ k) (parameter_lanes o (o ^ k) weight some)
      (λ q c hq hc. sym (true_and (below i (length (digits o k c))) _ (below_yes i _ (rw (length_digits o k c) hi)) ∙ ap (λ (x : ℕ). same q x) (digit c hc)))

  first-is : (k : ℕ) → 1 ≤ k → k ≤ 2 → ParameterIs o k 0 (parameter_word o (o ^ k) (first_weight o k))
  first-is zero l m = absurd (omega arith)
  first-is (suc zero) l m = parameter_is 1 0 1 (omega arith) (λ c h. only_digit o c h)
  first-is (suc (suc zero)) l m = parameter_is 2 0 o (omega arith) (λ c h. first_digit o c h)
  first-is (suc (suc (suc k))) l m = absurd (omega arith)

  second_is : (k : ℕ) → 2 ≤ k → k ≤ 2 → ParameterIs o k 1 (parameter_word o (o ^ k) 1)
  second_is zero l m = absurd (omega arith)
  second_is (suc zero) l m = absurd (omega arith)
  second_is (suc (suc zero)) l m = parameter_is 2 1 1 (omega arith) (λ c h. second_digit o c)
  second_is (suc (suc (suc k))) l m = absurd (omega arith)

  -- the words of a layout of lanes for k parameters
  pub lanes_are : (k ones starts first second width : ℕ) → k ≤ 2 → width ≡ o ^ k → ones ≡ 2 ^ width - 1 → starts ≡ starts_word o width
      → first ≡ parameter_word o width (first_weight o k)
      → second ≡ parameter_word o width 1
      → LanesAre o k ones starts first second
  lanes_are k ones starts first second width m ew eo es e1 e2 =
      record {
        lane = rw ew at eo;
        firsts = rw (es, ew) (starts_are o (o ^ k) (one-le-pow k o some));
        first_is = λ l. rw (e1, ew) (first-is k l m);
        second_is = λ l. rw (e2, ew) (second_is k l m);
      }

-- one count more
pub bound_more : (counts : List ℕ) (p greatest larger : ℕ) → ((i : ℕ) → i < p → count_of counts i ≤ greatest) → larger ≡ max greatest (count_of counts p)
    → (i : ℕ) → i < p + 1 → count_of counts i ≤ larger
bound_more counts p greatest larger h e i l = go (ℕ_discrete i p)
  where
    go : Dec (i ≡ p) → count_of counts i ≤ larger
    go (yes q) = rw q (omega arith)
    go (no ne) = omega (arith, h i (omega arith))

-- past the end stands 0
pub bound_all : (counts : List ℕ) (greatest : ℕ) → ((i : ℕ) → i < length counts → count_of counts i ≤ greatest) → (i : ℕ) → count_of counts i ≤ greatest
bound_all counts greatest h i = go (dec_lt i (length counts))
  where
    go : Dec (i < length counts) → count_of counts i ≤ greatest
    go (yes l) = h i l
    go (no l) = let past : length counts ≤ i = omega arith in omega (arith, get_or-eq_default counts 0 past)

pub weight_some : (o greatest : ℕ) → 0 < o → 0 < first_weight o greatest
weight_some o greatest h = go (eqb greatest 2)
  where
    go : (b : Bool) → 0 < choose b o 1
    go true = h
    go false = omega arith

-- lanes of a bit for each assignment of so many parameters
pub sized_for : (o k width : ℕ) → 1 ≤ o → o ≤ 4 → k ≤ 2 → width ≡ o ^ k → Sized o width
sized_for o k width some few m e = rw e (record { some = one-le-pow k o some; fit = lanes_fit o k some few m })

-- at most four states and two parameters, the words of a layout fit
pub layout_fits : (o k width ones starts first second : ℕ) → 1 ≤ o → o ≤ 4 → k ≤ 2 → width ≡ o ^ k → ones ≡ 2 ^ width - 1 → starts ≡ starts_word o width
    → LayoutFits (record { states = o; width = width; ones = ones; starts = starts; first = first; second = second })
layout_fits o k width ones starts first second some few m ew eo es =
    let sized = sized_for o k width some few m ew in
    record { laid = record { sized = sized; lane = eo; firsts = rw es (starts_are o width sized.some) }; some = some; few = few }
