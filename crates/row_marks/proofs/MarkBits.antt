-- Marks of a row: one more symbol.
use mathlib.Core.Path.{◌≡◌, refl, ap, sym, subst, ◌∙◌}
use mathlib.Core.Bool.{Bool, true, false, ◌&&◌}
use Prim.Native.Nat.{ℕ, ◌+◌, ◌*◌, ◌^◌, ◌≤◌, ◌<◌}
use native.Mathlib.Nat.{add-zero}
use native.Mathlib.Omega.{arith}
use native.Mathlib.Decide.{ℕ_discrete}
use lib.Bits.{bit_or}
use Rattle.foundation.specs.Tests.{choose, ◌or◌, or_left, or_right, test_false, false_test}
use Rattle.foundation.specs.Words.{bit}
use Rattle.foundation.specs.Bits.{bit-or, bit_shl, bit_ones}
use mathlib.Core.List.{List}
use lib.ListN.{length, get_or, set, length-set}
use lib.Pow.{pow-lt}
use lib.Seq.{get_or-set_same, get_or-set_other}
use Rattle.kind_slots.specs.Stored.{padded_kind, same_words}
use Rattle.row_marks.specs.Marks.{shown, SomeEarlier, MarksOf, MarkedFrom}

-- the bit of a power
top_bit : (k : ℕ) → bit (2 ^ k) k ≡ true
top_bit k =
    let one : bit 1 0 ≡ true = bit_ones 1 0 (omega arith) in
    let e : 1 * 2 ^ k ≡ 2 ^ k = omega arith in
    rw (add-zero, e) at (bit_shl 1 k 0 ∙ one)

or_falses : (a b : Bool) → (a or b) ≡ false → (a ≡ false) × (b ≡ false)
or_falses a b e = (test_false a (λ t. false_test _ e (or_left a b t)), test_false b (λ t. false_test _ e (or_right a b t)))

-- one more symbol
pub marks_more : (P : ℕ → Type 0) (m x k n : ℕ) (t : Bool) → n ≡ k → x ≡ choose t (2 ^ n) 0 → (t ≡ false → P k)
    → ((s : ℕ) → 1 ≤ s → s < k → bit m s ≡ false → P s)
    → (s : ℕ) → 1 ≤ s → s < k + 1 → bit (bit_or m x) s ≡ false → P s
marks_more P m x k n t en e last before s h1 hs unmarked = go (ℕ_discrete s k)
  where
    both : (bit m s ≡ false) × (bit x s ≡ false)
    both = or_falses (bit m s) (bit x s) (sym (bit-or m x s) ∙ unmarked)

    at_last : (b : Bool) → t ≡ b → s ≡ k → P k
    at_last false q f = last q
    at_last true q f =
        let v : x ≡ 2 ^ k = e ∙ rw (q, en) in
        let one : bit x k ≡ true = ap (λ (w : ℕ). bit w k) v ∙ top_bit k in
        let no : true ≡ false = sym one ∙ subst (λ (i : ℕ). bit x i ≡ false) f both.1 in cc

    go : Dec (s ≡ k) → P s
    go (yes f) = subst P (sym f) (at_last t refl f)
    go (no ne) = before s h1 (omega arith) both.0

pub and_hit : {t m r a : Bool} → m ≡ t → m ≡ true → r ≡ a → r ≡ (t && a)
and_hit {t} {m} e h q = let f : t ≡ true = sym e ∙ h in rw f q

pub and_miss : {t m : Bool} (a : Bool) → m ≡ t → m ≡ false → false ≡ (t && a)
and_miss {t} {m} a e h = let f : t ≡ false = sym e ∙ h in rw f

second : (a b : Bool) → (a && b) ≡ true → b ≡ true
second true b e = e
second false b e = absurd (let z : ◌≡◌ {A = ℕ} 0 1 = cc in omega arith)

-- a row of the class
pub earlier_row : (words kind mask seen : List ℕ) (i j : ℕ) (marked : Bool)
    → kind ≡ padded_kind words j → seen ≡ shown mask kind → i < j
    → {test : Bool} → test ≡ (marked && same_words (shown mask (padded_kind words i)) seen) → test ≡ true → SomeEarlier words mask j
earlier_row words kind mask seen i j marked ek es l e t = (i, l, rw (es, ek) at (second marked _ (sym e ∙ t)))

pub true_not_false : {X : Type 0} → true ≡ false → X
true_not_false e = absurd (let z : ◌≡◌ {A = ℕ} 0 1 = cc in omega arith)

pub power_fits : (s : ℕ) → s < 16 → 1 * 2 ^ s < 2 ^ 16
power_fits s h = let l : 2 ^ s < 2 ^ 16 = pow-lt {i = s} {j = 16} h in omega arith

pub bit_set : (s r : ℕ) (test : Bool) → test ≡ true → r ≡ 1 * 2 ^ s → r ≡ choose test (2 ^ s) 0
bit_set s r test e h = rw e (omega arith)

-- one more row
pub none_marked : (words masks : List ℕ) (symbols before : ℕ) (firsts : List ℕ) → length firsts ≡ 512 → MarkedFrom words masks symbols before before firsts firsts
none_marked words masks symbols before firsts long = record { long = long; kept = λ j l. refl; marks = λ j a l. absurd (omega arith) }

pub marked_more : (words masks : List ℕ) (symbols before j : ℕ) (firsts₀ firsts : List ℕ) (w : ℕ) → MarkedFrom words masks symbols before j firsts₀ firsts
    → before ≤ j → j < 512 → MarksOf words masks symbols j w → MarkedFrom words masks symbols before (j + 1) firsts₀ (set firsts j w)
marked_more words masks symbols before j firsts₀ firsts w m h l this =
    let long = m.long in
    record {
      long = length-set firsts j w ∙ long;
      kept = λ k lk. get_or-set_other firsts j k w 0 (λ e. omega arith) ∙ m.kept k lk;
      marks = λ k a lk. go k a lk (ℕ_discrete k j);
    }
  where
    go : (k : ℕ) → before ≤ k → k < j + 1 → Dec (k ≡ j) → MarksOf words masks symbols k (get_or (set firsts j w) k 0)
    go k a lk (yes e) =
        let long = m.long in
        rw e (rw (get_or-set_same firsts j w 0 (omega arith)) this)
    go k a lk (no ne) = rw (get_or-set_other firsts j k w 0 ne) (m.marks k a (omega arith))

pub all_marked : (words masks : List ℕ) (symbols before j stood : ℕ) (firsts₀ firsts : List ℕ) → stood ≤ j → MarkedFrom words masks symbols before j firsts₀ firsts
    → MarkedFrom words masks symbols before stood firsts₀ firsts
all_marked words masks symbols before j stood firsts₀ firsts h m = record { long = m.long; kept = m.kept; marks = λ k a l. m.marks k a (omega arith) }

-- one more row without a mark
pub passed_more : (p : ℕ → Bool) (from i : ℕ) → ((k : ℕ) → from ≤ k → k < i → p k ≡ false) → p i ≡ false → (k : ℕ) → from ≤ k → k < i + 1 → p k ≡ false
passed_more p from i none e k a l = go (ℕ_discrete k i)
  where
    go : Dec (k ≡ i) → p k ≡ false
    go (yes q) = rw q e
    go (no ne) = none k a (omega arith)
