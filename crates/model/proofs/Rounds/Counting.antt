-- Counting: distinct things that all stand in a list are no more than the list is long.
use mathlib.Core.Path.{◌≡◌, refl, sym, ◌∙◌}
use mathlib.Core.List.{List}
use mathlib.Core.Bool.{Bool, true, false}
use Prim.Native.Nat.{ℕ, zero, suc, ◌<◌, ◌≤◌}
use native.Mathlib.Omega.{arith}
use native.Mathlib.Decide.{dec_lt}
use borrow.Author.Tests.{eqb-true, eqb-false}
use lib.Dec.{eqb}
use lib.ListN.{length, get_or}
use Rattle.foundation.specs.Tests.{choose}
use Rattle.model.specs.Meaning.{AllDiffer, Among}

-- numbers below n, one for each of the first m, no two the same
record Injection (m n : ℕ) (image : ℕ → ℕ) : Type 0 where
  below : (i : ℕ) → i < m → image i < n
  differ : (i j : ℕ) → i < j → j < m → image i ≡ image j → ⊥

-- the last image takes the place of n, where that is an image
lowered : (m n : ℕ) (f : ℕ → ℕ) → Injection (suc m) (suc n) f → Injection m n (λ i. choose (eqb (f i) n) (f m) (f i))
lowered m n f inj =
    record {
      below = λ i l. below_n i l (eqb (f i) n) refl;
      differ = λ i j less k e. apart i j less k (eqb (f i) n) refl (eqb (f j) n) refl e;
    }
  where
    below_n : (i : ℕ) → i < m → (b : Bool) → eqb (f i) n ≡ b → choose b (f m) (f i) < n
    below_n i l true e =
        let top : f i ≡ n = eqb-true (f i) n e in
        let other : f i ≡ f m → ⊥ = inj.differ i m l (omega arith) in
        omega (arith, inj.below m (omega arith))
    below_n i l false e = omega (arith, eqb-false (f i) n e, inj.below i (omega arith))

    apart : (i j : ℕ) → i < j → j < m → (b : Bool) → eqb (f i) n ≡ b → (c : Bool) → eqb (f j) n ≡ c → choose b (f m) (f i) ≡ choose c (f m) (f j) → ⊥
    apart i j less k true e true q same = inj.differ i j less (omega arith) (eqb-true (f i) n e ∙ sym (eqb-true (f j) n q))
    apart i j less k true e false q same = inj.differ j m k (omega arith) (sym same)
    apart i j less k false e true q same = inj.differ i m (omega arith) (omega arith) same
    apart i j less k false e false q same = inj.differ i j less (omega arith) same

no_more : (n m : ℕ) (f : ℕ → ℕ) → Injection m n f → m ≤ n
no_more n zero f inj = omega arith
no_more zero (suc m) f inj = absurd (omega (arith, inj.below 0 (omega arith)))
no_more (suc n) (suc m) f inj = omega (arith, no_more n m (λ i. choose (eqb (f i) n) (f m) (f i)) (lowered m n f inj))

-- the entries of a list, read with a default that no law depends on
module _ {A : Type 0} (default : A) where
  pub distinct_no_more : (some all : List A) → AllDiffer default some → ((i : ℕ) → i < length some → Among default all (get_or some i default)) → length some ≤ length all
  distinct_no_more some all apart among = no_more (length all) (length some) image (record { below = image_below; differ = image_differ })
    where
      at : (i : ℕ) → Dec (i < length some) → ℕ
      at i (yes l) = (among i l).index
      at i (no nl) = 0

      image : ℕ → ℕ
      image i = at i (dec_lt i (length some))

      at_below : (i : ℕ) (d : Dec (i < length some)) → i < length some → at i d < length all
      at_below i (yes l) h = (among i l).inside
      at_below i (no nl) h = absurd (nl h)

      image_below : (i : ℕ) → i < length some → image i < length all
      image_below i l = at_below i (dec_lt i (length some)) l

      at_differ : (i j : ℕ) → i < j → j < length some → (d : Dec (i < length some)) (e : Dec (j < length some)) → at i d ≡ at j e → ⊥
      at_differ i j less h (yes l) (yes k) q =
          apart.differ i j less h (sym (among i l).found ∙ rw q (among j k).found)
      at_differ i j less h (no nl) e q = nl (omega arith)
      at_differ i j less h (yes l) (no nk) q = nk h

      image_differ : (i j : ℕ) → i < j → j < length some → image i ≡ image j → ⊥
      image_differ i j less h q = at_differ i j less h (dec_lt i (length some)) (dec_lt j (length some)) q
