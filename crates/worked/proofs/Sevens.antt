-- Sevens: the front of a buffer of sevens.
use mathlib.Core.Path.{◌≡◌, refl, ap, sym, ◌∙◌}
use mathlib.Core.List.{List, ◌∷◌}
use Prim.Native.Nat.{ℕ, zero, suc, ◌≤◌}
use native.Mathlib.Omega.{arith}
use lib.ListN.{length, take, length-replicate}
use Rattle.worked_table.specs.Questions.{lent}

take_sevens : (n m : ℕ) → n ≤ m → take n (lent m) ≡ lent n
take_sevens zero m h = refl
take_sevens (suc n) zero h = absurd (omega arith)
take_sevens (suc n) (suc m) h = ap (λ (l : List ℕ). 7 ∷ l) (take_sevens n m (omega arith))

module _ (n m : ℕ) {buffer : List ℕ} (h : n ≤ m) (e : buffer ≡ lent m) where
  pub sevens : take n buffer ≡ lent n
  sevens = ap (take n) e ∙ take_sevens n m h

  pub sevens_length : n ≡ length (take n buffer)
  sevens_length = sym (ap length sevens ∙ length-replicate {A = ℕ} n 7)
