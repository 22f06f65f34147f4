-- Reading number by number: what is read of all the numbers is what is read of those from the place reached on.
use mathlib.Core.Path.{◌≡◌, refl, ap, sym, ◌∙◌}
use mathlib.Core.Bool.{Bool, true, false}
use mathlib.Core.List.{List, ◌∷◌}
use Prim.Native.Nat.{ℕ, suc, ◌+◌, ◌-◌, ◌≤◌, ◌<◌}
use native.Mathlib.Numerals.{add-one}
use native.Mathlib.Omega.{arith}
use lib.Dec.{eqb}
use lib.ListN.{length, get_or, drop, drop_of_length-le}
use lib.Seq.{drop-cons}
use Rattle.foundation.specs.Tests.{choose}
use Rattle.model.specs.Documents.{ends, faulty, leading_from, leading}
use Rattle.model.proofs.Laws.Documents.{leading_done, leading_short, leading_fault, due_after, leading_step}

-- from the place `at` on, `due` trees are to come
abbrev pub Reached : ℕ → List ℕ → ℕ → ℕ → Type 0
Reached S xs due at = leading S xs ≡ leading_from S due at (drop at xs)

pub reached_start : (S : ℕ) (xs : List ℕ) → Reached S xs 1 0
unfolding leading
reached_start S xs = refl

pub reached_end : (S : ℕ) (xs : List ℕ) (due at : ℕ) → Reached S xs due at → due ≤ 0 → ends at ≡ leading S xs
reached_end S xs due at so h =
    let e : due ≡ 0 = omega arith in
    sym (so ∙ ap (λ (n : ℕ). leading_from S n at (drop at xs)) e ∙ leading_done S at (drop at xs))

module _ (S : ℕ) (xs : List ℕ) (due at : ℕ) (so : Reached S xs due at) (more : 1 ≤ due) where
  pub reached_short : at ≡ length xs → faulty (length xs) ≡ leading S xs
  reached_short e =
      let h : length xs ≤ at = omega arith in
      rw (← e) (sym (so ∙ ap (λ (ys : List ℕ). leading_from S due at ys) (drop_of_length-le xs h) ∙ leading_short S at due more))

  module _ (here : at < length xs) where
    next : leading S xs ≡ leading_from S due at (get_or xs at 0 ∷ drop (suc at) xs)
    next = so ∙ ap (λ (ys : List ℕ). leading_from S due at ys) (drop-cons xs at 0 here)

    pub reached_fault : S ≤ get_or xs at 0 → faulty at ≡ leading S xs
    reached_fault h = sym (next ∙ leading_fault S at due more (get_or xs at 0) (drop (suc at) xs) h)

    pub reached-next : get_or xs at 0 < S → Reached S xs (due_after due (get_or xs at 0)) (at + 1)
    reached-next h = rw (add-one at) (next ∙ leading_step S at due more (get_or xs at 0) (drop (suc at) xs) h)

-- a number makes at most one tree more due
pub due_bound : (x due : ℕ) → due_after due x ≤ due + 1
due_bound x due = go (eqb x 0)
  where
    go : (b : Bool) → choose b (due - 1) (due + 1) ≤ due + 1
    go true = omega arith
    go false = omega arith
