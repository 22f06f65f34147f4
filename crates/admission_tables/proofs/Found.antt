-- What a search tells of the table that it goes through: the entry found is refused, at the lowest place; where none is found, all are fine.
use Rattle.std.proofs.Common.{◌≡◌, refl, ℕ, ◌<◌, ◌≤◌, Bool, true, false, Some, None, arith}
use Rattle.std.specs.Prelude.{cond, ltb}
use borrow.Author.Tests.{ltb-true, ltb-false}
use Rattle.foundation.specs.Search.{first, first_below}
use Rattle.model.specs.Answers.{fine, refused, refuse_first}
use Rattle.model.proofs.Laws.Answers.{refuse_first_at, refuse_first_none}

module _ (p : ℕ → Bool) (n : ℕ) where
  -- a number that a search finds is one of those searched, and the first that passes
  pub record Found (k : ℕ) : Type 0 where
    pub inside : k < n
    pub is_first : k ≡ first p n

  pub found_at : (k : ℕ) → Some k ≡ first_below p n → Found k
  found_at k e = go (ltb (first p n) n) refl e
    where
      go : (b : Bool) → ltb (first p n) n ≡ b → Some k ≡ cond b (Some (first p n)) None → Found k
      go true t e = let same : k ≡ first p n = cc in record { inside = omega (arith, ltb-true (first p n) n t); is_first = same }
      go false t e = cc

  pub found_inside : (k : ℕ) → Some k ≡ first_below p n → k < n
  found_inside k e = (found_at k e).inside

  pub found_refused : (number k : ℕ) → Some k ≡ first_below p n → refuse_first number p n ≡ refused number k
  found_refused number k e = let a = found_at k e in refuse_first_at number p n k a.is_first a.inside

  -- a search that finds none ends behind the last
  pub none_found : None ≡ first_below p n → n ≤ first p n
  none_found e = go (ltb (first p n) n) refl e
    where
      go : (b : Bool) → ltb (first p n) n ≡ b → None ≡ cond b (Some (first p n)) None → n ≤ first p n
      go true t e = cc
      go false t e = ltb-false (first p n) n t

  pub none_fine : (number : ℕ) → None ≡ first_below p n → refuse_first number p n ≡ fine
  none_fine number e = refuse_first_none number p n (first p n) refl (none_found e)
