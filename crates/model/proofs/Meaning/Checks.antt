-- A check as it is called, with a limit and lent buffers, and what its answer means.
use mathlib.Core.Path.{◌≡◌}
use mathlib.Core.List.{List}
use mathlib.Core.Logic.{◌↔◌}
use Prim.Native.Nat.{ℕ}
use native.Mathlib.Omega.{arith}
use lib.Dec.{T}
use Rattle.model.specs.Trees.{Tree}
use Rattle.model.specs.Tables.{Contract}
use Rattle.model.specs.Kinds.{kind_of, breaks}
use Rattle.model.specs.Checking.{check}
use Rattle.model.specs.Claims.{Breaks, Admitted}
use Rattle.model.specs.Meaning.{TreeOf, Lent, check_of, OneOfThree, is_pass, is_tree, is_stop, AmongFirst, CheckMeans, LargerLimitStop}
use Rattle.model.proofs.Laws.Admitted.{established}
use Rattle.model.proofs.Rounds.Stopping.{checking_check}
use Rattle.model.proofs.Meaning.Kinds.{breaks-exactly}
use Rattle.model.proofs.Meaning.Answers.{Meaning, a_pass, a_tree, a_stop, check_means, pass-exactly, tree_row_exactly, tree_means, pass_closes, stop_closes}
use Rattle.model.proofs.Meaning.Stops.{stop_means, stop-tells}

-- a check of an admitted contract
pub check-of : (C : Contract) → Admitted C → (lent : Lent) → check_of C lent ≡ check C lent.limit
check-of C good lent =
    checking_check C lent.limit lent.row_buffer lent.word_buffer good lent.fits

-- a kind breaks an admitted contract exactly if each tree of that kind does
pub breaks_admitted : (C : Contract) → Admitted C → (t : Tree) → TreeOf C t → T (breaks C (kind_of C t)) ↔ Breaks C t
breaks_admitted C good t over = breaks-exactly C (established C good) t over

-- Demand 2: what the answer of every check of every admitted contract means.
pub check_meaning : (C : Contract) → Admitted C → (lent : Lent) → CheckMeans C lent
check_meaning C good lent =
    record {
      one_of_three = rw (check-of C good lent) (one_of (check_means C exactly lent.limit));
      pass_exactly = λ n. rw (check-of C good lent) (pass-exactly C exactly lent.limit n);
      tree_exactly = λ j. rw (check-of C good lent) (tree_row_exactly C lent.limit j);
      tree_least = λ j. rw (check-of C good lent) (λ e. (tree_means C exactly lent.limit j e).shown);
      stop_exactly = λ h. rw (check-of C good lent) (stop_means C exactly lent.limit lent.fits.at_least h);
      stop_tells = λ h. rw (check-of C good lent) (stop-tells C exactly lent.limit lent.fits.at_least h);
      pass_rows = λ n. rw (check-of C good lent) (pass_closes C lent.limit n);
      tree_rows = λ j. rw (check-of C good lent) (λ e. (tree_means C exactly lent.limit j e).first_rows);
      stop_rows = λ h. rw (check-of C good lent) (stop_closes C lent.limit h);
    }
  where
    exactly : (t : Tree) → TreeOf C t → T (breaks C (kind_of C t)) ↔ Breaks C t
    exactly = breaks_admitted C good

    one_of : Meaning C lent.limit → OneOfThree lent.limit (check C lent.limit).answer
    one_of (a_pass n e m) = is_pass n e
    one_of (a_tree j e m) = is_tree j e
    one_of (a_stop e m) = is_stop _ e

-- "a larger limit, if it stops too, never gives a smaller h": what is among the first L is among the first M
pub larger_limit_stop : (C : Contract) → Admitted C → (first second : Lent) → LargerLimitStop C first second
larger_limit_stop C good first second less h k one two =
    (((check_meaning C good second).stop_exactly k).0 two).is_greatest h (λ t over low. wider ((((check_meaning C good first).stop_exactly h).0 one).all_among t over low))
  where
    wider : {kind : List ℕ} → AmongFirst C first.limit kind → AmongFirst C second.limit kind
    wider a = record { round = a.round; row = a.row; below_limit = omega (arith, a.below_limit); inside = a.inside; found = a.found }
