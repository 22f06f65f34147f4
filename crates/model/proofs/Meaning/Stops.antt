-- What a stop at the limit tells: the height that it gives is the greatest up to which every tree's kind is among the first L, and no tree
-- up to that height breaks the contract.
use mathlib.Core.Path.{◌≡◌, ap, sym, ◌∙◌}
use mathlib.Core.Logic.{◌↔◌}
use Prim.Native.Nat.{ℕ, ◌≤◌}
use native.Mathlib.Omega.{arith}
use lib.Dec.{T}
use Rattle.foundation.specs.Tests.{false_test}
use Rattle.model.specs.Trees.{Tree, height}
use Rattle.model.specs.Tables.{Contract}
use Rattle.model.specs.Answers.{stopped}
use Rattle.model.specs.Kinds.{kind_of, breaks}
use Rattle.model.specs.Checking.{stop_height, check}
use Rattle.model.specs.Claims.{Breaks}
use Rattle.model.specs.Meaning.{TreeOf, Stops, AllAmongFirst, LastHeld, StopMeans, StopTells}
use Rattle.model.proofs.Rounds.Heights.{held_all_among, held_greatest, stop_height_at, last-held}
use Rattle.model.proofs.Rounds.Stopping.{Ending, shows, passes, stops, check_ends}
use Rattle.model.proofs.Meaning.Answers.{standing_answer, pass_not_stopped, tree_not_stopped, stop-exactly}

module _ (C : Contract) (breaks_exactly : (t : Tree) → TreeOf C t → T (breaks C (kind_of C t)) ↔ Breaks C t) (L : ℕ) where
  -- a tree whose kind is among the first L does not break the contract
  none-low : (h : ℕ) → Stops C L → AllAmongFirst C L h → (t : Tree) → TreeOf C t → height t ≤ h → Breaks C t → ⊥
  none-low h keep all t over low b =
      let a = all t over low in
      false_test _ ((keep.first_keep a.round).keeps a.row a.below_limit a.inside) (rw (← a.found) at ((breaks_exactly t over).1 b))

  -- a check that stops, under a limit of 1 or more
  module _ (some : 1 ≤ L) where
    record HowStopped (h : ℕ) : Type 0 where
      stops : Stops C L
      last : LastHeld C L h

    how_stopped : (h : ℕ) → (check C L).answer ≡ stopped L h → HowStopped h
    how_stopped h e = go (check_ends C L)
      where
        go : Ending C L (check C L) → HowStopped h
        go (shows j j_l l b none q) = absurd (tree_not_stopped (standing_answer C L _ _ q) e)
        go (passes end l none q) = absurd (pass_not_stopped (standing_answer C L _ _ q) e)
        go (stops l none q) =
            let said = standing_answer C L _ _ q in
            let same : stop_height C L ≡ h = cc in
            let (k, last) = last-held C L some L l in
            let at : k ≡ h = sym (stop_height_at C L k last) ∙ same in
            record { stops = (stop-exactly C breaks_exactly L).0 said; last = rw at at last }

    -- of two heights that are each the greatest, neither is greater
    must_stop : (h : ℕ) → StopMeans C L h → (check C L).answer ≡ stopped L h
    must_stop h m =
        let said = (stop-exactly C breaks_exactly L).1 m.stops in
        let last = (how_stopped (stop_height C L) said).last in
        let same : stop_height C L ≡ h = omega (arith, m.is_greatest _ (held_all_among C L _ last), held_greatest C L _ last h m.all_among) in
        said ∙ ap (stopped L) same

    pub stop_means : (h : ℕ) → ((check C L).answer ≡ stopped L h) ↔ StopMeans C L h
    stop_means h = (
      λ e. let how = how_stopped h e in record { stops = how.stops; all_among = held_all_among C L h how.last; is_greatest = held_greatest C L h how.last },
      must_stop h,
    )

    pub stop-tells : (h : ℕ) → (check C L).answer ≡ stopped L h → StopTells C L h
    stop-tells h e =
        let how = how_stopped h e in
        record { none_low = none-low h how.stops (held_all_among C L h how.last); last_held = how.last }
