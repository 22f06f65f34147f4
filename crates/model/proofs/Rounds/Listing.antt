-- When the list has ended: ending it early changes nothing, and a list of at most h rows has ended after round h.
use mathlib.Core.Path.{◌≡◌, refl, ap, sym, ◌∙◌}
use mathlib.Core.List.{List}
use mathlib.Core.Logic.{◌⊎◌, inl, inr}
use mathlib.Core.Bool.{Bool, true, false}
use Prim.Native.Nat.{ℕ, zero, suc, ◌+◌, ◌-◌, ◌<◌, ◌≤◌}
use native.Mathlib.Nat.{add-zero, zero-add, suc-add, add-suc}
use native.Mathlib.Omega.{arith}
use native.Mathlib.Decide.{ℕ_discrete}
use borrow.Author.Tests.{eqb-true, eqb-false, eq-eqb, ne_eqb}
use lib.Dec.{eqb}
use lib.ListN.{length}
use Rattle.model.specs.Rounds.{TreeAutomaton, Listed, round, rounds, listing_from, listing}
use Rattle.model.proofs.Rounds.Growth.{begins_length, begins_equal, begins_trans, round_begins, rounds_begin, Beginning}

module _ (A : TreeAutomaton) where
  -- "A round that adds nothing ends the list."
  abbrev pub Ended : ℕ → Type 0
  Ended h = round A (rounds A h) ≡ rounds A h

  -- a round of no more rows adds nothing
  pub adds_nothing : (rows : List (Listed A)) → length (round A rows) ≡ length rows → round A rows ≡ rows
  adds_nothing rows e = begins_equal (round_begins A rows) (omega arith)

  stays_after : (h d : ℕ) → Ended h → rounds A (d + h) ≡ rounds A h
  unfolding rounds
  stays_after h zero e = rw zero-add
  stays_after h (suc d) e = rw suc-add (ap (λ (rows : List (Listed A)). round A rows) (stays_after h d e) ∙ e)

  -- once ended, the list stays as it is
  pub ended_stays : (h k : ℕ) → Ended h → h ≤ k → rounds A k ≡ rounds A h
  ended_stays h k e l = let q : (k - h) + h ≡ k = omega arith in rw q at (stays_after h (k - h) e)

  -- and holds every beginning
  pub ended_longest : (h : ℕ) → Ended h → {rows : List (Listed A)} → Beginning A rows → length rows ≤ length (rounds A h)
  ended_longest h e start =
      let longer = begins_trans start.begins (rounds_begin A start.round (start.round + h) (omega arith)) in
      let bound = begins_length longer in
      rw (ended_stays h (start.round + h) e (omega arith)) at bound

  -- two ends are the same list
  pub ended_same : (h k : ℕ) → Ended h → Ended k → rounds A h ≡ rounds A k
  ended_same h k e f = sym (ended_stays h (h + k) e (omega arith)) ∙ ended_stays k (h + k) f (omega arith)

  -- each round but the last adds a row
  pub ended_or_longer : (h : ℕ) → Ended h ⊎ (h < length (rounds A h))
  unfolding rounds
  ended_or_longer zero = inr (omega arith)
  ended_or_longer (suc h) = go (ended_or_longer h) (eqb (length (round A (rounds A h))) (length (rounds A h))) refl
    where
      go : Ended h ⊎ (h < length (rounds A h)) → (b : Bool) → eqb (length (round A (rounds A h))) (length (rounds A h)) ≡ b
          → Ended (suc h) ⊎ (suc h < length (rounds A (suc h)))
      go (inl e) b q = inl (ap (λ (rows : List (Listed A)). round A rows) e)
      go (inr l) true q = inl (ap (λ (rows : List (Listed A)). round A rows) (adds_nothing (rounds A h) (eqb-true _ _ q)))
      go (inr l) false q = inr (omega (arith, begins_length (round_begins A (rounds A h)), eqb-false (length (round A (rounds A h))) (length (rounds A h)) q))

  -- L rounds list as many rows as any beginning has, or more than L
  pub rounds_enough : (L : ℕ) {rows : List (Listed A)} → Beginning A rows → (L < length (rounds A L)) ⊎ (length rows ≤ length (rounds A L))
  rounds_enough L {rows} start = go (ended_or_longer L)
    where
      go : Ended L ⊎ (L < length (rounds A L)) → (L < length (rounds A L)) ⊎ (length rows ≤ length (rounds A L))
      go (inl e) = inr (ended_longest L e start)
      go (inr l) = inl l

  pub short_ended : (h : ℕ) → length (rounds A h) ≤ h → Ended h
  short_ended h l = go (ended_or_longer h)
    where
      go : Ended h ⊎ (h < length (rounds A h)) → Ended h
      go (inl e) = e
      go (inr k) = absurd (omega arith)

  -- a listing goes on after a round that adds a row, and ends where a round adds none
  listing_goes_on : (k : ℕ) (rows : List (Listed A)) → (length (round A rows) ≡ length rows → ⊥)
      → listing_from A (suc k) rows ≡ listing_from A k (round A rows)
  unfolding listing_from
  listing_goes_on k rows adds = rw (ne_eqb, listing_from)

  listing_ends : (k : ℕ) (rows : List (Listed A)) → length (round A rows) ≡ length rows → listing_from A (suc k) rows ≡ rows
  unfolding listing_from
  listing_ends k rows Adds-none = rw (eq-eqb, listing_from)

  -- so its early end changes nothing
  listing_after : (k h : ℕ) → listing_from A k (rounds A h) ≡ rounds A (k + h)
  unfolding listing_from rounds
  listing_after zero h = rw zero-add
  listing_after (suc k) h = go (ℕ_discrete (length (round A (rounds A h))) (length (rounds A h))) (listing_after k (suc h))
    where
      go : Dec (length (round A (rounds A h)) ≡ length (rounds A h)) → listing_from A k (rounds A (suc h)) ≡ rounds A (k + suc h)
          → listing_from A (suc k) (rounds A h) ≡ rounds A (suc k + h)
      go (yes same) more =
          listing_ends k (rounds A h) same ∙ sym (ended_stays h (suc k + h) (adds_nothing (rounds A h) same) (omega arith))
      go (no differ) more = listing_goes_on k (rounds A h) differ ∙ more ∙ ap (λ (n : ℕ). rounds A n) (add-suc k h ∙ sym (suc-add k h))

  pub listing_rounds : (h : ℕ) → listing A h ≡ rounds A h
  unfolding listing rounds
  listing_rounds h = rw (add-zero h) at (listing_after h 0)
