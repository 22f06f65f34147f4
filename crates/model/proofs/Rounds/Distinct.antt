-- No state is listed twice.
use mathlib.Core.Path.{◌≡◌, refl, ap, sym, ◌∙◌}
use mathlib.Core.List.{List, [], ◌∷◌, ◌++◌}
use mathlib.Core.Bool.{Bool, true, false}
use Prim.Native.Nat.{ℕ, zero, suc, ◌+◌, ◌<◌}
use native.Mathlib.Omega.{arith}
use native.Mathlib.Decide.{dec_lt}
use lib.ListN.{length, length-append}
use lib.Seq.{get_or-append_seam}
use Rattle.foundation.specs.Tests.{false_test}
use Rattle.model.specs.Rounds.{TreeAutomaton, Listed, empty_row, state_at, lists, added, combination, combinations, round_to, round, rounds}
use Rattle.model.proofs.Rounds.Growth.{Begins, begins_state, added_old, added_new}
use Rattle.model.proofs.Rounds.Covering.{Decides, has_lists}

pub record Distinct (A : TreeAutomaton) (rows : List (Listed A)) : Type 0 where
  pub differ : (i j : ℕ) → i < j → j < length rows → state_at A rows i ≡ state_at A rows j → ⊥

module _ (A : TreeAutomaton) (decides : Decides A) where
  -- a row whose state is not listed keeps the list distinct
  snoc_distinct : (rows : List (Listed A)) (row : Listed A) → lists A rows row.state ≡ false → Distinct A rows → Distinct A (rows ++ (row ∷ []))
  snoc_distinct rows row new d =
      record { differ = λ i j l h e. go i j l (let k : j < length rows + 1 = simp length-append at h in k) e (dec_lt j (length rows)) }
    where
      grown : Begins A rows (rows ++ (row ∷ []))
      grown = record { more = row ∷ []; appended = refl }

      last : state_at A (rows ++ (row ∷ [])) (length rows) ≡ row.state
      last = ap (λ (x : Listed A). x.state) (get_or-append_seam rows row [] (empty_row A))

      go : (i j : ℕ) → i < j → j < length rows + 1 → state_at A (rows ++ (row ∷ [])) i ≡ state_at A (rows ++ (row ∷ [])) j → Dec (j < length rows) → ⊥
      go i j l h e (yes lj) = d.differ i j l lj (sym (begins_state grown i (omega arith)) ∙ e ∙ begins_state grown j lj)
      go i j l h e (no nj) =
          let q : j ≡ length rows = omega arith in
          let li : i < length rows = omega arith in
          let f : state_at A rows i ≡ row.state = sym (begins_state grown i li) ∙ e ∙ rw q last in
          false_test _ new (has_lists A decides rows row.state (record { index = i; inside = li; found = f }))

  added_distinct : (rows : List (Listed A)) (row : Listed A) → Distinct A rows → Distinct A (added A rows row)
  added_distinct rows row d = go (lists A rows row.state) refl
    where
      go : (b : Bool) → lists A rows row.state ≡ b → Distinct A (added A rows row)
      go true e = rw (added_old A rows row e) d
      go false e = rw (added_new A rows row e) (snoc_distinct rows row e d)

  pub to_distinct : (rows : List (Listed A)) (c : ℕ) → Distinct A rows → Distinct A (round_to A rows c)
  unfolding round_to
  to_distinct rows zero d = d
  to_distinct rows (suc c) d = added_distinct (round_to A rows c) (combination A rows (length rows) c) (to_distinct rows c d)

  pub rounds_distinct : (h : ℕ) → Distinct A (rounds A h)
  unfolding rounds round
  rounds_distinct zero = record { differ = λ i j l h e. omega arith }
  rounds_distinct (suc h) = to_distinct (rounds A h) (combinations A (rounds A h)) (rounds_distinct h)
