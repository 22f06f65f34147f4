-- The first rows of those that look the same: they ascend, and every row looks like one of them that is not behind it.
use mathlib.Core.Path.{◌≡◌, refl, ap, subst, sym, ◌∙◌}
use mathlib.Core.Bool.{Bool, true, false}
use mathlib.Core.List.{List, [], ◌∷◌, ◌++◌}
use Prim.Native.Nat.{ℕ, zero, suc, ◌+◌, ◌<◌, ◌≤◌}
use native.Mathlib.Omega.{arith}
use native.Mathlib.Decide.{ℕ_discrete}
use lib.ListN.{length, get_or, set, length-append, length-set, get_or-append}
use lib.Dec.{eqb}
use lib.Seq.{get_or-append-add, take-suc-set}
use borrow.Author.Tests.{eq-eqb}
use Rattle.foundation.specs.Tests.{choose, some_elim, true_test, test_true}
use Rattle.kind_slots.specs.Stored.{same_words}
use Rattle.kind_slots.proofs.Same.{same_alike, same_as}
use Rattle.shown_kinds.specs.Chains.{remainder_of, shown_at, looks_so, some_looks_so, remainder_at, first_rows, NoRows, in_front, PutInChains}
use Rattle.shown_kinds.proofs.Latest.{none_chained, one_chained, Front}

same_self : (a : List ℕ) → same_words a a ≡ true
unfolding same_words
same_self a = rw (eqb_self (get_or a 0 0), eqb_self (get_or a 1 0), eqb_self (get_or a 2 0), eqb_self (get_or a 3 0), eqb_self (get_or a 4 0)) refl
  where
    eqb_self : (n : ℕ) → eqb n n ≡ true
    eqb_self n = eq-eqb n n refl

module _ (words mask : List ℕ) where
  -- row k looks like an earlier one, or it does not
  pub first_rows_old : (k : ℕ) → some_looks_so words mask k (shown_at words mask k) ≡ true → first_rows words mask (suc k) ≡ first_rows words mask k
  unfolding first_rows
  first_rows_old k e = rw e

  pub first_rows_new : (k : ℕ) → some_looks_so words mask k (shown_at words mask k) ≡ false → first_rows words mask (suc k) ≡ first_rows words mask k ++ (k ∷ [])
  unfolding first_rows
  first_rows_new k e = rw e

  pub first_rows_few : (n : ℕ) → length (first_rows words mask n) ≤ n
  unfolding first_rows
  first_rows_few zero = omega arith
  first_rows_few (suc k) = go (some_looks_so words mask k (shown_at words mask k)) refl (first_rows_few k)
    where
      go : (b : Bool) → some_looks_so words mask k (shown_at words mask k) ≡ b → length (first_rows words mask k) ≤ k → length (first_rows words mask (suc k)) ≤ suc k
      go true e h = omega (arith, ap length (first_rows_old k e))
      go false e h = omega (arith, ap length (first_rows_new k e), length-append (first_rows words mask k) (k ∷ []))

  -- what first rows are among n: below n, ascending, and one for every row, not behind it, that it looks like
  pub record Firsts (n : ℕ) (rows : List ℕ) : Type 0 where
    pub below : (i : ℕ) → i < length rows → get_or rows i 0 < n
    pub ascend : (i j : ℕ) → i < j → j < length rows → get_or rows i 0 < get_or rows j 0
    pub cover : (k : ℕ) → k < n → (i : ℕ) × (i < length rows) × (get_or rows i 0 ≤ k) × (looks_so words mask (shown_at words mask k) (get_or rows i 0) ≡ true)

  more_old : (k : ℕ) (rows : List ℕ) → some_looks_so words mask k (shown_at words mask k) ≡ true → Firsts k rows → Firsts (suc k) rows
  more_old k rows e before =
      record {
        below = λ i h. omega (arith, before.below i h);
        ascend = before.ascend;
        cover = λ j h. go j (ℕ_discrete j k) h;
      }
    where
      like : (i : ℕ) × (i < length rows) × (get_or rows i 0 ≤ k) × (looks_so words mask (shown_at words mask k) (get_or rows i 0) ≡ true)
      like =
          let (j, h, t) = some_elim k _ (true_test _ e) in
          let (i, l, m, s) = before.cover j h in
          (i, l, omega (arith, m, h), sym (same_as (shown_at words mask (get_or rows i 0)) (shown_at words mask j) (shown_at words mask k) (same_alike _ _ (test_true _ t))) ∙ s)

      go : (j : ℕ) → Dec (j ≡ k) → j < suc k → (i : ℕ) × (i < length rows) × (get_or rows i 0 ≤ j) × (looks_so words mask (shown_at words mask j) (get_or rows i 0) ≡ true)
      go j (yes same) h = subst (λ (m : ℕ). (i : ℕ) × (i < length rows) × (get_or rows i 0 ≤ m) × (looks_so words mask (shown_at words mask m) (get_or rows i 0) ≡ true)) (sym same) like
      go j (no ne) h = before.cover j (omega arith)

  more_new : (k : ℕ) (rows : List ℕ) → Firsts k rows → Firsts (suc k) (rows ++ (k ∷ []))
  more_new k rows before =
      record {
        below = λ i h. row_below i (ℕ_discrete i (length rows)) h;
        ascend = λ i j l h. row-after i j (ℕ_discrete j (length rows)) l h;
        cover = λ j h. go j (ℕ_discrete j k) h;
      }
    where
      long : length (rows ++ (k ∷ [])) ≡ length rows + 1
      long = length-append rows (k ∷ [])

      at : (i : ℕ) → i < length rows → get_or (rows ++ (k ∷ [])) i 0 ≡ get_or rows i 0
      at i h = get_or-append rows (k ∷ []) 0 i h

      last : get_or (rows ++ (k ∷ [])) (length rows) 0 ≡ k
      last = let at_end = get_or-append-add rows (k ∷ []) 0 0 in ap (λ (i : ℕ). get_or (rows ++ (k ∷ [])) i 0) (omega arith) ∙ at_end

      row_below : (i : ℕ) → Dec (i ≡ length rows) → i < length (rows ++ (k ∷ [])) → get_or (rows ++ (k ∷ [])) i 0 < suc k
      row_below i (yes e) h = let here : get_or (rows ++ (k ∷ [])) i 0 ≡ k = ap (λ (m : ℕ). get_or (rows ++ (k ∷ [])) m 0) e ∙ last in omega (arith, here)
      row_below i (no ne) h = let inside : i < length rows = omega (arith, long) in omega (arith, at i inside, before.below i inside)

      row-after : (i j : ℕ) → Dec (j ≡ length rows) → i < j → j < length (rows ++ (k ∷ [])) → get_or (rows ++ (k ∷ [])) i 0 < get_or (rows ++ (k ∷ [])) j 0
      row-after i j (yes e) l h =
          let here : get_or (rows ++ (k ∷ [])) j 0 ≡ k = ap (λ (m : ℕ). get_or (rows ++ (k ∷ [])) m 0) e ∙ last in
          let inside : i < length rows = omega (arith, e) in
          omega (arith, here, at i inside, before.below i inside)
      row-after i j (no ne) l h =
          let inside : j < length rows = omega (arith, long) in
          omega (arith, at i (omega arith), at j inside, before.ascend i j l inside)

      go : (j : ℕ) → Dec (j ≡ k) → j < suc k
          → (i : ℕ) × (i < length (rows ++ (k ∷ []))) × (get_or (rows ++ (k ∷ [])) i 0 ≤ j) × (looks_so words mask (shown_at words mask j) (get_or (rows ++ (k ∷ [])) i 0) ≡ true)
      go j (yes same) h = (
        length rows,
        omega (arith, long),
        omega (arith, last),
        ap (λ (m : ℕ). looks_so words mask (shown_at words mask j) m) (last ∙ sym same) ∙ same_self (shown_at words mask j),
      )
      go j (no ne) h =
          let (i, l, m, s) = before.cover j (omega arith) in
          (i, omega (arith, long), omega (arith, at i l), ap (λ (m : ℕ). looks_so words mask (shown_at words mask j) m) (at i l) ∙ s)

  pub first_rows_lem : (n : ℕ) → Firsts n (first_rows words mask n)
  unfolding first_rows
  first_rows_lem zero = record { below = λ i h. absurd (omega (arith, h)); ascend = λ i j l h. absurd (omega (arith, h)); cover = λ k h. absurd (omega (arith, h)) }
  first_rows_lem (suc k) = go (some_looks_so words mask k (shown_at words mask k)) refl (first_rows_lem k)
    where
      go : (b : Bool) → some_looks_so words mask k (shown_at words mask k) ≡ b → Firsts k (first_rows words mask k) → Firsts (suc k) (first_rows words mask (suc k))
      go true e before = rw (first_rows_old k e) (more_old k _ e before)
      go false e before = rw (first_rows_new k e) (more_new k _ before)

-- n rows put in chains: none, and one more, which looks like an earlier one or not
module _ (words mask : List ℕ) where
  pub none_put : (chains firsts : List ℕ) → length firsts ≡ 4096 → NoRows 4096 chains → PutInChains words mask 0 chains firsts 0
  unfolding first_rows
  none_put chains firsts long none =
      record { long = none.long; firsts_long = long; chained = none_chained words mask chains none; first_ones = refl; few = omega arith }

  module _ (k : ℕ) (chains firsts : List ℕ) (found : ℕ) (small : k < 4096) (put : PutInChains words mask k chains firsts found) where
    abbrev more : List ℕ
    more = in_front chains (remainder_at words mask k) k

    more_long : length more ≡ 8192
    more_long = length-set (set chains (4096 + k) (get_or chains (remainder_at words mask k) 0)) (remainder_at words mask k) (suc k) ∙ length-set chains (4096 + k) _ ∙ put.long

    old_put : some_looks_so words mask k (shown_at words mask k) ≡ true → PutInChains words mask (suc k) more firsts found
    old_put e =
        record {
          long = more_long;
          firsts_long = put.firsts_long;
          chained = one_chained words mask chains k put.long small put.chained;
          first_ones = put.first_ones ∙ sym (first_rows_old words mask k e);
          few = omega (arith, put.few);
        }

    new_put : some_looks_so words mask k (shown_at words mask k) ≡ false → PutInChains words mask (suc k) more (set firsts found k) (suc found)
    new_put e =
        record {
          long = more_long;
          firsts_long = length-set firsts found k ∙ put.firsts_long;
          chained = one_chained words mask chains k put.long small put.chained;
          first_ones = take-suc-set firsts found k (omega (arith, put.few, put.firsts_long)) ∙ ap (λ (rows : List ℕ). rows ++ (k ∷ [])) put.first_ones ∙ sym (first_rows_new words mask k e);
          few = omega (arith, put.few);
        }

    -- what `put_row` does with row k: what it sees, the remainder of this, whether the row is old, and what it writes
    pub one_put : (seen : List ℕ) (remainder entry : ℕ) (old : Bool) {chains' firsts' : List ℕ} {found' : ℕ} → seen ≡ shown_at words mask k
        → remainder ≡ remainder_of seen
        → Front words mask seen k chains entry
        → old ≡ some_looks_so words mask entry seen
        → chains' ≡ in_front chains remainder k
        → (found' ≡ choose old found (suc found)) × (firsts' ≡ choose old firsts (set firsts found k))
        → PutInChains words mask (suc k) chains' firsts' found'
    one_put seen remainder entry old s r front o c (f, g) =
        rw (f, g, c, r, s) (by_test old (o ∙ sym front.same ∙ ap (some_looks_so words mask k) s))
      where
        by_test : (old : Bool) → old ≡ some_looks_so words mask k (shown_at words mask k)
            → PutInChains words mask (suc k) more (choose old firsts (set firsts found k)) (choose old found (suc found))
        by_test true e = old_put (sym e)
        by_test false e = new_put (sym e)

-- one row more than k are put
pub one_more : {words mask chains firsts : List ℕ} {found k n : ℕ} → suc k ≡ n → PutInChains words mask (suc k) chains firsts found
    → PutInChains words mask n chains firsts found
one_more {words = words} {mask = mask} {chains = chains} {firsts = firsts} {found = found} e put =
    subst (λ (n : ℕ). PutInChains words mask n chains firsts found) e put
