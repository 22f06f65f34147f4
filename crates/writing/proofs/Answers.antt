-- What testing every row says, and each answer of writing out from the tests that lead to it.
use mathlib.Core.Path.{◌≡◌, refl, ap, sym, ◌∙◌}
use mathlib.Core.Bool.{Bool, true, false, not, ◌||◌, true≢false}
use mathlib.Core.List.{List, ◌++◌}
use Prim.Native.Nat.{ℕ, ◌+◌, ◌%◌, ◌≤◌, ◌<◌}
use native.Mathlib.Omega.{arith}
use lib.Dec.{eqb, ltb, leb}
use lib.ListN.{length, drop}
use lib.Seq.{sets, sets-eq}
use borrow.Author.Tests.{ltb-true, ltb-false, lt-ltb, le-ltb, le-leb, lt-leb}
use Rattle.std.specs.Prelude.{Some, None}
use Rattle.foundation.specs.Search.{first, first_below, first_clear, first_none}
use Rattle.model.specs.Answers.{Verdict, refused, refuse_if, refuse_first, ◌then◌, Answer, written, refusal, given}
use Rattle.model.specs.Answers as model
use Rattle.model.specs.Rows.{row_count}
use Rattle.model.specs.Running.{rows_wrong}
use Rattle.model.specs.WritingOut.{Written, writing_verdict, writing_out}
use Rattle.model.proofs.Laws.Answers.{then_assoc, then_passed, then_refused, then_fine, refuse_if_fine}
use Rattle.answers.specs.declared.WritingRefusal.{WritingRefusal}
use Rattle.answers.specs.declared.WritingRefusal.TheVariants as writing
use Rattle.answers.specs.Numbers.{writing_refusal}
use Rattle.writing.specs.Rows.{wrong_at, NoneWrong, numbers_at, size_within}
use Rattle.writing.specs.Tests.{rows_verdict, refusal_verdict}
use Rattle.writing.proofs.Ready.{Ready}

-- what a search that ends at a number, or at none, says of the first
some_first : (p : ℕ → Bool) (n k : ℕ) → first_below p n ≡ Some k → (first p n ≡ k) × (k < n)
some_first p n k found = go (ltb (first p n) n) refl found
  where
    go : (b : Bool) → ltb (first p n) n ≡ b → first_below p n ≡ Some k → (first p n ≡ k) × (k < n)
    go true below found = let e : first p n ≡ k = let q = rw below at found in cc in (e, omega (arith, e, ltb-true _ _ below))
    go false past found = let q = rw past at found in cc

none_first : (p : ℕ → Bool) (n : ℕ) → first_below p n ≡ None → n ≤ first p n
none_first p n found = go (ltb (first p n) n) refl found
  where
    go : (b : Bool) → ltb (first p n) n ≡ b → first_below p n ≡ None → n ≤ first p n
    go true below found = let q = rw below at found in cc
    go false past found = ltb-false _ _ past

module _ (rows : List ℕ) where
  pub wrong_length : rows_wrong (length rows) ≡ true → refused 16 0 ≡ rows_verdict rows
  unfolding refuse_if ◌then◌
  wrong_length wrong = rw wrong

  module _ (right : rows_wrong (length rows) ≡ false) where
    pub wrong_row : (k : ℕ) → first_below (wrong_at rows) (row_count rows) ≡ Some k → refused 17 k ≡ rows_verdict rows
    unfolding refuse_if refuse_first ◌then◌
    wrong_row k found =
        let (e, below) = some_first _ _ _ found in
        rw (right, e, lt-ltb _ _ below)

    passed : (k : ℕ) → k ≡ first (wrong_at rows) (row_count rows) → row_count rows ≤ k → model.fine ≡ rows_verdict rows
    unfolding refuse_if refuse_first ◌then◌
    passed k sought none = rw (right, ← sought, le-ltb _ _ none)

    pub right_rows : first_below (wrong_at rows) (row_count rows) ≡ None → model.fine ≡ rows_verdict rows
    right_rows found = passed _ refl (none_first _ _ found)

  pub none_wrong : first_below (wrong_at rows) (row_count rows) ≡ None → NoneWrong rows
  none_wrong found = first_clear (wrong_at rows) (row_count rows) (none_first _ _ found)

-- what is known where no rows are refused, as `ready` takes it
pub tests_passed : (rows : List ℕ) → model.fine ≡ rows_verdict rows
    → (rows_wrong (length rows) ≡ false) × (row_count rows ≤ first (wrong_at rows) (row_count rows))
unfolding refuse_first
tests_passed rows told =
    let tests = then_fine _ _ (sym told) in
    (refuse_if_fine _ _ _ tests.0, ltb-false _ _ (refuse_if_fine _ _ _ tests.1))

-- there are at most 4,096 rows
pub row_few : (rows : List ℕ) (row : ℕ) → Ready rows row → row < 4096
row_few rows row r = go (not (eqb (length rows % 3) 0)) (ltb 12288 (length rows)) refl r.right
  where
    go : (a b : Bool) → ltb 12288 (length rows) ≡ b → (a || b) ≡ false → row < 4096
    go true b p f = absurd (true≢false f)
    go false true p f = absurd (true≢false f)
    go false false p f = omega (arith, r.here, ltb-false 12288 (length rows) p)

-- an answer, and what stands in the buffer then
abbrev pub Gives : Written → Answer → List ℕ → Type 0
Gives w answer numbers = (answer ≡ w.answer) × (numbers ≡ w.numbers)

module _ (rows : List ℕ) (row : ℕ) (buffer : List ℕ) where
  -- what is told where no row is wrong
  rest : Verdict
  rest = refuse_if (leb (row_count rows) row) 18 row then refuse_if (ltb (length buffer) (length (numbers_at rows row))) 19 (length buffer)

  parted : writing_verdict rows row buffer ≡ (rows_verdict rows then rest)
  unfolding writing_verdict rest
  parted = sym (then_assoc _ _ _)

  refusing : (number place : ℕ) → writing_verdict rows row buffer ≡ refused number place → Gives (writing_out rows row buffer) (refusal number place) buffer
  unfolding writing_out given
  refusing number place e = (rw e, rw e)

  pub wrong_rows : (why : WritingRefusal) → refusal_verdict why ≡ rows_verdict rows → Gives (writing_out rows row buffer) (writing_refusal why) buffer
  wrong_rows writing.Rows e = refusing 16 0 (parted ∙ then_refused _ _ 16 0 (sym e))
  wrong_rows (writing.Row k) e = refusing 17 k (parted ∙ then_refused _ _ 17 k (sym e))
  wrong_rows (writing.Number k) e = refusing 18 k (parted ∙ then_refused _ _ 18 k (sym e))
  wrong_rows (writing.Room n) e = refusing 19 n (parted ∙ then_refused _ _ 19 n (sym e))

  past : model.fine ≡ rows_verdict rows → writing_verdict rows row buffer ≡ rest
  past told = parted ∙ then_passed _ _ (sym told)

  pub no_row : model.fine ≡ rows_verdict rows → row_count rows ≤ row → Gives (writing_out rows row buffer) (refusal 18 row) buffer
  unfolding refuse_if ◌then◌ rest
  no_row told h = refusing 18 row (past told ∙ rw (le-leb _ _ h))

  -- the size counted no further than one above the room tells whether the tree fits
  module _ (r : Ready rows row) (size : ℕ) (counted : size ≡ size_within (length buffer + 1) rows row) where
    left : writing_verdict rows row buffer ≡ rest
    left = past (passed rows r.right _ (sym (first_none (wrong_at rows) (row_count rows) r.fine)) (omega arith))

    pub no_room : length buffer < size → Gives (writing_out rows row buffer) (refusal 19 (length buffer)) buffer
    unfolding refuse_if ◌then◌ rest
    no_room h =
        let more : length buffer < length (numbers_at rows row) = omega arith in
        refusing 19 (length buffer) (left ∙ rw (lt-leb _ _ r.here, lt-ltb _ _ more))

    fits : size ≤ length buffer → 0 + length (numbers_at rows row) ≤ length buffer
    fits h = omega arith

    pub all_written : size ≤ length buffer
        → (count : ℕ) → count ≡ 0 + length (numbers_at rows row)
        → (closing : List ℕ) → closing ≡ sets buffer 0 (numbers_at rows row)
        → Gives (writing_out rows row buffer) (written count) closing
    unfolding refuse_if ◌then◌ writing_out given rest
    all_written h count c closing k =
        let n : count ≡ length (numbers_at rows row) = omega arith in
        let e : writing_verdict rows row buffer ≡ model.fine
        = left ∙ rw (lt-leb _ _ r.here, le-ltb (length buffer) (length (numbers_at rows row)) (omega arith)) in
        (rw e (ap written n), rw e (k ∙ sets-eq (numbers_at rows row) buffer 0 (fits h) ∙ ap (λ (m : ℕ). numbers_at rows row ++ drop m buffer) (sym c ∙ n)))
