-- What was written reads back to the same tree.
use Rattle.std.specs.Prelude.{◌≡◌, refl, List, ◌++◌, ℕ, ◌≤◌, ◌<◌, length, drop}
use Rattle.std.proofs.Common.{arith, ltb-false, leb-false}
use Rattle.foundation.specs.Search.{first_clear}
use Rattle.model.specs.Documents.{ends, leading, tree_of, document_tree}
use Rattle.model.specs.Rows.{row_count, tree_at}
use Rattle.model.specs.Answers.{Verdict, fine, refused, refuse_first, written, given}
use Rattle.model.specs.WritingOut.{writing_verdict, writing_out}
use Rattle.model.proofs.Laws.Answers.{refuse_if_fine, then_fine}
use Rattle.model.proofs.Laws.Documents.{over_proper, leading-tree, leading_read, read_back}
use Rattle.writing.specs.Rows.{wrong_at, NoneWrong, numbers_at, over_sixteen}

-- what holds where nothing is refused
pub record Fits (rows : List ℕ) (row : ℕ) (buffer : List ℕ) : Type 0 where
  pub fine : NoneWrong rows
  pub here : row < row_count rows
  pub room : length (numbers_at rows row) ≤ length buffer

pub verdict_fits : (rows : List ℕ) (row : ℕ) (buffer : List ℕ) → writing_verdict rows row buffer ≡ fine → Fits rows row buffer
unfolding writing_verdict refuse_first
verdict_fits rows row buffer e =
    let a = then_fine _ _ (then_fine _ _ e).1 in
    let b = then_fine _ _ a.1 in
    record {
      fine = first_clear (wrong_at rows) (row_count rows) (ltb-false _ _ (refuse_if_fine _ _ _ a.0));
      here = leb-false _ _ (refuse_if_fine _ _ _ b.0);
      room = ltb-false _ _ (refuse_if_fine _ _ _ b.1);
    }

-- the numbers of a row's tree are a document of that tree, whatever follows them
module _ (rows : List ℕ) (fine : NoneWrong rows) (row : ℕ) (here : row < row_count rows) where
  pub row_leads : (rest : List ℕ) → leading 16 (numbers_at rows row ++ rest) ≡ ends (length (numbers_at rows row))
  row_leads rest = leading-tree 16 (tree_at rows row) rest (omega arith) (over_sixteen rows fine row here)

  pub row_reads_back : document_tree (numbers_at rows row) ≡ tree_at rows row
  row_reads_back = read_back (tree_at rows row) (over_proper 16 (tree_at rows row) (over_sixteen rows fine row here))

-- the closing buffer begins with `count` numbers that are the tree of the row
pub record ReadsBack (rows : List ℕ) (row : ℕ) (closing : List ℕ) (count : ℕ) : Type 0 where
  pub leads : leading 16 closing ≡ ends count
  pub tree : tree_of count closing ≡ tree_at rows row

pub reads_back : (rows : List ℕ) (row : ℕ) (buffer : List ℕ) (count : ℕ) → (writing_out rows row buffer).answer ≡ written count
    → ReadsBack rows row (writing_out rows row buffer).numbers count
unfolding writing_out given
reads_back rows row buffer count e = go (writing_verdict rows row buffer) refl
  where
    go : (v : Verdict) → writing_verdict rows row buffer ≡ v → ReadsBack rows row (writing_out rows row buffer).numbers count
    go (refused number place) f = let q = rw f at e in let z : ◌≡◌ {A = ℕ} 0 1 = cc in absurd (omega arith)
    go fine f =
        let fits = verdict_fits rows row buffer f in
        let q : written (length (numbers_at rows row)) ≡ written count = rw f at e in
        let n : count ≡ length (numbers_at rows row) = cc in
        let rest = drop (length (numbers_at rows row)) buffer in
        rw (f, n) (record {
          leads = row_leads rows fits.fine row fits.here rest;
          tree = leading_read (tree_at rows row) rest (over_proper 16 (tree_at rows row) (over_sixteen rows fits.fine row fits.here));
        })
