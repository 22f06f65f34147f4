-- The table holds the children's sizes, each at most `most`, so that their sum does not wrap; cut at `most` it is the row's.
use native.Mathlib.Omega.{arith}
use mathlib.Core.Path.{◌≡◌}
use lib.ListN.{length}
use Rattle.writing.specs.Rows.{numbers_at}
use Rattle.tables.specs.Tuples.{row_of}
use Rattle.writing.proofs.Children.{Children, Sized, size_leaf, children, sized}
use Rattle.writing.proofs.FineRows.row_size.Goals as goal

pub returns-then-row-eq0 : goal.returns-then-row-eq0
returns-then-row-eq0 c =
    let e : 1 ≡ length (numbers_at c.args.self.now.rows.now c.args.k) = size_leaf _ _ _ c.row_at-row.ensures c.if-row-eq0.true in omega arith

pub returns : goal.returns
returns c =
    let read = c.row_at-row.ensures in
    let below : Children c.args.self.now.rows.now c.args.k (row_of c.row_at-row.result) = children _ _ _ read c.args.self.now.none_wrong (omega arith) c.if-row-eq0.false in
    let sizes : Sized c.args.most c.args.self.now.rows.now c.args.sizes.now (row_of c.row_at-row.result) = sized _ _ _ read c.args.self.now.none_wrong (omega arith) c.if-row-eq0.false _ _ c.requires.by_index in
    let least = rw (c.from-left.ensures, c.from-right.ensures) at c.min.ensures in omega arith
