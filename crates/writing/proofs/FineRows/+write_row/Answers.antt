-- The children of a row that is not wrong are below it. What is written is the symbol, then the left child's numbers, then the right
-- child's, one behind another.
use mathlib.Core.Path.{◌≡◌, refl, ap, ◌∙◌}
use native.Mathlib.Omega.{arith}
use lib.ListN.{length, set, length-set}
use Rattle.model.specs.Rows.{tree_at}
use Rattle.model.proofs.Laws.Documents.{some_number}
use Rattle.tables.specs.Tuples.{row_of}
use Rattle.writing.specs.Rows.{numbers_at, numbers_leaf}
use Rattle.writing.proofs.Buffers.{written_behind}
use Rattle.writing.proofs.Children.{Children, children}
use Rattle.writing.proofs.FineRows.+write_row.Goals as goal

pub bounds-buffer-at : goal.bounds-buffer-at
bounds-buffer-at t c = let n = some_number (tree_at c.args.self.now.rows.now c.args.k) in omega arith

pub returns-then-symbol-eq0 : goal.returns-then-symbol-eq0
returns-then-symbol-eq0 t c = rw (numbers_leaf _ _ _ c.row_at-row.ensures c.if-symbol-eq0.true) (refl, ap (set c.args.buffer.now c.args.at) c.if-symbol-eq0.true)

pub write_row-middle-requires : goal.write_row-middle-requires
write_row-middle-requires t c =
    let f : Children c.args.self.now.rows.now c.args.k (row_of c.row_at-row.result) = children _ _ _ c.row_at-row.ensures c.args.self.now.none_wrong c.requires.k_bound c.if-symbol-eq0.false in
    simp (c.from-left.ensures, c.from-right.ensures, length-set) (omega arith, (omega arith, omega arith))

pub write_row-requires : goal.write_row-requires
write_row-requires t c =
    let f : Children c.args.self.now.rows.now c.args.k (row_of c.row_at-row.result) = children _ _ _ c.row_at-row.ensures c.args.self.now.none_wrong c.requires.k_bound c.if-symbol-eq0.false in
    let kept : length c.write_row-middle.new.buffer ≡ length c.args.buffer.now = c.write_row-middle.auto.buffer ∙ simp length-set in
    let first = simp (c.from-left.ensures, c.from-right.ensures) at c.write_row-middle.ensures.0 in
    simp (c.from-left.ensures, c.from-right.ensures) (omega arith, (omega arith, omega arith))

pub returns : goal.returns
returns t c =
    let f : Children c.args.self.now.rows.now c.args.k (row_of c.row_at-row.result) = children _ _ _ c.row_at-row.ensures c.args.self.now.none_wrong c.requires.k_bound c.if-symbol-eq0.false in
    let first = simp (c.from-left.ensures, c.from-right.ensures) at c.write_row-middle.ensures.0 in
    let second = simp (c.from-left.ensures, c.from-right.ensures) at c.write_row.ensures.0 in
    (omega arith, c.write_row.ensures.1 ∙ simp (c.write_row-middle.ensures.1, c.from-left.ensures, c.from-right.ensures, first, f.numbers) (written_behind c.args.buffer.now c.args.at c.row_at-row.result.symbol.0 (numbers_at c.args.self.now.rows.now c.row_at-row.result.left) (numbers_at c.args.self.now.rows.now c.row_at-row.result.right)))
