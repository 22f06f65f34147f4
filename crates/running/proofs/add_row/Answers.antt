-- Three stores behind the rows used are one row more, and where there is no room for them no row is free.
use mathlib.Core.Path.{ap}
use Prim.Native.Nat.{ℕ, ◌*◌}
use Rattle.running.proofs.Buffers.{row_added, no_row_free}
use Rattle.running.proofs.add_row.Goals as goal

pub returns-then-rows-at : goal.returns-then-rows-at
returns-then-rows-at c = no_row_free c.args.rows.now c.args.tally (3 * c.from-at.result) c.args.symbol.0 c.args.left c.args.right (ap (λ (n : ℕ). 3 * n) c.from-at.ensures) c.if-rows-at.true

pub returns : goal.returns
returns c = row_added c.args.rows.now c.args.tally (3 * c.from-at.result) c.args.symbol.0 c.args.left c.args.right (ap (λ (n : ℕ). 3 * n) c.from-at.ensures) c.if-rows-at.false
