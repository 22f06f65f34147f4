-- Only the first bytes of a long token are shown.
use Rattle.std.proofs.Common.{sym, arith, length}
use borrow.Author.Tests.{lt-ltb}
use lib.Seq.{length-take-le}
use Rattle.printing.proofs.Texts.{appends_both}
use Rattle.lines.proofs.faults.append_token.Goals as goal

pub slice_bounds-append-end : goal.slice_bounds-append-end
slice_bounds-append-end c = sym (length-take-le 32 c.args.token.now (omega arith))

pub returns-then-token-gt32 : goal.returns-then-token-gt32
returns-then-token-gt32 c = rw (lt-ltb 32 (length c.args.token.now) c.if-token-gt32.true) (appends_both c.append.ensures c.append-then-token-gt32.ensures)
