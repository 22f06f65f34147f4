-- Every mark is right, and the buffer is as it was behind them.
use Rattle.std.proofs.Common.{◌≡◌, ◌*◌, arith}
use Rattle.model.proofs.Laws.Merging.{marks_filled}
use Rattle.merging_pairs.specs.Types.{marks_only}
use Rattle.merging_pairs.proofs.filling.fill_marks.Goals as goal

pub returns : goal.returns
returns c =
    let args = c.args in
    let end : c.loop-q.q ≡ args.states.first * args.states.second = omega arith in
    let filled = rw end at c.loop-q.invariant in
    marks_filled 1 (marks_only args.states.first args.first.now) (marks_only args.states.second args.second.now) _ _ filled.long (omega (arith, c.requires.second_in_bounds, filled.long)) filled.right filled.kept
