-- Entry 0 is the pair of what both types give the empty forest; each other one is for a symbol over two pairs.
use mathlib.Core.Path.{◌∙◌}
use native.Mathlib.Omega.{arith}
use Rattle.merging_pairs.specs.Types.{table_only}
use Rattle.merging_pairs.proofs.Entries.{entry_empty, entry_next}
use Rattle.merging_pairs.proofs.filling.entry_of.Goals as goal

pub returns-then-k-eq0 : goal.returns-then-k-eq0
returns-then-k-eq0 c =
    let args = c.args in
    c.state_of.ensures ∙ entry_empty (table_only args.states.first args.first.now) (table_only args.states.second args.second.now) args.k (omega arith) _ _ c.empty_pair.ensures.first_value c.empty_pair.ensures.second_value

pub returns : goal.returns
returns c =
    let args = c.args in
    let place = c.place_of-place in
    let left = c.pair_of-left in
    let right = c.pair_of-right in
    let next = c.next_pair-next in
    c.state_of-2.ensures
    ∙ entry_next (table_only args.states.first args.first.now) (table_only args.states.second args.second.now) args.k _ (omega (arith, c.if-k-eq0.false))
    place.result place.ensures.symbol_value place.ensures.left_value place.ensures.right_value
    left.result left.ensures.first_value left.ensures.second_value
    right.result right.ensures.first_value right.ensures.second_value
    next.result next.ensures.first_value next.ensures.second_value
