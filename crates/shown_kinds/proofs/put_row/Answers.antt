-- The row is sought in its chain, then put in front of it and noted, if it looks like no row there.
use native.Mathlib.Omega.{arith}
use Rattle.shown_kinds.proofs.Latest.{remainder_small, front_of}
use Rattle.shown_kinds.proofs.Firsts.{one_put}
use Rattle.shown_kinds.proofs.put_row.Goals as goal

pub place_at-front-requires : goal.place_at-front-requires
place_at-front-requires c = omega (arith, c.remainder_of-remainder.ensures, remainder_small c.shown_at-seen.result, c.requires.0.long)

pub is_in_chain-is_old-requires : goal.is_in_chain-is_old-requires
is_in_chain-is_old-requires c = let front = front_of _ _ c.shown_at-seen.result _ _ _ _ c.requires.0.chained c.remainder_of-remainder.ensures c.place_at-front.ensures in (front.behind, front.leaves, omega (arith, front.within, c.requires.1), omega (arith, front.within, c.requires.2))

pub put_in_front-requires : goal.put_in_front-requires
put_in_front-requires c = (omega (arith, c.remainder_of-remainder.ensures, remainder_small c.shown_at-seen.result), c.requires.2)

pub returns : goal.returns
returns c =
    let front = front_of _ _ c.shown_at-seen.result _ _ _ _ c.requires.0.chained c.remainder_of-remainder.ensures c.place_at-front.ensures in
    one_put _ _ _ _ _ _ c.requires.2 c.requires.0 c.shown_at-seen.result _ _ _ c.shown_at-seen.ensures c.remainder_of-remainder.ensures front c.is_in_chain-is_old.ensures c.put_in_front.ensures c.note_first.ensures
