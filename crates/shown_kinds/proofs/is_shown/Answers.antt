-- The search of the chain that the remainder tells.
use mathlib.Core.Path.{sym, ◌∙◌}
use native.Mathlib.Omega.{arith}
use Rattle.shown_kinds.proofs.Latest.{remainder_below, front_of, front_asked}
use borrow.Author.Rules.{rules}
use Rattle.shown_kinds.proofs.is_shown.Goals as goal

pub place_at-front-requires : goal.place_at-front-requires
place_at-front-requires c = omega (arith, remainder_below _ c.remainder_of.ensures)

pub is_in_chain-requires : goal.is_in_chain-requires
is_in_chain-requires c = let front = front_of _ _ c.args.seen.now _ _ _ _ c.requires.0 c.remainder_of.ensures c.place_at-front.ensures in let asked = front_asked _ _ _ front c.requires.1 in search (asked, rules)

pub returns : goal.returns
returns c = let front = front_of _ _ c.args.seen.now _ _ _ _ c.requires.0 c.remainder_of.ensures c.place_at-front.ensures in c.is_in_chain.ensures ∙ sym front.same
