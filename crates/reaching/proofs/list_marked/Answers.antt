-- One node more, which goes on the list where it is marked.
use Rattle.std.proofs.Common.{◌≡◌, ◌+◌, ◌<◌, length, get_or, arith, rules}
use Rattle.reaching.specs.Marks.{counted}
use Rattle.reaching.specs.Listing.{listing_more}
use Rattle.reaching.proofs.list_marked.Goals as goal

pub loop-n-preserved : goal.loop-n-preserved
loop-n-preserved c =
    let room : c.args.start + c.loop-n.listed < length c.args.lists.now = omega (arith, c.requires.0, c.requires.2, c.loop-n.invariant.few) in
    let one : c.from-listed.result ≡ counted (get_or c.args.marks.now c.loop-n.n 0) = search rules in
    listing_more _ _ c.loop-n.lists c.args.start c.loop-n.n c.loop-n.listed c.loop-n.invariant room _ _ c.entry_of.ensures one
