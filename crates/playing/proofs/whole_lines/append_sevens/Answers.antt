-- One seven more.
use Rattle.lines.proofs.Listings.{spaced_none}
use Rattle.playing.proofs.LineLaws.{sevens_more}
use Rattle.playing.proofs.whole_lines.append_sevens.Goals as goal

pub loop-init : goal.loop-init
loop-init c = spaced_none c.clip.ensures

pub loop-preserved : goal.loop-preserved
loop-preserved c = sevens_more _ c.loop.invariant c.append_behind_space.ensures
