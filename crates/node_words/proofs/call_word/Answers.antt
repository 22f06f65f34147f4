-- A lane of ones at the states of a fact fits, as the first bits of the lanes are those of this layout.
use Rattle.std.proofs.Common.{arith}
use Rattle.lanes.proofs.Room.{ones_less, times_fits}
use Rattle.node_words.proofs.call_word.Goals as goal

pub spread-requires : goal.spread-requires
spread-requires c =
    let laid = c.args.layout.now.fits.laid in
    (omega arith, times_fits _ _ _ _ _ _ 0 laid (ones_less _ _ laid.lane))
