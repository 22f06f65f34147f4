-- A symbol's states stand in the table; a node's word is read only where it is used. A lane of ones fits at the empty forest's state.
use Rattle.std.proofs.Common.{◌∙◌, ne_eqb}
use Rattle.lanes.proofs.Room.{put_fits, ones_less}
use Rattle.node_words.proofs.output_word.Goals as goal

pub returns : goal.returns
returns c = rw (ne_eqb c.args.symbol.0 0 c.if-symbol-eq0.false) (c.symbol_word.ensures ∙ rw (c.number.ensures, c.from.ensures, c.from-2.ensures))

pub at_state-requires : goal.at_state-requires
at_state-requires c =
    let laid = c.args.layout.now.fits.laid in
    put_fits _ _ _ _ laid.sized (ones_less _ _ laid.lane) (rw c.output_state_at.ensures (c.requires.0.entry 0))
