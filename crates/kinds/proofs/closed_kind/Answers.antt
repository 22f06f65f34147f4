-- Round by round; a round that adds nothing closes the kind, and so do as many rounds as there may be facts.
use Rattle.std.proofs.Common.{sym, ◌∙◌, arith}
use Rattle.kind_words.specs.Closing.{no_rounds, one_round_more, rounds_fit, rounds_close}
use Rattle.kinds.proofs.Rounds.{still_by_test}
use Rattle.kinds.proofs.closed_kind.Goals as goal

pub loop-round-init : goal.loop-round-init
loop-round-init c = no_rounds _ _

pub stay_round-next-requires : goal.stay_round-next-requires
stay_round-next-requires c = rw c.loop-round.invariant (rounds_fit _ c.args.prepared.now.ready.established c.requires.0 _)

pub returns-then-same_words : goal.returns-then-same_words
returns-then-same_words c =
    still_by_test _ c.args.prepared.now.ready.established c.requires.0 _ c.loop-round.invariant c.stay_round-next.ensures
    (sym c.same_words.ensures ∙ c.if-same_words.true)

pub loop-round-preserved : goal.loop-round-preserved
loop-round-preserved c = one_round_more _ _ _ c.loop-round.invariant c.stay_round-next.ensures

pub returns : goal.returns
returns c =
    c.loop-round.invariant ∙ rounds_close _ c.args.prepared.now.ready.established c.requires.0 _ (omega (arith, c.requires.1))
