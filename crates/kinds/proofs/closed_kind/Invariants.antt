-- Round by round; a round that adds nothing closes the kind, and so do as many rounds as there may be facts.
use Rattle.std.specs.Prelude.{◌≡◌}
use Rattle.kind_words.specs.Closing.{rounds_on}
use Rattle.prepared.specs.Contract.{contract_of}
use Rattle.kinds.proofs.closed_kind.Given as goal

abbrev pub invariant-loop-round : goal.invariant-loop-round
invariant-loop-round l = l.closed ≡ rounds_on (contract_of l.prepared) l._round l.initial.closed
