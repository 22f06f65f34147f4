-- The one test over the whole table: the checker computes it. At a wrong entry it finds that entry's place and not the end.
use mathlib.Core.Path.{refl}
use Rattle.foundation.specs.Search.{first}
use Rattle.numbering.proofs.powers.Goals as goal

pub returns : goal.returns
unfolding first
returns c = (refl, refl)
