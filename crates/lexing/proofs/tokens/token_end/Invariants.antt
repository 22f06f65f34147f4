-- The token ends where the stretch from the place reached on does.
use Rattle.std.proofs.Common.{◌≡◌, drop}
use Rattle.lexing.specs.Text.{token_end}
use Rattle.lexing.proofs.tokens.token_end.Given as goal

abbrev pub invariant-loop-place : goal.invariant-loop-place
invariant-loop-place l = token_end l.place (drop l.place l.text) ≡ token_end l.at (drop l.at l.text)
