-- The next token from the place reached on is the one asked for.
use Rattle.std.proofs.Common.{◌≡◌, false, drop}
use Rattle.lexing.specs.Text.{token_start}
use Rattle.lexing.proofs.tokens.token_start.Given as goal

abbrev pub invariant-loop-place : goal.invariant-loop-place
invariant-loop-place l = token_start l.comment l.place (drop l.place l.text) ≡ token_start false l.at (drop l.at l.text)
