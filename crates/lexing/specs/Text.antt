-- Text: blanks, comments, tokens and lines of a script. A text is the list of its bytes; a place is how many bytes stand
-- before it; what stands from a place on is `rest`.
use Rattle.std.specs.Prelude.{Bool, ◌&&◌, ◌||◌, not, List, [], ◌∷◌, ℕ, suc, eqb, ◌==◌, count_by}
use Rattle.foundation.specs.Tests.{choose}

-- a byte that a token ends before: space, tab, carriage return, line feed, `#`
abbrev pub ending : ℕ → Bool
ending b = eqb b 32 || (eqb b 9 || (eqb b 13 || (eqb b 10 || eqb b 35)))

-- a comment begins at `#` and lasts to the end of its line: whether one goes on behind the byte b
abbrev pub comment_after : Bool → ℕ → Bool
comment_after comment b = not (eqb b 10) && (comment || eqb b 35)

-- where the next token begins, or the end of the text
unfoldable pub token_start : (comment : Bool) (at : ℕ) (rest : List ℕ) → ℕ
token_start comment at [] = at
token_start comment at (b ∷ rest) = choose (comment || ending b) (token_start (comment_after comment b) (suc at) rest) at

-- where the token that begins at a place ends
unfoldable pub token_end : (at : ℕ) (rest : List ℕ) → ℕ
token_end at [] = at
token_end at (b ∷ rest) = choose (ending b) at (token_end (suc at) rest)

-- how many line feeds there are
unfoldable pub newlines : List ℕ → ℕ
newlines text = count_by (λ b. b == 10) text

abbrev pub line_feed : ℕ → ℕ
line_feed b = choose (eqb b 10) 1 0
