-- Spans: the stretch of the next token from a place on, and numbers that stand there. A text may be cut: the script then
-- goes on behind it, and a token that reaches its end is not read.
use Rattle.std.specs.Prelude.{Bool, false, ◌&&◌, List, [], ◌∷◌, ◌++◌, ℕ, zero, suc, ◌-◌, ◌≤◌, leb, length, take, drop, Result, Ok, Err}
use Rattle.foundation.specs.Tests.{choose}
use Rattle.lexing.specs.Text.{token_start, token_end}
use Rattle.lexing.specs.Numerals.{numeral_of}
use Rattle.lexing.specs.declared.numerals.NotNumber.{NotNumber}
use Rattle.lexing.specs.declared.numerals.NotNumber.TheVariants as not_number
use Rattle.script.specs.declared.spans.Span.{Span}
use Rattle.script.specs.declared.spans.Expected.{Expected}
use Rattle.script.specs.declared.spans.Expected.TheVariants as expected
use Rattle.script.specs.declared.spans.Fault.{Fault}
use Rattle.script.specs.declared.spans.Ahead.{Ahead}
use Rattle.script.specs.declared.spans.Ahead.TheVariants as ahead

-- the next token; at the end of the text it starts there
abbrev pub span_from : List ℕ → ℕ → Span
span_from text start = record { start = start; end = token_end start (drop start text) }

abbrev pub span_at : List ℕ → ℕ → Span
span_at text at = span_from text (token_start false at (drop at text))

-- a span in order, and in the text if it begins there
abbrev pub SpanWithin : List ℕ → Span → Type 0
SpanWithin text span = (span.start ≤ span.end) × (span.start ≤ length text → span.end ≤ length text)

abbrev pub fault : Span → Expected → Fault
fault span e = record { span = span; expected = e }

-- the bytes of a token
abbrev pub bytes_of : List ℕ → Span → List ℕ
bytes_of text span = take (span.end - span.start) (drop span.start text)

-- the next token, which must not reach the end of a text that is cut
abbrev pub whole : List ℕ → Bool → Span → Result Span Fault
whole text cut span = choose (cut && leb (length text) span.end) (Err (fault span expected.End)) (Ok span)

abbrev pub whole_at : List ℕ → Bool → ℕ → Result Span Fault
whole_at text cut at = whole text cut (span_at text at)

-- what a token is where a number may stand
abbrev pub ahead_of : Span → Result ℕ NotNumber → Result Ahead Fault
ahead_of span (Ok value) = Ok (ahead.Number value span)
ahead_of span (Err not_number.TooLarge) = Err (fault span expected.Number)
ahead_of span (Err not_number.Word) = Ok (ahead.Other span)

abbrev pub ahead_from : List ℕ → Result Span Fault → Result Ahead Fault
ahead_from text (Ok span) = choose (leb (length text) span.start) (Ok (ahead.Other span)) (ahead_of span (numeral_of (bytes_of text span)))
ahead_from text (Err f) = Err f

-- what comes next where a number may stand
unfoldable pub ahead_at : List ℕ → Bool → ℕ → Result Ahead Fault
ahead_at text cut at = ahead_from text (whole_at text cut at)

-- and where a number must stand: the number, and the place behind it
abbrev pub due_of : Result Ahead Fault → Result (ℕ × ℕ) Fault
due_of (Ok (ahead.Number value span)) = Ok (value, span.end)
due_of (Ok (ahead.Other span)) = Err (fault span expected.Number)
due_of (Err f) = Err f

unfoldable pub due_at : List ℕ → Bool → ℕ → Result (ℕ × ℕ) Fault
due_at text cut at = due_of (ahead_at text cut at)

-- a list of numbers, with the place behind it or the fault in it
pub record Listing : Type 0 where
  pub values : List ℕ
  pub ending : Result ℕ Fault

abbrev pub more : ℕ → Listing → Listing
more value l = record { values = value ∷ l.values; ending = l.ending }

abbrev pub no_more : Result ℕ Fault → Listing
no_more e = record { values = []; ending = e }

-- by what comes next, and what a number makes of it
abbrev pub listing_of : Result Ahead Fault → ℕ → (ℕ → Span → Listing) → Listing
listing_of (Ok (ahead.Number value span)) at on_number = on_number value span
listing_of (Ok (ahead.Other span)) at on_number = no_more (Ok at)
listing_of (Err f) at on_number = no_more (Err f)

-- the numbers from a place up to the next word or the end, into a buffer with so much room
unfoldable pub listing : List ℕ → Bool → (room at : ℕ) → Listing
listing text cut zero at = listing_of (ahead_at text cut at) at (λ value span. no_more (Err (fault span expected.Fewer)))
listing text cut (suc room) at = listing_of (ahead_at text cut at) at (λ value span. more value (listing text cut room span.end))

-- with the count of the numbers
abbrev pub numbers_by : ℕ → Result ℕ Fault → Result (ℕ × ℕ) Fault
numbers_by count (Ok next) = Ok (count, next)
numbers_by count (Err f) = Err f

abbrev pub numbers_of : Listing → Result (ℕ × ℕ) Fault
numbers_of l = numbers_by (length l.values) l.ending

-- a buffer that holds a list, and behind it what it held before
abbrev pub overwritten : List ℕ → List ℕ → List ℕ
overwritten values buffer = values ++ drop (length values) buffer
