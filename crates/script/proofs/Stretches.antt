-- Stretches: a token lies within its text, and what comes next by the tests that tell it.
use mathlib.Core.Path.{◌≡◌, ap, sym, subst, ◌∙◌}
use mathlib.Core.Bool.{◌&&◌}
use Prim.Native.Nat.{◌<◌}
use lib.Dec.{leb}
use borrow.Author.Tests.{le-leb, lt-leb}
use Rattle.std.proofs.Common.{Bool, true, false, List, [], ◌∷◌, ℕ, suc, ◌+◌, ◌≤◌, arith, length, drop, length-drop}
use Rattle.std.specs.Prelude.{Result, Ok, Err}
use Rattle.foundation.specs.Tests.{choose}
use Rattle.lexing.specs.Text.{ending, token_start, token_end}
use Rattle.lexing.specs.Numerals.{numeral_of}
use Rattle.lexing.specs.declared.numerals.NotNumber.{NotNumber}
use Rattle.script.specs.Spans.{SpanWithin, span_from, span_at, fault, bytes_of, whole, ahead_of, ahead_from, ahead_at, due_of, due_at}
use Rattle.script.specs.declared.spans.Span.{Span}
use Rattle.script.specs.declared.spans.Fault.{Fault}
use Rattle.script.specs.declared.spans.Expected.TheVariants as expected
use Rattle.script.specs.declared.spans.Ahead.{Ahead}
use Rattle.script.specs.declared.spans.Ahead.TheVariants as ahead

pub end_least : (at : ℕ) (rest : List ℕ) → at ≤ token_end at rest
unfolding token_end
end_least at [] = omega arith
end_least at (b ∷ rest) = go (ending b) (end_least (suc at) rest)
  where
    go : (t : Bool) → suc at ≤ token_end (suc at) rest → at ≤ choose t at (token_end (suc at) rest)
    go true l = omega arith
    go false l = omega arith

pub end_most : (at : ℕ) (rest : List ℕ) → token_end at rest ≤ at + length rest
unfolding token_end
end_most at [] = omega arith
end_most at (b ∷ rest) = go (ending b) (end_most (suc at) rest)
  where
    go : (t : Bool) → token_end (suc at) rest ≤ suc at + length rest → choose t at (token_end (suc at) rest) ≤ at + suc (length rest)
    go true l = omega arith
    go false l = omega arith

-- the span of a token
pub span_within : (text : List ℕ) (start : ℕ) → SpanWithin text (span_from text start)
span_within text start = (end_least start (drop start text), λ l. omega (arith, end_most start (drop start text), length-drop start text))

abbrev span_of : ℕ → ℕ → Span
span_of s e = record { start = s; end = e }

-- a span from its two ends
pub span_is : (text : List ℕ) (at s e : ℕ) → s ≡ token_start false at (drop at text) → e ≡ token_end s (drop s text)
    → ◌≡◌ {A = Span} (record { start = s; end = e }) (span_at text at)
span_is text at s e p q = ap (span_of s) q ∙ ap (span_from text) p

module _ (text : List ℕ) (at : ℕ) (span : Span) (is : span ≡ span_at text at) where
  pub span_least : span.start ≤ span.end
  span_least = subst (λ (s : Span). s.start ≤ s.end) (sym is) (end_least _ _)

  pub span_most : span.start ≤ length text → span.end ≤ length text
  span_most = subst (λ (s : Span). s.start ≤ length text → s.end ≤ length text) (sym is) (λ l. omega (arith, end_most (span_at text at).start (drop (span_at text at).start text), length-drop (span_at text at).start text))

  module _ (cut : Bool) where
    pub ahead_cut : (cut && leb (length text) span.end) ≡ true → Err (fault span expected.End) ≡ ahead_at text cut at
    unfolding ahead_at
    ahead_cut t = subst (λ (s : Span). Err (fault span expected.End) ≡ ahead_from text (whole text cut s)) is (rw t)

    pub ahead_end : (cut && leb (length text) span.end) ≡ false → length text ≤ span.start → Ok (ahead.Other span) ≡ ahead_at text cut at
    unfolding ahead_at
    ahead_end t l = subst (λ (s : Span). Ok (ahead.Other span) ≡ ahead_from text (whole text cut s)) is (rw (t, le-leb _ _ l))

    pub ahead_token : (cut && leb (length text) span.end) ≡ false → span.start < length text → (n : Result ℕ NotNumber) → numeral_of (bytes_of text span) ≡ n → ahead_of span n ≡ ahead_at text cut at
    unfolding ahead_at
    ahead_token t l n e = subst (λ (s : Span). ahead_of span n ≡ ahead_from text (whole text cut s)) is (rw (t, lt-leb _ _ l, e))

-- what must be a number, by what comes next
pub due_by : (text : List ℕ) (cut : Bool) (at : ℕ) (a : Result Ahead Fault) → ahead_at text cut at ≡ a → due_of a ≡ due_at text cut at
unfolding due_at
due_by text cut at a e = ap due_of (sym e)
