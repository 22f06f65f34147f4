-- Scans of a text, one byte further: what a definition over the rest of a text says at a place of it.
use mathlib.Core.Path.{◌≡◌, refl, ap, sym, ◌∙◌}
use mathlib.Core.Bool.{Bool, true, false, ◌||◌}
use mathlib.Core.List.{List, [], ◌∷◌}
use Prim.Native.Nat.{ℕ, ◌+◌, ◌≤◌, ◌<◌}
use native.Mathlib.Numerals.{add-one}
use lib.ListN.{length, get_or, drop, drop_of_length-le}
use lib.Seq.{drop-cons}
use Rattle.lexing.specs.Text.{ending, comment_after, token_start, token_end, line_feed, newlines}
use native.Mathlib.Omega.{arith}
use lib.Dec.{eqb}
use Rattle.foundation.specs.Tests.{choose}
use Rattle.std.specs.Prelude.{cond, ◌==◌}
use Rattle.std.proofs.lemmas.List.Recursion.{is_count_by}

-- what a definition gives of the rest of a text, from its byte there and the rest behind it
pub at_byte : {A : Type 0} (f : List ℕ → A) (s : List ℕ) (i : ℕ) → i < length s → f (drop i s) ≡ f (get_or s i 0 ∷ drop (i + 1) s)
at_byte f s i h = ap f (rw (add-one i, drop-cons s i 0))

pub at_end : {A : Type 0} (f : List ℕ → A) (s : List ℕ) (i : ℕ) → length s ≤ i → f (drop i s) ≡ f []
at_end f s i h = ap f (drop_of_length-le s h)

module _ (s : List ℕ) (comment : Bool) (i : ℕ) where
  pub start_here : i < length s → (comment || ending (get_or s i 0)) ≡ false → token_start comment i (drop i s) ≡ i
  unfolding token_start
  start_here h e = at_byte (token_start comment i) s i h ∙ rw e

  pub start_further : i < length s → (comment || ending (get_or s i 0)) ≡ true
      → token_start comment i (drop i s) ≡ token_start (comment_after comment (get_or s i 0)) (i + 1) (drop (i + 1) s)
  unfolding token_start
  start_further h e = at_byte (token_start comment i) s i h ∙ rw (e, add-one i)

  pub start_none : length s ≤ i → token_start comment i (drop i s) ≡ i
  unfolding token_start
  start_none h = at_end (token_start comment i) s i h

module _ (s : List ℕ) (i : ℕ) where
  pub end_here : i < length s → ending (get_or s i 0) ≡ true → token_end i (drop i s) ≡ i
  unfolding token_end
  end_here h e = at_byte (token_end i) s i h ∙ rw e

  pub end_further : i < length s → ending (get_or s i 0) ≡ false → token_end i (drop i s) ≡ token_end (i + 1) (drop (i + 1) s)
  unfolding token_end
  end_further h e = at_byte (token_end i) s i h ∙ rw (e, add-one i)

  pub end_none : length s ≤ i → token_end i (drop i s) ≡ i
  unfolding token_end
  end_none h = at_end (token_end i) s i h

pub ruleset starts = (start_here, start_further, start_none)

pub ruleset ends = (end_here, end_further, end_none)

-- line feeds, one byte after the other
unfoldable feeds : List ℕ → ℕ
feeds [] = 0
feeds (b ∷ rest) = line_feed b + feeds rest

one_more : (t : Bool) (n : ℕ) → choose t 1 0 + n ≡ cond t (1 + n) n
one_more true n = refl
one_more false n = omega arith

newlines_feeds : (text : List ℕ) → feeds text ≡ newlines text
unfolding newlines feeds
newlines_feeds text = is_count_by feeds (λ b. b == 10) refl (λ b rest. one_more (eqb b 10) (feeds rest)) text

module _ (s : List ℕ) (i : ℕ) where
  pub newlines_further : i < length s → newlines (drop i s) ≡ line_feed (get_or s i 0) + newlines (drop (i + 1) s)
  unfolding feeds
  newlines_further h =
      sym (newlines_feeds (drop i s)) ∙ at_byte feeds s i h ∙ ap (λ (n : ℕ). line_feed (get_or s i 0) + n) (newlines_feeds (drop (i + 1) s))

  pub newlines_none : length s ≤ i → newlines (drop i s) ≡ 0
  unfolding feeds
  newlines_none h = sym (newlines_feeds (drop i s)) ∙ at_end feeds s i h

pub line_feed_small : (b : ℕ) → line_feed b ≤ 1
line_feed_small b = go (eqb b 10)
  where
    go : (t : Bool) → choose t 1 0 ≤ 1
    go true = omega arith
    go false = omega arith
