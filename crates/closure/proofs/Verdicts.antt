-- The verdict on a list by what is told of its symbols one after another.
use mathlib.Core.Path.{◌≡◌, refl, sym}
use mathlib.Core.Bool.{true}
use mathlib.Core.List.{List}
use mathlib.Core.Logic.{inl, inr}
use Prim.Native.Nat.{ℕ, ◌+◌, ◌*◌, ◌<◌, ◌≤◌}
use native.Mathlib.Omega.{arith}
use native.Mathlib.Decide.{ℕ_discrete}
use Rattle.foundation.specs.Tests.{true_test, false_test}
use Rattle.model.specs.Tables.{Contract}
use Rattle.model.specs.Answers.{fine, refused}
use Rattle.model.specs.Examining.{most_kinds, sent_count, five_words, closed_verdict, HoldsOver, ListedBefore}
use Rattle.model.proofs.Laws.Established.{Established}
use Rattle.model.proofs.Laws.Masked.{masked_next}
use Rattle.model.proofs.Meaning.Examining.{holds_held, closed_for, closed_good}
use Rattle.std.specs.Prelude.{Ok, Err}
use Rattle.closure.specs.declared.Open.{Open}
use Rattle.closure.specs.Held.{held_over, FirstOpen, SymbolTold, ToldInside, open_verdict}

-- the symbols before s are closed
abbrev pub ClosedBefore : Contract → List ℕ → ℕ → Type 0
ClosedBefore C words s =
    (r i j : ℕ) → 1 ≤ r → r < s → i < sent_count words → j < sent_count words → held_over C words r i j ≡ true

module _ (C : Contract) (known : Established C) (words : List ℕ) where
  abbrev n : ℕ
  n = sent_count words

  held : (s i j : ℕ) → held_over C words s i j ≡ true → HoldsOver C words s i j
  held s i j e = (holds_held C known words _ (masked_next C known s (five_words words i) (five_words words j))).0 (true_test _ e)

  pub closed_all : (s : ℕ) → C.transformation.symbols ≤ s → ClosedBefore C words s → fine ≡ closed_verdict C words
  closed_all s all closed =
      sym ((closed_good C known words).1 (λ r i j one below hi hj. held r i j (closed r i j one (omega arith) hi hj)))

  -- and symbol s is not
  pub open_at : (s i j : ℕ) → 1 ≤ s → s < C.transformation.symbols → ClosedBefore C words s → FirstOpen C words s i j
      → refused 72 ((s * most_kinds + i) * most_kinds + j) ≡ closed_verdict C words
  open_at s i j one below closed at =
      sym
      (((closed_for C known words).refuses 72 _).1
      (inl (
        refl,
        record {
          symbol = s;
          left = i;
          right = j;
          is_symbol = (one, below);
          is_left = at.left_inside;
          is_right = at.right_inside;
          is_place = refl;
          missing = λ h. false_test _ at.missing ((holds_held C known words _ (masked_next C known s (five_words words i) (five_words words j))).1 h);
          held_before = before;
        },
      )))
    where
      before : (r k m : ℕ) → 1 ≤ r → k < n → m < n → ListedBefore r k m s i j → HoldsOver C words r k m
      before r k m one' hk hm (inl l) = held r k m (closed r k m one' l hk hm)
      before r k m one' hk hm (inr (e, inl l)) = rw e (held s k m (at.earlier_left k m l hm))
      before r k m one' hk hm (inr (e, inr (f, l))) = rw (e, f) (held s i m (at.earlier_right m l))

  -- what is told of symbol s is of the list
  pub told_inside : (s : ℕ) (pair : Open) → SymbolTold C words s (Err pair) → ToldInside n (Err pair)
  told_inside s pair (same, at) = (at.left_inside, at.right_inside)

  -- symbol s, as it is told: the next one comes, or the answer is known
  pub closed_more : (s : ℕ) → ClosedBefore C words s → SymbolTold C words s (Ok tt) → ClosedBefore C words (s + 1)
  closed_more s closed here r i j one less hi hj = go (ℕ_discrete r s)
    where
      go : Dec (r ≡ s) → held_over C words r i j ≡ true
      go (yes e) = rw e (here i j hi hj)
      go (no ne) = closed r i j one (omega arith) hi hj

  pub open_told : (s : ℕ) (pair : Open) → 1 ≤ s → s < C.transformation.symbols → ClosedBefore C words s → SymbolTold C words s (Err pair)
      → open_verdict pair ≡ closed_verdict C words
  open_told s pair one below closed (same, at) = rw same (open_at s pair.left.0 pair.right.0 one below closed at)
