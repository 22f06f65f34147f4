-- A part of a table is filled with one number.
use Rattle.std.proofs.Common.{◌≡◌, ℕ, ◌+◌, ◌-◌, ◌<◌, ◌≤◌, List, length, take, drop, get_or, replicate, ap, ◌∙◌, arith, rules}
use Rattle.std.proofs.lemmas.List.{places, get_or-replicate, get_or_append_left, get_or-append_right, length-take-le, length-drop, length-append, length-replicate, get_or-drop}
use Rattle.std.proofs.Math.Decide.{dec_lt}
use borrow.Rule.Slice.PartMut.{put_mid}
use Rattle.kind_words.specs.Sizes.{rule_symbols}
use Rattle.chains.specs.Chaining.{Emptied, NotFirst}

module _ (firsts : ℕ) (before part : List ℕ) (room : firsts + rule_symbols ≤ length before) (filled : length part ≡ rule_symbols) where
  front : length (take firsts before) ≡ firsts
  front = length-take-le firsts before (omega arith)

  put_long : length (put_mid firsts rule_symbols before part) ≡ length before
  put_long = simp (length-append, length-drop, front, filled) (omega arith)

  put_first : (t : ℕ) → t < rule_symbols → get_or (put_mid firsts rule_symbols before part) (firsts + t) 0 ≡ get_or part t 0
  put_first t h = get_or-append_right _ _ firsts (firsts + t) 0 front (omega arith) ∙ grind (arith, get_or_append_left)

  put_kept : (j : ℕ) → NotFirst firsts j → get_or (put_mid firsts rule_symbols before part) j 0 ≡ get_or before j 0
  put_kept j not_first = go (dec_lt j firsts) (dec_lt (j - firsts) rule_symbols)
    where
      go : Dec (j < firsts) → Dec (j - firsts < rule_symbols) → get_or (put_mid firsts rule_symbols before part) j 0 ≡ get_or before j 0
      go (yes l) d = search (rules, places)
      go (no l) (yes m) = absurd (not_first (j - firsts) m (omega arith))
      go (no l) (no m) =
          get_or-append_right _ _ firsts j 0 front (omega arith)
          ∙ get_or-append_right _ _ rule_symbols (j - firsts) 0 filled (omega arith)
          ∙ get_or-drop rule_symbols (drop firsts before) (j - firsts - rule_symbols) 0
          ∙ get_or-drop firsts before (rule_symbols + (j - firsts - rule_symbols)) 0
          ∙ ap (λ (i : ℕ). get_or before i 0) (omega arith)

pub emptied : (firsts k n entry : ℕ) (before part : List ℕ) → firsts + rule_symbols ≤ length before → k ≡ rule_symbols → entry ≡ n
    → part ≡ replicate (length (take k (drop firsts before))) entry
    → Emptied firsts n before (put_mid firsts k before part)
emptied firsts k n entry before part room ek en e =
    let filled : length part ≡ rule_symbols = rw (e, ek) (length-replicate _ _ ∙ length-take-le rule_symbols (drop firsts before) (omega (arith, length-drop firsts before))) in
    rw ek (record {
      long = put_long firsts before part room filled;
      first = λ t h. put_first firsts before part room filled t h ∙ rw (e, ek) (get_or-replicate _ t _ 0 (omega (arith, length-take-le rule_symbols (drop firsts before) (omega (arith, length-drop firsts before)))) ∙ en);
      kept = put_kept firsts before part room filled;
    })
