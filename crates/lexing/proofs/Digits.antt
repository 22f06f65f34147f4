-- Numerals, one digit further. A value above 65535 may be taken for 65536: no digit brings it down again.
use Rattle.std.proofs.Common.{◌≡◌, refl, ap, ◌∙◌, Bool, true, false, List, [], ◌∷◌, ℕ, ◌+◌, ◌*◌, ◌-◌, ◌≤◌, ◌<◌, min, length, get_or, drop, ltb, arith, Result, Ok, Err}
use Rattle.std.specs.Char.{is_ascii_digit}
use borrow.Author.Tests.{lt-ltb, le-ltb, ltb-true, ltb-false, leb-true}
use Rattle.foundation.specs.Tests.{choose}
use Rattle.lexing.specs.Numerals.{numeral_from, numeral_of, digit}
use Rattle.lexing.specs.declared.numerals.NotNumber.{NotNumber}
use Rattle.lexing.specs.declared.numerals.NotNumber.TheVariants.{TooLarge, Word}
use Rattle.lexing.proofs.Scans.{at_byte, at_end}
use lib.Dec.{leb}

-- values that are equal up to 65536 make the same numeral
pub capped : (v w : ℕ) (l : List ℕ) → min v 65536 ≡ min w 65536 → numeral_from v l ≡ numeral_from w l
unfolding numeral_from
capped v w [] e = go (ltb v 65536) refl
  where
    go : (t : Bool) → ltb v 65536 ≡ t → numeral_from v [] ≡ numeral_from w []
    go true q =
        let l : v < 65536 = ltb-true v 65536 q in
        let same : v ≡ w = omega arith in
        ap (λ (x : ℕ). numeral_from x []) same
    go false q =
        let l : 65536 ≤ v = ltb-false v 65536 q in
        rw (q, le-ltb w 65536 (omega arith))
capped v w (b ∷ rest) e =
    ap (λ (r : Result ℕ NotNumber). choose (is_ascii_digit b) r (Err Word)) (capped (v * 10 + (b - 48)) (w * 10 + (b - 48)) rest (omega arith))

module _ (s : List ℕ) (v i : ℕ) where
  pub numeral_further : i < length s → is_ascii_digit (get_or s i 0) ≡ true
      → numeral_from v (drop i s) ≡ numeral_from (min (v * 10 + (get_or s i 0 - 48)) 65536) (drop (i + 1) s)
  unfolding numeral_from
  numeral_further h e = at_byte (numeral_from v) s i h ∙ rw e (capped _ _ (drop (i + 1) s) (omega arith))

  pub numeral_stopped : i < length s → is_ascii_digit (get_or s i 0) ≡ false → numeral_from v (drop i s) ≡ Err Word
  unfolding numeral_from
  numeral_stopped h e = at_byte (numeral_from v) s i h ∙ rw e

  pub numeral_fits : length s ≤ i → v < 65536 → numeral_from v (drop i s) ≡ Ok v
  unfolding numeral_from
  numeral_fits h l = at_end (numeral_from v) s i h ∙ rw (lt-ltb v 65536 l)

  pub numeral_large : length s ≤ i → 65536 ≤ v → numeral_from v (drop i s) ≡ Err TooLarge
  unfolding numeral_from
  numeral_large h l = at_end (numeral_from v) s i h ∙ rw (le-ltb v 65536 l)

pub numeral_none : (s : List ℕ) → length s ≡ 0 → numeral_of s ≡ Err Word
unfolding numeral_of
numeral_none [] e = refl
numeral_none (b ∷ rest) e = absurd (omega arith)

pub numeral_some : (s : List ℕ) → 0 < length s → numeral_of s ≡ numeral_from 0 s
unfolding numeral_of
numeral_some [] h = absurd (omega arith)
numeral_some (b ∷ rest) h = refl

pub ruleset digits = (numeral_none, numeral_some, numeral_further, numeral_stopped, numeral_fits, numeral_large)

pub digit_least : (b : ℕ) → digit b ≡ true → 48 ≤ b
digit_least b e = go (leb 48 b) refl e
  where
    go : (t : Bool) → leb 48 b ≡ t → digit b ≡ true → 48 ≤ b
    go true l e = leb-true 48 b l
    go false l e = absurd (let z : false ≡ true = rw l at e in let q : ◌≡◌ {A = ℕ} 0 1 = cc in omega arith)
