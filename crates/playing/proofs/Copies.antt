-- Copies: numbers put one by one at the beginning of a buffer. A buffer that is filled with sevens is a copy of as many.
use mathlib.Core.Path.{◌≡◌, refl, ap, ap₂, sym, ◌∙◌}
use mathlib.Core.List.{List, [], ◌∷◌, ◌++◌}
use Prim.Native.Nat.{ℕ, ◌+◌, ◌≤◌, ◌<◌}
use native.Mathlib.Numerals.{add-one}
use native.Mathlib.Omega.{arith}
use lib.ListN.{length, get_or, take, drop, set, length-set, length-replicate, get_or-replicate, take-append-drop, drop_of_length-le}
use lib.Seq.{take-suc, take-suc-set, drop-set-lt, drop-drop, take-length}
use Rattle.foundation.specs.Lists.{append-nil}
use Rattle.script.specs.Spans.{overwritten}
use Rattle.script.specs.Meaning.{untouched}

-- the first i numbers are copied
pub record Copied (from entry into : List ℕ) (i : ℕ) : Type 0 where
  pub within : i ≤ length from
  pub same : length into ≡ length entry
  pub front : take i into ≡ take i from
  pub back : drop i into ≡ drop i entry

pub copied_start : (from entry : List ℕ) → Copied from entry entry 0
copied_start from entry = record { within = omega arith; same = refl; front = refl; back = refl }

module _ {from entry into : List ℕ} {i : ℕ} (c : Copied from entry into i) where
  pub copied_more : {value : ℕ} → i < length from → i < length into → value ≡ get_or from i 0 → Copied from entry (set into i value) (i + 1)
  copied_more {value} h k e =
      record {
        within = omega arith;
        same = length-set into i value ∙ c.same;
        front =
            ap (λ (n : ℕ). take n (set into i value)) (add-one i)
            ∙ take-suc-set into i value k
            ∙ ap₂ (λ (l : List ℕ) (v : ℕ). l ++ (v ∷ [])) c.front e
            ∙ sym (take-suc from i 0 h)
            ∙ ap (λ (n : ℕ). take n from) (sym (add-one i));
        back =
            drop-set-lt (i + 1) into i value (omega arith)
            ∙ sym (drop-drop 1 i into)
            ∙ ap (drop 1) c.back
            ∙ drop-drop 1 i entry;
      }

  pub copied_end : length from ≤ i → into ≡ overwritten from entry
  copied_end h =
      let all : i ≡ length from = let w : i ≤ length from = c.within in omega arith in
      sym (take-append-drop i into)
      ∙ ap₂ ◌++◌ (c.front ∙ ap (λ (n : ℕ). take n from) all ∙ take-length from) (c.back ∙ ap (λ (n : ℕ). drop n entry) all)

-- filling is copying as many sevens as there are places
pub filled_more : {entry into : List ℕ} {i : ℕ} → Copied (untouched (length entry)) entry into i → i < length into → Copied (untouched (length entry)) entry (set into i 7) (i + 1)
filled_more {entry} {into} {i} c h =
    let n : length (untouched (length entry)) ≡ length entry = length-replicate {A = ℕ} (length entry) 7 in
    let s : length into ≡ length entry = c.same in
    copied_more c (omega arith) h (sym (get_or-replicate {A = ℕ} (length entry) i 7 0 (omega arith)))

pub filled_end : {entry into : List ℕ} {i : ℕ} → Copied (untouched (length entry)) entry into i → length into ≤ i → into ≡ untouched (length entry)
filled_end {entry} {into} {i} c h =
    let n : length (untouched (length entry)) ≡ length entry = length-replicate {A = ℕ} (length entry) 7 in
    let s : length into ≡ length entry = c.same in
    copied_end c (omega arith)
    ∙ ap (λ (l : List ℕ). untouched (length entry) ++ l) (drop_of_length-le entry {i = length (untouched (length entry))} (omega arith))
    ∙ append-nil (untouched (length entry))
