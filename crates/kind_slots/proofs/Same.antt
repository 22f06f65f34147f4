-- Kinds that are the same have the same five words, so the same sums, and the test of them is that of two lists; kinds in a list of 64-bit
-- words; and a kind that is stored stands in its row, the others stay.
use Rattle.std.proofs.Common.{◌≡◌, ℕ, zero, suc, ◌+◌, ◌*◌, ◌^◌, ◌<◌, ◌≤◌, Bool, true, false, ◌&&◌, eqb, List, [], ◌∷◌, ◌++◌, length, get_or, set, refl, ◌∙◌, arith, length-set, get_or-set_other, get_or-set_same, pow_pos, eqb-true}
use Rattle.foundation.specs.Tests.{◌and◌, same}
use Rattle.foundation.specs.Lists.{same_list, five}
use Rattle.kind_slots.specs.Stored.{padded_kind, same_words, with_kind}
use Rattle.kind_slots.specs.Slots.{kind_sum, weighted_sum}

both : (a b : Bool) → (a && b) ≡ true → (a ≡ true) × (b ≡ true)
both true true e = (refl, refl)
both true false e = (refl, e)
both false b e = (e, absurd (let z : ◌≡◌ {A = ℕ} 0 1 = cc in omega arith))

pub all_five : (a b c d e : Bool) → ((((a && b) && c) && d) && e) ≡ true → (a ≡ true) × (b ≡ true) × (c ≡ true) × (d ≡ true) × (e ≡ true)
all_five a b c d e t =
    let p = both (((a && b) && c) && d) e t in
    let q = both ((a && b) && c) d p.0 in
    let r = both (a && b) c q.0 in
    let s = both a b r.0 in
    (s.0, s.1, r.1, q.1, p.1)

-- the test of five words is that of two lists of five
pub same_words_list : (a b : List ℕ) → length a ≡ 5 → length b ≡ 5 → same_words (a ++ (0 ∷ [])) (b ++ (0 ∷ [])) ≡ same_list a b
unfolding same_words same_list same ◌and◌
same_words_list a b e f = rw (five a e, five b f) (both_ways (at 0) (at 1) (at 2) (at 3) (at 4))
  where
    at : ℕ → Bool
    at w = eqb (get_or a w 0) (get_or b w 0)

    both_ways : (p q r s t : Bool) → ((((p && q) && r) && s) && t) ≡ (p and (q and (r and (s and (t and true)))))
    both_ways false q r s t = refl
    both_ways true false r s t = refl
    both_ways true true false s t = refl
    both_ways true true true false t = refl
    both_ways true true true true false = refl
    both_ways true true true true true = refl

-- kinds in a list of 64-bit words have such words
pub padded_small : (words : List ℕ) → ((k : ℕ) → get_or words k 0 < 2 ^ 64) → (j k : ℕ) → get_or (padded_kind words j) k 0 < 2 ^ 64
padded_small words h j zero = h (5 * j)
padded_small words h j (suc zero) = h (5 * j + 1)
padded_small words h j (suc (suc zero)) = h (5 * j + 2)
padded_small words h j (suc (suc (suc zero))) = h (5 * j + 3)
padded_small words h j (suc (suc (suc (suc zero)))) = h (5 * j + 4)
padded_small words h j (suc (suc (suc (suc (suc zero))))) = pow_pos 64
padded_small words h j (suc (suc (suc (suc (suc (suc k)))))) = pow_pos 64

-- the five words of two kinds are equal
pub record Alike (a b : List ℕ) : Type 0 where
  pub word0 : get_or a 0 0 ≡ get_or b 0 0
  pub word1 : get_or a 1 0 ≡ get_or b 1 0
  pub word2 : get_or a 2 0 ≡ get_or b 2 0
  pub word3 : get_or a 3 0 ≡ get_or b 3 0
  pub word4 : get_or a 4 0 ≡ get_or b 4 0

pub same_alike : (a b : List ℕ) → same_words a b ≡ true → Alike a b
unfolding same_words
same_alike a b t =
    let (h0, h1, h2, h3, h4) = all_five _ _ _ _ _ t in
    record { word0 = eqb-true _ _ h0; word1 = eqb-true _ _ h1; word2 = eqb-true _ _ h2; word3 = eqb-true _ _ h3; word4 = eqb-true _ _ h4 }

pub same_as : (a b c : List ℕ) → Alike b c → same_words a b ≡ same_words a c
unfolding same_words
same_as a b c h = rw (h.word0, h.word1, h.word2, h.word3, h.word4)

pub same_to : (a b c : List ℕ) → Alike a b → same_words a c ≡ same_words b c
unfolding same_words
same_to a b c h = rw (h.word0, h.word1, h.word2, h.word3, h.word4)

pub alike_sum : (a b : List ℕ) → Alike a b → kind_sum a ≡ kind_sum b
unfolding kind_sum
alike_sum a b h = rw (h.word0, h.word1, h.word2, h.word3, h.word4)

pub alike_weighted : (a b : List ℕ) → Alike a b → weighted_sum a ≡ weighted_sum b
unfolding weighted_sum
alike_weighted a b h = rw (h.word0, h.word1, h.word2, h.word3, h.word4)

module _ (words : List ℕ) (n : ℕ) (kind : List ℕ) (room : 5 * n + 5 ≤ length words) where
  -- the words after one, two, three and four stores
  abbrev one : List ℕ
  one = set words (5 * n) (get_or kind 0 0)

  abbrev two : List ℕ
  two = set one (5 * n + 1) (get_or kind 1 0)

  abbrev three : List ℕ
  three = set two (5 * n + 2) (get_or kind 2 0)

  abbrev four : List ℕ
  four = set three (5 * n + 3) (get_or kind 3 0)

  -- later stores do not touch a word
  keep_two : (i : ℕ) → (i ≡ 5 * n + 1 → ⊥) → get_or two i 0 ≡ get_or one i 0
  keep_two i ne = get_or-set_other one (5 * n + 1) i (get_or kind 1 0) 0 ne

  keep_three : (i : ℕ) → (i ≡ 5 * n + 2 → ⊥) → get_or three i 0 ≡ get_or two i 0
  keep_three i ne = get_or-set_other two (5 * n + 2) i (get_or kind 2 0) 0 ne

  keep_four : (i : ℕ) → (i ≡ 5 * n + 3 → ⊥) → get_or four i 0 ≡ get_or three i 0
  keep_four i ne = get_or-set_other three (5 * n + 3) i (get_or kind 3 0) 0 ne

  keep_five : (i : ℕ) → (i ≡ 5 * n + 4 → ⊥) → get_or (with_kind words n kind) i 0 ≡ get_or four i 0
  keep_five i ne = get_or-set_other four (5 * n + 4) i (get_or kind 4 0) 0 ne

  -- the words before a row that is stored stay
  before_stored : (i : ℕ) → i < 5 * n → get_or (with_kind words n kind) i 0 ≡ get_or words i 0
  before_stored i l =
      keep_five i (λ e. omega arith)
      ∙ keep_four i (λ e. omega arith)
      ∙ keep_three i (λ e. omega arith)
      ∙ keep_two i (λ e. omega arith)
      ∙ get_or-set_other words (5 * n) i (get_or kind 0 0) 0 (λ e. omega arith)

  pub row_before_stored : (j : ℕ) → j < n → Alike (padded_kind (with_kind words n kind) j) (padded_kind words j)
  row_before_stored j l =
      record {
        word0 = before_stored (5 * j) (omega arith);
        word1 = before_stored (5 * j + 1) (omega arith);
        word2 = before_stored (5 * j + 2) (omega arith);
        word3 = before_stored (5 * j + 3) (omega arith);
        word4 = before_stored (5 * j + 4) (omega arith);
      }

  -- .. and the row has the kind
  pub row_stored : Alike (padded_kind (with_kind words n kind) n) kind
  row_stored =
      record {
        word0 =
            keep_five (5 * n) (λ e. omega arith)
            ∙ keep_four (5 * n) (λ e. omega arith)
            ∙ keep_three (5 * n) (λ e. omega arith)
            ∙ keep_two (5 * n) (λ e. omega arith)
            ∙ get_or-set_same words (5 * n) (get_or kind 0 0) 0 (omega arith);
        word1 =
            keep_five (5 * n + 1) (λ e. omega arith)
            ∙ keep_four (5 * n + 1) (λ e. omega arith)
            ∙ keep_three (5 * n + 1) (λ e. omega arith)
            ∙ get_or-set_same one (5 * n + 1) (get_or kind 1 0) 0 (simp length-set (omega arith));
        word2 =
            keep_five (5 * n + 2) (λ e. omega arith)
            ∙ keep_four (5 * n + 2) (λ e. omega arith)
            ∙ get_or-set_same two (5 * n + 2) (get_or kind 2 0) 0 (simp length-set (omega arith));
        word3 = keep_five (5 * n + 3) (λ e. omega arith) ∙ get_or-set_same three (5 * n + 3) (get_or kind 3 0) 0 (simp length-set (omega arith));
        word4 = get_or-set_same four (5 * n + 4) (get_or kind 4 0) 0 (simp length-set (omega arith));
      }
