-- The first kinds of a symbol's classes tell of all kinds: kinds of one class make the same kind, and the first of a class is not behind the
-- others.
use mathlib.Core.Path.{◌≡◌, ap, subst, sym, ◌∙◌}
use mathlib.Core.Bool.{true}
use mathlib.Core.List.{List}
use Prim.Native.Nat.{ℕ, ◌<◌, ◌≤◌}
use native.Mathlib.Omega.{arith}
use native.Mathlib.Decide.{dec_lt, ℕ_discrete}
use Rattle.std.specs.Prelude.{Result, Ok, Err}
use lib.ListN.{length, get_or, take}
use lib.Seq.{length-take-le}
use Rattle.model.specs.Tables.{Contract}
use Rattle.model.specs.Examining.{sent_count, holds}
use Rattle.model.proofs.Laws.Established.{Established}
use Rattle.classes.specs.Masks.{Covered, AgreeUnder, mask_in, class_agree, agree_self}
use Rattle.kind_slots.specs.Stored.{kind_in, padded_kind}
use Rattle.row_marks.specs.Marks.{agrees-under}
use Rattle.shown_kinds.specs.Chains.{PutInChains}
use Rattle.shown_kinds.proofs.Firsts.{Firsts, first_rows_lem}
use Rattle.closure.specs.Held.{held_over, NumbersOf, AllHeld, OpenAt, PairsTold, FirstOpen, SymbolTold}
use Rattle.closure.specs.declared.Open.{Open}

-- the first kinds that were put in front of a buffer
module _ (words masks : List ℕ) (s : ℕ) {mask chains firsts : List ℕ} {found : ℕ} (is_mask : mask ≡ padded_kind masks s)
    (put : PutInChains words mask (sent_count words) chains firsts found) where
  pub class_firsts : Firsts words (padded_kind masks s) (sent_count words) (take found firsts)
  class_firsts = rw (put.first_ones, is_mask) (first_rows_lem words (padded_kind masks s) (sent_count words))

  pub class_count : length words ≤ 20480 → found ≡ length (take found firsts)
  class_count few = sym (length-take-le found firsts (omega (arith, put.few, put.firsts_long)))

  pub class_numbers : (C : Contract) → length words ≤ 20480 → NumbersOf C words (take found firsts)
  class_numbers C few = record { few = omega (arith, class_count few, put.few); inside = class_firsts.below }

-- what is told of a symbol, by its number
pub tells_number : (C : Contract) (words lefts rights : List ℕ) (told : Result Unit Open) {symbol number : ℕ} → symbol ≡ number
    → PairsTold C words symbol lefts rights told → PairsTold C words number lefts rights told
tells_number C words lefts rights told e here = subst (λ (s : ℕ). PairsTold C words s lefts rights told) e here

module _ (C : Contract) (known : Established C) (left_masks right_masks : List ℕ) (covered : Covered C left_masks right_masks) (words : List ℕ) (s : ℕ)
    (one : 1 ≤ s) (below : s < C.transformation.symbols) where
  abbrev n : ℕ
  n = sent_count words

  -- kinds of one class on each side
  same_held : (i i' j j' : ℕ) → AgreeUnder (mask_in left_masks s) (kind_in words i) (kind_in words i') → AgreeUnder (mask_in right_masks s) (kind_in words j) (kind_in words j')
      → held_over C words s i j ≡ held_over C words s i' j'
  same_held i i' j j' l r = ap (holds C words) (class_agree C known s _ (covered.covers s one below) _ _ _ _ l r)

  module _ (lefts rights : List ℕ) (first_lefts : Firsts words (padded_kind left_masks s) n lefts) (first_rights : Firsts words (padded_kind right_masks s) n rights) where
    all_held : AllHeld C words s lefts rights → (i j : ℕ) → i < n → j < n → held_over C words s i j ≡ true
    all_held all i j hi hj =
        let (a, la, ga, like) = first_lefts.cover i hi in
        let (b, lb, gb, like') = first_rights.cover j hj in
        same_held i (get_or lefts a 0) j (get_or rights b 0) (agrees-under words (get_or lefts a 0) i left_masks s like) (agrees-under words (get_or rights b 0) j right_masks s like')
        ∙ all a b la lb

    -- the first kinds of classes whose kind is missing are the first of all
    module _ (i j : ℕ) (at : OpenAt C words s lefts rights i j) where
      left-inside : i < n
      left-inside = omega (arith, at.is_left, first_lefts.below at.left_place at.left_inside)

      right-inside : j < n
      right-inside = omega (arith, at.is_right, first_rights.below at.right_place at.right_inside)

      earlier-left : (k m : ℕ) → k < i → m < n → held_over C words s k m ≡ true
      earlier-left k m hk hm =
          let (a, la, ga, like) = first_lefts.cover k (omega (arith, left-inside)) in
          let (b, lb, gb, like') = first_rights.cover m hm in
          same_held k (get_or lefts a 0) m (get_or rights b 0) (agrees-under words (get_or lefts a 0) k left_masks s like) (agrees-under words (get_or rights b 0) m right_masks s like')
          ∙ at.earlier_left a b (before a ga (dec_lt a at.left_place) (ℕ_discrete a at.left_place) la) lb
        where
          before : (a : ℕ) → get_or lefts a 0 ≤ k → Dec (a < at.left_place) → Dec (a ≡ at.left_place) → a < length lefts → a < at.left_place
          before a ga (yes l) d la = l
          before a ga (no l) (yes e) la = absurd (omega (arith, ga, hk, at.is_left, ap (λ (x : ℕ). get_or lefts x 0) e))
          before a ga (no l) (no ne) la = absurd (omega (arith, ga, hk, at.is_left, first_lefts.ascend at.left_place a (omega arith) la))

      earlier-right : (m : ℕ) → m < j → held_over C words s i m ≡ true
      earlier-right m hm =
          let (b, lb, gb, like) = first_rights.cover m (omega (arith, right-inside)) in
          same_held i i m (get_or rights b 0) (agree_self _ _) (agrees-under words (get_or rights b 0) m right_masks s like)
          ∙ at.earlier_right b (before b gb (dec_lt b at.right_place) (ℕ_discrete b at.right_place) lb)
        where
          before : (b : ℕ) → get_or rights b 0 ≤ m → Dec (b < at.right_place) → Dec (b ≡ at.right_place) → b < length rights → b < at.right_place
          before b gb (yes l) d lb = l
          before b gb (no l) (yes e) lb = absurd (omega (arith, gb, hm, at.is_right, ap (λ (x : ℕ). get_or rights x 0) e))
          before b gb (no l) (no ne) lb = absurd (omega (arith, gb, hm, at.is_right, first_rights.ascend at.right_place b (omega arith) lb))

      first-open : FirstOpen C words s i j
      first-open =
          record { left_inside = left-inside; right_inside = right-inside; missing = at.missing; earlier_left = earlier-left; earlier_right = earlier-right }

    pub tells_symbol : (told : Result Unit Open) → PairsTold C words s lefts rights told → SymbolTold C words s told
    tells_symbol (Ok _) all = all_held all
    tells_symbol (Err pair) (same, at) = (same, first-open pair.left.0 pair.right.0 at)
