-- What a symbol can see on a side: the states that its input rows name there, on the right whether the child is the empty forest, and
-- the facts of the procedures that its rules call there.
use Rattle.std.specs.Prelude.{◌≡◌, List, ◌++◌, Bool, true, false, eqb, length, set, take, drop}
use Rattle.std.proofs.Math.Path.{refl}
use Rattle.std.proofs.Common.{ap, sym, subst, ◌∙◌, true≢false, add-zero, arith, eq-eqb, ne_eqb, get_or-set_same, ◌⊎◌, inl, inr, get_or-take}
use Rattle.std.proofs.lemmas.Grind.{elements}
use Rattle.std.proofs.lemmas.List.{length-take-le}
use Rattle.std.proofs.lemmas.List.Edits.{paste_none, paste_all}
use Rattle.std.proofs.Math.Seq.{get_or-set_other, paste, paste-suc}
use Rattle.std.specs.Coded.{×_prop, Unit-prop}
use denote.Struct.Props.{props}
use Prim.Native.Nat.{ℕ, zero, suc, ◌+◌, ◌*◌, ◌^◌, ◌<◌, ◌≤◌}
use Rattle.std.proofs.Math.Numerals.{add-one}
use Rattle.std.proofs.Math.Decide.{ℕ_discrete}
use Rattle.std.specs.Int.Bits.{bit_or}
use Rattle.std.proofs.Math.ListN.{get_or, length-set}
use Rattle.foundation.specs.Tests.{choose, true_test, test_true, some_intro}
use Rattle.foundation.specs.Words.{bit}
use Rattle.foundation.specs.Bits.{bit_shl, or_to, or_to_bit}
use Rattle.model.specs.Tables.{Contract, InputRow, input_row, input_row_count, rule_at, rule_count}
use Rattle.model.specs.Expressions.{Child, left, right, here, stays, Expression, parameter, nothing, symbol, call, Arguments, none, argument}
use Rattle.model.specs.Outputs.{right_side}
use Rattle.model.specs.Facts.{on_side}
use Rattle.model.specs.Kinds.{empty_bit}
use Rattle.kind_words.specs.Chains.{NextFrom, or_first, or_next}
use Rattle.kind_words.specs.Fits.{RowsFit}
use Rattle.model.proofs.Laws.Established.{Established}
use Rattle.model.proofs.Laws.Calls.{EachCall, EachCallOfAll, ruled}
use Rattle.classes.specs.Masks.{ShowsFacts, mask_words, mask_in, Covered}

-- the side that a flag names
abbrev pub side_of : Bool → Child
side_of false = left
side_of true = right

-- the state that an input row names on a side
abbrev pub state_on : Bool → InputRow → ℕ
state_on on_right row = choose on_right row.right row.left

-- that state as a single bit, if it is a row for the symbol
unfoldable pub state_bit : InputRow → ℕ → Bool → ℕ
state_bit row s on_right = choose (eqb row.symbol s) (1 * 2 ^ state_on on_right row) 0

-- the states that the symbol's input rows name on a side
unfoldable pub states_seen : List ℕ → ℕ → Bool → ℕ
states_seen rows s on_right = or_to (λ k. state_bit (input_row rows k) s on_right) (input_row_count rows)

-- the rows of the symbol in a chain
module _ (rows : List ℕ) (s : ℕ) (on_right : Bool) where
  abbrev pub seen_below : ℕ → ℕ
  seen_below n = or_to (λ k. state_bit (input_row rows k) s on_right) n

  abbrev ChainNext : ℕ → ℕ → Type 0
  ChainNext r k = NextFrom (λ i. (input_row rows i).symbol) (input_row_count rows) s r k

  bit_skipped : (k : ℕ) → ((input_row rows k).symbol ≡ s → ⊥) → 0 ≡ state_bit (input_row rows k) s on_right
  unfolding state_bit
  bit_skipped k ne = rw (ne_eqb (input_row rows k).symbol s ne)

  pub seen_first : (k : ℕ) → ChainNext 0 k → 0 ≡ seen_below k
  seen_first k is = or_first _ _ s _ bit_skipped k is

  pub seen_next : (current one r k : ℕ) → current ≡ seen_below r → one ≡ state_bit (input_row rows r) s on_right → ChainNext (r + 1) k
      → bit_or current one ≡ seen_below k
  seen_next current one r k e f is = or_next _ _ s _ bit_skipped current one r k e f is

own_bit : (i : ℕ) → bit (1 * 2 ^ i) i ≡ true
unfolding bit
own_bit i = ap (λ (j : ℕ). bit (1 * 2 ^ i) j) (sym (add-zero i)) ∙ bit_shl 1 i 0

pub state_seen : (rows : List ℕ) (s : ℕ) (on_right : Bool) (k : ℕ) → k < input_row_count rows → (input_row rows k).symbol ≡ s
    → bit (states_seen rows s on_right) (state_on on_right (input_row rows k)) ≡ true
unfolding states_seen state_bit
state_seen rows s on_right k h e =
    let i : ℕ = state_on on_right (input_row rows k) in
    let own : bit (state_bit (input_row rows k) s on_right) i ≡ true = rw (eq-eqb _ _ e) (own_bit i) in
    or_to_bit _ (input_row_count rows) i ∙ test_true _ (some_intro _ _ k h (true_test _ own))

pub state_small : {rows : List ℕ} → RowsFit rows → (on_right : Bool) (k : ℕ) → k < input_row_count rows → state_on on_right (input_row rows k) < 64
state_small fit false k h = omega (arith, fit.left k h)
state_small fit true k h = omega (arith, fit.right k h)

-- the marks that a symbol can see on a side: of the right child "bit 33 if it is empty"
unfoldable pub marks_seen : Bool → ℕ
marks_seen on_right = choose on_right (2 ^ empty_bit) 0

pub empty_seen : bit (marks_seen true) empty_bit ≡ true
unfolding marks_seen bit
empty_seen = refl

-- a mask shows what symbol s can see on a side
pub record Sees (C : Contract) (s : ℕ) (on_right : Bool) (mask : List ℕ) : Type 0 where
  pub calls : (r : ℕ) → r < rule_count C.transformation.rules → (rule_at C.transformation.rules r).symbol ≡ s
      → EachCall (λ c p. c ≡ side_of on_right → ShowsFacts C.output.states C.transformation.counts mask p) (right_side C.transformation r)
  pub states : (k : ℕ) → k < input_row_count C.input.rows → (input_row C.input.rows k).symbol ≡ s
      → bit (get_or mask 0 0) (state_on on_right (input_row C.input.rows k)) ≡ true
  pub is_empty : on_right ≡ true → bit (get_or mask 0 0) empty_bit ≡ true

-- the masks of the symbols below n show what those symbols can see
pub record AllSee (C : Contract) (on_right : Bool) (n : ℕ) (masks : List ℕ) : Type 0 where
  pub sees : (s : ℕ) → 1 ≤ s → s < n → Sees C s on_right (mask_in masks s)

-- two properties of each call are one
module _ (P Q R : Child → ℕ → Type 0) (both : (c : Child) (p : ℕ) → P c p → Q c p → R c p) where
  mutual
    each_call_both : (e : Expression) → EachCall P e → EachCall Q e → EachCall R e
    each_call_both (parameter i) h k = tt
    each_call_both nothing h k = tt
    each_call_both (symbol s e f) h k = (each_call_both e h.0 k.0, each_call_both f h.1 k.1)
    each_call_both (call p c es) h k = (both c p h.0 k.0, each_call_of_all_both es h.1 k.1)

    each_call_of_all_both : (es : Arguments) → EachCallOfAll P es → EachCallOfAll Q es → EachCallOfAll R es
    each_call_of_all_both none h k = tt
    each_call_of_all_both (argument e es) h k = (each_call_both e h.0 k.0, each_call_of_all_both es h.1 k.1)

-- what holds of each call in at most one way, holds of all in at most one way
module _ (P : Child → ℕ → Type 0) (one : (c : Child) (p : ℕ) → IsProp (P c p)) where
  mutual
    each_call_prop : (e : Expression) → IsProp (EachCall P e)
    each_call_prop (parameter i) = Unit-prop
    each_call_prop nothing = Unit-prop
    each_call_prop (symbol s e f) = ×_prop (each_call_prop e) (each_call_prop f)
    each_call_prop (call p c es) = ×_prop (one c p) (each_call_of_all_prop es)

    each_call_of_all_prop : (es : Arguments) → IsProp (EachCallOfAll P es)
    each_call_of_all_prop none = Unit-prop
    each_call_of_all_prop (argument e es) = ×_prop (each_call_prop e) (each_call_of_all_prop es)

shows_prop : (O : ℕ) (counts mask : List ℕ) (p : ℕ) → IsProp (ShowsFacts O counts mask p)
shows_prop O counts mask p = hlevel props

pub covered-prop : (C : Contract) (left_masks right_masks : List ℕ) → IsProp (Covered C left_masks right_masks)
covered-prop C left_masks right_masks = hlevel (each_call_prop, shows_prop, props)

pub sees-prop : (C : Contract) (s : ℕ) (on_right : Bool) (mask : List ℕ) → IsProp (Sees C s on_right mask)
sees-prop C s on_right mask = hlevel (each_call_prop, shows_prop, props)

-- masks that show what the symbols can see on each side
pub covered : (C : Contract) → Established C → (left_masks right_masks : List ℕ) → AllSee C false C.transformation.symbols left_masks
    → AllSee C true C.transformation.symbols right_masks
    → Covered C left_masks right_masks
covered C known left_masks right_masks l r =
    record {
      covers = λ s h k.
          record {
            calls = λ j hj e.
                each_call_both _ _ _ (both s) (right_side C.transformation j) ((l.sees s h k).calls j hj e)
                (each_call_both _ _ _ (λ c p g m. (g, m)) (right_side C.transformation j) ((r.sees s h k).calls j hj e) ((ruled C known).moving j hj (omega arith)));
            both = refl;
            left_states = λ j hj e. (l.sees s h k).states j hj e;
            right_states = λ j hj e. (r.sees s h k).states j hj e;
            right_empty = (r.sees s h k).is_empty refl;
          };
    }
  where
    Shows : List ℕ → ℕ → Type 0
    Shows mask p = ShowsFacts C.output.states C.transformation.counts mask p

    -- a symbol's rules hold no call that stays
    both : (s : ℕ) (c : Child) (p : ℕ) → (c ≡ left → Shows (mask_in left_masks s) p) → (c ≡ right → Shows (mask_in right_masks s) p) × (stays c ≡ false)
        → Shows (on_side (mask_in left_masks s) (mask_in right_masks s) c) p
    both s left p f g = f refl
    both s right p f g = g.0 refl
    both s here p f g = absurd (true≢false g.1)

-- the first n words of the mask of symbol s put among the masks
unfoldable pub stored_to : (masks : List ℕ) (s : ℕ) (mask : List ℕ) → ℕ → List ℕ
stored_to masks s mask zero = masks
stored_to masks s mask (suc n) = set (stored_to masks s mask n) (mask_words * s + n) (get_or mask n 0)

-- .. and all of it
abbrev pub stored : (masks : List ℕ) (s : ℕ) (mask : List ℕ) → List ℕ
stored masks s mask = stored_to masks s mask mask_words

module _ (masks : List ℕ) (s : ℕ) (mask : List ℕ) where
  abbrev put : ℕ → List ℕ
  put n = stored_to masks s mask n

  pub stored_none : masks ≡ put 0
  unfolding stored_to
  stored_none = refl

  pub stored_more : (current : List ℕ) (i place : ℕ) → current ≡ put i → place ≡ mask_words * s + i → set current place (get_or mask i 0) ≡ put (i + 1)
  unfolding stored_to
  stored_more current i place e f = rw (e, f, add-one i)

  long : (n : ℕ) → length (put n) ≡ length masks
  unfolding stored_to
  long zero = refl
  long (suc n) = length-set (put n) (5 * s + n) (get_or mask n 0) ∙ long n

  kept : (n j : ℕ) → ((i : ℕ) → i < n → (j ≡ 5 * s + i → ⊥)) → get_or (put n) j 0 ≡ get_or masks j 0
  unfolding stored_to
  kept zero j h = refl
  kept (suc n) j h = get_or-set_other (put n) (5 * s + n) j (get_or mask n 0) 0 (h n (omega arith)) ∙ kept n j (λ i l. h i (omega arith))

  put_at : (n i : ℕ) → i < n → 5 * s + n ≤ length masks → get_or (put n) (5 * s + i) 0 ≡ get_or mask i 0
  unfolding stored_to
  put_at zero i h l = absurd (omega arith)
  put_at (suc n) i h l = go (λ k. put_at n i k (omega arith)) (ℕ_discrete i n)
    where
      go : (i < n → get_or (put n) (5 * s + i) 0 ≡ get_or mask i 0) → Dec (i ≡ n) → get_or (put (suc n)) (5 * s + i) 0 ≡ get_or mask i 0
      go before (yes e) = rw e (get_or-set_same (put n) (5 * s + n) (get_or mask n 0) 0 (rw (long n) (omega arith)))
      go before (no ne) = get_or-set_other (put n) (5 * s + n) (5 * s + i) (get_or mask n 0) 0 (λ e. omega arith) ∙ before (omega arith)

  stored_here : mask_words * s + mask_words ≤ length masks → mask_in (stored masks s mask) s ≡ mask_in mask 0
  stored_here h =
      let at : (i : ℕ) → i < 5 → get_or (put 5) (5 * s + i) 0 ≡ get_or mask i 0 = λ i l. put_at 5 i l h in
      let at0 : get_or (put 5) (5 * s) 0 ≡ get_or mask 0 0 = rw add-zero at (at 0 (omega arith)) in
      rw (at0, at 1 (omega arith), at 2 (omega arith), at 3 (omega arith), at 4 (omega arith))

  stored_other : (t : ℕ) → (t ≡ s → ⊥) → mask_in (stored masks s mask) t ≡ mask_in masks t
  stored_other t ne =
      rw (
        kept 5 (5 * t) (λ i l e. omega arith),
        kept 5 (5 * t + 1) (λ i l e. omega arith),
        kept 5 (5 * t + 2) (λ i l e. omega arith),
        kept 5 (5 * t + 3) (λ i l e. omega arith),
        kept 5 (5 * t + 4) (λ i l e. omega arith),
      )

-- the masks with one symbol's mask more
pub see_more : (C : Contract) (on_right : Bool) (s : ℕ) (masks mask : List ℕ) → mask_words * s + mask_words ≤ length masks → AllSee C on_right s masks → Sees C s on_right (mask_in mask 0)
    → AllSee C on_right (s + 1) (stored masks s mask)
see_more C on_right s masks mask h all own = record { sees = λ t l k. go t l k (ℕ_discrete t s) }
  where
    go : (t : ℕ) → 1 ≤ t → t < s + 1 → Dec (t ≡ s) → Sees C t on_right (mask_in (stored masks s mask) t)
    go t l k (yes e) = rw e (subst (λ (m : List ℕ). Sees C s on_right m) (sym (stored_here masks s mask h)) own)
    go t l k (no ne) = subst (λ (m : List ℕ). Sees C t on_right m) (sym (stored_other masks s mask t ne)) (all.sees t l (omega arith))

pub see_none : (C : Contract) (on_right : Bool) (masks : List ℕ) → AllSee C on_right 1 masks
see_none C on_right masks = record { sees = λ s h k. absurd (omega arith) }

-- the mask of symbol s copied over its words at once
abbrev pub pasted : (masks : List ℕ) (s : ℕ) (mask : List ℕ) → List ℕ
pasted masks s mask = paste masks (mask_words * s) (take mask_words mask) mask_words

-- a list put into another is read there, and what is before it and behind it stays
module _ (xs ys : List ℕ) (a n : ℕ) (same : n ≡ length ys) (inside : a + n ≤ length xs) where
  put_in : (i : ℕ) → i < n → get_or (take a xs ++ (ys ++ drop (a + n) xs)) (a + i) 0 ≡ get_or ys i 0
  put_in i l = grind (arith, elements)

  put_before : (j : ℕ) → j < a → get_or (take a xs ++ (ys ++ drop (a + n) xs)) j 0 ≡ get_or xs j 0
  put_before j l = grind (arith, elements)

  put_behind : (j : ℕ) → a + n ≤ j → get_or (take a xs ++ (ys ++ drop (a + n) xs)) j 0 ≡ get_or xs j 0
  put_behind j l = grind (arith, elements)

module _ (masks : List ℕ) (s : ℕ) (mask : List ℕ) (five : mask_words ≤ length mask) (inside : mask_words * s + mask_words ≤ length masks) where
  whole : mask_words ≡ length (take mask_words mask)
  whole = sym (length-take-le mask_words mask five)

  pasted_is : pasted masks s mask ≡ take (mask_words * s) masks ++ (take mask_words mask ++ drop (mask_words * s + mask_words) masks)
  pasted_is = paste_all masks (mask_words * s) (take mask_words mask) mask_words whole

  pasted_to : (n : ℕ) → n ≤ mask_words → paste masks (mask_words * s) (take mask_words mask) n ≡ stored_to masks s mask n
  unfolding stored_to
  pasted_to zero h = sym (paste_none masks (mask_words * s) (take mask_words mask))
  pasted_to (suc n) h =
      let one : get_or (take mask_words mask) n 0 ≡ get_or mask n 0 = get_or-take mask_words mask n 0 (omega arith) in
      let more : set (paste masks (mask_words * s) (take mask_words mask) n) (mask_words * s + n) (get_or (take mask_words mask) n 0)
      ≡ paste masks (mask_words * s) (take mask_words mask) (suc n) =
      paste-suc masks (mask_words * s) (take mask_words mask) n 0 (omega (arith, whole)) (omega (arith, whole)) in
      rw (sym more, one, pasted_to n (omega arith))

  -- at once or word by word, the same is put
  pub pasted_stored : pasted masks s mask ≡ stored masks s mask
  pasted_stored = pasted_to mask_words (omega arith)

  stored_is : stored masks s mask ≡ take (mask_words * s) masks ++ (take mask_words mask ++ drop (mask_words * s + mask_words) masks)
  stored_is = sym pasted_stored ∙ pasted_is

  pasted_kept : (j : ℕ) → (j < mask_words * s) ⊎ (mask_words * s + mask_words ≤ j) → get_or (pasted masks s mask) j 0 ≡ get_or masks j 0
  pasted_kept j (inl l) = rw pasted_is (put_before masks _ (mask_words * s) mask_words whole inside j l)
  pasted_kept j (inr l) = rw pasted_is (put_behind masks _ (mask_words * s) mask_words whole inside j l)

  pasted_at : (i : ℕ) → i < mask_words → get_or (pasted masks s mask) (mask_words * s + i) 0 ≡ get_or mask i 0
  pasted_at i h = rw pasted_is (put_in masks _ (mask_words * s) mask_words whole inside i h) ∙ get_or-take mask_words mask i 0 h

  pasted_here : mask_in (pasted masks s mask) s ≡ mask_in mask 0
  pasted_here = rw pasted_stored (stored_here masks s mask inside)

  pasted_other : (t : ℕ) → (t ≡ s → ⊥) → mask_in (pasted masks s mask) t ≡ mask_in masks t
  pasted_other t ne = rw pasted_stored (stored_other masks s mask t ne)

  pub pasted_more : (C : Contract) (on_right : Bool) → AllSee C on_right s masks → Sees C s on_right (mask_in mask 0)
      → AllSee C on_right (s + 1) (pasted masks s mask)
  pasted_more C on_right all own = rw pasted_stored (see_more C on_right s masks mask inside all own)
