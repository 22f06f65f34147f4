-- Masks: five words that show the input states, the marks and the facts which a symbol can see of a child. Kinds that agree under the
-- masks are of one class: the symbol makes the same kind of them.
use Rattle.std.specs.Prelude.{◌≡◌, refl, Bool, true, get_or}
use Rattle.std.proofs.Common.{ap, subst, sym, ◌∙◌, pow-suc}
use mathlib.Core.List.{List, [], ◌∷◌}
use Prim.Native.Nat.{ℕ, suc, ◌+◌, ◌*◌, ◌/◌, ◌%◌, ◌^◌, ◌≤◌, ◌<◌}
use Rattle.std.proofs.Math.Nat.{mul_comm}
use native.Mathlib.Omega.{arith}
use Rattle.std.proofs.Math.Arith.{digits_lt}
use Rattle.std.specs.Int.Bits.{bit_and}
use Rattle.foundation.specs.Tests.{◌and◌}
use Rattle.foundation.specs.TestLaws.{and_true}
use Rattle.foundation.specs.Words.{bit}
use Rattle.foundation.specs.Bits.{bit-and}
use Rattle.model.specs.Tables.{Contract, input_row, input_row_count, rule_at, rule_count, count_of}
use Rattle.model.specs.Expressions.{Child, left, right, here}
use Rattle.model.specs.Outputs.{right_side}
use Rattle.model.specs.Facts.{on_side, offset, code, fact_number}
use Rattle.model.specs.Kinds.{empty_bit, marks_in, state_in, bit_of_fact, facts_in, next_kind}
use Rattle.model.proofs.Laws.Established.{Established}
use Rattle.model.proofs.Laws.Facts.{IsFact, code_lt, fact_number_lt}
use Rattle.model.proofs.Laws.Calls.{EachCall}
use Rattle.classes.specs.Agreement.{next_kind_agree}

-- words that are the same under a mask have the same bits where the mask has one
pub mask_bit : (x y m i : ℕ) → bit_and x m ≡ bit_and y m → bit m i ≡ true → bit x i ≡ bit y i
mask_bit x y m i e h =
    let under : (z : ℕ) → bit (bit_and z m) i ≡ bit z i = λ z. bit-and z m i ∙ ap (λ (b : Bool). bit z i and b) h ∙ and_true (bit z i) in
    sym (under x) ∙ ap (λ (w : ℕ). bit w i) e ∙ under y

-- two kinds agree under a mask, word by word
pub record AgreeUnder (mask kind kind' : List ℕ) : Type 0 where
  pub words : (w : ℕ) → w < 5 → bit_and (get_or kind w 0) (get_or mask w 0) ≡ bit_and (get_or kind' w 0) (get_or mask w 0)

pub agree_self : (mask kind : List ℕ) → AgreeUnder mask kind kind
agree_self mask kind = record { words = λ w h. refl }

pub agree_turned : {mask kind kind' : List ℕ} → AgreeUnder mask kind kind' → AgreeUnder mask kind' kind
agree_turned a = record { words = λ w h. sym (a.words w h) }

-- a mask shows all facts of procedure p
pub record ShowsFacts (O : ℕ) (counts mask : List ℕ) (p : ℕ) : Type 0 where
  pub fact : (n : ℕ) → n < O ^ suc (count_of counts p)
      → bit (get_or mask (1 + (offset O counts p + n) / 64) 0) ((offset O counts p + n) % 64) ≡ true

-- masks for the two sides show what symbol s can see
pub record Covers (C : Contract) (s : ℕ) (masks : Child → List ℕ) : Type 0 where
  pub calls : (r : ℕ) → r < rule_count C.transformation.rules → (rule_at C.transformation.rules r).symbol ≡ s
      → EachCall (λ c p. ShowsFacts C.output.states C.transformation.counts (masks c) p) (right_side C.transformation r)
  pub both : masks here ≡ masks right
  pub left_states : (k : ℕ) → k < input_row_count C.input.rows → (input_row C.input.rows k).symbol ≡ s
      → bit (get_or (masks left) 0 0) (input_row C.input.rows k).left ≡ true
  pub right_states : (k : ℕ) → k < input_row_count C.input.rows → (input_row C.input.rows k).symbol ≡ s
      → bit (get_or (masks right) 0 0) (input_row C.input.rows k).right ≡ true
  pub right_empty : bit (get_or (masks right) 0 0) empty_bit ≡ true

-- how many words a mask has
abbrev pub mask_words : ℕ
mask_words = 5

-- the mask of symbol s
abbrev pub mask_in : List ℕ → ℕ → List ℕ
mask_in masks s =
    get_or masks (mask_words * s) 0 ∷ get_or masks (mask_words * s + 1) 0 ∷ get_or masks (mask_words * s + 2) 0 ∷ get_or masks (mask_words * s + 3) 0 ∷ get_or masks (mask_words * s + 4) 0 ∷ []

-- the masks of all symbols show what the symbols can see
pub record Covered (C : Contract) (left_masks right_masks : List ℕ) : Type 0 where
  pub covers : (s : ℕ) → 1 ≤ s → s < C.transformation.symbols → Covers C s (on_side (mask_in left_masks s) (mask_in right_masks s))

module _ (C : Contract) (known : Established C) where
  -- a fact that the mask shows
  fact_agrees : (mask kind kind' : List ℕ) → AgreeUnder mask kind kind' → (p q : ℕ) (qs : List ℕ)
      → ShowsFacts C.output.states C.transformation.counts mask p
      → IsFact C.output.states C.transformation.counts p q qs
      → facts_in C kind p q qs ≡ facts_in C kind' p q qs
  unfolding facts_in bit_of_fact fact_number
  fact_agrees mask kind kind' a p q qs shown is =
      let O : ℕ = C.output.states in
      let counts : List ℕ = C.transformation.counts in
      let k : ℕ = count_of counts p in
      let n : ℕ = q * O ^ k + code O qs in
      let f : ℕ = offset O counts p + n in
      let c : code O qs < O ^ k = rw is.arity at (code_lt O qs is.parameters) in
      let within : n < O ^ suc k = rw (pow-suc, mul_comm (O ^ k) O) (digits_lt is.result c) in
      let few = known.facts in
      let small : fact_number O counts p q qs < 256 = omega (arith, fact_number_lt O counts p q qs is) in
      let word : 1 + f / 64 < 5 = omega arith in
      mask_bit (get_or kind (1 + f / 64) 0) (get_or kind' (1 + f / 64) 0) (get_or mask (1 + f / 64) 0) (f % 64) (a.words (1 + f / 64) word) (shown.fact n within)

  state_agrees : (mask kind kind' : List ℕ) → AgreeUnder mask kind kind' → (q : ℕ) → bit (get_or mask 0 0) q ≡ true → state_in C kind q ≡ state_in C kind' q
  unfolding state_in
  state_agrees mask kind kind' a q shown = mask_bit (get_or kind 0 0) (get_or kind' 0 0) (get_or mask 0 0) q (a.words 0 (omega arith)) shown

  empty_agrees : (mask kind kind' : List ℕ) → AgreeUnder mask kind kind' → bit (get_or mask 0 0) empty_bit ≡ true
      → (marks_in kind).is_empty ≡ (marks_in kind').is_empty
  unfolding marks_in state_in
  empty_agrees mask kind kind' a shown = state_agrees mask kind kind' a empty_bit shown

  -- kinds that agree under the masks make the same kind
  pub class_agree : (s : ℕ) (masks : Child → List ℕ) → Covers C s masks → (l l' r r' : List ℕ)
      → AgreeUnder (masks left) l l'
      → AgreeUnder (masks right) r r'
      → next_kind C s l r ≡ next_kind C s l' r'
  class_agree s masks covers l l' r r' al ar =
      next_kind_agree C known s (λ c p. ShowsFacts C.output.states C.transformation.counts (masks c) p) (on_side l r) (on_side l' r')
      (record {
        calls = covers.calls;
        same = λ p shown. subst (λ (m : List ℕ). ShowsFacts C.output.states C.transformation.counts m p) covers.both shown;
        facts = sides;
        left_states = λ k h e. state_agrees (masks left) l l' al (input_row C.input.rows k).left (covers.left_states k h e);
        right_states = λ k h e. state_agrees (masks right) r r' ar (input_row C.input.rows k).right (covers.right_states k h e);
        right_empty = empty_agrees (masks right) r r' ar covers.right_empty;
      })
    where
      sides : (c : Child) (p q : ℕ) (qs : List ℕ) → ShowsFacts C.output.states C.transformation.counts (masks c) p
          → IsFact C.output.states C.transformation.counts p q qs
          → facts_in C (on_side l r c) p q qs ≡ facts_in C (on_side l' r' c) p q qs
      sides left p q qs k is = fact_agrees (masks left) l l' al p q qs k is
      sides right p q qs k is = fact_agrees (masks right) r r' ar p q qs k is
      sides here p q qs k is =
          fact_agrees (masks right) r r' ar p q qs (subst (λ (m : List ℕ). ShowsFacts C.output.states C.transformation.counts m p) covers.both k) is
