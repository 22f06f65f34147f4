-- What the contract's mask shows of a listed kind is the kind without bits that stand for nothing, so that a search of the list tells whether
-- it holds a kind.
use mathlib.Core.Path.{◌≡◌, refl, ap, ap₂, ◌∙◌}
use mathlib.Core.Bool.{Bool}
use mathlib.Core.List.{List, [], ◌∷◌, ◌++◌}
use Prim.Native.Nat.{ℕ}
use lib.ListN.{length, take}
use Rattle.foundation.specs.Tests.{some_cong}
use Rattle.model.specs.Tables.{Contract}
use Rattle.model.specs.Kinds.{next_kind}
use Rattle.model.specs.Examining.{sent_count, five_words, masked, holds}
use Rattle.model.proofs.Laws.Established.{Established}
use Rattle.model.proofs.Laws.Masked.{masked_and, masked_length, fact_mask_ones}
use Rattle.model.proofs.Rounds.Buffers.{length_next_kind}
use Rattle.kind_slots.specs.Stored.{padded_kind}
use Rattle.kind_slots.proofs.Same.{same_words_list}
use Rattle.row_marks.specs.Marks.{shown}
use Rattle.shown_kinds.specs.Chains.{some_looks_so}
use Rattle.closure.specs.Search.{Searchable}
use Rattle.closure.specs.Held.{held_over}

module _ (C : Contract) (known : Established C) (words mask chains : List ℕ) (searchable : Searchable C words mask chains) where
  shown_masked : (k : ℕ) → shown mask (padded_kind words k) ≡ masked C (five_words words k) ++ (0 ∷ [])
  shown_masked k =
      rw (
        searchable.is_mask,
        masked_and C known.input_states.≤most (five_words words k),
        fact_mask_ones C 0,
        fact_mask_ones C 1,
        fact_mask_ones C 2,
        fact_mask_ones C 3,
      ) refl

  -- a search for a kind, with a sixth word 0
  pub search_holds : (kind : List ℕ) → length kind ≡ 5 → some_looks_so words mask (sent_count words) (kind ++ (0 ∷ [])) ≡ holds C words kind
  unfolding holds
  search_holds kind five =
      some_cong (sent_count words) _ _
      (λ k h. rw (shown_masked k) (same_words_list (masked C (five_words words k)) kind (masked_length C known (five_words words k)) five))

  -- of a symbol's kind over two rows that were read
  pub search_over : (s i j : ℕ) (left right kind : List ℕ) {found : Bool} → left ≡ padded_kind words i → right ≡ padded_kind words j
      → kind ≡ next_kind C s (take 5 left) (take 5 right) ++ (0 ∷ [])
      → found ≡ some_looks_so words mask (sent_count words) kind
      → found ≡ held_over C words s i j
  search_over s i j left right kind l r k f =
      f
      ∙ ap (some_looks_so words mask (sent_count words)) (k ∙ ap₂ (λ (a b : List ℕ). next_kind C s (take 5 a) (take 5 b) ++ (0 ∷ [])) l r)
      ∙ search_holds (next_kind C s (five_words words i) (five_words words j)) (length_next_kind C s _ _)
