-- Kinds kept for the places of a document: the kind of the tree that starts there, and a 0.
use Rattle.std.specs.Prelude.{◌≡◌, List, [], ◌∷◌, ◌++◌, length, take}
use Rattle.std.proofs.Common.{ap, sym, ◌∙◌, arith}
use Prim.Native.Nat.{ℕ, ◌+◌, ◌<◌, ◌≤◌}
use Rattle.std.proofs.Math.ListN.{get_or}
use Rattle.std.proofs.Math.Seq.{take-append_seam}
use Rattle.model.specs.Tables.{Contract}
use Rattle.model.specs.Trees.{Tree, empty, node}
use Rattle.model.specs.Documents.{document_tree}
use Rattle.model.specs.Kinds.{kind_of, next_kind, empty_kind}
use Rattle.model.proofs.Laws.Established.{Established}
use Rattle.model.proofs.Rounds.Buffers.{length_empty_kind, length_next_kind}
use Rattle.model.proofs.Laws.Documents.{Document, Readable, tree_from, end_from, some_number, inner_place, document-tree}
use Rattle.kind_words.specs.Blocks.{Words}
use Rattle.kind_words.specs.Ends.{next_words, empty_words}
use Rattle.reading.specs.Ends.{EndsFrom}

-- the kind of a place
abbrev pub kind_at : List (List ℕ) → ℕ → List ℕ
kind_at kinds i = get_or kinds i []

module _ (C : Contract) where
  kind_length : (t : Tree) → length (kind_of C t) ≡ 5
  unfolding kind_of
  kind_length empty = length_empty_kind C
  kind_length (node s l r) = length_next_kind C s (kind_of C l) (kind_of C r)

  pub kind_taken : (t : Tree) → take 5 (kind_of C t ++ (0 ∷ [])) ≡ kind_of C t
  kind_taken t = ap (λ (n : ℕ). take n (kind_of C t ++ (0 ∷ []))) (sym (kind_length t)) ∙ take-append_seam (kind_of C t) (0 ∷ [])

  pub kind-words : Established C → (k : List ℕ) (t : Tree) → k ≡ kind_of C t ++ (0 ∷ []) → Words k
  unfolding kind_of
  kind-words known k empty e = rw e (empty_words C known)
  kind-words known k (node s l r) e = rw e (next_words C known s (kind_of C l) (kind_of C r))

  pub kind_empty : (t : Tree) → t ≡ empty → empty_kind C ++ (0 ∷ []) ≡ kind_of C t ++ (0 ∷ [])
  unfolding kind_of
  kind_empty t e = rw e

  kind_node : (s : ℕ) (l r : Tree) (left right : List ℕ) → left ≡ kind_of C l ++ (0 ∷ []) → right ≡ kind_of C r ++ (0 ∷ [])
      → next_kind C s (take 5 left) (take 5 right) ++ (0 ∷ []) ≡ kind_of C (node s l r) ++ (0 ∷ [])
  unfolding kind_of
  kind_node s l r left right el er = rw (el, er, kind_taken l, kind_taken r)

  -- the kinds of the trees from place n on are kept
  pub record StoredFrom (n : ℕ) (numbers : List ℕ) (kinds : List (List ℕ)) : Type 0 where
    pub long : length numbers ≤ length kinds
    pub kept : (j : ℕ) → n ≤ j → j < length numbers → kind_at kinds j ≡ kind_of C (tree_from numbers j) ++ (0 ∷ [])

  -- the kind of the first place is that of the document's tree
  pub stored_first : (S : ℕ) (numbers : List ℕ) (kinds : List (List ℕ)) → Document S numbers → StoredFrom 0 numbers kinds
      → kind_at kinds 0 ≡ kind_of C (document_tree numbers) ++ (0 ∷ [])
  stored_first S numbers kinds document h =
      h.kept 0 (omega arith) (omega (arith, some_number (document_tree numbers), ap length document.numbers))
      ∙ ap (λ (t : Tree). kind_of C t ++ (0 ∷ [])) (sym (document-tree numbers))

  -- a place whose symbol is not 0: its children's kinds are kept, the left one's at the next place and the right one's where
  -- the left child ends
  pub record Children (numbers ends : List ℕ) (kinds : List (List ℕ)) (i : ℕ) : Type 0 where
    pub left_within : i + 1 < length numbers
    pub right_within : get_or ends (i + 1) 0 < length numbers
    pub left : kind_at kinds (i + 1) ≡ kind_of C (tree_from numbers (i + 1)) ++ (0 ∷ [])
    pub right : kind_at kinds (get_or ends (i + 1) 0) ≡ kind_of C (tree_from numbers (get_or ends (i + 1) 0)) ++ (0 ∷ [])
    pub joined : next_kind C (get_or numbers i 0) (take 5 (kind_at kinds (i + 1))) (take 5 (kind_at kinds (get_or ends (i + 1) 0))) ++ (0 ∷ []) ≡ kind_of C (tree_from numbers i) ++ (0 ∷ [])

  pub children : (numbers ends : List ℕ) (kinds : List (List ℕ)) (i : ℕ) → Readable numbers → EndsFrom 0 numbers ends → StoredFrom (i + 1) numbers kinds → i < length numbers → 1 ≤ get_or numbers i 0
      → Children numbers ends kinds i
  children numbers ends kinds i readable fits h small more =
      let inner = inner_place numbers readable i small more in
      let e : get_or ends (i + 1) 0 ≡ end_from numbers (i + 1) = fits (i + 1) (omega arith) inner.left in
      let within : get_or ends (i + 1) 0 < length numbers = omega (arith, inner.right) in
      let l = h.kept (i + 1) (omega arith) inner.left in
      let r = h.kept (get_or ends (i + 1) 0) (omega arith) within in
      record {
        left_within = inner.left;
        right_within = within;
        left = l;
        right = r;
        joined = kind_node (get_or numbers i 0) (tree_from numbers (i + 1)) (tree_from numbers (get_or ends (i + 1) 0)) _ _ l r ∙ rw (inner.tree, e);
      }
