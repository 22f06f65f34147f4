-- Kinds kept for the places of a document in one list of numbers, six words a place: what `Stored` says of a list of kinds.
use Rattle.std.specs.Prelude.{◌≡◌, List, [], ◌∷◌, ◌++◌, length, set, take}
use Rattle.std.proofs.Math.Path.{refl}
use Rattle.std.proofs.Common.{ap, sym, ◌∙◌, arith, length-append, get_or-set_same}
use Prim.Native.Nat.{ℕ, zero, suc, ◌+◌, ◌*◌, ◌<◌, ◌≤◌}
use Rattle.std.proofs.Math.Decide.{ℕ_discrete}
use Rattle.std.proofs.Math.ListN.{get_or, length-set}
use Rattle.std.proofs.Math.Seq.{get_or-set_other}
use Rattle.model.specs.Tables.{Contract}
use Rattle.model.specs.Trees.{Tree, empty, node}
use Rattle.model.specs.Documents.{document_tree}
use Rattle.model.specs.Kinds.{kind_of, next_kind}
use Rattle.model.proofs.Rounds.Buffers.{length_empty_kind, length_next_kind}
use Rattle.model.proofs.Laws.Documents.{Document, Readable, tree_from, end_from, some_number, inner_place, document-tree}
use Rattle.reading.specs.Ends.{EndsFrom}
use Rattle.document_kinds.specs.Stored.{kind_taken}

-- the six words of a place
abbrev pub kind_at : List ℕ → ℕ → List ℕ
kind_at kinds i =
    get_or kinds (6 * i) 0 ∷ get_or kinds (6 * i + 1) 0 ∷ get_or kinds (6 * i + 2) 0 ∷ get_or kinds (6 * i + 3) 0 ∷ get_or kinds (6 * i + 4) 0
    ∷ get_or kinds (6 * i + 5) 0
    ∷ []

-- with the first n words of a kind put at place i
unfoldable pub put_words : List ℕ → ℕ → List ℕ → ℕ → List ℕ
put_words kinds i k zero = kinds
put_words kinds i k (suc n) = set (put_words kinds i k n) (6 * i + n) (get_or k n 0)

abbrev pub put_kind : List ℕ → ℕ → List ℕ → List ℕ
put_kind kinds i k = put_words kinds i k 6

module _ (kinds : List ℕ) (i : ℕ) (k : List ℕ) where
  pub put_length : (n : ℕ) → length (put_words kinds i k n) ≡ length kinds
  unfolding put_words
  put_length zero = refl
  put_length (suc n) = length-set (put_words kinds i k n) (6 * i + n) (get_or k n 0) ∙ put_length n

  -- a place before those of i, or after them
  put_other : (n p : ℕ) → ((b : ℕ) → b < n → p ≡ 6 * i + b → ⊥) → get_or (put_words kinds i k n) p 0 ≡ get_or kinds p 0
  unfolding put_words
  put_other zero p ne = refl
  put_other (suc n) p ne =
      get_or-set_other (put_words kinds i k n) (6 * i + n) p (get_or k n 0) 0 (ne n (omega arith)) ∙ put_other n p (λ b l. ne b (omega arith))

  put_same : (n b : ℕ) → b < n → 6 * i + n ≤ length kinds → get_or (put_words kinds i k n) (6 * i + b) 0 ≡ get_or k b 0
  unfolding put_words
  put_same zero b l h = absurd (omega arith)
  put_same (suc n) b l h = go (λ (m : b < n). put_same n b m (omega arith)) (ℕ_discrete b n)
    where
      go : (b < n → get_or (put_words kinds i k n) (6 * i + b) 0 ≡ get_or k b 0) → Dec (b ≡ n)
          → get_or (set (put_words kinds i k n) (6 * i + n) (get_or k n 0)) (6 * i + b) 0 ≡ get_or k b 0
      go f (yes e) = rw e (get_or-set_same (put_words kinds i k n) (6 * i + n) (get_or k n 0) 0 (omega (arith, put_length n)))
      go f (no ne) =
          get_or-set_other (put_words kinds i k n) (6 * i + n) (6 * i + b) (get_or k n 0) 0 (λ e. ne (omega arith)) ∙ f (omega arith)

  pub at_other : (j : ℕ) → (j ≡ i → ⊥) → kind_at (put_kind kinds i k) j ≡ kind_at kinds j
  at_other j ne =
      rw (
        put_other 6 (6 * j) (λ b l e. omega arith),
        put_other 6 (6 * j + 1) (λ b l e. omega arith),
        put_other 6 (6 * j + 2) (λ b l e. omega arith),
        put_other 6 (6 * j + 3) (λ b l e. omega arith),
        put_other 6 (6 * j + 4) (λ b l e. omega arith),
        put_other 6 (6 * j + 5) (λ b l e. omega arith),
      )

  pub at_same : length k ≡ 6 → 6 * i + 6 ≤ length kinds → kind_at (put_kind kinds i k) i ≡ k
  at_same long h =
      let z : 6 * i ≡ 6 * i + 0 = omega arith in
      rw (
        ap (λ (p : ℕ). get_or (put_kind kinds i k) p 0) z ∙ put_same 6 0 (omega arith) h,
        put_same 6 1 (omega arith) h,
        put_same 6 2 (omega arith) h,
        put_same 6 3 (omega arith) h,
        put_same 6 4 (omega arith) h,
        put_same 6 5 (omega arith) h,
      )
      (six k long)
    where
      six : (k : List ℕ) → length k ≡ 6 → get_or k 0 0 ∷ get_or k 1 0 ∷ get_or k 2 0 ∷ get_or k 3 0 ∷ get_or k 4 0 ∷ get_or k 5 0 ∷ [] ≡ k
      six [] h = absurd (omega arith)
      six (a ∷ []) h = absurd (omega arith)
      six (a ∷ b ∷ []) h = absurd (omega arith)
      six (a ∷ b ∷ c ∷ []) h = absurd (omega arith)
      six (a ∷ b ∷ c ∷ d ∷ []) h = absurd (omega arith)
      six (a ∷ b ∷ c ∷ d ∷ e ∷ []) h = absurd (omega arith)
      six (a ∷ b ∷ c ∷ d ∷ e ∷ f ∷ []) h = refl
      six (a ∷ b ∷ c ∷ d ∷ e ∷ f ∷ g ∷ k) h = absurd (omega arith)

module _ (C : Contract) where
  kind_length : (t : Tree) → length (kind_of C t) ≡ 5
  unfolding kind_of
  kind_length empty = length_empty_kind C
  kind_length (node s l r) = length_next_kind C s (kind_of C l) (kind_of C r)

  -- the kind of a tree, and a 0
  pub kind_six : (t : Tree) → length (kind_of C t ++ (0 ∷ [])) ≡ 6
  kind_six t = length-append (kind_of C t) (0 ∷ []) ∙ rw (kind_length t)

  kind_node : (s : ℕ) (l r : Tree) (left right : List ℕ) → left ≡ kind_of C l ++ (0 ∷ []) → right ≡ kind_of C r ++ (0 ∷ [])
      → next_kind C s (take 5 left) (take 5 right) ++ (0 ∷ []) ≡ kind_of C (node s l r) ++ (0 ∷ [])
  unfolding kind_of
  kind_node s l r left right el er = rw (el, er, kind_taken C l, kind_taken C r)

  -- the kinds of the trees from place n on are kept
  pub record StoredFrom (n : ℕ) (numbers kinds : List ℕ) : Type 0 where
    pub long : 6 * length numbers ≤ length kinds
    pub kept : (j : ℕ) → n ≤ j → j < length numbers → kind_at kinds j ≡ kind_of C (tree_from numbers j) ++ (0 ∷ [])

  pub stored_none : (numbers kinds : List ℕ) → 6 * length numbers ≤ length kinds → StoredFrom (length numbers) numbers kinds
  stored_none numbers kinds long = record { long = long; kept = λ j l h. absurd (omega arith) }

  -- one place more
  pub stored_more : (i : ℕ) (numbers kinds kinds' k : List ℕ) → StoredFrom (suc i) numbers kinds → i < length numbers → k ≡ kind_of C (tree_from numbers i) ++ (0 ∷ [])
      → kinds' ≡ put_kind kinds i k
      → StoredFrom i numbers kinds'
  stored_more i numbers kinds kinds' k h small is e =
      rw e (record { long = rw (put_length kinds i k 6) h.long; kept = λ j l m. go j l m (ℕ_discrete j i) })
    where
      go : (j : ℕ) → i ≤ j → j < length numbers → Dec (j ≡ i) → kind_at (put_kind kinds i k) j ≡ kind_of C (tree_from numbers j) ++ (0 ∷ [])
      go j l m (yes q) = rw q (at_same kinds i k (ap length is ∙ kind_six _) (omega (arith, h.long)) ∙ is)
      go j l m (no ne) = at_other kinds i k j ne ∙ h.kept j (omega arith) m

  -- the kind of the first place is that of the document's tree
  pub stored_first : (S : ℕ) (numbers kinds : List ℕ) → Document S numbers → StoredFrom 0 numbers kinds
      → kind_at kinds 0 ≡ kind_of C (document_tree numbers) ++ (0 ∷ [])
  stored_first S numbers kinds document h =
      h.kept 0 (omega arith) (omega (arith, some_number (document_tree numbers), ap length document.numbers))
      ∙ ap (λ (t : Tree). kind_of C t ++ (0 ∷ [])) (sym (document-tree numbers))

  -- a place whose symbol is not 0: its children's kinds are kept, the left one's at the next place and the right one's where
  -- the left child ends
  pub record Children (numbers ends kinds : List ℕ) (i : ℕ) : Type 0 where
    pub left_within : i + 1 < length numbers
    pub right_within : get_or ends (i + 1) 0 < length numbers
    pub left : kind_at kinds (i + 1) ≡ kind_of C (tree_from numbers (i + 1)) ++ (0 ∷ [])
    pub right : kind_at kinds (get_or ends (i + 1) 0) ≡ kind_of C (tree_from numbers (get_or ends (i + 1) 0)) ++ (0 ∷ [])
    pub joined : next_kind C (get_or numbers i 0) (take 5 (kind_at kinds (i + 1))) (take 5 (kind_at kinds (get_or ends (i + 1) 0))) ++ (0 ∷ []) ≡ kind_of C (tree_from numbers i) ++ (0 ∷ [])

  pub children : (numbers ends kinds : List ℕ) (i : ℕ) → Readable numbers → EndsFrom 0 numbers ends → StoredFrom (i + 1) numbers kinds → i < length numbers → 1 ≤ get_or numbers i 0
      → Children numbers ends kinds i
  children numbers ends kinds i readable fits h small more =
      let inner = inner_place numbers readable i small more in
      let e : get_or ends (i + 1) 0 ≡ end_from numbers (i + 1) = fits (i + 1) (omega arith) inner.left in
      let within : get_or ends (i + 1) 0 < length numbers = omega (arith, inner.right) in
      let l = h.kept (i + 1) (omega arith) inner.left in
      let r = h.kept (get_or ends (i + 1) 0) (omega arith) within in
      record {
        left_within = inner.left;
        right_within = within;
        left = l;
        right = r;
        joined = kind_node (get_or numbers i 0) (tree_from numbers (i + 1)) (tree_from numbers (get_or ends (i + 1) 0)) _ _ l r ∙ rw (inner.tree, e);
      }
