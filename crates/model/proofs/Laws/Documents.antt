-- Reading documents: a tree is read back from its numbers; what a stretch of numbers with no fault begins with is a tree of
-- exactly these numbers; where the children of each place of a document stand; how many numbers a tree has, and how tall it is; the
-- document that what is handed in begins with.
use mathlib.Core.Path.{◌≡◌, refl, ap, sym, subst, ◌∙◌}
use mathlib.Core.List.{List, [], ◌∷◌, ◌++◌, append_assoc}
use mathlib.Core.Bool.{Bool, true, false}
use Prim.Native.Nat.{ℕ, zero, suc, ◌+◌, ◌*◌, ◌-◌, ◌≤◌, ◌<◌}
use native.Mathlib.Nat.{not-suc-le-zero}
use native.Mathlib.Numerals.{add-one}
use native.Mathlib.Omega.{arith}
use borrow.Author.Tests.{leb-true, leb-false, ne_eqb, lt-leb, le-leb}
use lib.Dec.{leb, eqb}
use lib.ListN.{length, get_or, take, drop, length-append, length-take, length-drop}
use lib.Seq.{drop-cons, take-length, take-take, take-append_seam, take-append-add, drop-append_seam, drop-append-le, drop-drop}
use Rattle.foundation.specs.Tests.{choose}
use Rattle.foundation.specs.Lists.{append-nil}
use Rattle.model.specs.Trees.{Tree, empty, node, height, Over, preorder}
use Rattle.model.specs.Answers.{fine, refuse_if, ◌then◌}
use Rattle.model.specs.Documents.{most_numbers, joined, forest, All, preorders, first_tree, Leading, ends, faulty, leading_from, leading, tree_of, document_tree, reading, taken_by_leading, numbers_taken, leading_tree, endless, fault_of, leading_verdict}
use Rattle.model.proofs.Laws.Answers.{refused_not_fine, then_fine}

-- Sizes

pub numbers_node : (s : ℕ) (l r : Tree) → length (preorder (node s l r)) ≡ suc (length (preorder l) + length (preorder r))
unfolding preorder
numbers_node s l r = ap suc (length-append (preorder l) (preorder r))

-- how many nodes a tree has beside the empty forests
unfoldable pub node_total : Tree → ℕ
node_total empty = 0
node_total (node s l r) = suc (node_total l + node_total r)

-- a tree has one empty forest more than other nodes, so an odd number of numbers
pub numbers_odd : (t : Tree) → length (preorder t) ≡ 2 * node_total t + 1
unfolding preorder node_total
numbers_odd empty = refl
numbers_odd (node s l r) = omega (arith, numbers_node s l r, numbers_odd l, numbers_odd r)

pub height_total : (t : Tree) → height t ≤ node_total t
unfolding node_total
height_total empty = omega arith
height_total (node s l r) = omega (arith, height_total l, height_total r)

-- a tree of n numbers is at most (n - 1) / 2 tall
pub height_numbers : (t : Tree) → 2 * height t + 1 ≤ length (preorder t)
height_numbers t = omega (arith, numbers_odd t, height_total t)

pub some_number : (t : Tree) → 1 ≤ length (preorder t)
some_number t = omega (arith, numbers_odd t)

-- Trees one behind another

-- no symbol 0 has children
abbrev pub Proper : Tree → Type 0
Proper empty = Unit {0}
Proper (node s l r) = (1 ≤ s) × Proper l × Proper r

pub over_proper : (S : ℕ) (t : Tree) → Over S t → Proper t
over_proper S empty o = tt
over_proper S (node s l r) o = (o.0, over_proper S l o.2, over_proper S r o.3)

-- a tree is read back from its numbers, whatever follows them
pub forest_preorder : (t : Tree) (rest : List ℕ) → Proper t → forest (preorder t ++ rest) ≡ t ∷ forest rest
unfolding preorder forest joined
forest_preorder empty rest p = refl
forest_preorder (node zero l r) rest p = absurd (not-suc-le-zero p.0)
forest_preorder (node (suc s) l r) rest p =
    ap (λ (xs : List ℕ). joined (suc s) (forest xs)) (append_assoc (preorder l) (preorder r) rest)
    ∙ rw (forest_preorder l (preorder r ++ rest) p.1, forest_preorder r rest p.2)

pub forest_preorders : (ts : List Tree) → All Proper ts → forest (preorders ts) ≡ ts
unfolding preorders forest
forest_preorders [] p = refl
forest_preorders (t ∷ ts) p = forest_preorder t (preorders ts) p.0 ∙ ap (λ (us : List Tree). t ∷ us) (forest_preorders ts p.1)

joined_proper : (x : ℕ) (ts : List Tree) → All Proper ts → All Proper (joined x ts)
unfolding joined
joined_proper zero ts p = (tt, p)
joined_proper (suc s) [] p = tt
joined_proper (suc s) (l ∷ []) p = tt
joined_proper (suc s) (l ∷ r ∷ ts) p = ((omega arith, p.0, p.1.0), p.1.1)

-- whatever is read is proper
pub forest_proper : (xs : List ℕ) → All Proper (forest xs)
unfolding forest
forest_proper [] = tt
forest_proper (x ∷ xs) = joined_proper x (forest xs) (forest_proper xs)

-- The leading tree of a stretch of numbers, number by number

pub faulty_not_ends : (at n : ℕ) → faulty at ≡ ends n → ⊥
faulty_not_ends at n e = let z : ◌≡◌ {A = ℕ} 0 1 = cc in omega arith

-- how many trees are to come after the number x, where `due` were to come before it
abbrev pub due_after : ℕ → ℕ → ℕ
due_after due x = choose (eqb x 0) (due - 1) (due + 1)

module _ (S at : ℕ) where
  pub leading_done : (xs : List ℕ) → leading_from S 0 at xs ≡ ends at
  unfolding leading_from
  leading_done [] = refl
  leading_done (x ∷ xs) = refl

  module _ (due : ℕ) (more : 1 ≤ due) where
    none_due : eqb due 0 ≡ false
    none_due = ne_eqb due 0 (λ e. omega arith)

    pub leading_short : leading_from S due at [] ≡ faulty at
    unfolding leading_from
    leading_short = rw none_due

    pub leading_fault : (x : ℕ) (xs : List ℕ) → S ≤ x → leading_from S due at (x ∷ xs) ≡ faulty at
    unfolding leading_from
    leading_fault x xs h = rw (none_due, le-leb S x h)

    pub leading_step : (x : ℕ) (xs : List ℕ) → x < S
        → leading_from S due at (x ∷ xs) ≡ leading_from S (due_after due x) (suc at) xs
    unfolding leading_from
    leading_step x xs h = rw (none_due, lt-leb S x h)

leading_leaf : (S at due : ℕ) (xs : List ℕ) → 1 ≤ S → leading_from S (suc due) at (0 ∷ xs) ≡ leading_from S due (suc at) xs
leading_leaf S at due xs h = leading_step S at (suc due) (omega arith) 0 xs h ∙ ap (λ (n : ℕ). leading_from S n (suc at) xs) (omega arith)

leading_inner : (S at due s : ℕ) (xs : List ℕ) → suc s < S → leading_from S (suc due) at (suc s ∷ xs) ≡ leading_from S (suc (suc due)) (suc at) xs
leading_inner S at due s xs h =
    leading_step S at (suc due) (omega arith) (suc s) xs h
    ∙ rw (ne_eqb (suc s) 0 (λ e. omega arith)) (ap (λ (n : ℕ). leading_from S n (suc at) xs) (omega arith))

-- a tree takes its numbers, and one tree less is due
pub leading_numbers : (S at due : ℕ) (t : Tree) (rest : List ℕ) → 1 ≤ S → Over S t
    → leading_from S (suc due) at (preorder t ++ rest) ≡ leading_from S due (at + length (preorder t)) rest
unfolding preorder
leading_numbers S at due empty rest h o = leading_leaf S at due rest h ∙ ap (λ (n : ℕ). leading_from S due n rest) (omega arith)
leading_numbers S at due (node zero l r) rest h o = absurd (not-suc-le-zero o.0)
leading_numbers S at due (node (suc s) l r) rest h o =
    leading_inner S at due s ((preorder l ++ preorder r) ++ rest) o.1
    ∙ ap (λ (xs : List ℕ). leading_from S (suc (suc due)) (suc at) xs) (append_assoc (preorder l) (preorder r) rest)
    ∙ leading_numbers S (suc at) (suc due) l (preorder r ++ rest) h o.2
    ∙ leading_numbers S (suc at + length (preorder l)) due r rest h o.3
    ∙ ap (λ (n : ℕ). leading_from S due n rest) (omega (arith, length-append (preorder l) (preorder r)))

-- a stretch that begins with a tree's numbers begins with that tree
pub leading-tree : (S : ℕ) (t : Tree) (rest : List ℕ) → 1 ≤ S → Over S t → leading S (preorder t ++ rest) ≡ ends (length (preorder t))
unfolding leading
leading-tree S t rest h o =
    leading_numbers S 0 0 t rest h o ∙ leading_done S (0 + length (preorder t)) rest ∙ ap ends (omega arith)

pub leading_whole : (S : ℕ) (t : Tree) → 1 ≤ S → Over S t → leading S (preorder t) ≡ ends (length (preorder t))
leading_whole S t h o = rw (append-nil (preorder t)) at (leading-tree S t [] h o)

-- and that tree is read back
pub leading_read : (t : Tree) (rest : List ℕ) → Proper t → tree_of (length (preorder t)) (preorder t ++ rest) ≡ t
unfolding tree_of
leading_read t rest p =
    rw (take-append_seam (preorder t) rest) (ap first_tree (rw (append-nil (preorder t)) at (forest_preorder t [] p)))

pub read_back : (t : Tree) → Proper t → document_tree (preorder t) ≡ t
unfolding document_tree
read_back t p = rw (append-nil (preorder t)) at (leading_read t [] p)

-- each number is below S
abbrev pub AllBelow : ℕ → List ℕ → Type 0
AllBelow S xs = (i : ℕ) → i < length xs → get_or xs i 0 < S

below_cons : (S x : ℕ) (xs : List ℕ) → x < S → AllBelow S xs → AllBelow S (x ∷ xs)
below_cons S x xs h below zero l = h
below_cons S x xs h below (suc i) l = below i (omega arith)

-- and conversely: `due` trees over S are read, and their numbers are all of xs
pub record Reads (S due : ℕ) (xs : List ℕ) : Type 0 where
  pub count : length (forest xs) ≡ due
  pub numbers : preorders (forest xs) ≡ xs
  pub over : All (Over S) (forest xs)
  pub below : AllBelow S xs

reads_none : (S : ℕ) → Reads S 0 []
unfolding forest preorders
reads_none S = record { count = refl; numbers = refl; over = tt; below = λ i l. absurd (not-suc-le-zero l) }

reads_leaf : (S due : ℕ) (xs : List ℕ) → 0 < S → Reads S due xs → Reads S (suc due) (0 ∷ xs)
unfolding forest joined preorders preorder
reads_leaf S due xs h r = record {
  count = ap suc r.count;
  numbers = ap (λ (ys : List ℕ). 0 ∷ ys) r.numbers;
  over = (tt, r.over);
  below = below_cons S 0 xs h r.below;
}

reads_inner : (S due s : ℕ) (xs : List ℕ) → suc s < S → Reads S (suc (suc due)) xs → Reads S (suc due) (suc s ∷ xs)
unfolding forest joined preorders preorder
reads_inner S due s xs h r = go (forest xs) refl r.count r.numbers r.over
  where
    go : (ts : List Tree) → forest xs ≡ ts → length ts ≡ suc (suc due) → preorders ts ≡ xs → All (Over S) ts → Reads S (suc due) (suc s ∷ xs)
    go [] e n p o = absurd (omega arith)
    go (t ∷ []) e n p o = absurd (omega arith)
    go (t ∷ u ∷ ts) e n p o = record {
      count = rw e (omega arith);
      numbers = rw e (ap (λ (ys : List ℕ). suc s ∷ ys) (append_assoc (preorder t) (preorder u) (preorders ts) ∙ p));
      over = rw e ((omega arith, h, o.0, o.1.0), o.1.1);
      below = below_cons S (suc s) xs h r.below;
    }

-- the numbers that are taken where the trees due end at the place n
pub record Taken (S due at n : ℕ) (xs : List ℕ) : Type 0 where
  pub taken : ℕ
  pub place : n ≡ at + taken
  pub within : taken ≤ length xs
  pub reads : Reads S due (take taken xs)

-- a number that is no symbol ends no tree
leading_below : (S at due n x : ℕ) (xs : List ℕ) → leading_from S (suc due) at (x ∷ xs) ≡ ends n → x < S
leading_below S at due n x xs e = go (leb S x) refl
  where
    go : (b : Bool) → leb S x ≡ b → x < S
    go true q =
        absurd (faulty_not_ends at n (sym (leading_fault S at (suc due) (omega arith) x xs (leb-true S x q)) ∙ e))
    go false q = leb-false S x q

taken_none : (S at n : ℕ) (xs : List ℕ) → leading_from S 0 at xs ≡ ends n → Taken S 0 at n xs
taken_none S at n xs e =
    let d : ends at ≡ ends n = sym (leading_done S at xs) ∙ e in
    let p : at ≡ n = cc in
    record { taken = 0; place = omega arith; within = omega arith; reads = reads_none S }

taken : (S : ℕ) (xs : List ℕ) (due at n : ℕ) → leading_from S due at xs ≡ ends n → Taken S due at n xs
taken S [] zero at n e = taken_none S at n [] e
taken S [] (suc due) at n e = absurd (faulty_not_ends at n (sym (leading_short S at (suc due) (omega arith)) ∙ e))
taken S (x ∷ xs) zero at n e = taken_none S at n (x ∷ xs) e
taken S (zero ∷ xs) (suc due) at n e =
    let h = leading_below S at due n 0 xs e in
    let k = taken S xs due (suc at) n (sym (leading_leaf S at due xs h) ∙ e) in
    record { taken = suc k.taken; place = omega arith; within = omega arith; reads = reads_leaf S due (take k.taken xs) h k.reads }
taken S (suc s ∷ xs) (suc due) at n e =
    let h = leading_below S at due n (suc s) xs e in
    let k = taken S xs (suc (suc due)) (suc at) n (sym (leading_inner S at due s xs h) ∙ e) in
    record { taken = suc k.taken; place = omega arith; within = omega arith; reads = reads_inner S due s (take k.taken xs) h k.reads }

-- the tree that a stretch of numbers begins with, of its first n numbers
pub record LeadingTree (S n : ℕ) (xs : List ℕ) : Type 0 where
  pub within : n ≤ length xs
  pub over : Over S (tree_of n xs)
  pub numbers : preorder (tree_of n xs) ≡ take n xs

one_tree : (S n : ℕ) (xs : List ℕ) → n ≤ length xs → Reads S 1 (take n xs) → LeadingTree S n xs
unfolding preorders tree_of
one_tree S n xs h r = go (forest (take n xs)) refl r.count r.numbers r.over
  where
    go : (ts : List Tree) → forest (take n xs) ≡ ts → length ts ≡ 1 → preorders ts ≡ take n xs → All (Over S) ts → LeadingTree S n xs
    go [] e c p o = absurd (omega arith)
    go (t ∷ []) e c p o = record { within = h; over = rw e o.0; numbers = rw e (sym (append-nil (preorder t)) ∙ p) }
    go (t ∷ u ∷ ts) e c p o = absurd (omega arith)

pub leading_reads : (S n : ℕ) (xs : List ℕ) → leading S xs ≡ ends n → (n ≤ length xs) × Reads S 1 (take n xs)
unfolding leading
leading_reads S n xs e =
    let k = taken S xs 1 0 n e in
    let p : n ≡ k.taken = omega arith in
    (omega arith, rw p k.reads)

-- a stretch that has no fault begins with a tree over S
pub leading_ends : (S n : ℕ) (xs : List ℕ) → leading S xs ≡ ends n → LeadingTree S n xs
leading_ends S n xs e = let r = leading_reads S n xs e in one_tree S n xs r.0 r.1

-- Documents

-- the numbers are those of the trees that are read, with none left over; then so are the numbers behind each place
abbrev pub Readable : List ℕ → Type 0
Readable xs = preorders (forest xs) ≡ xs

readable_tail : (x : ℕ) (xs : List ℕ) → Readable (x ∷ xs) → Readable xs
unfolding forest joined preorders preorder
readable_tail x xs e = go x (forest xs) refl e
  where
    go : (y : ℕ) (ts : List Tree) → forest xs ≡ ts → preorders (joined y (forest xs)) ≡ y ∷ xs → preorders (forest xs) ≡ xs
    go zero ts f p = cc
    go (suc s) [] f p = absurd (omega (arith, ap length (rw f at p)))
    go (suc s) (t ∷ []) f p = absurd (omega (arith, ap length (rw f at p)))
    go (suc s) (t ∷ u ∷ ts) f p =
        let q : suc s ∷ ((preorder t ++ preorder u) ++ preorders ts) ≡ suc s ∷ xs = rw f at p in
        rw f (sym (append_assoc (preorder t) (preorder u) (preorders ts)) ∙ (cc))

pub readable_drop : (i : ℕ) (xs : List ℕ) → Readable xs → Readable (drop i xs)
readable_drop zero xs e = e
readable_drop (suc i) [] e = e
readable_drop (suc i) (x ∷ xs) e = readable_drop i xs (readable_tail x xs e)

-- the tree whose numbers start at place i, and the place after it
abbrev pub tree_from : List ℕ → ℕ → Tree
tree_from xs i = first_tree (forest (drop i xs))

abbrev pub end_from : List ℕ → ℕ → ℕ
end_from xs i = i + length (preorder (tree_from xs i))

-- a place i whose symbol is not 0: its left child stands at the next place, its right child where the left one ends
pub record InnerPlace (xs : List ℕ) (i next : ℕ) : Type 0 where
  pub left : next < length xs
  pub right : end_from xs next < length xs
  pub tree : tree_from xs i ≡ node (get_or xs i 0) (tree_from xs next) (tree_from xs (end_from xs next))
  pub end : end_from xs i ≡ end_from xs (end_from xs next)

-- the children's trees are lower
pub inner_heights : (xs : List ℕ) (i next : ℕ) → InnerPlace xs i next
    → (height (tree_from xs next) < height (tree_from xs i)) × (height (tree_from xs (end_from xs next)) < height (tree_from xs i))
inner_heights xs i next p = let e = ap height p.tree in (omega arith, omega arith)

-- at a place of symbol 0 stands the empty forest
pub leaf_place : (xs : List ℕ) (i : ℕ) → i < length xs → get_or xs i 0 ≡ 0 → tree_from xs i ≡ empty
unfolding forest joined
leaf_place xs i h e = rw (drop-cons xs i 0 h, e)

pub leaf_end : (xs : List ℕ) (i : ℕ) → i < length xs → get_or xs i 0 ≡ 0 → end_from xs i ≡ i + 1
unfolding preorder
leaf_end xs i h e = ap (λ t. i + length (preorder t)) (leaf_place xs i h e)

module _ (xs : List ℕ) (readable : Readable xs) where
  -- where a tree starts, the trees behind it are those that are read behind its end
  forest_split : (i : ℕ) (t : Tree) (ts : List Tree) → forest (drop i xs) ≡ t ∷ ts
      → (end_from xs i ≤ length xs) × (forest (drop (end_from xs i) xs) ≡ ts)
  unfolding preorders
  forest_split i t ts e =
      let r : preorder t ++ preorders ts ≡ drop i xs = rw e at (readable_drop i xs readable) in
      let p : (Proper t) × All Proper ts = rw e at (forest_proper (drop i xs)) in
      let n : length (preorder t) + length (preorders ts) ≡ length xs - i = sym (length-append (preorder t) (preorders ts)) ∙ ap length r ∙ length-drop i xs in
      rw e (
        omega (arith, some_number t),
        ap forest (sym (drop-drop (length (preorder t)) i xs) ∙ ap (λ (l : List ℕ). drop (length (preorder t)) l) (sym r) ∙ drop-append_seam (preorder t) (preorders ts))
            ∙ forest_preorders ts p.1,
      )

  -- at each place a tree starts
  some_tree : (i : ℕ) → i < length xs → forest (drop i xs) ≡ [] → ⊥
  unfolding preorders
  some_tree i h e = omega (arith, ap length (rw e at (readable_drop i xs readable)), length-drop i xs)

  -- and ends within the numbers
  pub end_within : (i : ℕ) → i < length xs → end_from xs i ≤ length xs
  end_within i h = go (forest (drop i xs)) refl
    where
      go : (ts : List Tree) → forest (drop i xs) ≡ ts → end_from xs i ≤ length xs
      go [] e = absurd (some_tree i h e)
      go (t ∷ ts) e = (forest_split i t ts e).0

  -- the tree at a place is the same, whatever stands behind the numbers
  pub tree_followed : (rest : List ℕ) (i : ℕ) → i < length xs → tree_from (xs ++ rest) i ≡ tree_from xs i
  unfolding preorders
  tree_followed rest i h = go (forest (drop i xs)) refl
    where
      go : (ts : List Tree) → forest (drop i xs) ≡ ts → tree_from (xs ++ rest) i ≡ tree_from xs i
      go [] e = absurd (some_tree i h e)
      go (t ∷ ts) e =
          let r : preorder t ++ preorders ts ≡ drop i xs = rw e at (readable_drop i xs readable) in
          let p : (Proper t) × All Proper ts = rw e at (forest_proper (drop i xs)) in
          let d : drop i (xs ++ rest) ≡ preorder t ++ (preorders ts ++ rest) =
          drop-append-le i xs rest (omega arith) ∙ ap (λ (l : List ℕ). l ++ rest) (sym r) ∙ append_assoc (preorder t) (preorders ts) rest in
          ap first_tree (ap forest d ∙ forest_preorder t (preorders ts ++ rest) p.0) ∙ sym (ap first_tree e)

  pub inner_place : (i : ℕ) → i < length xs → 1 ≤ get_or xs i 0 → InnerPlace xs i (i + 1)
  unfolding forest joined preorder
  inner_place i h more = rw (add-one i) (go (get_or xs i 0) refl (forest (drop (suc i) xs)) refl)
    where
      here : forest (drop i xs) ≡ joined (get_or xs i 0) (forest (drop (suc i) xs))
      here = ap forest (drop-cons xs i 0 h)

      go : (x : ℕ) → get_or xs i 0 ≡ x → (ts : List Tree) → forest (drop (suc i) xs) ≡ ts → InnerPlace xs i (suc i)
      go zero e ts f = absurd (omega arith)
      go (suc s) e [] f = absurd (some_tree i h (here ∙ rw (e, f)))
      go (suc s) e (l ∷ []) f = absurd (some_tree i h (here ∙ rw (e, f)))
      go (suc s) e (l ∷ r ∷ ts) f =
          let w = forest_split (suc i) l (r ∷ ts) f in
          let v = forest_split (end_from xs (suc i)) r ts w.1 in
          let a : tree_from xs (suc i) ≡ l = ap first_tree f in
          let b : tree_from xs (end_from xs (suc i)) ≡ r = ap first_tree w.1 in
          let g : forest (drop i xs) ≡ node (suc s) l r ∷ ts = here ∙ rw (e, f) in
          let t : tree_from xs i ≡ node (suc s) l r = ap first_tree g in
          let n = ap (λ u. length (preorder u)) t ∙ numbers_node (suc s) l r in
          let length_left = ap (λ u. length (preorder u)) a in
          let length_right = ap (λ u. length (preorder u)) b in
          record {
            left = omega (arith, some_number l, w.0);
            right = omega (arith, some_number r, v.0);
            tree = cc;
            end = omega arith;
          }

-- the tree of a document is the one at place 0
pub document-tree : (xs : List ℕ) → document_tree xs ≡ tree_from xs 0
unfolding document_tree tree_of
document-tree xs = rw (take-length xs)

-- what is known of a document that has no fault
pub record Document (S : ℕ) (xs : List ℕ) : Type 0 where
  pub few : length xs ≤ most_numbers
  pub whole : leading S xs ≡ ends (length xs)
  pub readable : Readable xs
  pub below : AllBelow S xs
  pub over : Over S (document_tree xs)
  pub numbers : preorder (document_tree xs) ≡ xs

whole_document : (S : ℕ) (xs : List ℕ) → length xs ≤ most_numbers → leading S xs ≡ ends (length xs) → Document S xs
unfolding document_tree
whole_document S xs h e =
    let t = leading_ends S (length xs) xs e in
    let r : Reads S 1 xs = rw (take-length xs) at (leading_reads S (length xs) xs e).1 in
    record {
      few = h;
      whole = e;
      readable = r.numbers;
      below = r.below;
      over = t.over;
      numbers = t.numbers ∙ take-length xs;
    }

-- Reading the leading tree of what is handed in

leading_some : (S n : ℕ) (xs : List ℕ) → leading S xs ≡ ends n → 1 ≤ S
leading_some S n xs e =
    let t = leading_ends S n xs e in
    omega (arith, (leading_reads S n xs e).1.below 0 (omega (arith, ap length t.numbers, some_number (tree_of n xs))))

-- the numbers that a leading tree takes are a document
leading_document : (S n : ℕ) (xs : List ℕ) → n ≤ most_numbers → leading S xs ≡ ends n → Document S (take n xs)
leading_document S n xs few e =
    let t = leading_ends S n xs e in
    whole_document S (take n xs) (omega (arith, length-take n xs))
    (subst (λ (ys : List ℕ). leading S ys ≡ ends (length ys)) t.numbers (leading_whole S (tree_of n xs) (leading_some S n xs e) t.over))

-- the first n of the numbers handed in are a document
pub record Leads (S n : ℕ) (xs : List ℕ) : Type 0 where
  pub within : n ≤ length xs
  pub document : Document S (take n xs)

reading_leads : (S n : ℕ) (xs : List ℕ) → reading S xs ≡ ends n → Leads S n xs
unfolding reading
reading_leads S n xs e =
    let within : n ≤ length (take most_numbers xs) = (leading_ends S n (take most_numbers xs) e).within in
    let few : n ≤ most_numbers = omega (arith, length-take most_numbers xs) in
    record {
      within = omega (arith, length-take most_numbers xs);
      document = rw (take-take n most_numbers xs few) at (leading_document S n (take most_numbers xs) few e);
    }

pub ends_taken : (S n : ℕ) (xs : List ℕ) → reading S xs ≡ ends n → numbers_taken S xs ≡ n
unfolding numbers_taken
ends_taken S n xs e = ap taken_by_leading e

-- where nothing is refused, the leading tree ends
fine_ends : (S : ℕ) (xs : List ℕ) → leading_verdict S xs ≡ fine → reading S xs ≡ ends (numbers_taken S xs)
unfolding leading_verdict fault_of
fine_ends S xs e = go (reading S xs) refl (then_fine _ _ e).1
  where
    go : (l : Leading) → reading S xs ≡ l → fault_of l ≡ fine → reading S xs ≡ ends (numbers_taken S xs)
    go (ends n) r f = r ∙ ap ends (sym (ends_taken S n xs r))
    go (faulty at) r f = absurd (refused_not_fine 12 _ f)

pub ends_fine : (S n : ℕ) (xs : List ℕ) → reading S xs ≡ ends n → leading_verdict S xs ≡ fine
unfolding leading_verdict endless fault_of ◌then◌ refuse_if
ends_fine S n xs e = rw e

pub leading_fine : (S : ℕ) (xs : List ℕ) → leading_verdict S xs ≡ fine → Leads S (numbers_taken S xs) xs
leading_fine S xs e = reading_leads S (numbers_taken S xs) xs (fine_ends S xs e)

-- a document is read, whatever stands behind it
pub reading_followed : (S : ℕ) (t : Tree) (rest : List ℕ) → 1 ≤ S → Over S t → length (preorder t) ≤ most_numbers
    → reading S (preorder t ++ rest) ≡ ends (length (preorder t))
unfolding reading
reading_followed S t rest some over few =
    let room : ℕ = most_numbers - length (preorder t) in
    let all : length (preorder t) + room ≡ most_numbers = omega arith in
    let front : take most_numbers (preorder t ++ rest) ≡ preorder t ++ take room rest =
    ap (λ (n : ℕ). take n (preorder t ++ rest)) (sym all) ∙ take-append-add (preorder t) rest room in
    ap (leading S) front ∙ leading-tree S t (take room rest) some over

pub leading_tree_followed : (S : ℕ) (t : Tree) (rest : List ℕ) → 1 ≤ S → Over S t → length (preorder t) ≤ most_numbers
    → leading_tree S (preorder t ++ rest) ≡ t
unfolding leading_tree
leading_tree_followed S t rest some over few =
    ap (λ (n : ℕ). document_tree (take n (preorder t ++ rest))) (ends_taken S _ _ (reading_followed S t rest some over few))
    ∙ ap document_tree (take-append_seam (preorder t) rest)
    ∙ read_back t (over_proper S t over)
