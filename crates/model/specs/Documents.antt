-- Documents: the tree that a stretch of numbers begins with, how many numbers it takes, and the fault where there is none. What is
-- read of numbers that go on behind the tree is change request W-205's.
use Rattle.std.specs.Prelude.{Bool, false, ◌&&◌, List, [], ◌∷◌, ◌++◌, ℕ, zero, suc, ◌+◌, ◌-◌, leb, eqb, ltb, length, take}
use Rattle.foundation.specs.Tests.{choose}
use Rattle.model.specs.Trees.{Tree, empty, node, preorder}
use Rattle.model.specs.Answers.{Verdict, fine, refused, refuse_if, ◌then◌}

-- "A document is its symbols in preorder, 1 to 1,023 numbers."
abbrev pub most_numbers : ℕ
most_numbers = 1023

-- one more number in front of the trees that follow it: symbol 0 is a tree, another takes the two next ones
unfoldable pub joined : ℕ → List Tree → List Tree
joined zero ts = empty ∷ ts
joined (suc s) [] = []
joined (suc s) (l ∷ []) = []
joined (suc s) (l ∷ r ∷ ts) = node (suc s) l r ∷ ts

-- the trees whose numbers stand one behind another, from the last number to the first
unfoldable pub forest : List ℕ → List Tree
forest [] = []
forest (x ∷ xs) = joined x (forest xs)

-- each tree has the property
abbrev pub All : (Tree → Type 0) → List Tree → Type 0
All P [] = Unit {0}
All P (t ∷ ts) = P t × All P ts

-- the numbers of trees laid end to end
unfoldable pub preorders : List Tree → List ℕ
preorders [] = []
preorders (t ∷ ts) = preorder t ++ preorders ts

abbrev pub first_tree : List Tree → Tree
first_tree [] = empty
first_tree (t ∷ ts) = t

-- how a stretch of numbers begins: with a tree of so many numbers, or with a fault at that place
pub data Leading : Type 0 where
  ends : ℕ → Leading
  faulty : ℕ → Leading

-- the rest of a stretch, from the place `at` on, where `due` trees are still to come: "the first number not below S
-- .. or the length if the tree has not ended"
unfoldable pub leading_from : ℕ → ℕ → ℕ → List ℕ → Leading
leading_from S due at [] = choose (eqb due 0) (ends at) (faulty at)
leading_from S due at (x ∷ xs) =
    choose (eqb due 0) (ends at) (choose (leb S x) (faulty at) (leading_from S (choose (eqb x 0) (due - 1) (due + 1)) (suc at) xs))

-- one tree is to come
unfoldable pub leading : ℕ → List ℕ → Leading
leading S xs = leading_from S 1 0 xs

-- the tree of the first n numbers
unfoldable pub tree_of : ℕ → List ℕ → Tree
tree_of n xs = first_tree (forest (take n xs))

-- the tree of a document that has no fault
unfoldable pub document_tree : List ℕ → Tree
document_tree xs = tree_of (length xs) xs

-- "Judging and running use the leading tree": how the numbers handed in begin, by "the first 1,023 numbers" alone
unfoldable pub reading : ℕ → List ℕ → Leading
reading S xs = leading S (take most_numbers xs)

abbrev pub taken_by_leading : Leading → ℕ
taken_by_leading (ends n) = n
taken_by_leading (faulty at) = 0

-- "how many numbers it took"
unfoldable pub numbers_taken : ℕ → List ℕ → ℕ
numbers_taken S xs = taken_by_leading (reading S xs)

unfoldable pub leading_tree : ℕ → List ℕ → Tree
leading_tree S xs = document_tree (take (numbers_taken S xs) xs)

-- of n numbers, "the first 1,023 numbers hold neither a fault nor the end of the tree and more follow"
unfoldable pub endless : ℕ → Leading → Bool
endless n (ends at) = false
endless n (faulty at) = eqb at most_numbers && ltb most_numbers n

-- "12, the first number not below S .. or the length if the tree has not ended"; "12 is no longer given there for numbers after the tree"
unfoldable pub fault_of : Leading → Verdict
fault_of (ends at) = fine
fault_of (faulty at) = refused 12 at

-- of n numbers that begin so: "11 is given exactly if ..", with document 01's place (the length); 12, ..
abbrev pub verdict_on : ℕ → Leading → Verdict
verdict_on n leading = refuse_if (endless n leading) 11 n then fault_of leading

unfoldable pub leading_verdict : ℕ → List ℕ → Verdict
leading_verdict S xs = verdict_on (length xs) (reading S xs)

-- a document and nothing else: the leading tree takes all. "11, over 1,023 numbers (the length); 12, the first number not below S or
-- after the tree has ended, or the length if the tree has not ended"
unfoldable pub whole_verdict : ℕ → List ℕ → Verdict
whole_verdict S xs =
    refuse_if (ltb most_numbers (length xs)) 11 (length xs)
    then fault_of (reading S xs)
    then refuse_if (ltb (numbers_taken S xs) (length xs)) 12 (numbers_taken S xs)
