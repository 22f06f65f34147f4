-- The shorter of two examples, change request W-207: which stretch of two buffers comes back and what is refused, and as statements
-- what that means. proofs/Meaning/Shorter.antt proves them.
use Rattle.std.specs.Prelude.{◌≡◌, List, ◌∷◌, ◌++◌, ◌↔◌, ℕ, ◌≤◌, eqb, ltb, take}
use Rattle.foundation.specs.Tests.{choose}
use Rattle.model.specs.Trees.{Tree, preorder}
use Rattle.model.specs.Answers.{Verdict, fine, refused, refuse_if, ◌then◌, given}
use Rattle.model.specs.Admission.{outside}
use Rattle.model.specs.Documents.{numbers_taken, leading_verdict}
use Rattle.model.specs.Refusals.{Reason, RefusesFor, only, LeadingDocument, HasDocument, document_reasons, leading_reasons}

-- "two buffers, each meant to start with a tree"
pub data Buffer : Type 0 where
  first : Buffer
  second : Buffer

abbrev pub other : Buffer → Buffer
other first = second
other second = first

-- of two things, the first buffer's and the second's, the one of this buffer
abbrev pub pick : {A : Type 0} → Buffer → A → A → A
pick first a b = a
pick second a b = b

-- a stretch of one of the two buffers: it starts where the buffer does, and has so many numbers
pub record Stretch : Type 0 where
  pub buffer : Buffer
  pub count : ℕ

abbrev pub in_first : ℕ → Stretch
in_first n = record { buffer = first; count = n }

abbrev pub in_second : ℕ → Stretch
in_second n = record { buffer = second; count = n }

-- what stands in it
abbrev pub numbers_of : Stretch → (xs ys : List ℕ) → List ℕ
numbers_of s xs ys = take s.count (pick s.buffer xs ys)

-- "the same for the second as 54 and 55": 54 for 11, 55 for 12
abbrev pub second_number : ℕ → ℕ
second_number number = choose (eqb number 11) 54 55

unfoldable pub of_second : Verdict → Verdict
of_second fine = fine
of_second (refused number place) = refused (second_number number) place

-- "1 a symbol count out of range (place 0), 11 and 12 as in W-205 for the first buffer, then the same for the second as 54 and 55"
unfoldable pub shorter_verdict : ℕ → (xs ys : List ℕ) → Verdict
shorter_verdict S xs ys = refuse_if (outside 1 16 S) 1 0 then leading_verdict S xs then of_second (leading_verdict S ys)

-- of a tree of n numbers in the first buffer and one of m in the second: "the one with fewer numbers", "on a tie, the first buffer's"
unfoldable pub fewer : (n m : ℕ) → Stretch
fewer n m = choose (ltb m n) (in_second m) (in_first n)

-- "the empty stretch at the first buffer's start"
abbrev pub empty_stretch : Stretch
empty_stretch = in_first 0

-- "hand back the very stretch of whichever buffer holds the shorter tree"; "a refusal hands back the empty stretch .."
unfoldable pub shorter : ℕ → (xs ys : List ℕ) → Stretch
shorter S xs ys = given (shorter_verdict S xs ys) (λ number place. empty_stretch) (fewer (numbers_taken S xs) (numbers_taken S ys))

-- "Symbols S, 1 to 16"
abbrev pub SymbolsInRange : ℕ → Type 0
SymbolsInRange S = (1 ≤ S) × (S ≤ 16)

-- the reasons to refuse, in their order
abbrev pub shorter_reasons : ℕ → (xs ys : List ℕ) → List Reason
shorter_reasons S xs ys = only 1 (SymbolsInRange S → ⊥) 0 ∷ (leading_reasons S xs ++ document_reasons 54 55 S ys)

-- the stretch is the tree that its buffer begins with, and the other buffer's tree has no fewer numbers; "on a tie, the first buffer's"
pub record ShorterTree (S : ℕ) (xs ys : List ℕ) (s : Stretch) : Type 0 where
  pub tree : Tree
  pub leads : LeadingDocument S (pick s.buffer xs ys) tree s.count
  pub in_preorder : numbers_of s xs ys ≡ preorder tree
  pub not_longer : (u : Tree) (m : ℕ) → LeadingDocument S (pick (other s.buffer) xs ys) u m → s.count ≤ m
  pub on_tie : (u : Tree) (m : ℕ) → LeadingDocument S (pick (other s.buffer) xs ys) u m → s.count ≡ m → s.buffer ≡ first

-- what the two questions tell: what comes back is empty exactly if something is refused
pub record Compares (S : ℕ) (xs ys : List ℕ) : Type 0 where
  -- "a second question tells its number and place, or none"
  pub refuses : RefusesFor (shorter_reasons S xs ys) (shorter_verdict S xs ys)
  pub passes : (shorter_verdict S xs ys ≡ fine) ↔ (SymbolsInRange S × HasDocument S xs × HasDocument S ys)
  pub hands : shorter_verdict S xs ys ≡ fine → ShorterTree S xs ys (shorter S xs ys)
  pub hands_some : shorter_verdict S xs ys ≡ fine → 1 ≤ (shorter S xs ys).count
  pub hands_nothing : (number place : ℕ) → shorter_verdict S xs ys ≡ refused number place → shorter S xs ys ≡ in_first 0
